-- `audit_bytes::tables::places_stand` meets its contract: it asks each entry.
use Rattle.std.proofs.Common.{arith, refl, rules, tests, Bool, false, true, ℕ, ◌*◌, ◌≡◌}
use Rattle.std.proofs.lemmas.Iterator.{YieldsList-from_range, cases_from_all}
use Rattle.words.specs.Sizes.{entry_size}
use Rattle.audit_bytes.specs.Stands.{place_stands}
use Rattle.audit_bytes.proofs.Tests.{all_ranged}
use Rattle.audit_bytes.proofs.tables.places_stand.Goals as goal

pub returns : goal.returns
returns c =
    let p : ℕ → Bool = λ i. place_stands c.args.p.now (entry_size * i) in
    all_ranged c.args.n p c.all.result
    (cases_from_all _ _ _ (λ i. p i ≡ true) (λ i. p i ≡ false) c.all.ensures.ran (YieldsList-from_range 0 c.args.n c.args.n refl (omega arith))
    (λ x q k. search (rules, tests)) (λ x q k. search (rules, tests)))
