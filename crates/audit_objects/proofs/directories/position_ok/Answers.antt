-- `audit_objects::directories::position_ok` meets its contract: the tag chooses what is asked, and the two readers tell it.
use Prim.Native.Nat.{◌^◌}
use borrow.Author.Tests.{ne_eqb, lt-ltb}
use borrow.Author.Rules.{rules}
use Rattle.words.specs.Tests.{◌&◌}
use Rattle.state.specs.Read.{position_of, position_from}
use Rattle.rules.specs.WellFormed.{framed, position_ok}
use Rattle.audit_objects.proofs.directories.position_ok.Goals as goal

pub returns-then-is_multiple : goal.returns-then-is_multiple
unfolding position_of position_from position_ok framed ◌&◌
returns-then-is_multiple c =
    rw (
      c.in-1.is,
      ← c.word_in.ensures,
      ← c.is_multiple.ensures,
      c.if-is_multiple.true,
      lt-ltb c.word_in.result (2 ^ 32) (search rules),
    )

pub returns-else-is_multiple : goal.returns-else-is_multiple
unfolding position_of position_from position_ok framed ◌&◌
returns-else-is_multiple c = rw (c.in-1.is, ← c.word_in.ensures, ← c.is_multiple.ensures, c.if-is_multiple.false)

pub returns-then-child_ok : goal.returns-then-child_ok
unfolding position_of position_from position_ok framed ◌&◌
returns-then-child_ok c = rw (c.in-2.is, ← c.child_ok.ensures, c.if-child_ok.true)

pub returns-else-child_ok : goal.returns-else-child_ok
unfolding position_of position_from position_ok framed ◌&◌
returns-else-child_ok c = rw (c.in-2.is, ← c.child_ok.ensures, c.if-child_ok.false)

pub returns-in_default : goal.returns-in_default
unfolding position_of position_from position_ok framed ◌&◌
returns-in_default c = let r = c.in_default.in_default-own.rest in rw (ne_eqb _ _ r.0.1, ne_eqb _ _ r.1)
