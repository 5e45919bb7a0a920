-- `reading::places::place_of` meets its contract: an entry is its kind and its other words (`place_by_kind`).
use Rattle.reading.proofs.ByKind.{place_by_kind}
use Rattle.reading.proofs.places.place_of.Goals as goal

pub returns-in_err-kind : goal.returns-in_err-kind
returns-in_err-kind c = let a = c.args in
    rw (c.from_residual.ensures, place_by_kind a.p.now a.at, ← c.kind_of.ensures, c.in_err-kind.was)

pub returns : goal.returns
returns c = let a = c.args in
    rw (
      place_by_kind a.p.now a.at,
      ← c.kind_of.ensures,
      c.in_ok-kind.was,
      c.word_at.ensures,
      c.frost_from.ensures,
      c.word_at-2.ensures,
      c.word_at-3.ensures,
      c.origin_from.ensures,
      c.word_at-4.ensures,
    )
