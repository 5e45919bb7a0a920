-- `judging_endpoints::receive::taken` meets its contract: by what its readers promise.
use Rattle.judging_endpoints.specs.Taken.{taken}
use Rattle.judging_endpoints.proofs.receive.taken.Goals as goal

pub returns : goal.returns
unfolding taken
returns c = rw (c.min-m.ensures, c.most.ensures, c.count_at-waiting.ensures)
