-- Demand 3, "stated over demand 2's step": of the states that the rules act on, and of the lent buffers that hold them.
-- The demand itself is `Demand3` in the crate apart, specs/Demand3.antt, and its premise is `Premise` in specs/Reach.antt.
use Rattle.apart.specs.Demand3.{Demand3Buffers, Demand3States}

pub record Isolation : Type 1 where
  pub states : Demand3States
  pub buffers : Demand3Buffers
