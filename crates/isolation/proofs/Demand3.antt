-- Demand 3, proved: on states by apart's invariant, and on lent buffers since each call leaves a well-formed state, which the buffer then holds.
use Rattle.apart.proofs.Buffers.{demand3_buffers_from}
use Rattle.apart.proofs.Isolated.{demand3}
use Rattle.apart.specs.Demand3.{Demand3Buffers}
use Rattle.kept.proofs.Kept.{wf_after}
use Rattle.isolation.specs.Isolation.{Isolation}

pub demand3_buffers : Demand3Buffers
demand3_buffers = demand3_buffers_from wf_after

pub isolation : Isolation
isolation = record { states = demand3; buffers = demand3_buffers }
