-- `hex_reading::records::length_fits` meets its contract.
use native.Mathlib.Omega.{arith}
use borrow.Author.Tests.{ne_eqb}
use Rattle.intel_hex.specs.Records.{length_fits}
use Rattle.hex_reading.proofs.records.length_fits.Goals as goal

pub returns-in-0 : goal.returns-in-0
unfolding length_fits
returns-in-0 c = rw c.in-0.is

pub returns-in-1 : goal.returns-in-1
unfolding length_fits
returns-in-1 c = rw c.in-1.is

pub returns-in-4 : goal.returns-in-4
unfolding length_fits
returns-in-4 c = rw c.in-4.is

pub returns-in_default : goal.returns-in_default
unfolding length_fits
returns-in_default c = let t = c.args.t in rw (ne_eqb t 0 (λ e. omega arith), ne_eqb t 1 (λ e. omega arith), ne_eqb t 4 (λ e. omega arith))
