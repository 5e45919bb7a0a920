-- `judging_numbers::callers::caller_slot` meets its contract: each return rewrites with the test that led there.
use borrow.Author.Tests.{le-ltb, lt-ltb}
use Rattle.words.specs.Try.{◌>>◌, need}
use Rattle.judging_numbers.specs.Callers.{caller_slot}
use Rattle.judging_numbers.proofs.callers.caller_slot.Goals as goal

pub returns-then-caller-ge-SLOT_COUNT_U32 : goal.returns-then-caller-ge-SLOT_COUNT_U32
unfolding caller_slot ◌>>◌ need
returns-then-caller-ge-SLOT_COUNT_U32 c = rw (le-ltb _ _ c.if-caller-ge-SLOT_COUNT_U32.true)

pub returns : goal.returns
unfolding caller_slot ◌>>◌ need
returns c = rw (lt-ltb _ _ c.if-caller-ge-SLOT_COUNT_U32.false)
