-- `writing::directories::position_words` meets its contract: by cases on the position; what and flags are the two low bytes of a word (`two_words`).
use Rattle.std.proofs.Common.{◌<◌, arith}
use Rattle.writing.specs.Flags.{position_flags}
use Rattle.writing.proofs.Digits.{two_words}
use Rattle.writing.proofs.directories.position_words.Goals as goal

pub overflow_mul-result : goal.overflow_mul-result
overflow_mul-result c =
    let h : position_flags c.args.x < 256 = c.requires in
    omega (arith, rw c.in-Page.is at h)

pub overflow_add-result : goal.overflow_add-result
overflow_add-result c =
    let h : position_flags c.args.x < 256 = c.requires in
    omega (arith, rw c.in-Page.is at h)

pub overflow_mul-result-in-Child : goal.overflow_mul-result-in-Child
overflow_mul-result-in-Child c =
    let h : position_flags c.args.x < 256 = c.requires in
    omega (arith, rw c.in-Child.is at h)

pub overflow_add-result-in-Child : goal.overflow_add-result-in-Child
overflow_add-result-in-Child c =
    let h : position_flags c.args.x < 256 = c.requires in
    omega (arith, rw c.in-Child.is at h)

pub returns-in-Empty : goal.returns-in-Empty
returns-in-Empty c = rw c.in-Empty.is

pub returns-in-Page : goal.returns-in-Page
returns-in-Page c =
    let h : position_flags c.args.x < 256 = c.requires in
    rw c.in-Page.is (two_words 1 _ _ (omega arith) (rw c.in-Page.is at h))

pub returns-in-Child : goal.returns-in-Child
returns-in-Child c =
    let h : position_flags c.args.x < 256 = c.requires in
    rw c.in-Child.is (two_words 2 _ _ (omega arith) (rw c.in-Child.is at h))
