-- Each arm is the clause of `checked_of` for its rule.
use mathlib.Core.Path.{sym, ◌∙◌}
use borrow.Author.Tests.{lt-leb, le-leb}
use Rattle.read_step.specs.Model.{checked_of}
use Rattle.read_step.proofs.check.Goals as goal

pub returns-then-is_ascii : goal.returns-then-is_ascii
unfolding checked_of
returns-then-is_ascii c = rw (c.in-Ascii.is, sym c.is_ascii.ensures ∙ c.if-is_ascii.true)

pub returns-then-len-lt2 : goal.returns-then-len-lt2
unfolding checked_of
returns-then-len-lt2 c = rw (c.in-Offset.is, lt-leb _ _ c.if-len-lt2.true)

pub returns-in-Any : goal.returns-in-Any
unfolding checked_of
returns-in-Any c = rw c.in-Any.is

pub returns-in-Zeros : goal.returns-in-Zeros
unfolding checked_of
returns-in-Zeros c = rw c.in-Zeros.is

pub returns-in-Sealed : goal.returns-in-Sealed
unfolding checked_of
returns-in-Sealed c = rw c.in-Sealed.is

pub returns-else-is_ascii : goal.returns-else-is_ascii
unfolding checked_of
returns-else-is_ascii c = rw (c.in-Ascii.is, sym c.is_ascii.ensures ∙ c.if-is_ascii.false)

pub returns-else-len-lt2 : goal.returns-else-len-lt2
unfolding checked_of
returns-else-len-lt2 c = rw (c.in-Offset.is, le-leb _ _ c.if-len-lt2.false)
