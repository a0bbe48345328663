use mathlib.Core.Path.{◌∙◌}
use native.Mathlib.Omega.{arith}
use Rattle.journal.proofs.Steps.{none_in, some_in, entry_missing, entry_there, one_there}
use Rattle.journal.proofs.entry.Goals as goal

pub returns-in_err-len : goal.returns-in_err-len
returns-in_err-len c =
    c.from_residual.ensures ∙
    entry_missing c.pass-entry_offset.ensures (none_in _ c.in_err-len.ensures)

pub number_at-kind-requires : goal.number_at-kind-requires
number_at-kind-requires c =
    let h = some_in _ c.in_ok-len.ensures in
    let t = one_there c.pass-entry_offset.ensures h.same h.more in
    omega (arith, t.inside, t.shape.least)

pub overflow_sub-result : goal.overflow_sub-result
overflow_sub-result c =
    let h = some_in _ c.in_ok-len.ensures in
    let t = one_there c.pass-entry_offset.ensures h.same h.more in
    omega (arith, t.shape.least)

pub returns : goal.returns
returns c =
    let h = some_in _ c.in_ok-len.ensures in
    let t = one_there c.pass-entry_offset.ensures h.same h.more in
    entry_there c.pass-entry_offset.ensures t c.number_at-kind.ensures
