use mathlib.Core.Path.{◌∙◌}
use native.Mathlib.Omega.{arith}
use Rattle.journal.proofs.Steps.{none_for, some_for, none_in, some_in, none_short, none_kind, none_left, none_length, none_end, one_here}
use Rattle.journal.proofs.len_at.Goals as goal

pub returns-then-available-lt9 : goal.returns-then-available-lt9
returns-then-available-lt9 c = none_for (none_short c.args.image.now c.args.at (omega arith))

pub returns-in_err-len : goal.returns-in_err-len
returns-in_err-len c =
    let k = none_in _ c.in_err-len.ensures in
    c.from_residual.ensures ∙ none_for (none_kind c.args.image.now c.args.at (cc))

pub returns-then-available-len : goal.returns-then-available-len
returns-then-available-len c =
    let k = some_in _ c.in_ok-len.ensures in
    none_for (none_left c.args.image.now c.args.at c.in_ok-len.len (cc) (omega arith))

pub returns-then-from-len : goal.returns-then-from-len
returns-then-from-len c =
    let k = some_in _ c.in_ok-len.ensures in
    none_for (none_length c.args.image.now c.args.at c.in_ok-len.len (cc) (λ e. c.if-from-len.true (cc)))

pub returns-then-image-at : goal.returns-then-image-at
returns-then-image-at c =
    let k = some_in _ c.in_ok-len.ensures in
    none_for (none_end c.args.image.now c.args.at c.in_ok-len.len (cc) c.if-image-at.true)

pub returns : goal.returns
returns c =
    let k = some_in _ c.in_ok-len.ensures in
    some_for c.in_ok-len.len (one_here c.args.image.now c.args.at c.in_ok-len.len (cc) (omega arith) c.if-image-at.false) k.more
