use Rattle.std.proofs.Common.{rules, ◌≡◌, Err}
use native.Mathlib.Omega.{arith}
use Rattle.journal.specs.LawsAnswers.{append_refused, append_stored}
use Rattle.journal.proofs.append.Goals as goal

pub returns-in_err-start : goal.returns-in_err-start
returns-in_err-start c =
    let e : c.from_residual.result ≡ Err c.in_err-start.field-0.0 = search rules in
    rw e (append_refused c.args.image.now c.args.kind c.args.body.now c.in_err-start.ensures)

pub returns : goal.returns
returns c = append_stored c.args.image.now c.args.kind c.args.body.now {k = c.loop-index.index} c.in_ok-start.ensures (omega arith) c.loop-index.invariant
