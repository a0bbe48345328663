use Rattle.std.proofs.Common.{rules, ◌≡◌, Err}
use native.Mathlib.Omega.{arith}
use Rattle.journal.specs.LawsAnswers.{recover_refused, recover_stored}
use Rattle.journal.proofs.recover.Goals as goal

pub returns-in_err-found : goal.returns-in_err-found
returns-in_err-found c =
    let e : c.from_residual.result ≡ Err c.in_err-found.field-0.0 = search rules in
    rw e (recover_refused c.args.image.now c.in_err-found.ensures)

pub returns : goal.returns
returns c = recover_stored c.args.image.now {k = c.loop-index.index} c.in_ok-found.ensures (omega arith) c.loop-index.invariant
