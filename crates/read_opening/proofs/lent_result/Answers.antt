-- Each return is the case of `result_of` whose tests led there.
use mathlib.Core.Path.{sym}
use native.Mathlib.Omega.{arith}
use Rattle.read_opening.specs.Meant.{lent_in}
use Rattle.read_opening.proofs.Cases.{no_result, unknown, not_opened, misplaced, placed}
use Rattle.read_opening.proofs.lent_result.Goals as goal

pub returns-then-lent-k : goal.returns-then-lent-k
returns-then-lent-k c =
    sym (no_result (lent_in c.args.lent.now) c.args.k (omega arith))

pub returns-then-lent-k-2 : goal.returns-then-lent-k-2
returns-then-lent-k-2 c =
    sym (no_result (lent_in c.args.lent.now) c.args.k (omega arith))

pub returns-then-lent-k-3 : goal.returns-then-lent-k-3
returns-then-lent-k-3 c =
    sym (no_result (lent_in c.args.lent.now) c.args.k (omega arith))

pub returns-then-verdict-gt3 : goal.returns-then-verdict-gt3
returns-then-verdict-gt3 c =
    sym (unknown (lent_in c.args.lent.now) c.args.k (omega arith) c.if-verdict-gt3.true)

pub returns-then-verdict-lt2 : goal.returns-then-verdict-lt2
returns-then-verdict-lt2 c =
    sym (not_opened (lent_in c.args.lent.now) c.args.k (omega arith) c.if-verdict-lt2.true)

pub returns-then-lent-start : goal.returns-then-lent-start
returns-then-lent-start c =
    sym (misplaced (lent_in c.args.lent.now) c.args.k (omega arith) (omega arith) (omega arith) (omega arith))

pub returns-then-lent-start-2 : goal.returns-then-lent-start-2
returns-then-lent-start-2 c =
    sym (misplaced (lent_in c.args.lent.now) c.args.k (omega arith) (omega arith) (omega arith) (omega arith))

pub returns : goal.returns
returns c =
    rw c.cookie_of.ensures (sym (placed (lent_in c.args.lent.now) c.args.k (omega arith) (omega arith) (omega arith) (omega arith)))
