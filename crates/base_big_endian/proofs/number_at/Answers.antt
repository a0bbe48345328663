use native.Mathlib.Omega.{arith}
use Rattle.base_big_endian.specs.Laws.{outside}
use Rattle.base_big_endian.proofs.number_at.Goals as goal

pub returns-then-s-at : goal.returns-then-s-at
returns-then-s-at c = outside c.args.width c.args.s.now c.args.at (omega arith)

pub returns-then-s-at-2 : goal.returns-then-s-at-2
returns-then-s-at-2 c = outside c.args.width c.args.s.now c.args.at (omega arith)
