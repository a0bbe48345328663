use Prim.Native.Nat.{◌+◌, ◌-◌}
use mathlib.Core.Path.{◌≡◌}
use lib.ListN.{drop, length-drop}
use native.Mathlib.Omega.{arith}
use Rattle.journal.specs.LawsTorn.{scan_on, scan_end, torn_most}
use Rattle.journal.proofs.torn_from.Goals as goal

pub loop-last-init : goal.loop-last-init
loop-last-init c = omega (arith, torn_most (drop c.args.at c.args.image.now), length-drop c.args.at c.args.image.now)

pub returns-then-image-last : goal.returns-then-image-last
returns-then-image-last c =
    let e : c.loop-last.last - 1 ≡ c.args.at + (c.loop-last.last - c.args.at - 1) = omega arith in
    let z = scan_end c.args.image.now c.args.at (c.loop-last.last - c.args.at) (omega arith) (omega arith) (omega arith) (rw e at c.if-image-last.true) in
    omega arith

pub loop-last-preserved : goal.loop-last-preserved
loop-last-preserved c =
    let e : c.loop-last.last - 1 ≡ c.args.at + (c.loop-last.last - c.args.at - 1) = omega arith in
    let z = scan_on c.args.image.now c.args.at (c.loop-last.last - c.args.at) (omega arith) (omega arith) (rw e at c.if-image-last.false) in
    omega arith
