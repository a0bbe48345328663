-- Blocks of 8 in what blocks of 64 leave pass what blocks of 8 pass.
use mathlib.Core.Path.{◌≡◌, ap, ◌∙◌}
use mathlib.Core.Bool.{Bool}
use mathlib.Core.List.{List}
use Prim.Native.Nat.{ℕ, ◌+◌, ◌-◌, ◌≤◌}
use native.Mathlib.Omega.{arith}
use lib.ListN.{length, take, drop}
use Rattle.field_contents.specs.Model.{below, in_blocks, zero_blocks}
use Rattle.field_contents.proofs.Laws.{in_blocks_inside, blocks_inside}
use Rattle.field_contents.proofs.ByOr.{below_one}
use Rattle.field_contents.proofs.Blocks.{all_of, then_eights}
use Rattle.field_contents.proofs.zero_blocks.Goals as goal

-- bytes below 1 are zeros
zeros : (m : List ℕ) → in_blocks (below 1) 8 m ≡ zero_blocks m
unfolding zero_blocks
zeros m = ap (λ (test : ℕ → Bool). in_blocks test 8 m) below_one

-- what blocks of 64 passed is inside, and with the blocks of 8 after it is all that blocks of 8 pass
module _ (m : List ℕ) (p : ℕ) (e : p ≡ in_blocks (below 1) 64 (take (length m - 0) m)) where
  passed : p ≡ in_blocks (below 1) 64 m
  passed = rw (all_of m) at e

  inside : p ≤ length m
  inside = omega (arith, passed, in_blocks_inside (below 1) 64 m)

  sum : p + in_blocks (below 1) 8 (take (length m - p) (drop p m)) ≡ zero_blocks m
  sum = then_eights (below 1) m p passed ∙ zeros m

pub returns-then-len-lt64 : goal.returns-then-len-lt64
returns-then-len-lt64 c = (rw (all_of c.args.message.now) at c.blocks_of.ensures) ∙ zeros c.args.message.now

pub returns-then-passed-len : goal.returns-then-passed-len
returns-then-passed-len c = omega (arith, c.if-passed-len.true, sum c.args.message.now _ c.blocks_of-passed.ensures, blocks_inside c.args.message.now)

pub slice_bounds-blocks_of-count-3 : goal.slice_bounds-blocks_of-count-3
slice_bounds-blocks_of-count-3 c = inside _ _ c.blocks_of-passed.ensures

pub slice_bounds-blocks_of-start-3 : goal.slice_bounds-blocks_of-start-3
slice_bounds-blocks_of-start-3 c = inside _ _ c.blocks_of-passed.ensures

pub overflow_add-result : goal.overflow_add-result
overflow_add-result c = omega (arith, c.blocks_of-2.ensures, sum c.args.message.now _ c.blocks_of-passed.ensures, blocks_inside c.args.message.now)

pub returns : goal.returns
returns c = ap (λ (n : ℕ). c.blocks_of-passed.result + n) c.blocks_of-2.ensures ∙ sum _ _ c.blocks_of-passed.ensures
