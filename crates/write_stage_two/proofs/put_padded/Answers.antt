use Prim.Native.Nat.{◌-◌}
use native.Mathlib.Omega.{arith}
use lib.ListN.{length}
use Rattle.write_stage_two.proofs.Sealed.{padded_stored}
use Rattle.write_stage_two.proofs.put_padded.Goals as goal

pub returns : goal.returns
returns c =
    padded_stored c.args.bytes.now c.args.out.now c.args.at
    {z = c.next_multiple_of_four.result - length c.args.bytes.now} (omega (arith, c.next_multiple_of_four.ensures))
    c.requires.1 c.copy.ensures c.fill.ensures
