-- The literal is the float 2^-16.
use native.Mathlib.Omega.{arith}
use lib.Dec.{lit≤}
use lib.Ieee.{of_bits, of_int, round}
use Rattle.time_units.specs.Meant.{fraction}
use Rattle.time_units.specs.Laws.{scaled}
use Rattle.time_units.proofs.NtpShort.seconds.Goals as goal

pub returns : goal.returns
unfolding of_bits of_int round fraction
returns c = scaled c.args.self.0 0 16 (omega (arith, c.struct_known-1.given)) (lit≤ tt)
