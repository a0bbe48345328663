-- The literal is the float 2^-1.
use mathlib.Core.Path.{refl}
use lib.Ieee.{of_bits, round}
use Rattle.time_units.specs.Meant.{fraction}
use Rattle.time_reading.specs.Model.{with_distance}
use Rattle.time_reading.proofs.with_distance.Goals as goal

pub returns : goal.returns
unfolding of_bits round fraction with_distance
returns c = refl
