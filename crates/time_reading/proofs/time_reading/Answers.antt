use mathlib.Core.Path.{◌∙◌}
use native.Mathlib.Omega.{arith}
use lib.Dec.{lit≤}
use Rattle.time_reading.specs.LawsExact.{is_reading}
use Rattle.time_reading.proofs.time_reading.Goals as goal

pub returns : goal.returns
returns c =
    c.with_distance.ensures
    ∙ is_reading 28 (lit≤ tt) c.args.root_delay.0 c.args.root_dispersion.0 (omega arith) (omega arith)
    c.seconds-delay_seconds.ensures c.seconds-dispersion_seconds.ensures
