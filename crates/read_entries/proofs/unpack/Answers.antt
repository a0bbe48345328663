use mathlib.Core.Path.{refl}
use Rattle.read_entries.specs.Model.{unpacked}
use Rattle.read_entries.proofs.unpack.Goals as goal

pub returns : goal.returns
unfolding unpacked
returns c = refl
