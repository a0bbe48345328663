use mathlib.Core.Path.{refl}
use Rattle.read_entries.specs.Model.{entry_of}
use Rattle.read_entries.proofs.pack.Goals as goal

pub returns : goal.returns
unfolding entry_of
returns c = refl
