-- A step by what is left: at most what is left alone, and none is taken; more, and it is the field that is there.
use mathlib.Core.Path.{◌≡◌}
use mathlib.Core.List.{List}
use Prim.Native.Nat.{ℕ, ◌-◌, ◌≤◌, ◌<◌}
use borrow.Author.Tests.{le-leb, lt-leb}
use lib.ListN.{length}
use Rattle.base_version.specs.declared.Version.{Version}
use Rattle.read_step.specs.Model.{field_at, step_at}
use Rattle.read_step.specs.declared.Step.{Step}
use Rattle.read_step.specs.declared.Step.TheVariants.{End}

module _ (v : Version) (cutoff : ℕ) (region : List ℕ) (at : ℕ) where
  pub none_taken : length region - at ≤ cutoff → End ≡ step_at v cutoff region at
  unfolding step_at
  none_taken h = rw (le-leb (length region - at) cutoff h)

  pub one_taken : {s : Step} → cutoff < length region - at → s ≡ field_at v region at → s ≡ step_at v cutoff region at
  unfolding step_at
  one_taken h e = rw (lt-leb (length region - at) cutoff h, e)
