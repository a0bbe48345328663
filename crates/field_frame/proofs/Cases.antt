-- The cases of `frame_of` and `frame_at`, in the order of their tests.
use mathlib.Core.Path.{◌≡◌}
use mathlib.Core.Bool.{true, false}
use mathlib.Core.List.{List}
use Prim.Native.Nat.{ℕ, ◌+◌, ◌-◌, ◌≤◌, ◌<◌}
use native.Mathlib.Omega.{arith}
use borrow.Author.Tests.{lt-ltb, le-ltb}
use lib.ListN.{length}
use Rattle.base_answers.specs.declared.Refusal.TheVariants.{IncorrectLength}
use Rattle.base_version.specs.declared.Version.{Version}
use Rattle.base_rounding.specs.Meant.{rounded_up}
use Rattle.base_big_endian.specs.Meant.{number_at}
use Rattle.field_frame.specs.Model.{framed, is_allowed, frame_of, frame_at}
use Rattle.std.specs.Prelude.{Err}

module _ (v : Version) (t l left : ℕ) where
  pub under_four : l < 4 → frame_of v t l left ≡ Err IncorrectLength
  unfolding frame_of
  under_four h = rw (lt-ltb _ _ h)

  pub uneven : 4 ≤ l → is_allowed v l ≡ false → frame_of v t l left ≡ Err IncorrectLength
  unfolding frame_of
  uneven h e = rw (le-ltb _ _ h, e)

  pub missing : 4 ≤ l → is_allowed v l ≡ true → left < rounded_up l → frame_of v t l left ≡ Err IncorrectLength
  unfolding frame_of
  missing h e k = rw (le-ltb _ _ h, e, lt-ltb _ _ k)

  pub whole : 4 ≤ l → is_allowed v l ≡ true → rounded_up l ≤ left → frame_of v t l left ≡ framed t (l - 4) (rounded_up l)
  unfolding frame_of
  whole h e k = rw (le-ltb _ _ h, e, le-ltb _ _ k)

module _ (v : Version) (region : List ℕ) (at : ℕ) where
  pub no_header : length region < at + 4 → frame_at v region at ≡ Err IncorrectLength
  unfolding frame_at
  no_header h = rw (lt-ltb (length region - at) 4 (omega arith))

  pub header : at + 4 ≤ length region
      → frame_at v region at ≡ frame_of v (number_at 2 region at) (number_at 2 region (at + 2)) (length region - at)
  unfolding frame_at
  header h = rw (le-ltb (length region - at) 4 (omega arith))
