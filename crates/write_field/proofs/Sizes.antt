-- How large lengths can be.
use Prim.Native.Nat.{ℕ, ◌≤◌, ◌<◌}
use native.Mathlib.Omega.{arith}
use Rattle.base_version.specs.declared.Version.{Version}
use Rattle.base_version.specs.declared.Version.TheVariants.{V4, V5}
use Rattle.write_field.specs.Meant.{most_data, minimum_of, stated_of}
use Rattle.write_field.specs.declared.Place.{Place}
use Rattle.write_field.specs.declared.Place.TheVariants.{Authenticated, Sealed, Untrusted, LastUntrusted}

pub most_small : (v : Version) → most_data v ≤ 65531
most_small V4 = omega arith
most_small V5 = omega arith

pub minimum_small : (v : Version) (p : Place) → minimum_of v p ≤ 28
minimum_small V4 Authenticated = omega arith
minimum_small V4 Sealed = omega arith
minimum_small V4 Untrusted = omega arith
minimum_small V4 LastUntrusted = omega arith
minimum_small V5 Authenticated = omega arith
minimum_small V5 Sealed = omega arith
minimum_small V5 Untrusted = omega arith
minimum_small V5 LastUntrusted = omega arith

pub stated_small : (v : Version) (m d : ℕ) → m ≤ 28 → d ≤ most_data v → stated_of v m d < 65536
stated_small V4 m d h k = omega arith
stated_small V5 m d h k = omega arith
