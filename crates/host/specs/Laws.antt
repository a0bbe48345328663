-- A version that a host named and that was looked up: a known one comes to what it is known for, any other number to the refusal.
use Rattle.std.specs.Prelude.{◌≡◌, ℕ, Option, Some, None}
use Rattle.base_version.specs.declared.Version.{Version}
use Rattle.host.specs.Meant.{version_of, on_version}

module _ {A : Type 0} (number : ℕ) {given : Option Version} (other : A) (known : Version → A) (looked-up : given ≡ version_of number) where
  pub other_version : given ≡ None → on_version (version_of number) other known ≡ other
  other_version h = rw (← looked-up, h)

  pub known_version : {v : Version} → given ≡ Some v → on_version (version_of number) other known ≡ known v
  known_version h = rw (← looked-up, h)
