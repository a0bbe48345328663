-- What the two stores of a MAC write.
use Rattle.std.specs.Prelude.{Ok}
use mathlib.Core.Path.{◌≡◌, sym, ◌∙◌}
use mathlib.Core.Bool.{true, false}
use mathlib.Core.List.{List}
use Prim.Native.Nat.{ℕ, ◌+◌, ◌≤◌}
use native.Mathlib.Omega.{arith}
use borrow.Author.Tests.{le-ltb}
use lib.ListN.{length}
use Rattle.base_big_endian.specs.Meant.{big_endian}
use Rattle.base_big_endian.specs.Laws.{length_big_endian}
use Rattle.base_store.specs.Model.{stored}
use Rattle.base_store.specs.Meant.{room_from, wrote}
use Rattle.base_store.specs.Laws.{then_stored, written}
use Rattle.mac.specs.Meant.{is_mac, mac_bytes, mac_write}
use Rattle.mac.specs.LawsLengths.{write_at}
use Rattle.mac.specs.LawsInverse.{length_mac}

module _ (keyid : ℕ) (body out : List ℕ) (at : ℕ) where
  -- the key id, and the body where it ends
  pub both_stored : {first last : List ℕ} {n : ℕ} → is_mac (4 + length body) ≡ true → 4 + length body ≤ room_from (length out) at
      → n ≡ 4 + length body
      → first ≡ stored out at (big_endian 4 keyid)
      → last ≡ stored first (at + 4) body
      → wrote (Ok n) last ≡ mac_write keyid body out at
  both_stored {first} {last} {n} h k e f g =
      let w = length_big_endian 4 keyid in
      let fits : at + length (big_endian 4 keyid) + length body ≤ length out = omega (arith, w) in
      let next : at + 4 ≡ at + length (big_endian 4 keyid) = omega (arith, w) in
      written out at (mac_bytes keyid body) (e ∙ sym (length_mac keyid body)) (omega (arith, length_mac keyid body))
      (then_stored out at (big_endian 4 keyid) body next fits f g)
      ∙ sym (write_at keyid body out at true false h (le-ltb _ _ k))
