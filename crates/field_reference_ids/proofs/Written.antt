-- The three ways in which writing a field ends: it can't be written, there is no room, or it was stored.
use Rattle.std.specs.Prelude.{◌≡◌, Result, Ok, Err}
use mathlib.Core.List.{List}
use Prim.Native.Nat.{ℕ, ◌≤◌, ◌<◌}
use native.Mathlib.Omega.{arith}
use borrow.Author.Tests.{lt-ltb, le-ltb}
use lib.ListN.{length}
use Rattle.base_answers.specs.declared.Refusal.{Refusal}
use Rattle.base_answers.specs.declared.Refusal.TheVariants.{NoRoom}
use Rattle.base_store.specs.Model.{stored}
use Rattle.base_store.specs.Meant.{room_from, wrote}
use Rattle.base_store.specs.Laws.{written}
use Rattle.field_reference_ids.specs.MeantRoom.{write_in_room}

module _ (bytes out : List ℕ) (at : ℕ) {w : Result ℕ Refusal} where
  pub not_written : {r : Refusal} → w ≡ Err r → wrote (Err r) out ≡ write_in_room w bytes out at
  not_written e = rw e

  pub no_room : {n room : ℕ} → w ≡ Ok n → room ≡ room_from (length out) at → room < n
      → wrote (Err NoRoom) out ≡ write_in_room w bytes out at
  no_room e f h = rw (e, ← f, lt-ltb _ _ h)

  pub field_written : {n room : ℕ} {new : List ℕ} → w ≡ Ok n → room ≡ room_from (length out) at → n ≤ room → 4 ≤ n
      → n ≡ length bytes
      → new ≡ stored out at bytes
      → wrote (Ok n) new ≡ write_in_room w bytes out at
  field_written e f h some g s = rw (e, ← f, le-ltb _ _ h) (written out at bytes g (omega arith) s)
