-- The parts of a sealed field, each stored where the one before ends, are the field.
use Rattle.std.specs.Prelude.{Result, Ok, Err}
use mathlib.Core.Path.{◌≡◌, refl, sym, ap, ◌∙◌}
use mathlib.Core.Bool.{Bool, true, false}
use mathlib.Core.List.{List, ◌++◌, append-nil, append_assoc}
use Prim.Native.Nat.{ℕ, ◌+◌, ◌-◌, ◌≤◌}
use native.Mathlib.Omega.{arith}
use borrow.Author.Tests.{le-ltb, ltb-false, le-leb}
use lib.ListN.{length, replicate, length-append, length-replicate}
use lib.Dec.{ltb}
use lib.Seq.{length-sets}
use Rattle.base_rounding.specs.Meant.{rounded_up}
use Rattle.base_big_endian.specs.Meant.{big_endian}
use Rattle.base_big_endian.specs.Laws.{length_big_endian}
use Rattle.base_answers.specs.Meant.{pick}
use Rattle.base_answers.specs.declared.Refusal.{Refusal}
use Rattle.base_answers.specs.declared.Refusal.TheVariants.{NoRoom}
use Rattle.base_version.specs.declared.Version.{Version}
use Rattle.base_store.specs.Meant.{overlay, output_end, room_from, wrote}
use Rattle.base_store.specs.Model.{stored}
use Rattle.base_store.specs.Laws.{fitting, then_stored, written}
use Rattle.write_field.specs.declared.Place.TheVariants.{Untrusted, LastUntrusted}
use Rattle.write_field.specs.declared.Plan.{Plan}
use Rattle.write_list.specs.Meant.{Described, plans_from, measure_of, plans_bytes}
use Rattle.write_list.specs.Model.{list_write}
use Rattle.write_list.specs.Model.{laid_from}
use Rattle.write_list.specs.LawsLaid.{laid_whole}
use Rattle.write_list.specs.LawsSizes.{fits_room, list_sized}
use Rattle.write_stage_two.specs.Laws.{padded_length, sealed_length_law}
use Rattle.write_stage_two.specs.Meant.{padded, sealed_length, sealed_bytes, untrusted_plans, after_sealed, stage_two}
use Rattle.write_stage_two.specs.Model.{sealed_measure}

pub padded_stored : (bytes out : List ℕ) (at : ℕ) {z : ℕ} {a b : List ℕ} → z ≡ rounded_up (length bytes) - length bytes
    → at + rounded_up (length bytes) ≤ length out
    → a ≡ stored out at bytes
    → b ≡ stored a (at + length bytes) (replicate z 0)
    → b ≡ stored out at (padded bytes)
padded_stored bytes out at {z} e h f g =
    let n = length-replicate {A = ℕ} z 0 in
    rw (← e) (then_stored out at bytes (replicate z 0) refl (omega arith) f g)

to_the_right : (t l n m x y : List ℕ) → t ++ l ++ n ++ m ++ x ++ y ≡ t ++ (l ++ (n ++ (m ++ (x ++ y))))
to_the_right t l n m x y = simp append_assoc refl

pub sealed_stored : (nonce ciphertext out : List ℕ) (at : ℕ) {size p : ℕ} {a b c d e f : List ℕ} → size ≡ sealed_length nonce ciphertext
    → p ≡ rounded_up (length nonce)
    → at + size ≤ length out
    → a ≡ stored out at (big_endian 2 0x0404)
    → b ≡ stored a (at + 2) (big_endian 2 size)
    → c ≡ stored b (at + 4) (big_endian 2 (length nonce))
    → d ≡ stored c (at + 6) (big_endian 2 (length ciphertext))
    → e ≡ stored d (at + 8) (padded nonce)
    → f ≡ stored e (at + 8 + p) (padded ciphertext)
    → f ≡ stored out at (sealed_bytes nonce ciphertext)
unfolding sealed_bytes
sealed_stored nonce ciphertext out at {size} {p} es ep h ha hb hc hd he hf =
    let t = big_endian 2 0x0404 in
    let l = big_endian 2 size in
    let n = big_endian 2 (length nonce) in
    let m = big_endian 2 (length ciphertext) in
    let tn = length_big_endian 2 0x0404 in
    let ln = length_big_endian 2 size in
    let nn = length_big_endian 2 (length nonce) in
    let mn = length_big_endian 2 (length ciphertext) in
    let pn = padded_length nonce in
    let pc = padded_length ciphertext in
    let l₁ = length-append t l in
    let l₂ = length-append (t ++ l) n in
    let l₃ = length-append (t ++ l ++ n) m in
    let l₄ = length-append (t ++ l ++ n ++ m) (padded nonce) in
    let s₁ = then_stored out at t l (omega arith) (omega arith) ha hb in
    let s₂ = then_stored out at (t ++ l) n (omega arith) (omega arith) s₁ hc in
    let s₃ = then_stored out at (t ++ l ++ n) m (omega arith) (omega arith) s₂ hd in
    let s₄ = then_stored out at (t ++ l ++ n ++ m) (padded nonce) (omega arith) (omega arith) s₃ he in
    let s₅ = then_stored out at (t ++ l ++ n ++ m ++ padded nonce) (padded ciphertext) (omega arith) (omega arith) s₄ hf in
    rw (← es) (s₅ ∙ ap (λ (x : List ℕ). stored out at x) (to_the_right t l n m (padded nonce) (padded ciphertext)))

-- a sealed field that fits, and the untrusted fields after it
module _ (nonce ciphertext : List ℕ) (d : Described) (v : Version) (untrusted : ℕ) (out : List ℕ) (at size room : ℕ)
    (stated : size ≡ sealed_length nonce ciphertext) (is-room : room ≡ room_from (length out) at) (fits : size ≤ room) where
  abbrev plans : List (Result Plan Refusal)
  plans = untrusted_plans d v untrusted

  inside : at + size ≤ length out
  inside = omega arith

  pub others_refused : {r : Refusal} → measure_of plans (room - size) ≡ Err r
      → wrote (Err r) out ≡ after_sealed (sealed_bytes nonce ciphertext) d.bytes plans out at
  unfolding after_sealed
  others_refused e = rw (sealed_length_law nonce ciphertext, ← stated, ← is-room, le-ltb room size fits, e)

  pub total_small : (n : ℕ) → measure_of plans (room - size) ≡ Ok n → size + n ≤ 65535
  total_small n e = omega (arith, fits_room plans (room - size) n e)

  pub alone : {new : List ℕ} → untrusted ≡ 0 → new ≡ stored out at (sealed_bytes nonce ciphertext)
      → wrote (Ok size) new ≡ after_sealed (sealed_bytes nonce ciphertext) d.bytes plans out at
  unfolding after_sealed plans_from measure_of plans_bytes
  alone h f =
      let sealed = sealed_bytes nonce ciphertext in
      let long = sealed_length_law nonce ciphertext in
      rw (h, append-nil sealed, le-ltb (room_from (length out) at) (length sealed) (omega arith))
      (written out at sealed (omega arith) (omega (arith, inside)) f)

  pub others_written : {n : ℕ} {first new : List ℕ} → measure_of plans (room - size) ≡ Ok n
      → first ≡ stored out at (sealed_bytes nonce ciphertext)
      → new ≡ laid_from d.bytes plans first (at + size)
      → wrote (Ok (size + n)) new ≡ after_sealed (sealed_bytes nonce ciphertext) d.bytes plans out at
  unfolding after_sealed stored
  others_written {n} {first} {new} e f g =
      let sealed = sealed_bytes nonce ciphertext in
      let bytes = plans_bytes d.bytes plans in
      let long = sealed_length_law nonce ciphertext in
      let sized : length bytes ≡ n = list_sized d v Untrusted LastUntrusted untrusted 0 (room - size) n e in
      let few = fits_room plans (room - size) n e in
      let same : length first ≡ length out =
      ap (λ (l : List ℕ). length l) (f ∙ fitting out at sealed (omega (arith, inside))) ∙ length-sets out at sealed in
      let left : room - size ≡ room_from (length first) (at + size) = omega arith in
      let laid : new ≡ overlay first (at + size) bytes =
      g ∙ laid_whole d v Untrusted LastUntrusted untrusted 0 first (at + size) n (rw left at e) in
      let room_for_both : at + size + length bytes ≤ length first = omega (arith, inside) in
      let over : new ≡ stored first (at + size) bytes =
      laid ∙ sym (ap (λ (b : Bool). pick b (overlay first (at + size) bytes) first) (le-leb (at + size + length bytes) (length first) room_for_both)) in
      let both : new ≡ stored out at (sealed ++ bytes) =
      then_stored out at sealed bytes (omega arith) (omega arith) f over in
      let count : size + n ≡ length (sealed ++ bytes) = omega (arith, length-append sealed bytes) in
      rw (long, ← stated, ← is-room, le-ltb room size fits, e)
      (written out at (sealed ++ bytes) count (omega (arith, length-append sealed bytes)) both)

-- the size of a sealed field that was measured
pub record Fits (n c room size : ℕ) : Type 0 where
  pub is : size ≡ 8 + rounded_up n + rounded_up c
  pub room_for : size ≤ room

pub size_fits : (n c room : ℕ) {size : ℕ} → sealed_measure n c room ≡ Ok size → Fits n c room size
size_fits n c room {size} e = go (ltb room (8 + rounded_up n + rounded_up c)) refl e
  where
    go : (b : Bool) → ltb room (8 + rounded_up n + rounded_up c) ≡ b
        → pick b (Err NoRoom) (Ok (8 + rounded_up n + rounded_up c)) ≡ Ok size
        → Fits n c room size
    go true f g =
        let z : ◌≡◌ {A = ℕ} 0 1 = cc in
        absurd (omega arith)
    go false f g =
        let s : 8 + rounded_up n + rounded_up c ≡ size = cc in
        record { is = sym s; room_for = omega (arith, ltb-false room (8 + rounded_up n + rounded_up c) f) }

-- the ways in which stage two ends, at a place inside
module _ (d : Described) (v : Version) (nonce ciphertext : List ℕ) (untrusted : ℕ) (out : List ℕ) (at : ℕ) (here : at ≤ output_end (length out)) where
  pub no_seal_law : list_write d.bytes (untrusted_plans d v untrusted) out at ≡ stage_two d v false nonce ciphertext untrusted out at
  unfolding stage_two after_sealed list_write
  no_seal_law =
      let all : room_from (length out) at - 0 ≡ room_from (length out) at = omega arith in
      rw (le-ltb (output_end (length out)) at here, le-ltb (room_from (length out) at) 0 (omega arith), all)

  pub sealed_too : after_sealed (sealed_bytes nonce ciphertext) d.bytes (untrusted_plans d v untrusted) out at
      ≡ stage_two d v true nonce ciphertext untrusted out at
  unfolding stage_two
  sealed_too = rw (le-ltb (output_end (length out)) at here)

  pub no_room_for_it : (room : ℕ) {r : Refusal} → room ≡ room_from (length out) at
      → sealed_measure (length nonce) (length ciphertext) room ≡ Err r
      → wrote (Err r) out ≡ stage_two d v true nonce ciphertext untrusted out at
  unfolding after_sealed
  no_room_for_it room {r} is-room e =
      go (ltb room (8 + rounded_up (length nonce) + rounded_up (length ciphertext))) refl e ∙ sealed_too
    where
      go : (b : Bool) → ltb room (8 + rounded_up (length nonce) + rounded_up (length ciphertext)) ≡ b
          → pick b (Err NoRoom) (Ok (8 + rounded_up (length nonce) + rounded_up (length ciphertext))) ≡ Err r
          → wrote (Err r) out ≡ after_sealed (sealed_bytes nonce ciphertext) d.bytes (untrusted_plans d v untrusted) out at
      go true f g =
          let same : NoRoom ≡ r = cc in
          rw (sealed_length_law nonce ciphertext, ← is-room, f, ← same)
      go false f g =
          let z : ◌≡◌ {A = ℕ} 0 1 = cc in
          absurd (omega arith)
