-- Wrong programs, refuted from the promises of `deserialize`, `body` and `serialize` alone: no answer that meets them is one of these.
use Rattle.std.specs.Prelude.{◌≡◌, refl, true, false, List, [], ℕ, ◌+◌, ◌≤◌, ◌<◌, length, Result, Ok, Err}
use Rattle.std.proofs.Common.{sym, ap, ◌∙◌, arith, le-ltb}
use Rattle.base_answers.specs.declared.Refusal.{Refusal}
use Rattle.base_answers.specs.declared.Refusal.TheVariants.{IncorrectLength, NoRoom, CannotBeMade}
use Rattle.base_big_endian.specs.Meant.{number_at}
use Rattle.base_store.specs.Meant.{Write, room_from, wrote}
use Rattle.base_store.specs.Meant as store
use Rattle.base_store.specs.LawsOnly as only
use Rattle.mac.specs.Meant.{told_of, mac_of, is_mac, mac_read, mac_body, mac_bytes, mac_write}
use Rattle.mac.specs.LawsOnly.{same_answer, not_refused}
use Rattle.mac.specs.LawsLengths.{read_at, write_at}
use Rattle.mac.specs.declared.Mac.{Mac}

module _ (a : Result Mac Refusal) (s : List ℕ) (promise : told_of a ≡ told_of (mac_read s)) where
  pub eight_accepted : length s ≡ 8 → (keyid : ℕ) → a ≡ Ok (mac_of keyid) → ⊥
  eight_accepted e keyid f = not_refused keyid IncorrectLength (sym f ∙ same_answer a (mac_read s) promise ∙ read_at s false (rw e))

  refused_one : is_mac (length s) ≡ true → (r : Refusal) → a ≡ Err r → ⊥
  refused_one e r f = not_refused (number_at 4 s 0) r (sym (read_at s true e) ∙ sym (same_answer a (mac_read s) promise) ∙ f)

  pub four_refused : length s ≡ 4 → (r : Refusal) → a ≡ Err r → ⊥
  four_refused e = refused_one (rw e)

  pub twenty_four_refused : length s ≡ 24 → (r : Refusal) → a ≡ Err r → ⊥
  twenty_four_refused e = refused_one (rw e)

pub body_of_seven : (body s : List ℕ) → body ≡ mac_body s → length s ≡ 7 → 0 < length body → ⊥
unfolding mac_body
body_of_seven body s promise e h =
    let none : mac_body s ≡ [] = rw e in
    omega (arith, ap length (promise ∙ none))

module _ (w : Result ℕ Refusal) (new : List ℕ) (keyid : ℕ) (body out : List ℕ) (at : ℕ) (promise : wrote w new ≡ mac_write keyid body out at) where
  told : (x : Write) → mac_write keyid body out at ≡ x → w ≡ x.answer
  told x e = ap (λ (y : Write). y.answer) (promise ∙ e)

  -- the length of the body held against 4, 20 and 24
  pub body_of_four_written : length body ≡ 4 → (n : ℕ) → w ≡ Ok n → ⊥
  body_of_four_written e n f =
      only.not_refused n CannotBeMade (sym f ∙ told _ (write_at keyid body out at false _ (rw e) refl))

  pub no_body_refused : length body ≡ 0 → 4 ≤ room_from (length out) at → (r : Refusal) → w ≡ Err r → ⊥
  no_body_refused e h r f =
      let fits : 4 + length body ≤ room_from (length out) at = omega arith in
      only.not_refused (length (mac_bytes keyid body)) r
      (sym (told _ (write_at keyid body out at true false (rw e) (le-ltb _ _ fits))) ∙ f)

  -- the room tested before the length
  pub room_first : length body ≡ 2 → w ≡ Err NoRoom → ⊥
  room_first e f =
      let z : ◌≡◌ {A = ℕ} 16 18 =
      ap (λ (x : Result ℕ Refusal). (store.told_of x).number) (sym f ∙ told _ (write_at keyid body out at false _ (rw e) refl)) in
      omega arith
