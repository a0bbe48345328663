-- Request (i): a MAC is read exactly if it has one of three lengths, and written exactly if its body has one of three and there is
-- room for it. Every other length is refused, by 1 for reading and by 18 for writing, whatever the room. A refused write changes
-- nothing.
use Rattle.std.specs.Prelude.{◌≡◌, refl, ◌↔◌, ◌⊎◌, Bool, ◌||◌, List, [], ℕ, ◌+◌, ◌≤◌, ◌<◌, ltb, length, Result, Ok, Err}
use Rattle.std.proofs.Common.{sym, ap, ◌∙◌, inl, inr, true≢false, arith, ne_eqb, eqb-true, ltb-true, ltb-false, lt-ltb, le-ltb}
use Rattle.std.proofs.Math.Bool.{true, false}
use Rattle.base_answers.specs.Meant.{pick}
use Rattle.base_answers.specs.declared.Refusal.{Refusal}
use Rattle.base_answers.specs.declared.Refusal.TheVariants.{IncorrectLength, NoRoom, CannotBeMade}
use Rattle.base_big_endian.specs.Meant.{number_at}
use Rattle.base_store.specs.Meant.{Write, told_of, room_from, refusing, writing}
use Rattle.base_store.specs.LawsOnly as writer
use Rattle.mac.specs.Meant.{mac_of, is_mac, mac_read, mac_body, mac_bytes, mac_write}
use Rattle.mac.specs.LawsOnly as reader

pub is_one : (n : ℕ) → (n ≡ 4) ⊎ (n ≡ 20) ⊎ (n ≡ 24) → is_mac n ≡ true
is_one n (inl e) = rw e
is_one n (inr (inl e)) = rw e
is_one n (inr (inr e)) = rw e

pub is_none : (n : ℕ) → ((n ≡ 4) ⊎ (n ≡ 20) ⊎ (n ≡ 24) → ⊥) → is_mac n ≡ false
is_none n h = rw (ne_eqb n 4 (λ e. h (inl e)), ne_eqb n 20 (λ e. h (inr (inl e))), ne_eqb n 24 (λ e. h (inr (inr e))))

pub one_of : (n : ℕ) → is_mac n ≡ true → (n ≡ 4) ⊎ (n ≡ 20) ⊎ (n ≡ 24)
one_of n = go _ _ _ (eqb-true n 4) (eqb-true n 20) (eqb-true n 24)
  where
    go : (a b c : Bool) → (a ≡ true → n ≡ 4) → (b ≡ true → n ≡ 20) → (c ≡ true → n ≡ 24) → (a || b || c) ≡ true
        → (n ≡ 4) ⊎ (n ≡ 20) ⊎ (n ≡ 24)
    go true b c p q r e = inl (p refl)
    go false true c p q r e = inr (inl (q refl))
    go false false c p q r e = inr (inr (r e))

-- a MAC has a whole key id
pub has_keyid : (n : ℕ) → is_mac n ≡ true → 4 ≤ n
has_keyid n e = go (one_of n e)
  where
    go : (n ≡ 4) ⊎ (n ≡ 20) ⊎ (n ≡ 24) → 4 ≤ n
    go (inl e) = omega arith
    go (inr (inl e)) = omega arith
    go (inr (inr e)) = omega arith

-- with its key id, a body of 0, 16 or 20 bytes has one of them
pub is_body : (n : ℕ) → (n ≡ 0) ⊎ (n ≡ 16) ⊎ (n ≡ 20) → is_mac (4 + n) ≡ true
is_body n (inl e) = rw e
is_body n (inr (inl e)) = rw e
is_body n (inr (inr e)) = rw e

without_keyid : (n : ℕ) → (4 + n ≡ 4) ⊎ (4 + n ≡ 20) ⊎ (4 + n ≡ 24) → (n ≡ 0) ⊎ (n ≡ 16) ⊎ (n ≡ 20)
without_keyid n (inl e) = inl (omega arith)
without_keyid n (inr (inl e)) = inr (inl (omega arith))
without_keyid n (inr (inr e)) = inr (inr (omega arith))

pub body_of : (n : ℕ) → is_mac (4 + n) ≡ true → (n ≡ 0) ⊎ (n ≡ 16) ⊎ (n ≡ 20)
body_of n e = without_keyid n (one_of (4 + n) e)

is_no_body : (n : ℕ) → ((n ≡ 0) ⊎ (n ≡ 16) ⊎ (n ≡ 20) → ⊥) → is_mac (4 + n) ≡ false
is_no_body n h = is_none (4 + n) (λ e. h (without_keyid n e))

module _ (s : List ℕ) where
  -- the two cases of reading
  pub read_at : (b : Bool) → is_mac (length s) ≡ b → mac_read s ≡ pick b (Ok (mac_of (number_at 4 s 0))) (Err IncorrectLength)
  unfolding mac_read
  read_at b e = rw e

  -- accepted exactly when the length is one of the three; the key id is the first four bytes
  pub read_exactly : (keyid : ℕ) → (mac_read s ≡ Ok (mac_of keyid))
      ↔ ((length s ≡ 4) ⊎ (length s ≡ 20) ⊎ (length s ≡ 24)) × (keyid ≡ number_at 4 s 0)
  read_exactly keyid = (found (is_mac (length s)) refl, λ h. read_at true (is_one (length s) h.0) ∙ ap (λ (k : ℕ). Ok (mac_of k)) (sym h.1))
    where
      found : (b : Bool) → is_mac (length s) ≡ b → mac_read s ≡ Ok (mac_of keyid)
          → ((length s ≡ 4) ⊎ (length s ≡ 20) ⊎ (length s ≡ 24)) × (keyid ≡ number_at 4 s 0)
      found true e f = (one_of (length s) e, reader.same_keyid keyid (number_at 4 s 0) (sym f ∙ read_at true e))
      found false e f = absurd (reader.not_refused keyid IncorrectLength (sym f ∙ read_at false e))

  -- every other length is refused with 1
  pub refused_exactly : (mac_read s ≡ Err IncorrectLength) ↔ ((length s ≡ 4) ⊎ (length s ≡ 20) ⊎ (length s ≡ 24) → ⊥)
  refused_exactly = (
    λ e h. reader.not_refused (number_at 4 s 0) IncorrectLength (sym ((read_exactly (number_at 4 s 0)).1 (h, refl)) ∙ e),
    λ h. read_at false (is_none (length s) h),
  )

  -- and has no body
  pub no_body : ((length s ≡ 4) ⊎ (length s ≡ 20) ⊎ (length s ≡ 24) → ⊥) → mac_body s ≡ []
  unfolding mac_body
  no_body h = rw (is_none (length s) h)

abbrev number_told : Write → ℕ
number_told w = (told_of w.answer).number

module _ (keyid : ℕ) (body out : List ℕ) (at : ℕ) where
  -- the cases of writing: 18, then 16, then what was written
  pub write_at : (b c : Bool) → is_mac (4 + length body) ≡ b → ltb (room_from (length out) at) (4 + length body) ≡ c
      → mac_write keyid body out at ≡ pick b (pick c (refusing NoRoom out) (writing (mac_bytes keyid body) at out)) (refusing CannotBeMade out)
  unfolding mac_write
  write_at true c e f = rw (e, f)
  write_at false c e f = rw e

  -- the number tells which of the tests refused
  by_number : (n : ℕ) (P : Type 0) → number_told (mac_write keyid body out at) ≡ n
      → (is_mac (4 + length body) ≡ false → n ≡ 18 → P)
      → (is_mac (4 + length body) ≡ true → room_from (length out) at < 4 + length body → n ≡ 16 → P)
      → (is_mac (4 + length body) ≡ true → 4 + length body ≤ room_from (length out) at → n ≡ 0 → P)
      → P
  by_number n P e f g h = go (is_mac (4 + length body)) (ltb (room_from (length out) at) (4 + length body)) refl refl
    where
      go : (b c : Bool) → is_mac (4 + length body) ≡ b → ltb (room_from (length out) at) (4 + length body) ≡ c → P
      go true true i j = g i (ltb-true _ _ j) (sym e ∙ ap number_told (write_at true true i j))
      go true false i j = h i (ltb-false _ _ j) (sym e ∙ ap number_told (write_at true false i j))
      go false c i j = f i (sym e ∙ ap number_told (write_at false c i j))

  -- a body of every other length is refused with 18, whatever the room
  pub refused_body_exactly : (mac_write keyid body out at ≡ refusing CannotBeMade out)
      ↔ ((length body ≡ 0) ⊎ (length body ≡ 16) ⊎ (length body ≡ 20) → ⊥)
  refused_body_exactly = (
    λ e h. by_number 18 ⊥ (ap number_told e)
        (λ f _. true≢false (sym (is_body (length body) h) ∙ f))
        (λ _ _ z. omega (arith, z))
        (λ _ _ z. omega (arith, z)),
    λ h. write_at false _ (is_no_body (length body) h) refl,
  )

  -- the three bodies are refused with 16 exactly where there is no room
  pub refused_room_exactly : (mac_write keyid body out at ≡ refusing NoRoom out)
      ↔ ((length body ≡ 0) ⊎ (length body ≡ 16) ⊎ (length body ≡ 20)) × (room_from (length out) at < 4 + length body)
  refused_room_exactly = (
    λ e. by_number 16 _ (ap number_told e)
        (λ _ z. absurd (omega (arith, z)))
        (λ f g _. (body_of (length body) f, g))
        (λ _ _ z. absurd (omega (arith, z))),
    λ h. write_at true true (is_body (length body) h.0) (lt-ltb _ _ h.1),
  )

  -- what is accepted has such a body and room for it
  pub accepted_only : (n : ℕ) → (mac_write keyid body out at).answer ≡ Ok n
      → ((length body ≡ 0) ⊎ (length body ≡ 16) ⊎ (length body ≡ 20)) × (4 + length body ≤ room_from (length out) at)
  accepted_only n e =
      by_number 0 _ (ap (λ (a : Result ℕ Refusal). (told_of a).number) e)
      (λ _ z. absurd (omega (arith, z)))
      (λ _ _ z. absurd (omega (arith, z)))
      (λ f g _. (body_of (length body) f, g))

  -- and what has both is written
  pub written_exactly : (mac_write keyid body out at ≡ writing (mac_bytes keyid body) at out)
      ↔ ((length body ≡ 0) ⊎ (length body ≡ 16) ⊎ (length body ≡ 20)) × (4 + length body ≤ room_from (length out) at)
  written_exactly = (
    λ e. accepted_only (length (mac_bytes keyid body)) (ap (λ (w : Write). w.answer) e),
    λ h. write_at true false (is_body (length body) h.0) (le-ltb _ _ h.1),
  )

  -- a refused write leaves the output as it was
  pub refused_unchanged : (r : Refusal) → (mac_write keyid body out at).answer ≡ Err r → (mac_write keyid body out at).output ≡ out
  refused_unchanged r e = go (is_mac (4 + length body)) (ltb (room_from (length out) at) (4 + length body)) refl refl
    where
      go : (b c : Bool) → is_mac (4 + length body) ≡ b → ltb (room_from (length out) at) (4 + length body) ≡ c
          → (mac_write keyid body out at).output ≡ out
      go true true i j = ap (λ (w : Write). w.output) (write_at true true i j)
      go true false i j =
          absurd (writer.not_refused (length (mac_bytes keyid body)) r (sym (ap (λ (w : Write). w.answer) (write_at true false i j)) ∙ e))
      go false c i j = ap (λ (w : Write). w.output) (write_at false c i j)
