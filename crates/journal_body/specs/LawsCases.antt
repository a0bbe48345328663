-- The cases of writing a body.
use Rattle.std.specs.Prelude.{◌≡◌, refl, Bool, true, false, List, ℕ, ◌≤◌, ◌<◌, leb, length, Result, Ok, Err}
use Rattle.std.proofs.Common.{sym, ◌∙◌, true≢false}
use borrow.Author.Tests.{leb-true, le-leb, lt-ltb, le-ltb}
use Rattle.base_answers.specs.Meant.{pick}
use Rattle.base_answers.specs.declared.Refusal.{Refusal}
use Rattle.base_answers.specs.declared.Refusal.TheVariants.{NoRoom, CannotBeMade}
use Rattle.base_store.specs.LawsOnly.{not_refused}
use Rattle.base_store.specs.Meant.{refusing, writing, room_from}
use Rattle.journal_body.specs.Meant.{are_bytes, counts_body, body_write}

module _ (body out : List ℕ) (at : ℕ) where
  pub not_bytes : are_bytes body ≡ false → body_write body out at ≡ refusing CannotBeMade out
  unfolding body_write
  not_bytes h = rw h

  module _ (bytes : are_bytes body ≡ true) where
    pub no_room : room_from (length out) at < length body → body_write body out at ≡ refusing NoRoom out
    unfolding body_write
    no_room h = rw (bytes, lt-ltb _ _ h)

    pub all_written : length body ≤ room_from (length out) at → body_write body out at ≡ writing body at out
    unfolding body_write
    all_written h = rw (bytes, le-ltb _ _ h)

-- each of four numbers that fit fits
pub record Small (n a u e : ℕ) : Type 0 where
  pub number : n ≤ 255
  pub authenticated : a ≤ 255
  pub untrusted : u ≤ 255
  pub encrypted : e ≤ 255

module _ (n a u e : ℕ) where
  pub small : are_bytes (counts_body n a u e) ≡ true → Small n a u e
  small h = go (leb n 255) refl (leb a 255) refl (leb u 255) refl (leb e 255) refl
    where
      go : (b : Bool) → leb n 255 ≡ b → (c : Bool) → leb a 255 ≡ c → (d : Bool) → leb u 255 ≡ d → (f : Bool) → leb e 255 ≡ f
          → Small n a u e
      go true i true j true k true l =
          record { number = leb-true _ _ i; authenticated = leb-true _ _ j; untrusted = leb-true _ _ k; encrypted = leb-true _ _ l }
      go true i true j true k false l = absurd (true≢false (sym h ∙ rw (i, j, k, l)))
      go true i true j false k f l = absurd (true≢false (sym h ∙ rw (i, j, k)))
      go true i false j d k f l = absurd (true≢false (sym h ∙ rw (i, j)))
      go false i c j d k f l = absurd (true≢false (sym h ∙ rw i))

  pub are_bytes_law : Small n a u e → are_bytes (counts_body n a u e) ≡ true
  are_bytes_law s = rw (le-leb _ _ s.number, le-leb _ _ s.authenticated, le-leb _ _ s.untrusted, le-leb _ _ s.encrypted)

-- what it tells of a number that it is taken for a byte, or refused as one
pub record IsByte (n m : ℕ) : Type 0 where
  pub same : m ≡ n
  pub fits : n ≤ 255
  pub small : leb n 255 ≡ true

pub record NoByte (n : ℕ) (r : Refusal) : Type 0 where
  pub why : r ≡ CannotBeMade
  pub large : leb n 255 ≡ false

module _ (n : ℕ) where
  pub is_byte : {m : ℕ} → ◌≡◌ {A = Result ℕ Refusal} (Ok m) (pick (leb n 255) (Ok n) (Err CannotBeMade)) → IsByte n m
  is_byte {m} e = go (leb n 255) refl e
    where
      go : (b : Bool) → leb n 255 ≡ b → ◌≡◌ {A = Result ℕ Refusal} (Ok m) (pick b (Ok n) (Err CannotBeMade)) → IsByte n m
      go true q e = record { same = cc; fits = leb-true _ _ q; small = q }
      go false q e = absurd (not_refused m CannotBeMade e)

  pub no_byte : {r : Refusal} → ◌≡◌ {A = Result ℕ Refusal} (Err r) (pick (leb n 255) (Ok n) (Err CannotBeMade)) → NoByte n r
  no_byte {r} e = go (leb n 255) refl e
    where
      go : (b : Bool) → leb n 255 ≡ b → ◌≡◌ {A = Result ℕ Refusal} (Err r) (pick b (Ok n) (Err CannotBeMade)) → NoByte n r
      go true q e = absurd (not_refused n r (sym e))
      go false q e = record { why = cc; large = q }
