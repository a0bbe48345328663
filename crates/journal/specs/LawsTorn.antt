-- The bytes up to the last that is not blank.
use Rattle.std.specs.Prelude.{◌≡◌, refl, Bool, true, false, List, [], ◌∷◌, ℕ, zero, suc, ◌+◌, ◌-◌, ◌≤◌, ◌<◌, eqb, ltb, length, drop, get_or}
use Rattle.std.proofs.Common.{sym, ◌∙◌, arith, length-drop, get_or-drop}
use borrow.Author.Tests.{eqb-true, eqb-false}
use Rattle.base_answers.specs.Meant.{pick}
use Rattle.journal.specs.Meant.{torn_len_of}

pub beyond : (t : List ℕ) (i : ℕ) → torn_len_of t ≤ i → i < length t → get_or t i 0 ≡ 0xFF
unfolding torn_len_of
beyond [] i h l = absurd (omega arith)
beyond (b ∷ t) i h l = go i h l (λ j. beyond t j) (torn_len_of t) refl (eqb (torn_len_of t) 0) refl (eqb b 0xFF) refl
  where
    go : (i : ℕ) → torn_len_of (b ∷ t) ≤ i → i < length (b ∷ t) → ((j : ℕ) → torn_len_of t ≤ j → j < length t → get_or t j 0 ≡ 0xFF)
        → (w : ℕ) → torn_len_of t ≡ w → (x : Bool) → eqb (torn_len_of t) 0 ≡ x → (y : Bool) → eqb b 0xFF ≡ y → get_or (b ∷ t) i 0 ≡ 0xFF
    go zero h l f w q true e true g = eqb-true _ _ g
    go zero h l f w q true e false g = let z : 1 ≤ 0 = rw (e, g) at h in absurd (omega arith)
    go zero h l f w q false e y g = let z : suc (torn_len_of t) ≤ 0 = rw e at h in absurd (omega arith)
    go (suc i) h l f w q true e y g = let z : torn_len_of t ≡ 0 = eqb-true _ _ e in f i (omega arith) (omega arith)
    go (suc i) h l f w q false e y g = let z : suc (torn_len_of t) ≤ suc i = rw e at h in f i (omega arith) (omega arith)

pub last_torn_len : (t : List ℕ) (m : ℕ) → torn_len_of t ≡ suc m → get_or t m 0 ≡ 0xFF → ⊥
unfolding torn_len_of
last_torn_len [] m h g = absurd (omega arith)
last_torn_len (b ∷ t) m h g = go m h g (λ j. last_torn_len t j) (eqb (torn_len_of t) 0) refl (eqb b 0xFF) refl
  where
    go : (m : ℕ) → torn_len_of (b ∷ t) ≡ suc m → get_or (b ∷ t) m 0 ≡ 0xFF → ((j : ℕ) → torn_len_of t ≡ suc j → get_or t j 0 ≡ 0xFF → ⊥)
        → (x : Bool) → eqb (torn_len_of t) 0 ≡ x → (y : Bool) → eqb b 0xFF ≡ y → ⊥
    go m h g f true e true y = let z : 0 ≡ suc m = rw (e, y) at h in omega arith
    go zero h g f true e false y = eqb-false _ _ y g
    go (suc m) h g f true e false y = let z : 1 ≡ suc (suc m) = rw (e, y) at h in omega arith
    go zero h g f false e y k = let z : suc (torn_len_of t) ≡ 1 = rw e at h in eqb-false (torn_len_of t) 0 e (omega arith)
    go (suc m) h g f false e y k = let z : suc (torn_len_of t) ≡ suc (suc m) = rw e at h in f m (omega arith) g

pub torn_most : (t : List ℕ) → torn_len_of t ≤ length t
unfolding torn_len_of
torn_most [] = omega arith
torn_most (b ∷ t) = go (torn_most t) (eqb (torn_len_of t) 0) (eqb b 0xFF)
  where
    go : torn_len_of t ≤ length t → (x y : Bool) → pick x (pick y 0 1) (suc (torn_len_of t)) ≤ suc (length t)
    go h true true = omega arith
    go h true false = omega arith
    go h false y = omega arith

module _ (s : List ℕ) (at n : ℕ) where
  -- the scan back: one byte more is blank
  pub scan_on : torn_len_of (drop at s) ≤ n → 0 < n → get_or s (at + (n - 1)) 0 ≡ 0xFF → torn_len_of (drop at s) ≤ n - 1
  scan_on h p e = go (torn_len_of (drop at s)) refl
    where
      go : (w : ℕ) → torn_len_of (drop at s) ≡ w → torn_len_of (drop at s) ≤ n - 1
      go w q = go2 (eqb w n) refl
        where
          go2 : (b : Bool) → eqb w n ≡ b → torn_len_of (drop at s) ≤ n - 1
          go2 true x =
              let y : w ≡ n = eqb-true _ _ x in
              let z : torn_len_of (drop at s) ≡ suc (n - 1) = omega arith in
              absurd (last_torn_len (drop at s) (n - 1) z (get_or-drop at s (n - 1) 0 ∙ e))
          go2 false x = let y = eqb-false w n x in less y
            where
              less : (w ≡ n → ⊥) → torn_len_of (drop at s) ≤ n - 1
              less f = omega arith

  -- it ends at a byte that is not blank, or at the place
  pub scan_end : torn_len_of (drop at s) ≤ n → n ≤ length s - at → 0 < n → (get_or s (at + (n - 1)) 0 ≡ 0xFF → ⊥) → n ≡ torn_len_of (drop at s)
  scan_end h l p f = go (ltb (torn_len_of (drop at s)) n) refl
    where
      go : (b : Bool) → ltb (torn_len_of (drop at s)) n ≡ b → n ≡ torn_len_of (drop at s)
      go true x =
          let y : torn_len_of (drop at s) < n = borrow.Author.Tests.ltb-true _ _ x in
          absurd (f (sym (get_or-drop at s (n - 1) 0) ∙ beyond (drop at s) (n - 1) (omega arith) (omega (arith, length-drop at s))))
      go false x = let y : n ≤ torn_len_of (drop at s) = borrow.Author.Tests.ltb-false _ _ x in omega arith
