-- The stores of a plan by their number.
use Rattle.std.specs.Prelude.{◌≡◌, Bool, ◌&&◌, ◌||◌, List, [], ◌∷◌, ◌++◌, ℕ, zero, suc, ◌+◌, ◌-◌, ◌≤◌, ◌<◌, eqb, ltb, drop, get_or, Some, None}
use Rattle.std.proofs.Math.Path.{refl, sym}
use Rattle.std.proofs.Common.{◌∙◌, ap, lt-ltb, le-ltb, ltb-true, ltb-false, ne_eqb, eqb-true}
use Rattle.std.proofs.Math.Bool.{true, false}
use native.Mathlib.Omega.{arith}
use Rattle.std.proofs.lemmas.Bool.{eqb-false}
use Rattle.std.proofs.Math.ListN.{length, length-append}
use Rattle.base_answers.specs.Meant.{pick}
use Rattle.journal.specs.Meant.{blank_byte, is_named, Entry, entry_of, entry_bytes, entry_len, stores_from, append_plan, erase_plan, store_at, inside_longest, kth_store, append_store, recovery_store}
use Rattle.journal.specs.Model.{place_of}
use Rattle.journal.specs.declared.Store.{Store}

-- ---- the kinds

pub named_read : (n : ℕ) → is_named 1 n ≡ eqb n 4
named_read n = or_false (eqb n 4)
  where
    or_false : (b : Bool) → (b || false) ≡ b
    or_false true = refl
    or_false false = refl

pub named_header : (n : ℕ) → is_named 2 n ≡ eqb n 48
named_header n = refl

pub not_named : (kind n : ℕ) → (kind ≡ 1 → ⊥) → (kind ≡ 2 → ⊥) → is_named kind n ≡ false
not_named kind n a b = rw (ne_eqb kind 1 a, ne_eqb kind 2 b)

-- the kinds and their sizes, one by one
pub data KindOf (kind n : ℕ) : Type 0 where
  a_read : kind ≡ 1 → n ≡ 4 → KindOf kind n
  a_header_law : kind ≡ 2 → n ≡ 48 → KindOf kind n

pub kind_of : (kind n : ℕ) → is_named kind n ≡ true → KindOf kind n
kind_of kind n e = go (eqb kind 1) refl (eqb n 4) refl (eqb kind 2) refl (eqb n 48) refl e
  where
    go : (a : Bool) → eqb kind 1 ≡ a → (b : Bool) → eqb n 4 ≡ b → (c : Bool) → eqb kind 2 ≡ c → (d : Bool) → eqb n 48 ≡ d
        → (a && b || c && d) ≡ true → KindOf kind n
    go true p true q c r d s e = a_read (eqb-true _ _ p) (eqb-true _ _ q)
    go true p false q true r true s e = a_header_law (eqb-true _ _ r) (eqb-true _ _ s)
    go false p b q true r true s e = a_header_law (eqb-true _ _ r) (eqb-true _ _ s)
    go true p false q false r d s e = absurd (let w : ◌≡◌ {A = ℕ} 0 1 = cc in omega arith)
    go true p false q true r false s e = absurd (let w : ◌≡◌ {A = ℕ} 0 1 = cc in omega arith)
    go false p b q false r d s e = absurd (let w : ◌≡◌ {A = ℕ} 0 1 = cc in omega arith)
    go false p b q true r false s e = absurd (let w : ◌≡◌ {A = ℕ} 0 1 = cc in omega arith)

pub body_most : (kind n : ℕ) → is_named kind n ≡ true → n ≤ 48
body_most kind n e = go (kind_of kind n e)
  where
    go : KindOf kind n → n ≤ 48
    go (a_read p q) = omega arith
    go (a_header_law p q) = omega arith

-- ---- the bytes of an entry

pub length_entry : (e : Entry) → length (entry_bytes e) ≡ entry_len e
length_entry e = let z = length-append e.body (0xA5 ∷ []) in omega arith

-- ---- which byte a store is

pub place_low : (k n : ℕ) → k + 2 < n → k + 2 ≡ place_of k n
unfolding place_of
place_low k n h = rw (lt-ltb _ _ h)

pub place_high : (k n : ℕ) → n ≤ k + 2 → n - 1 - k ≡ place_of k n
unfolding place_of
place_high k n h = rw (le-ltb _ _ h)

pub place_in : (k n : ℕ) → k < n → place_of k n < n
unfolding place_of
place_in k n h = go (ltb (k + 2) n) refl
  where
    go : (b : Bool) → ltb (k + 2) n ≡ b → pick b (k + 2) (n - 1 - k) < n
    go true e = ltb-true _ _ e
    go false e = omega arith

-- ---- the longest image

pub outside : (offset byte : ℕ) → 32768 ≤ offset → None ≡ inside_longest (store_at offset byte)
outside offset byte h = rw (le-ltb _ _ h)

pub inside : (offset byte : ℕ) → offset < 32768 → Some (store_at offset byte) ≡ inside_longest (store_at offset byte)
inside offset byte h = rw (lt-ltb _ _ h)

-- ---- the stores of an entry

-- past the first of two plans the second goes on
kth_right : (xs ys : List Store) (k : ℕ) → kth_store (xs ++ ys) (length xs + k) ≡ kth_store ys k
kth_right [] ys k = let e : 0 + k ≡ k = omega arith in rw e
kth_right (x ∷ xs) ys k = let e : suc (length xs) + k ≡ suc (length xs + k) = omega arith in rw e (kth_right xs ys k)

kth_from : (offset : ℕ) (bs : List ℕ) (ys : List Store) (k : ℕ) → k < length bs
    → kth_store (stores_from offset bs ++ ys) k ≡ inside_longest (store_at (offset + k) (get_or bs k 0))
kth_from offset [] ys k h = absurd (omega arith)
kth_from offset (b ∷ bs) ys zero h = let e : offset + 0 ≡ offset = omega arith in rw e
kth_from offset (b ∷ bs) ys (suc k) h =
    let e : offset + suc k ≡ suc offset + k = omega arith in rw e (kth_from (suc offset) bs ys k (omega arith))

pub length_from : (offset : ℕ) (bs : List ℕ) → length (stores_from offset bs) ≡ length bs
length_from offset [] = refl
length_from offset (b ∷ bs) = ap suc (length_from (suc offset) bs)

-- the last two: the length, high byte before low
kth_last : (offset b0 b1 : ℕ) (bs : List ℕ) (k : ℕ) → length bs ≤ k
    → kth_store (stores_from (offset + 2) bs ++ store_at (offset + 1) b1 ∷ store_at offset b0 ∷ []) k ≡ kth_store (store_at (offset + 1) b1 ∷ store_at offset b0 ∷ []) (k - length bs)
kth_last offset b0 b1 bs k h =
    let e : k ≡ length (stores_from (offset + 2) bs) + (k - length bs) = omega (arith, length_from (offset + 2) bs) in
    ap (kth_store (stores_from (offset + 2) bs ++ store_at (offset + 1) b1 ∷ store_at offset b0 ∷ [])) e ∙
    kth_right (stores_from (offset + 2) bs) (store_at (offset + 1) b1 ∷ store_at offset b0 ∷ []) (k - length bs)

module _ (offset b0 b1 : ℕ) (bs : List ℕ) where
  kth_entry : (k : ℕ) → k < length bs + 2
      → kth_store (stores_from (offset + 2) bs ++ store_at (offset + 1) b1 ∷ store_at offset b0 ∷ []) k ≡ inside_longest (store_at (offset + place_of k (length bs + 2)) (get_or (b0 ∷ b1 ∷ bs) (place_of k (length bs + 2)) 0))
  kth_entry k h = go (ltb (k + 2) (length bs + 2)) refl (eqb k (length bs)) refl
    where
      go : (a : Bool) → ltb (k + 2) (length bs + 2) ≡ a → (b : Bool) → eqb k (length bs) ≡ b
          → kth_store (stores_from (offset + 2) bs ++ store_at (offset + 1) b1 ∷ store_at offset b0 ∷ []) k ≡ inside_longest (store_at (offset + place_of k (length bs + 2)) (get_or (b0 ∷ b1 ∷ bs) (place_of k (length bs + 2)) 0))
      go true x b y =
          let l : k + 2 < length bs + 2 = ltb-true _ _ x in
          let o : place_of k (length bs + 2) ≡ suc (suc k) =
          sym (place_low k (length bs + 2) l) ∙ (let q : k + 2 ≡ suc (suc k) = omega arith in q) in
          let e : offset + 2 + k ≡ offset + suc (suc k) = omega arith in
          kth_from (offset + 2) bs (store_at (offset + 1) b1 ∷ store_at offset b0 ∷ []) k (omega arith) ∙ rw (o, e)
      go false x true y =
          let l : length bs + 2 ≤ k + 2 = ltb-false _ _ x in
          let z : k ≡ length bs = eqb-true _ _ y in
          let o : place_of k (length bs + 2) ≡ 1 =
          sym (place_high k (length bs + 2) l) ∙ (let q : length bs + 2 - 1 - k ≡ 1 = omega arith in q) in
          let d : k - length bs ≡ 0 = omega arith in
          kth_last offset b0 b1 bs k (omega arith) ∙ rw (o, d)
      go false x false y =
          let l : length bs + 2 ≤ k + 2 = ltb-false _ _ x in
          let z1 : k ≡ length bs + 1 = above (eqb-false _ _ y) in
          let o : place_of k (length bs + 2) ≡ 0 =
          sym (place_high k (length bs + 2) l) ∙ (let q : length bs + 2 - 1 - k ≡ 0 = omega arith in q) in
          let d : k - length bs ≡ 1 = omega arith in
          let e : offset + 0 ≡ offset = omega arith in
          kth_last offset b0 b1 bs k (omega arith) ∙ rw (o, d, e)
        where
          above : (k ≡ length bs → ⊥) → k ≡ length bs + 1
          above f = let l : length bs + 2 ≤ k + 2 = ltb-false _ _ x in omega arith

kth_none : (xs : List Store) (k : ℕ) → length xs ≤ k → kth_store xs k ≡ None
kth_none [] k h = refl
kth_none (x ∷ xs) zero h = absurd (omega arith)
kth_none (x ∷ xs) (suc k) h = kth_none xs k (omega arith)

pub length_plan : (offset : ℕ) (e : Entry) → length (append_plan offset e) ≡ entry_len e
unfolding append_plan
length_plan offset e =
    let r = drop 2 (entry_bytes e) in
    rw (length-append (stores_from (offset + 2) r) (store_at (offset + 1) (get_or (entry_bytes e) 1 0) ∷ store_at offset (get_or (entry_bytes e) 0 0) ∷ []), length_from (offset + 2) r)
    (let z = length-append e.body (0xA5 ∷ []) in omega arith)

module _ (offset kind : ℕ) (body : List ℕ) (k : ℕ) where
  pub not_stored : is_named kind (length body) ≡ false → None ≡ append_store offset kind body k
  unfolding append_store
  not_stored e = rw e

  pub past_entry : length body + 5 ≤ k → None ≡ append_store offset kind body k
  unfolding append_store
  past_entry h = go (is_named kind (length body))
    where
      go : (b : Bool) → None ≡ pick b (kth_store (append_plan offset (entry_of kind body)) k) None
      go false = refl
      go true = sym (kth_none (append_plan offset (entry_of kind body)) k (omega (arith, length_plan offset (entry_of kind body))))

  pub one_stored : {place byte : ℕ} → is_named kind (length body) ≡ true → k < length body + 5 → place ≡ place_of k (length body + 5)
      → byte ≡ get_or (entry_bytes (entry_of kind body)) place 0 → inside_longest (store_at (offset + place) byte) ≡ append_store offset kind body k
  unfolding append_store append_plan
  one_stored {place} {byte} e h p b =
      let bytes = entry_bytes (entry_of kind body) in
      let l : length (drop 2 bytes) + 2 ≡ length body + 5 = let z = length-append body (0xA5 ∷ []) in omega arith in
      let x = kth_entry offset (get_or bytes 0 0) (get_or bytes 1 0) (drop 2 bytes) k (omega arith) in
      rw (e, b, p) (sym (rw l at x))

-- ---- the stores of a recovery

module _ (offset : ℕ) where
  kth_erase : (n k : ℕ) → k < n → kth_store (erase_plan offset n) k ≡ inside_longest (store_at (offset + (n - 1 - k)) blank_byte)
  kth_erase zero k h = absurd (omega arith)
  kth_erase (suc n) zero h = let e : suc n - 1 - 0 ≡ n = omega arith in rw e
  kth_erase (suc n) (suc k) h = let e : suc n - 1 - suc k ≡ n - 1 - k = omega arith in rw e (kth_erase n k (omega arith))

  pub length_erase : (n : ℕ) → length (erase_plan offset n) ≡ n
  length_erase zero = refl
  length_erase (suc n) = ap suc (length_erase n)

  pub past_torn : (n k : ℕ) → n ≤ k → None ≡ recovery_store offset n k
  unfolding recovery_store
  past_torn n k h = sym (kth_none (erase_plan offset n) k (omega (arith, length_erase n)))

  pub one_erased : (n k : ℕ) → k < n → inside_longest (store_at (offset + (n - 1 - k)) blank_byte) ≡ recovery_store offset n k
  unfolding recovery_store
  one_erased n k h = sym (kth_erase n k h)
