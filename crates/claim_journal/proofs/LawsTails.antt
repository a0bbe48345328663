-- What stands after the entries: of an append, of a recovery, and after the first stores of either.
use Rattle.std.specs.Prelude.{◌≡◌, refl, Bool, true, false, ℕ, zero, suc, ◌+◌, ◌-◌, ◌≤◌, ◌<◌, eqb, ltb, replicate, get_or, set, Some}
use Rattle.std.proofs.Common.{sym, ◌∙◌, arith, eqb-true, ltb-true, ltb-false, length-set, get_or-set_same, get_or-set_other, ext_get_or}
use Rattle.std.proofs.Math.Path.{ap}
use mathlib.Core.List.{List, [], ◌∷◌, ◌++◌}
use Rattle.std.proofs.lemmas.Bool.{eqb-false}
use Rattle.std.proofs.Math.ListN.{length, take, drop, length-append}
use Rattle.std.proofs.lemmas.List.{length-replicate, get_or-replicate, set_comm}
use Rattle.std.proofs.Math.Seq.{sets, sets-eq, take-append_seam, drop-append-add}
use Rattle.journal.specs.Meant.{store_at, blank_byte, Entry, is_named, entry_len, entry_bytes, entries_bytes, AllNamed, Holds, torn_len_of, stored, stores_from, append_plan, erase_plan, kth_store, append_store, recovery_store, performed}
use Rattle.journal.specs.Model.{len_here, place_of}
use Rattle.journal.specs.LawsEntry.{blank_first, no_new}
use Rattle.journal.specs.LawsTorn.{beyond}
use Rattle.journal.specs.LawsPlans.{length_entry, length_plan, length_erase, one_stored, one_erased, place_low, place_high}
use Rattle.claim_journal.proofs.LawsPerformed.{same_plan, applied, all_applied, At, at_inside, Tail, kept, set_right}
use Rattle.claim_journal.proofs.LawsHolds.{none_begins}
use Rattle.journal.specs.declared.Store.{Store}

-- ---- properties of a rest

abbrev pub Nothing : List ℕ → Type 0
Nothing t = len_here t ≡ 0

-- its first byte, the low byte of a length, is blank
pub record Torn (t : List ℕ) : Type 0 where
  pub first : 0 < length t → get_or t 0 0 ≡ blank_byte

pub record Blank (t : List ℕ) : Type 0 where
  pub all : (i : ℕ) → i < length t → get_or t i 0 ≡ blank_byte

abbrev Later : ℕ → ℕ → Type 0
Later i v = 0 < i

abbrev Wipes : ℕ → ℕ → Type 0
Wipes i v = v ≡ blank_byte

pub torn_nothing : {t : List ℕ} → Torn t → Nothing t
torn_nothing {t} x = blank_first t x.first

pub blank_torn : {t : List ℕ} → Blank t → Torn t
blank_torn x = record { first = x.all 0 }

torn_later : (t : List ℕ) (i v : ℕ) → Later i v → Torn t → Torn (set t i v)
torn_later t i v h x = record { first = λ l. get_or-set_other t i 0 v 0 (λ e. omega arith) ∙ x.first (rw length-set at l) }

nothing_wiped : (t : List ℕ) (i v : ℕ) → Wipes i v → Nothing t → Nothing (set t i v)
nothing_wiped t i v e x = rw e (no_new t i x)

pub blank_is : (t : List ℕ) → Blank t → t ≡ replicate (length t) blank_byte
blank_is t b =
    ext_get_or 0 t (replicate (length t) blank_byte) (sym (length-replicate (length t) blank_byte)) (λ i h. b.all i h ∙ sym (get_or-replicate (length t) i blank_byte 0 h))

pub blanks : (n : ℕ) → Blank (replicate n blank_byte)
blanks n = record { all = λ i h. get_or-replicate n i blank_byte 0 (rw length-replicate at h) }

-- an image whose entries are followed by such a rest
pub holds_tail : {s : List ℕ} {es : List Entry} {t : List ℕ} → s ≡ entries_bytes es ++ t → AllNamed es → Nothing t → Holds s es t
holds_tail {t = t} w a n = record { whole = w; each = a; ends = none_begins t n }

-- ---- the stores of an entry, all of them

applied_append : (xs ys : List Store) (s : List ℕ) → applied (xs ++ ys) s ≡ applied ys (applied xs s)
applied_append [] ys s = refl
applied_append (x ∷ xs) ys s = applied_append xs ys (stored s (Some x))

applied_from : (a : ℕ) (bs s : List ℕ) → applied (stores_from a bs) s ≡ sets s a bs
applied_from a [] s = refl
applied_from a (b ∷ bs) s = applied_from (suc a) bs (set s a b)

set_sets : (a : ℕ) (bs s : List ℕ) (i v : ℕ) → i < a → set (sets s a bs) i v ≡ sets (set s i v) a bs
set_sets a [] s i v h = refl
set_sets a (b ∷ bs) s i v h = set_sets (suc a) bs (set s a b) i v (omega arith) ∙ rw (set_comm s a i b v (λ e. omega arith))

full : (p b0 b1 : ℕ) (r s : List ℕ) → applied (stores_from (p + 2) r ++ store_at (p + 1) b1 ∷ store_at p b0 ∷ []) s ≡ sets s p (b0 ∷ b1 ∷ r)
full p b0 b1 r s =
    let e1 : p + 1 ≡ suc p = omega arith in
    let e2 : p + 2 ≡ suc (suc p) = omega arith in
    rw (applied_append, applied_from, e1, e2, set_sets (suc (suc p)) r s (suc p) b1 (omega arith), set_sets (suc (suc p)) r (set s (suc p) b1) p b0 (omega arith), set_comm s (suc p) p b1 b0 (λ e. omega arith))

-- ---- an append, after bytes that stand

module _ (xs t : List ℕ) (e : Entry) (named : is_named e.kind (length e.body) ≡ true) where
  -- before the last store each lies past the low byte of the length
  early : (k : ℕ) → k < entry_len e - 1 → At (length xs) Later (append_store (length xs) e.kind e.body k)
  early k h =
      let x = one_stored (length xs) e.kind e.body k named (omega arith) refl refl in
      rw (← x) (at_inside (place_of k (entry_len e)) (get_or (entry_bytes e) (place_of k (entry_len e)) 0) (positive (ltb (k + 2) (entry_len e)) refl))
    where
      positive : (b : Bool) → ltb (k + 2) (entry_len e) ≡ b → 0 < place_of k (entry_len e)
      positive true q = let z = place_low k (entry_len e) (ltb-true _ _ q) in omega arith
      positive false q = let z = place_high k (entry_len e) (ltb-false _ _ q) in omega arith

  pub append_early : (m : ℕ) → m < entry_len e → Blank t
      → Tail Torn xs (length t) (performed m (append_store (length xs) e.kind e.body) (xs ++ t))
  append_early m h b =
      kept xs m (append_store (length xs) e.kind e.body) torn_later (λ k g. early k (omega arith))
      (record { tail = t; whole = refl; same = refl; prop = blank_torn b })

  -- all stores together lay the entry over what stood there
  pub append_done : length (xs ++ t) ≤ 32768 → entry_len e ≤ length t
      → performed (entry_len e) (append_store (length xs) e.kind e.body) (xs ++ t) ≡ (xs ++ entry_bytes e) ++ drop (entry_len e) t
  unfolding append_store append_plan
  append_done l h =
      let plan = append_plan (length xs) e in
      let r = drop 2 (entry_bytes e) in
      let n = length_plan (length xs) e in
      let a : performed (entry_len e) (append_store (length xs) e.kind e.body) (xs ++ t) ≡ performed (length plan) (kth_store plan) (xs ++ t) =
      same_plan (entry_len e) (xs ++ t) (λ k. rw named) ∙ ap (λ (i : ℕ). performed i (kth_store plan) (xs ++ t)) (sym n) in
      let b : performed (length plan) (kth_store plan) (xs ++ t) ≡ sets (xs ++ t) (length xs) (entry_bytes e) =
      all_applied plan (xs ++ t) l ∙ full (length xs) (get_or (entry_bytes e) 0 0) (get_or (entry_bytes e) 1 0) r (xs ++ t) in
      let c : sets (xs ++ t) (length xs) (entry_bytes e) ≡ take (length xs) (xs ++ t) ++ entry_bytes e ++ drop (length xs + length (entry_bytes e)) (xs ++ t) =
      sets-eq (entry_bytes e) (xs ++ t) (length xs) (omega (arith, length-append xs t, length_entry e)) in
      let d : drop (length xs + length (entry_bytes e)) (xs ++ t) ≡ drop (entry_len e) t =
      drop-append-add xs t (length (entry_bytes e)) ∙ ap (λ (i : ℕ). drop i t) (length_entry e) in
      let f : take (length xs) (xs ++ t) ++ entry_bytes e ++ drop (length xs + length (entry_bytes e)) (xs ++ t) ≡ xs ++ entry_bytes e ++ drop (entry_len e) t =
      ap (λ (l : List ℕ). l ++ entry_bytes e ++ drop (length xs + length (entry_bytes e)) (xs ++ t)) (take-append_seam xs t) ∙
      ap (λ (l : List ℕ). xs ++ entry_bytes e ++ l) d in
      a ∙ b ∙ c ∙ f

-- ---- a recovery, of any bytes

pub record BlankFrom (n : ℕ) (t : List ℕ) : Type 0 where
  pub from : (i : ℕ) → n ≤ i → i < length t → get_or t i 0 ≡ blank_byte

blank_more : (n : ℕ) (t : List ℕ) → BlankFrom (suc n) t → BlankFrom n (set t n blank_byte)
blank_more n t x = record { from = λ i h l. go i h (rw length-set at l) (eqb i n) refl }
  where
    go : (i : ℕ) → n ≤ i → i < length t → (b : Bool) → eqb i n ≡ b → get_or (set t n blank_byte) i 0 ≡ blank_byte
    go i h l true y = let z = eqb-true i n y in rw (← z) (get_or-set_same t i blank_byte 0 l)
    go i h l false y =
        let o = eqb-false i n y in
        get_or-set_other t n i blank_byte 0 o ∙ x.from i (lt_of_ne h o) l
      where
        lt_of_ne : n ≤ i → (i ≡ n → ⊥) → suc n ≤ i
        lt_of_ne a b = omega arith

erased : (n : ℕ) (xs t : List ℕ) → BlankFrom n t → applied (erase_plan (length xs) n) (xs ++ t) ≡ xs ++ replicate (length t) blank_byte
erased zero xs t b = ap (λ (l : List ℕ). xs ++ l) (blank_is t (record { all = λ i h. b.from i (omega arith) h }))
erased (suc n) xs t b =
    ap (λ (l : List ℕ). applied (erase_plan (length xs) n) l) (set_right xs t n blank_byte) ∙
    erased n xs (set t n blank_byte) (blank_more n t b) ∙
    rw (length-set t n blank_byte)

module _ (xs t : List ℕ) where
  -- it leaves blank bytes
  pub recovery_done : length (xs ++ t) ≤ 32768
      → performed (torn_len_of t) (recovery_store (length xs) (torn_len_of t)) (xs ++ t) ≡ xs ++ replicate (length t) blank_byte
  unfolding recovery_store
  recovery_done l =
      let plan = erase_plan (length xs) (torn_len_of t) in
      rw (length_erase (length xs) (torn_len_of t)) at (all_applied plan (xs ++ t) l ∙ erased (torn_len_of t) xs t (record { from = λ i h k. beyond t i h k }))

  -- its first stores make no entry
  pub recovery_early : (m n : ℕ) → m ≤ n → Nothing t → Tail Nothing xs (length t) (performed m (recovery_store (length xs) n) (xs ++ t))
  recovery_early m n h x =
      kept xs m (recovery_store (length xs) n) nothing_wiped (λ k g. rw (← one_erased (length xs) n k (omega arith)) (at_inside (n - 1 - k) blank_byte refl))
      (record { tail = t; whole = refl; same = refl; prop = x })
