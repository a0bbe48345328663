-- Which tests decide that an entry stands at a place, and one turn of the walk over the entries.
use mathlib.Core.Path.{◌≡◌, refl, sym, ◌∙◌, ap}
use mathlib.Core.Logic.{◌⊎◌, inl, inr}
use Rattle.std.specs.Prelude.{Some, None}
use mathlib.Core.List.{List, [], ◌∷◌, ◌++◌}
use Prim.Native.Nat.{ℕ, zero, suc, ◌+◌, ◌-◌, ◌/◌, ◌%◌, ◌≤◌, ◌<◌}
use native.Mathlib.Omega.{arith}
use native.Mathlib.Numerals.{add-one}
use lib.ListN.{length, take, drop, get_or, length-drop, length-append, get_or-append}
use lib.Seq.{get_or-drop, drop-drop, take_all, length-take-le, get_or-take, get_or-append_seam}
use Rattle.journal.specs.Meant.{end_byte, entry_of, entry_bytes, entry_read}
use Rattle.journal.specs.Model.{le16, whole_len, len_here, unless_zero, entries_from, entries, flat, end_of, entry_in}
use Rattle.journal.specs.LawsEntry.{Shape, stands, found, nothing, shape as shape_of}
use Rattle.journal.specs.LawsSplit.{stop, onward, fewer_entries}
use Rattle.journal.specs.ModelWalk.{Walking, Passes}
use Rattle.journal.specs.declared.Passed.{Passed}

-- ---- a length as an answer

pub none_for : {m : ℕ} → 0 ≡ m → None ≡ unless_zero m
none_for e = rw (← e)

pub some_for : (n : ℕ) {m : ℕ} → n ≡ m → 0 < n → Some n ≡ unless_zero m
some_for zero e h = absurd (omega arith)
some_for (suc n) e h = rw (← e)

pub none_in : (m : ℕ) → None ≡ unless_zero m → 0 ≡ m
none_in zero e = refl
none_in (suc m) e = absurd (let w : ◌≡◌ {A = ℕ} 0 1 = cc in omega arith)

pub record HasLen (n m : ℕ) : Type 0 where
  pub same : n ≡ m
  pub more : 0 < n

pub some_in : {n : ℕ} (m : ℕ) → Some n ≡ unless_zero m → HasLen n m
some_in zero e = absurd (let w : ◌≡◌ {A = ℕ} 0 1 = cc in omega arith)
some_in {n} (suc m) e = let s : n ≡ suc m = cc in record { same = s; more = omega arith }

-- ---- the length at a place

module _ (s : List ℕ) (at : ℕ) where
  word_drop : (i : ℕ) → le16 (drop at s) i ≡ le16 s (at + i)
  word_drop i =
      let e : at + suc i ≡ suc (at + i) = omega arith in
      rw (get_or-drop at s i 0, get_or-drop at s (suc i) 0, e)

  pub none_short : length s - at < 9 → 0 ≡ len_here (drop at s)
  none_short h = sym (nothing (drop at s) (λ n g r. let x = shape_of r g in omega (arith, length-drop at s)))

  pub none_kind : whole_len (le16 s (at + 2)) ≡ 0 → 0 ≡ len_here (drop at s)
  none_kind e = sym (nothing (drop at s) (λ n g r. let k : whole_len (le16 s (at + 2)) ≡ n = rw word_drop at r.kind in omega arith))

  module _ (n : ℕ) (k : n ≡ whole_len (le16 s (at + 2))) where
    pub none_left : length s - at < n → 0 ≡ len_here (drop at s)
    none_left h = sym (nothing (drop at s) (λ m g r.
        let x = shape_of r g in
        let q : whole_len (le16 s (at + 2)) ≡ m = rw word_drop at r.kind in
        omega (arith, length-drop at s)))

    pub none_length : (le16 s at ≡ n → ⊥) → 0 ≡ len_here (drop at s)
    none_length h = sym (nothing (drop at s) (λ m g r.
        let z : at + 0 ≡ at = omega arith in
        let q : whole_len (le16 s (at + 2)) ≡ m = rw word_drop at r.kind in
        let l : le16 s at ≡ m = rw z at (sym (word_drop 0) ∙ r.len) in
        h (l ∙ sym q ∙ sym k)))

    pub none_end : (get_or s (at + (n - 1)) 0 ≡ end_byte → ⊥) → 0 ≡ len_here (drop at s)
    none_end h = sym (nothing (drop at s) (λ m g r.
        let q : whole_len (le16 s (at + 2)) ≡ m = rw word_drop at r.kind in
        let e : m ≡ n = sym q ∙ sym k in
        h (rw e at (sym (get_or-drop at s (m - 1) 0) ∙ r.last))))

    pub one_here : le16 s at ≡ n → get_or s (at + (n - 1)) 0 ≡ end_byte → n ≡ len_here (drop at s)
    one_here l e =
        let z : at + 0 ≡ at = omega arith in
        sym (stands (record { kind = rw word_drop (sym k); len = word_drop 0 ∙ rw z l; last = get_or-drop at s (n - 1) 0 ∙ e }))

-- ---- the walk

pub walk_start : (s : List ℕ) → Walking s 0 0
unfolding entries
walk_start s = record { fuel = length s; inside = omega arith; enough = omega arith; passed = refl; counted = omega arith; rest = refl }

pub inside_here : (s : List ℕ) (at n : ℕ) → n ≡ len_here (drop at s) → 0 < n → at + n ≤ length s
inside_here s at n e h =
    let x = shape_of (found (drop at s) n (sym e) h) h in
    omega (arith, length-drop at s)

-- the next of a list, by what is left after `k` of it
pub record Next {A : Type 0} (k : ℕ) (xs : List A) (x : A) (ys : List A) : Type 0 where
  pub taken : take (suc k) xs ≡ take k xs ++ x ∷ []
  pub left : drop (suc k) xs ≡ ys
  pub more : k < length xs

pub next : {A : Type 0} (k : ℕ) (xs : List A) {x : A} {ys : List A} → drop k xs ≡ x ∷ ys → Next k xs x ys
next zero (y ∷ xs) e = record { taken = ap (λ z. z ∷ []) cc; left = cc; more = omega arith }
next zero [] e = absurd (let w : ◌≡◌ {A = ℕ} 0 1 = cc in omega arith)
next (suc k) [] e = absurd (let w : ◌≡◌ {A = ℕ} 0 1 = cc in omega arith)
next (suc k) (y ∷ xs) e =
    let z = next k xs e in
    record { taken = ap (λ l. y ∷ l) z.taken; left = z.left; more = omega arith }

flat_next : (xs : List (List ℕ)) (x : List ℕ) → length (flat (xs ++ x ∷ [])) ≡ length (flat xs) + length x
flat_next [] x = omega (arith, length-append x [])
flat_next (y ∷ xs) x = let z = flat_next xs x in omega (arith, length-append y (flat (xs ++ x ∷ [])), length-append y (flat xs))

pub walk_on : {s : List ℕ} {count at n : ℕ} → Walking s count at → n ≡ len_here (drop at s) → 0 < n → Walking s (count + 1) (at + n)
walk_on {s} {count} {at} {n} w e h = go w.fuel refl
  where
    go : (f : ℕ) → w.fuel ≡ f → Walking s (count + 1) (at + n)
    go zero q = absurd (let i = inside_here s at n e h in let j = w.enough in omega arith)
    go (suc f) q =
        let i = inside_here s at n e h in
        let j = w.enough in
        let o : entries_from (suc f) (drop at s) ≡ take n (drop at s) ∷ entries_from f (drop (at + n) s) =
        onward f (drop at s) n (sym e) h ∙ rw (drop-drop n at s) in
        let r : drop count (entries s) ≡ take n (drop at s) ∷ entries_from f (drop (at + n) s) = sym (rw q at w.rest) ∙ o in
        let l : length (take n (drop at s)) ≡ n = length-take-le n (drop at s) (omega (arith, length-drop at s)) in
        let m = next count (entries s) r in
        let u : count + 1 ≡ suc count = add-one count in
        let p = w.passed in
        let g : at + n ≡ length (flat (take (suc count) (entries s))) =
        rw m.taken (omega (arith, flat_next (take count (entries s)) (take n (drop at s)))) in
        rw u (record { fuel = f; inside = i; enough = omega arith; passed = g; counted = omega (arith, m.more); rest = sym m.left })

-- ---- where the walk ended

drop_all : {A : Type 0} (k : ℕ) (xs : List A) → length xs ≤ k → drop k xs ≡ []
drop_all zero [] h = refl
drop_all (suc k) [] h = refl
drop_all zero (x ∷ xs) h = absurd (omega arith)
drop_all (suc k) (x ∷ xs) h = drop_all k xs (omega arith)

none_past : {A : Type 0} (k m : ℕ) (xs : List A) → drop k xs ≡ [] → k ≤ m → drop m xs ≡ []
none_past k m xs e h =
    let l : length xs - k ≡ 0 = sym (length-drop k xs) ∙ ap length e in
    drop_all m xs (omega arith)

module _ {s : List ℕ} {most : ℕ} {r : Passed} (p : Passes s most r) where
  -- no entry stands there: there is none of this number
  pub none_there : 0 ≡ len_here (drop r.offset s) → drop most (entries s) ≡ []
  none_there e = none_past r.count most (entries s) (sym p.walk.rest ∙ stop p.walk.fuel (drop r.offset s) (sym e)) p.least

  -- one does: it is the entry of this number
  pub record There (n : ℕ) : Type 0 where
    pub later : List (List ℕ)
    pub entry : drop most (entries s) ≡ take n (drop r.offset s) ∷ later
    pub offset : r.offset ≡ length (flat (take most (entries s)))
    pub inside : r.offset + n ≤ length s
    pub len : length (take n (drop r.offset s)) ≡ n
    pub shape : Shape (drop r.offset s) n

  pub one_there : {n : ℕ} → n ≡ len_here (drop r.offset s) → 0 < n → There n
  one_there {n} e h = go p.walk.fuel refl p.ended
    where
      go : (f : ℕ) → p.walk.fuel ≡ f → (r.count ≡ most) ⊎ (0 ≡ len_here (drop r.offset s)) → There n
      go f q (inr z) = absurd (omega arith)
      go zero q (inl z) = absurd (let i = inside_here s r.offset n e h in let j = p.walk.enough in omega arith)
      go (suc f) q (inl z) =
          let i = inside_here s r.offset n e h in
          let x : entries_from (suc f) (drop r.offset s) ≡ drop r.count (entries s) = rw q at p.walk.rest in
          record {
            later = entries_from f (drop n (drop r.offset s));
            entry = rw z at (sym x) ∙ onward f (drop r.offset s) n (sym e) h;
            offset = rw z at p.walk.passed;
            inside = i;
            len = length-take-le n (drop r.offset s) (omega (arith, length-drop r.offset s));
            shape = shape_of (found (drop r.offset s) n (sym e) h) h;
          }

  pub entry_missing : 0 ≡ len_here (drop r.offset s) → None ≡ entry_in s most
  unfolding entry_in
  entry_missing e = rw (none_there e)

  pub entry_there : {n kind : ℕ} → There n → kind ≡ le16 s (r.offset + 2) → Some (entry_read kind r.offset (n - 5)) ≡ entry_in s most
  unfolding entry_in
  entry_there {n} t k =
      let at = r.offset in
      let x = t.shape in
      let two = get_or-take n (drop at s) 2 0 (omega arith) ∙ get_or-drop at s 2 0 in
      let three = get_or-take n (drop at s) 3 0 (omega arith) ∙ get_or-drop at s 3 0 in
      let e : at + 3 ≡ suc (at + 2) = omega arith in
      rw (t.entry, ← t.offset, t.len, k, two, three, e)

  pub kind_small : {n kind : ℕ} → There n → kind ≡ le16 s (r.offset + 2) → kind ≤ 65535
  kind_small t k =
      let at = r.offset in
      let e : at + 3 ≡ suc (at + 2) = omega arith in
      let h : get_or s (suc (at + 2)) 0 ≡ 0 = rw e at (sym (get_or-drop at s 3 0) ∙ t.shape.kind_high) in
      let l : get_or s (at + 2) 0 ≤ 2 = rw (get_or-drop at s 2 0) at t.shape.kind_low in
      omega arith

  -- an image of no more bytes is passed as a whole
  pub record All : Type 0 where
    pub count : r.count ≡ length (entries s)
    pub offset : r.offset ≡ end_of s

  pub passed_all : length s ≤ most → All
  unfolding end_of
  passed_all h =
      let c : r.count ≡ length (entries s) = go p.ended in
      record { count = c; offset = p.walk.passed ∙ rw (take_all r.count (entries s) (omega arith)) }
    where
      go : (r.count ≡ most) ⊎ (0 ≡ len_here (drop r.offset s)) → r.count ≡ length (entries s)
      go (inl z) = omega (arith, fewer_entries s, p.walk.counted)
      go (inr z) =
          let l : length (entries s) - r.count ≡ 0 =
          sym (length-drop r.count (entries s)) ∙ ap length (sym p.walk.rest ∙ stop p.walk.fuel (drop r.offset s) (sym z)) in
          omega (arith, p.walk.counted)

-- ---- the bytes of an entry

module _ (kind : ℕ) (body : List ℕ) (place : ℕ) where
  pub byte0 : place ≡ 0 → (length body + 5) % 256 ≡ get_or (entry_bytes (entry_of kind body)) place 0
  byte0 e = rw e

  pub byte1 : place ≡ 1 → length body ≤ 48 → (length body + 5) / 256 ≡ get_or (entry_bytes (entry_of kind body)) place 0
  byte1 e h = rw e (omega arith)

  pub byte2 : place ≡ 2 → kind % 256 ≡ get_or (entry_bytes (entry_of kind body)) place 0
  byte2 e = rw e

  pub byte3 : place ≡ 3 → kind ≤ 65535 → kind / 256 ≡ get_or (entry_bytes (entry_of kind body)) place 0
  byte3 e h = rw e (omega arith)

  pub byte_body : 4 ≤ place → place - 4 < length body → get_or body (place - 4) 0 ≡ get_or (entry_bytes (entry_of kind body)) place 0
  byte_body h g =
      let e : place ≡ suc (suc (suc (suc (place - 4)))) = omega arith in
      sym (ap (λ (i : ℕ). get_or (entry_bytes (entry_of kind body)) i 0) e ∙ get_or-append body (end_byte ∷ []) 0 (place - 4) g)

  pub byte_end : length body + 4 ≡ place → end_byte ≡ get_or (entry_bytes (entry_of kind body)) place 0
  byte_end h =
      let e : place ≡ suc (suc (suc (suc (length body)))) = omega arith in
      sym (ap (λ (i : ℕ). get_or (entry_bytes (entry_of kind body)) i 0) e ∙ get_or-append_seam body end_byte [] 0)
