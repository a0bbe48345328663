-- What it says of a list's bytes that it begins with an entry.
use Rattle.std.specs.Prelude.{◌≡◌, refl, Bool, true, false, List, ◌++◌, ℕ, zero, suc, ◌-◌, ◌≤◌, ◌<◌, eqb, ltb, length, get_or, set}
use Rattle.std.proofs.Common.{sym, arith, eqb-true, eq-eqb, ne_eqb, ltb-true, ltb-false, get_or-set_same, get_or-set_other}
use Rattle.std.proofs.lemmas.Bool.{eqb-false}
use Rattle.std.proofs.Math.ListN.{get_or-eq_default, get_or-append}
use Rattle.std.proofs.Math.Seq.{set_out}
use Rattle.base_answers.specs.Meant.{pick}
use Rattle.journal.specs.Model.{le16, whole_len, standing, len_here}

pub record Stands (s : List ℕ) (n : ℕ) : Type 0 where
  pub kind : whole_len (le16 s 2) ≡ n
  pub len : le16 s 0 ≡ n
  pub last : get_or s (n - 1) 0 ≡ 0xA5

-- a kind that is named
pub data Sized (k n : ℕ) : Type 0 where
  is_read : k ≡ 1 → n ≡ 9 → Sized k n
  is_header : k ≡ 2 → n ≡ 53 → Sized k n

pub named : (k n : ℕ) → whole_len k ≡ n → 0 < n → Sized k n
unfolding whole_len
named k n e h = go (eqb k 1) (eqb k 2) refl refl e
  where
    go : (a b : Bool) → eqb k 1 ≡ a → eqb k 2 ≡ b → pick a 9 (pick b 53 0) ≡ n → Sized k n
    go true b x y z = is_read (eqb-true _ _ x) (sym z)
    go false true x y z = is_header (eqb-true _ _ y) (sym z)
    go false false x y z = absurd (omega arith)

pub whole_read : whole_len 1 ≡ 9
unfolding whole_len
whole_read = refl

pub whole_header : whole_len 2 ≡ 53
unfolding whole_len
whole_header = refl

pub unnamed : (k : ℕ) → (k ≡ 1 → ⊥) → (k ≡ 2 → ⊥) → whole_len k ≡ 0
unfolding whole_len
unnamed k a b = rw (ne_eqb k 1 a, ne_eqb k 2 b)

-- what stands is found
pub stands : {s : List ℕ} {n : ℕ} → Stands s n → len_here s ≡ n
unfolding len_here standing
stands {s} {n} r = rw (r.kind, eq-eqb _ _ r.len, eq-eqb _ _ r.last)

-- what is found stands
pub found : (s : List ℕ) (n : ℕ) → len_here s ≡ n → 0 < n → Stands s n
unfolding len_here standing
found s n e h =
    go (whole_len (le16 s 2)) refl (eqb (le16 s 0) (whole_len (le16 s 2))) refl (eqb (get_or s (whole_len (le16 s 2) - 1) 0) 0xA5) refl e
  where
    go : (w : ℕ) → whole_len (le16 s 2) ≡ w → (a : Bool) → eqb (le16 s 0) w ≡ a → (b : Bool) → eqb (get_or s (w - 1) 0) 0xA5 ≡ b
        → pick a (pick b w 0) 0 ≡ n → Stands s n
    go w k true x true y z = rw (← z) (record { kind = k; len = eqb-true _ _ x; last = eqb-true _ _ y })
    go w k true x false y z = absurd (omega arith)
    go w k false x b y z = absurd (omega arith)

pub nothing : (s : List ℕ) → ((n : ℕ) → 0 < n → Stands s n → ⊥) → len_here s ≡ 0
nothing s f = go (len_here s) refl
  where
    go : (n : ℕ) → len_here s ≡ n → n ≡ 0
    go zero e = refl
    go (suc n) e = absurd (f (suc n) (omega arith) (found s (suc n) e (omega arith)))

pub record Shape (s : List ℕ) (n : ℕ) : Type 0 where
  pub inside : n ≤ length s
  pub least : 9 ≤ n
  pub most : n ≤ 53
  pub low : get_or s 0 0 ≡ n
  pub high : get_or s 1 0 ≡ 0
  pub kind_low : get_or s 2 0 ≤ 2
  pub kind_high : get_or s 3 0 ≡ 0

within : (s : List ℕ) (i : ℕ) → get_or s i 0 ≡ 0xA5 → i < length s
within s i e = go (ltb i (length s)) refl
  where
    go : (b : Bool) → ltb i (length s) ≡ b → i < length s
    go true x = ltb-true _ _ x
    go false x = let d = get_or-eq_default s 0 (ltb-false _ _ x) in absurd (omega arith)

pub shape : {s : List ℕ} {n : ℕ} → Stands s n → 0 < n → Shape s n
shape {s} {n} r h = go (named (le16 s 2) n r.kind h) (within s (n - 1) r.last) r.len
  where
    go : Sized (le16 s 2) n → n - 1 < length s → le16 s 0 ≡ n → Shape s n
    go (is_read a b) i l = record { inside = omega arith; least = omega arith; most = omega arith; low = omega arith; high = omega arith; kind_low = omega arith; kind_high = omega arith }
    go (is_header a b) i l = record { inside = omega arith; least = omega arith; most = omega arith; low = omega arith; high = omega arith; kind_low = omega arith; kind_high = omega arith }

-- the entry's bytes decide
pub same : {s t : List ℕ} {n : ℕ} → Stands s n → get_or t 0 0 ≡ get_or s 0 0 → get_or t 1 0 ≡ get_or s 1 0 → get_or t 2 0 ≡ get_or s 2 0
    → get_or t 3 0 ≡ get_or s 3 0 → get_or t (n - 1) 0 ≡ get_or s (n - 1) 0 → Stands t n
same r a b c d e = record {
  kind = rw (c, d) r.kind;
  len = rw (a, b) r.len;
  last = rw e r.last;
}

-- what follows an entry has no say
pub further : (e t : List ℕ) {n : ℕ} → Stands e n → 0 < n → Stands (e ++ t) n
further e t {n} r h =
    let x = shape r h in
    same r (get_or-append e t 0 0 (omega arith)) (get_or-append e t 0 1 (omega arith)) (get_or-append e t 0 2 (omega arith))
    (get_or-append e t 0 3 (omega arith)) (get_or-append e t 0 (n - 1) (omega arith))

-- a first byte that is blank is no entry's
pub blank_first : (t : List ℕ) → (0 < length t → get_or t 0 0 ≡ 0xFF) → len_here t ≡ 0
blank_first t f = nothing t (λ n h r. let x = shape r h in let y = f (omega arith) in omega arith)

-- a byte that is blanked, or stands as before
pub data Faded (t : List ℕ) (j i : ℕ) : Type 0 where
  blanked : get_or (set t j 0xFF) i 0 ≡ 0xFF → Faded t j i
  stayed : get_or (set t j 0xFF) i 0 ≡ get_or t i 0 → Faded t j i

faded : (t : List ℕ) (j i : ℕ) → Faded t j i
faded t j i = go (eqb i j) refl (ltb j (length t)) refl
  where
    go : (a : Bool) → eqb i j ≡ a → (b : Bool) → ltb j (length t) ≡ b → Faded t j i
    go true x true y = blanked (rw (eqb-true i j x) (get_or-set_same t j 0xFF 0 (ltb-true _ _ y)))
    go true x false y = stayed (rw (set_out t j 0xFF (ltb-false _ _ y)))
    go false x b y = stayed (get_or-set_other t j i 0xFF 0 (eqb-false i j x))

-- a byte that is not blank afterwards stood before
pub stood : (t : List ℕ) (j i v : ℕ) → get_or (set t j 0xFF) i 0 ≡ v → v < 0xFF → get_or (set t j 0xFF) i 0 ≡ get_or t i 0
stood t j i v e h = go (faded t j i)
  where
    go : Faded t j i → get_or (set t j 0xFF) i 0 ≡ get_or t i 0
    go (blanked x) = absurd (omega arith)
    go (stayed x) = x

-- blanking a byte makes no entry
pub no_new : (t : List ℕ) (j : ℕ) → len_here t ≡ 0 → len_here (set t j 0xFF) ≡ 0
no_new t j e = nothing (set t j 0xFF) (λ n h r.
    let x = shape r h in
    let old : Stands t n = same r (sym (stood t j 0 n x.low (omega arith))) (sym (stood t j 1 0 x.high (omega arith)))
    (sym (stood t j 2 (get_or (set t j 0xFF) 2 0) refl (omega arith))) (sym (stood t j 3 0 x.kind_high (omega arith))) (sym (stood t j (n - 1) 0xA5 r.last (omega arith))) in
    let z = stands old in omega arith)
