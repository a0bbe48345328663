-- The first stores of a plan, performed one after the other.
use Rattle.std.specs.Prelude.{◌≡◌, refl, Bool, true, false, List, [], ◌∷◌, ◌++◌, ℕ, zero, suc, ◌+◌, ◌≤◌, ◌<◌, ltb, length, set, Option, Some, None}
use Rattle.std.proofs.Common.{sym, ◌∙◌, ap, arith, ltb-false, length-set}
use Rattle.std.proofs.Math.Seq.{set_out}
use Rattle.base_answers.specs.Meant.{pick}
use Rattle.journal.specs.Meant.{store_at, stored, inside_longest, kth_store, performed}
use Rattle.journal.specs.declared.Store.{Store}

pub length_stored : (s : List ℕ) (x : Option Store) → length (stored s x) ≡ length s
length_stored s (Some x) = length-set s x.offset x.byte
length_stored s None = refl

pub length_performed : (m : ℕ) (plan : ℕ → Option Store) (s : List ℕ) → length (performed m plan s) ≡ length s
length_performed zero plan s = refl
length_performed (suc m) plan s = length_stored (performed m plan s) (plan m) ∙ length_performed m plan s

-- plans that agree
pub same_plan : (m : ℕ) {f g : ℕ → Option Store} (s : List ℕ) → ((k : ℕ) → f k ≡ g k) → performed m f s ≡ performed m g s
same_plan zero s e = refl
same_plan (suc m) s e = rw (same_plan m s e, e m)

-- the first of them, and then the others
pub from_first : (m : ℕ) (plan : ℕ → Option Store) (s : List ℕ) → performed (suc m) plan s ≡ performed m (λ k. plan (suc k)) (stored s (plan 0))
from_first zero plan s = refl
from_first (suc m) plan s = ap (λ (t : List ℕ). stored t (plan (suc m))) (from_first m plan s)

-- all stores of a list
abbrev pub applied : List Store → List ℕ → List ℕ
applied [] s = s
applied (x ∷ xs) s = applied xs (stored s (Some x))

-- a store past the longest image lies outside an image that is no longer
pub inside_stored : (s : List ℕ) (x : Store) → length s ≤ 32768 → stored s (inside_longest x) ≡ stored s (Some x)
inside_stored s x h = go (ltb x.offset 32768) refl
  where
    go : (b : Bool) → ltb x.offset 32768 ≡ b → stored s (pick b (Some x) None) ≡ set s x.offset x.byte
    go true e = refl
    go false e = sym (set_out s x.offset x.byte (let g : 32768 ≤ x.offset = ltb-false _ _ e in omega arith))

pub all_applied : (xs : List Store) (s : List ℕ) → length s ≤ 32768 → performed (length xs) (kth_store xs) s ≡ applied xs s
all_applied [] s h = refl
all_applied (x ∷ xs) s h =
    from_first (length xs) (kth_store (x ∷ xs)) s ∙
    ap (performed (length xs) (kth_store xs)) (inside_stored s x h) ∙
    all_applied xs (stored s (Some x)) (omega (arith, length_stored s (Some x)))

-- ---- stores that change only what follows some bytes

-- a store at `p` or later, at an offset and with a byte that Q allows
pub data At (p : ℕ) (Q : ℕ → ℕ → Type 0) : Option Store → Type 0 where
  nowhere : At p Q None
  at : (i v : ℕ) → Q i v → At p Q (Some (store_at (p + i) v))

pub at_inside : {p : ℕ} {Q : ℕ → ℕ → Type 0} (i v : ℕ) → Q i v → At p Q (inside_longest (store_at (p + i) v))
at_inside {p} {Q} i v q = go (ltb (p + i) 32768)
  where
    go : (b : Bool) → At p Q (pick b (Some (store_at (p + i) v)) None)
    go true = at i v q
    go false = nowhere

pub set_right : (xs t : List ℕ) (i v : ℕ) → set (xs ++ t) (length xs + i) v ≡ xs ++ set t i v
set_right [] t i v = rw zero_plus
  where
    zero_plus : 0 + i ≡ i
    zero_plus = omega arith
set_right (x ∷ xs) t i v = rw suc_plus (ap (λ (l : List ℕ). x ∷ l) (set_right xs t i v))
  where
    suc_plus : suc (length xs) + i ≡ suc (length xs + i)
    suc_plus = omega arith

-- bytes that stand, and a rest with a property
pub record Tail (P : List ℕ → Type 0) (xs : List ℕ) (n : ℕ) (s : List ℕ) : Type 0 where
  pub tail : List ℕ
  pub whole : s ≡ xs ++ tail
  pub same : length tail ≡ n
  pub prop : P tail

one_kept : {P : List ℕ → Type 0} {Q : ℕ → ℕ → Type 0} (xs : List ℕ) {n : ℕ} {s : List ℕ} {x : Option Store}
    → ((t : List ℕ) (i v : ℕ) → Q i v → P t → P (set t i v)) → At (length xs) Q x → Tail P xs n s → Tail P xs n (stored s x)
one_kept xs f nowhere t = t
one_kept xs f (at i v q) t = record {
  tail = set t.tail i v;
  whole = rw t.whole (set_right xs t.tail i v);
  same = length-set t.tail i v ∙ t.same;
  prop = f t.tail i v q t.prop;
}

pub kept : {P : List ℕ → Type 0} {Q : ℕ → ℕ → Type 0} (xs : List ℕ) {n : ℕ} {s : List ℕ} (m : ℕ) (plan : ℕ → Option Store)
    → ((t : List ℕ) (i v : ℕ) → Q i v → P t → P (set t i v)) → ((k : ℕ) → k < m → At (length xs) Q (plan k)) → Tail P xs n s
    → Tail P xs n (performed m plan s)
kept xs zero plan f g t = t
kept xs (suc m) plan f g t = one_kept xs f (g m (omega arith)) (kept xs m plan f (λ k h. g k (omega arith)) t)
