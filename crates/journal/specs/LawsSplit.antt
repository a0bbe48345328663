-- An image is its entries and a tail: each image splits so, and in one way.
use Rattle.std.specs.Prelude.{◌≡◌, refl, List, [], ◌∷◌, ◌++◌, ℕ, zero, suc, ◌+◌, ◌-◌, ◌≤◌, ◌<◌, length, take, drop}
use Rattle.std.proofs.Common.{sym, ◌∙◌, ap, append_assoc, arith, eq-eqb, ne_eqb, length-append, length-drop, take-append-drop, get_or-take, length-take-le}
use Rattle.std.proofs.Math.Seq.{take-append_seam, drop-append_seam}
use Rattle.journal.specs.Model.{whole_len, standing, len_here, entries_from, entries, flat, end_of}
use Rattle.journal.specs.LawsEntry.{Stands, stands, found, shape, same, further}

pub data Entries : List (List ℕ) → Type 0 where
  none : Entries []
  one : {e : List ℕ} {es : List (List ℕ)} → Stands e (length e) → 0 < length e → Entries es → Entries (e ∷ es)

pub record Split (s : List ℕ) (es : List (List ℕ)) (t : List ℕ) : Type 0 where
  pub whole : s ≡ flat es ++ t
  pub each : Entries es

pub stop : (f : ℕ) (s : List ℕ) → len_here s ≡ 0 → entries_from f s ≡ []
unfolding entries_from
stop zero s e = refl
stop (suc f) s e = rw (eq-eqb _ _ e)

pub onward : (f : ℕ) (s : List ℕ) (n : ℕ) → len_here s ≡ n → 0 < n → entries_from (suc f) s ≡ take n s ∷ entries_from f (drop n s)
unfolding entries_from
onward f s n e h = rw (e, ne_eqb n 0 (λ z. omega arith))

-- a split is what the walk finds
pub walked : (f : ℕ) {es : List (List ℕ)} (t : List ℕ) → Entries es → len_here t ≡ 0 → length es ≤ f → entries_from f (flat es ++ t) ≡ es
walked f t none e h = stop f t e
walked zero t (one r p d) e h = absurd (omega arith)
walked (suc f) t (one {e = x} {es = es} r p d) e h =
    let z = walked f t d e (omega arith) in
    let n = stands (further x (flat es ++ t) r p) in
    rw append_assoc (onward f (x ++ (flat es ++ t)) (length x) n p ∙ rw (take-append_seam x (flat es ++ t), drop-append_seam x (flat es ++ t), z))

fewer : {es : List (List ℕ)} → Entries es → length es ≤ length (flat es)
fewer none = omega arith
fewer (one {e = x} {es = es} r p d) = let z = fewer d in omega (arith, length-append x (flat es))

pub found_of : {s : List ℕ} {es : List (List ℕ)} {t : List ℕ} → Split s es t → len_here t ≡ 0 → entries s ≡ es
unfolding entries
found_of {s} {es} {t} x e =
    let z = fewer x.each in
    rw x.whole (walked (length (flat es ++ t)) t x.each e (omega (arith, length-append (flat es) t)))

pub end_of_law : {s : List ℕ} {es : List (List ℕ)} {t : List ℕ} → Split s es t → len_here t ≡ 0 → end_of s ≡ length (flat es)
unfolding end_of
end_of_law x e = rw (found_of x e)

-- each image splits
pub record Splits (s : List ℕ) (es : List (List ℕ)) : Type 0 where
  pub tail : List ℕ
  pub split : Split s es tail
  pub ends : len_here tail ≡ 0

pub first_of : {s : List ℕ} {n : ℕ} → Stands s n → 0 < n → Stands (take n s) n
first_of {s} {n} r h =
    let x = shape r h in
    same r (get_or-take n s 0 0 (omega arith)) (get_or-take n s 1 0 (omega arith)) (get_or-take n s 2 0 (omega arith)) (get_or-take n s 3 0 (omega arith))
    (get_or-take n s (n - 1) 0 (omega arith))

nil_nothing : len_here [] ≡ 0
unfolding len_here standing whole_len
nil_nothing = refl

pub splits_from : (f : ℕ) (s : List ℕ) → length s ≤ f → Splits s (entries_from f s)
splits_from zero [] h =
    rw (stop zero [] nil_nothing) (record { tail = []; split = record { whole = refl; each = none }; ends = nil_nothing })
splits_from zero (x ∷ s) h = absurd (omega arith)
splits_from (suc f) s h = go (λ r k. splits_from f r k) (len_here s) refl
  where
    go : ((r : List ℕ) → length r ≤ f → Splits r (entries_from f r)) → (n : ℕ) → len_here s ≡ n → Splits s (entries_from (suc f) s)
    go ih zero e = rw (stop (suc f) s e) (record { tail = s; split = record { whole = refl; each = none }; ends = e })
    go ih (suc n) e =
        let r = found s (suc n) e (omega arith) in
        let x = shape r (omega arith) in
        let z = ih (drop (suc n) s) (omega (arith, length-drop (suc n) s)) in
        let l = length-take-le (suc n) s x.inside in
        let w : s ≡ (take (suc n) s ++ flat (entries_from f (drop (suc n) s))) ++ z.tail =
        sym (rw (append_assoc, ← z.split.whole) (take-append-drop (suc n) s)) in
        rw (onward f s (suc n) e (omega arith)) (record {
          tail = z.tail;
          split = record { whole = w; each = one {e = take (suc n) s} (rw l (first_of r (omega arith))) (rw l (omega arith)) z.split.each };
          ends = z.ends;
        })

pub splits : (s : List ℕ) → Splits s (entries s)
unfolding entries
splits s = splits_from (length s) s (omega arith)

-- an entry has at least one byte
pub fewer_entries : (s : List ℕ) → length (entries s) ≤ length s
fewer_entries s =
    let x = splits s in
    let l : length s ≡ length (flat (entries s)) + length x.tail =
    ap length x.split.whole ∙ length-append (flat (entries s)) x.tail in
    omega (arith, fewer x.split.each)

pub end_inside : (s : List ℕ) → end_of s ≤ length s
unfolding end_of
end_inside s =
    let x = splits s in
    let l : length s ≡ length (flat (entries s)) + length x.tail =
    ap length x.split.whole ∙ length-append (flat (entries s)) x.tail in
    omega arith
