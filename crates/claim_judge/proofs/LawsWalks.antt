-- Two walks over one region: one that stops early, and one that comes to the end. The first is the beginning of the second.
use Rattle.std.specs.Prelude.{◌≡◌, refl, List, [], ◌∷◌, ◌++◌, ℕ, ◌≤◌, ◌<◌, length}
use Rattle.std.proofs.Common.{sym, ap, ◌∙◌, append_assoc, arith}
use Rattle.base_version.specs.declared.Version.{Version}
use Rattle.layout.specs.Meant.{Field, bytes_of, joined, Front, Begins, LaidOut}
use Rattle.layout.proofs.Laws.{one_field, Along, along, each_of}

joined_both : (fs gs : List Field) → joined (fs ++ gs) ≡ joined fs ++ joined gs
joined_both [] gs = refl
joined_both (f ∷ fs) gs =
    ap (λ (l : List ℕ). bytes_of f ++ l) (joined_both fs gs) ∙ sym (append_assoc (bytes_of f) (joined fs) (joined gs))

-- what is left of the second walk where the first one stops
pub record Further (v : Version) (c : ℕ) (fs gs : List Field) (left rest : List ℕ) : Type 0 where
  pub later : List Field
  pub same : gs ≡ fs ++ later
  pub whole : left ≡ joined later ++ rest
  pub along_later : Along v c later rest

further : (v : Version) (c : ℕ) (fs gs : List Field) (left rest : List ℕ) → Along v c fs left → Along v c gs rest → length rest ≤ c
    → joined fs ++ left ≡ joined gs ++ rest
    → Further v c fs gs left rest
further v c [] gs left rest a b o e = record { later = gs; same = refl; whole = e; along_later = b }
further v c (f ∷ fs) [] left rest a b o e =
    let n = ap (λ (l : List ℕ). length l) e in
    absurd (omega (arith, a.0.more))
further v c (f ∷ fs) (g ∷ gs) left rest a b o e =
    let first =
    one_field v f g a.0.shaped b.0.shaped
    (sym (append_assoc (bytes_of f) (joined fs) left) ∙ e ∙ append_assoc (bytes_of g) (joined gs) rest) in
    let r = further v c fs gs left rest a.1 b.1 o first.1 in
    record {
      later = r.later;
      same = (λ i. sym first.0 i ∷ r.same i);
      whole = r.whole;
      along_later = r.along_later;
    }

module _ (v : Version) (c : ℕ) (region : List ℕ) (fs : List Field) (left : List ℕ) (first : Begins v c region fs left) where
  -- a region that is laid out begins with whatever fields a walk over it has cut
  pub begins_with : (gs : List Field) (rest : List ℕ) → LaidOut v c region gs rest → Further v c fs gs left rest
  begins_with gs rest l =
      further v c fs gs left rest (along v c fs left first.each) (along v c gs rest l.begins.each) l.over
      (sym first.whole ∙ l.begins.whole)

  -- and what is left is laid out as the others
  pub left_laid : (gs : List Field) (rest : List ℕ) → LaidOut v c region gs rest → (m : Further v c fs gs left rest)
      → LaidOut v c left m.later rest
  left_laid gs rest l m = record {
    begins = record { whole = m.whole; each = each_of v c m.later rest m.along_later };
    over = l.over;
  }

  both_along : (xs ys : List Field) (rest : List ℕ) → Along v c xs (joined ys ++ rest) → Along v c ys rest → Along v c (xs ++ ys) rest
  both_along [] ys rest a b = b
  both_along (x ∷ xs) ys rest a b =
      let e : joined (x ∷ (xs ++ ys)) ++ rest ≡ joined (x ∷ xs) ++ (joined ys ++ rest) =
      ap (λ (l : List ℕ). l ++ rest) (joined_both (x ∷ xs) ys) ∙ append_assoc (joined (x ∷ xs)) (joined ys) rest in
      (record { more = rw e a.0.more; shaped = a.0.shaped }, both_along xs ys rest a.1 b)

  -- if what is left is laid out, so is the whole
  pub whole_laid : (gs : List Field) (rest : List ℕ) → LaidOut v c left gs rest → LaidOut v c region (fs ++ gs) rest
  whole_laid gs rest l =
      let w = l.begins.whole in
      record {
        begins = record {
          whole =
              first.whole
              ∙ ap (λ (x : List ℕ). joined fs ++ x) w
              ∙ sym (append_assoc (joined fs) (joined gs) rest)
              ∙ ap (λ (x : List ℕ). x ++ rest) (sym (joined_both fs gs));
          each =
              each_of v c (fs ++ gs) rest
              (both_along fs gs rest (rw w at (along v c fs left first.each)) (along v c gs rest l.begins.each));
        };
        over = l.over;
      }

  -- where more is left than may be left over, and no field stands in front of it, the region is not laid out at all
  pub not_laid : c < length left → ((f : Field) → Front v left f → ⊥) → (gs : List Field) (rest : List ℕ) → LaidOut v c region gs rest → ⊥
  not_laid more none_there gs rest l = go (begins_with gs rest l)
    where
      stands : (later : List Field) → left ≡ joined later ++ rest → Along v c later rest → ⊥
      stands [] e a = omega (arith, l.over, ap (λ (x : List ℕ). length x) e)
      stands (g ∷ later) e a =
          none_there g
          (record { later = joined later ++ rest; shaped = a.0.shaped; whole = e ∙ append_assoc (bytes_of g) (joined later) rest })

      go : Further v c fs gs left rest → ⊥
      go m = stands m.later m.whole m.along_later
