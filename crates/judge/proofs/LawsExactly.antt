-- The judge says yes exactly to the cut, at most one list is it, and where the region is laid out one is.
use Rattle.std.proofs.Math.Path.{◌≡◌}
use Rattle.std.specs.Prelude.{refl, true, ℕ, ◌+◌, ◌-◌, ◌*◌, ◌≤◌, leb, length, drop}
use Rattle.std.proofs.Common.{sym, ap, ◌∙◌, arith, le-leb, leb-true, eq-eqb, length-append, length-drop}
use mathlib.Core.List.{List, [], ◌∷◌, ◌++◌, append_assoc}
use Rattle.base_big_endian.specs.Meant.{Bytes}
use Rattle.base_sizes.specs.Meant.{most_bytes}
use Rattle.base_version.specs.declared.Version.{Version}
use Rattle.field_frame.specs.LawsLayout.{left_of, frame_here, next_here, framed_here}
use Rattle.layout.specs.Meant.{Field, bytes_of, joined, cutoff_of, LaidOut}
use Rattle.layout.proofs.Laws.{size_of, Along, along, each_of, one_layout}
use Rattle.judge.specs.Meant.{offsets_from, wire_lengths_of, TheCut, Says}
use Rattle.judge.specs.Model.{is_field, is_rest, are_fields, is_cut}
use Rattle.judge.proofs.Laws.{both, passed, by_frame, rest_inside, rest_is, short_enough, on, none_left}

-- fields from a place on, whose places are the lists
record Laid (v : Version) (p : List ℕ) (at : ℕ) (os ns : List ℕ) : Type 0 where
  inside : at ≤ length p
  fields : List Field
  rest : List ℕ
  whole : drop at p ≡ joined fields ++ rest
  along : Along v (cutoff_of v) fields rest
  over : length rest ≤ cutoff_of v
  offsets_are : os ≡ offsets_from at fields
  lengths_are : ns ≡ wire_lengths_of fields

module _ (v : Version) (p : List ℕ) (b : Bytes p) where
  ended : (at : ℕ) → is_rest v p at ≡ true → Laid v p at [] []
  ended at e =
      let l = rest_is v p at e in
      record {
        inside = l.0;
        fields = [];
        rest = drop at p;
        whole = refl;
        along = tt;
        over = omega (arith, l.1, length-drop at p);
        offsets_are = refl;
        lengths_are = refl;
      }

  one_more : (at o n : ℕ) (os ns : List ℕ) → is_field v p at o n ≡ true → Laid v p (at + n) os ns → Laid v p at (o ∷ os) (n ∷ ns)
  one_more at o n os ns e later =
      let w = passed v p at o n e in
      let h = framed_here p b at v w.frame in
      let f = h.field in
      let whole : drop at p ≡ joined (f ∷ later.fields) ++ later.rest =
      h.whole
      ∙ ap (λ (l : List ℕ). bytes_of f ++ l) later.whole
      ∙ sym (append_assoc (bytes_of f) (joined later.fields) later.rest) in
      record {
        inside = omega (arith, w.inside);
        fields = f ∷ later.fields;
        rest = later.rest;
        whole = whole;
        along = (record { more = omega (arith, w.more, left_of p at whole); shaped = h.shaped }, later.along);
        over = later.over;
        offsets_are = rw h.taken (λ i. w.here i ∷ later.offsets_are i);
        lengths_are = rw h.taken (ap (λ (l : List ℕ). n ∷ l) later.lengths_are);
      }

  laid : (at : ℕ) (os ns : List ℕ) → are_fields v p at os ns ≡ true → Laid v p at os ns
  unfolding are_fields
  laid at [] [] e = ended at e
  laid at [] (n ∷ ns) e =
      let z : ◌≡◌ {A = ℕ} 0 1 = cc in
      absurd (omega arith)
  laid at (o ∷ os) [] e =
      let z : ◌≡◌ {A = ℕ} 0 1 = cc in
      absurd (omega arith)
  laid at (o ∷ os) (n ∷ ns) e =
      let l = both (is_field v p at o n) (are_fields v p (at + n) os ns) e in
      one_more at o n os ns l.0 (laid (at + n) os ns l.1)

-- the other way round: the places of fields that are laid out pass
passes : (v : Version) (p : List ℕ) (at : ℕ) (fs : List Field) (rest : List ℕ) → at ≤ length p → drop at p ≡ joined fs ++ rest
    → Along v (cutoff_of v) fs rest
    → length rest ≤ cutoff_of v
    → are_fields v p at (offsets_from at fs) (wire_lengths_of fs) ≡ true
passes v p at [] rest inside whole a over =
    none_left v p at ∙ rest_inside v p at inside ∙ le-leb (length p - at) (cutoff_of v) (omega (arith, left_of p at whole))
passes v p at (f ∷ fs) rest inside whole a over =
    let n = length (bytes_of f) in
    let here : drop at p ≡ bytes_of f ++ (joined fs ++ rest) = whole ∙ append_assoc (bytes_of f) (joined fs) rest in
    let left = left_of p at whole in
    let size = length-append (bytes_of f) (joined fs ++ rest) in
    let assoc = ap (λ (l : List ℕ). length l) (append_assoc (bytes_of f) (joined fs) rest) in
    let field : is_field v p at at n ≡ true =
    by_frame v p at at n (omega (arith, a.0.more)) refl
    ∙ rw (frame_here p at v f (joined fs ++ rest) here a.0.shaped) (eq-eqb n n refl) in
    on v p at at n (offsets_from (at + n) fs) (wire_lengths_of fs) field
    ∙ passes v p (at + n) fs rest (omega (arith, size_of f)) (next_here p at v f (joined fs ++ rest) here) a.1 over

says_yes_to_the_cut : (p : List ℕ) (header : ℕ) (v : Version) (os ns : List ℕ) → TheCut p header v os ns → is_cut p header v os ns ≡ true
says_yes_to_the_cut p header v os ns c =
    rw (c.offsets_are, c.lengths_are)
    (short_enough p header v _ _ c.within
    ∙ passes v p header c.fields c.rest c.inside c.laid.begins.whole
    (along v (cutoff_of v) c.fields c.rest c.laid.begins.each) c.laid.over)

says_yes_to_nothing_else : (p : List ℕ) → Bytes p → (header : ℕ) (v : Version) (os ns : List ℕ) → is_cut p header v os ns ≡ true
    → TheCut p header v os ns
unfolding is_cut
says_yes_to_nothing_else p b header v os ns e =
    let l = both (leb (length p) most_bytes) (are_fields v p header os ns) e in
    let c = laid v p b header os ns l.1 in
    record {
      within = leb-true _ _ l.0;
      inside = c.inside;
      fields = c.fields;
      rest = c.rest;
      laid = record {
        begins = record { whole = c.whole; each = each_of v (cutoff_of v) c.fields c.rest c.along };
        over = c.over;
      };
      offsets_are = c.offsets_are;
      lengths_are = c.lengths_are;
    }

-- THE CLAIM: yes exactly to the cut

pub says : (p : List ℕ) → Bytes p → (header : ℕ) (v : Version) (os ns : List ℕ) → Says (is_cut p header v os ns) (TheCut p header v os ns)
says p b header v os ns = record {
  yes_only_if = says_yes_to_nothing_else p b header v os ns;
  yes_if = says_yes_to_the_cut p header v os ns;
}

-- at most one list is the cut, so at most one gets yes
pub one_list : (p : List ℕ) (header : ℕ) (v : Version) (os ns os' ns' : List ℕ) → TheCut p header v os ns → TheCut p header v os' ns'
    → (os ≡ os') × (ns ≡ ns')
one_list p header v os ns os' ns' c d =
    let same = (one_layout v (cutoff_of v) (drop header p) c.fields d.fields c.rest d.rest c.laid d.laid).0 in
    (c.offsets_are ∙ ap (λ (l : List Field). offsets_from header l) same ∙ sym d.offsets_are, c.lengths_are ∙ ap wire_lengths_of same ∙ sym d.lengths_are)

pub one_yes : (p : List ℕ) → Bytes p → (header : ℕ) (v : Version) (os ns os' ns' : List ℕ) → is_cut p header v os ns ≡ true
    → is_cut p header v os' ns' ≡ true
    → (os ≡ os') × (ns ≡ ns')
one_yes p b header v os ns os' ns' e f =
    one_list p header v os ns os' ns' ((says p b header v os ns).yes_only_if e) ((says p b header v os' ns').yes_only_if f)

-- and where the region is laid out, the places of its fields are
pub some_list : (p : List ℕ) (header : ℕ) (v : Version) (fs : List Field) (rest : List ℕ) → length p ≤ most_bytes → header ≤ length p
    → LaidOut v (cutoff_of v) (drop header p) fs rest
    → is_cut p header v (offsets_from header fs) (wire_lengths_of fs) ≡ true
some_list p header v fs rest h k l =
    says_yes_to_the_cut p header v _ _
    (record { within = h; inside = k; fields = fs; rest = rest; laid = l; offsets_are = refl; lengths_are = refl })

-- four bytes at least for each field: a list that passes is no longer than a quarter of the region
fits : (v : Version) (p : List ℕ) (at : ℕ) (os ns : List ℕ) → are_fields v p at os ns ≡ true → at + 4 * length os ≤ length p
unfolding are_fields
fits v p at [] [] e = omega (arith, (rest_is v p at e).0)
fits v p at [] (n ∷ ns) e =
    let z : ◌≡◌ {A = ℕ} 0 1 = cc in
    absurd (omega arith)
fits v p at (o ∷ os) [] e =
    let z : ◌≡◌ {A = ℕ} 0 1 = cc in
    absurd (omega arith)
fits v p at (o ∷ os) (n ∷ ns) e =
    let l = both (is_field v p at o n) (are_fields v p (at + n) os ns) e in
    omega (arith, (passed v p at o n l.0).least, fits v p (at + n) os ns l.1)

pub no_longer : (p : List ℕ) (header : ℕ) (v : Version) (os ns : List ℕ) → is_cut p header v os ns ≡ true → header + 4 * length os ≤ length p
unfolding is_cut
no_longer p header v os ns e = fits v p header os ns (both (leb (length p) most_bytes) (are_fields v p header os ns) e).1
