-- One turn of the judge, whatever list it goes over: what a pair that passes says of its place, and what is left to compare.
use Rattle.std.specs.Prelude.{◌≡◌, refl, Bool, true, false, ◌&&◌, List, [], ◌∷◌, ℕ, suc, ◌+◌, ◌-◌, ◌≤◌, ◌<◌, ltb, leb, eqb, length, get_or, drop, Result, Ok, Err}
use Rattle.std.proofs.Common.{sym, ap, ◌∙◌, arith, le-leb, lt-ltb, le-ltb, eq-eqb, ne_eqb, ltb-true, leb-true, eqb-true, drop_of_length-le, drop-cons}
use Rattle.std.proofs.lemmas.Bool.{lt-leb}
use Rattle.base_answers.specs.declared.Refusal.{Refusal}
use Rattle.base_sizes.specs.Meant.{most_bytes}
use Rattle.base_version.specs.declared.Version.{Version}
use Rattle.field_frame.specs.Model.{told_of, framed, frame_at}
use Rattle.field_frame.specs.Laws.{found, answered}
use Rattle.field_frame.specs.declared.Frame.{Frame}
use Rattle.layout.specs.Meant.{cutoff_of}
use Rattle.judge.specs.Model.{takes, is_field, is_rest, are_fields, is_cut}

pub both : (a b : Bool) → a && b ≡ true → (a ≡ true) × (b ≡ true)
both true b e = (refl, e)
both false b e =
    let z : ◌≡◌ {A = ℕ} 0 1 = cc in
    absurd (omega arith)

-- what a pair that passes says: a field has to begin there, and it is the one whose frame stands there
pub record Passed (v : Version) (p : List ℕ) (at offset n : ℕ) : Type 0 where
  pub more : cutoff_of v < length p - at
  pub here : offset ≡ at
  pub type : ℕ
  pub message : ℕ
  pub frame : frame_at v p at ≡ framed type message n
  pub least : 4 ≤ n
  pub inside : at + n ≤ length p

taken_is : (v : Version) (p : List ℕ) (at n : ℕ) (x : Result Frame Refusal) → frame_at v p at ≡ x → takes n x ≡ true
    → (t : ℕ) × ((m : ℕ) × (frame_at v p at ≡ framed t m n))
taken_is v p at n (Err r) e h =
    let z : ◌≡◌ {A = ℕ} 0 1 = cc in
    absurd (omega arith)
taken_is v p at n (Ok f) e h =
    (f.type_id, (f.message_len, e ∙ ap (λ j. framed f.type_id f.message_len j) (sym (eqb-true n f.wire_length h))))

pub passed : (v : Version) (p : List ℕ) (at offset n : ℕ) → is_field v p at offset n ≡ true → Passed v p at offset n
unfolding is_field
passed v p at offset n e =
    let l = both (ltb (cutoff_of v) (length p - at) && eqb offset at) (takes n (frame_at v p at)) e in
    let k = both (ltb (cutoff_of v) (length p - at)) (eqb offset at) l.0 in
    let f = taken_is v p at n (frame_at v p at) refl l.1 in
    let w = found v p at f.1.1 in
    record {
      more = ltb-true _ _ k.0;
      here = eqb-true _ _ k.1;
      type = f.0;
      message = f.1.0;
      frame = f.1.1;
      least = omega (arith, w);
      inside = omega (arith, w);
    }

-- the tests in their order: too little is left for a field, it would begin elsewhere, and then its frame decides
pub too_little : (v : Version) (p : List ℕ) (at o n : ℕ) → length p - at ≤ cutoff_of v → is_field v p at o n ≡ false
unfolding is_field
too_little v p at o n h = rw (le-ltb (cutoff_of v) (length p - at) h)

pub elsewhere : (v : Version) (p : List ℕ) (at o n : ℕ) → (o ≡ at → ⊥) → is_field v p at o n ≡ false
unfolding is_field
elsewhere v p at o n h = rw (ne_eqb o at h) (go (ltb (cutoff_of v) (length p - at)))
  where
    go : (b : Bool) → b && false && takes n (frame_at v p at) ≡ false
    go true = refl
    go false = refl

pub by_frame : (v : Version) (p : List ℕ) (at o n : ℕ) → cutoff_of v < length p - at → o ≡ at
    → is_field v p at o n ≡ takes n (frame_at v p at)
unfolding is_field
by_frame v p at o n h e = rw (lt-ltb (cutoff_of v) (length p - at) h, eq-eqb o at e)

-- so an answer that promises to be the frame decides
pub frame_decides : (v : Version) (p : List ℕ) (at o n : ℕ) → cutoff_of v < length p - at → o ≡ at → {f g : Result Frame Refusal}
    → told_of f ≡ told_of (frame_at v p at) → f ≡ g → takes n g ≡ is_field v p at o n
frame_decides v p at o n h e same g = sym (by_frame v p at o n h e ∙ ap (takes n) (answered v p at same g))

pub rest_past : (v : Version) (p : List ℕ) (at : ℕ) → length p < at → is_rest v p at ≡ false
unfolding is_rest
rest_past v p at h = rw (lt-leb at (length p) h)

pub rest_inside : (v : Version) (p : List ℕ) (at : ℕ) → at ≤ length p → is_rest v p at ≡ leb (length p - at) (cutoff_of v)
unfolding is_rest
rest_inside v p at h = rw (le-leb at (length p) h)

pub rest_is : (v : Version) (p : List ℕ) (at : ℕ) → is_rest v p at ≡ true → (at ≤ length p) × (length p - at ≤ cutoff_of v)
unfolding is_rest
rest_is v p at e =
    let l = both (leb at (length p)) (leb (length p - at) (cutoff_of v)) e in
    (leb-true at (length p) l.0, leb-true (length p - at) (cutoff_of v) l.1)

pub too_long : (p : List ℕ) (header : ℕ) (v : Version) (os ns : List ℕ) → most_bytes < length p → is_cut p header v os ns ≡ false
unfolding is_cut
too_long p header v os ns h = rw (lt-leb _ _ h)

pub short_enough : (p : List ℕ) (header : ℕ) (v : Version) (os ns : List ℕ) → length p ≤ most_bytes
    → is_cut p header v os ns ≡ are_fields v p header os ns
unfolding is_cut
short_enough p header v os ns h = rw (le-leb _ _ h)

pub unequal : (v : Version) (p : List ℕ) (at : ℕ) (os ns : List ℕ) → (length os ≡ length ns → ⊥) → are_fields v p at os ns ≡ false
unfolding are_fields
unequal v p at [] [] h = absurd (h refl)
unequal v p at [] (n ∷ ns) h = refl
unequal v p at (o ∷ os) [] h = refl
unequal v p at (o ∷ os) (n ∷ ns) h = go (is_field v p at o n) (unequal v p (at + n) os ns (λ e. h (ap suc e)))
  where
    go : (b : Bool) → are_fields v p (at + n) os ns ≡ false → b && are_fields v p (at + n) os ns ≡ false
    go true e = e
    go false e = refl

-- a pair that passes leaves the pairs after it, and one that does not ends it
pub on : (v : Version) (p : List ℕ) (at o n : ℕ) (os ns : List ℕ) → is_field v p at o n ≡ true
    → are_fields v p at (o ∷ os) (n ∷ ns) ≡ are_fields v p (at + n) os ns
unfolding are_fields
on v p at o n os ns e = rw e

pub wrong : (v : Version) (p : List ℕ) (at o n : ℕ) (os ns : List ℕ) → is_field v p at o n ≡ false
    → are_fields v p at (o ∷ os) (n ∷ ns) ≡ false
unfolding are_fields
wrong v p at o n os ns e = rw e

pub none_left : (v : Version) (p : List ℕ) (at : ℕ) → are_fields v p at [] [] ≡ is_rest v p at
unfolding are_fields
none_left v p at = refl

-- the same of pair number i
abbrev pub is_pair : Version → List ℕ → ℕ → List ℕ → List ℕ → ℕ → Bool
is_pair v p at os ns i = is_field v p at (get_or os i 0) (get_or ns i 0)

module _ (v : Version) (p : List ℕ) (at i : ℕ) (os ns : List ℕ) (e : length os ≡ length ns) where
  pub on_at : i < length os → is_pair v p at os ns i ≡ true
      → are_fields v p at (drop i os) (drop i ns) ≡ are_fields v p (at + get_or ns i 0) (drop (i + 1) os) (drop (i + 1) ns)
  on_at h f =
      let s : i + 1 ≡ suc i = omega arith in
      rw (s, drop-cons os i 0 h, drop-cons ns i 0 (omega arith)) (on v p at (get_or os i 0) (get_or ns i 0) (drop (suc i) os) (drop (suc i) ns) f)

  pub wrong_at : i < length os → is_pair v p at os ns i ≡ false → are_fields v p at (drop i os) (drop i ns) ≡ false
  wrong_at h f =
      rw (drop-cons os i 0 h, drop-cons ns i 0 (omega arith)) (wrong v p at (get_or os i 0) (get_or ns i 0) (drop (suc i) os) (drop (suc i) ns) f)

  pub none_at : length os ≤ i → are_fields v p at (drop i os) (drop i ns) ≡ is_rest v p at
  none_at h =
      let k : length ns ≤ i = omega arith in
      rw (drop_of_length-le os h, drop_of_length-le ns k) (none_left v p at)
