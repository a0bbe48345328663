-- A region is laid out in one way only: frames alone decide it.
use Rattle.std.specs.Prelude.{◌≡◌, refl, List, [], ◌∷◌, ◌++◌, ℕ, ◌+◌, ◌≤◌, ◌<◌, length}
use Rattle.std.proofs.Common.{sym, ap, ◌∙◌, append_assoc, arith, length-append}
use Rattle.base_version.specs.declared.Version.{Version}
use Rattle.base_big_endian.specs.Meant.{big_endian, value}
use Rattle.base_big_endian.specs.Laws.{length_big_endian, value_big_endian}
use Rattle.layout.specs.Meant.{Field, stated, bytes_of, joined, Shaped, Stands, LaidOut}

pub size_of : (f : Field) → length (bytes_of f) ≡ stated f + length f.padding
size_of f =
    omega (
      arith,
      length-append (big_endian 2 f.type) (big_endian 2 (stated f) ++ (f.message ++ f.padding)),
      length-append (big_endian 2 (stated f)) (f.message ++ f.padding),
      length-append f.message f.padding,
      length_big_endian 2 f.type,
      length_big_endian 2 (stated f),
    )

pub split : {A : Type 0} (a b : List A) {c d : List A} → length a ≡ length b → a ++ c ≡ b ++ d → (a ≡ b) × (c ≡ d)
split [] [] l e = (refl, e)
split [] (y ∷ b) l e = absurd (omega arith)
split (x ∷ a) [] l e = absurd (omega arith)
split (x ∷ a) (y ∷ b) {c} {d} l e =
    let h : x ≡ y = cc in
    let t : a ++ c ≡ b ++ d = cc in
    let r = split a b (omega arith) t in
    ((λ i. h i ∷ r.0 i), r.1)

-- a number of two bytes is decided by them
pub same_number : (m n : ℕ) → m < 65536 → n < 65536 → big_endian 2 m ≡ big_endian 2 n → m ≡ n
same_number m n h k e = sym (value_big_endian 2 m h) ∙ ap value e ∙ value_big_endian 2 n k

pub one_field : (v : Version) (f g : Field) {tl tl' : List ℕ} → Shaped v f → Shaped v g → bytes_of f ++ tl ≡ bytes_of g ++ tl'
    → (f ≡ g) × (tl ≡ tl')
one_field v f g {tl} {tl'} sf sg e =
    let e₁ =
    split (big_endian 2 f.type) (big_endian 2 g.type) (length_big_endian 2 f.type ∙ sym (length_big_endian 2 g.type))
    (sym (append_assoc (big_endian 2 f.type) (big_endian 2 (stated f) ++ (f.message ++ f.padding)) tl)
    ∙ e
    ∙ append_assoc (big_endian 2 g.type) (big_endian 2 (stated g) ++ (g.message ++ g.padding)) tl') in
    let e₂ =
    split (big_endian 2 (stated f)) (big_endian 2 (stated g)) (length_big_endian 2 (stated f) ∙ sym (length_big_endian 2 (stated g)))
    (sym (append_assoc (big_endian 2 (stated f)) (f.message ++ f.padding) tl)
    ∙ e₁.1
    ∙ append_assoc (big_endian 2 (stated g)) (g.message ++ g.padding) tl') in
    let types : f.type ≡ g.type = same_number f.type g.type sf.type_fits sg.type_fits e₁.0 in
    let lengths : stated f ≡ stated g = same_number (stated f) (stated g) sf.length_fits sg.length_fits e₂.0 in
    let e₃ =
    split f.message g.message (omega arith)
    (sym (append_assoc f.message f.padding tl) ∙ e₂.1 ∙ append_assoc g.message g.padding tl') in
    let e₄ = split f.padding g.padding (omega (arith, sf, sg)) e₃.1 in
    ((λ i. record { type = types i; message = e₃.0 i; padding = e₄.0 i }), e₄.1)

-- a field has bytes
pub not_nothing : (f : Field) (tl : List ℕ) → bytes_of f ++ tl ≡ [] → ⊥
not_nothing f tl e =
    let z = ap (λ (l : List ℕ). length l) e in
    omega (arith, length-append (bytes_of f) tl, size_of f)

-- the same as a recursion on the fields, for proofs
abbrev pub Along : Version → ℕ → List Field → List ℕ → Type 0
Along v c [] left = Unit {0}
Along v c (f ∷ fs) left = Stands v c f (length (joined (f ∷ fs) ++ left)) × Along v c fs left

pub along : (v : Version) (c : ℕ) (fs : List Field) (left : List ℕ)
    → ((before : List Field) (f : Field) (later : List Field) → fs ≡ before ++ (f ∷ later) → Stands v c f (length (joined (f ∷ later) ++ left)))
    → Along v c fs left
along v c [] left h = tt
along v c (f ∷ fs) left h =
    (h [] f fs refl, along v c fs left (λ ys g gs q. h (f ∷ ys) g gs (ap (λ (l : List Field). f ∷ l) q)))

pub each_of : (v : Version) (c : ℕ) (fs : List Field) (left : List ℕ) → Along v c fs left → (before : List Field) (f : Field) (later : List Field)
    → fs ≡ before ++ (f ∷ later)
    → Stands v c f (length (joined (f ∷ later) ++ left))
each_of v c fs left h before f later q = go before (rw q at h)
  where
    go : (ys : List Field) → Along v c (ys ++ (f ∷ later)) left → Stands v c f (length (joined (f ∷ later) ++ left))
    go [] l = l.0
    go (y ∷ ys) l = go ys l.1

same_fields : (v : Version) (c : ℕ) (xs ys : List Field) (r t : List ℕ) → Along v c xs r → length r ≤ c → Along v c ys t
    → length t ≤ c
    → joined xs ++ r ≡ joined ys ++ t
    → (xs ≡ ys) × (r ≡ t)
same_fields v c [] [] r t a o b p e = (refl, e)
same_fields v c [] (y ∷ ys) r t a o b p e =
    let n = ap (λ (l : List ℕ). length l) e in
    absurd (omega (arith, b.0.more, o, n))
same_fields v c (x ∷ xs) [] r t a o b p e =
    let n = ap (λ (l : List ℕ). length l) e in
    absurd (omega (arith, a.0.more, p, n))
same_fields v c (x ∷ xs) (y ∷ ys) r t a o b p e =
    let first =
    one_field v x y a.0.shaped b.0.shaped
    (sym (append_assoc (bytes_of x) (joined xs) r) ∙ e ∙ append_assoc (bytes_of y) (joined ys) t) in
    let s = same_fields v c xs ys r t a.1 o b.1 p first.1 in
    ((λ j. first.0 j ∷ s.0 j), s.1)

-- the theorem: a region has one layout
pub one_layout : (v : Version) (c : ℕ) (region : List ℕ) (xs ys : List Field) (r t : List ℕ) → LaidOut v c region xs r → LaidOut v c region ys t
    → (xs ≡ ys) × (r ≡ t)
one_layout v c region xs ys r t a b =
    same_fields v c xs ys r t (along v c xs r a.begins.each) a.over (along v c ys t b.begins.each) b.over
    (sym a.begins.whole ∙ b.begins.whole)
