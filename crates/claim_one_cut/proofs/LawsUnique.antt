-- There is only one cut: the layout rules decide which fields there are, and the results which of them are opened.
use Rattle.std.specs.Prelude.{◌≡◌, refl, List, [], ◌∷◌, ℕ, length}
use Rattle.std.proofs.Common.{sym, ap, ◌∙◌, append-nil, arith, length-append}
use Rattle.base_version.specs.declared.Version.{Version}
use Rattle.layout.specs.Meant.{Field, bytes_of, joined, cutoff_of, LaidOut}
use Rattle.layout.proofs.Laws.{size_of, Along, each_of, one_layout}
use Rattle.field_contents.specs.Meant.{All}
use Rattle.read_packet.specs.Meant.{Input}
use Rattle.claim_one_cut.specs.MeantCut.{Item, plain, shut, opened, field_of, fields_of, Inner, Filled, Holds, Cut}
use Rattle.claim_one_cut.proofs.LawsLaid.{next, Laid, laid}

-- a plaintext is laid out as its fields, with nothing left over
filled_along : (v : Version) (fs : List Field) → All (Inner v) fs → Along v 0 fs []
filled_along v [] h = tt
filled_along v (f ∷ fs) h = (
  record {
    more = omega (arith, length-append (bytes_of f) (joined fs), length-append (joined (f ∷ fs)) [], size_of f);
    shaped = h.0.shaped;
  },
  filled_along v fs h.1,
)

filled_out : (v : Version) (text : List ℕ) (fs : List Field) → Filled v text fs → LaidOut v 0 text fs []
filled_out v text fs h = record {
  begins = record {
    whole = h.whole ∙ sym (append-nil (joined fs));
    each = each_of v 0 fs [] (filled_along v fs h.each);
  };
  over = omega arith;
}

one_plaintext : (v : Version) (text : List ℕ) (fs gs : List Field) → Filled v text fs → Filled v text gs → fs ≡ gs
one_plaintext v text fs gs a b = (one_layout v 0 text fs gs [] [] (filled_out v text fs a) (filled_out v text gs b)).0

same_item : (i : Input) (k : ℕ) (x y : Item) → Holds i k x → Holds i k y → field_of x ≡ field_of y → x ≡ y
same_item i k (plain f) (plain g) a b e = ap plain e
same_item i k (plain f) (shut g) a b e = absurd (a.not_sealed (ap (λ (z : Field). z.type) e ∙ b.sealed))
same_item i k (plain f) (opened g gs) a b e = absurd (a.not_sealed (ap (λ (z : Field). z.type) e ∙ b.sealed))
same_item i k (shut f) (plain g) a b e = absurd (b.not_sealed (sym (ap (λ (z : Field). z.type) e) ∙ a.sealed))
same_item i k (shut f) (shut g) a b e = ap shut e
same_item i k (shut f) (opened g gs) a b e = absurd (omega arith)
same_item i k (opened f fs) (plain g) a b e = absurd (b.not_sealed (sym (ap (λ (z : Field). z.type) e) ∙ a.sealed))
same_item i k (opened f fs) (shut g) a b e = absurd (omega arith)
same_item i k (opened f fs) (opened g gs) a b e =
    let r = one_plaintext _ _ fs gs a.filled b.filled in
    λ j. opened (e j) (r j)

-- items over the same fields
same_items : (i : Input) (k : ℕ) (xs ys : List Item) (r t : List ℕ) → Laid i k xs r → Laid i k ys t → fields_of xs ≡ fields_of ys → xs ≡ ys
same_items i k [] [] r t a b e = refl
same_items i k [] (y ∷ ys) r t a b e =
    let n = ap (λ (l : List Field). length l) e in
    absurd (omega arith)
same_items i k (x ∷ xs) [] r t a b e =
    let n = ap (λ (l : List Field). length l) e in
    absurd (omega arith)
same_items i k (x ∷ xs) (y ∷ ys) r t a b e =
    let first : field_of x ≡ field_of y = cc in
    let later : fields_of xs ≡ fields_of ys = cc in
    let h : x ≡ y = same_item i k x y a.2 b.2 first in
    let b' : Laid i (next k x) ys t = rw (ap (λ (z : Item). next k z) (sym h)) at b.3 in
    let s = same_items i (next k x) xs ys r t a.3 b' later in
    λ j. h j ∷ s j

-- the theorem
pub only_one : (i : Input) (xs ys : List Item) (r t : List ℕ) → Cut i xs r → Cut i ys t → (xs ≡ ys) × (r ≡ t)
only_one i xs ys r t a b =
    let v = i.version in
    let one =
    one_layout v (cutoff_of v) _ (fields_of xs) (fields_of ys) r t (record { begins = a.led.begins; over = a.over })
    (record { begins = b.led.begins; over = b.over }) in
    (same_items i 0 xs ys r t (laid i xs r a.led) (laid i ys t b.led) one.0, one.1)
