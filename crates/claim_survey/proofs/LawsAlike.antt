-- How two packets come to have one survey: their fields are alike, and where these end the surveys agree.
use Rattle.std.specs.Prelude.{Result, Ok, Err, Option, ◌≡◌, Bool, true, false, leb, eqb, drop}
use Rattle.std.proofs.Math.Path.{refl, sym, ap}
use Rattle.std.proofs.Common.{◌∙◌, zero-add, suc-add, eqb-true, length-take, length-drop, take-take}
use mathlib.Core.List.{List, [], ◌∷◌, ◌++◌, append_assoc}
use Prim.Native.Nat.{ℕ, zero, suc, ◌+◌, ◌-◌}
use native.Mathlib.Omega.{arith}
use Rattle.std.proofs.lemmas.Bool.{eqb-false}
use Rattle.std.proofs.Math.Dec.{ltb}
use Rattle.std.proofs.Math.ListN.{length, take, length-append}
use Rattle.std.proofs.Math.Seq.{drop-drop, take-nil}
use Rattle.base_answers.specs.Meant.{pick}
use Rattle.base_answers.specs.declared.Refusal.TheVariants.{HeaderPastEnd, PacketTooLong, TooManyFields}
use Rattle.base_answers.specs.declared.Refusal.{Refusal}
use Rattle.base_version.specs.declared.Version.{Version}
use Rattle.base_big_endian.specs.Meant.{number_at}
use Rattle.base_sizes.specs.Meant.{most_bytes}
use Rattle.field_contents.specs.Meant.{IsSealed}
use Rattle.field_frame.specs.Model.{framed, frame_at, message_at}
use Rattle.field_frame.specs.LawsLayout.{frame_here, message_here, next_here}
use Rattle.field_frame.specs.declared.Frame.{Frame}
use Rattle.field_sealed.specs.Model.{sealed_parts}
use Rattle.field_sealed.specs.declared.Sealed.{Sealed as Lengths}
use Rattle.layout.specs.Meant.{Field, bytes_of, joined, Shaped, cutoff_of, Begins}
use Rattle.layout.proofs.Laws.{size_of, Along, along}
use Rattle.read_entries.specs.Meant.{capacity, blanks, TableReply}
use Rattle.read_entries.specs.Model.{entry_of, Found, ended, then}
use Rattle.read_survey.specs.Model.{on_lengths, on_outer_frame, outer_at, Fault, stopped_at, on_outer, survey_from, found_in, survey_reply, surveyed_with, survey_of}
use Rattle.read_survey.specs.Laws.{table_whole}
use Rattle.read_survey.specs.declared.Outer.{Outer}
use Rattle.read_survey.specs.declared.Outer.TheVariants.{Other, Sealed}
use Rattle.read_survey.specs.declared.SurveyFault.{SurveyFault}
use Rattle.claim_one_cut.proofs.LawsTables.{sealed_kind}
use Rattle.claim_survey.proofs.LawsOuter.{plain_outer}
use Rattle.claim_survey.specs.Meant.{Alike, AllAlike}

-- bytes that agree do so in each part: type and length of a frame, frame and inner lengths, both inner lengths
middle : (n m : ℕ) (l : List ℕ) → drop n (take (n + m) l) ≡ take m (drop n l)
middle zero m l = ap (λ (k : ℕ). take k l) (zero-add m)
middle (suc n) m [] = ap (λ (l : List ℕ). drop (suc n) l) (take-nil (suc n + m)) ∙ sym (take-nil m)
middle (suc n) m (x ∷ xs) = ap (λ (k : ℕ). drop (suc n) (take k (x ∷ xs))) (suc-add n m) ∙ middle n m xs

parts_same : (n m : ℕ) (k l : List ℕ) → take (n + m) k ≡ take (n + m) l → (take n k ≡ take n l) × (take m (drop n k) ≡ take m (drop n l))
parts_same n m k l e = (
  sym (take-take n (n + m) k (omega arith)) ∙ ap (λ (x : List ℕ). take n x) e ∙ take-take n (n + m) l (omega arith),
  sym (middle n m k) ∙ ap (λ (x : List ℕ). drop n x) e ∙ middle n m l,
)

take_swap : (m n : ℕ) (l : List ℕ) → take m (take n l) ≡ take n (take m l)
take_swap zero n l = sym (take-nil n)
take_swap (suc m) zero l = refl
take_swap (suc m) (suc n) [] = refl
take_swap (suc m) (suc n) (x ∷ xs) = ap (λ (r : List ℕ). x ∷ r) (take_swap m n xs)

lengths_alike : (l m : List ℕ) → length l ≡ length m → take 4 l ≡ take 4 m → sealed_parts l ≡ sealed_parts m
unfolding sealed_parts number_at
lengths_alike l m size e =
    let both = parts_same 2 2 l m e in
    rw (size, both.0, both.1)

-- what a survey sees of a sealed field
seal_seen : (v : Version) (p : List ℕ) (at : ℕ) (f : Field) (tl : List ℕ) → drop at p ≡ bytes_of f ++ tl → Shaped v f → IsSealed f
    → outer_at v p at ≡ on_lengths (length (bytes_of f)) (sealed_parts f.message)
unfolding outer_at
seal_seen v p at f tl e shaped h = rw (frame_here p at v f tl e shaped, h, sealed_kind v, message_here p at v f tl e)

-- a survey goes on `k` bytes later
abbrev pub Takes : Result Outer Refusal → ℕ → Type 0
Takes (Err r) k = ⊥
Takes (Ok (Other j)) k = j ≡ k
Takes (Ok (Sealed nonce ciphertext j)) k = j ≡ k

pub takes_all : (j : ℕ) (l : Result Lengths Refusal) (k : ℕ) → Takes (on_lengths j l) k → j ≡ k
takes_all j (Ok s) k h = h
takes_all j (Err r) k h = absurd h

-- what follows a test only matters where it is reached
pick_same : {A : Type 0} (b : Bool) (x y z : A) → (pick b x y ≡ y → y ≡ z) → pick b x y ≡ pick b x z
pick_same true x y z h = refl
pick_same false x y z h = h refl

-- what follows a field only matters where the survey goes on, and the fault is then found there
onward : (n at : ℕ) (o : Result Outer Refusal) (rest others : ℕ → ℕ → Found Fault)
    → ((i k : ℕ) → Takes o k → (rest i k).fault ≡ (on_outer n at o rest).fault → rest i k ≡ others i k)
    → on_outer n at o rest ≡ on_outer n at o others
onward n at (Err r) rest others h = refl
onward n at (Ok (Other k)) rest others h = h n k refl refl
onward n at (Ok (Sealed nonce ciphertext k)) rest others h =
    let e = entry_of nonce ciphertext at 0 in
    pick_same (leb capacity n) (stopped_at TooManyFields at) (then e (rest (n + 1) k)) (then e (others (n + 1) k))
    (λ reached. ap (λ (x : Found Fault). then e x) (h (n + 1) k refl (ap (λ (x : Found Fault). x.fault) (sym reached))))

module _ (v : Version) (p q : List ℕ) (same : length p ≡ length q) where
  pub turn : (most n at : ℕ) (o : Result Outer Refusal) → outer_at v p at ≡ o → outer_at v q at ≡ o
      → ((i k : ℕ) → Takes o k → (survey_from most v p i (at + k)).fault ≡ (survey_from (suc most) v p n at).fault
      → survey_from most v p i (at + k) ≡ survey_from most v q i (at + k))
      → survey_from (suc most) v p n at ≡ survey_from (suc most) v q n at
  unfolding survey_from
  turn most n at o e g later =
      let after : List ℕ → ℕ → ℕ → Found Fault = λ l i k. survey_from most v l i (at + k) in
      rw (same, e, g)
      (pick_same (leb (length q - at) (cutoff_of v)) ended (on_outer n at o (after p)) (on_outer n at o (after q))
      (λ reached.
      onward n at o (after p) (after q)
      (λ i k t fault. later i k t (fault ∙ rw (same, e) (ap (λ (x : Found Fault). x.fault) (sym reached))))))

  -- where the frame's four bytes agree and, if there is a frame, the inner lengths after it
  module _ (at : ℕ) (first : take 4 (drop at p) ≡ take 4 (drop at q)) where
    frame_same : frame_at v p at ≡ frame_at v q at
    unfolding frame_at number_at
    frame_same =
        let both = parts_same 2 2 (drop at p) (drop at q) first in
        let second : take 2 (drop (at + 2) p) ≡ take 2 (drop (at + 2) q) = rw (← drop-drop 2 at p, ← drop-drop 2 at q) both.1 in
        rw (same, both.0, second)

    on_frame_same : (x : Result Frame Refusal) → ((t m k : ℕ) → x ≡ framed t m k → take 8 (drop at p) ≡ take 8 (drop at q))
        → on_outer_frame v p at x ≡ on_outer_frame v q at x
    on_frame_same (Err r) more = refl
    on_frame_same (Ok fr) more =
        let second : take 4 (drop (at + 4) p) ≡ take 4 (drop (at + 4) q) =
        rw (← drop-drop 4 at p, ← drop-drop 4 at q) (parts_same 4 4 (drop at p) (drop at q) (more fr.type_id fr.message_len fr.wire_length refl)).1 in
        let inner : take 4 (message_at p at fr.message_len) ≡ take 4 (message_at q at fr.message_len) =
        take_swap 4 fr.message_len (drop (at + 4) p) ∙ ap (λ (l : List ℕ). take fr.message_len l) second ∙ take_swap fr.message_len 4 (drop (at + 4) q) in
        let size : length (message_at p at fr.message_len) ≡ length (message_at q at fr.message_len) =
        omega (arith, length-take fr.message_len (drop (at + 4) p), length-take fr.message_len (drop (at + 4) q), length-drop (at + 4) p, length-drop (at + 4) q) in
        rw (lengths_alike (message_at p at fr.message_len) (message_at q at fr.message_len) size inner)

    pub outer_same : ((t m k : ℕ) → frame_at v p at ≡ framed t m k → take 8 (drop at p) ≡ take 8 (drop at q))
        → outer_at v p at ≡ outer_at v q at
    unfolding outer_at
    outer_same more = on_frame_same (frame_at v p at) more ∙ ap (on_outer_frame v q at) frame_same

  -- where fields lie that are alike
  module _ (at : ℕ) (f g : Field) (tl others : List ℕ) (e : drop at p ≡ bytes_of f ++ tl) (e' : drop at q ≡ bytes_of g ++ others)
      (s : Shaped v f) (s' : Shaped v g) (a : Alike f g) where
    size_alike : length (bytes_of f) ≡ length (bytes_of g)
    size_alike = omega (arith, size_of f, size_of g, s, s', a.message_length)

    field_alike : (most n : ℕ)
        → ((i : ℕ) → (survey_from most v p i (at + length (bytes_of f))).fault ≡ (survey_from (suc most) v p n at).fault
        → survey_from most v p i (at + length (bytes_of f)) ≡ survey_from most v q i (at + length (bytes_of f)))
        → survey_from (suc most) v p n at ≡ survey_from (suc most) v q n at
    field_alike most n later = go (eqb f.type 0x0404) refl
      where
        size : ℕ
        size = length (bytes_of f)

        go : (x : Bool) → eqb f.type 0x0404 ≡ x → survey_from (suc most) v p n at ≡ survey_from (suc most) v q n at
        go true t =
            let h = eqb-true _ _ t in
            let parts = lengths_alike f.message g.message a.message_length (a.inner_lengths h) in
            turn most n at (on_lengths size (sealed_parts f.message)) (seal_seen v p at f tl e s h)
            (rw (parts, size_alike) (seal_seen v q at g others e' s' (sym a.type ∙ h)))
            (λ i k w. rw (← takes_all size (sealed_parts f.message) k w) (later i))
        go false t =
            let h = eqb-false f.type 0x0404 t in
            turn most n at (Ok (Other size)) (plain_outer v p at f tl e s h)
            (rw size_alike (plain_outer v q at g others e' s' (λ w. h (a.type ∙ w))))
            (λ i k w. rw (← w) (later i))

  -- where the fields end: at `end`, with `left` and `others` after them. `fault` is the survey's
  module _ (end : ℕ) (left others : List ℕ) (fault : Option Fault)
      (rest : (most n : ℕ) → drop end p ≡ left → drop end q ≡ others → (survey_from most v p n end).fault ≡ fault
      → survey_from most v p n end ≡ survey_from most v q n end) where
    fields_alike : (most n at : ℕ) (fs gs : List Field) → at + length (joined fs) ≡ end → drop at p ≡ joined fs ++ left
        → drop at q ≡ joined gs ++ others
        → Along v (cutoff_of v) fs left
        → Along v (cutoff_of v) gs others
        → AllAlike fs gs
        → (survey_from most v p n at).fault ≡ fault
        → survey_from most v p n at ≡ survey_from most v q n at
    unfolding survey_from
    fields_alike zero n at fs gs place e g a b alike w = refl
    fields_alike (suc most) n at [] [] place e g a b alike w =
        let here : at ≡ end = omega arith in
        rw here (rest (suc most) n (rw here at e) (rw here at g) (rw here at w))
    fields_alike (suc most) n at [] (y ∷ ys) place e g a b alike w = absurd alike
    fields_alike (suc most) n at (x ∷ xs) [] place e g a b alike w = absurd alike
    fields_alike (suc most) n at (x ∷ xs) (y ∷ ys) place e g a b alike w =
        let e₁ = e ∙ append_assoc (bytes_of x) (joined xs) left in
        let g₁ = g ∙ append_assoc (bytes_of y) (joined ys) others in
        let size = size_alike at x y (joined xs ++ left) (joined ys ++ others) e₁ g₁ a.0.shaped b.0.shaped alike.0 in
        field_alike at x y (joined xs ++ left) (joined ys ++ others) e₁ g₁ a.0.shaped b.0.shaped alike.0 most n
        (λ i found.
        fields_alike most i (at + length (bytes_of x)) xs ys (omega (arith, length-append (bytes_of x) (joined xs)))
        (next_here p at v x (joined xs ++ left) e₁) (rw size (next_here q at v y (joined ys ++ others) g₁)) a.1 b.1 alike.1
        (found ∙ w))

    pub found_alike : (header : ℕ) (fs gs : List Field) → header + length (joined fs) ≡ end
        → Begins v (cutoff_of v) (drop header p) fs left
        → Begins v (cutoff_of v) (drop header q) gs others
        → AllAlike fs gs
        → (found_in p header v).fault ≡ fault
        → found_in p header v ≡ found_in q header v
    unfolding found_in
    found_alike header fs gs place a b alike w =
        let from : List ℕ → Found Fault = λ l. survey_from (suc (length p)) v l 0 header in
        let long = ltb most_bytes (length p) in
        let past = ltb (length p) header in
        let tested : Found Fault → Found Fault = λ x. pick past (stopped_at HeaderPastEnd 0) x in
        rw (← same)
        (pick_same long (stopped_at PacketTooLong 0) (tested (from p)) (tested (from q))
        (λ fits.
        pick_same past (stopped_at HeaderPastEnd 0) (from p) (from q)
        (λ inside.
        fields_alike (suc (length p)) 0 header fs gs place a.whole b.whole (along v (cutoff_of v) fs left a.each)
        (along v (cutoff_of v) gs others b.each) alike (ap (λ (x : Found Fault). x.fault) (sym inside ∙ sym fits) ∙ w))))

-- one finding, one reply, whatever the tables held
pub one_finding : (p q : List ℕ) (header : ℕ) (v : Version) → found_in p header v ≡ found_in q header v → (a b : List ℕ)
    → length a ≡ capacity
    → length b ≡ capacity
    → (r s : Result ℕ SurveyFault) {t u : List ℕ}
    → survey_reply r t ≡ survey_of p header v a
    → survey_reply s u ≡ survey_of q header v b
    → (r ≡ s) × (t ≡ u)
unfolding survey_of
one_finding p q header v e a b ha hb r s f g = (
  ap (λ (x : TableReply (Result ℕ SurveyFault)). x.answer) f
      ∙ ap (λ (x : Found Fault). surveyed_with x.fault (length x.entries)) e
      ∙ sym (ap (λ (x : TableReply (Result ℕ SurveyFault)). x.answer) g),
  ap (λ (x : TableReply (Result ℕ SurveyFault)). x.table) f
      ∙ table_whole p header v a ha
      ∙ ap (λ (x : Found Fault). x.entries ++ blanks (length x.entries) capacity) e
      ∙ sym (table_whole q header v b hb)
      ∙ sym (ap (λ (x : TableReply (Result ℕ SurveyFault)). x.table) g),
)
