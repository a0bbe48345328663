-- After a fault a survey looks at nothing further: where it is refused, it has looked at the frame there and, if a field stands
-- there, at the inner lengths after the frame.
use Rattle.std.specs.Prelude.{Result, Ok, Err, Option, Some, None, ◌≡◌, Bool, true, false, List, [], ◌∷◌, leb, length, take, drop, replicate}
use Rattle.std.proofs.Math.Path.{refl}
use Rattle.std.proofs.Common.{sym, ap, ◌∙◌}
use Prim.Native.Nat.{ℕ, zero, suc, ◌+◌, ◌-◌, ◌≤◌, ◌<◌}
use native.Mathlib.Omega.{arith}
use Rattle.base_answers.specs.Meant.{pick}
use Rattle.base_answers.specs.declared.Refusal.{Refusal}
use Rattle.base_answers.specs.declared.Refusal.TheVariants.{IncorrectLength, TooManyFields}
use Rattle.base_big_endian.specs.Meant.{big_endian, number_at, Bytes}
use Rattle.base_version.specs.declared.Version.{Version}
use Rattle.base_version.specs.declared.Version.TheVariants.{V5}
use Rattle.field_frame.specs.Model.{frame_of, frame_at}
use Rattle.field_frame.specs.Laws.{found}
use Rattle.field_frame.specs.LawsLayout.{framed_here}
use Rattle.field_frame.specs.declared.Frame.{Frame}
use Rattle.field_kinds.specs.Meant.{kind_of}
use Rattle.field_sealed.specs.Model.{sealed_parts}
use Rattle.layout.specs.Meant.{Field, joined, cutoff_of, Front, Begins}
use Rattle.layout.proofs.Laws.{each_of}
use Rattle.read_entries.specs.Meant.{capacity, TableReply}
use Rattle.read_entries.specs.Model.{entry_of, Found, ended, then}
use Rattle.read_survey.specs.Model.{is_sealed, on_lengths, on_outer_frame, outer_at, Fault, stopped_at, on_outer, survey_from, found_in, survey_reply, surveyed_with, survey_of}
use Rattle.read_survey.specs.declared.Outer.{Outer}
use Rattle.read_survey.specs.declared.Outer.TheVariants.{Other, Sealed}
use Rattle.read_survey.specs.declared.SurveyFault.{SurveyFault}
use Rattle.read_survey.specs.Meant.{faulty_at}
use Rattle.claim_one_cut.proofs.LawsSteps.{no_front}
use Rattle.claim_survey.proofs.LawsAlike.{Takes, takes_all, turn, outer_same, found_alike, one_finding}
use Rattle.claim_survey.proofs.LawsContents.{cookie, cookie_stands}
use Rattle.claim_survey.specs.Meant.{Alike, AllAlike}

-- a fault, if there is one, is not before a place
abbrev NotBefore : ℕ → Option Fault → Type 0
NotBefore at None = Unit {0}
NotBefore at (Some f) = at ≤ f.offset

later_too : (at k : ℕ) (f : Option Fault) → NotBefore (at + k) f → NotBefore at f
later_too at k None h = tt
later_too at k (Some f) h = omega arith

either_way : (b : Bool) (x y : Found Fault) (at : ℕ) → NotBefore at x.fault → NotBefore at y.fault → NotBefore at (pick b x y).fault
either_way true x y at h k = h
either_way false x y at h k = k

on_outer_law : (n at : ℕ) (o : Result Outer Refusal) (rest : ℕ → ℕ → Found Fault) → ((i k : ℕ) → NotBefore at (rest i k).fault)
    → NotBefore at (on_outer n at o rest).fault
on_outer_law n at (Err r) rest h = omega arith
on_outer_law n at (Ok (Other k)) rest h = h n k
on_outer_law n at (Ok (Sealed nonce ciphertext k)) rest h =
    either_way (leb capacity n) (stopped_at TooManyFields at) (then (entry_of nonce ciphertext at 0) (rest (n + 1) k)) at
    (omega arith) (h (n + 1) k)

-- the fault is where a survey starts, or later
never_before : (most : ℕ) (v : Version) (p : List ℕ) (n at : ℕ) → NotBefore at (survey_from most v p n at).fault
unfolding survey_from
never_before zero v p n at = tt
never_before (suc most) v p n at =
    let rest : ℕ → ℕ → Found Fault = λ i k. survey_from most v p i (at + k) in
    either_way (leb (length p - at) (cutoff_of v)) ended (on_outer n at (outer_at v p at) rest) at tt
    (on_outer_law n at (outer_at v p at) rest (λ i k. later_too at k (rest i k).fault (never_before most v p i (at + k))))

-- a field takes some bytes
takes_some : (v : Version) (p : List ℕ) (at : ℕ) (x : Result Frame Refusal) → frame_at v p at ≡ x → (k : ℕ) → Takes (on_outer_frame v p at x) k → 0 < k
takes_some v p at (Err r) e k h = absurd h
takes_some v p at (Ok fr) e k h = omega (arith, found v p at e, all (is_sealed (kind_of fr.type_id v)) h)
  where
    all : (b : Bool)
        → Takes (pick b (on_lengths fr.wire_length (sealed_parts (take fr.message_len (drop (at + 4) p)))) (Ok (Other fr.wire_length))) k
        → fr.wire_length ≡ k
    all true h = takes_all fr.wire_length (sealed_parts (take fr.message_len (drop (at + 4) p))) k h
    all false h = h

abbrev offset_in : Result ℕ SurveyFault → ℕ
offset_in (Ok n) = 0
offset_in (Err f) = f.field_offset

-- a refusal has the offset of the fault
offset_of : (q : Option Fault) (at offset m n : ℕ) (x : Refusal) → NotBefore at q → surveyed_with q m ≡ faulty_at x offset n → at ≤ offset
offset_of None at offset m n x h e =
    let z : ◌≡◌ {A = ℕ} 0 1 = cc in
    absurd (omega arith)
offset_of (Some f) at offset m n x h e =
    let place : f.offset ≡ offset = ap offset_in e in
    omega arith

-- where a survey is refused
module _ (v : Version) (p q : List ℕ) (same : length p ≡ length q) (b : Bytes p) (at : ℕ) (first : take 4 (drop at p) ≡ take 4 (drop at q))
    (more : (f : Field) → Front v (drop at p) f → take 8 (drop at p) ≡ take 8 (drop at q)) where
  outer_there : outer_at v p at ≡ outer_at v q at
  outer_there =
      outer_same v p q same at first
      (λ t m k e.
      let h = framed_here p b at v e in
      more h.field (record { later = drop (at + k) p; shaped = h.shaped; whole = h.whole }))

  refused_there : (most n m c : ℕ) (x : Refusal) → surveyed_with (survey_from most v p n at).fault m ≡ faulty_at x at c
      → survey_from most v p n at ≡ survey_from most v q n at
  unfolding survey_from outer_at
  refused_there zero n m c x e = refl
  refused_there (suc most) n m c x e =
      turn v p q same most n at (outer_at v p at) refl (sym outer_there)
      (λ i k t fault.
      absurd
      (omega (
        arith,
        takes_some v p at (frame_at v p at) refl k t,
        offset_of (survey_from most v p i (at + k)).fault (at + k) at m c x (never_before most v p i (at + k))
            (ap (λ (f : Option Fault). surveyed_with f m) fault ∙ e),
      )))

-- the theorem: the survey is refused where `fs` end. There the packets agree in the four bytes of the frame and, if a field stands
-- there, in the four bytes after these; all that follows may differ
pub nothing_after_a_fault : (p q : List ℕ) (header : ℕ) (v : Version) (fs gs : List Field) (left others : List ℕ) → length p ≡ length q
    → Bytes p
    → Begins v (cutoff_of v) (drop header p) fs left
    → Begins v (cutoff_of v) (drop header q) gs others
    → AllAlike fs gs
    → take 4 left ≡ take 4 others
    → ((f : Field) → Front v left f → take 8 left ≡ take 8 others)
    → (a b : List ℕ)
    → length a ≡ capacity
    → length b ≡ capacity
    → (r s : Result ℕ SurveyFault) {t u : List ℕ}
    → survey_reply r t ≡ survey_of p header v a
    → survey_reply s u ≡ survey_of q header v b
    → (x : Refusal) (n : ℕ)
    → r ≡ faulty_at x (header + length (joined fs)) n
    → (r ≡ s) × (t ≡ u)
unfolding survey_of
nothing_after_a_fault p q header v fs gs left others same small in_p in-q alike first more a b ha hb r s f g x n refused =
    let at = header + length (joined fs) in
    let m = length (found_in p header v).entries in
    one_finding p q header v
    (found_alike v p q same at left others (found_in p header v).fault
    (λ most i e h fault.
    refused_there v p q same small at (rw (e, h) first) (rw (e, h) more) most i m n x
    (ap (λ (z : Option Fault). surveyed_with z m) fault ∙ sym (ap (λ (z : TableReply (Result ℕ SurveyFault)). z.answer) f) ∙ refused))
    header fs gs refl in_p in-q alike refl)
    a b ha hb r s f g

-- for example: a header of one byte, a cookie, and a fault. The first packet is all written down, the second may be any but for
-- the bytes that are looked at
abbrev broken : ℕ → ℕ → List ℕ → List ℕ
broken b c left = b ∷ 2 ∷ 4 ∷ 0 ∷ 8 ∷ c ∷ c ∷ c ∷ c ∷ left

broken_begins : (b c : ℕ) (left : List ℕ) → Begins V5 0 (drop 1 (broken b c left)) (cookie c ∷ []) left
unfolding big_endian
broken_begins b c left = record { whole = refl; each = each_of V5 0 (cookie c ∷ []) left (cookie_stands c _ (omega arith), tt) }

broken_surveyed : (d e : ℕ) (left others : List ℕ) → Bytes (broken 1 7 left) → length left ≡ length others → take 4 left ≡ take 4 others
    → ((f : Field) → Front V5 left f → take 8 left ≡ take 8 others)
    → (r s : Result ℕ SurveyFault) {t u : List ℕ}
    → survey_reply r t ≡ survey_of (broken 1 7 left) 1 V5 (replicate capacity 0)
    → survey_reply s u ≡ survey_of (broken d e others) 1 V5 (replicate capacity 1)
    → r ≡ faulty_at IncorrectLength 9 0
    → (r ≡ s) × (t ≡ u)
unfolding big_endian
broken_surveyed d e left others small same first more r s f g refused =
    let alike : Alike (cookie 7) (cookie e) = record { type = refl; message_length = refl; inner_lengths = λ h. absurd (omega arith) } in
    nothing_after_a_fault (broken 1 7 left) (broken d e others) 1 V5 (cookie 7 ∷ []) (cookie e ∷ []) left others
    (omega arith) small (broken_begins 1 7 left) (broken_begins d e others) (alike, tt) first more
    (replicate capacity 0) (replicate capacity 1) refl refl r s f g IncorrectLength 0 refused

-- a field that states two bytes: four more bytes are not looked at
pub unframed_surveyed : (d e w x y z : ℕ) (r s : Result ℕ SurveyFault) {t u : List ℕ}
    → survey_reply r t ≡ survey_of (broken 1 7 (4 ∷ 4 ∷ 0 ∷ 2 ∷ 1 ∷ 1 ∷ 1 ∷ 1 ∷ [])) 1 V5 (replicate capacity 0)
    → survey_reply s u ≡ survey_of (broken d e (4 ∷ 4 ∷ 0 ∷ 2 ∷ w ∷ x ∷ y ∷ z ∷ [])) 1 V5 (replicate capacity 1)
    → (r ≡ faulty_at IncorrectLength 9 0) × (r ≡ s) × (t ≡ u)
unfolding survey_of found_in survey_from outer_at frame_at frame_of kind_of number_at
unframed_surveyed d e w x y z r s f g =
    let left : List ℕ = 4 ∷ 4 ∷ 0 ∷ 2 ∷ 1 ∷ 1 ∷ 1 ∷ 1 ∷ [] in
    let refused : r ≡ faulty_at IncorrectLength 9 0 = ap (λ (x : TableReply (Result ℕ SurveyFault)). x.answer) f in
    let both =
    broken_surveyed d e left (4 ∷ 4 ∷ 0 ∷ 2 ∷ w ∷ x ∷ y ∷ z ∷ []) (omega arith) refl refl
    (λ h front. absurd (no_front V5 left 0 refl h front)) r s f g refused in
    (refused, both.0, both.1)

-- a sealed field of eight message bytes with a nonce of five: the four bytes after the inner lengths are not looked at
pub unsealed_surveyed : (d e w x y z : ℕ) (r s : Result ℕ SurveyFault) {t u : List ℕ}
    → survey_reply r t ≡ survey_of (broken 1 7 (4 ∷ 4 ∷ 0 ∷ 12 ∷ 0 ∷ 5 ∷ 0 ∷ 0 ∷ 1 ∷ 1 ∷ 1 ∷ 1 ∷ [])) 1 V5 (replicate capacity 0)
    → survey_reply s u ≡ survey_of (broken d e (4 ∷ 4 ∷ 0 ∷ 12 ∷ 0 ∷ 5 ∷ 0 ∷ 0 ∷ w ∷ x ∷ y ∷ z ∷ [])) 1 V5 (replicate capacity 1)
    → (r ≡ faulty_at IncorrectLength 9 0) × (r ≡ s) × (t ≡ u)
unfolding survey_of found_in survey_from outer_at sealed_parts frame_at frame_of kind_of number_at
unsealed_surveyed d e w x y z r s f g =
    let refused : r ≡ faulty_at IncorrectLength 9 0 = ap (λ (x : TableReply (Result ℕ SurveyFault)). x.answer) f in
    let both =
    broken_surveyed d e (4 ∷ 4 ∷ 0 ∷ 12 ∷ 0 ∷ 5 ∷ 0 ∷ 0 ∷ 1 ∷ 1 ∷ 1 ∷ 1 ∷ []) (4 ∷ 4 ∷ 0 ∷ 12 ∷ 0 ∷ 5 ∷ 0 ∷ 0 ∷ w ∷ x ∷ y ∷ z ∷ [])
    (omega arith) refl refl (λ _ _. refl) r s f g refused in
    (refused, both.0, both.1)

-- the inner lengths are looked at: two packets that agree in all else have two surveys
pub lengths_matter : (table : List ℕ)
    → ((survey_of (4 ∷ 4 ∷ 0 ∷ 8 ∷ 0 ∷ 0 ∷ 0 ∷ 1 ∷ []) 0 V5 table).answer ≡ faulty_at IncorrectLength 0 0)
    × ((survey_of (4 ∷ 4 ∷ 0 ∷ 8 ∷ 0 ∷ 0 ∷ 0 ∷ 0 ∷ []) 0 V5 table).answer ≡ Ok 1)
unfolding survey_of found_in survey_from outer_at sealed_parts frame_at frame_of kind_of number_at
lengths_matter table = (refl, refl)
