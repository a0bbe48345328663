-- A survey looks at no other contents: two packets that differ only in contents that it may not look at have one survey.
use Rattle.std.specs.Prelude.{Result, Ok, ◌≡◌, Bool, length, replicate}
use Rattle.std.proofs.Math.Path.{refl, ap}
use Rattle.std.proofs.Common.{sym, ◌∙◌, arith, leb-false}
use Rattle.std.proofs.Math.Bool.{true, false}
use mathlib.Core.List.{List, [], ◌∷◌}
use Prim.Native.Nat.{ℕ, zero, suc, ◌+◌, ◌-◌, ◌<◌}
use Rattle.std.proofs.Math.Dec.{leb}
use Rattle.std.proofs.Math.ListN.{take, drop}
use Rattle.std.proofs.Math.Seq.{drop-drop}
use Rattle.base_version.specs.declared.Version.{Version}
use Rattle.base_version.specs.declared.Version.TheVariants.{V5}
use Rattle.base_big_endian.specs.Meant.{big_endian, number_at}
use Rattle.field_kinds.specs.Meant.{kind_of}
use Rattle.field_frame.specs.Model.{frame_of, frame_at}
use Rattle.field_frame.specs.LawsLayout.{left_of}
use Rattle.field_sealed.specs.Model.{sealed_parts}
use Rattle.layout.specs.Meant.{Field, joined, cutoff_of, Stands, Begins}
use Rattle.layout.proofs.Laws.{each_of}
use Rattle.read_entries.specs.Meant.{capacity, TableReply}
use Rattle.read_entries.specs.Model.{entry_of}
use Rattle.read_survey.specs.Model.{outer_at, survey_from, found_in, survey_reply, survey_of}
use Rattle.read_survey.specs.declared.SurveyFault.{SurveyFault}
use Rattle.claim_survey.proofs.LawsAlike.{turn, outer_same, found_alike, one_finding}
use Rattle.claim_survey.specs.Meant.{AllAlike}

module _ (v : Version) (p q : List ℕ) (same : length p ≡ length q) where
  -- where the same bytes are left
  left_same : (most n at : ℕ) → drop at p ≡ drop at q → survey_from most v p n at ≡ survey_from most v q n at
  unfolding survey_from
  left_same zero n at e = refl
  left_same (suc most) n at e =
      let first : (k : ℕ) → take k (drop at p) ≡ take k (drop at q) = λ k. ap (λ (l : List ℕ). take k l) e in
      turn v p q same most n at (outer_at v q at) (outer_same v p q same at (first 4) (λ _ _ _ _. first 8)) refl
      (λ i k _ _. left_same most i (at + k) (sym (drop-drop k at p) ∙ ap (λ (l : List ℕ). drop k l) e ∙ drop-drop k at q))

  -- or no more than may be left over
  rest_same : (most n at : ℕ) → (cutoff_of v < length p - at → drop at p ≡ drop at q) → survey_from most v p n at ≡ survey_from most v q n at
  unfolding survey_from
  rest_same zero n at rest = refl
  rest_same (suc most) n at rest = go (leb (length p - at) (cutoff_of v)) refl
    where
      go : (x : Bool) → leb (length p - at) (cutoff_of v) ≡ x → survey_from (suc most) v p n at ≡ survey_from (suc most) v q n at
      go true h =
          let h' = rw same at h in
          rw (h, h')
      go false h = left_same (suc most) n at (rest (leb-false (length p - at) (cutoff_of v) h))

-- the theorem: the packets may differ before the header's end, in messages, in padding and in what may be left over
pub no_other_contents : (p q : List ℕ) (header : ℕ) (v : Version) (fs gs : List Field) (left others : List ℕ) → length p ≡ length q
    → Begins v (cutoff_of v) (drop header p) fs left
    → Begins v (cutoff_of v) (drop header q) gs others
    → AllAlike fs gs
    → (cutoff_of v < length left → left ≡ others)
    → (a b : List ℕ)
    → length a ≡ capacity
    → length b ≡ capacity
    → (r s : Result ℕ SurveyFault) {t u : List ℕ}
    → survey_reply r t ≡ survey_of p header v a
    → survey_reply s u ≡ survey_of q header v b
    → (r ≡ s) × (t ≡ u)
no_other_contents p q header v fs gs left others same in_p in-q alike rest a b ha hb r s f g =
    let at = header + length (joined fs) in
    one_finding p q header v
    (found_alike v p q same at left others (found_in p header v).fault
    (λ most n e h _. rest_same v p q same most n at (λ more. e ∙ rest (omega (arith, left_of p at e)) ∙ sym h))
    header fs gs refl in_p in-q alike refl)
    a b ha hb r s f g

-- for example: a header of one byte, a cookie and a sealed field; whatever that byte, the cookie and the nonce are
abbrev pub cookie : ℕ → Field
cookie c = record { type = 0x0204; message = c ∷ c ∷ c ∷ c ∷ []; padding = [] }

pub cookie_stands : (c left : ℕ) → 0 < left → Stands V5 0 (cookie c) left
cookie_stands c left h = record {
  more = h;
  shaped = record { type_fits = omega arith; length_fits = omega arith; short = omega arith; even = refl; none_in_v4 = λ _. refl };
}

abbrev seal : ℕ → Field
seal n = record { type = 0x0404; message = 0 ∷ 1 ∷ 0 ∷ 4 ∷ n ∷ 0 ∷ 0 ∷ 0 ∷ 7 ∷ 7 ∷ 7 ∷ 7 ∷ []; padding = [] }

abbrev both : ℕ → ℕ → ℕ → List ℕ
both b c n = b ∷ 2 ∷ 4 ∷ 0 ∷ 8 ∷ c ∷ c ∷ c ∷ c ∷ 4 ∷ 4 ∷ 0 ∷ 16 ∷ 0 ∷ 1 ∷ 0 ∷ 4 ∷ n ∷ 0 ∷ 0 ∷ 0 ∷ 7 ∷ 7 ∷ 7 ∷ 7 ∷ []

both_begins : (b c n : ℕ) → Begins V5 0 (drop 1 (both b c n)) (cookie c ∷ seal n ∷ []) []
unfolding big_endian
both_begins b c n = record {
  whole = refl;
  each =
      each_of V5 0 (cookie c ∷ seal n ∷ []) [] (
        cookie_stands c 24 (omega arith),
        (
          record {
            more = omega arith;
            shaped = record { type_fits = omega arith; length_fits = omega arith; short = omega arith; even = refl; none_in_v4 = λ _. refl };
          },
          tt,
        ),
      );
}

pub both_surveyed : (b c n d e m : ℕ) (r s : Result ℕ SurveyFault) {t u : List ℕ} → survey_reply r t ≡ survey_of (both b c n) 1 V5 (replicate capacity 0)
    → survey_reply s u ≡ survey_of (both d e m) 1 V5 (replicate capacity 1)
    → (r ≡ Ok 1) × (r ≡ s) × (t ≡ u)
unfolding survey_of found_in survey_from outer_at sealed_parts frame_at frame_of kind_of number_at entry_of
both_surveyed b c n d e m r s f g =
    let w =
    no_other_contents (both b c n) (both d e m) 1 V5 (cookie c ∷ seal n ∷ []) (cookie e ∷ seal m ∷ []) [] [] refl (both_begins b c n) (both_begins d e m) (
      record { type = refl; message_length = refl; inner_lengths = λ h. absurd (omega arith) },
      (record { type = refl; message_length = refl; inner_lengths = λ h. refl }, tt),
    )
    (λ h. refl) (replicate capacity 0) (replicate capacity 1) refl refl r s f g in (
      ap (λ (x : TableReply (Result ℕ SurveyFault)). x.answer) f,
      w.0,
      w.1,
    )
