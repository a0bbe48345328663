-- What the survey's walk cuts passes. The survey stops at inner lengths and at the entry past its table's last, the judge does not:
-- a list that passes begins with what the survey has cut, and goes on if the rest can be laid out. Where the survey stops at a
-- frame, no list passes.
use Rattle.std.specs.Prelude.{Result, ◌≡◌, refl, Bool, true, false, List, ◌++◌, ℕ, ◌≤◌, ◌<◌, length, drop}
use Rattle.std.proofs.Common.{ap, ◌∙◌}
use Rattle.base_big_endian.specs.Meant.{Bytes}
use Rattle.base_sizes.specs.Meant.{most_bytes}
use Rattle.base_version.specs.declared.Version.{Version}
use Rattle.layout.specs.Meant.{Field, cutoff_of, Front, Begins, LaidOut}
use Rattle.read_survey.specs.declared.SurveyFault.{SurveyFault}
use Rattle.claim_survey.specs.Meant.{SurveyLists}
use Rattle.judge.specs.Meant.{offsets_from, wire_lengths_of}
use Rattle.judge.specs.Model.{is_cut}
use Rattle.judge.proofs.LawsExactly.{says, some_list}
use Rattle.claim_judge.proofs.LawsWalks.{begins_with, left_laid, whole_laid, not_laid}

pub not_yes : (b : Bool) → (b ≡ true → ⊥) → b ≡ false
not_yes true h = absurd (h refl)
not_yes false h = refl

-- a region with a frame fault: no list passes
pub frame_fault : (p : List ℕ) → Bytes p → (header : ℕ) (v : Version) (fs : List Field) (left : List ℕ)
    → Begins v (cutoff_of v) (drop header p) fs left
    → cutoff_of v < length left
    → ((f : Field) → Front v left f → ⊥)
    → (os ns : List ℕ) → is_cut p header v os ns ≡ false
frame_fault p b header v fs left first more none_there os ns =
    not_yes (is_cut p header v os ns)
    (λ e. let c = (says p b header v os ns).yes_only_if e in
    not_laid v (cutoff_of v) (drop header p) fs left first more none_there c.fields c.rest c.laid)

module _ (p : List ℕ) (b : Bytes p) (header : ℕ) (v : Version) (short : length p ≤ most_bytes) (inside : header ≤ length p) (r : Result ℕ SurveyFault)
    (t : List ℕ) (l : SurveyLists p header v r t) where
  -- wherever the survey stops: if what is left is laid out, the places of its fields and of the others pass
  pub goes_on : (later : List Field) (rest : List ℕ) → LaidOut v (cutoff_of v) l.left later rest
      → is_cut p header v (offsets_from header (l.fields ++ later)) (wire_lengths_of (l.fields ++ later)) ≡ true
  goes_on later rest laid =
      some_list p header v (l.fields ++ later) rest short inside
      (whole_laid v (cutoff_of v) (drop header p) l.fields l.left l.begins later rest laid)

  -- and no other list passes: one that does begins with what the survey has cut
  pub begins_as_surveyed : (os ns : List ℕ) → is_cut p header v os ns ≡ true
      → (later : List Field) × ((rest : List ℕ) × ((os ≡ offsets_from header (l.fields ++ later)) × (ns ≡ wire_lengths_of (l.fields ++ later))
      × LaidOut v (cutoff_of v) l.left later rest))
  begins_as_surveyed os ns e =
      let c = (says p b header v os ns).yes_only_if e in
      let m = begins_with v (cutoff_of v) (drop header p) l.fields l.left l.begins c.fields c.rest c.laid in (
        m.later,
        (
          c.rest,
          (
            c.offsets_are ∙ ap (λ (fs : List Field). offsets_from header fs) m.same,
            c.lengths_are ∙ ap wire_lengths_of m.same,
            left_laid v (cutoff_of v) (drop header p) l.fields l.left l.begins c.fields c.rest c.laid m,
          ),
        ),
      )
