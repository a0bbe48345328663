-- The places of the fields of a survey that ends without a fault pass.
use Rattle.std.specs.Prelude.{Ok, ◌≡◌, refl, true, List, [], ◌∷◌, ◌++◌, ℕ, ◌≤◌, length}
use Rattle.std.proofs.Common.{append-nil, arith}
use Rattle.base_big_endian.specs.Meant.{Bytes}
use Rattle.base_sizes.specs.Meant.{most_bytes}
use Rattle.base_version.specs.declared.Version.{Version}
use Rattle.layout.specs.Meant.{Field, cutoff_of, LaidOut}
use Rattle.claim_survey.specs.Meant.{Ends, complete, SurveyLists, SurveyTells, long, past_end, lists}
use Rattle.judge.specs.Meant.{offsets_from, wire_lengths_of}
use Rattle.judge.specs.Model.{is_cut}
use Rattle.claim_judge.proofs.LawsSurvey.{goes_on}

-- a survey without a fault: the places of its fields pass
pub survey_passes : (p : List ℕ) → Bytes p → (header : ℕ) (v : Version) → length p ≤ most_bytes → header ≤ length p → (n : ℕ) (t : List ℕ)
    → (l : SurveyLists p header v (Ok n) t)
    → is_cut p header v (offsets_from header l.fields) (wire_lengths_of l.fields) ≡ true
survey_passes p b header v short inside n t l = go l.ends (goes_on p b header v short inside (Ok n) t l)
  where
    go : {k offset : ℕ} → Ends v l.left k offset (Ok n)
        → ((later : List Field) (rest : List ℕ) → LaidOut v (cutoff_of v) l.left later rest
        → is_cut p header v (offsets_from header (l.fields ++ later)) (wire_lengths_of (l.fields ++ later)) ≡ true)
        → is_cut p header v (offsets_from header l.fields) (wire_lengths_of l.fields) ≡ true
    go (complete few) h =
        rw (append-nil l.fields) at
        (h [] l.left (record { begins = record { whole = refl; each = λ ys f zs q. absurd (none_of ys f zs q) }; over = few }))
      where
        none_of : (ys : List Field) (f : Field) (zs : List Field) → [] ≡ ys ++ (f ∷ zs) → ⊥
        none_of [] f zs q = let z : ◌≡◌ {A = ℕ} 0 1 = cc in omega arith
        none_of (y ∷ ys) f zs q = let z : ◌≡◌ {A = ℕ} 0 1 = cc in omega arith

-- the same from the survey's whole claim: one that ends without a fault has fields whose places pass
pub complete_passes : (p : List ℕ) → Bytes p → (header : ℕ) (v : Version) (n : ℕ) (t : List ℕ) → SurveyTells p header v (Ok n) t
    → (fs : List Field) × (is_cut p header v (offsets_from header fs) (wire_lengths_of fs) ≡ true)
complete_passes p b header v n t (long h e g) =
    let z : ◌≡◌ {A = ℕ} 0 1 = cc in
    absurd (omega arith)
complete_passes p b header v n t (past_end h k e g) =
    let z : ◌≡◌ {A = ℕ} 0 1 = cc in
    absurd (omega arith)
complete_passes p b header v n t (lists short inside l) = (l.fields, survey_passes p b header v short inside n t l)
