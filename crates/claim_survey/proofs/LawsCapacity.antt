-- How many sealed fields a survey names, from what it has to say alone: for any answer and any table. No line here knows how the
-- survey works. All packets are V5 without a header.
use Rattle.std.specs.Prelude.{Result, Ok, ◌≡◌, refl, List, [], ◌∷◌, ◌++◌, ℕ, zero, suc, ◌+◌, ◌*◌, ◌≤◌, length, replicate}
use Rattle.std.proofs.Common.{sym, ap, ◌∙◌, append-nil, append_assoc, arith}
use Rattle.base_answers.specs.declared.Refusal.TheVariants.{TooManyFields}
use Rattle.base_big_endian.specs.Meant.{big_endian}
use Rattle.base_version.specs.declared.Version.TheVariants.{V5}
use Rattle.layout.specs.Meant.{Field, bytes_of, joined}
use Rattle.layout.proofs.Laws.{not_nothing, Along, along}
use Rattle.read_entries.specs.Meant.{capacity}
use Rattle.read_packet.specs.Meant.{Input}
use Rattle.read_survey.specs.declared.SurveyFault.{SurveyFault}
use Rattle.read_survey.specs.Meant.{faulty_at}
use Rattle.claim_one_cut.specs.MeantCut.{Item, shut, seals_in}
use Rattle.claim_one_cut.proofs.LawsLaid.{Laid, led}
use Rattle.claim_one_cut.proofs.LawsCopies.{copies, copies_size, last_copy, alike, fields_alike, empty_seal_shaped}
use Rattle.claim_one_cut.proofs.LawsExamples.{input, empty_seal, empty_sealing}
use Rattle.claim_survey.specs.Meant.{seals_among, Ends, no_room, SurveyTells, long, past_end, lists}
use Rattle.claim_survey.proofs.LawsOnly.{Sound, sound, one_way}
use Rattle.claim_survey.proofs.LawsOfACut.{survey_of_a_cut}

-- a sealed field of eight bytes, so many times
abbrev pub seals : ℕ → List Field
seals = copies empty_seal

abbrev items : ℕ → List Item
items = alike (shut empty_seal)

abbrev packet : ℕ → Input
packet n = input V5 (joined (seals n)) []

size : (n : ℕ) → length (joined (seals n)) ≡ n * 8
unfolding big_endian
size = copies_size empty_seal

all_sealed : (n : ℕ) → seals_in (items n) ≡ n
all_sealed zero = refl
all_sealed (suc n) = ap suc (all_sealed n)

among : (n : ℕ) → seals_among (seals n) ≡ n
among zero = refl
among (suc n) = omega (arith, among n)

laid : (m k n : ℕ) (rest : List ℕ) → Laid (packet m) k (items n) rest
unfolding big_endian
laid m k zero rest = tt
laid m k (suc n) rest =
    (omega arith, empty_seal_shaped, record { sealed = refl; sealing = empty_sealing; says = omega arith }, laid m (k + 1) n rest)

-- all that fit are named
pub surveyed : (n : ℕ) → n ≤ capacity → (r : Result ℕ SurveyFault) {t : List ℕ} → SurveyTells (joined (seals n)) 0 V5 r t → r ≡ Ok n
surveyed n h r d =
    (survey_of_a_cut (packet n) (items n) []
    (record {
      led = led (packet n) (items n) [] (rw (fields_alike (shut empty_seal) n) (sym (append-nil (joined (seals n))))) (laid n 0 n []);
      over = omega arith;
    })
    (omega (arith, size n)) (omega arith) (omega (arith, all_sealed n)) r d).answer
    ∙ ap Ok (all_sealed n)

each_along : (n : ℕ) (rest : List ℕ) → Along V5 0 (seals n) rest
unfolding big_endian
each_along zero rest = tt
each_along (suc n) rest = (record { more = omega arith; shaped = empty_seal_shaped }, each_along n rest)

each_sound : (n : ℕ) → Sound (seals n)
each_sound zero = tt
each_sound (suc n) = ((λ _. empty_sealing), each_sound n)

-- one more is refused at its place, and those before it are kept
pub refused : (n : ℕ) → n ≡ capacity → (r : Result ℕ SurveyFault) {t : List ℕ} → SurveyTells (joined (seals (suc n))) 0 V5 r t
    → r ≡ faulty_at TooManyFields (n * 8) n
unfolding big_endian
refused n h r (long a e g) = absurd (omega (arith, size (suc n)))
refused n h r (past_end a b e g) = absurd (omega arith)
refused n h r (lists a b l) =
    let full : Ends V5 (bytes_of empty_seal) (seals_among (seals n)) (length (joined (seals n))) (faulty_at TooManyFields (n * 8) n) =
    rw (among n, size n)
    (no_room (omega arith) empty_seal (record { later = []; shaped = empty_seal_shaped; whole = refl }) refl empty_sealing h) in
    let none_before : (m : ℕ) → 0 + m ≡ m = λ m. omega arith in
    one_way V5 l.fields (seals n) l.left (bytes_of empty_seal) 0 0 r (faulty_at TooManyFields (n * 8) n)
    (sym l.begins.whole ∙ last_copy empty_seal n) (along V5 0 l.fields l.left l.begins.each) (each_along n (bytes_of empty_seal))
    (sound l.fields (λ ys f zs q s. (l.names ys f zs q s).sealing)) (each_sound n)
    (omega (arith, l.room)) (omega (arith, among n))
    (rw (none_before (seals_among l.fields)) l.ends)
    (rw (none_before (seals_among (seals n)), none_before (length (joined (seals n)))) full)

no_fields : (fs : List Field) (left : List ℕ) → [] ≡ joined fs ++ left → seals_among fs ≡ 0
no_fields [] left e = refl
no_fields (f ∷ fs) left e =
    absurd (not_nothing f (joined fs ++ left) (sym (append_assoc (bytes_of f) (joined fs) left) ∙ sym e))

-- THE NUMBERS of request (vi): 128 sealed fields are named, a 129th is refused, and 128 entries are blank where none is named

pub seals_128 : (r : Result ℕ SurveyFault) {t : List ℕ} → SurveyTells (joined (seals 128)) 0 V5 r t → r ≡ Ok 128
seals_128 = surveyed 128 (omega arith)

pub seals_129 : (r : Result ℕ SurveyFault) {t : List ℕ} → SurveyTells (joined (seals 129)) 0 V5 r t → r ≡ faulty_at TooManyFields 1024 128
seals_129 = refused 128 refl

pub blank_128 : (r : Result ℕ SurveyFault) {t : List ℕ} → SurveyTells [] 0 V5 r t → t ≡ replicate 128 0
blank_128 r (long a e g) = g
blank_128 r (past_end a b e g) = g
blank_128 r (lists a b l) = rw (no_fields l.fields l.left l.begins.whole) at l.blank
