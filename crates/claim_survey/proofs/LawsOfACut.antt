-- A cut is a layout, so what a survey says of the layout it says of the cut: entry k names the sealed field that result k belongs to.
use Rattle.std.specs.Prelude.{Result, Ok, ◌≡◌, refl, List, [], ◌∷◌, ◌++◌, ℕ, ◌+◌, ◌≤◌, length, drop}
use Rattle.std.proofs.Common.{ap, sym, ◌∙◌, arith, eq-eqb, ne_eqb}
use Rattle.base_version.specs.declared.Version.{Version}
use Rattle.layout.specs.Meant.{Field, cutoff_of}
use Rattle.layout.proofs.Laws.{Along, along, one_layout}
use Rattle.read_entries.specs.Meant.{capacity}
use Rattle.read_packet.specs.Meant.{Input}
use Rattle.read_survey.specs.declared.SurveyFault.{SurveyFault}
use Rattle.claim_one_cut.specs.MeantCut.{Item, plain, shut, opened, field_of, fields_of, seals_in, Cut}
use Rattle.claim_one_cut.proofs.LawsLaid.{next, Laid, laid}
use Rattle.claim_one_cut.proofs.LawsExamples.{five, five_has_a_cut}
use Rattle.claim_survey.specs.Meant.{seals_among, Ends, complete, no_frame, no_sealing, no_room, SurveyTells, long, past_end, lists, OfCut}
use Rattle.claim_survey.proofs.LawsOnly.{Sound, sound, one_way}

pub items_along : (i : Input) (k : ℕ) (items : List Item) (rest : List ℕ) → Laid i k items rest
    → Along i.version (cutoff_of i.version) (fields_of items) rest
items_along i k [] rest l = tt
items_along i k (x ∷ xs) rest l = (record { more = l.0; shaped = l.1 }, items_along i (next k x) xs rest l.3)

pub items_sound : (i : Input) (k : ℕ) (items : List Item) (rest : List ℕ) → Laid i k items rest → Sound (fields_of items)
items_sound i k [] rest l = tt
items_sound i k (plain f ∷ xs) rest l = ((λ t. absurd (l.2.not_sealed t)), items_sound i k xs rest l.3)
items_sound i k (shut f ∷ xs) rest l = ((λ t. l.2.sealing), items_sound i (k + 1) xs rest l.3)
items_sound i k (opened f fs ∷ xs) rest l = ((λ t. l.2.sealing), items_sound i (k + 1) xs rest l.3)

fields_split : (before : List Item) (x : Item) (later : List Item)
    → fields_of (before ++ (x ∷ later)) ≡ fields_of before ++ (field_of x ∷ fields_of later)
fields_split [] x later = refl
fields_split (y ∷ ys) x later = ap (λ (l : List Field). field_of y ∷ l) (fields_split ys x later)

-- the sealed fields among items that are laid out are counted alike
pub front_seals : (i : Input) (k : ℕ) (before later : List Item) (rest : List ℕ) → Laid i k (before ++ later) rest
    → seals_among (fields_of before) ≡ seals_in before
front_seals i k [] later rest l = refl
front_seals i k (plain f ∷ xs) later rest l =
    rw (ne_eqb f.type 0x0404 l.2.not_sealed) (omega (arith, front_seals i k xs later rest l.3))
front_seals i k (shut f ∷ xs) later rest l =
    rw (eq-eqb f.type 0x0404 l.2.sealed) (omega (arith, front_seals i (k + 1) xs later rest l.3))
front_seals i k (opened f fs ∷ xs) later rest l =
    rw (eq-eqb f.type 0x0404 l.2.sealed) (omega (arith, front_seals i (k + 1) xs later rest l.3))

pub nothing_more : (items : List Item) → items ++ [] ≡ items
nothing_more [] = refl
nothing_more (x ∷ xs) = ap (λ (l : List Item). x ∷ l) (nothing_more xs)

ends_over : (v : Version) (left : List ℕ) (n offset m : ℕ) (r : Result ℕ SurveyFault) → Ends v left n offset r → r ≡ Ok m
    → length left ≤ cutoff_of v
ends_over v left n offset m r (complete h) e = h
ends_over v left n offset m r (no_frame a h) e = let z : ◌≡◌ {A = ℕ} 0 1 = cc in absurd (omega arith)
ends_over v left n offset m r (no_sealing a f w t h) e = let z : ◌≡◌ {A = ℕ} 0 1 = cc in absurd (omega arith)
ends_over v left n offset m r (no_room a f w t h q) e = let z : ◌≡◌ {A = ℕ} 0 1 = cc in absurd (omega arith)

pub survey_of_a_cut : (i : Input) (items : List Item) (rest : List ℕ) → Cut i items rest → length i.packet ≤ 65535
    → i.header_size ≤ length i.packet
    → seals_in items ≤ capacity
    → (r : Result ℕ SurveyFault) {t : List ℕ}
    → SurveyTells i.packet i.header_size i.version r t
    → OfCut i items r t
survey_of_a_cut i items rest cut small header few r (long a e g) = absurd (omega arith)
survey_of_a_cut i items rest cut small header few r (past_end a b e g) = absurd (omega arith)
survey_of_a_cut i items rest cut small header few r {t} (lists a b l) =
    let v = i.version in
    let w = laid i items rest cut.led in
    let count : seals_among (fields_of items) ≡ seals_in items = front_seals i 0 items [] rest (rw (nothing_more items) w) in
    let n = seals_among (fields_of items) in
    let none_before : (m : ℕ) → 0 + m ≡ m = λ m. omega arith in
    let answer : r ≡ Ok n =
    one_way v l.fields (fields_of items) l.left rest 0 i.header_size r (Ok n)
    (sym l.begins.whole ∙ cut.led.begins.whole) (along v (cutoff_of v) l.fields l.left l.begins.each)
    (items_along i 0 items rest w)
    (sound l.fields (λ ys f zs q h. (l.names ys f zs q h).sealing)) (items_sound i 0 items rest w)
    (omega (arith, l.room)) (omega (arith, count))
    (rw (none_before (seals_among l.fields)) l.ends)
    (rw (none_before n) (complete cut.over)) in
    let same =
    one_layout v (cutoff_of v) (drop i.header_size i.packet) l.fields (fields_of items) l.left rest
    (record { begins = l.begins; over = ends_over v l.left _ _ n r l.ends answer })
    (record { begins = cut.led.begins; over = cut.over }) in
    record {
      answer = answer ∙ ap Ok count;
      names =
          λ before x later q h.
          rw (← front_seals i 0 before (x ∷ later) rest (rw q at w))
          (l.names (fields_of before) (field_of x) (fields_of later)
          (same.0 ∙ ap fields_of q ∙ fields_split before x later) h);
    }

-- a survey that lists nothing, on bench sample 5; no result has a say
pub five_surveyed : (r : Result ℕ SurveyFault) {t : List ℕ} → SurveyTells (five (1 ∷ 2 ∷ [])).packet 0 (five (1 ∷ 2 ∷ [])).version r t → r ≡ Ok 2
unfolding five_has_a_cut
five_surveyed r d =
    (survey_of_a_cut (five (1 ∷ 2 ∷ [])) five_has_a_cut.items five_has_a_cut.rest five_has_a_cut.cut (omega arith) (omega arith)
    (omega arith) r d).answer

pub not_nothing_listed : {t : List ℕ} → SurveyTells (five (1 ∷ 2 ∷ [])).packet 0 (five (1 ∷ 2 ∷ [])).version (Ok 0) t → ⊥
not_nothing_listed d =
    let e = five_surveyed (Ok 0) d in
    let z : ◌≡◌ {A = ℕ} 0 2 = cc in
    omega arith
