-- What demand 3 rules out, from the record alone: for any answer and any tables. No line here knows how the reader works.
use Rattle.std.specs.Prelude.{Option, None, ◌≡◌, refl, List, [], ◌∷◌, map, ℕ, ◌-◌, take, drop}
use Rattle.std.proofs.Common.{sym, ap, ◌∙◌, arith}
use Rattle.base_answers.specs.declared.Refusal.{Refusal}
use Rattle.base_big_endian.specs.Meant.{big_endian}
use Rattle.base_version.specs.declared.Version.TheVariants.{V5}
use Rattle.read_entries.specs.Meant.{capacity}
use Rattle.read_packet.specs.Meant.{Input}
use Rattle.read_packet.specs.declared.Read.{Read}
use Rattle.read_packet.specs.declared.Read.TheVariants.{Accepted, DecryptError, Refused}
use Rattle.read_records.specs.Model.{message_of}
use Rattle.read_records.specs.declared.Record.{Record}
use Rattle.read_records.specs.declared.Trust.TheVariants.{Authenticated}
use Rattle.layout.specs.Meant.{Field}
use Rattle.claim_one_cut.specs.MeantCut.{plain, opened}
use Rattle.claim_one_cut.specs.MeantReport.{outer_records, cookie_of, records_of, HasCut}
use Rattle.claim_one_cut.proofs.LawsLaid.{led, supplied}
use Rattle.claim_one_cut.proofs.LawsExamples.{input, five, three, identifier, empty_seal, empty_sealing, five_has_a_cut, three_has_a_cut}
use Rattle.claim_demand.specs.Meant.{Demand3, blank}

-- bench sample 5: the answer is one
pub five_answered : (r : Read) {o n : List ℕ} → Demand3 (five (1 ∷ 2 ∷ [])) r o n → r ≡ DecryptError 2 0 0 0
unfolding five_has_a_cut cookie_of
five_answered r d = (d.reports_the_cut five_has_a_cut).answer

-- a reader that only refuses
pub not_only_refusing : (q : Refusal) (offset : ℕ) {o n : List ℕ} → Demand3 (five (1 ∷ 2 ∷ [])) (Refused q offset) o n → ⊥
not_only_refusing q offset d =
    let e = five_answered (Refused q offset) d in
    let z : ◌≡◌ {A = ℕ} 0 1 = cc in
    omega arith

-- an empty list, with 5 or with 0
pub not_an_empty_list : (rest : ℕ) {o n : List ℕ} → Demand3 (five (1 ∷ 2 ∷ [])) (DecryptError 0 0 0 rest) o n → ⊥
not_an_empty_list rest d =
    let e = five_answered (DecryptError 0 0 0 rest) d in
    let z : ◌≡◌ {A = ℕ} 0 2 = cc in
    omega arith

-- a sealed field that did not open, told as accepted
pub not_accepted : (a u e rest : ℕ) (c : Option ℕ) {o n : List ℕ} → Demand3 (five (1 ∷ 2 ∷ [])) (Accepted a u e rest c) o n → ⊥
not_accepted a u e rest c d =
    let h = five_answered (Accepted a u e rest c) d in
    let z : ◌≡◌ {A = ℕ} 0 1 = cc in
    omega arith

-- the results decide: with both fields opened the answer is another, so no reader can do without them
both_opened : HasCut (five (2 ∷ 2 ∷ []))
unfolding big_endian
both_opened = record {
  items = plain identifier ∷ opened empty_seal [] ∷ opened empty_seal [] ∷ [];
  rest = [];
  cut = record {
    led =
        led (five (2 ∷ 2 ∷ [])) (plain identifier ∷ opened empty_seal [] ∷ opened empty_seal [] ∷ []) [] refl (
          omega arith,
          record { type_fits = omega arith; length_fits = omega arith; short = omega arith; even = refl; none_in_v4 = λ _. refl },
          record {
            not_sealed = λ e. omega arith;
            placeholder = λ e. absurd (omega arith);
            identification = λ _ e. absurd (omega arith);
            request = λ _ e. absurd (omega arith);
          },
          (
            omega arith,
            record { type_fits = omega arith; length_fits = omega arith; short = omega arith; even = refl; none_in_v4 = λ _. refl },
            record { sealed = refl; sealing = empty_sealing; says = omega arith; filled = record { whole = refl; each = tt } },
            (
              omega arith,
              record { type_fits = omega arith; length_fits = omega arith; short = omega arith; even = refl; none_in_v4 = λ _. refl },
              record { sealed = refl; sealing = empty_sealing; says = omega arith; filled = record { whole = refl; each = tt } },
              tt,
            ),
          ),
        );
    over = omega arith;
  };
  supplied =
      supplied (five (2 ∷ 2 ∷ [])) (plain identifier ∷ opened empty_seal [] ∷ opened empty_seal [] ∷ []) (
        tt,
        (
          record { lent = omega arith; known = omega arith; short = λ h. omega arith; inside = λ h. omega arith },
          (record { lent = omega arith; known = omega arith; short = λ h. omega arith; inside = λ h. omega arith }, tt),
        ),
      );
  within = record { packet = omega arith; header_size = omega arith; outer = omega arith; inner = omega arith };
}

pub results_decide : (r : Read) {o n : List ℕ} → Demand3 (five (2 ∷ 2 ∷ [])) r o n → r ≡ Accepted 1 0 0 0 None
unfolding both_opened cookie_of
results_decide r d = (d.reports_the_cut both_opened).answer

-- a V4 packet of one field that is taken for a remainder
pub not_all_remainder : (rest : ℕ) {o n : List ℕ} → Demand3 three (Accepted 0 0 0 rest None) o n → ⊥
unfolding three_has_a_cut cookie_of
not_all_remainder rest d =
    let e : Accepted 0 0 0 rest None ≡ Accepted 0 1 0 0 None = (d.reports_the_cut three_has_a_cut).answer in
    let z : ◌≡◌ {A = ℕ} 0 1 = cc in
    omega arith

-- invented counts
pub no_other_counts : (a u e rest : ℕ) {o n : List ℕ} → Demand3 (five (1 ∷ 2 ∷ [])) (DecryptError a u e rest) o n
    → (a ≡ 2) × (u ≡ 0) × (e ≡ 0) × (rest ≡ 0)
no_other_counts a u e rest d =
    let h = five_answered (DecryptError a u e rest) d in
    (cc, cc, cc, cc)

-- a marker that is not promoted: both records that a host makes of the table say authenticated
pub marker_promoted : (r : Read) {o n : List ℕ} → Demand3 (five (1 ∷ 2 ∷ [])) r o n
    → map (λ (x : Record). x.trust) (records_of V5 (take 2 o) (take 0 (drop 2 o))) ≡ Authenticated ∷ Authenticated ∷ []
unfolding five_has_a_cut outer_records
marker_promoted r d = ap (map (λ (x : Record). x.trust)) (d.reports_the_cut five_has_a_cut).outer

-- entries left over past the counts
pub blank_after : (r : Read) {o n : List ℕ} → Demand3 (five (1 ∷ 2 ∷ [])) r o n → (drop 2 o ≡ blank (capacity - 2)) × (n ≡ blank capacity)
unfolding five_has_a_cut
blank_after r d = ((d.reports_the_cut five_has_a_cut).outer_blank, (d.reports_the_cut five_has_a_cut).inner_blank)

-- V5: a DraftIdentification of "ab" and two zeros, which belong to it
abbrev draft : Input
draft = input V5 (0xF5 ∷ 0xFF ∷ 0x00 ∷ 0x08 ∷ 0x61 ∷ 0x62 ∷ 0x00 ∷ 0x00 ∷ []) []

abbrev draft_field : Field
draft_field = record { type = 0xF5FF; message = 0x61 ∷ 0x62 ∷ 0x00 ∷ 0x00 ∷ []; padding = [] }

draft_has_a_cut : HasCut draft
unfolding big_endian
draft_has_a_cut = record {
  items = plain draft_field ∷ [];
  rest = [];
  cut = record {
    led =
        led draft (plain draft_field ∷ []) [] refl (
          omega arith,
          record { type_fits = omega arith; length_fits = omega arith; short = omega arith; even = refl; none_in_v4 = λ _. refl },
          record {
            not_sealed = λ e. omega arith;
            placeholder = λ e. absurd (omega arith);
            identification = λ _ e. (omega arith, (omega arith, (omega arith, (omega arith, tt))));
            request = λ _ e. absurd (omega arith);
          },
          tt,
        );
    over = omega arith;
  };
  supplied = supplied draft (plain draft_field ∷ []) (tt, tt);
  within = record { packet = omega arith; header_size = omega arith; outer = omega arith; inner = omega arith };
}

-- its zeros are not trimmed: the record has four bytes, and they are handed back
pub zeros_kept : (r : Read) {o n : List ℕ} → Demand3 draft r o n → let records = records_of V5 (take 0 o) (take 1 (drop 0 o)) in
    (map (λ (x : Record). x.message_len) records ≡ 4 ∷ [])
    × (map (λ (x : Record). message_of draft.packet [] x) records ≡ (0x61 ∷ 0x62 ∷ 0x00 ∷ 0x00 ∷ []) ∷ [])
unfolding draft_has_a_cut outer_records
zeros_kept r d =
    let w = d.reports_the_cut draft_has_a_cut in (
      ap (map (λ (x : Record). x.message_len)) w.outer,
      ap (map (λ (x : Record). message_of draft.packet [] x)) w.outer ∙ w.outer_bytes,
    )

-- V5, bench sample 1: a UniqueIdentifier of one byte with three bytes of padding
abbrev one : Input
one = input V5 (0x01 ∷ 0x04 ∷ 0x00 ∷ 0x05 ∷ 0xAA ∷ 0x11 ∷ 0x22 ∷ 0x33 ∷ []) []

abbrev one_field : Field
one_field = record { type = 0x0104; message = 0xAA ∷ []; padding = 0x11 ∷ 0x22 ∷ 0x33 ∷ [] }

one_has_a_cut : HasCut one
unfolding big_endian
one_has_a_cut = record {
  items = plain one_field ∷ [];
  rest = [];
  cut = record {
    led =
        led one (plain one_field ∷ []) [] refl (
          omega arith,
          record {
            type_fits = omega arith;
            length_fits = omega arith;
            short = omega arith;
            even = refl;
            none_in_v4 = λ e. let z : ◌≡◌ {A = ℕ} 0 1 = cc in absurd (omega arith);
          },
          record {
            not_sealed = λ e. omega arith;
            placeholder = λ e. absurd (omega arith);
            identification = λ _ e. absurd (omega arith);
            request = λ _ e. absurd (omega arith);
          },
          tt,
        );
    over = omega arith;
  };
  supplied = supplied one (plain one_field ∷ []) (tt, tt);
  within = record { packet = omega arith; header_size = omega arith; outer = omega arith; inner = omega arith };
}

-- padding is not handed out as message: the record has one byte, and takes eight
pub padding_kept_apart : (r : Read) {o n : List ℕ} → Demand3 one r o n → let records = records_of V5 (take 0 o) (take 1 (drop 0 o)) in
    (map (λ (x : Record). x.message_len) records ≡ 1 ∷ [])
    × (map (λ (x : Record). x.wire_length) records ≡ 8 ∷ [])
    × (map (λ (x : Record). message_of one.packet [] x) records ≡ (0xAA ∷ []) ∷ [])
unfolding one_has_a_cut outer_records
padding_kept_apart r d =
    let w = d.reports_the_cut one_has_a_cut in (
      ap (map (λ (x : Record). x.message_len)) w.outer,
      ap (map (λ (x : Record). x.wire_length)) w.outer,
      ap (map (λ (x : Record). message_of one.packet [] x)) w.outer ∙ w.outer_bytes,
    )

-- for every input: two replies that meet the demand have one answer, and a host makes the same records of both
listing_alike : (i : Input) (r s : Read) {o n p m : List ℕ} → Demand3 i r o n → Demand3 i s p m → HasCut i → r ≡ s
listing_alike i r s d e c = (d.reports_the_cut c).answer ∙ sym (e.reports_the_cut c).answer

pub one_answer : (i : Input) (r s : Read) {o n p m : List ℕ} → Demand3 i r o n → Demand3 i s p m → r ≡ s
one_answer i (Refused q offset) s d e = sym ((e.refuses_exactly q offset).1 ((d.refuses_exactly q offset).0 refl))
one_answer i (Accepted a u k rest c) s d e = listing_alike i (Accepted a u k rest c) s d e (d.reports_exactly.0 tt)
one_answer i (DecryptError a u k rest) s d e = listing_alike i (DecryptError a u k rest) s d e (d.reports_exactly.0 tt)
