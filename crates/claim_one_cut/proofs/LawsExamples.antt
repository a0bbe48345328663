-- The definitions at work, for both versions: packets that have a cut, which is written down and not computed by a reader, and
-- packets that have none.
use Rattle.std.specs.Prelude.{Some, None, ◌≡◌, refl, List, [], ◌∷◌, ℕ, zero, suc, ◌<◌, length, replicate}
use Rattle.std.proofs.Common.{arith}
use Rattle.base_answers.specs.declared.Refusal.{Refusal}
use Rattle.base_answers.specs.declared.Refusal.TheVariants.{IncorrectLength}
use Rattle.base_version.specs.declared.Version.{Version}
use Rattle.base_version.specs.declared.Version.TheVariants.{V4, V5}
use Rattle.base_big_endian.specs.Meant.{big_endian, number_at, Bytes}
use Rattle.field_kinds.specs.Meant.{kind_of}
use Rattle.field_frame.specs.Model.{frame_of, frame_at}
use Rattle.read_entries.specs.Meant.{capacity}
use Rattle.read_step.specs.Model.{checked_of, step_at}
use Rattle.read_opening.specs.Meant.{lent_of}
use Rattle.read_packet.specs.Meant.{Input, input_of}
use Rattle.read_packet.specs.ModelWalk.{turn, walk_from, end_of}
use Rattle.read_packet.specs.ModelReply.{read_over}
use Rattle.read_packet.specs.declared.Read.TheVariants.{Refused}
use Rattle.layout.specs.Meant.{Field}
use Rattle.field_sealed.specs.Meant.{Sealing}
use Rattle.claim_one_cut.specs.MeantCut.{plain, shut, opened}
use Rattle.claim_one_cut.specs.MeantReport.{HasCut}
use Rattle.claim_one_cut.proofs.LawsLaid.{led, supplied}
use Rattle.claim_one_cut.proofs.LawsClaims.{reports_the_cut}
use Rattle.claim_one_cut.specs.ModelReport.{Lendable, Answered, report_of}

abbrev zeros : ℕ → List ℕ
zeros n = replicate n 0

-- a packet without a header, with so many results of empty plaintexts
abbrev pub input : Version → List ℕ → List ℕ → Input
input v packet verdicts =
    input_of packet 0 v (lent_of verdicts (zeros (length verdicts)) (zeros (length verdicts)) [])

-- V5, bench sample 5: a UniqueIdentifier, a sealed field that fails and one that opens
abbrev pub five : List ℕ → Input
five verdicts =
    input V5 (1 ∷ 4 ∷ 0 ∷ 4 ∷ 4 ∷ 4 ∷ 0 ∷ 8 ∷ 0 ∷ 0 ∷ 0 ∷ 0 ∷ 4 ∷ 4 ∷ 0 ∷ 8 ∷ 0 ∷ 0 ∷ 0 ∷ 0 ∷ []) verdicts

abbrev pub identifier : Field
identifier = record { type = 0x0104; message = []; padding = [] }

abbrev pub empty_seal : Field
empty_seal = record { type = 0x0404; message = 0 ∷ 0 ∷ 0 ∷ 0 ∷ []; padding = [] }

pub empty_sealing : Sealing (0 ∷ 0 ∷ 0 ∷ 0 ∷ [])
unfolding big_endian
empty_sealing = record {
  nonce = [];
  filler = [];
  ciphertext = [];
  rest = [];
  nonce_fits = omega arith;
  ciphertext_fits = omega arith;
  short = omega arith;
  even = refl;
  whole = refl;
}

unfoldable pub five_has_a_cut : HasCut (five (1 ∷ 2 ∷ []))
unfolding big_endian
five_has_a_cut = record {
  items = plain identifier ∷ shut empty_seal ∷ opened empty_seal [] ∷ [];
  rest = [];
  cut = record {
    led =
        led (five (1 ∷ 2 ∷ [])) (plain identifier ∷ shut empty_seal ∷ opened empty_seal [] ∷ []) [] refl (
          omega arith,
          record { type_fits = omega arith; length_fits = omega arith; short = omega arith; even = refl; none_in_v4 = λ _. refl },
          record {
            not_sealed = λ e. omega arith;
            placeholder = λ e. absurd (omega arith);
            identification = λ _ e. absurd (omega arith);
            request = λ _ e. absurd (omega arith);
          },
          (
            omega arith,
            record { type_fits = omega arith; length_fits = omega arith; short = omega arith; even = refl; none_in_v4 = λ _. refl },
            record { sealed = refl; sealing = empty_sealing; says = omega arith },
            (
              omega arith,
              record { type_fits = omega arith; length_fits = omega arith; short = omega arith; even = refl; none_in_v4 = λ _. refl },
              record { sealed = refl; sealing = empty_sealing; says = omega arith; filled = record { whole = refl; each = tt } },
              tt,
            ),
          ),
        );
    over = omega arith;
  };
  supplied =
      supplied (five (1 ∷ 2 ∷ [])) (plain identifier ∷ shut empty_seal ∷ opened empty_seal [] ∷ []) (
        tt,
        (
          record { lent = omega arith; known = omega arith; short = λ h. omega arith; inside = λ h. omega arith },
          (record { lent = omega arith; known = omega arith; short = λ h. omega arith; inside = λ h. omega arith }, tt),
        ),
      );
  within = record { packet = omega arith; header_size = omega arith; outer = omega arith; inner = omega arith };
}

-- V4, bench sample 3: a field of 28 bytes
abbrev pub three : Input
three = input V4 (1 ∷ 4 ∷ 0 ∷ 28 ∷ replicate 24 0xAA) []

abbrev pub long_identifier : Field
long_identifier = record { type = 0x0104; message = replicate 24 0xAA; padding = [] }

unfoldable pub three_has_a_cut : HasCut three
unfolding big_endian
three_has_a_cut = record {
  items = plain long_identifier ∷ [];
  rest = [];
  cut = record {
    led =
        led three (plain long_identifier ∷ []) [] refl (
          omega arith,
          record { type_fits = omega arith; length_fits = omega arith; short = omega arith; even = refl; none_in_v4 = λ _. refl },
          record {
            not_sealed = λ e. omega arith;
            placeholder = λ e. absurd (omega arith);
            identification = λ _ e. absurd (omega arith);
            request = λ _ e. absurd (omega arith);
          },
          tt,
        );
    over = omega arith;
  };
  supplied = supplied three (plain long_identifier ∷ []) (tt, tt);
  within = record { packet = omega arith; header_size = omega arith; outer = omega arith; inner = omega arith };
}

abbrev blank : List ℕ
blank = zeros capacity

same_bytes : (n b : ℕ) → b < 256 → Bytes (replicate n b)
same_bytes zero b h = tt
same_bytes (suc n) b h = (h, same_bytes n b h)

-- a packet that is refused has no cut
no_cut : (i : Input) → Lendable i → (q : Refusal) (offset : ℕ) → Answered i (Refused q offset) blank blank → HasCut i → ⊥
no_cut i ok q offset a c =
    let e : None ≡ Some (report_of i c.items c.rest) = reports_the_cut i ok (Refused q offset) a c in
    let z : ◌≡◌ {A = ℕ} 0 1 = cc in
    omega arith

-- V4: a length that is no multiple of four
pub none_in_v4 : HasCut (input V4 (1 ∷ 4 ∷ 0 ∷ 26 ∷ replicate 24 0xAA) []) → ⊥
unfolding read_over end_of walk_from turn step_at checked_of frame_at frame_of kind_of number_at
none_in_v4 =
    no_cut (input V4 (1 ∷ 4 ∷ 0 ∷ 26 ∷ replicate 24 0xAA) [])
    (record {
      packet = (omega arith, (omega arith, (omega arith, (omega arith, same_bytes 24 0xAA (omega arith)))));
      plain = tt;
      size = omega arith;
    })
    IncorrectLength 0
    (record {
      outer = blank;
      used_outer_law = capacity;
      inner = blank;
      used_inner_law = capacity;
      outer_size = refl;
      inner_size = refl;
      promise = refl;
    })

-- V5: fewer bytes than a field has
pub none_in_v5 : HasCut (input V5 (1 ∷ 4 ∷ 0 ∷ []) []) → ⊥
unfolding read_over end_of walk_from turn step_at checked_of frame_at frame_of kind_of number_at
none_in_v5 =
    no_cut (input V5 (1 ∷ 4 ∷ 0 ∷ []) [])
    (record { packet = (omega arith, (omega arith, (omega arith, tt))); plain = tt; size = omega arith })
    IncorrectLength 0
    (record {
      outer = blank;
      used_outer_law = capacity;
      inner = blank;
      used_inner_law = capacity;
      outer_size = refl;
      inner_size = refl;
      promise = refl;
    })
