-- A whole packet that was read is written again: both stages accept its fields, and the bytes are the packet's. It has the items that
-- the two stages make, each field regular for its place, and room in both outputs.
use Rattle.std.specs.Prelude.{◌≡◌, Bool, true, false, List, [], ◌∷◌, ◌++◌, ℕ, ◌+◌, ◌-◌, ◌≤◌, take, drop, replicate, Ok}
use Rattle.std.proofs.Math.Path.{refl}
use Rattle.std.proofs.Common.{sym, ap, ◌∙◌, append-nil, arith, length-append, take-append-drop, length-take-le, take_at}
use borrow.Author.Tests.{le-ltb, ltb-false}
use Rattle.std.proofs.Math.ListN.{length}
use Rattle.std.proofs.lemmas.List.Edits.{sets-eq}
use Rattle.std.proofs.Math.Seq.{length-sets}
use Rattle.base_store.specs.Meant.{overlay, output_end, room_from, wrote}
use Rattle.base_big_endian.specs.Meant.{big_endian}
use Rattle.base_version.specs.declared.Version.{Version}
use Rattle.base_version.specs.declared.Version.TheVariants.{V5}
use Rattle.layout.specs.Meant.{Field, joined}
use Rattle.read_opening.specs.Meant.{lent_of}
use Rattle.read_packet.specs.Meant.{Input, input_of}
use Rattle.write_field.specs.declared.Place.TheVariants.{Authenticated, Sealed, Untrusted, LastUntrusted}
use Rattle.write_list.specs.Meant.{Described, described_of}
use Rattle.write_stage_one.specs.Meant.{needs_cipher, stage_reply, stage_one, staged}
use Rattle.write_stage_two.specs.Meant.{after_sealed, stage_two}
use Rattle.claim_one_cut.specs.MeantCut.{plain as unsealed, opened, item_bytes, Cut}
use Rattle.claim_one_cut.proofs.LawsLaid.{led}
use Rattle.claim_one_cut.proofs.LawsExamples.{empty_sealing}
use Rattle.claim_round_trip.specs.MeantReturning.{sent_items}
use Rattle.claim_round_trip.specs.MeantWire.{seal_field}
use Rattle.claim_round_trip.specs.MeantSerialize.{has_seal_of, seal_bytes}
use Rattle.claim_round_trip.specs.MeantAgain.{as_identifier_law, AllAgain, WrittenAgain}
use Rattle.claim_round_trip.proofs.LawsAgain.{list_again, list_measured}
use Rattle.claim_round_trip.proofs.LawsItems.{sent_in_order, sent_bytes}
use Rattle.claim_round_trip.proofs.LawsStages.{overlay_joined}

module _ (d d' : Described) (v : Version) (xs es us : List Field) (nonce ciphertext out plain : List ℕ) (at : ℕ)
    (hx : AllAgain d v Authenticated Authenticated 0 xs) (he : AllAgain d v Sealed Sealed (length xs) es)
    (hu : AllAgain d' v Untrusted LastUntrusted 0 us) where
  abbrev seal : Bool
  seal = has_seal_of (length xs) (length es)

  abbrev tail : List ℕ
  tail = seal_bytes seal nonce ciphertext ++ joined us

  abbrev between : List ℕ
  between = overlay out at (joined xs)

  module _ (room : at + length (joined xs ++ tail) ≤ output_end (length out)) (plain-room : length (joined es) ≤ output_end (length plain)) where
    sizes : length (joined xs ++ tail) ≡ length (joined xs) + (length (seal_bytes seal nonce ciphertext) + length (joined us))
    sizes =
        omega (arith, length-append (joined xs) tail, length-append (seal_bytes seal nonce ciphertext) (joined us))

    same_size : length between ≡ length out
    same_size =
        ap length (sym (sets-eq (joined xs) out at (omega (arith, sizes)))) ∙ length-sets out at (joined xs)

    first_again : stage_reply (staged (length (joined xs)) (length (joined es))) between (overlay plain 0 (joined es))
        ≡ stage_one d v true (length xs) (length es) out at plain
    unfolding stage_one needs_cipher
    first_again =
        rw (
          le-ltb (output_end (length out)) at (omega (arith, sizes)),
          list_measured d v Authenticated Authenticated 0 xs (room_from (length out) at) hx (omega (arith, sizes)),
          list_measured d v Sealed Sealed (length xs) es (room_from (length plain) 0) he (omega arith),
          list_again d v Authenticated Authenticated 0 xs hx,
          list_again d v Sealed Sealed (length xs) es he,
        ) refl

    second_again : wrote (Ok (length tail)) (overlay between (at + length (joined xs)) tail)
        ≡ stage_two d' v seal nonce ciphertext (length us) between (at + length (joined xs))
    unfolding stage_two after_sealed
    second_again =
        rw (
          same_size,
          le-ltb (output_end (length out)) (at + length (joined xs)) (omega (arith, sizes)),
          le-ltb (room_from (length out) (at + length (joined xs))) (length (seal_bytes seal nonce ciphertext)) (omega (arith, sizes)),
          list_measured d' v Untrusted LastUntrusted 0 us (room_from (length out) (at + length (joined xs)) - length (seal_bytes seal nonce ciphertext)) hu
              (omega (arith, sizes)),
          list_again d' v Untrusted LastUntrusted 0 us hu,
        ) refl

    whole_again : overlay between (at + length (joined xs)) tail ≡ overlay out at (joined xs ++ tail)
    whole_again = overlay_joined out at (joined xs) tail (omega (arith, sizes, length-append (seal_bytes seal nonce ciphertext) (joined us)))

  -- without a sealed field there is no authenticated one
  none_before : seal ≡ false → xs ≡ []
  none_before h = go xs (ltb-false 0 (length xs + length es) h)
    where
      go : (fs : List Field) → length fs + length es ≤ 0 → fs ≡ []
      go [] k = refl
      go (f ∷ fs) k = absurd (omega arith)

  items_bytes : item_bytes (sent_items seal nonce ciphertext xs es us) ≡ joined xs ++ tail
  items_bytes =
      ap item_bytes (sym (sent_in_order seal nonce ciphertext xs es us none_before))
      ∙ sent_bytes nonce ciphertext xs es us seal

-- the theorem
pub packet_again : (i : Input) (d d' : Described) (xs es us : List Field) (nonce ciphertext out plain : List ℕ)
    → Cut i (sent_items (has_seal_of (length xs) (length es)) nonce ciphertext xs es us) []
    → AllAgain d i.version Authenticated Authenticated 0 xs
    → AllAgain d i.version Sealed Sealed (length xs) es
    → AllAgain d' i.version Untrusted LastUntrusted 0 us
    → i.header_size ≤ length i.packet
    → take i.header_size out ≡ take i.header_size i.packet
    → length i.packet ≤ output_end (length out)
    → length (joined es) ≤ output_end (length plain)
    → WrittenAgain i d (length xs) (length es) d' (length us) es nonce ciphertext out plain
packet_again i d d' xs es us nonce ciphertext out plain cut hx he hu header same_header room plain-room =
    let v = i.version in
    let at = i.header_size in
    let bytes = joined xs ++ tail d d' v xs es us nonce ciphertext out plain at hx he hu in
    let region : drop at i.packet ≡ bytes =
    cut.led.begins.whole
    ∙ append-nil (item_bytes (sent_items (has_seal_of (length xs) (length es)) nonce ciphertext xs es us))
    ∙ items_bytes d d' v xs es us nonce ciphertext out plain at hx he hu in
    let packet : i.packet ≡ take at i.packet ++ bytes =
    sym (take-append-drop at i.packet) ∙ ap (λ (l : List ℕ). take at i.packet ++ l) region in
    let size : length i.packet ≡ at + length bytes =
    ap length packet ∙ omega (arith, length-append (take at i.packet) bytes, length-take-le at i.packet header) in
    let fits : at + length bytes ≤ output_end (length out) = omega arith in
    record {
      count = length (joined xs);
      plain_count = length (joined es);
      between = overlay out at (joined xs);
      plaintext = overlay plain 0 (joined es);
      first = first_again d d' v xs es us nonce ciphertext out plain at hx he hu fits plain-room;
      text = take_at (joined es) (drop (0 + length (joined es)) plain) (length (joined es)) refl;
      rest = length (tail d d' v xs es us nonce ciphertext out plain at hx he hu);
      output = overlay (overlay out at (joined xs)) (at + length (joined xs)) (tail d d' v xs es us nonce ciphertext out plain at hx he hu);
      second = second_again d d' v xs es us nonce ciphertext out plain at hx he hu fits plain-room;
      same =
          ap (take (length i.packet)) (whole_again d d' v xs es us nonce ciphertext out plain at hx he hu fits plain-room)
          ∙ take_at (take at out ++ bytes) (drop (at + length bytes) out) (length i.packet)
          (omega (arith, length-append (take at out) bytes, length-take-le at out (omega arith)))
          ∙ ap (λ (l : List ℕ). l ++ bytes) same_header
          ∙ sym packet;
    }

-- a packet for which this holds: V5, an identifier of twelve bytes, described by its own kind, before an empty sealed field that
-- opened
abbrev small : Input
small =
    input_of (0x01 ∷ 0x04 ∷ 0x00 ∷ 0x10 ∷ (replicate 12 0xAA ++ (0x04 ∷ 0x04 ∷ 0x00 ∷ 0x08 ∷ 0x00 ∷ 0x00 ∷ 0x00 ∷ 0x00 ∷ []))) 0 V5
    (lent_of (2 ∷ []) (0 ∷ []) (0 ∷ []) [])

abbrev identifier : Field
identifier = record { type = 0x0104; message = replicate 12 0xAA; padding = [] }

abbrev as_identifier : Described
as_identifier = described_of (1 ∷ []) (0 ∷ []) (0 ∷ []) (12 ∷ []) (replicate 12 0xAA)

small_cut : Cut small (sent_items true [] [] (identifier ∷ []) [] []) []
unfolding big_endian
small_cut = record {
  led =
      led small (unsealed identifier ∷ opened (seal_field [] []) [] ∷ []) [] refl (
        omega arith,
        record { type_fits = omega arith; length_fits = omega arith; short = omega arith; even = refl; none_in_v4 = λ _. refl },
        record {
          not_sealed = λ e. omega arith;
          placeholder = λ e. absurd (omega arith);
          identification = λ _ e. absurd (omega arith);
          request = λ _ e. absurd (omega arith);
        },
        (
          omega arith,
          record { type_fits = omega arith; length_fits = omega arith; short = omega arith; even = refl; none_in_v4 = λ _. refl },
          record { sealed = refl; sealing = empty_sealing; says = omega arith; filled = record { whole = refl; each = tt } },
          tt,
        ),
      );
  over = omega arith;
}

pub small_again : WrittenAgain small as_identifier 1 0 as_identifier 0 [] [] [] (replicate 24 0) []
small_again =
    packet_again small as_identifier as_identifier (identifier ∷ []) [] [] [] [] (replicate 24 0) [] small_cut (
      omega arith,
      refl,
      as_identifier_law refl (record { inside = omega arith; same = refl }),
      record {
        shaped = record {
          type_fits = omega arith;
          length_fits = omega arith;
          short = omega arith;
          even = refl;
          none_in_v4 = λ _. refl;
        };
        zeroed = refl;
        enough = λ _. omega arith;
      },
      tt,
    ) tt tt (omega arith) refl (omega arith) (omega arith)
