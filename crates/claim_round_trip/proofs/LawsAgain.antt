-- What was read is written again. A field of a cut, described as an Unknown of its type or by its own kind, is written as the bytes
-- that it had: if its padding was zeros, and if it states at least the minimum of the place that it is written to, which reference id
-- fields ignore.
use Rattle.std.specs.Prelude.{◌≡◌, ℕ, ◌+◌, ◌-◌, ◌%◌, ◌≤◌, ◌<◌, eqb, get_or, Ok}
use Rattle.std.proofs.Math.Path.{refl, sym, ap, subst}
use Rattle.std.proofs.Common.{◌∙◌}
use mathlib.Core.List.{List, [], ◌∷◌, ◌++◌, append-nil}
use native.Mathlib.Omega.{arith}
use borrow.Author.Tests.{eq-eqb, ne_eqb, le-leb, le-ltb, lt-leb}
use Rattle.std.proofs.Math.ListN.{length, length-append}
use Rattle.std.proofs.lemmas.List.{replicate-append-replicate}
use Rattle.base_version.specs.declared.Version.{Version}
use Rattle.base_version.specs.declared.Version.TheVariants.{V4, V5}
use Rattle.base_rounding.specs.Meant.{rounded_up}
use Rattle.base_big_endian.specs.Meant.{big_endian}
use Rattle.base_big_endian.specs.Laws.{length_big_endian}
use Rattle.field_contents.specs.Meant.{All}
use Rattle.field_contents.proofs.LawsRules.{all_ascii}
use Rattle.field_bytes.specs.Meant.{field_bytes}
use Rattle.field_kinds.specs.Meant.{unique_identifier, nts_cookie, draft_identification, reference_id_request, reference_id_response}
use Rattle.field_reference_ids.specs.MeantRequest.{request_wire_length}
use Rattle.field_reference_ids.specs.MeantResponse.{response_wire_length}
use Rattle.write_field.specs.Meant.{to_write_of, most_data, minimum_of, stated_of, framed_plan, data_of, lent_plan, draft_plan, request_plan, response_plan, plan_of, plan_bytes}
use Rattle.write_field.specs.declared.Place.{Place}
use Rattle.write_field.specs.declared.Plan.TheVariants.{Request}
use Rattle.write_list.specs.Meant.{Described, described, list_place, plan_at, plans_from, measure_of, plans_bytes}
use Rattle.layout.specs.Meant.{Field, stated, bytes_of, joined, Shaped}
use Rattle.layout.proofs.Laws.{size_of}
use Rattle.claim_round_trip.specs.MeantWire.{zeros}
use Rattle.claim_round_trip.specs.MeantAgain.{Again, Regular, InData, Describes, as_unknown, as_identifier_law, as_cookie, as_placeholder, as_draft, as_request, as_response, AllAgain}
use Rattle.claim_round_trip.proofs.LawsPlans.{part_empty}

stated_again : (v : Version) (place : Place) (f : Field) → Shaped v f → minimum_of v place ≤ stated f
    → (length f.message ≤ most_data v) × (stated_of v (minimum_of v place) (length f.message) ≡ stated f)
stated_again V4 place f shaped enough =
    let none : length f.padding ≡ 0 = ap length (shaped.none_in_v4 refl) in
    (omega (arith, shaped.even, shaped.length_fits), omega (arith, shaped.even))
stated_again V5 place f shaped enough = (omega (arith, shaped.length_fits), omega arith)

part_again : (lent : List ℕ) (start : ℕ) (m : List ℕ) → InData lent start m → data_of lent start (start + length m) ≡ m
unfolding data_of
part_again lent start m h =
    let e : start + length m - start ≡ length m = omega arith in
    rw (le-ltb (start + length m) start (omega arith), le-ltb (length lent) (start + length m) h.inside, e) h.same

module _ (v : Version) (place : Place) (f : Field) (lent : List ℕ) (shaped : Shaped v f)
    (zeroed : f.padding ≡ zeros (length f.padding)) where
  pad : rounded_up (stated f) - stated f ≡ length f.padding
  pad = omega (arith, shaped.even, shaped.short)

  whole_size : rounded_up (stated f) ≡ length (bytes_of f)
  whole_size = omega (arith, shaped.even, shaped.short, size_of f)

  -- the message, and zeros up to the wire length
  message_again : field_bytes f.type (stated f) f.message (rounded_up (stated f)) ≡ bytes_of f
  message_again =
      ap (λ (l : List ℕ). big_endian 2 f.type ++ (big_endian 2 (stated f) ++ (f.message ++ l))) (ap zeros pad ∙ sym zeroed)

  -- a request's zeros are not data, and it has no padding
  request_again : (number : ℕ) → f.type ≡ reference_id_request → f.message ≡ big_endian 2 number ++ zeros (length f.message - 2)
      → length f.message % 4 ≡ 0
      → Again f lent (request_plan (length f.message) number)
  unfolding request_plan request_wire_length plan_bytes
  request_again number t m four =
      let n = length f.message in
      let some : 2 ≤ n =
      omega (arith, ap length m, length-append (big_endian 2 number) (zeros (n - 2)), length_big_endian 2 number) in
      let empty : length f.padding ≡ 0 = omega (arith, shaped.even, shaped.short) in
      let none : f.padding ≡ [] = zeroed ∙ ap zeros empty in
      let sum : n + 4 ≡ stated f = omega arith in
      let places : stated f - (4 + length (big_endian 2 number)) ≡ n - 2 = omega (arith, length_big_endian 2 number) in
      let body : big_endian 2 number ++ zeros (stated f - (4 + length (big_endian 2 number))) ≡ f.message ++ f.padding =
      ap (λ (k : ℕ). big_endian 2 number ++ zeros k) places
      ∙ sym m
      ∙ sym (append-nil f.message)
      ∙ sym (ap (λ (l : List ℕ). f.message ++ l) none) in
      let whole : stated f ≡ length (bytes_of f) = omega (arith, size_of f) in
      let plan : request_plan n number ≡ Ok (Request (stated f) (stated f) number) =
      rw (ne_eqb n 0 (λ e. omega arith), eq-eqb (n % 4) 0 four, le-ltb 65531 n (omega (arith, shaped.length_fits)), sum) refl in
      record {
        bytes = rw (plan, ← t) (ap (λ (l : List ℕ). big_endian 2 f.type ++ (big_endian 2 (stated f) ++ l)) body);
        size = rw plan (ap Ok whole);
      }

  response_again : (start : ℕ) → f.type ≡ reference_id_response → InData lent start f.message
      → Again f lent (response_plan start (length f.message) (length lent))
  unfolding response_plan response_wire_length plan_bytes
  response_again start t h =
      let n = length f.message in
      let inside = le-leb (start + n) (length lent) h.inside in
      let fits = le-ltb 65531 n (omega (arith, shaped.length_fits)) in
      let sum : n + 4 ≡ stated f = omega arith in
      record {
        bytes = rw (inside, fits, sum, part_again lent start f.message h, ← t) message_again;
        size = rw (inside, fits, sum, whole_size) refl;
      }

  -- the kinds that obey the minimum of the place
  module _ (enough : minimum_of v place ≤ stated f) where
    framed_again : (start : ℕ) → InData lent start f.message
        → Again f lent (framed_plan v place f.type (length f.message) start (start + length f.message))
    unfolding framed_plan plan_bytes
    framed_again start h =
        let w = stated_again v place f shaped enough in
        let fits = le-ltb (most_data v) (length f.message) w.0 in
        record {
          bytes = rw (fits, w.1, part_again lent start f.message h) message_again;
          size = rw (fits, w.1, whole_size) refl;
        }

    lent_again : (t start : ℕ) → f.type ≡ t → InData lent start f.message
        → Again f lent (lent_plan v place t start (length f.message) lent)
    unfolding lent_plan
    lent_again t start e h = rw (le-leb (start + length f.message) (length lent) h.inside, ← e) (framed_again start h)

    draft_again : (start : ℕ) → f.type ≡ draft_identification → InData lent start f.message → All (λ (b : ℕ). b < 128) f.message
        → Again f lent (draft_plan v place start (length f.message) lent)
    unfolding draft_plan
    draft_again start t h small =
        rw (le-leb (start + length f.message) (length lent) h.inside, h.same, all_ascii f.message small, ← t)
        (framed_again start h)

    -- the zeros of a placeholder are not data
    placeholder_again : f.message ≡ zeros (length f.message) → Again f lent (framed_plan v place f.type (length f.message) 0 0)
    unfolding framed_plan plan_bytes
    placeholder_again z =
        let w = stated_again v place f shaped enough in
        let sum : rounded_up (stated f) - (4 + 0) ≡ length f.message + length f.padding = omega (arith, pad) in
        let all : zeros (rounded_up (stated f) - (4 + 0)) ≡ f.message ++ f.padding =
        ap zeros sum
        ∙ sym (replicate-append-replicate (length f.message) (length f.padding) 0)
        ∙ sym (ap (λ (l : List ℕ). l ++ zeros (length f.padding)) z)
        ∙ sym (ap (λ (l : List ℕ). f.message ++ l) zeroed) in
        let fits = le-ltb (most_data v) (length f.message) w.0 in
        record {
          bytes =
              rw (fits, w.1, part_empty lent)
              (ap (λ (l : List ℕ). big_endian 2 f.type ++ (big_endian 2 (stated f) ++ l)) all);
          size = rw (fits, w.1, whole_size) refl;
        }

module _ (v : Version) (place : Place) (f : Field) (lent : List ℕ) where
  -- a field that was read, described in any of these ways, is planned as it was
  pub field_again : (kind number start : ℕ) → Describes lent f kind number start → Regular v place kind f
      → Again f lent (plan_of v place (to_write_of kind) number start (length f.message) lent)
  unfolding plan_of
  field_again kind number start (as_unknown h) r = lent_again v place f lent r.shaped r.zeroed (r.enough tt) f.type start refl h
  field_again kind number start (as_identifier_law t h) r =
      lent_again v place f lent r.shaped r.zeroed (r.enough tt) unique_identifier start t h
  field_again kind number start (as_cookie t h) r = lent_again v place f lent r.shaped r.zeroed (r.enough tt) nts_cookie start t h
  field_again kind number start (as_placeholder t z) r =
      subst (λ (n : ℕ). Again f lent (framed_plan v place n (length f.message) 0 0)) t
      (placeholder_again v place f lent r.shaped r.zeroed (r.enough tt) z)
  field_again kind number start (as_draft t h small) r = draft_again v place f lent r.shaped r.zeroed (r.enough tt) start t h small
  field_again kind number start (as_request t m four) r = request_again v place f lent r.shaped r.zeroed number t m four
  field_again kind number start (as_response t h) r = response_again v place f lent r.shaped r.zeroed start t h

-- the plan of described fields is that of the first and those of the others
first_plan : (d : Described) (v : Version) (each last : Place) (k : ℕ) (f : Field) (fs : List Field) → AllAgain d v each last k (f ∷ fs)
    → Again f d.bytes (plan_at d v (list_place each last (eqb (length fs) 0)) k)
unfolding plan_at
first_plan d v each last k f fs h =
    rw (lt-leb (described d) k h.0, h.1)
    (field_again v (list_place each last (eqb (length fs) 0)) f d.bytes (get_or d.kinds k 0) (get_or d.numbers k 0)
    (get_or d.starts k 0) h.2 h.3)

-- fields that were read are written as they were
pub list_again : (d : Described) (v : Version) (each last : Place) (k : ℕ) (fs : List Field) → AllAgain d v each last k fs
    → plans_bytes d.bytes (plans_from d v each last (length fs) k) ≡ joined fs
unfolding plans_bytes plans_from
list_again d v each last k [] h = refl
list_again d v each last k (f ∷ fs) h =
    ap (λ (l : List ℕ). l ++ plans_bytes d.bytes (plans_from d v each last (length fs) (k + 1))) (first_plan d v each last k f fs h).bytes
    ∙ ap (λ (l : List ℕ). bytes_of f ++ l) (list_again d v each last (k + 1) fs h.4)

-- and take as many bytes, where there is room for them
pub list_measured : (d : Described) (v : Version) (each last : Place) (k : ℕ) (fs : List Field) (room : ℕ) → AllAgain d v each last k fs
    → length (joined fs) ≤ room
    → measure_of (plans_from d v each last (length fs) k) room ≡ Ok (length (joined fs))
unfolding measure_of plans_from
list_measured d v each last k [] room h fits = refl
list_measured d v each last k (f ∷ fs) room h fits =
    let n = length (bytes_of f) in
    let both = length-append (bytes_of f) (joined fs) in
    let rest = list_measured d v each last (k + 1) fs (room - n) h.4 (omega (arith, both)) in
    rw ((first_plan d v each last k f fs h).size, le-ltb room n (omega (arith, both)), rest) (ap Ok (sym both))
