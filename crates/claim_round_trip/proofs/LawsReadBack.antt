-- What was written reads back. Both stages wrote, the packet ends where they ended, and the host opened the sealed field and got the
-- plaintext of stage one: then the fields of the lists are the cut of the packet, which the reader reports by demand 3. Which fields are
-- read back is said in Plans (`Returns`); in V4 the packet has to end in a field of more than 24 bytes (`Ends`).
use Rattle.std.specs.Prelude.{◌≡◌, refl, Bool, true, false, List, [], ◌++◌, ℕ, zero, suc, ◌+◌, ◌-◌, ◌≤◌, length, take, drop, Result, Ok}
use Rattle.std.proofs.Common.{sym, ap, subst, ◌∙◌, append-nil, length-append, length-take-le, take_at, drop_at}
use native.Mathlib.Omega.{arith}
use borrow.Author.Tests.{ltb-false}
use Rattle.std.proofs.lemmas.List.{length-map}
use Rattle.base_version.specs.declared.Version.{Version}
use Rattle.base_version.specs.declared.Version.TheVariants.{V4, V5}
use Rattle.base_store.specs.Meant.{overlay, room_from, wrote}
use Rattle.write_field.specs.declared.Place.{Place}
use Rattle.write_field.specs.declared.Place.TheVariants.{Authenticated, Sealed, Untrusted, LastUntrusted}
use Rattle.write_field.specs.declared.Plan.{Plan}
use Rattle.write_list.specs.Meant.{Described, plans_from, plans_bytes as plannedBytes}
use Rattle.write_list.specs.LawsSizes.{list_sized}
use Rattle.write_stage_one.specs.Meant.{stage_reply, stage_one, staged}
use Rattle.write_stage_two.specs.Meant.{untrusted_plans, stage_two}
use Rattle.read_opening.specs.Meant.{Lent}
use Rattle.read_packet.specs.Meant.{Input, input_of}
use Rattle.layout.specs.Meant.{cutoff_of, joined}
use Rattle.claim_one_cut.specs.MeantCut.{Item, item_bytes}
use Rattle.claim_one_cut.proofs.LawsLaid.{led, supplied}
use Rattle.claim_round_trip.specs.MeantWire.{wire_of}
use Rattle.claim_round_trip.specs.MeantReturning.{Returning, authenticated_fields, encrypted_fields, untrusted_fields, sent_items, Ends, OpenedAgain, ReadsBack}
use Rattle.claim_round_trip.proofs.LawsLists.{on_the_wire}
use Rattle.claim_round_trip.specs.MeantSerialize.{authenticated_plans, encrypted_plans, seal_bytes, has_seal_of}
use Rattle.write_stage_one.specs.Laws.{first_wrote}
use Rattle.claim_round_trip.proofs.LawsStages.{second_wrote}
use Rattle.claim_round_trip.proofs.LawsSerialize.{whole}
use Rattle.claim_round_trip.proofs.LawsItems.{in_order_of, sent_in_order, laid_items, sent_bytes, sent_outer, sent_inner, sent_hold, sent_readied}
use Rattle.base_answers.specs.declared.Refusal.{Refusal}

how_many : (d : Described) (v : Version) (each last : Place) (n k : ℕ) → length (plans_from d v each last n k) ≡ n
unfolding plans_from
how_many d v each last zero k = refl
how_many d v each last (suc n) k = omega (arith, how_many d v each last n (k + 1))

over_none : (v : Version) → 0 ≤ cutoff_of v
over_none V4 = omega arith
over_none V5 = omega arith

-- what is sent, and what is cut from it behind the header
written_part : (out : List ℕ) (at : ℕ) (bytes : List ℕ) (n : ℕ) → at ≤ length out → length bytes ≡ n
    → take (at + n) (overlay out at bytes) ≡ take at out ++ bytes
written_part out at bytes n h e =
    take_at (take at out ++ bytes) (drop (at + length bytes) out) (at + n)
    (omega (arith, length-append (take at out) bytes, length-take-le at out h))

module _ (d : Described) (a e : ℕ) (d' : Described) (u : ℕ) (v : Version) (has : Bool) (nonce ciphertext out : List ℕ) (at : ℕ)
    (plain : List ℕ) where
  -- no sealed field, and so no field before it
  none_first : has_seal_of a e ≡ false → authenticated_fields d v a ≡ []
  unfolding plans_from
  none_first h =
      let few = ltb-false 0 (a + e) h in
      let z : a ≡ 0 = omega arith in
      rw z

  abbrev items : List Item
  items = in_order_of (has_seal_of a e) nonce ciphertext (authenticated_fields d v a) (encrypted_fields d v a e) (untrusted_fields d' v u)

  module _ {n m : ℕ} {o p : List ℕ} (h : stage_reply (staged n m) o p ≡ stage_one d v has a e out at plain) {k : ℕ} {q : List ℕ}
      (g : wrote (Ok k) q ≡ stage_two d' v (has_seal_of a e) nonce ciphertext u o (at + n)) (l : Lent) where
    abbrev sent : Input
    sent = input_of (take (at + (n + k)) q) at v l

    in_order : Ends v items → Returning d a e d' u nonce ciphertext sent (take m p) → ReadsBack sent items
    in_order ends c =
        let f = first_wrote d v has a e out at plain n m h in
        let s = second_wrote d' v (has_seal_of a e) nonce ciphertext u o (at + n) k g in
        let w = whole d a e d' u v has nonce ciphertext out at plain h g in
        let sealed = seal_bytes (has_seal_of a e) nonce ciphertext in
        let xs = on_the_wire d v Authenticated Authenticated a 0 (room_from (length out) at) n f.outer c.first in
        let es = on_the_wire d v Sealed Sealed e a (room_from (length plain) 0) m f.inner c.inside in
        let us =
        on_the_wire d' v Untrusted LastUntrusted u 0 (room_from (length o) (at + n) - length sealed) s.rest s.others c.last in
        let text : take m p ≡ joined (encrypted_fields d v a e) =
        ap (take m) f.plaintext
        ∙ take_at (plannedBytes d.bytes (encrypted_plans d v a e))
        (drop (0 + length (plannedBytes d.bytes (encrypted_plans d v a e))) plain) m
        (list_sized d v Sealed Sealed e a (room_from (length plain) 0) m f.inner)
        ∙ es.bytes in
        let again : has_seal_of a e ≡ true → OpenedAgain sent (joined (encrypted_fields d v a e)) =
        λ b. record { ready = (c.again b).ready; says = (c.again b).says; same = (c.again b).same ∙ text } in
        let all : plannedBytes d.bytes (authenticated_plans d v a) ++ (sealed ++ plannedBytes d'.bytes (untrusted_plans d' v u))
        ≡ item_bytes items =
        ap (λ (x : List ℕ). x ++ (sealed ++ plannedBytes d'.bytes (untrusted_plans d' v u))) xs.bytes
        ∙ ap (λ (x : List ℕ). joined (authenticated_fields d v a) ++ (sealed ++ x)) us.bytes
        ∙ sym (sent_bytes nonce ciphertext (authenticated_fields d v a) (encrypted_fields d v a e) (untrusted_fields d' v u) (has_seal_of a e)) in
        let packet : take (at + (n + k)) q ≡ take at out ++ item_bytes items =
        ap (take (at + (n + k))) w.over
        ∙ written_part out at (plannedBytes d.bytes (authenticated_plans d v a) ++ (sealed ++ plannedBytes d'.bytes (untrusted_plans d' v u)))
        (n + k) (omega (arith, f.place)) w.count
        ∙ ap (λ (x : List ℕ). take at out ++ x) all in
        let size : length (take (at + (n + k)) q) ≡ at + (n + k) =
        ap length packet
        ∙ omega (
          arith,
          length-append (take at out) (item_bytes items),
          length-take-le at out (omega (arith, f.place)),
          ap length all,
          w.count,
        ) in
        record {
          cut = record {
            led =
                led sent items []
                (ap (drop at) packet ∙ drop_at (take at out) (item_bytes items) at (length-take-le at out (omega (arith, f.place))) ∙ sym (append-nil (item_bytes items)))
                (laid_items sent 0 items
                (sent_hold nonce ciphertext (authenticated_fields d v a) (encrypted_fields d v a e) (untrusted_fields d' v u) sent xs.each es.each us.each (has_seal_of a e) w.seal_fits again)
                ends);
            over = over_none v;
          };
          supplied = supplied sent items (sent_readied nonce ciphertext (authenticated_fields d v a) (encrypted_fields d v a e) (untrusted_fields d' v u) sent (has_seal_of a e) again);
          within = record {
            packet = omega (arith, size, w.short);
            header_size = omega (arith, size);
            outer = omega (
              arith,
              sent_outer nonce ciphertext (authenticated_fields d v a) (encrypted_fields d v a e) (untrusted_fields d' v u) (has_seal_of a e),
              length-map (authenticated_plans d v a) (λ (z : Result Plan Refusal). wire_of d.bytes z),
              length-map (untrusted_plans d' v u) (λ (z : Result Plan Refusal). wire_of d'.bytes z),
              how_many d v Authenticated Authenticated a 0,
              how_many d' v Untrusted LastUntrusted u 0,
              c.outer,
            );
            inner = omega (
              arith,
              sent_inner nonce ciphertext (authenticated_fields d v a) (encrypted_fields d v a e) (untrusted_fields d' v u) (has_seal_of a e),
              length-map (encrypted_plans d v a e) (λ (z : Result Plan Refusal). wire_of d.bytes z),
              how_many d v Sealed Sealed e a,
              c.inner,
            );
          };
        }

    -- the fields of the lists are the cut of the packet, with nothing left over
    pub reads_back : Returning d a e d' u nonce ciphertext (input_of (take (at + (n + k)) q) at v l) (take m p)
        → ReadsBack (input_of (take (at + (n + k)) q) at v l)
        (sent_items (has_seal_of a e) nonce ciphertext (authenticated_fields d v a) (encrypted_fields d v a e) (untrusted_fields d' v u))
    reads_back c =
        subst (ReadsBack sent) same (in_order (subst (Ends v) (sym same) c.ends) c)
      where
        same : items
            ≡ sent_items (has_seal_of a e) nonce ciphertext (authenticated_fields d v a) (encrypted_fields d v a e) (untrusted_fields d' v u)
        same =
            sent_in_order (has_seal_of a e) nonce ciphertext (authenticated_fields d v a) (encrypted_fields d v a e) (untrusted_fields d' v u)
            none_first
