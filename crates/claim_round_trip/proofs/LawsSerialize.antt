-- Stage one and stage two together are ntp-proto's one `serialize`: the same bytes, the same count, and refused for the same
-- reason. The Rust calls its cipher in between; the host does so here.
use Rattle.std.specs.Prelude.{◌≡◌, Bool, List, ◌++◌, ℕ, ◌+◌, ◌-◌, ◌≤◌, ltb, Result, Ok, Err}
use Rattle.std.proofs.Common.{sym, ◌∙◌, true≢false, arith, length-append}
use Rattle.std.proofs.Math.Path.{ap}
use Rattle.std.proofs.Math.Bool.{true, false}
use borrow.Author.Tests.{le-ltb}
use Rattle.std.proofs.Math.ListN.{length}
use Rattle.std.proofs.lemmas.List.Edits.{sets-eq}
use Rattle.std.proofs.Math.Seq.{length-sets}
use Rattle.base_answers.specs.Meant.{pick}
use Rattle.base_answers.specs.declared.Refusal.{Refusal}
use Rattle.base_answers.specs.declared.Refusal.TheVariants.{NoRoom, NoCipher}
use Rattle.base_sizes.specs.Meant.{most_bytes}
use Rattle.base_version.specs.declared.Version.{Version}
use Rattle.base_store.specs.Meant.{output_end, overlay, room_from, Write, wrote, refusing as keeping}
use Rattle.base_store.specs.LawsOnly.{not_refused}
use Rattle.write_field.specs.declared.Place.TheVariants.{Authenticated, Untrusted, LastUntrusted}
use Rattle.write_field.specs.declared.Plan.{Plan}
use Rattle.write_list.specs.Meant.{Described, plus, on_measure, measure_of, plans_bytes, write_measured as listMeasured}
use Rattle.write_list.specs.LawsSizes.{fits_room, list_sized}
use Rattle.write_stage_one.specs.Meant.{StageOneWrite, needs_cipher, stage_reply, refusing_both, on_both_measured, stage_one, staged}
use Rattle.write_stage_two.specs.Meant.{untrusted_plans, after_sealed, stage_two}
use Rattle.write_stage_one.specs.LawsOnly.{not_refused as not-refused-both}
use Rattle.claim_round_trip.specs.MeantSerialize.{authenticated_plans, encrypted_plans, seal_bytes, has_seal_of, serialize_measure, serialize}
use Rattle.write_stage_one.specs.Laws.{FirstWrote, first_wrote}
use Rattle.claim_round_trip.proofs.LawsStages.{second_wrote, overlay_joined}

module _ (d : Described) (a e : ℕ) (d' : Described) (u : ℕ) (v : Version) (has : Bool) (nonce ciphertext out : List ℕ) (at : ℕ)
    (plain : List ℕ) where
  abbrev sealed : List ℕ
  sealed = seal_bytes (has_seal_of a e) nonce ciphertext

  abbrev first : List (Result Plan Refusal)
  first = authenticated_plans d v a

  abbrev inside : List (Result Plan Refusal)
  inside = encrypted_plans d v a e

  abbrev all : List ℕ
  all = plans_bytes d.bytes first ++ (sealed ++ plans_bytes d'.bytes (untrusted_plans d' v u))

  -- stage one refuses, and so does `serialize`
  pub first_refuses : (r : Refusal) {o p : List ℕ} → stage_reply (Err r) o p ≡ stage_one d v has a e out at plain
      → serialize d a e d' u v has nonce ciphertext out at plain ≡ keeping r out
  unfolding stage_one serialize serialize_measure
  first_refuses r {o} {p} h =
      go (needs_cipher has a e) (ltb (output_end (length out)) at) (measure_of first (room_from (length out) at))
      (measure_of inside (room_from (length plain) 0)) h
    where
      go : (b c : Bool) (w x : Result ℕ Refusal)
          → stage_reply (Err r) o p
          ≡ pick b (refusing_both NoCipher out plain)
          (pick c (refusing_both NoRoom out plain)
          (on_both_measured w x (plans_bytes d.bytes (authenticated_plans d v a)) (plans_bytes d.bytes (encrypted_plans d v a e)) out at plain))
          → pick b (keeping NoCipher out)
          (pick c (keeping NoRoom out)
          (listMeasured
          (on_measure w
          (λ n.
          on_measure x
          (λ _.
          pick (ltb (room_from (length out) at - n) (length sealed)) (Err NoRoom)
          (plus (n + length sealed) (measure_of (untrusted_plans d' v u) (room_from (length out) at - n - length sealed))))))
          all out at))
          ≡ keeping r out
      go true c w x f = ap (λ (q : Refusal). keeping q out) (cc (ap (λ (y : StageOneWrite). y.answer) f))
      go false true w x f = ap (λ (q : Refusal). keeping q out) (cc (ap (λ (y : StageOneWrite). y.answer) f))
      go false false (Err q) x f = ap (λ (q : Refusal). keeping q out) (cc (ap (λ (y : StageOneWrite). y.answer) f))
      go false false (Ok n) (Err q) f = ap (λ (q : Refusal). keeping q out) (cc (ap (λ (y : StageOneWrite). y.answer) f))
      go false false (Ok n) (Ok m) f = absurd (not-refused-both _ _ r (sym (ap (λ (y : StageOneWrite). y.answer) f)))

  -- what stage one leaves: as long an output, with room for the rest
  pub record Between (n : ℕ) (o : List ℕ) : Type 0 where
    pub size : length o ≡ length out
    pub place : at + n ≤ output_end (length o)
    pub room : room_from (length o) (at + n) ≡ room_from (length out) at - n

  pub between : {n m : ℕ} {o p : List ℕ} → FirstWrote d v has a e out at plain n m o p → Between n o
  between {n} {m} {o} f =
      let here = fits_room first (room_from (length out) at) n f.outer in
      let count = list_sized d v Authenticated Authenticated a 0 (room_from (length out) at) n f.outer in
      let place = f.place in
      let same : length o ≡ length out =
      ap length (f.output ∙ sym (sets-eq (plans_bytes d.bytes first) out at (omega arith)))
      ∙ length-sets out at (plans_bytes d.bytes first) in
      record { size = same; place = omega arith; room = omega arith }

  module _ {n m : ℕ} {o p : List ℕ} (h : stage_reply (staged n m) o p ≡ stage_one d v has a e out at plain) where
    -- stage two refuses what stage one left room for, and so does `serialize`
    pub second_refuses : (r : Refusal) {q : List ℕ}
        → wrote (Err r) q ≡ stage_two d' v (has_seal_of a e) nonce ciphertext u o (at + n)
        → serialize d a e d' u v has nonce ciphertext out at plain ≡ keeping r out
    unfolding stage_two after_sealed serialize serialize_measure
    second_refuses r {q} g =
        let f = first_wrote d v has a e out at plain n m h in
        let k = between f in
        rw (f.cipher, le-ltb _ _ f.place, f.outer, f.inner)
        (go (ltb (output_end (length o)) (at + n)) (le-ltb _ _ k.place) (ltb (room_from (length out) at - n) (length sealed))
        (measure_of (untrusted_plans d' v u) (room_from (length out) at - n - length sealed)) (rw (← k.room) g))
      where
        go : (b : Bool) → b ≡ false → (c : Bool) (w : Result ℕ Refusal)
            → wrote (Err r) q
            ≡ pick b (keeping NoRoom o)
            (pick c (keeping NoRoom o) (listMeasured w (sealed ++ plans_bytes d'.bytes (untrusted_plans d' v u)) o (at + n)))
            → listMeasured (pick c (Err NoRoom) (plus (n + length sealed) w)) all out at ≡ keeping r out
        go true e c w f = absurd (true≢false e)
        go false e true w f = ap (λ (y : Result ℕ Refusal). wrote y out) (sym (ap (λ (y : Write). y.answer) f))
        go false e false (Err x) f = ap (λ (y : Result ℕ Refusal). wrote y out) (sym (ap (λ (y : Write). y.answer) f))
        go false e false (Ok x) f = absurd (not_refused _ r (sym (ap (λ (y : Write). y.answer) f)))

    -- both write: all bytes lie one after the other
    pub record Whole (k : ℕ) (q : List ℕ) : Type 0 where
      pub count : length all ≡ n + k
      pub over : q ≡ overlay out at all
      pub inside : at + (n + k) ≤ length out
      pub short : at + (n + k) ≤ most_bytes
      pub seal_fits : length sealed ≤ 65535

    pub whole : {k : ℕ} {q : List ℕ} → wrote (Ok k) q ≡ stage_two d' v (has_seal_of a e) nonce ciphertext u o (at + n) → Whole k q
    whole {k} g =
        let f = first_wrote d v has a e out at plain n m h in
        let s = second_wrote d' v (has_seal_of a e) nonce ciphertext u o (at + n) k g in
        let b = between f in
        let size = list_sized d v Authenticated Authenticated a 0 (room_from (length out) at) n f.outer in
        let rest =
        list_sized d' v Untrusted LastUntrusted u 0 (room_from (length o) (at + n) - length sealed) s.rest s.others in
        let within = fits_room (untrusted_plans d' v u) (room_from (length o) (at + n) - length sealed) s.rest s.others in
        let tail = sealed ++ plans_bytes d'.bytes (untrusted_plans d' v u) in
        let tail-size = length-append sealed (plans_bytes d'.bytes (untrusted_plans d' v u)) in
        record {
          count = omega (arith, length-append (plans_bytes d.bytes first) tail, tail-size, size, rest, s.count);
          over =
              s.output
              ∙ ap (λ (l : List ℕ). overlay l (at + n) tail) f.output
              ∙ ap (λ (z : ℕ). overlay (overlay out at (plans_bytes d.bytes first)) (at + z) tail) (sym size)
              ∙ overlay_joined out at (plans_bytes d.bytes first) tail
              (omega (arith, tail-size, size, rest, within, s.seal_fits, b.room, b.place, b.size));
          inside = omega (arith, within, s.count, s.seal_fits, b.room, b.place, b.size);
          short = omega (arith, within, s.count, s.seal_fits, b.room, f.place, fits_room first (room_from (length out) at) n f.outer);
          seal_fits = omega (arith, s.seal_fits);
        }

    -- and `serialize` writes the same
    pub both_write : {k : ℕ} {q : List ℕ} → wrote (Ok k) q ≡ stage_two d' v (has_seal_of a e) nonce ciphertext u o (at + n)
        → wrote (Ok (n + k)) q ≡ serialize d a e d' u v has nonce ciphertext out at plain
    unfolding serialize serialize_measure
    both_write {k} g =
        let f = first_wrote d v has a e out at plain n m h in
        let s = second_wrote d' v (has_seal_of a e) nonce ciphertext u o (at + n) k g in
        let w = whole g in
        rw (
          f.cipher,
          le-ltb _ _ f.place,
          f.outer,
          f.inner,
          ← (between f).room,
          le-ltb _ _ s.seal_fits,
          s.others,
          ← w.count,
          w.over,
        )
