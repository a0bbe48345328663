-- Wrong readers and writers, refuted from the promises alone: no answer that meets them is one of these.
use Rattle.std.proofs.Math.Path.{◌≡◌, ap}
use Rattle.std.proofs.Common.{sym, ◌∙◌, true≢false, arith, le-ltb}
use Rattle.std.specs.Prelude.{true, false, List, ℕ, ◌/◌, ◌≤◌, pos, length, drop, Result, Ok, Err}
use Rattle.base_answers.specs.declared.Refusal.{Refusal}
use Rattle.base_answers.specs.declared.Refusal.TheVariants.{NoRoom}
use Rattle.base_big_endian.specs.Meant.{number_at}
use Rattle.base_store.specs.Meant as store
use Rattle.base_store.specs.Meant.{Write, refusing}
use Rattle.header_numbers.specs.Meant.{is_below_zero}
use Rattle.header_v3v4.specs.Meant.{is_version, version_at, header_at, told_of, header_read, is_in_range, header_write}
use Rattle.header_v3v4.specs.MeantInverse.{Ranged}
use Rattle.header_v3v4.proofs.Laws.{all_passed, out_of_range}
use Rattle.header_v3v4.proofs.LawsOnly.{same_header, same_answer, not_refused}
use Rattle.header_v3v4.proofs.LawsInverse.{read_output, good, is_read}
use Rattle.header_v3v4.specs.declared.NtpHeaderV3V4.{NtpHeaderV3V4}
use Rattle.header_numbers.specs.declared.HeaderError.{HeaderError}
use Rattle.header_numbers.specs.declared.HeaderError.TheVariants.{Refused}

module _ (s : List ℕ) (r : Result NtpHeaderV3V4 HeaderError) (promise : told_of r ≡ told_of (header_read s)) where
  answer : r ≡ header_read s
  answer = same_answer r (header_read s) promise

  -- mode 7 refused, or any other: refuted by every whole header of version 3 or 4, whatever its mode
  pub mode_refused : (q : Refusal) → 48 ≤ length s → is_version (version_at s) ≡ true → r ≡ Err (Refused q) → ⊥
  mode_refused q whole version e =
      not_refused (header_at s) q (ap told_of (sym (all_passed s whole version) ∙ sym answer ∙ e))

  module _ (h : NtpHeaderV3V4) (told : r ≡ Ok h) where
    read : header_read s ≡ Ok h
    read = sym answer ∙ told

    -- version 5 accepted, as that of a header that is laid out otherwise
    pub five_accepted : version_at s ≡ 5 → ⊥
    five_accepted e = true≢false (sym (good s h read).version ∙ rw e)

    -- the leap turned as in NTPv5, where a flag that is not set makes 3 of every leap: refuted by every other leap
    pub leap_turned_law : (number_at 1 s 0 / 64 ≡ 3 → ⊥) → h.leap.0 ≡ 3 → ⊥
    unfolding header_at
    leap_turned_law p e = p (ap (λ (g : NtpHeaderV3V4). g.leap.0) (is_read s h read) ∙ e)

    -- 4 told of a version 3
    pub version_forced : version_at s ≡ 3 → h.version ≡ 4 → ⊥
    unfolding header_at
    version_forced p e =
        let same : version_at s ≡ h.version = ap (λ (g : NtpHeaderV3V4). g.version) (is_read s h read) in
        omega (arith, p, e, same)

    -- the origin told as the reference: refuted by every two that differ
    pub exchanged : (number_at 8 s 16 ≡ number_at 8 s 24 → ⊥) → h.reference_timestamp.0 ≡ number_at 8 s 24 → ⊥
    unfolding header_at
    exchanged p e = p (ap (λ (g : NtpHeaderV3V4). g.reference_timestamp.0) (is_read s h read) ∙ e)

    -- the precision told as the byte that it is: refuted by every byte from 128 on
    pub precision_unsigned : 128 ≤ number_at 1 s 3 → h.precision_log2_seconds ≡ pos (number_at 1 s 3) → ⊥
    unfolding header_at
    precision_unsigned p e =
        let below : 1 ≡ is_below_zero h.precision_log2_seconds =
        rw (le-ltb (number_at 1 s 3) 128 p) at (ap (λ (g : NtpHeaderV3V4). is_below_zero g.precision_log2_seconds) (is_read s h read)) in
        let zero : ◌≡◌ {A = ℕ} 1 0 = below ∙ ap is_below_zero e in
        omega (arith, zero)

-- 16 before 18: refuted by every header out of range, whatever the room
pub room_first : (h : NtpHeaderV3V4) (out : List ℕ) (at : ℕ) (w : Write) → w ≡ header_write h out at → is_in_range h ≡ false
    → w ≡ refusing NoRoom out → ⊥
room_first h out at w promise f e =
    let same : ◌≡◌ {A = ℕ} 16 18 =
    ap (λ (v : Write). (store.told_of v.answer).number) (sym e ∙ promise ∙ out_of_range h out at f) in
    omega (arith, same)

-- another header written than the one handed over, as version 4 for version 3, or the origin for the reference: what an accepted
-- write left in the output is read as no other header
pub another_written : (h g : NtpHeaderV3V4) → Ranged h → (out : List ℕ) (at n : ℕ) (w : Write) → w ≡ header_write h out at
    → w.answer ≡ Ok n → (g ≡ h → ⊥) → header_read (drop at w.output) ≡ Ok g → ⊥
another_written h g r out at n w promise accepted differs e =
    let answer = ap (λ (v : Write). v.answer) (sym promise) ∙ accepted in
    let read = ap (λ (v : Write). header_read (drop at v.output)) (sym promise) ∙ e in
    differs (same_header g h (ap (λ (a : Result NtpHeaderV3V4 HeaderError). (told_of a).values) (sym read ∙ read_output h r out at n answer)))
