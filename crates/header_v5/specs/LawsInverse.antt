-- A header that was read, written and read again is the same; and which bytes survive reading and writing, exactly.
use Rattle.std.specs.Prelude.{◌≡◌, Bool, ℕ, ◌+◌, ◌*◌, ◌/◌, ◌%◌, ◌^◌, ◌≤◌, ◌<◌, length, drop, get_or, Ok}
use Rattle.std.proofs.Math.Path.{refl, ap}
use Rattle.std.proofs.Common.{sym, ◌∙◌}
use Rattle.std.proofs.lemmas.Bool.{true_from_ne_false}
use Rattle.std.proofs.Math.Bool.{true, false}
use mathlib.Core.List.{List, ◌∷◌, ◌++◌}
use native.Mathlib.Omega.{arith}
use Rattle.std.proofs.Math.Dec.{eqb}
use Rattle.std.proofs.Math.ListN.{take}
use mir.Syntax.{w8}
use mir.Val.{of_z}
use Rattle.std.proofs.Math.Facts.{to_z-of_z, of_z-to_z, sfits_to_z, Fits-of_z}
use Rattle.base_answers.specs.Meant.{pick}
use Rattle.base_answers.specs.declared.Refusal.TheVariants.{IncorrectLength, MalformedMode, MalformedTimescale, InvalidFlags}
use Rattle.base_big_endian.specs.Meant.{big_endian, number_at, Bytes}
use Rattle.base_big_endian.specs.Laws.{narrow}
use Rattle.header_numbers.specs.Meant.{numbers_at, number_bytes, RowWithin}
use Rattle.header_numbers.specs.Laws as numbers
use Rattle.header_codes.specs.Meant.{is_mode, leap_read, leap_bits, mode_bits, timescale_number, flags_of, flags_number}
use Rattle.header_v5.specs.Meant.{header_at, told_of, header_read, first_byte, widths, numbers_of, header_bytes}
use Rattle.header_v5.specs.Laws.{too_short, other_version, other_mode, other_timescale, other_flags, all_passed}
use Rattle.header_codes.specs.LawsSmall.{leap_small, mode_small, mode_is, timescale_small, flags_small, mode_found, timescale_found, flags_found, timescale_written, leap_written, mode_written, flags_written, leap_settled}
use Rattle.header_v5.specs.LawsOnly.{not_refused, no_version}
use Rattle.header_codes.specs.declared.NtpFlags.{NtpFlags}
use Rattle.header_v5.specs.declared.NtpHeaderV5.{NtpHeaderV5}
use Rattle.header_v5.specs.MeantInverse.{Ranged, settled, surviving}

module _ (h : NtpHeaderV5) (r : Ranged h) (more : List ℕ) where
  bytes : List ℕ
  bytes = header_bytes h ++ more

  first_fits : first_byte h.leap h.mode < 256
  first_fits = omega (arith, leap_small h.leap, mode_small h.mode)

  within : RowWithin widths (numbers_of h)
  within =
      let scale : timescale_number h.timescale < 256 = omega (arith, timescale_small h.timescale) in
      let flags : flags_number h.flags < 256 ^ 2 = omega (arith, flags_small h.flags) in
      let times : RowWithin (drop 9 widths) (drop 9 (numbers_of h)) =
      (r.server, (r.client, (r.receive, (r.transmit, tt)))) in
      let precision = (Fits-of_z r.precision).fits in
      (first_fits, (r.stratum, (r.poll, (precision, (r.delay, (r.dispersion, (scale, (r.era, (flags, times)))))))))

  its_length : 48 ≤ length bytes
  unfolding bytes
  its_length = numbers.row_length widths (numbers_of h) more refl

  -- the number at each place
  number_of : (i : ℕ) → get_or (numbers_at widths bytes 0) i 0 ≡ get_or (numbers_of h) i 0
  unfolding bytes
  number_of = numbers.number_of widths (numbers_of h) more within

  read_back : header_at bytes ≡ settled h
  unfolding header_at settled
  read_back =
      let n₀ : number_at 1 bytes 0 ≡ first_byte h.leap h.mode = number_of 0 in
      let n₁ : number_at 1 bytes 1 ≡ h.stratum = number_of 1 in
      let n₂ : number_at 1 bytes 2 ≡ h.poll.0 = number_of 2 in
      let n₃ : number_at 1 bytes 3 ≡ of_z w8 h.precision_log2_seconds = number_of 3 in
      let n₄ : number_at 4 bytes 4 ≡ h.root_delay.0 = number_of 4 in
      let n₅ : number_at 4 bytes 8 ≡ h.root_dispersion.0 = number_of 5 in
      let n₆ : number_at 1 bytes 12 ≡ timescale_number h.timescale = number_of 6 in
      let n₇ : number_at 1 bytes 13 ≡ h.era.0 = number_of 7 in
      let n₈ : number_at 2 bytes 14 ≡ flags_number h.flags = number_of 8 in
      let n₉ : number_at 8 bytes 16 ≡ h.server_cookie.0 = number_of 9 in
      let n₁₀ : number_at 8 bytes 24 ≡ h.client_cookie.0 = number_of 10 in
      let n₁₁ : number_at 8 bytes 32 ≡ h.receive_timestamp.0 = number_of 11 in
      let n₁₂ : number_at 8 bytes 40 ≡ h.transmit_timestamp.0 = number_of 12 in
      let leap : first_byte h.leap h.mode / 64 ≡ leap_bits h.leap = omega (arith, mode_small h.mode) in
      let mode : first_byte h.leap h.mode % 8 ≡ mode_bits h.mode = omega (arith, mode_small h.mode) in
      let sync : eqb (flags_number h.flags % 2) 1 ≡ h.flags.synchronized =
      ap (λ (f : NtpFlags). f.synchronized) (flags_found h.flags) in
      rw (
        n₀,
        n₁,
        n₂,
        n₃,
        n₄,
        n₅,
        n₆,
        n₇,
        n₈,
        n₉,
        n₁₀,
        n₁₁,
        n₁₂,
        leap,
        mode,
        mode_found h.mode,
        to_z-of_z r.precision,
        timescale_found h.timescale,
        flags_found h.flags,
        sync,
      )

  -- whatever follows its 48 bytes, a header that was written is read, its leap settled
  pub read_written : header_read (header_bytes h ++ more) ≡ Ok (settled h)
  unfolding bytes
  read_written =
      let n₀ : number_at 1 bytes 0 ≡ first_byte h.leap h.mode = number_of 0 in
      let n₆ : number_at 1 bytes 12 ≡ timescale_number h.timescale = number_of 6 in
      let n₈ : number_at 2 bytes 14 ≡ flags_number h.flags = number_of 8 in
      let five : first_byte h.leap h.mode / 8 % 8 ≡ 5 = omega (arith, mode_small h.mode) in
      let mode : first_byte h.leap h.mode % 8 ≡ mode_bits h.mode = omega (arith, mode_small h.mode) in
      all_passed bytes its_length
      (rw n₀ five)
      (rw (n₀, mode) (mode_is h.mode))
      (rw n₆ (timescale_small h.timescale))
      (rw n₈ (flags_small h.flags))
      ∙ ap Ok read_back

-- the tests that an accepted header has passed
pub record Good (s : List ℕ) : Type 0 where
  pub whole : 48 ≤ length s
  pub five : number_at 1 s 0 / 8 % 8 ≡ 5
  pub mode : is_mode (number_at 1 s 0 % 8) ≡ true
  pub scale : number_at 1 s 12 ≤ 3
  pub flags : number_at 2 s 14 ≤ 7

module _ (s : List ℕ) (h : NtpHeaderV5) (e : header_read s ≡ Ok h) where
  pub good : Good s
  good =
      let short : length s < 48 → ⊥ = λ t. not_refused h IncorrectLength (ap told_of (sym e ∙ too_short s t)) in
      let whole : 48 ≤ length s = omega arith in
      let v = number_at 1 s 0 / 8 % 8 in
      let other : (v ≡ 5 → ⊥) → ⊥ = λ t. no_version h v (ap told_of (sym e ∙ other_version s whole t)) in
      let lower : v < 5 → ⊥ = λ h. other (λ q. omega arith) in
      let higher : 5 < v → ⊥ = λ h. other (λ q. omega arith) in
      let five : v ≡ 5 = omega arith in
      let mode = true_from_ne_false (is_mode (number_at 1 s 0 % 8)) (λ t. not_refused h MalformedMode (ap told_of (sym e ∙ other_mode s whole five t))) in
      let past : 3 < number_at 1 s 12 → ⊥ =
      λ t. not_refused h MalformedTimescale (ap told_of (sym e ∙ other_timescale s whole five mode t)) in
      let scale : number_at 1 s 12 ≤ 3 = omega arith in
      let many : 7 < number_at 2 s 14 → ⊥ =
      λ t. not_refused h InvalidFlags (ap told_of (sym e ∙ other_flags s whole five mode scale t)) in
      record { whole = whole; five = five; mode = mode; scale = scale; flags = omega arith }

pub read_settled : (s : List ℕ) → settled (header_at s) ≡ header_at s
unfolding settled header_at
read_settled s = rw (leap_settled (flags_of (number_at 2 s 14)).synchronized (leap_read (number_at 1 s 0 / 64)))

module _ (s : List ℕ) (h : NtpHeaderV5) (bytes : Bytes s) (e : header_read s ≡ Ok h) where
  g : Good s
  g = good s h e

  read_ranged : Ranged (header_at s)
  unfolding header_at
  read_ranged =
      let whole = g.whole in
      record {
        stratum = narrow 1 s 1 bytes (omega arith);
        poll = narrow 1 s 2 bytes (omega arith);
        precision = sfits_to_z {w = w8} (record { fits = narrow 1 s 3 bytes (omega arith) });
        delay = narrow 4 s 4 bytes (omega arith);
        dispersion = narrow 4 s 8 bytes (omega arith);
        era = narrow 1 s 13 bytes (omega arith);
        server = narrow 8 s 16 bytes (omega arith);
        client = narrow 8 s 24 bytes (omega arith);
        receive = narrow 8 s 32 bytes (omega arith);
        transmit = narrow 8 s 40 bytes (omega arith);
      }

  -- a header that was read, written and read again is the same, whatever follows it
  pub read_again : (more : List ℕ) → header_read (header_bytes (header_at s) ++ more) ≡ header_read s
  read_again more =
      read_written (header_at s) read_ranged more
      ∙ ap Ok (read_settled s)
      ∙ sym (all_passed s g.whole g.five g.mode g.scale g.flags)

  -- all numbers but byte 0 are written as they were read
  others_stay : numbers_of (header_at s) ≡ first_byte (header_at s).leap (header_at s).mode ∷ numbers_at (drop 1 widths) s 1
  unfolding header_at
  others_stay =
      let whole = g.whole in
      rw (
        of_z-to_z {w = w8} (record { fits = narrow 1 s 3 bytes (omega arith) }),
        timescale_written (number_at 1 s 12) g.scale,
        flags_written (number_at 2 s 14) g.flags,
      )

  byte_fits : number_at 1 s 0 < 256
  byte_fits =
      let whole = g.whole in
      narrow 1 s 0 bytes (omega arith)

  first_synchronized : (flags_of (number_at 2 s 14)).synchronized ≡ true
      → first_byte (header_at s).leap (header_at s).mode ≡ number_at 1 s 0
  unfolding header_at
  first_synchronized e =
      let small = byte_fits in
      rw (e, leap_written (number_at 1 s 0 / 64) (omega arith), mode_written (number_at 1 s 0 % 8) g.mode)
      (omega (arith, g.five))

  first_unsynchronized : (flags_of (number_at 2 s 14)).synchronized ≡ false
      → first_byte (header_at s).leap (header_at s).mode ≡ 3 * 64 + number_at 1 s 0 % 64
  unfolding header_at
  first_unsynchronized e =
      let small = byte_fits in
      rw (e, mode_written (number_at 1 s 0 % 8) g.mode) (omega (arith, g.five))

  pub written_read : header_bytes (header_at s) ≡ surviving s
  unfolding number_bytes big_endian
  written_read = go (flags_of (number_at 2 s 14)).synchronized refl
    where
      go : (b : Bool) → (flags_of (number_at 2 s 14)).synchronized ≡ b
          → header_bytes (header_at s) ≡ pick b (take 48 s) ((3 * 64 + number_at 1 s 0 % 64) ∷ take 47 (drop 1 s))
      go true e =
          ap (number_bytes widths) (others_stay ∙ ap (λ (n : ℕ). n ∷ numbers_at (drop 1 widths) s 1) (first_synchronized e))
          ∙ numbers.written_read widths s 0 bytes g.whole
      go false e =
          let whole = g.whole in
          let byte : (3 * 64 + number_at 1 s 0 % 64) % 256 ≡ 3 * 64 + number_at 1 s 0 % 64 = omega arith in
          ap (number_bytes widths) (others_stay ∙ ap (λ (n : ℕ). n ∷ numbers_at (drop 1 widths) s 1) (first_unsynchronized e))
          ∙ rw byte
          (ap (λ (l : List ℕ). (3 * 64 + number_at 1 s 0 % 64) ∷ l) (numbers.written_read (drop 1 widths) s 1 bytes (omega arith)))
