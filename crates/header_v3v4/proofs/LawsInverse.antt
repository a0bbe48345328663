-- Reading what was written gives the same header, and writing what was read the same 48 bytes.
use Rattle.std.specs.Prelude.{◌≡◌, refl, Bool, true, false, List, ◌++◌, ℕ, ◌+◌, ◌*◌, ◌/◌, ◌%◌, ◌≤◌, ◌<◌, eqb, ltb, length, take, drop, get_or, Result, Ok}
use Rattle.std.proofs.Common.{sym, ◌∙◌, true≢false, append_assoc, length-take, drop_at}
use Rattle.std.proofs.Math.Path.{ap}
use Rattle.std.proofs.lemmas.Bool.{true_from_ne_false}
use native.Mathlib.Omega.{arith}
use borrow.Author.Tests.{ltb-true, ltb-false, eqb-true, le-ltb}
use mir.Syntax.{w8}
use mir.Val.{of_z}
use Rattle.std.proofs.Math.Facts.{to_z-of_z, of_z-to_z, Fits-of_z}
use Rattle.base_answers.specs.declared.Refusal.TheVariants.{IncorrectLength, NoRoom, CannotBeMade}
use Rattle.base_big_endian.specs.Meant.{number_at, Bytes}
use Rattle.base_big_endian.specs.Laws.{narrow}
use Rattle.base_store.specs.Meant.{Write, writing, room_from}
use Rattle.base_store.specs.LawsOnly as writer
use Rattle.header_numbers.specs.Meant.{numbers_at, number_bytes, RowWithin}
use Rattle.header_numbers.specs.Laws as numbers
use Rattle.header_v3v4.specs.Meant.{is_version, version_at, header_at, told_of, header_read, is_in_range, widths, numbers_of, header_bytes, header_write}
use Rattle.header_v3v4.specs.MeantInverse.{Ranged}
use Rattle.header_v3v4.proofs.Laws.{too_short, other_version, all_passed, out_of_range, no_room, all_written}
use Rattle.header_v3v4.proofs.LawsOnly.{same_header, not_refused, no_version}
use Rattle.header_v3v4.specs.declared.NtpHeaderV3V4.{NtpHeaderV3V4}
use Rattle.header_numbers.specs.declared.HeaderError.{HeaderError}

-- a version that can be written is at most 4
version_small : (v : ℕ) → is_version v ≡ true → v ≤ 4
version_small v e = go (eqb v 3) refl (eqb v 4) refl
  where
    go : (b : Bool) → eqb v 3 ≡ b → (d : Bool) → eqb v 4 ≡ d → v ≤ 4
    go true p d q = omega (arith, eqb-true v 3 p)
    go false p true q = omega (arith, eqb-true v 4 q)
    go false p false q = absurd (true≢false (sym e ∙ rw (p, q) refl))

-- what a header in range has passed
record Small (h : NtpHeaderV3V4) : Type 0 where
  pub leap : h.leap.0 ≤ 3
  pub mode : h.mode ≤ 7
  pub version : is_version h.version ≡ true

small : (h : NtpHeaderV3V4) → is_in_range h ≡ true → Small h
small h e = go (ltb 3 h.leap.0) refl (ltb 7 h.mode) refl
  where
    go : (b : Bool) → ltb 3 h.leap.0 ≡ b → (d : Bool) → ltb 7 h.mode ≡ d → Small h
    go true p d q = absurd (true≢false (sym e ∙ rw p refl))
    go false p true q = absurd (true≢false (sym e ∙ rw (p, q) refl))
    go false p false q =
        record { leap = ltb-false 3 h.leap.0 p; mode = ltb-false 7 h.mode q; version = sym (rw (p, q) refl) ∙ e }

module _ (h : NtpHeaderV3V4) (r : Ranged h) (e : is_in_range h ≡ true) (more : List ℕ) where
  bytes : List ℕ
  bytes = header_bytes h ++ more

  first : ℕ
  first = h.leap.0 * 64 + h.version * 8 + h.mode

  within : RowWithin widths (numbers_of h)
  within =
      let s = small h e in
      let byte : h.leap.0 * 64 + h.version * 8 + h.mode < 256 =
      omega (arith, s.leap, s.mode, version_small h.version s.version) in
      let times : RowWithin (drop 7 widths) (drop 7 (numbers_of h)) = (r.reference, (r.origin, (r.receive, (r.transmit, tt)))) in
      let precision = (Fits-of_z r.precision).fits in
      (byte, (r.stratum, (r.poll, (precision, (r.delay, (r.dispersion, (r.identifier, times)))))))

  number_of : (i : ℕ) → get_or (numbers_at widths bytes 0) i 0 ≡ get_or (numbers_of h) i 0
  unfolding bytes
  number_of = numbers.number_of widths (numbers_of h) more within

  -- the three parts of byte 0
  leap_back : first / 64 ≡ h.leap.0
  unfolding first
  leap_back =
      let s = small h e in
      omega (arith, s.leap, s.mode, version_small h.version s.version)

  version_back : first / 8 % 8 ≡ h.version
  unfolding first
  version_back =
      let s = small h e in
      omega (arith, s.leap, s.mode, version_small h.version s.version)

  mode_back : first % 8 ≡ h.mode
  unfolding first
  mode_back =
      let s = small h e in
      omega (arith, s.mode)

  read_back : header_at bytes ≡ h
  unfolding header_at first
  read_back =
      let n₀ : number_at 1 bytes 0 ≡ h.leap.0 * 64 + h.version * 8 + h.mode = number_of 0 in
      let n₁ : number_at 1 bytes 1 ≡ h.stratum = number_of 1 in
      let n₂ : number_at 1 bytes 2 ≡ h.poll.0 = number_of 2 in
      let n₃ : number_at 1 bytes 3 ≡ of_z w8 h.precision_log2_seconds = number_of 3 in
      let n₄ : number_at 4 bytes 4 ≡ h.root_delay.0 = number_of 4 in
      let n₅ : number_at 4 bytes 8 ≡ h.root_dispersion.0 = number_of 5 in
      let n₆ : number_at 4 bytes 12 ≡ h.reference_id.0 = number_of 6 in
      let n₇ : number_at 8 bytes 16 ≡ h.reference_timestamp.0 = number_of 7 in
      let n₈ : number_at 8 bytes 24 ≡ h.origin_timestamp.0 = number_of 8 in
      let n₉ : number_at 8 bytes 32 ≡ h.receive_timestamp.0 = number_of 9 in
      let n₁₀ : number_at 8 bytes 40 ≡ h.transmit_timestamp.0 = number_of 10 in
      rw (n₀, n₁, n₂, n₃, n₄, n₅, n₆, n₇, n₈, n₉, n₁₀, leap_back, version_back, mode_back, to_z-of_z r.precision)

  -- whatever follows its 48 bytes, a header that was written is read as it was
  pub read_written : header_read (header_bytes h ++ more) ≡ Ok h
  unfolding bytes first
  read_written =
      let n₀ : number_at 1 bytes 0 ≡ h.leap.0 * 64 + h.version * 8 + h.mode = number_of 0 in
      all_passed bytes (numbers.row_length widths (numbers_of h) more refl) (rw (n₀, version_back) (small h e).version)
      ∙ ap Ok read_back

-- a write that was accepted had a header in range, and room for it
accepted_only : (h : NtpHeaderV3V4) (out : List ℕ) (at n : ℕ) → (header_write h out at).answer ≡ Ok n
    → (is_in_range h ≡ true) × (48 ≤ room_from (length out) at)
accepted_only h out at n e = go (is_in_range h) refl (ltb (room_from (length out) at) 48) refl
  where
    go : (b : Bool) → is_in_range h ≡ b → (d : Bool) → ltb (room_from (length out) at) 48 ≡ d
        → (is_in_range h ≡ true) × (48 ≤ room_from (length out) at)
    go false p d q = absurd (writer.not_refused n CannotBeMade (sym e ∙ ap (λ (w : Write). w.answer) (out_of_range h out at p)))
    go true p true q =
        absurd (writer.not_refused n NoRoom (sym e ∙ ap (λ (w : Write). w.answer) (no_room h out at p (ltb-true _ _ q))))
    go true p false q = (p, ltb-false _ _ q)

-- what an accepted write left in the output is read from its place as the header that was written
pub read_output : (h : NtpHeaderV3V4) → Ranged h → (out : List ℕ) (at n : ℕ) → (header_write h out at).answer ≡ Ok n
    → header_read (drop at (header_write h out at).output) ≡ Ok h
read_output h r out at n e =
    let fits = accepted_only h out at n e in
    let rest = drop (at + length (header_bytes h)) out in
    let before : length (take at out) ≡ at = omega (arith, fits.1, length-take at out) in
    ap (λ (w : Write). header_read (drop at w.output)) (all_written h out at fits.0 fits.1)
    ∙ ap (λ (l : List ℕ). header_read (drop at l)) (append_assoc (take at out) (header_bytes h) rest)
    ∙ ap header_read (drop_at (take at out) (header_bytes h ++ rest) at before)
    ∙ read_written h r fits.0 rest

-- the tests that an accepted header has passed
pub record Good (s : List ℕ) : Type 0 where
  pub whole : 48 ≤ length s
  pub version : is_version (version_at s) ≡ true

module _ (s : List ℕ) (h : NtpHeaderV3V4) (e : header_read s ≡ Ok h) where
  pub good : Good s
  good =
      let short : length s < 48 → ⊥ = λ t. not_refused h IncorrectLength (ap told_of (sym e ∙ too_short s t)) in
      let whole : 48 ≤ length s = omega arith in
      let version = true_from_ne_false (is_version (version_at s)) (λ t. no_version h (version_at s) (ap told_of (sym e ∙ other_version s whole t))) in
      record { whole = whole; version = version }

  pub is_read : header_at s ≡ h
  is_read =
      same_header (header_at s) h (ap (λ (a : Result NtpHeaderV3V4 HeaderError). (told_of a).values) (sym (all_passed s good.whole good.version) ∙ e))

module _ (s : List ℕ) (h : NtpHeaderV3V4) (bytes : Bytes s) (e : header_read s ≡ Ok h) where
  g : Good s
  g = good s h e

  byte_fits : number_at 1 s 0 < 256
  byte_fits =
      let whole = g.whole in
      narrow 1 s 0 bytes (omega arith)

  -- a header that was read can be written
  pub read_in_range : is_in_range h ≡ true
  unfolding header_at
  read_in_range =
      let leap : number_at 1 s 0 / 64 ≤ 3 = omega (arith, byte_fits) in
      let mode : number_at 1 s 0 % 8 ≤ 7 = omega arith in
      ap is_in_range (sym (is_read s h e)) ∙ rw (le-ltb 3 (number_at 1 s 0 / 64) leap, le-ltb 7 (number_at 1 s 0 % 8) mode) g.version

  -- its numbers are those that were read
  numbers_back : numbers_of (header_at s) ≡ numbers_at widths s 0
  unfolding header_at
  numbers_back =
      let whole = g.whole in
      let first : number_at 1 s 0 / 64 * 64 + number_at 1 s 0 / 8 % 8 * 8 + number_at 1 s 0 % 8 ≡ number_at 1 s 0 = omega (arith, byte_fits) in
      rw (of_z-to_z {w = w8} (record { fits = narrow 1 s 3 bytes (omega arith) }), first)

  -- so its bytes are the 48 that were read
  pub written_read : header_bytes h ≡ take 48 s
  written_read =
      ap header_bytes (sym (is_read s h e)) ∙ ap (number_bytes widths) numbers_back ∙ numbers.written_read widths s 0 bytes g.whole

  -- and wherever there is room they are written again as they were
  pub written_again : (out : List ℕ) (at : ℕ) → 48 ≤ room_from (length out) at → header_write h out at ≡ writing (take 48 s) at out
  written_again out at room = all_written h out at read_in_range room ∙ ap (λ (b : List ℕ). writing b at out) written_read
