-- The small numbers of a header: how large they are, and that each is found again, there and back.
use Rattle.std.specs.Prelude.{◌≡◌, refl, Bool, true, false, ℕ, zero, suc, ◌+◌, ◌*◌, ◌/◌, ◌%◌, ◌≤◌, ◌<◌, eqb}
use Rattle.std.proofs.Common.{sym, arith, eqb-true, ne_eqb}
use Rattle.header_codes.specs.Meant.{one_of, leap_read, leap_turned, leap_bits, is_mode, mode_of, mode_bits, timescale_of, timescale_number, flags_of, bit, flags_number, leap_told, leap_of}
use Rattle.header_codes.specs.declared.NtpLeapIndicator.{NtpLeapIndicator}
use Rattle.header_codes.specs.declared.NtpLeapIndicator.TheVariants.{NoWarning, Leap61, Leap59, Unknown, Unsynchronized}
use Rattle.header_codes.specs.declared.NtpMode.{NtpMode}
use Rattle.header_codes.specs.declared.NtpMode.TheVariants.{Request, Response}
use Rattle.header_codes.specs.declared.NtpTimescale.{NtpTimescale}
use Rattle.header_codes.specs.declared.NtpTimescale.TheVariants.{Utc, Tai, Ut1, LeapSmearedUtc}
use Rattle.header_codes.specs.declared.NtpFlags.{NtpFlags}

-- none of 0, 1, 2
pub other : {A : Type 0} (a b c d : A) (n : ℕ) → (n ≡ 0 → ⊥) → (n ≡ 1 → ⊥) → (n ≡ 2 → ⊥) → one_of a b c d n ≡ d
unfolding one_of
other a b c d n h₀ h₁ h₂ = rw (ne_eqb n 0 h₀, ne_eqb n 1 h₁, ne_eqb n 2 h₂)

-- ---- how large they are
pub leap_small : (l : NtpLeapIndicator) → leap_bits l ≤ 3
leap_small NoWarning = omega arith
leap_small Leap61 = omega arith
leap_small Leap59 = omega arith
leap_small Unknown = omega arith
leap_small Unsynchronized = omega arith

pub told_small : (l : NtpLeapIndicator) → leap_told l ≤ 4
told_small NoWarning = omega arith
told_small Leap61 = omega arith
told_small Leap59 = omega arith
told_small Unknown = omega arith
told_small Unsynchronized = omega arith

pub mode_small : (m : NtpMode) → mode_bits m ≤ 4
mode_small Request = omega arith
mode_small Response = omega arith

pub bit_small : (b : Bool) → bit b ≤ 1
bit_small true = omega arith
bit_small false = omega arith

pub timescale_small : (t : NtpTimescale) → timescale_number t ≤ 3
timescale_small Utc = omega arith
timescale_small Tai = omega arith
timescale_small Ut1 = omega arith
timescale_small LeapSmearedUtc = omega arith

pub flags_small : (f : NtpFlags) → flags_number f ≤ 7
flags_small f = omega (arith, bit_small f.synchronized, bit_small f.interleaved_mode, bit_small f.authnak)

-- ---- what was written is read
pub mode_is : (m : NtpMode) → is_mode (mode_bits m) ≡ true
mode_is Request = refl
mode_is Response = refl

pub leap_found : (l : NtpLeapIndicator) → leap_of (leap_told l) ≡ l
unfolding one_of
leap_found NoWarning = refl
leap_found Leap61 = refl
leap_found Leap59 = refl
leap_found Unknown = refl
leap_found Unsynchronized = refl

pub mode_found : (m : NtpMode) → mode_of (mode_bits m) ≡ m
mode_found Request = refl
mode_found Response = refl

pub timescale_found : (t : NtpTimescale) → timescale_of (timescale_number t) ≡ t
unfolding one_of
timescale_found Utc = refl
timescale_found Tai = refl
timescale_found Ut1 = refl
timescale_found LeapSmearedUtc = refl

flags_of_bits : (a b c : Bool)
    → flags_of (bit a + bit b * 2 + bit c * 4) ≡ record { synchronized = a; interleaved_mode = b; authnak = c }
flags_of_bits true true true = refl
flags_of_bits true true false = refl
flags_of_bits true false true = refl
flags_of_bits true false false = refl
flags_of_bits false true true = refl
flags_of_bits false true false = refl
flags_of_bits false false true = refl
flags_of_bits false false false = refl

pub flag_found : (b : Bool) → eqb (bit b) 1 ≡ b
flag_found true = refl
flag_found false = refl

pub flags_found : (f : NtpFlags) → flags_of (flags_number f) ≡ f
flags_found f = flags_of_bits f.synchronized f.interleaved_mode f.authnak

-- ---- what was read is written
-- a number below 4 is written as it was read
four : (P : ℕ → Type 0) → P 0 → P 1 → P 2 → P 3 → (n : ℕ) → n ≤ 3 → P n
four P p₀ p₁ p₂ p₃ zero h = p₀
four P p₀ p₁ p₂ p₃ (suc zero) h = p₁
four P p₀ p₁ p₂ p₃ (suc (suc zero)) h = p₂
four P p₀ p₁ p₂ p₃ (suc (suc (suc zero))) h = p₃
four P p₀ p₁ p₂ p₃ (suc (suc (suc (suc n)))) h = absurd (omega arith)

pub timescale_written : (n : ℕ) → n ≤ 3 → timescale_number (timescale_of n) ≡ n
unfolding one_of
timescale_written = four (λ (n : ℕ). timescale_number (timescale_of n) ≡ n) refl refl refl refl

-- so are the two bits of the leap where synchronized, and they are 3 where not
pub leap_written : (n : ℕ) → n ≤ 3 → leap_bits (leap_turned true (leap_read n)) ≡ n
unfolding one_of
leap_written = four (λ (n : ℕ). leap_bits (leap_turned true (leap_read n)) ≡ n) refl refl refl refl

pub mode_written : (n : ℕ) → is_mode n ≡ true → mode_bits (mode_of n) ≡ n
mode_written n h = go (eqb n 3) refl
  where
    go : (b : Bool) → eqb n 3 ≡ b → mode_bits (mode_of n) ≡ n
    go true e = rw e (sym (eqb-true n 3 e))
    go false e = rw e (sym (eqb-true n 4 (rw e at h)))

bit_of : (n : ℕ) → n < 2 → bit (eqb n 1) ≡ n
bit_of zero h = refl
bit_of (suc zero) h = refl
bit_of (suc (suc n)) h = absurd (omega arith)

pub flags_written : (n : ℕ) → n ≤ 7 → flags_number (flags_of n) ≡ n
flags_written n h =
    let a = bit_of (n % 2) (omega arith) in
    let b = bit_of (n / 2 % 2) (omega arith) in
    let c = bit_of (n / 4 % 2) (omega arith) in
    let quarter : n / 4 ≡ n / 2 / 2 = omega arith in
    let high : n / 4 % 2 ≡ n / 4 = omega arith in
    rw (a, b, c, high, quarter) (omega arith)

-- the leap of a header that was read is settled
pub leap_settled : (b : Bool) (l : NtpLeapIndicator) → leap_turned b (leap_read (leap_bits (leap_turned b l))) ≡ leap_turned b l
unfolding one_of
leap_settled true NoWarning = refl
leap_settled true Leap61 = refl
leap_settled true Leap59 = refl
leap_settled true Unknown = refl
leap_settled true Unsynchronized = refl
leap_settled false l = refl
