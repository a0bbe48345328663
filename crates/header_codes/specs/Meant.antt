-- The coded numbers of NTPv5's header. Rules 16 of docs/RULES.md; the NTPv5 draft, section 5. The two bytes of flags
-- are one number here.
use Rattle.std.specs.Prelude.{Bool, true, false, [], ◌∷◌, ℕ, ◌+◌, ◌*◌, ◌/◌, ◌%◌, eqb}
use Rattle.base_answers.specs.Meant.{pick, ◌⇒◌, first_of}
use Rattle.header_codes.specs.declared.NtpLeapIndicator.{NtpLeapIndicator}
use Rattle.header_codes.specs.declared.NtpLeapIndicator.TheVariants.{NoWarning, Leap61, Leap59, Unknown, Unsynchronized}
use Rattle.header_codes.specs.declared.NtpMode.{NtpMode}
use Rattle.header_codes.specs.declared.NtpMode.TheVariants.{Request, Response}
use Rattle.header_codes.specs.declared.NtpTimescale.{NtpTimescale}
use Rattle.header_codes.specs.declared.NtpTimescale.TheVariants.{Utc, Tai, Ut1, LeapSmearedUtc}
use Rattle.header_codes.specs.declared.NtpFlags.{NtpFlags}

-- what 0, 1, 2 and any other number stand for
unfoldable pub one_of : {A : Type 0} → A → A → A → A → ℕ → A
one_of a b c d n = first_of (eqb n 0 ⇒ a ∷ eqb n 1 ⇒ b ∷ eqb n 2 ⇒ c ∷ []) d

-- leaps 0, 1, 2 stand as read, and 3 is Unsynchronized
abbrev pub leap_read : ℕ → NtpLeapIndicator
leap_read = one_of NoWarning Leap61 Leap59 Unsynchronized

-- synchronized turns Unsynchronized into Unknown; not synchronized turns any leap into Unsynchronized
abbrev pub leap_turned : Bool → NtpLeapIndicator → NtpLeapIndicator
leap_turned true NoWarning = NoWarning
leap_turned true Leap61 = Leap61
leap_turned true Leap59 = Leap59
leap_turned true Unknown = Unknown
leap_turned true Unsynchronized = Unknown
leap_turned false leap = Unsynchronized

-- both Unknown and Unsynchronized write 3
abbrev pub leap_bits : NtpLeapIndicator → ℕ
leap_bits NoWarning = 0
leap_bits Leap61 = 1
leap_bits Leap59 = 2
leap_bits Unknown = 3
leap_bits Unsynchronized = 3

-- mode 3 or 4
abbrev pub is_mode : ℕ → Bool
is_mode n = pick (eqb n 3) true (eqb n 4)

abbrev pub mode_of : ℕ → NtpMode
mode_of n = pick (eqb n 3) Request Response

abbrev pub mode_bits : NtpMode → ℕ
mode_bits Request = 3
mode_bits Response = 4

-- timescale 0 to 3
abbrev pub timescale_of : ℕ → NtpTimescale
timescale_of = one_of Utc Tai Ut1 LeapSmearedUtc

abbrev pub timescale_number : NtpTimescale → ℕ
timescale_number Utc = 0
timescale_number Tai = 1
timescale_number Ut1 = 2
timescale_number LeapSmearedUtc = 3

-- flags: 1 synchronized, 2 interleaved, 4 authnak
abbrev pub flags_of : ℕ → NtpFlags
flags_of n = record { synchronized = eqb (n % 2) 1; interleaved_mode = eqb (n / 2 % 2) 1; authnak = eqb (n / 4 % 2) 1 }

abbrev pub bit : Bool → ℕ
bit true = 1
bit false = 0

abbrev pub flags_number : NtpFlags → ℕ
flags_number f = bit f.synchronized + bit f.interleaved_mode * 2 + bit f.authnak * 4

-- how a leap is told: by its place in ntp-proto's list, since Unknown and Unsynchronized have one number on the wire
abbrev pub leap_told : NtpLeapIndicator → ℕ
leap_told NoWarning = 0
leap_told Leap61 = 1
leap_told Leap59 = 2
leap_told Unknown = 3
leap_told Unsynchronized = 4

-- the leap that is told so: any number but 0 to 3 is Unsynchronized
abbrev pub leap_of : ℕ → NtpLeapIndicator
leap_of n = pick (eqb n 3) Unknown (leap_read n)
