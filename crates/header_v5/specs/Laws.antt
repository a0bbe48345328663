-- The cases of reading a header, and what writing its numbers comes to.
use Rattle.std.specs.Prelude.{◌≡◌, refl, true, false, List, ℕ, ◌/◌, ◌%◌, ◌≤◌, ◌<◌, length, Ok, Err}
use borrow.Author.Tests.{lt-ltb, le-ltb, eq-eqb, ne_eqb}
use Rattle.std.proofs.Common.{lit≤}
use Rattle.base_answers.specs.declared.Refusal.TheVariants.{IncorrectLength, MalformedMode, MalformedTimescale, InvalidFlags}
use Rattle.base_big_endian.specs.Meant.{number_at}
use Rattle.header_numbers.specs.Model.{numbers_write}
use Rattle.header_numbers.specs.Laws.{row_written}
use Rattle.header_v5.specs.declared.NtpHeaderV5.{NtpHeaderV5}
use Rattle.header_numbers.specs.declared.HeaderError.TheVariants.{InvalidVersion as OtherVersion, Refused}
use Rattle.header_codes.specs.Meant.{is_mode}
use Rattle.header_v5.specs.Meant.{header_at, header_read, widths, numbers_of, header_write}

-- the tests in their order: each case has passed those before it
module _ (s : List ℕ) where
  pub too_short : length s < 48 → header_read s ≡ Err (Refused IncorrectLength)
  unfolding header_read
  too_short h = rw (lt-ltb _ _ h)

  module _ (whole : 48 ≤ length s) where
    pub other_version : (number_at 1 s 0 / 8 % 8 ≡ 5 → ⊥)
        → header_read s ≡ Err (OtherVersion (number_at 1 s 0 / 8 % 8))
    unfolding header_read
    other_version h = rw (le-ltb _ _ whole, ne_eqb (number_at 1 s 0 / 8 % 8) 5 h)

    module _ (five : number_at 1 s 0 / 8 % 8 ≡ 5) where
      pub other_mode : is_mode (number_at 1 s 0 % 8) ≡ false → header_read s ≡ Err (Refused MalformedMode)
      unfolding header_read
      other_mode h = rw (le-ltb _ _ whole, eq-eqb (number_at 1 s 0 / 8 % 8) 5 five, h)

      module _ (mode : is_mode (number_at 1 s 0 % 8) ≡ true) where
        pub other_timescale : 3 < number_at 1 s 12 → header_read s ≡ Err (Refused MalformedTimescale)
        unfolding header_read
        other_timescale h = rw (le-ltb _ _ whole, eq-eqb (number_at 1 s 0 / 8 % 8) 5 five, mode, lt-ltb _ _ h)

        module _ (scale : number_at 1 s 12 ≤ 3) where
          pub other_flags : 7 < number_at 2 s 14 → header_read s ≡ Err (Refused InvalidFlags)
          unfolding header_read
          other_flags h =
              rw (le-ltb _ _ whole, eq-eqb (number_at 1 s 0 / 8 % 8) 5 five, mode, le-ltb _ _ scale, lt-ltb _ _ h)

          pub all_passed : number_at 2 s 14 ≤ 7 → header_read s ≡ Ok (header_at s)
          unfolding header_read
          all_passed h =
              rw (le-ltb _ _ whole, eq-eqb (number_at 1 s 0 / 8 % 8) 5 five, mode, le-ltb _ _ scale, le-ltb _ _ h)

-- the numbers of a header, written one after the other, are its bytes
pub written : (h : NtpHeaderV5) (out : List ℕ) (at : ℕ) {vs : List ℕ} → vs ≡ numbers_of h
    → numbers_write widths vs out at ≡ header_write h out at
unfolding header_write
written h out at f = rw f (row_written widths (numbers_of h) out at refl (lit≤ tt))
