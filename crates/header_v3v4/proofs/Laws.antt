-- The cases of reading and of writing a header.
use Rattle.std.specs.Prelude.{◌≡◌, true, false, List, ℕ, ◌≤◌, ◌<◌, length, Ok, Err}
use Rattle.std.proofs.Math.Path.{refl}
use borrow.Author.Tests.{lt-ltb, le-ltb}
use Rattle.std.proofs.Common.{lit≤}
use Rattle.base_answers.specs.declared.Refusal.TheVariants.{IncorrectLength, NoRoom, CannotBeMade}
use Rattle.base_store.specs.Meant.{refusing, writing, room_from}
use Rattle.header_numbers.specs.Model.{numbers_write}
use Rattle.header_numbers.specs.Laws.{row_written}
use Rattle.header_v3v4.specs.declared.NtpHeaderV3V4.{NtpHeaderV3V4}
use Rattle.header_numbers.specs.declared.HeaderError.TheVariants.{InvalidVersion as OtherVersion, Refused}
use Rattle.header_v3v4.specs.Meant.{is_version, version_at, header_at, header_read, is_in_range, widths, numbers_of, header_bytes, header_write}

-- the tests of reading in their order: each case has passed those before it
module _ (s : List ℕ) where
  pub too_short : length s < 48 → header_read s ≡ Err (Refused IncorrectLength)
  unfolding header_read
  too_short h = rw (lt-ltb _ _ h)

  module _ (whole : 48 ≤ length s) where
    pub other_version : is_version (version_at s) ≡ false → header_read s ≡ Err (OtherVersion (version_at s))
    unfolding header_read
    other_version h = rw (le-ltb _ _ whole, h)

    pub all_passed : is_version (version_at s) ≡ true → header_read s ≡ Ok (header_at s)
    unfolding header_read
    all_passed h = rw (le-ltb _ _ whole, h)

-- those of writing
module _ (h : NtpHeaderV3V4) (out : List ℕ) (at : ℕ) where
  pub out_of_range : is_in_range h ≡ false → header_write h out at ≡ refusing CannotBeMade out
  unfolding header_write
  out_of_range f = rw f

  module _ (within : is_in_range h ≡ true) where
    pub no_room : room_from (length out) at < 48 → header_write h out at ≡ refusing NoRoom out
    unfolding header_write
    no_room r = rw (within, lt-ltb (room_from (length out) at) 48 r)

    pub all_written : 48 ≤ room_from (length out) at → header_write h out at ≡ writing (header_bytes h) at out
    unfolding header_write
    all_written r = rw (within, le-ltb (room_from (length out) at) 48 r)

    -- its numbers, written one after the other, are its bytes
    pub written : {vs : List ℕ} → vs ≡ numbers_of h → numbers_write widths vs out at ≡ header_write h out at
    unfolding header_write
    written f = rw (f, within) (row_written widths (numbers_of h) out at refl (lit≤ tt))
