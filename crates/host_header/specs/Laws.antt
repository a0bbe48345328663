-- A header that was read stands for itself again, so a host that writes what it read writes that header.
use Rattle.std.specs.Prelude.{◌≡◌, true}
use borrow.Author.Tests.{le-ltb}
use Rattle.header_codes.specs.LawsSmall.{told_small, timescale_small, leap_found, mode_is, mode_found, timescale_found, flags_small, flags_found}
use Rattle.header_v5.specs.declared.NtpHeaderV5.{NtpHeaderV5}
use Rattle.host_header.specs.Meant.{row_of, is_coded, header_of}

module _ (h : NtpHeaderV5) where
  pub coded : is_coded (row_of h) ≡ true
  unfolding row_of
  coded = rw (le-ltb _ _ (told_small h.leap), le-ltb _ _ (timescale_small h.timescale), le-ltb _ _ (flags_small h.flags), mode_is h.mode)

  pub stands : header_of (row_of h) ≡ h
  unfolding row_of header_of
  stands =
      rw (
        leap_found h.leap,
        mode_found h.mode,
        timescale_found h.timescale,
        flags_found h.flags,
      )
