-- Rounding to four. RFC 5905, section 7.5: extension fields are padded to a word, four bytes.
use Rattle.std.specs.Prelude.{ℕ, ◌+◌, ◌*◌, ◌/◌}

-- `n` rounded up to a multiple of four
abbrev pub rounded_up : ℕ → ℕ
rounded_up n = (n + 3) / 4 * 4
