-- The bytes of a field. RFC 5905, section 7.5: field type and length, two bytes each, the value, and padding with zeros.
use Rattle.std.specs.Prelude.{List, ◌++◌, ℕ, ◌+◌, ◌-◌, length, replicate}
use Rattle.base_big_endian.specs.Meant.{big_endian}

-- a field of type `t` and length `l` with this body and the wire length `k`
abbrev pub field_bytes : ℕ → ℕ → List ℕ → ℕ → List ℕ
field_bytes t l body k = big_endian 2 t ++ (big_endian 2 l ++ (body ++ replicate (k - (4 + length body)) 0))
