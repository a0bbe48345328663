-- What the message of a sealed field is. Nothing here reads: the parts are said by how they lie one after the other.
use Rattle.std.specs.Prelude.{◌≡◌, List, ◌++◌, ℕ, ◌+◌, ◌%◌, ◌<◌, length}
use Rattle.base_big_endian.specs.Meant.{big_endian}

-- RFC 8915, section 5.6: nonce length and ciphertext length, two bytes each, the nonce, its padding to a multiple of four, the
-- ciphertext, and whatever follows
pub record Sealing (message : List ℕ) : Type 0 where
  pub nonce : List ℕ
  pub filler : List ℕ
  pub ciphertext : List ℕ
  pub rest : List ℕ
  pub nonce_fits : length nonce < 65536
  pub ciphertext_fits : length ciphertext < 65536
  pub short : length filler < 4
  pub even : (length nonce + length filler) % 4 ≡ 0
  pub whole : message
      ≡ big_endian 2 (length nonce)
      ++ (big_endian 2 (length ciphertext) ++ (nonce ++ (filler ++ (ciphertext ++ rest))))
