-- How long the bytes of a sealed field are.
use Rattle.std.specs.Prelude.{◌≡◌, List, ◌++◌, ℕ, ◌-◌, length, replicate}
use Rattle.std.proofs.Common.{arith, length-append}
use Rattle.std.proofs.lemmas.List.{length-replicate}
use Rattle.base_rounding.specs.Meant.{rounded_up}
use Rattle.base_big_endian.specs.Meant.{big_endian}
use Rattle.base_big_endian.specs.Laws.{length_big_endian}
use Rattle.write_stage_two.specs.Meant.{padded, sealed_length, sealed_bytes}

pub padded_length : (bytes : List ℕ) → length (padded bytes) ≡ rounded_up (length bytes)
padded_length bytes =
    omega (
      arith,
      length-append bytes (replicate (rounded_up (length bytes) - length bytes) 0),
      length-replicate {A = ℕ} (rounded_up (length bytes) - length bytes) 0,
    )

pub sealed_length_law : (nonce ciphertext : List ℕ) → length (sealed_bytes nonce ciphertext) ≡ sealed_length nonce ciphertext
unfolding sealed_bytes
sealed_length_law nonce ciphertext =
    let l = sealed_length nonce ciphertext in
    let both = padded nonce ++ padded ciphertext in
    let second = big_endian 2 (length ciphertext) ++ both in
    let first = big_endian 2 (length nonce) ++ second in
    let stated = big_endian 2 l ++ first in
    omega (
      arith,
      length-append (big_endian 2 0x0404) stated,
      length-append (big_endian 2 l) first,
      length-append (big_endian 2 (length nonce)) second,
      length-append (big_endian 2 (length ciphertext)) both,
      length-append (padded nonce) (padded ciphertext),
      length_big_endian 2 0x0404,
      length_big_endian 2 l,
      length_big_endian 2 (length nonce),
      length_big_endian 2 (length ciphertext),
      padded_length nonce,
      padded_length ciphertext,
    )
