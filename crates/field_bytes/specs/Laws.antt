-- How long a field's bytes are, and that its four parts, each stored where the one before ends, are the field.
use Rattle.std.specs.Prelude.{◌≡◌, List, ◌++◌, ℕ, ◌+◌, ◌-◌, ◌≤◌, max, length, drop, replicate}
use Rattle.std.proofs.Common.{sym, ap, ◌∙◌, append_assoc, arith, length-append, drop_at}
use Rattle.std.proofs.lemmas.List.{length-replicate}
use Rattle.base_big_endian.specs.Meant.{big_endian}
use Rattle.base_big_endian.specs.Laws.{length_big_endian}
use Rattle.base_store.specs.Model.{stored}
use Rattle.base_store.specs.Laws.{then_stored}
use Rattle.field_bytes.specs.Meant.{field_bytes}

module _ (t l : ℕ) (body : List ℕ) (k : ℕ) where
  pub length_field : length (field_bytes t l body k) ≡ max k (4 + length body)
  length_field =
      simp (length-append, length-replicate) (omega (arith, length_big_endian 2 t, length_big_endian 2 l))

  -- what follows the four bytes of type and length
  pub after_header : drop 4 (field_bytes t l body k) ≡ body ++ replicate (k - (4 + length body)) 0
  after_header =
      let rest = body ++ replicate (k - (4 + length body)) 0 in
      let header = big_endian 2 t ++ big_endian 2 l in
      let n : length header ≡ 4 = simp length-append (omega (arith, length_big_endian 2 t, length_big_endian 2 l)) in
      ap (drop 4) (sym (append_assoc (big_endian 2 t) (big_endian 2 l) rest)) ∙ drop_at header rest 4 n

  pub four_stored : (out : List ℕ) (at : ℕ) {a b c d : List ℕ} {z : ℕ} → z ≡ k - (4 + length body)
      → at + (4 + length body + z) ≤ length out
      → a ≡ stored out at (big_endian 2 t)
      → b ≡ stored a (at + 2) (big_endian 2 l)
      → c ≡ stored b (at + 4) body
      → d ≡ stored c (at + (4 + length body)) (replicate z 0)
      → d ≡ stored out at (field_bytes t l body k)
  four_stored out at {d = d} {z = z} ez h ea eb ec ed =
      let tn = length_big_endian 2 t in
      let ln = length_big_endian 2 l in
      let header = big_endian 2 t ++ big_endian 2 l in
      let hn : length header ≡ 4 = simp length-append (omega (arith, tn, ln)) in
      let zn = length-replicate {A = ℕ} z 0 in
      let bn = length-append header body in
      let all =
      then_stored out at (header ++ body) (replicate z 0) (omega (arith, hn, bn)) (omega (arith, hn, bn, zn))
      (then_stored out at header body (omega (arith, hn)) (omega (arith, hn))
      (then_stored out at (big_endian 2 t) (big_endian 2 l) (omega (arith, tn)) (omega (arith, tn, ln)) ea eb) ec) ed in
      simp (append_assoc, ez) at all
