-- Where the parts of a sealed field's message are: the ciphertext after the nonce and its padding, and inside.
use Rattle.std.specs.Prelude.{◌≡◌, refl, Bool, true, false, List, ℕ, ◌+◌, ◌≤◌, ltb, length, Result, Ok, Err}
use Rattle.std.proofs.Common.{ap, arith, ltb-false}
use Rattle.base_answers.specs.Meant.{pick}
use Rattle.base_answers.specs.declared.Refusal.TheVariants.{IncorrectLength}
use Rattle.base_rounding.specs.Meant.{rounded_up}
use Rattle.field_sealed.specs.Model.{nonce_length, ciphertext_length, ciphertext_at_of, parts, sealed_parts}
use Rattle.field_sealed.specs.declared.Sealed.{Sealed}
use Rattle.base_answers.specs.declared.Refusal.{Refusal}

abbrev sealed_in : Result Sealed Refusal → Sealed
sealed_in (Ok s) = s
sealed_in (Err r) = record { nonce_len = 0; ciphertext_start = 0; ciphertext_len = 0 }

-- one answer has one nonce length, one place of the ciphertext and one length of it
pub same_parts : {n to c k at l : ℕ} → parts n to c ≡ parts k at l → (n ≡ k) × (to ≡ at) × (c ≡ l)
same_parts e =
    (ap (λ r. (sealed_in r).nonce_len) e, ap (λ r. (sealed_in r).ciphertext_start) e, ap (λ r. (sealed_in r).ciphertext_len) e)

module _ {n to c : ℕ} where
  -- a test that would have refused did not hold
  passed : (b : Bool) (l : Result Sealed Refusal) → pick b (Err IncorrectLength) l ≡ parts n to c → (b ≡ false) × (l ≡ parts n to c)
  passed true l e = (cc, cc)
  passed false l e = (refl, e)

-- the parts of a sealed field's message
pub record Placed (message : List ℕ) (n to c : ℕ) : Type 0 where
  pub after : to ≡ 4 + rounded_up n
  pub inside : to + c ≤ length message

pub parts_placed : (message : List ℕ) {n to c : ℕ} → sealed_parts message ≡ parts n to c → Placed message n to c
unfolding sealed_parts
parts_placed message {n} {to} {c} e =
    let size = length message in
    let all = parts (nonce_length message) (ciphertext_at_of message) (ciphertext_length message) in
    let third = pick (ltb size (ciphertext_at_of message + ciphertext_length message)) (Err IncorrectLength) all in
    let second = pick (ltb size (4 + nonce_length message)) (Err IncorrectLength) third in
    let p₁ = passed (ltb size 4) second e in
    let p₂ = passed (ltb size (4 + nonce_length message)) third p₁.1 in
    let p₃ = passed (ltb size (ciphertext_at_of message + ciphertext_length message)) all p₂.1 in
    let same = same_parts p₃.1 in
    let room : ciphertext_at_of message + ciphertext_length message ≤ size = ltb-false _ _ p₃.0 in
    record { after = omega (arith, same.0, same.1); inside = omega (arith, same.1, same.2) }
