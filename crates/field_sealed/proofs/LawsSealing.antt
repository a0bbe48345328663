-- The inner lengths of a sealed field are accepted exactly when its message is nonce, padding, ciphertext and a rest, and then
-- say where nonce and ciphertext are.
use Rattle.std.specs.Prelude.{◌≡◌, refl, Bool, true, false, List, ◌++◌, ℕ, ◌+◌, ◌-◌, ◌≤◌, ltb, length, take, drop, Result, Err}
use Rattle.std.proofs.Common.{sym, ap, ◌∙◌, arith, le-ltb, ltb-false, length-append, length-drop, take-append-drop, drop-drop, drop_at, take_at, length-take-le}
use Rattle.base_answers.specs.Meant.{pick}
use Rattle.base_answers.specs.declared.Refusal.TheVariants.{IncorrectLength}
use Rattle.base_rounding.specs.Meant.{rounded_up}
use Rattle.base_big_endian.specs.Meant.{big_endian, number_at, Bytes}
use Rattle.base_big_endian.specs.Laws.{length_big_endian, number_here, bytes_here}
use Rattle.field_sealed.specs.Model.{nonce_length, ciphertext_length, ciphertext_at_of, parts, sealed_parts}
use Rattle.field_sealed.specs.declared.Sealed.{Sealed}
use Rattle.base_answers.specs.declared.Refusal.{Refusal}
use Rattle.field_sealed.proofs.Laws.{same_parts}
use Rattle.field_sealed.specs.Meant.{Sealing}

-- where the parts are, by the lengths
pub record Parted (m : List ℕ) (s : Sealing m) : Type 0 where
  pub parts : sealed_parts m
      ≡ parts (length s.nonce) (4 + rounded_up (length s.nonce)) (length s.ciphertext)
  pub nonce : take (length s.nonce) (drop 4 m) ≡ s.nonce
  pub ciphertext : take (length s.ciphertext) (drop (4 + rounded_up (length s.nonce)) m) ≡ s.ciphertext

pub placed : (m : List ℕ) (s : Sealing m) → Parted m s
unfolding sealed_parts
placed m s =
    let n = length s.nonce in
    let c = length s.ciphertext in
    let third = s.ciphertext ++ s.rest in
    let second = s.nonce ++ (s.filler ++ third) in
    let first = big_endian 2 c ++ second in
    let size : length m ≡ 4 + n + length s.filler + c + length s.rest =
    ap (λ (l : List ℕ). length l) s.whole
    ∙ omega (
      arith,
      length-append (big_endian 2 n) first,
      length_big_endian 2 n,
      length-append (big_endian 2 c) second,
      length_big_endian 2 c,
      length-append s.nonce (s.filler ++ third),
      length-append s.filler third,
      length-append s.ciphertext s.rest,
    ) in
    let at₂ : drop 2 m ≡ first = ap (λ (l : List ℕ). drop 2 l) s.whole ∙ drop_at (big_endian 2 n) first 2 (length_big_endian 2 n) in
    let at₄ : drop 4 m ≡ second =
    sym (drop-drop 2 2 m) ∙ ap (λ (l : List ℕ). drop 2 l) at₂ ∙ drop_at (big_endian 2 c) second 2 (length_big_endian 2 c) in
    let nonces : number_at 2 m 0 ≡ n = number_here m 0 n first s.nonce_fits (omega arith) s.whole in
    let ciphertexts : number_at 2 m 2 ≡ c = number_here m 2 c second s.ciphertext_fits (omega arith) at₂ in
    let padded : rounded_up n ≡ n + length s.filler = omega (arith, s.short, s.even) in
    let at₅ : drop (4 + n) m ≡ s.filler ++ third =
    sym (drop-drop n 4 m) ∙ ap (λ (l : List ℕ). drop n l) at₄ ∙ drop_at s.nonce (s.filler ++ third) n refl in
    let place : 4 + n + length s.filler ≡ 4 + rounded_up n = omega arith in
    let at₆ : drop (4 + rounded_up n) m ≡ third =
    rw place at (sym (drop-drop (length s.filler) (4 + n) m))
    ∙ ap (λ (l : List ℕ). drop (length s.filler) l) at₅
    ∙ drop_at s.filler third (length s.filler) refl in
    record {
      parts =
          rw (
            nonces,
            ciphertexts,
            le-ltb (length m) 4 (omega arith),
            le-ltb (length m) (4 + n) (omega arith),
            le-ltb (length m) (4 + rounded_up n + c) (omega arith),
          );
      nonce = ap (λ (l : List ℕ). take n l) at₄ ∙ take_at s.nonce (s.filler ++ third) n refl;
      ciphertext = ap (λ (l : List ℕ). take c l) at₆ ∙ take_at s.ciphertext s.rest c refl;
    }

-- lengths that fit lay out the message
sealing_of : (m : List ℕ) → Bytes m → 4 ≤ length m → ciphertext_at_of m + ciphertext_length m ≤ length m → Sealing m
sealing_of m p four room =
    let n = nonce_length m in
    let c = ciphertext_length m in
    let one = bytes_here m p 0 (omega arith) in
    let two = bytes_here m p 2 (omega arith) in
    let pad = rounded_up n - n in
    let nonce = take n (drop 4 m) in
    let filler = take pad (drop (4 + n) m) in
    let ciphertext = take c (drop (4 + n + pad) m) in
    let rest = drop c (drop (4 + n + pad) m) in
    let nonces : length nonce ≡ n = length-take-le n (drop 4 m) (omega (arith, length-drop 4 m)) in
    let fillers : length filler ≡ pad = length-take-le pad (drop (4 + n) m) (omega (arith, length-drop (4 + n) m)) in
    let ciphertexts : length ciphertext ≡ c =
    length-take-le c (drop (4 + n + pad) m) (omega (arith, length-drop (4 + n + pad) m)) in
    let at₆ : drop (4 + n) m ≡ filler ++ (ciphertext ++ rest) =
    sym (take-append-drop pad (drop (4 + n) m))
    ∙ ap (λ (l : List ℕ). filler ++ l) (drop-drop pad (4 + n) m ∙ sym (take-append-drop c (drop (4 + n + pad) m))) in
    let at₄ : drop 4 m ≡ nonce ++ (filler ++ (ciphertext ++ rest)) =
    sym (take-append-drop n (drop 4 m)) ∙ ap (λ (l : List ℕ). nonce ++ l) (drop-drop n 4 m ∙ at₆) in
    record {
      nonce = nonce;
      filler = filler;
      ciphertext = ciphertext;
      rest = rest;
      nonce_fits = omega (arith, one.0);
      ciphertext_fits = omega (arith, two.0);
      short = omega arith;
      even = omega arith;
      whole =
          one.1
          ∙ rw (nonces, ciphertexts)
          (ap (λ (l : List ℕ). big_endian 2 n ++ l) (two.1 ∙ ap (λ (l : List ℕ). big_endian 2 c ++ l) at₄));
    }

-- how the inner lengths are judged
pub data Judged (m : List ℕ) : Result Sealed Refusal → Type 0 where
  good : (s : Sealing m) {n to c : ℕ} → n ≡ length s.nonce → to ≡ 4 + rounded_up (length s.nonce) → c ≡ length s.ciphertext
      → Judged m (parts n to c)
  bad : (Sealing m → ⊥) → Judged m (Err IncorrectLength)

no_parts : (m : List ℕ) → sealed_parts m ≡ Err IncorrectLength → Sealing m → ⊥
no_parts m e s =
    let z : ◌≡◌ {A = ℕ} 0 1 = cc ((placed m s).parts, e) in
    omega arith

pub judged : (m : List ℕ) → Bytes m → Judged m (sealed_parts m)
unfolding sealed_parts
judged m p =
    go (ltb (length m) 4) refl (ltb (length m) (4 + nonce_length m)) refl (ltb (length m) (ciphertext_at_of m + ciphertext_length m)) refl
  where
    go : (a : Bool) → ltb (length m) 4 ≡ a → (b : Bool) → ltb (length m) (4 + nonce_length m) ≡ b → (c : Bool)
        → ltb (length m) (ciphertext_at_of m + ciphertext_length m) ≡ c
        → Judged m
        (pick a (Err IncorrectLength)
        (pick b (Err IncorrectLength)
        (pick c (Err IncorrectLength) (parts (nonce_length m) (ciphertext_at_of m) (ciphertext_length m)))))
    go true e b f c g = bad (no_parts m (rw e))
    go false e true f c g = bad (no_parts m (rw (e, f)))
    go false e false f true g = bad (no_parts m (rw (e, f, g)))
    go false e false f false g =
        let s = sealing_of m p (ltb-false _ _ e) (ltb-false _ _ g) in
        let found : sealed_parts m ≡ parts (nonce_length m) (ciphertext_at_of m) (ciphertext_length m) = rw (e, f, g) in
        let same = same_parts (sym found ∙ (placed m s).parts) in
        good s same.0 same.1 same.2
