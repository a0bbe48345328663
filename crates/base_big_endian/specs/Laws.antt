-- Big-endian numbers, once for every width: what was written is read, what was read is written, and how large it is.
use Rattle.std.specs.Prelude.{◌≡◌, refl, List, [], ◌∷◌, ◌++◌, ℕ, zero, suc, ◌+◌, ◌*◌, ◌/◌, ◌%◌, ◌^◌, ◌≤◌, ◌<◌, length, take, drop}
use Rattle.std.proofs.Common.{sym, ap, ◌∙◌, append_assoc, append-nil, pow-suc, arith, le-leb, length-append, length-take, length-drop, take-append-drop, drop-drop, take_at, length-take-le}
use Rattle.std.proofs.Math.Nat.{pow-zero, one-le-pow}
use Rattle.std.proofs.lemmas.Bool.{lt-leb}
use Rattle.base_big_endian.specs.Meant.{big_endian, after, value, number_at, Bytes}
use Rattle.base_big_endian.specs.Model.{Read}

pub bytes_take : (n : ℕ) (bs : List ℕ) → Bytes bs → Bytes (take n bs)
bytes_take zero bs p = tt
bytes_take (suc n) [] p = tt
bytes_take (suc n) (b ∷ bs) p = (p.0, bytes_take n bs p.1)

pub bytes_drop : (n : ℕ) (bs : List ℕ) → Bytes bs → Bytes (drop n bs)
bytes_drop zero bs p = p
bytes_drop (suc n) [] p = tt
bytes_drop (suc n) (b ∷ bs) p = bytes_drop n bs p.1

pub length_big_endian : (w n : ℕ) → length (big_endian w n) ≡ w
unfolding big_endian
length_big_endian zero n = refl
length_big_endian (suc w) n = simp length-append (omega (arith, length_big_endian w (n / 256)))

after_append : (a : ℕ) (xs ys : List ℕ) → after a (xs ++ ys) ≡ after (after a xs) ys
after_append a [] ys = refl
after_append a (x ∷ xs) ys = after_append (a * 256 + x) xs ys

-- what was written is read
pub value_big_endian : (w n : ℕ) → n < 256 ^ w → value (big_endian w n) ≡ n
unfolding big_endian
value_big_endian zero n h =
    let g = rw pow-zero at h in
    omega arith
value_big_endian (suc w) n h =
    let g = rw pow-suc at h in
    let high : value (big_endian w (n / 256)) ≡ n / 256 = value_big_endian w (n / 256) (omega arith) in
    rw (after_append, high) (omega arith)

-- what was read is written
big_endian_after : (k a : ℕ) (bs : List ℕ) → Bytes bs → big_endian (k + length bs) (after a bs) ≡ big_endian k a ++ bs
unfolding big_endian
big_endian_after k a [] p =
    let e : k + 0 ≡ k = omega arith in
    rw (e, append-nil)
big_endian_after k a (b ∷ bs) p =
    let e : k + suc (length bs) ≡ suc k + length bs = omega arith in
    let small = p.0 in
    let high : (a * 256 + b) / 256 ≡ a = omega arith in
    let low : (a * 256 + b) % 256 ≡ b = omega arith in
    rw e (big_endian_after (suc k) (a * 256 + b) bs p.1 ∙ rw (high, low, append_assoc))

pub big_endian_value : (w : ℕ) (bs : List ℕ) → length bs ≡ w → Bytes bs → big_endian w (value bs) ≡ bs
unfolding big_endian
big_endian_value w bs e p =
    let z : 0 + length bs ≡ w = omega arith in
    rw z at (big_endian_after 0 0 bs p)

-- bytes say a number of their width
after_lt : (k a : ℕ) (bs : List ℕ) → a < 256 ^ k → Bytes bs → after a bs < 256 ^ (k + length bs)
after_lt k a [] h p =
    let e : k + 0 ≡ k = omega arith in
    rw e h
after_lt k a (b ∷ bs) h p =
    let e : k + suc (length bs) ≡ suc k + length bs = omega arith in
    let small = p.0 in
    rw e (after_lt (suc k) (a * 256 + b) bs (rw pow-suc (omega arith)) p.1)

value_lt : (w : ℕ) (bs : List ℕ) → length bs ≡ w → Bytes bs → value bs < 256 ^ w
value_lt w bs e p =
    let z : 0 + length bs ≡ w = omega arith in
    rw z at (after_lt 0 0 bs (rw pow-zero (omega arith)) p)

module _ (w : ℕ) (s : List ℕ) (at : ℕ) where
  -- the bytes are all there
  pub inside : at + w ≤ length s → number_at w s at ≡ value (take w (drop at s))
  unfolding number_at
  inside h = rw (le-leb _ _ h)

  -- they are not
  pub outside : length s < at + w → Read w s at 0
  unfolding number_at
  outside h = record { is = rw (lt-leb _ _ h); fits = one-le-pow w 256 (omega arith) }

  -- bytes that were read are written again as they were
  pub rewritten : Bytes s → at + w ≤ length s → big_endian w (number_at w s at) ≡ take w (drop at s)
  rewritten p h =
      rw (inside h)
      (big_endian_value w (take w (drop at s)) (omega (arith, length-take w (drop at s), length-drop at s)) (bytes_take w (drop at s) (bytes_drop at s p)))

  -- a number that was read fits its width
  pub narrow : Bytes s → at + w ≤ length s → number_at w s at < 256 ^ w
  narrow p h =
      rw (inside h)
      (value_lt w (take w (drop at s)) (omega (arith, length-take w (drop at s), length-drop at s)) (bytes_take w (drop at s) (bytes_drop at s p)))

-- a number of two bytes at a place where they lie
pub number_here : (s : List ℕ) (at n : ℕ) (tl : List ℕ) → n < 65536 → at + 2 ≤ length s → drop at s ≡ big_endian 2 n ++ tl
    → number_at 2 s at ≡ n
number_here s at n tl h room e =
    inside 2 s at room
    ∙ ap (λ (l : List ℕ). value (take 2 l)) e
    ∙ ap value (take_at (big_endian 2 n) tl 2 (length_big_endian 2 n))
    ∙ value_big_endian 2 n h

value_small : (bs : List ℕ) → length bs ≡ 2 → Bytes bs → value bs < 65536
value_small (a ∷ b ∷ []) e p = omega (arith, p)
value_small [] e p = absurd (omega arith)
value_small (a ∷ []) e p = absurd (omega arith)
value_small (a ∷ b ∷ c ∷ bs) e p = absurd (omega arith)

-- two bytes at a place are the number there
pub bytes_here : (s : List ℕ) → Bytes s → (at : ℕ) → at + 2 ≤ length s
    → (number_at 2 s at < 65536) × (drop at s ≡ big_endian 2 (number_at 2 s at) ++ drop (at + 2) s)
bytes_here s p at room =
    let two = take 2 (drop at s) in
    let size : length two ≡ 2 = length-take-le 2 (drop at s) (omega (arith, length-drop at s)) in
    let bytes : Bytes two = bytes_take 2 (drop at s) (bytes_drop at s p) in
    let number = inside 2 s at room in (
      rw number (value_small two size bytes),
      rw (number, big_endian_value 2 two size bytes)
          (sym (take-append-drop 2 (drop at s)) ∙ ap (λ (l : List ℕ). two ++ l) (drop-drop 2 at s)),
    )
