-- The walk over numbers of given widths, once for every row of widths: what was written is read, what was read is written, how a
-- turn of either goes, and the cases of writing.
use Rattle.std.specs.Prelude.{◌≡◌, refl, Bool, true, false, List, [], ◌∷◌, ◌++◌, ℕ, suc, ◌+◌, ◌-◌, ◌^◌, ◌≤◌, ◌<◌, ltb, length, take, drop, get_or, Ok}
use Rattle.std.proofs.Common.{sym, ap, ◌∙◌, append_assoc, arith, length-append, length-drop, drop_of_length-le, take_at, drop_at, drop-cons, drop-drop, take-add}
use borrow.Author.Tests.{ltb-true, lt-ltb, le-ltb, eq-eqb, ne_eqb}
use Rattle.base_answers.specs.Meant.{◌⇒◌, first_of}
use Rattle.base_answers.specs.declared.Refusal.TheVariants.{NoRoom, CannotBeMade}
use Rattle.base_big_endian.specs.Meant.{big_endian, number_at, Bytes}
use Rattle.base_big_endian.specs.Laws.{length_big_endian, value_big_endian, inside, rewritten}
use Rattle.base_store.specs.Model.{stored}
use Rattle.base_store.specs.Meant.{room_from, refusing, writing, wrote}
use Rattle.base_store.specs.Laws.{then_stored, written, nothing_stored}
use Rattle.header_numbers.specs.Meant.{total, numbers_at, number_bytes, RowWithin}
use Rattle.header_numbers.specs.Model.{numbers_write}

-- what storing all numbers comes to: where the last one ends, and the output
pub record Put (ws vs out : List ℕ) (at end : ℕ) (new : List ℕ) : Type 0 where
  pub ends : end ≡ at + total ws
  pub stores : new ≡ stored out at (number_bytes ws vs)

pub length_numbers : (ws vs : List ℕ) → length ws ≡ length vs → length (number_bytes ws vs) ≡ total ws
unfolding number_bytes
length_numbers [] vs e = refl
length_numbers (w ∷ ws) [] e = absurd (omega arith)
length_numbers (w ∷ ws) (v ∷ vs) e =
    let more : length (number_bytes ws vs) ≡ total ws = length_numbers ws vs (omega arith) in
    simp length-append (omega (arith, length_big_endian w v))

-- a number that stands between other bytes is read
number_between : (before : List ℕ) (w v : ℕ) (after : List ℕ) → v < 256 ^ w
    → number_at w (before ++ (big_endian w v ++ after)) (length before) ≡ v
number_between before w v after h =
    let n = length_big_endian w v in
    inside w (before ++ (big_endian w v ++ after)) (length before)
    (omega (arith, n, length-append before (big_endian w v ++ after), length-append (big_endian w v) after))
    ∙ rw (drop_at before (big_endian w v ++ after) (length before) refl, take_at (big_endian w v) after w n)
    (value_big_endian w v h)

-- numbers that were written are read, wherever they stand
pub read_written : (before ws vs after : List ℕ) → RowWithin ws vs
    → numbers_at ws (before ++ (number_bytes ws vs ++ after)) (length before) ≡ vs
unfolding number_bytes
read_written before [] [] after p = refl
read_written before [] (v ∷ vs) after p = absurd p
read_written before (w ∷ ws) [] after p = absurd p
read_written before (w ∷ ws) (v ∷ vs) after p =
    let next : length before + w ≡ length (before ++ big_endian w v) =
    omega (arith, length-append before (big_endian w v), length_big_endian w v) in
    let more = read_written (before ++ big_endian w v) ws vs after p.1 in
    rw (append_assoc (big_endian w v) (number_bytes ws vs) after, number_between before w v (number_bytes ws vs ++ after) p.0, next)
    (ap (λ (l : List ℕ). v ∷ l) (rw append_assoc at more))

-- the numbers of a row at the start, one by one, and how many bytes there are at least
module _ (ws vs more : List ℕ) where
  pub number_of : RowWithin ws vs → (i : ℕ) → get_or (numbers_at ws (number_bytes ws vs ++ more) 0) i 0 ≡ get_or vs i 0
  number_of p i = ap (λ (l : List ℕ). get_or l i 0) (read_written [] ws vs more p)

  pub row_length : length ws ≡ length vs → total ws ≤ length (number_bytes ws vs ++ more)
  row_length e = omega (arith, length-append (number_bytes ws vs) more, length_numbers ws vs e)

-- bytes that were read are written again as they were
pub written_read : (ws s : List ℕ) (at : ℕ) → Bytes s → at + total ws ≤ length s
    → number_bytes ws (numbers_at ws s at) ≡ take (total ws) (drop at s)
unfolding number_bytes
written_read [] s at p h = refl
written_read (w ∷ ws) s at p h =
    rw (rewritten w s at p (omega arith), written_read ws s (at + w) p (omega arith), ← drop-drop w at s)
    (sym (take-add w (total ws) (drop at s)))

-- the next of the widths that are left
pub total_next : (ws : List ℕ) (i : ℕ) → i < length ws → total (drop i ws) ≡ get_or ws i 0 + total (drop (i + 1) ws)
total_next ws i h =
    let e : i + 1 ≡ suc i = omega arith in
    rw (e, drop-cons ws i 0 h)

pub none_left : (ws : List ℕ) (i : ℕ) → length ws ≤ i → total (drop i ws) ≡ 0
none_left ws i h = rw (drop_of_length-le ws h)

-- the next number is stored, and the rest is left
pub stored_next : (out ws vs : List ℕ) (at i : ℕ) {first : List ℕ} → i < length ws → length ws ≡ length vs
    → at + total (drop i ws) ≤ length out
    → first ≡ stored out at (big_endian (get_or ws i 0) (get_or vs i 0))
    → stored first (at + get_or ws i 0) (number_bytes (drop (i + 1) ws) (drop (i + 1) vs)) ≡ stored out at (number_bytes (drop i ws) (drop i vs))
unfolding number_bytes
stored_next out ws vs at i h e fits f =
    let o : i + 1 ≡ suc i = omega arith in
    let k : i < length vs = omega arith in
    let w = get_or ws i 0 in
    let n = length_big_endian w (get_or vs i 0) in
    let m = length_numbers (drop (suc i) ws) (drop (suc i) vs) (omega (arith, length-drop (suc i) ws, length-drop (suc i) vs)) in
    let next : at + w ≡ at + length (big_endian w (get_or vs i 0)) = omega (arith, n) in
    rw (o, drop-cons ws i 0 h, drop-cons vs i 0 k)
    (then_stored out at (big_endian w (get_or vs i 0)) (number_bytes (drop (suc i) ws) (drop (suc i) vs)) next
    (omega (arith, n, m, rw o at (total_next ws i h))) f refl)

pub none_stored : (out ws vs : List ℕ) (at i : ℕ) → length ws ≤ i → stored out at (number_bytes (drop i ws) (drop i vs)) ≡ out
unfolding number_bytes
none_stored out ws vs at i h = rw (drop_of_length-le ws h) (nothing_stored out at)

-- the cases of writing
module _ (ws vs out : List ℕ) (at : ℕ) where
  pub unpaired : (length ws ≡ length vs → ⊥) → numbers_write ws vs out at ≡ refusing CannotBeMade out
  unfolding numbers_write
  unpaired e = rw (ne_eqb (length ws) (length vs) e)

  module _ (paired : length ws ≡ length vs) where
    pub past_end : length out < at → numbers_write ws vs out at ≡ refusing NoRoom out
    unfolding numbers_write
    past_end h = rw (eq-eqb (length ws) (length vs) paired, lt-ltb _ _ h)

    pub no_room : at ≤ length out → room_from (length out) at < total ws → numbers_write ws vs out at ≡ refusing NoRoom out
    unfolding numbers_write
    no_room h k = rw (eq-eqb (length ws) (length vs) paired, le-ltb _ _ h, lt-ltb _ _ k)

    pub all_stored : {end : ℕ} {new : List ℕ} → at ≤ length out → total ws ≤ room_from (length out) at → Put ws vs out at end new
        → wrote (Ok (end - at)) new ≡ numbers_write ws vs out at
    unfolding numbers_write
    all_stored h k p =
        let n = length_numbers ws vs paired in
        let end = p.ends in
        rw (eq-eqb (length ws) (length vs) paired, le-ltb _ _ h, le-ltb _ _ k)
        (written out at (number_bytes ws vs) (omega (arith, n)) (omega (arith, n)) p.stores)

-- with a number for each width, and a byte at least, only the room decides
pub row_written : (ws vs out : List ℕ) (at : ℕ) → length ws ≡ length vs → 0 < total ws
    → numbers_write ws vs out at
    ≡ first_of (ltb (room_from (length out) at) (total ws) ⇒ refusing NoRoom out ∷ []) (writing (number_bytes ws vs) at out)
unfolding numbers_write
row_written ws vs out at paired some = go (ltb (length out) at) refl
  where
    go : (b : Bool) → ltb (length out) at ≡ b → numbers_write ws vs out at
        ≡ first_of (ltb (room_from (length out) at) (total ws) ⇒ refusing NoRoom out ∷ []) (writing (number_bytes ws vs) at out)
    go true e =
        rw (eq-eqb (length ws) (length vs) paired, e, lt-ltb (room_from (length out) at) (total ws) (omega (arith, some, ltb-true (length out) at e)))
    go false e = rw (eq-eqb (length ws) (length vs) paired, e)
