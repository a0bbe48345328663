-- Every image holds entries and a rest, in one way, and the functions speak of them.
use Rattle.std.specs.Prelude.{◌≡◌, refl, true, List, [], ◌∷◌, ◌++◌, ℕ, zero, suc, ◌+◌, ◌-◌, ◌*◌, ◌<◌, length, take, drop, get_or}
use Rattle.std.proofs.Common.{sym, ◌∙◌, ap, arith, take-append-drop, length-take-le}
use Rattle.std.proofs.Math.Seq.{take-append_seam, drop-append_seam, get_or-append_seam}
use Rattle.journal.specs.Meant.{Entry, entry_of, end_byte, is_named, Named, entry_len, entry_bytes, entries_bytes, AllNamed, none, one, Begins, Holds}
use Rattle.journal.specs.Model.{le16, len_here, entries, flat, end_of}
use Rattle.journal.specs.LawsEntry.{Stands, Shape, Sized, is_read, is_header, named, stands, found, shape, further, whole_read, whole_header}
use Rattle.journal.specs.LawsSplit.{Entries, Split, found_of, end_of_law, first_of, splits}
use Rattle.journal.specs.LawsSplit as split
use Rattle.journal.specs.LawsPlans.{KindOf, a_read, a_header_law, kind_of, length_entry}
use Rattle.claim_journal.specs.Meant.{SomeHolds}

-- ---- an entry and its bytes

-- the entry that bytes are
abbrev pub decoded : List ℕ → Entry
decoded x = entry_of (le16 x 2) (take (length x - 5) (drop 4 x))

module _ (e : Entry) (n : Named e) where
  pub stands_entry : Stands (entry_bytes e) (entry_len e)
  stands_entry = go (kind_of e.kind (length e.body) n.named)
    where
      last : get_or (entry_bytes e) (entry_len e - 1) 0 ≡ end_byte
      last =
          let c : entry_len e - 1 ≡ suc (suc (suc (suc (length e.body)))) = omega arith in
          rw c (get_or-append_seam e.body end_byte [] 0)

      go : KindOf e.kind (length e.body) → Stands (entry_bytes e) (entry_len e)
      go (a_read k l) = record { kind = rw (k, l) whole_read; len = rw l; last = last }
      go (a_header_law k l) = record { kind = rw (k, l) whole_header; len = rw l; last = last }

  pub decoded_bytes : decoded (entry_bytes e) ≡ e
  decoded_bytes = go (kind_of e.kind (length e.body) n.named)
    where
      body : take (length (entry_bytes e) - 5) (drop 4 (entry_bytes e)) ≡ e.body
      body =
          let l : length (entry_bytes e) - 5 ≡ length e.body = omega (arith, length_entry e) in
          rw l (take-append_seam e.body (end_byte ∷ []))

      go : KindOf e.kind (length e.body) → decoded (entry_bytes e) ≡ e
      go (a_read k l) = rw body (let q : le16 (entry_bytes e) 2 ≡ e.kind = rw k in rw q)
      go (a_header_law k l) = rw body (let q : le16 (entry_bytes e) 2 ≡ e.kind = rw k in rw q)

-- a list is all but its last, and its last
but_last : (xs : List ℕ) (n : ℕ) → length xs ≡ suc n → xs ≡ take n xs ++ get_or xs n 0 ∷ []
but_last [] n h = absurd (omega arith)
but_last (x ∷ []) zero h = refl
but_last (x ∷ y ∷ xs) zero h = absurd (omega arith)
but_last (x ∷ xs) (suc n) h = ap (λ (l : List ℕ). x ∷ l) (but_last xs n (omega arith))

pub record Decoded (x : List ℕ) : Type 0 where
  pub bytes : x ≡ entry_bytes (decoded x)
  pub kind : Named (decoded x)

same_five : {a b c d a' b' c' d' : ℕ} {y y' : List ℕ} → a ≡ a' → b ≡ b' → c ≡ c' → d ≡ d' → y ≡ y'
    → (a ∷ b ∷ c ∷ d ∷ y) ≡ (a' ∷ b' ∷ c' ∷ d' ∷ y')
same_five p q r s t = rw (p, q, r, s, t)

-- what stands is the bytes of an entry
pub decode : (x : List ℕ) → Stands x (length x) → 0 < length x → Decoded x
decode [] r h = absurd (omega arith)
decode (a ∷ []) r h = absurd (let w = (shape r h).least in omega arith)
decode (a ∷ b ∷ []) r h = absurd (let w = (shape r h).least in omega arith)
decode (a ∷ b ∷ c ∷ []) r h = absurd (let w = (shape r h).least in omega arith)
decode (a ∷ b ∷ c ∷ d ∷ y) r h = go (shape r h) (named (c + 256 * d) (length (a ∷ b ∷ c ∷ d ∷ y)) r.kind h)
  where
    go : Shape (a ∷ b ∷ c ∷ d ∷ y) (length (a ∷ b ∷ c ∷ d ∷ y)) → Sized (c + 256 * d) (length (a ∷ b ∷ c ∷ d ∷ y))
        → Decoded (a ∷ b ∷ c ∷ d ∷ y)
    go s k =
        let low = s.low in
        let high = s.high in
        let w = s.least in
        let v = s.most in
        let e : length (a ∷ b ∷ c ∷ d ∷ y) - 5 ≡ length y - 1 = omega arith in
        let t : length (take (length y - 1) y) ≡ length y - 1 = length-take-le (length y - 1) y (omega arith) in
        let f : length (a ∷ b ∷ c ∷ d ∷ y) - 1 ≡ suc (suc (suc (suc (length y - 1)))) = omega arith in
        let l : get_or y (length y - 1) 0 ≡ end_byte = sym (ap (λ (i : ℕ). get_or (a ∷ b ∷ c ∷ d ∷ y) i 0) f) ∙ r.last in
        let z : y ≡ take (length y - 1) y ++ end_byte ∷ [] = rw l at (but_last y (length y - 1) (omega arith)) in
        let i = s.kind_low in
        let j = s.kind_high in
        record { bytes = rw (e, t) (same_five (omega arith) (omega arith) (omega arith) (omega arith) z); kind = record { named = rw (e, t) (is_named_law k) } }
      where
        is_named_law : Sized (c + 256 * d) (length (a ∷ b ∷ c ∷ d ∷ y)) → is_named (c + 256 * d) (length y - 1) ≡ true
        is_named_law (is_read p q) = let u : length y - 1 ≡ 4 = omega arith in rw (p, u)
        is_named_law (is_header p q) = let u : length y - 1 ≡ 48 = omega arith in rw (p, u)

-- ---- entries and their bytes

abbrev pub bytes_of_each : List Entry → List (List ℕ)
bytes_of_each [] = []
bytes_of_each (e ∷ es) = entry_bytes e ∷ bytes_of_each es

abbrev pub decoded_each : List (List ℕ) → List Entry
decoded_each [] = []
decoded_each (x ∷ xs) = decoded x ∷ decoded_each xs

pub flat_bytes : (es : List Entry) → flat (bytes_of_each es) ≡ entries_bytes es
flat_bytes [] = refl
flat_bytes (e ∷ es) = rw (flat_bytes es)

pub length_bytes : (es : List Entry) → length (bytes_of_each es) ≡ length es
length_bytes [] = refl
length_bytes (e ∷ es) = ap suc (length_bytes es)

pub take_bytes : (k : ℕ) (es : List Entry) → take k (bytes_of_each es) ≡ bytes_of_each (take k es)
take_bytes zero es = refl
take_bytes (suc k) [] = refl
take_bytes (suc k) (e ∷ es) = rw (take_bytes k es)

pub drop_bytes : (k : ℕ) (es : List Entry) → drop k (bytes_of_each es) ≡ bytes_of_each (drop k es)
drop_bytes zero es = refl
drop_bytes (suc k) [] = refl
drop_bytes (suc k) (e ∷ es) = drop_bytes k es

all_stand : {es : List Entry} → AllNamed es → Entries (bytes_of_each es)
all_stand none = split.none
all_stand (one {e = e} n d) =
    split.one {e = entry_bytes e} (rw (length_entry e) (stands_entry e n)) (omega (arith, length_entry e)) (all_stand d)

decoded_each_law : {es : List Entry} → AllNamed es → decoded_each (bytes_of_each es) ≡ es
decoded_each_law none = refl
decoded_each_law (one {e = e} n d) = rw (decoded_bytes e n, decoded_each_law d)

pub record EachDecoded (xs : List (List ℕ)) : Type 0 where
  pub bytes : bytes_of_each (decoded_each xs) ≡ xs
  pub named : AllNamed (decoded_each xs)

each_decoded : {xs : List (List ℕ)} → Entries xs → EachDecoded xs
each_decoded split.none = record { bytes = refl; named = none }
each_decoded (split.one {e = x} r h d) =
    let y = decode x r h in
    let z = each_decoded d in
    record { bytes = rw (← y.bytes, z.bytes); named = one y.kind z.named }

-- ---- what begins with an entry

pub begins_len : {s : List ℕ} {e : Entry} → Begins s e → len_here s ≡ entry_len e
begins_len {s} {e} b = rw b.whole (stands (further (entry_bytes e) b.rest (stands_entry e b.kind) (omega arith)))

pub len_begins : (s : List ℕ) → 0 < len_here s → Begins s (decoded (take (len_here s) s))
len_begins s h =
    let n = len_here s in
    let r = found s n refl h in
    let l : length (take n s) ≡ n = length-take-le n s (shape r h).inside in
    let y = decode (take n s) (rw l (first_of r h)) (rw l h) in
    record { rest = drop n s; whole = sym (take-append-drop n s) ∙ ap (λ (l : List ℕ). l ++ drop n s) y.bytes; kind = y.kind }

pub none_begins : (s : List ℕ) → len_here s ≡ 0 → (e : Entry) → Begins s e → ⊥
none_begins s h e b = let x = begins_len b in omega arith

pub ends_len : (s : List ℕ) → ((e : Entry) → Begins s e → ⊥) → len_here s ≡ 0
ends_len s f = go (len_here s) refl
  where
    go : (n : ℕ) → len_here s ≡ n → len_here s ≡ 0
    go zero q = q
    go (suc n) q = absurd (f (decoded (take (len_here s) s)) (len_begins s (omega arith)))

-- ---- what an image holds

pub split_of : {s : List ℕ} {es : List Entry} {rest : List ℕ} → Holds s es rest → Split s (bytes_of_each es) rest
split_of {es = es} h = record { whole = rw (flat_bytes es) h.whole; each = all_stand h.each }

pub entries_of_law : {s : List ℕ} {es : List Entry} {rest : List ℕ} → Holds s es rest → entries s ≡ bytes_of_each es
entries_of_law h = found_of (split_of h) (ends_len _ h.ends)

pub end_is : {s : List ℕ} {es : List Entry} {rest : List ℕ} → Holds s es rest → end_of s ≡ length (entries_bytes es)
end_is {es = es} h = rw (← flat_bytes es) (end_of_law (split_of h) (ends_len _ h.ends))

pub rest_is : {s : List ℕ} {es : List Entry} {rest : List ℕ} → Holds s es rest → drop (length (entries_bytes es)) s ≡ rest
rest_is {es = es} {rest = rest} h = rw h.whole (drop-append_seam (entries_bytes es) rest)

-- every image does
pub some_holds : (s : List ℕ) → SomeHolds s
some_holds s =
    let x = splits s in
    let y = each_decoded x.split.each in
    record {
      found = decoded_each (entries s);
      rest = x.tail;
      holds = record { whole = rw (← flat_bytes (decoded_each (entries s)), y.bytes) x.split.whole; each = y.named; ends = none_begins x.tail x.ends };
    }

-- in one way
pub only_entries : {s : List ℕ} {es fs : List Entry} {rest tail : List ℕ} → Holds s es rest → Holds s fs tail → es ≡ fs
only_entries h g = sym (decoded_each_law h.each) ∙ rw (sym (entries_of_law h) ∙ entries_of_law g) (decoded_each_law g.each)

pub only_rest : {s : List ℕ} {es fs : List Entry} {rest tail : List ℕ} → Holds s es rest → Holds s fs tail → rest ≡ tail
only_rest {s} h g = sym (rest_is h) ∙ rw (only_entries h g) (rest_is g)
