-- The same as a recursion on the items, for proofs.
use Rattle.std.specs.Prelude.{◌≡◌, refl, List, [], ◌∷◌, ◌++◌, ℕ, zero, suc, ◌+◌, ◌≤◌, ◌<◌, length, drop}
use Rattle.std.proofs.Common.{ap, subst, arith}
use Rattle.read_packet.specs.Meant.{Input}
use Rattle.layout.specs.Meant.{cutoff_of, Shaped}
use Rattle.claim_one_cut.specs.MeantCut.{Item, plain, shut, opened, field_of, fields_of, item_bytes, seals_in, Holds, Led, Ready, Supplied}
use Rattle.layout.proofs.Laws.{Along, along, each_of}

-- the number of the sealed field that comes next after an item, and after items
abbrev pub next : ℕ → Item → ℕ
next k (plain f) = k
next k (shut f) = k + 1
next k (opened f fs) = k + 1

abbrev pub seal_number : ℕ → List Item → ℕ
seal_number k [] = k
seal_number k (x ∷ xs) = seal_number (next k x) xs

pub number_is : (k : ℕ) (xs : List Item) → seal_number k xs ≡ k + seals_in xs
number_is k [] = omega arith
number_is k (plain f ∷ xs) = number_is k xs
number_is k (shut f ∷ xs) = omega (arith, number_is (k + 1) xs)
number_is k (opened f fs ∷ xs) = omega (arith, number_is (k + 1) xs)

pub numbered : (xs : List Item) → seal_number 0 xs ≡ seals_in xs
numbered xs = omega (arith, number_is 0 xs)

-- items from sealed number k on, with a rest after them
abbrev pub Laid : Input → ℕ → List Item → List ℕ → Type 0
Laid i k [] rest = Unit {0}
Laid i k (x ∷ xs) rest =
    cutoff_of i.version < length (item_bytes (x ∷ xs) ++ rest)
    × Shaped i.version (field_of x)
    × Holds i k x
    × Laid i (next k x) xs rest

pub laid_after : (i : Input) (k : ℕ) (ys xs : List Item) (rest : List ℕ) → Laid i k (ys ++ xs) rest → Laid i (seal_number k ys) xs rest
laid_after i k [] xs rest h = h
laid_after i k (y ∷ ys) xs rest h = laid_after i (next k y) ys xs rest h.3

each_laid : (i : Input) (k : ℕ) (items : List Item) (rest : List ℕ) → Along i.version (cutoff_of i.version) (fields_of items) rest
    → ((ys : List Item) (x : Item) (xs : List Item) → items ≡ ys ++ (x ∷ xs) → Holds i (seal_number k ys) x)
    → Laid i k items rest
each_laid i k [] rest a h = tt
each_laid i k (x ∷ xs) rest a h = (
  a.0.more,
  a.0.shaped,
  h [] x xs refl,
  each_laid i (next k x) xs rest a.1 (λ ys y zs q. h (x ∷ ys) y zs (ap (λ (l : List Item). x ∷ l) q)),
)

pub laid : (i : Input) (items : List Item) (rest : List ℕ) → Led i items rest → Laid i 0 items rest
laid i items rest c =
    each_laid i 0 items rest (along i.version (cutoff_of i.version) (fields_of items) rest c.begins.each)
    (λ ys x xs q. rw numbered (c.each ys x xs q))

laid_along : (i : Input) (k : ℕ) (items : List Item) (rest : List ℕ) → Laid i k items rest
    → Along i.version (cutoff_of i.version) (fields_of items) rest
laid_along i k [] rest h = tt
laid_along i k (x ∷ xs) rest h = (record { more = h.0; shaped = h.1 }, laid_along i (next k x) xs rest h.3)

pub led : (i : Input) (items : List Item) (rest : List ℕ) → drop i.header_size i.packet ≡ item_bytes items ++ rest → Laid i 0 items rest
    → Led i items rest
led i items rest w h = record {
  begins = record {
    whole = w;
    each = each_of i.version (cutoff_of i.version) (fields_of items) rest (laid_along i 0 items rest h);
  };
  each = go;
}
  where
    go : (ys : List Item) (x : Item) (xs : List Item) → items ≡ ys ++ (x ∷ xs) → Holds i (seals_in ys) x
    go ys x xs q =
        let l : Laid i (seal_number 0 ys) (x ∷ xs) rest =
        laid_after i 0 ys (x ∷ xs) rest (subst (λ (z : List Item). Laid i 0 z rest) q h) in
        rw (← numbered ys) l.2

-- results, item by item
abbrev pub ReadyFor : Input → ℕ → Item → Type 0
ReadyFor i k (plain f) = Unit {0}
ReadyFor i k (shut f) = Ready i k
ReadyFor i k (opened f fs) = Ready i k

abbrev pub Readied : Input → ℕ → List Item → Type 0
Readied i k [] = Unit {0}
Readied i k (x ∷ xs) = ReadyFor i k x × Readied i (next k x) xs

readied : (i : Input) (k : ℕ) (xs : List Item) → ((j : ℕ) → k ≤ j → j < k + seals_in xs → Ready i j) → Readied i k xs
readied i k [] h = tt
readied i k (plain f ∷ xs) h = (tt, readied i k xs h)
readied i k (shut f ∷ xs) h =
    (h k (omega arith) (omega arith), readied i (k + 1) xs (λ j a b. h j (omega arith) (omega arith)))
readied i k (opened f fs ∷ xs) h =
    (h k (omega arith) (omega arith), readied i (k + 1) xs (λ j a b. h j (omega arith) (omega arith)))

pub supply : (i : Input) (xs : List Item) → Supplied i xs → Readied i 0 xs
supply i xs h = readied i 0 xs (λ j a b. h j (omega arith))

supplied_from : (i : Input) (k : ℕ) (xs : List Item) → Readied i k xs → (j : ℕ) → j < seals_in xs → Ready i (k + j)
supplied_from i k [] h j l = absurd (omega arith)
supplied_from i k (plain f ∷ xs) h j l = supplied_from i k xs h.1 j l
supplied_from i k (shut f ∷ xs) h zero l = subst (λ (z : ℕ). Ready i z) (omega arith) h.0
supplied_from i k (shut f ∷ xs) h (suc j) l =
    subst (λ (z : ℕ). Ready i z) (omega arith) (supplied_from i (k + 1) xs h.1 j (omega arith))
supplied_from i k (opened f fs ∷ xs) h zero l = subst (λ (z : ℕ). Ready i z) (omega arith) h.0
supplied_from i k (opened f fs ∷ xs) h (suc j) l =
    subst (λ (z : ℕ). Ready i z) (omega arith) (supplied_from i (k + 1) xs h.1 j (omega arith))

pub supplied : (i : Input) (xs : List Item) → Readied i 0 xs → Supplied i xs
supplied i xs h j l = subst (λ (z : ℕ). Ready i z) (omega arith) (supplied_from i 0 xs h j l)
