-- Where the entry of a number lies, and its body in it.
use Rattle.std.proofs.Math.Path.{◌≡◌, refl, ap}
use Rattle.std.proofs.Common.{sym, ◌∙◌, arith}
use mathlib.Core.List.{List, [], ◌∷◌, ◌++◌, append_assoc}
use Rattle.std.specs.Prelude.{ℕ, zero, suc, ◌+◌, ◌-◌, ◌≤◌, Option, Some, None}
use Rattle.std.proofs.Math.ListN.{length, take, drop, length-append, length-drop}
use Rattle.std.proofs.Math.Seq.{drop-append-add, take-append-le, drop-append-le}
use Rattle.journal.specs.Model.{entries, flat, first_entry, entry_in, first_body, body_in}
use Rattle.journal.specs.LawsEntry.{shape}
use Rattle.journal.specs.LawsSplit.{Entries, none, one, splits}
use Rattle.journal.specs.Meant.{entry_read}
use Rattle.journal.specs.declared.EntryRead.{EntryRead}

-- entries before one of them, it, and those after
pub flat_around : (k : ℕ) (es : List (List ℕ)) {e : List ℕ} {later : List (List ℕ)} → drop k es ≡ e ∷ later
    → flat es ≡ flat (take k es) ++ (e ++ flat later)
flat_around zero es h = rw h
flat_around (suc k) [] h = absurd (let w : ◌≡◌ {A = ℕ} 0 1 = cc in omega arith)
flat_around (suc k) (x ∷ es) {e} {later} h = rw (flat_around k es h, append_assoc x (flat (take k es)) (e ++ flat later))

-- each is long enough for its body
pub least : (k : ℕ) {es : List (List ℕ)} {e : List ℕ} {later : List (List ℕ)} → Entries es → drop k es ≡ e ∷ later → 9 ≤ length e
least zero none h = absurd (let w : ◌≡◌ {A = ℕ} 0 1 = cc in omega arith)
least zero {e = e} (one {e = x} r p d) h =
    let q : x ≡ e = cc in
    let l = (shape r p).least in
    rw (← q) l
least (suc k) none h = absurd (let w : ◌≡◌ {A = ℕ} 0 1 = cc in omega arith)
least (suc k) (one r p d) h = least k d h

-- the body's place
pub record Place (s : List ℕ) (k offset bodyLen : ℕ) : Type 0 where
  pub inside : offset + 5 + bodyLen ≤ length s
  pub body : body_in s k ≡ take bodyLen (drop (offset + 4) s)

abbrev offset_in : Option EntryRead → ℕ
offset_in (Some x) = x.entry_offset
offset_in None = 0

abbrev len_in : Option EntryRead → ℕ
len_in (Some x) = x.body_len
len_in None = 0

abbrev is_in : Option EntryRead → ℕ
is_in (Some x) = 1
is_in None = 0

module _ (s : List ℕ) (k : ℕ) where
  pub placed : {e : List ℕ} {later : List (List ℕ)} → drop k (entries s) ≡ e ∷ later
      → Place s k (length (flat (take k (entries s)))) (length e - 5)
  unfolding body_in
  placed {e} {later} h =
      let x = splits s in
      let before = flat (take k (entries s)) in
      let rest = flat later ++ x.tail in
      let w : s ≡ before ++ (e ++ rest) =
      x.split.whole ∙
      rw (flat_around k (entries s) h, append_assoc before (e ++ flat later) x.tail, append_assoc e (flat later) x.tail) in
      let n = least k x.split.each h in
      let l : length s ≡ length before + length (e ++ rest) = ap length w ∙ length-append before (e ++ rest) in
      let m = length-append e rest in
      let d : drop (length before + 4) s ≡ drop 4 (e ++ rest) =
      ap (λ (z : List ℕ). drop (length before + 4) z) w ∙ drop-append-add before (e ++ rest) 4 in
      let q : drop 4 (e ++ rest) ≡ drop 4 e ++ rest = drop-append-le 4 e rest (omega arith) in
      let t : take (length e - 5) (drop 4 e ++ rest) ≡ take (length e - 5) (drop 4 e) =
      take-append-le (length e - 5) (drop 4 e) rest (omega (arith, length-drop 4 e)) in
      record { inside = omega arith; body = rw (h, d, q) (sym t) }

  pub place_of : {kind offset bodyLen : ℕ} → Some (entry_read kind offset bodyLen) ≡ entry_in s k → Place s k offset bodyLen
  unfolding entry_in
  place_of {kind} {offset} {bodyLen} h = go (drop k (entries s)) refl h
    where
      go : (es : List (List ℕ)) → drop k (entries s) ≡ es
          → Some (entry_read kind offset bodyLen) ≡ first_entry es (length (flat (take k (entries s)))) → Place s k offset bodyLen
      go [] q z = absurd (let w : ◌≡◌ {A = ℕ} 1 0 = ap is_in z in omega arith)
      go (e ∷ later) q z = rw (ap offset_in z, ap len_in z) (placed q)

  pub no_body : None ≡ entry_in s k → [] ≡ body_in s k
  unfolding entry_in body_in
  no_body h = go (drop k (entries s)) refl h
    where
      go : (es : List (List ℕ)) → drop k (entries s) ≡ es → None ≡ first_entry es (length (flat (take k (entries s))))
          → [] ≡ first_body (drop k (entries s))
      go [] q z = rw q
      go (e ∷ later) q z = absurd (let w : ◌≡◌ {A = ℕ} 0 1 = ap is_in z in omega arith)
