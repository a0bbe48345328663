-- What each function answers, by the entries that the image holds.
use Rattle.std.specs.Prelude.{◌≡◌, refl, not, List, [], ◌∷◌, ◌++◌, ℕ, zero, suc, ◌+◌, ◌-◌, ◌≤◌, ◌<◌, ltb, take, Some, None, Ok, Err}
use Rattle.std.proofs.Common.{sym, ◌∙◌, append_assoc, arith, lt-ltb, le-ltb, length-append}
use Rattle.std.proofs.Math.Path.{ap}
use Rattle.std.proofs.Math.ListN.{length, drop}
use Rattle.std.proofs.Math.Seq.{drop-append_seam}
use Rattle.base_answers.specs.Meant.{◌⇒◌, first_of}
use Rattle.base_answers.specs.declared.Refusal.TheVariants.{PacketTooLong, NoRoom, CannotBeMade}
use Rattle.journal.specs.Meant.{found_at, start_at, entry_read, Entry, is_named, Named, entry_bytes, entries_bytes, AllNamed, none, one, Holds, torn_len_of}
use Rattle.journal.specs.Model.{le16, entries, flat, end_of, found_in, entry_in, body_in, start_in}
use Rattle.journal.specs.LawsPlans.{length_entry}
use Rattle.journal.specs.LawsAnswers.{found_long, found_all}
use Rattle.journal.specs.LawsBody.{place_of}
use Rattle.claim_journal.proofs.LawsHolds.{decoded_bytes, bytes_of_each, flat_bytes, length_bytes, take_bytes, drop_bytes, entries_of_law, end_is, rest_is}

-- a longer image is refused with 7, whatever is asked
pub long_find : (s : List ℕ) → 32768 < length s → found_in s ≡ Err PacketTooLong
long_find s h = sym (found_long s h)

pub long_start : (s : List ℕ) (kind : ℕ) (body : List ℕ) → 32768 < length s → start_in s kind body ≡ Err PacketTooLong
unfolding start_in
long_start s kind body h = rw (lt-ltb _ _ h)

named_at : (k : ℕ) {es later : List Entry} {e : Entry} → AllNamed es → drop k es ≡ e ∷ later → Named e
named_at zero none h = absurd (let w : ◌≡◌ {A = ℕ} 0 1 = cc in omega arith)
named_at zero {e = e} (one {e = x} n d) h = let q : x ≡ e = cc in rw (← q) n
named_at (suc k) none h = absurd (let w : ◌≡◌ {A = ℕ} 0 1 = cc in omega arith)
named_at (suc k) (one n d) h = named_at k d h

named_drop : (k : ℕ) {es : List Entry} → AllNamed es → AllNamed (drop k es)
named_drop zero d = d
named_drop (suc k) none = none
named_drop (suc k) (one n d) = named_drop k d

entries_split : (k : ℕ) (es : List Entry) → entries_bytes es ≡ entries_bytes (take k es) ++ entries_bytes (drop k es)
entries_split zero es = refl
entries_split (suc k) [] = refl
entries_split (suc k) (e ∷ es) =
    ap (λ (l : List ℕ). entry_bytes e ++ l) (entries_split k es) ∙
    sym (append_assoc (entry_bytes e) (entries_bytes (take k es)) (entries_bytes (drop k es)))

module _ {s : List ℕ} {es : List Entry} {rest : List ℕ} (h : Holds s es rest) where
  -- The search tells how many entries there are, where they end, and how long the torn tail is.
  pub find_is : length s ≤ 32768 → found_in s ≡ Ok (found_at (length es) (length (entries_bytes es)) (torn_len_of rest))
  find_is l = sym (found_all s l (sym (ap length (entries_of_law h) ∙ length_bytes es)) (sym (end_is h)) (rw (rest_is h)))

  room : length s - end_of s ≡ length rest
  room =
      let l : length s ≡ length (entries_bytes es) + length rest = ap length h.whole ∙ length-append (entries_bytes es) rest in
      omega (arith, end_is h)

  -- An append is refused with 18, then with 16; otherwise it goes after the last entry.
  pub start_is : (kind : ℕ) (body : List ℕ) → length s ≤ 32768
      → start_in s kind body ≡
      first_of
      (not (is_named kind (length body)) ⇒ Err CannotBeMade
      ∷ ltb (length rest) (length body + 5) ⇒ Err NoRoom
      ∷ [])
      (Ok (start_at (length (entries_bytes es)) (length body + 5)))
  unfolding start_in
  start_is kind body l = rw (le-ltb _ _ l, room, end_is h)

  -- Entry number k is the k-th, with its kind, its place and its body.
  pub entry_is : (k : ℕ) {e : Entry} {later : List Entry} → drop k es ≡ e ∷ later
      → entry_in s k ≡ Some (entry_read e.kind (length (entries_bytes (take k es))) (length e.body))
  unfolding entry_in
  entry_is k {e} {later} q =
      let d : drop k (entries s) ≡ entry_bytes e ∷ bytes_of_each later = rw (entries_of_law h) (drop_bytes k es ∙ ap bytes_of_each q) in
      let t : flat (take k (entries s)) ≡ entries_bytes (take k es) =
      rw (entries_of_law h) (ap flat (take_bytes k es) ∙ flat_bytes (take k es)) in
      let n = named_at k h.each q in
      let kind : le16 (entry_bytes e) 2 ≡ e.kind = ap (λ (x : Entry). x.kind) (decoded_bytes e n) in
      let len : length (entry_bytes e) - 5 ≡ length e.body = omega (arith, length_entry e) in
      rw (d, t, kind, len)

  pub body_is : (k : ℕ) {e : Entry} {later : List Entry} → drop k es ≡ e ∷ later → body_in s k ≡ e.body
  unfolding body_in
  body_is k {e} {later} q =
      let d : drop k (entries s) ≡ entry_bytes e ∷ bytes_of_each later = rw (entries_of_law h) (drop_bytes k es ∙ ap bytes_of_each q) in
      rw d (ap (λ (x : Entry). x.body) (decoded_bytes e (named_at k h.each q)))

  -- Past the last there is none.
  none_after : (k : ℕ) → length es ≤ k → drop k (entries s) ≡ []
  none_after k g = rw (entries_of_law h) (drop_bytes k es ∙ ap bytes_of_each (past k es g))
    where
      past : (k : ℕ) (xs : List Entry) → length xs ≤ k → drop k xs ≡ []
      past zero [] g = refl
      past (suc k) [] g = refl
      past zero (x ∷ xs) g = absurd (omega arith)
      past (suc k) (x ∷ xs) g = past k xs (omega arith)

  pub no_entry : (k : ℕ) → length es ≤ k → entry_in s k ≡ None
  unfolding entry_in
  no_entry k g = rw (none_after k g)

  pub no_body : (k : ℕ) → length es ≤ k → body_in s k ≡ []
  unfolding body_in
  no_body k g = rw (none_after k g)

  -- The body stands in the image where a host is said to find it: after length and kind.
  pub body_at : (k : ℕ) {e : Entry} {later : List Entry} → drop k es ≡ e ∷ later
      → take (length e.body) (drop (length (entries_bytes (take k es)) + 4) s) ≡ e.body
  body_at k q = sym (place_of s k (sym (entry_is k q))).body ∙ body_is k q

  -- What follows the first k entries holds the others: so entry k can be asked for as the first one from there on.
  pub after_entries : (k : ℕ) → Holds (drop (length (entries_bytes (take k es))) s) (drop k es) rest
  after_entries k =
      let split : entries_bytes es ≡ entries_bytes (take k es) ++ entries_bytes (drop k es) = entries_split k es in
      let w : s ≡ entries_bytes (take k es) ++ (entries_bytes (drop k es) ++ rest) =
      h.whole ∙ rw (split, append_assoc (entries_bytes (take k es)) (entries_bytes (drop k es)) rest) in
      let d : drop (length (entries_bytes (take k es))) s ≡ entries_bytes (drop k es) ++ rest =
      ap (drop (length (entries_bytes (take k es)))) w ∙ drop-append_seam (entries_bytes (take k es)) (entries_bytes (drop k es) ++ rest) in
      record { whole = d; each = named_drop k h.each; ends = h.ends }
