-- The images that a host reaches from a blank one, by single stores and by whole calls, and the entries whose append was completed.
-- Rules 24 of docs/RULES.md; document 02, request (v).
use Rattle.std.specs.Prelude.{◌≡◌, true, List, [], ◌∷◌, ◌++◌, ℕ, ◌+◌, ◌*◌, ◌≤◌, eqb, length, replicate, get_or, Result, Ok, Err}
use Rattle.base_answers.specs.Meant.{pick}
use Rattle.base_answers.specs.declared.Refusal.{Refusal}
use Rattle.journal.specs.Meant.{longest_image, blank_byte, end_byte, Entry, entry_of, is_named, entries_bytes, Begins, Holds, torn_len_of, append_store, recovery_store, performed, found_at, start_at}
use Rattle.journal.specs.Model.{found_in, start_in, append_in, recover_in}
use Rattle.journal.specs.declared.Found.{Found}
use Rattle.journal.specs.declared.Start.{Start}

-- Whether a host may append. After a cut it has to recover first.
pub data Phase : Type 0 where
  ready : Phase
  cut : Phase

-- after `m` of `n` stores: all are done, or power was lost before the last
abbrev pub after : ℕ → ℕ → Phase
after m n = pick (eqb m n) ready cut

-- its last store makes an entry
abbrev pub made : ℕ → ℕ → Entry → List Entry
made m n e = pick (eqb m n) (e ∷ []) []

-- what a whole append adds, and what a whole recovery leaves: nothing, and the phase as it was, if it is refused
abbrev pub added : Result Start Refusal → Entry → List Entry
added (Ok x) e = e ∷ []
added (Err r) e = []

abbrev pub recovered : Result Found Refusal → Phase → Phase
recovered (Ok x) p = ready
recovered (Err r) p = p

-- Images of `n` bytes, with the entries whose append was completed, in their order.
pub data Reached (n : ℕ) : Phase → List Entry → List ℕ → Type 0 where
  blank : Reached n ready [] (replicate n blank_byte)
  -- the first `m` stores of an append
  append : {es : List Entry} {s : List ℕ} {offset count : ℕ} (e : Entry) (m : ℕ) → Reached n ready es s
      → start_in s e.kind e.body ≡ Ok (start_at offset count) → m ≤ count
      → Reached n (after m count) (es ++ made m count e) (performed m (append_store offset e.kind e.body) s)
  -- the first `m` stores of a recovery
  recovery : {p : Phase} {es : List Entry} {s : List ℕ} {count next torn : ℕ} (m : ℕ) → Reached n p es s
      → found_in s ≡ Ok (found_at count next torn) → m ≤ torn
      → Reached n (after m torn) es (performed m (recovery_store next torn) s)
  -- the whole of either by one call, refused or not
  append_call : {es : List Entry} {s : List ℕ} (e : Entry) → Reached n ready es s
      → Reached n ready (es ++ added (append_in s e.kind e.body).answer e) (append_in s e.kind e.body).image
  recover_call : {p : Phase} {es : List Entry} {s : List ℕ} → Reached n p es s
      → Reached n (recovered (recover_in s).answer p) es (recover_in s).image

-- An image in which exactly these entries are found, and their end is named.
pub record Finds (image : List ℕ) (es : List Entry) : Type 0 where
  pub rest : List ℕ
  pub holds : Holds image es rest
  pub answer : length image ≤ longest_image → found_in image ≡ Ok (found_at (length es) (length (entries_bytes es)) (torn_len_of rest))

-- Bytes that begin with a kind that is named, a length that fits it, and an end byte where this length puts it.
pub record Fits (s : List ℕ) (kind bodyLen : ℕ) : Type 0 where
  pub named : is_named kind bodyLen ≡ true
  pub length_fits : get_or s 0 0 + 256 * get_or s 1 0 ≡ bodyLen + 5
  pub kind_stands : get_or s 2 0 + 256 * get_or s 3 0 ≡ kind
  pub end_stands : get_or s (bodyLen + 4) 0 ≡ end_byte

-- Bytes that begin with an entry of this kind and size.
pub record Counted (s : List ℕ) (kind bodyLen : ℕ) : Type 0 where
  pub body : List ℕ
  pub begins : Begins s (entry_of kind body)
  pub size : length body ≡ bodyLen

-- Some entries and a rest that an image holds.
pub record SomeHolds (s : List ℕ) : Type 0 where
  pub found : List Entry
  pub rest : List ℕ
  pub holds : Holds s found rest
