-- What the functions of the journal return, step by step as the code goes.
use Rattle.std.specs.Prelude.{not, List, [], ◌∷◌, ◌++◌, ℕ, zero, suc, ◌+◌, ◌-◌, ◌*◌, ltb, eqb, length, take, drop, get_or, Option, Some, None, Result, Ok, Err}
use Rattle.base_answers.specs.Meant.{pick, ◌⇒◌, first_of}
use Rattle.base_answers.specs.declared.Refusal.{Refusal}
use Rattle.base_answers.specs.declared.Refusal.TheVariants.{PacketTooLong, NoRoom, CannotBeMade}
use Rattle.journal.specs.Meant.{longest_image, end_byte, is_named, torn_len_of, append_store, recovery_store, performed, found_at, start_at, entry_read, Left, left}
use Rattle.journal.specs.declared.Found.{Found}
use Rattle.journal.specs.declared.Start.{Start}
use Rattle.journal.specs.declared.EntryRead.{EntryRead}

-- two bytes, the low one first
abbrev pub le16 : List ℕ → ℕ → ℕ
le16 s i = get_or s i 0 + 256 * get_or s (suc i) 0

-- the length of a whole entry of a kind; 0: the kind is not named
unfoldable pub whole_len : ℕ → ℕ
whole_len kind = pick (eqb kind 1) 9 (pick (eqb kind 2) 53 0)

-- `n` if the length is `n` and the end byte stands; otherwise 0
unfoldable pub standing : List ℕ → ℕ → ℕ
standing s n = pick (eqb (le16 s 0) n) (pick (eqb (get_or s (n - 1) 0) end_byte) n 0) 0

-- the length of the entry that s begins with; 0: none
unfoldable pub len_here : List ℕ → ℕ
len_here s = standing s (whole_len (le16 s 2))

-- a length as an answer: none where it is 0
abbrev pub unless_zero : ℕ → Option ℕ
unless_zero zero = None
unless_zero (suc n) = Some (suc n)

-- the bytes of each entry that s begins with
unfoldable pub entries_from : ℕ → List ℕ → List (List ℕ)
entries_from zero s = []
entries_from (suc fuel) s = pick (eqb (len_here s) 0) [] (take (len_here s) s ∷ entries_from fuel (drop (len_here s) s))

unfoldable pub entries : List ℕ → List (List ℕ)
entries s = entries_from (length s) s

abbrev pub flat : List (List ℕ) → List ℕ
flat [] = []
flat (e ∷ es) = e ++ flat es

-- where the last entry ends
unfoldable pub end_of : List ℕ → ℕ
end_of s = length (flat (entries s))

unfoldable pub found_in : List ℕ → Result Found Refusal
found_in s =
    first_of
    (ltb longest_image (length s) ⇒ Err PacketTooLong ∷ [])
    (Ok (found_at (length (entries s)) (end_of s) (torn_len_of (drop (end_of s) s))))

-- the first of some entries, which stands at `offset`
abbrev pub first_entry : List (List ℕ) → ℕ → Option EntryRead
first_entry [] offset = None
first_entry (e ∷ es) offset = Some (entry_read (le16 e 2) offset (length e - 5))

unfoldable pub entry_in : List ℕ → ℕ → Option EntryRead
entry_in s k = first_entry (drop k (entries s)) (length (flat (take k (entries s))))

abbrev pub first_body : List (List ℕ) → List ℕ
first_body [] = []
first_body (e ∷ es) = take (length e - 5) (drop 4 e)

unfoldable pub body_in : List ℕ → ℕ → List ℕ
body_in s k = first_body (drop k (entries s))

unfoldable pub start_in : List ℕ → ℕ → List ℕ → Result Start Refusal
start_in s kind body =
    first_of
    (ltb longest_image (length s) ⇒ Err PacketTooLong
    ∷ not (is_named kind (length body)) ⇒ Err CannotBeMade
    ∷ ltb (length s - end_of s) (length body + 5) ⇒ Err NoRoom
    ∷ [])
    (Ok (start_at (end_of s) (length body + 5)))

-- which byte of an entry of n bytes its k-th store is
unfoldable pub place_of : ℕ → ℕ → ℕ
place_of k n = pick (ltb (k + 2) n) (k + 2) (n - 1 - k)

-- a refusal leaves the image as it was
abbrev pub append_to : List ℕ → ℕ → List ℕ → Result Start Refusal → Left (Result Start Refusal)
append_to s kind body (Ok x) = left (Ok x) (performed x.store_count (append_store x.entry_offset kind body) s)
append_to s kind body (Err r) = left (Err r) s

unfoldable pub append_in : List ℕ → ℕ → List ℕ → Left (Result Start Refusal)
append_in s kind body = append_to s kind body (start_in s kind body)

abbrev pub recover_to : List ℕ → Result Found Refusal → Left (Result Found Refusal)
recover_to s (Ok x) = left (Ok x) (performed x.torn_len (recovery_store x.next_offset x.torn_len) s)
recover_to s (Err r) = left (Err r) s

unfoldable pub recover_in : List ℕ → Left (Result Found Refusal)
recover_in s = recover_to s (found_in s)
