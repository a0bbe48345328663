-- Wrong programs, refuted by what the functions promise: none of them returns what is promised.
use Rattle.std.specs.Prelude.{◌≡◌, List, [], ◌∷◌, ℕ, replicate, get_or, Option, Some, None, Result, Ok, Err}
use Rattle.std.proofs.Common.{ap, arith}
use Rattle.base_answers.specs.declared.Refusal.{Refusal}
use Rattle.journal.specs.Meant.{store_at, found_at, start_at, torn_len_of, append_plan, append_store, recovery_store}
use Rattle.journal.specs.Model.{whole_len, standing, len_here, entries_from, entries, end_of, found_in, start_in, recover_in}
use Rattle.journal.specs.declared.Found.{Found}
use Rattle.journal.specs.declared.Start.{Start}
use Rattle.journal.specs.declared.Store.{Store}
use Rattle.claim_journal.specs.MeantWorked.{a_read}

abbrev place : Option Store → ℕ
place (Some x) = x.offset
place None = 0xFFFF

abbrev value : Option Store → ℕ
value (Some x) = x.byte
value None = 0x100

abbrev count : Result Found Refusal → ℕ
count (Ok x) = x.entry_count
count (Err r) = 0xFFFF

abbrev start : Result Start Refusal → ℕ
start (Ok x) = x.entry_offset
start (Err r) = 0xFFFF

-- two numbers that differ
differ : {A : Type 0} {x y : A} (f : A → ℕ) → (f x ≡ f y → ⊥) → x ≡ y → ⊥
differ f n e = n (ap f e)

-- ---- the order of the stores, which recovery can't see

-- the low byte of the length before the high one: store 7 of a read goes to byte 1, not to byte 0
pub low_before_high : append_store 0 1 a_read 7 ≡ Some (store_at 0 9) → ⊥
unfolding append_store append_plan
low_before_high = differ place (λ e. omega arith)

-- the length first
pub length_first : append_store 0 1 a_read 0 ≡ Some (store_at 1 0) → ⊥
unfolding append_store append_plan
length_first = differ place (λ e. omega arith)

-- the end byte first
pub end_first : append_store 0 1 a_read 0 ≡ Some (store_at 8 0xA5) → ⊥
unfolding append_store append_plan
end_first = differ place (λ e. omega arith)

-- the length of the body in place of the whole
pub length_of_the_body : append_store 0 1 a_read 8 ≡ Some (store_at 0 4) → ⊥
unfolding append_store append_plan
length_of_the_body = differ value (λ e. omega arith)

-- erasing forward: the last byte goes first
pub erasing_forward : recovery_store 0 2 0 ≡ Some (store_at 0 0xFF) → ⊥
unfolding recovery_store
erasing_forward = differ place (λ e. omega arith)

-- ---- what counts as an entry

abbrev ending : ℕ → ℕ → ℕ → List ℕ
ending len kind last = len ∷ 0 ∷ kind ∷ 0 ∷ 0 ∷ 0 ∷ 0 ∷ 0 ∷ last ∷ []

-- the end byte is not looked at
pub end_not_checked : found_in (ending 9 1 0) ≡ Ok (found_at 1 9 0) → ⊥
unfolding found_in entries end_of entries_from len_here standing whole_len torn_len_of
end_not_checked = differ count (λ e. omega arith)

-- the kind is not looked at
pub kind_not_checked : found_in (ending 9 3 0xA5) ≡ Ok (found_at 1 9 0) → ⊥
unfolding found_in entries end_of entries_from len_here standing whole_len torn_len_of
kind_not_checked = differ count (λ e. omega arith)

-- the length is that of the body
pub body_length_counted : found_in (ending 4 1 0xA5) ≡ Ok (found_at 1 9 0) → ⊥
unfolding found_in entries end_of entries_from len_here standing whole_len torn_len_of
body_length_counted = differ count (λ e. omega arith)

-- an entry whose length is not whole yet
pub torn_counted : found_in (ending 0xFF 1 0xA5) ≡ Ok (found_at 1 9 0) → ⊥
unfolding found_in entries end_of entries_from len_here standing whole_len torn_len_of
torn_counted = differ count (λ e. omega arith)

-- ---- where an append goes, and what a recovery erases

-- to the image's end, in place of the last entry's
pub append_at_the_end : start_in (replicate 18 0xFF) 1 a_read ≡ Ok (start_at 9 9) → ⊥
unfolding start_in entries end_of entries_from len_here standing whole_len torn_len_of
append_at_the_end = differ start (λ e. omega arith)

abbrev torn_image : List ℕ
torn_image = 0xFF ∷ 0 ∷ 1 ∷ 0xFF ∷ []

-- a recovery that erases nothing
pub erases_nothing : (recover_in torn_image).image ≡ torn_image → ⊥
unfolding recover_in found_in recovery_store entries end_of entries_from len_here standing whole_len torn_len_of
erases_nothing = differ (λ (s : List ℕ). get_or s 1 0) (λ e. omega arith)

-- one that leaves the last byte of the torn tail, the byte before it, or the first
pub one_byte_short : (recover_in torn_image).image ≡ 0xFF ∷ 0xFF ∷ 1 ∷ 0xFF ∷ [] → ⊥
unfolding recover_in found_in recovery_store entries end_of entries_from len_here standing whole_len torn_len_of
one_byte_short = differ (λ (s : List ℕ). get_or s 2 0) (λ e. omega arith)

pub second_byte_left : (recover_in torn_image).image ≡ 0xFF ∷ 0 ∷ 0xFF ∷ 0xFF ∷ [] → ⊥
unfolding recover_in found_in recovery_store entries end_of entries_from len_here standing whole_len torn_len_of
second_byte_left = differ (λ (s : List ℕ). get_or s 1 0) (λ e. omega arith)

abbrev torn_from_the_first : List ℕ
torn_from_the_first = 0 ∷ 1 ∷ 0xFF ∷ []

pub first_byte_left : (recover_in torn_from_the_first).image ≡ 0 ∷ 0xFF ∷ 0xFF ∷ [] → ⊥
unfolding recover_in found_in recovery_store entries end_of entries_from len_here standing whole_len torn_len_of
first_byte_left = differ (λ (s : List ℕ). get_or s 0 1) (λ e. omega arith)
