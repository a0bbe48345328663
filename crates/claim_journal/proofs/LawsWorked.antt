-- Worked images, computed.
use Rattle.std.specs.Prelude.{◌≡◌, refl, [], ◌∷◌, Ok}
use Rattle.std.proofs.Common.{lit≤}
use Rattle.journal.specs.Meant.{store_at, found_at, entry_of, entry_bytes, torn_len_of, append_plan, erase_plan, append_store, recovery_store}
use Rattle.journal.specs.Model.{whole_len, standing, len_here, entries_from, entries, end_of, found_in, start_in, append_in, recover_in}
use Rattle.claim_journal.specs.Meant.{Reached, cut, blank, append}
use Rattle.claim_journal.specs.MeantWorked.{a_read, a_header, torn}

pub entry_of_a_read : entry_bytes (entry_of 1 a_read) ≡ 9 ∷ 0 ∷ 1 ∷ 0 ∷ 0 ∷ 1 ∷ 2 ∷ 3 ∷ 0xA5 ∷ []
entry_of_a_read = refl

-- its nine stores at offset 16: kind, body, end byte, and the length's two bytes, high before low
pub stores_of_a_read : append_plan 16 (entry_of 1 a_read) ≡
    store_at 18 1 ∷ store_at 19 0 ∷ store_at 20 0 ∷ store_at 21 1 ∷ store_at 22 2 ∷ store_at 23 3 ∷ store_at 24 0xA5 ∷ store_at 17 0 ∷ store_at 16 9 ∷ []
unfolding append_plan
stores_of_a_read = refl

-- three bytes from offset 7 on are erased from the last back
pub stores_of_an_erase : erase_plan 7 3 ≡ store_at 9 0xFF ∷ store_at 8 0xFF ∷ store_at 7 0xFF ∷ []
stores_of_an_erase = refl

-- ---- why no append may come between a cut and a recovery

-- it is reached from a blank one
pub torn_reached : Reached 62 cut [] torn
unfolding start_in entries end_of entries_from len_here standing whole_len
torn_reached = append {offset = 0} {count = 53} (entry_of 2 a_header) 52 blank refl (lit≤ tt)

-- no entry is found in it
pub nothing_yet : found_in torn ≡ Ok (found_at 0 0 53)
unfolding found_in append_store append_plan entries end_of entries_from len_here standing whole_len torn_len_of
nothing_yet = refl

-- A read is appended without a recovery: two entries are found then, where one was appended. The second is a part of the torn header.
pub made_up : found_in (append_in torn 1 a_read).image ≡ Ok (found_at 2 18 35)
unfolding found_in append_in start_in append_store append_plan entries end_of entries_from len_here standing whole_len torn_len_of
made_up = refl

-- After a recovery there is one.
pub none_made_up : found_in (append_in (recover_in torn).image 1 a_read).image ≡ Ok (found_at 1 9 0)
unfolding found_in append_in start_in recover_in recovery_store append_store append_plan entries end_of entries_from len_here standing whole_len torn_len_of
none_made_up = refl
