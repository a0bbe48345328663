-- The number of a row is the number that its answer tells.
use Rattle.std.specs.Prelude.{◌≡◌, refl, Option, Some, None, Result, Ok, Err}
use Rattle.base_answers.specs.declared.Refusal.{Refusal}
use Rattle.journal.specs.Meant.{found_told, start_told, store_told, entry_told}
use Rattle.journal.specs.declared.Found.{Found}
use Rattle.journal.specs.declared.Start.{Start}
use Rattle.journal.specs.declared.Store.{Store}
use Rattle.journal.specs.declared.EntryRead.{EntryRead}
use Rattle.host_journal.specs.Meant.{found_row, start_row, store_row, entry_row}

pub found_number : (f : Result Found Refusal) → (found_row f).number ≡ (found_told f).number
found_number (Ok x) = refl
found_number (Err r) = refl

pub start_number : (s : Result Start Refusal) → (start_row s).number ≡ (start_told s).number
start_number (Ok x) = refl
start_number (Err r) = refl

pub store_number : (s : Option Store) → (store_row s).number ≡ (store_told s).number
store_number (Some x) = refl
store_number None = refl

pub entry_number : (e : Option EntryRead) → (entry_row e).number ≡ (entry_told e).number
entry_number (Some x) = refl
entry_number None = refl
