-- What crosses to the host of a journal: each answer as a row of numbers, 0 first or the number of a refusal; 18 where there is no
-- such store or entry. What does not come with a number is 0.
use Rattle.std.specs.Prelude.{◌+◌, Option, Some, None, Result, Ok, Err}
use Rattle.base_answers.specs.Meant.{number_of}
use Rattle.base_answers.specs.declared.Refusal.{Refusal}
use Rattle.base_answers.specs.declared.Refusal.TheVariants.{CannotBeMade}
use Rattle.journal.specs.Meant.{Left}
use Rattle.journal.specs.declared.Found.{Found}
use Rattle.journal.specs.declared.Start.{Start}
use Rattle.journal.specs.declared.Store.{Store}
use Rattle.journal.specs.declared.EntryRead.{EntryRead}
use Rattle.host.specs.Meant.{Across, leaving}
use Rattle.host_journal.specs.declared.NtpJournalFound.{NtpJournalFound}
use Rattle.host_journal.specs.declared.NtpJournalStart.{NtpJournalStart}
use Rattle.host_journal.specs.declared.NtpJournalStore.{NtpJournalStore}
use Rattle.host_journal.specs.declared.NtpJournalEntry.{NtpJournalEntry}

abbrev pub found_row : Result Found Refusal → NtpJournalFound
found_row (Ok x) = record { number = 0; entry_count = x.entry_count; next_offset = x.next_offset; torn_len = x.torn_len }
found_row (Err r) = record { number = number_of r; entry_count = 0; next_offset = 0; torn_len = 0 }

abbrev pub start_row : Result Start Refusal → NtpJournalStart
start_row (Ok x) = record { number = 0; entry_offset = x.entry_offset; store_count = x.store_count }
start_row (Err r) = record { number = number_of r; entry_offset = 0; store_count = 0 }

abbrev pub store_row : Option Store → NtpJournalStore
store_row (Some x) = record { number = 0; offset = x.offset; byte = x.byte }
store_row None = record { number = number_of CannotBeMade; offset = 0; byte = 0 }

-- a body follows the two bytes of the length and the two of the kind
abbrev pub entry_row : Option EntryRead → NtpJournalEntry
entry_row (Some x) = record { number = 0; kind = x.kind; entry_offset = x.entry_offset; body_offset = x.entry_offset + 4; body_len = x.body_len }
entry_row None = record { number = number_of CannotBeMade; kind = 0; entry_offset = 0; body_offset = 0; body_len = 0 }

-- an answer's row, and the image as it is afterwards
abbrev pub of_recovery : Left (Result Found Refusal) → Across NtpJournalFound
of_recovery l = leaving (found_row l.answer) l.image

abbrev pub of_append : Left (Result Start Refusal) → Across NtpJournalStart
of_append l = leaving (start_row l.answer) l.image
