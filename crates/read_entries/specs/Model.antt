-- Entries of lent tables. Their form is ours: four numbers of 16 bits, one above the other in a word.
use Rattle.std.specs.Prelude.{Option, Some, None, List, [], ◌∷◌, ℕ, ◌+◌, ◌*◌, ◌/◌, ◌%◌}
use Rattle.read_entries.specs.declared.Unpacked.{Unpacked}

unfoldable pub entry_of : ℕ → ℕ → ℕ → ℕ → ℕ
entry_of a b c d = a + (b + (c + d * 65536) * 65536) * 65536

unfoldable pub unpacked : ℕ → Unpacked
unpacked e = record {
  first = e % 65536;
  second = e / 65536 % 65536;
  third = e / 65536 / 65536 % 65536;
  fourth = e / 65536 / 65536 / 65536;
}

-- entries that were found up to an end, or up to a fault
pub record Found (Fault : Type 0) : Type 0 where
  pub fault : Option Fault
  pub entries : List ℕ

abbrev pub ended : {Fault : Type 0} → Found Fault
ended = record { fault = None; entries = [] }

abbrev pub stopped : {Fault : Type 0} → Fault → Found Fault
stopped f = record { fault = Some f; entries = [] }

abbrev pub then : {Fault : Type 0} → ℕ → Found Fault → Found Fault
then e f = record { fault = f.fault; entries = e ∷ f.entries }
