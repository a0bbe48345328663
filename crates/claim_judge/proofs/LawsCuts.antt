-- The places of every cut of demand 3 pass: of plain fields, of sealed fields that were not opened, and of opened ones.
use Rattle.std.specs.Prelude.{◌≡◌, true, List, ℕ, ◌≤◌, length}
use Rattle.base_sizes.specs.Meant.{most_bytes}
use Rattle.read_packet.specs.Meant.{Input}
use Rattle.claim_one_cut.specs.MeantCut.{Item, fields_of, Cut}
use Rattle.judge.specs.Meant.{offsets_from, wire_lengths_of}
use Rattle.judge.specs.Model.{is_cut}
use Rattle.judge.proofs.LawsExactly.{some_list}

pub cut_passes : (i : Input) (items : List Item) (rest : List ℕ) → length i.packet ≤ most_bytes → i.header_size ≤ length i.packet
    → Cut i items rest
    → is_cut i.packet i.header_size i.version (offsets_from i.header_size (fields_of items)) (wire_lengths_of (fields_of items)) ≡ true
cut_passes i items rest short inside c =
    some_list i.packet i.header_size i.version (fields_of items) rest short inside
    (record { begins = c.led.begins; over = c.over })
