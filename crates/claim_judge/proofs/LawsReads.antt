-- Wherever a reader that meets demand 3 reports a field list, the judge says yes to its places.
use Rattle.std.specs.Prelude.{◌≡◌, true, List, ℕ}
use Rattle.read_packet.specs.Meant.{Input}
use Rattle.read_packet.specs.declared.Read.{Read}
use Rattle.claim_demand.specs.Meant.{HasLists, Demand3}
use Rattle.claim_one_cut.specs.MeantCut.{fields_of}
use Rattle.claim_one_cut.specs.MeantReport.{HasCut}
use Rattle.judge.specs.Meant.{offsets_from, wire_lengths_of}
use Rattle.judge.specs.Model.{is_cut}
use Rattle.claim_judge.proofs.LawsCuts.{cut_passes}

-- so wherever a reader that meets demand 3 reports a field list, the places of that packet's fields pass
pub read_passes : (i : Input) (r : Read) {o n : List ℕ} → Demand3 i r o n → HasLists r
    → (c : HasCut i)
    × (is_cut i.packet i.header_size i.version (offsets_from i.header_size (fields_of c.items)) (wire_lengths_of (fields_of c.items))
    ≡ true)
read_passes i r d h =
    let c = d.reports_exactly.0 h in
    (c, cut_passes i c.items c.rest c.within.packet c.within.header_size c.cut)
