-- `claim_demand::deserialize` meets demand 3: what slices and tables are, and the reader's promise.
use native.Mathlib.Omega.{arith}
use Rattle.read_opening.specs.Meant.{lent_of}
use Rattle.read_packet.specs.Meant.{Input, input_of}
use Rattle.claim_one_cut.proofs.LawsSlices.{bytes_small}
use Rattle.claim_demand.proofs.Laws.{demand3}
use Rattle.claim_one_cut.specs.ModelReport.{Lendable}
use Rattle.claim_demand.proofs.deserialize.Goals as goal

pub returns : goal.returns
returns c =
    let i : Input =
    input_of c.args.packet.now c.args.header_size c.args.version
    (lent_of c.args.verdicts.now c.args.starts.now c.args.lens.now c.args.plain.now) in
    let lendable : Lendable i =
    record {
      packet = bytes_small c.args.packet.now (λ k. omega (arith, c.type_inv.packet k));
      plain = bytes_small c.args.plain.now (λ k. omega (arith, c.type_inv.plain k));
      size = omega arith;
    } in
    demand3 i lendable c.args.outer.now c.args.inner.now c.sized.ensures c.sized-2.ensures
    c.deserialize.result c.deserialize.ensures
