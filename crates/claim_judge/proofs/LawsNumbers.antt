-- More fields than a table has entries: the judge says yes to 129, and no to their first 128.
use Rattle.std.specs.Prelude.{◌≡◌, Bool, true, false}
use Rattle.std.proofs.Common.{arith}
use Rattle.base_version.specs.declared.Version.TheVariants.{V5}
use Rattle.layout.specs.Meant.{joined}
use Rattle.judge.specs.Meant.{offsets_from, wire_lengths_of, TheCut, Says}
use Rattle.claim_judge.proofs.LawsWrong.{seals, many, none_left_out}

-- THE NUMBERS: 129 sealed fields pass, though every survey refuses them with 8; their first 128 do not
pub seals_129_pass : (w : Bool) → Says w (TheCut (joined (seals 129)) 0 V5 (offsets_from 0 (seals 129)) (wire_lengths_of (seals 129))) → w ≡ true
seals_129_pass = many 129 (omega arith)

pub first_128_do_not : (w : Bool) → Says w (TheCut (joined (seals 129)) 0 V5 (offsets_from 0 (seals 128)) (wire_lengths_of (seals 128)))
    → w ≡ false
first_128_do_not = none_left_out 129 128 (omega arith) (omega arith)
