-- Its six stores are the field.
use Rattle.write_stage_two.proofs.Sealed.{sealed_stored}
use Rattle.write_stage_two.proofs.put_sealed.Goals as goal

pub returns : goal.returns
returns c =
    sealed_stored c.args.nonce.now c.args.ciphertext.now c.args.out.now c.args.at c.requires.0
    c.next_multiple_of_four-padded_nonce.ensures c.requires.2 c.put16.ensures c.put16-2.ensures c.put16-3.ensures
    c.put16-4.ensures c.put_padded.ensures c.put_padded-2.ensures
