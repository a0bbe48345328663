-- Each return is the case of `sealed_parts` whose tests led there.
use mathlib.Core.Path.{sym, ap}
use native.Mathlib.Omega.{arith}
use Rattle.field_sealed.specs.Model.{told_of}
use Rattle.field_sealed.proofs.Cases.{no_lengths, past_the_end, both_inside}
use Rattle.field_sealed.proofs.from_message_bytes.Goals as goal

pub returns-then-message-lt4 : goal.returns-then-message-lt4
returns-then-message-lt4 c = ap told_of (sym (no_lengths c.args.message.now (omega arith)))

pub returns-then-message-ciphertext_start : goal.returns-then-message-ciphertext_start
returns-then-message-ciphertext_start c = ap told_of (sym (past_the_end c.args.message.now (omega arith) (omega arith)))

pub returns : goal.returns
returns c =
    rw (c.next_multiple_of_four-ciphertext_start.ensures, c.be16-ciphertext_len.ensures, c.be16-nonce.ensures)
    (ap told_of (sym (both_inside c.args.message.now (omega arith) (omega arith))))
