-- All bytes are found in blocks exactly where all are below 128.
use native.Mathlib.Omega.{arith}
use Rattle.field_contents.specs.Meant.{is_ascii}
use Rattle.field_contents.proofs.ByOr.{ascii_limit}
use Rattle.field_contents.proofs.Blocks.{all_of, all_found}
use Rattle.field_contents.proofs.is_ascii.Goals as goal

pub blocks_of-requires : goal.blocks_of-requires
blocks_of-requires c = (omega arith, ascii_limit)

pub returns-then-len-lt64 : goal.returns-then-len-lt64
returns-then-len-lt64 c = all_found is_ascii 8 c.args.message.now (rw (all_of c.args.message.now) at c.blocks_of.ensures)

pub blocks_of-requires-2 : goal.blocks_of-requires-2
blocks_of-requires-2 c = (omega arith, ascii_limit)

pub returns : goal.returns
returns c = all_found is_ascii 64 c.args.message.now (rw (all_of c.args.message.now) at c.blocks_of-2.ensures)
