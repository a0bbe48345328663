-- No header, or what `frame_of` says of the header's two numbers.
use mathlib.Core.Path.{sym, ap, ◌∙◌}
use native.Mathlib.Omega.{arith}
use Rattle.field_frame.specs.Model.{told_of}
use Rattle.field_frame.proofs.Cases.{no_header, header}
use Rattle.field_frame.proofs.frame_at.Goals as goal

pub returns-then-region-at : goal.returns-then-region-at
returns-then-region-at c = ap told_of (sym (no_header c.args.version c.args.region.now c.args.at (omega arith)))

pub returns-then-left-lt4 : goal.returns-then-left-lt4
returns-then-left-lt4 c = ap told_of (sym (no_header c.args.version c.args.region.now c.args.at (omega arith)))

pub returns : goal.returns
returns c =
    c.frame_of.ensures
    ∙ rw (c.be16-type_id.ensures, c.be16-length.ensures)
    (ap told_of (sym (header c.args.version c.args.region.now c.args.at (omega arith))))
