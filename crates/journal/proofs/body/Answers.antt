use mathlib.Core.Path.{◌≡◌, sym}
use Prim.Native.Nat.{◌-◌, ◌+◌}
use native.Mathlib.Omega.{arith}
use Rattle.journal.specs.LawsBody.{place_of, no_body}
use Rattle.journal.proofs.body.Goals as goal

pub overflow_add-start : goal.overflow_add-start
overflow_add-start c =
    let x = place_of c.args.image.now c.args.index c.in-Some.ensures in
    let i = x.inside in
    omega arith

pub overflow_add-result : goal.overflow_add-result
overflow_add-result c =
    let x = place_of c.args.image.now c.args.index c.in-Some.ensures in
    let i = x.inside in
    omega arith

pub slice_bounds-result-end-in-Some : goal.slice_bounds-result-end-in-Some
slice_bounds-result-end-in-Some c =
    let x = place_of c.args.image.now c.args.index c.in-Some.ensures in
    let i = x.inside in
    omega arith

pub returns-in-None : goal.returns-in-None
returns-in-None c = no_body c.args.image.now c.args.index c.in-None.ensures

pub returns-in-Some : goal.returns-in-Some
returns-in-Some c =
    let x = place_of c.args.image.now c.args.index c.in-Some.ensures in
    let e : c.in-Some.read.entry_offset + 4 + c.in-Some.read.body_len - (c.in-Some.read.entry_offset + 4) ≡ c.in-Some.read.body_len = omega arith in
    rw e (sym x.body)
