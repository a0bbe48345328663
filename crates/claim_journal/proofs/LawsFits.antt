-- An entry counts exactly when its length fits its kind and its end byte stands: of any bytes.
use Rattle.std.specs.Prelude.{◌≡◌, List, ℕ, ◌+◌, ◌-◌, length, take, drop, get_or}
use Rattle.std.proofs.Common.{◌∙◌, ap, arith, length-drop, get_or-take, length-take-le}
use Rattle.journal.specs.Meant.{Entry, entry_of, entry_len, entry_bytes, Begins}
use Rattle.journal.specs.Model.{le16, whole_len, len_here}
use Rattle.journal.specs.LawsEntry.{Stands, stands, shape, further, whole_read, whole_header}
use Rattle.journal.specs.LawsPlans.{KindOf, a_read, a_header_law, kind_of}
use Rattle.claim_journal.proofs.LawsHolds.{decoded, decoded_bytes, stands_entry, len_begins}
use Rattle.claim_journal.specs.Meant.{Fits, Counted}

pub counts : {s : List ℕ} {kind n : ℕ} → Fits s kind n → Counted s kind n
counts {s} {kind} {n} f =
    let r : Stands s (n + 5) =
    record { kind = rw f.kind_stands (whole (kind_of kind n f.named)); len = f.length_fits; last = rw last_place f.end_stands } in
    let l : len_here s ≡ n + 5 = stands r in
    let x = shape r (omega arith) in
    let b = len_begins s (omega arith) in
    let t : length (take (len_here s) s) ≡ n + 5 = rw l (length-take-le (n + 5) s x.inside) in
    let two : get_or (take (len_here s) s) 2 0 ≡ get_or s 2 0 = rw l (get_or-take (n + 5) s 2 0 (omega arith)) in
    let three : get_or (take (len_here s) s) 3 0 ≡ get_or s 3 0 = rw l (get_or-take (n + 5) s 3 0 (omega arith)) in
    let k : le16 (take (len_here s) s) 2 ≡ kind = rw (two, three) f.kind_stands in
    let body = (decoded (take (len_here s) s)).body in
    let d : decoded (take (len_here s) s) ≡ entry_of kind body = ap (λ (i : ℕ). entry_of i body) k in
    record {
      body = body;
      begins = rw d at b;
      size =
          length-take-le (length (take (len_here s) s) - 5) (drop 4 (take (len_here s) s)) (omega (arith, length-drop 4 (take (len_here s) s))) ∙ omega arith;
    }
  where
    last_place : n + 5 - 1 ≡ n + 4
    last_place = omega arith

    whole : KindOf kind n → whole_len kind ≡ n + 5
    whole (a_read p q) = rw (p, q) whole_read
    whole (a_header_law p q) = rw (p, q) whole_header

pub fits : {s : List ℕ} {e : Entry} → Begins s e → Fits s e.kind (length e.body)
fits {s} {e} b =
    let r : Stands s (entry_len e) = rw b.whole (further (entry_bytes e) b.rest (stands_entry e b.kind) (omega arith)) in
    let last_place : entry_len e - 1 ≡ length e.body + 4 = omega arith in
    record { named = b.kind.named; length_fits = r.len; kind_stands = rw b.whole (ap (λ (x : Entry). x.kind) (decoded_bytes e b.kind)); end_stands = rw last_place at r.last }
