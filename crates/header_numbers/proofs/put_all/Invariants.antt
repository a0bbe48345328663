-- The loop keeps: storing the numbers that are left from the place on gives what storing all of them gives.
use Rattle.std.proofs.Common.{◌≡◌, ◌+◌, drop}
use Rattle.base_store.specs.Model.{stored}
use Rattle.header_numbers.specs.Meant.{total, number_bytes}
use Rattle.header_numbers.proofs.put_all.Given as goal

abbrev pub invariant-loop-i : goal.invariant-loop-i
invariant-loop-i l = record {
  ends : l.place + total (drop l.i l.widths) ≡ l.at + total l.widths;
  stores : stored l.out l.place (number_bytes (drop l.i l.widths) (drop l.i l.numbers)) ≡ stored l.initial.out l.at (number_bytes l.widths l.numbers);
}
