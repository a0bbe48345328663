-- How the proofs speak of a reader's answer: the report that a host could make of an answer and its tables, and the report of a cut.
-- The claims do not rest on it.
use Rattle.std.specs.Prelude.{Option, Some, None, ◌≡◌, List, map, ℕ, ◌-◌, ◌^◌, ◌<◌, length, take, drop}
use Rattle.base_answers.specs.Meant.{pick}
use Rattle.base_big_endian.specs.Meant.{Bytes}
use Rattle.read_entries.specs.Meant.{capacity}
use Rattle.read_packet.specs.Meant.{Input}
use Rattle.read_packet.specs.ModelReply.{reply_of, read_over}
use Rattle.read_packet.specs.declared.Read.{Read}
use Rattle.read_packet.specs.declared.Read.TheVariants.{Accepted, DecryptError, Refused}
use Rattle.read_records.specs.Model.{inner_record}
use Rattle.read_records.specs.declared.Record.{Record}
use Rattle.claim_one_cut.specs.MeantCut.{Item}
use Rattle.claim_one_cut.specs.MeantReport.{fails, cookie_of, outer_records, inner_records, records_of}

pub record Report : Type 0 where
  pub number : ℕ
  pub outer : List Record
  pub inner : List Record
  pub remainder : List ℕ
  pub cookie : Option ℕ

abbrev pub taken_from : Input → ℕ → ℕ → ℕ → ℕ → ℕ → Option ℕ → List ℕ → List ℕ → Report
taken_from i number a u e rest cookie outer inner = record {
  number = number;
  outer = records_of i.version (take a outer) (take u (drop a outer));
  inner = map (λ (x : ℕ). inner_record x i.version i.lent.starts) (take e inner);
  remainder = drop (length i.packet - rest) i.packet;
  cookie = cookie;
}

-- what a host takes from an answer and the tables; a refusal other than 5 reports nothing
abbrev pub reported : Input → Read → List ℕ → List ℕ → Option Report
reported i (Accepted a u e rest c) outer inner = Some (taken_from i 0 a u e rest c outer inner)
reported i (DecryptError a u e rest) outer inner = Some (taken_from i 5 a u e rest None outer inner)
reported i (Refused r offset) outer inner = None

-- what a slice of bytes is, whatever its bytes are: they are below 256, and its length fits a word
pub record Lendable (i : Input) : Type 0 where
  pub packet : Bytes i.packet
  pub plain : Bytes i.lent.plain
  pub size : length i.lent.plain < 2 ^ 64

-- an answer and two tables that meet the promise of `read_packet::deserialize_over`: tables were lent, of which so many entries
-- may have been in use. Where those are all entries they also meet the promise of `read_packet::deserialize`
pub record Answered (i : Input) (r : Read) (o n : List ℕ) : Type 0 where
  pub outer : List ℕ
  pub used_outer_law : ℕ
  pub inner : List ℕ
  pub used_inner_law : ℕ
  pub outer_size : length outer ≡ capacity
  pub inner_size : length inner ≡ capacity
  pub promise : reply_of r o n ≡ read_over i outer used_outer_law inner used_inner_law

-- what has to be reported of a cut: 5 where a sealed field was not opened, else 0 with the cookie
abbrev pub report_of : Input → List Item → List ℕ → Report
report_of i items rest = record {
  number = pick (fails items) 5 0;
  outer = outer_records i.version i.header_size items;
  inner = inner_records i 0 items;
  remainder = rest;
  cookie = pick (fails items) None (cookie_of i 0 items);
}

-- a field list is reported: the answer is 0 or 5
pub record Listing (i : Input) (r : Read) (o n : List ℕ) : Type 0 where
  pub report : Report
  pub is : reported i r o n ≡ Some report
