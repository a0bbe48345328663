-- Demand 3 in one record, over an input, an answer and both tables as the call leaves them. Every number is fixed: the three counts,
-- the remainder's length, the cookie, each record, and the entries past the counts, which are blank. Nothing here reads.
use Rattle.std.specs.Prelude.{◌≡◌, List, [], ◌∷◌, ◌++◌, map, ◌↔◌, ℕ, ◌+◌, ◌-◌, ◌<◌, length, get_or, take, drop, replicate}
use Rattle.base_answers.specs.Meant.{pick}
use Rattle.base_answers.specs.declared.Refusal.{Refusal}
use Rattle.read_entries.specs.Meant.{capacity}
use Rattle.read_opening.specs.Meant.{Lent, results, verdict_of, start_of, len_of}
use Rattle.read_packet.specs.Meant.{Input, input_of}
use Rattle.read_packet.specs.declared.Read.{Read}
use Rattle.read_packet.specs.declared.Read.TheVariants.{Accepted, DecryptError, Refused}
use Rattle.read_records.specs.Model.{inner_record, message_of}
use Rattle.read_records.specs.declared.Record.{Record}
use Rattle.read_records.specs.declared.Trust.TheVariants.{Authenticated, Encrypted}
use Rattle.field_contents.specs.Meant.{All}
use Rattle.claim_one_cut.specs.MeantCut.{Item, plain, shut, opened, Cut, seals_in, outer_count, inner_count_of}
use Rattle.claim_one_cut.specs.MeantFaults.{FirstFault}
use Rattle.claim_one_cut.specs.MeantReport.{opens, fails, cookie_of, outer_records, inner_records, records_of, Reported, outer_messages, inner_messages, OpenedLater, HasCut}

-- the answer has lists: it is 0 or 5
abbrev pub HasLists : Read → Type 0
HasLists (Accepted a u e rest c) = Unit {0}
HasLists (DecryptError a u e rest) = Unit {0}
HasLists (Refused q offset) = ⊥

-- how many outer items an opened one follows, and how many none does
abbrev pub authenticated_in : List Item → ℕ
authenticated_in [] = 0
authenticated_in (plain f ∷ xs) = pick (opens xs) 1 0 + authenticated_in xs
authenticated_in (shut f ∷ xs) = pick (opens xs) 1 0 + authenticated_in xs
authenticated_in (opened f fs ∷ xs) = authenticated_in xs

abbrev pub untrusted_in : List Item → ℕ
untrusted_in [] = 0
untrusted_in (plain f ∷ xs) = pick (opens xs) 0 1 + untrusted_in xs
untrusted_in (shut f ∷ xs) = pick (opens xs) 0 1 + untrusted_in xs
untrusted_in (opened f fs ∷ xs) = untrusted_in xs

-- the answer to a cut: 5 where a sealed field was not opened, else 0 with the cookie
abbrev pub answer_of : Input → List Item → List ℕ → Read
answer_of i items rest =
    pick (fails items) (DecryptError (authenticated_in items) (untrusted_in items) (inner_count_of items) (length rest))
    (Accepted (authenticated_in items) (untrusted_in items) (inner_count_of items) (length rest) (cookie_of i 0 items))

abbrev pub blank : ℕ → List ℕ
blank n = replicate n 0

-- what the answer and the tables say of a cut: the answer; the records that the library makes of the entries below the counts;
-- blank entries past them; the remainder, which is the last bytes; the bytes handed back for each record; the trust of each
pub record CutTells (i : Input) (r : Read) (o n : List ℕ) (items : List Item) (rest : List ℕ) : Type 0 where
  pub answer : r ≡ answer_of i items rest
  pub outer : records_of i.version (take (authenticated_in items) o) (take (untrusted_in items) (drop (authenticated_in items) o))
      ≡ outer_records i.version i.header_size items
  pub inner : map (λ (e : ℕ). inner_record e i.version i.lent.starts) (take (inner_count_of items) n) ≡ inner_records i 0 items
  pub outer_blank : drop (outer_count items) o ≡ blank (capacity - outer_count items)
  pub inner_blank : drop (inner_count_of items) n ≡ blank (capacity - inner_count_of items)
  pub remainder : drop (length i.packet - length rest) i.packet ≡ rest
  pub outer_bytes : map (λ (x : Record). message_of i.packet i.lent.plain x) (outer_records i.version i.header_size items)
      ≡ outer_messages items
  pub inner_bytes : map (λ (x : Record). message_of i.packet i.lent.plain x) (inner_records i 0 items) ≡ inner_messages items
  pub authenticated : (before : List Item) (x : Item) (later : List Item) → items ≡ before ++ (x ∷ later)
      → Reported x
      → (none_there : Record)
      → ((get_or (outer_records i.version i.header_size items) (outer_count before) none_there).trust ≡ Authenticated)
      ↔ OpenedLater i (seals_in (before ++ (x ∷ []))) later
  pub encrypted : All (λ (x : Record). x.trust ≡ Encrypted) (inner_records i 0 items)
  pub nothing_else : All (λ (x : Record). x.trust ≡ Encrypted → ⊥) (outer_records i.version i.header_size items)

pub record Demand3 (i : Input) (r : Read) (o n : List ℕ) : Type 0 where
  pub reports_exactly : HasLists r ↔ HasCut i
  pub reports_the_cut : (c : HasCut i) → CutTells i r o n c.items c.rest
  pub only_one_cut : (xs ys : List Item) (s t : List ℕ) → Cut i xs s → Cut i ys t → (xs ≡ ys) × (s ≡ t)
  pub refuses_exactly : (q : Refusal) (offset : ℕ) → (r ≡ Refused q offset) ↔ FirstFault i q offset
  pub refused_blank : (q : Refusal) (offset : ℕ) → r ≡ Refused q offset → (o ≡ blank capacity) × (n ≡ blank capacity)

-- the results that a host lends, for the same plaintexts, agree up to number `m`: lent or not, verdict, start and length
pub record Agree (l k : Lent) (m : ℕ) : Type 0 where
  pub same_plain : l.plain ≡ k.plain
  pub same_lent : (n : ℕ) → n < m → (n < results l) ↔ (n < results k)
  pub same_verdict : (n : ℕ) → n < m → verdict_of l n ≡ verdict_of k n
  pub same_start : (n : ℕ) → n < m → start_of l n ≡ start_of k n
  pub same_len : (n : ℕ) → n < m → len_of l n ≡ len_of k n

-- the same packet, header size and version with other results
abbrev pub relent : Input → Lent → Input
relent i l = input_of i.packet i.header_size i.version l
