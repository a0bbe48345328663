-- What reading a packet answers. Rules 2 and 3.1 of docs/RULES.md: 7, then 6, then the walk.
-- Refusals other than 5 report no fields, only the offset of the outer field at fault (0 for 6 and 7). With 0 and 5 the three
-- lists and the remainder are reported, with 0 alone the cookie. Entries past a table's count are blank.
use Rattle.std.specs.Prelude.{Option, Some, List, [], ◌∷◌, ℕ, ◌-◌, max, ltb, length, None}
use Rattle.base_answers.specs.Meant.{pick, ◌⇒◌, first_of}
use Rattle.base_answers.specs.declared.Refusal.{Refusal}
use Rattle.base_answers.specs.declared.Refusal.TheVariants.{HeaderPastEnd, PacketTooLong}
use Rattle.read_entries.specs.Meant.{capacity, over_table}
use Rattle.read_packet.specs.Meant.{Input, ReadReply, refusing_read}
use Rattle.read_packet.specs.ModelWalk.{Lists, outer_of, Ended, end_of}
use Rattle.read_packet.specs.declared.Read.{Read}
use Rattle.read_packet.specs.declared.Read.TheVariants.{Accepted, DecryptError}
use Rattle.read_packet.specs.declared.Walked.{Walked}
use Rattle.base_sizes.specs.Meant.{most_bytes}

abbrev pub reply_of : Read → List ℕ → List ℕ → ReadReply
reply_of r outer inner = record { answer = r; outer = outer; inner = inner }

-- the answer to a packet without fields
abbrev pub no_fields : ℕ → List ℕ → List ℕ → ReadReply
no_fields rest outer inner = record { answer = Accepted 0 0 0 rest None; outer = outer; inner = inner }

-- the answer to lists that were read to the end
abbrev pub lists_read : Lists → ℕ → Read
lists_read s rest =
    pick s.failed (DecryptError (length s.authenticated) (length s.untrusted) (length s.encrypted) rest)
    (Accepted (length s.authenticated) (length s.untrusted) (length s.encrypted) rest s.cookie)

-- the reply to the end of a walk, over tables of which `used` entries may be in use
abbrev pub on_fault : Option Refusal → Ended → ℕ → List ℕ → ℕ → List ℕ → ℕ → ReadReply
on_fault None e size outer usedOuter inner used_inner_of = record {
  answer = lists_read e.lists (size - e.at);
  outer = over_table outer (outer_of e.lists) usedOuter;
  inner = over_table inner e.lists.encrypted used_inner_of;
}
on_fault (Some r) e size outer usedOuter inner used_inner_of =
    refusing_read r e.at
    (over_table outer [] (max usedOuter (length (outer_of e.lists))))
    (over_table inner [] (max used_inner_of (length e.lists.encrypted)))

-- reading over tables of which the first entries may be in use: those past them are left as they are, unless an item was
-- found there
unfoldable pub read_over : Input → List ℕ → ℕ → List ℕ → ℕ → ReadReply
read_over i outer usedOuter inner used_inner_of =
    first_of
    (ltb most_bytes (length i.packet) ⇒ refusing_read PacketTooLong 0 (over_table outer [] usedOuter) (over_table inner [] used_inner_of)
    ∷ ltb (length i.packet) i.header_size ⇒ refusing_read HeaderPastEnd 0 (over_table outer [] usedOuter) (over_table inner [] used_inner_of)
    ∷ [])
    (on_fault (end_of i).fault (end_of i) (length i.packet) outer usedOuter inner used_inner_of)

-- reading over tables that may hold anything
abbrev pub read_of : Input → List ℕ → List ℕ → ReadReply
read_of i outer inner = read_over i outer capacity inner capacity

-- the answer to a walk that reached the end of the fields, by the code's counts
abbrev pub accepted_of : Walked → ℕ → Read
accepted_of w rest =
    pick w.failed (DecryptError w.authenticated (w.outer - w.authenticated) w.inner rest)
    (Accepted w.authenticated (w.outer - w.authenticated) w.inner rest w.cookie)
