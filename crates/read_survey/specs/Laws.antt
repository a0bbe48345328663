-- What an entry says of its sealed field: where nonce and ciphertext are in the packet, by the field's inner lengths, and how
-- many bytes are before it. And a survey has no more entries than the table, so what was lent in the table does not matter.
use Rattle.std.specs.Prelude.{◌≡◌, refl, Bool, true, false, List, [], ◌∷◌, ◌++◌, ℕ, zero, suc, ◌+◌, ◌-◌, ◌≤◌, ◌<◌, ltb, leb, length, Result, Ok, Err}
use Rattle.std.proofs.Common.{arith, leb-false}
use Rattle.base_answers.specs.Meant.{◌⇒◌, first_of}
use Rattle.base_answers.specs.declared.Refusal.{Refusal}
use Rattle.base_answers.specs.declared.Refusal.TheVariants.{HeaderPastEnd, PacketTooLong, TooManyFields}
use Rattle.base_version.specs.declared.Version.{Version}
use Rattle.base_rounding.specs.Meant.{rounded_up}
use Rattle.field_sealed.specs.Model.{parts, sealed_parts}
use Rattle.field_sealed.proofs.Laws.{parts_placed}
use Rattle.read_entries.specs.Model.{entry_of, Found, ended, then}
use Rattle.read_entries.specs.Meant.{blanks, capacity}
use Rattle.read_entries.specs.Laws.{unpacked_entry}
use Rattle.read_entries.specs.LawsTables.{whole}
use Rattle.layout.specs.Meant.{cutoff_of}
use Rattle.read_survey.specs.Model.{Fault, outer_at, stopped_at, on_outer, survey_from, found_in, survey_of, seal_of}
use Rattle.read_survey.specs.declared.Outer.{Outer}
use Rattle.read_survey.specs.declared.Outer.TheVariants.{Other, Sealed}

-- the entry of a sealed field at `at`: its message starts four bytes later, and the nonce four bytes into the message
pub entry_says : (message : List ℕ) (at : ℕ) {n to c : ℕ} → length message < 65536 → at < 65536 → sealed_parts message ≡ parts n to c
    → seal_of (entry_of n c at 0)
    ≡ record {
      nonce_offset = at + 4 + 4;
      nonce_len = n;
      ciphertext_offset = at + 4 + to;
      ciphertext_len = c;
      associated_data_len = at;
    }
unfolding seal_of
entry_says message at {n} {to} {c} h k e =
    let here = parts_placed message e in
    let nonces : at + 8 ≡ at + 4 + 4 = omega arith in
    let places : at + 8 + rounded_up n ≡ at + 4 + to = omega (arith, here) in
    rw (unpacked_entry n c at 0 (omega (arith, here)) (omega (arith, here)) k, places, nonces)

module _ (n : ℕ) (h : n ≤ capacity) where
  none_added : n + length {A = ℕ} [] ≤ capacity
  none_added = omega arith

  one_added : (at e : ℕ) (full : Bool) → leb capacity n ≡ full → (f : Found Fault)
      → (n < capacity → n + 1 + length f.entries ≤ capacity)
      → n + length (first_of (full ⇒ stopped_at TooManyFields at ∷ []) (then e f)).entries ≤ capacity
  one_added at e true g f later = none_added
  one_added at e false g f later = omega (arith, later (leb-false capacity n g))

  turn_added : (at : ℕ) (short : Bool) (o : Result Outer Refusal) (rest : ℕ → ℕ → Found Fault)
      → ((i k : ℕ) → i ≤ capacity → i + length (rest i k).entries ≤ capacity)
      → n + length (first_of (short ⇒ ended ∷ []) (on_outer n at o rest)).entries ≤ capacity
  turn_added at true o rest later = none_added
  turn_added at false (Err r) rest later = none_added
  turn_added at false (Ok (Other k)) rest later = later n k h
  turn_added at false (Ok (Sealed nonce ciphertext k)) rest later =
      one_added at (entry_of nonce ciphertext at 0) (leb capacity n) refl (rest (n + 1) k) (λ room. later (n + 1) k (omega arith))

from_added : (most : ℕ) (v : Version) (p : List ℕ) (n at : ℕ) → n ≤ capacity
    → n + length (survey_from most v p n at).entries ≤ capacity
unfolding survey_from
from_added zero v p n at h = none_added n h
from_added (suc most) v p n at h =
    turn_added n h at (leb (length p - at) (cutoff_of v)) (outer_at v p at) (λ i k. survey_from most v p i (at + k))
    (λ i k room. from_added most v p i (at + k) room)

pub never_overfull : (p : List ℕ) (header : ℕ) (v : Version) → length (found_in p header v).entries ≤ capacity
unfolding found_in
never_overfull p header v = go (ltb 65535 (length p)) (ltb (length p) header)
  where
    go : (long past : Bool)
        → length (first_of (long ⇒ stopped_at PacketTooLong 0 ∷ past ⇒ stopped_at HeaderPastEnd 0 ∷ [])
        (survey_from (suc (length p)) v p 0 header)).entries ≤ capacity
    go true past = omega arith
    go false true = omega arith
    go false false = omega (arith, from_added (suc (length p)) v p 0 header (omega arith))

-- the whole table afterwards, whatever was lent in it
pub table_whole : (p : List ℕ) (header : ℕ) (v : Version) (table : List ℕ) → length table ≡ capacity
    → let es = (found_in p header v).entries in
    (survey_of p header v table).table ≡ es ++ blanks (length es) capacity
unfolding survey_of
table_whole p header v table h =
    whole table (found_in p header v).entries capacity h (never_overfull p header v) (omega arith)
