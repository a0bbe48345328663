-- Each item's record stands at its place in the list, and the bytes handed back for a record are the field's message.
use Rattle.std.specs.Prelude.{◌≡◌, refl, Bool, true, false, List, [], ◌∷◌, ◌++◌, map, ℕ, ◌+◌, length, get_or, drop}
use Rattle.std.proofs.Common.{sym, ap, ◌∙◌, append_assoc, arith, le-leb, length-append, take-append-drop}
use Rattle.std.proofs.lemmas.List.{map-append}
use Rattle.base_answers.specs.Meant.{pick}
use Rattle.base_version.specs.declared.Version.{Version}
use Rattle.read_opening.specs.Meant.{start_of, len_of}
use Rattle.read_packet.specs.Meant.{Input}
use Rattle.read_records.specs.Model.{part_of, message_of}
use Rattle.read_records.specs.Meant.{source_of}
use Rattle.read_records.specs.declared.Trust.{Trust}
use Rattle.read_records.specs.declared.Trust.TheVariants.{Untrusted, Authenticated}
use Rattle.read_records.specs.declared.Record.{Record}
use Rattle.layout.specs.Meant.{Field, bytes_of, joined}
use Rattle.claim_one_cut.specs.MeantCut.{Item, plain, shut, opened, item_bytes, outer_count}
use Rattle.claim_one_cut.specs.MeantReport.{opens, field_record, marker_record, trust_before, outer_records, plaintext_records, inner_records, outer_messages, field_messages, inner_messages, Reported}
use Rattle.field_frame.specs.LawsLayout.{left_of, message_here, next_here}
use Rattle.layout.proofs.Laws.{size_of}
use Rattle.claim_one_cut.proofs.LawsLaid.{Laid}
use Rattle.claim_one_cut.proofs.LawsTables.{beyond}

-- the part of a slice in which a field lies
part_here : (s : List ℕ) (at : ℕ) (v : Version) (f : Field) (tl : List ℕ) → drop at s ≡ bytes_of f ++ tl
    → part_of s at (length f.message) ≡ f.message
unfolding part_of
part_here s at v f tl e =
    let lies =
    le-leb (at + 4 + length f.message) (length s) (omega (arith, left_of s at e, length-append (bytes_of f) tl, size_of f)) in
    rw lies (message_here s at v f tl e)

from_packet : (b : Bool) (packet buffer : List ℕ) → source_of (pick b Authenticated Untrusted) packet buffer ≡ packet
from_packet true packet buffer = refl
from_packet false packet buffer = refl

pub outer_messages_law : (xs : List Item) (i : Input) (rest : List ℕ) (at : ℕ) → drop at i.packet ≡ item_bytes xs ++ rest
    → map (λ (r : Record). message_of i.packet i.lent.plain r) (outer_records i.version at xs) ≡ outer_messages xs
unfolding outer_records message_of
outer_messages_law [] i rest at e = refl
outer_messages_law (plain f ∷ xs) i rest at e =
    rw (
      from_packet (opens xs) i.packet i.lent.plain,
      part_here i.packet at i.version f (item_bytes xs ++ rest) (e ∙ append_assoc (bytes_of f) (item_bytes xs) rest),
      outer_messages_law xs i rest (at + length (bytes_of f)) (beyond i at f xs rest e),
    )
outer_messages_law (shut f ∷ xs) i rest at e =
    rw (
      from_packet (opens xs) i.packet i.lent.plain,
      part_here i.packet at i.version f (item_bytes xs ++ rest) (e ∙ append_assoc (bytes_of f) (item_bytes xs) rest),
      outer_messages_law xs i rest (at + length (bytes_of f)) (beyond i at f xs rest e),
    )
outer_messages_law (opened f fs ∷ xs) i rest at e = outer_messages_law xs i rest (at + length (bytes_of f)) (beyond i at f xs rest e)

-- the fields of a plaintext lie in the buffer
plaintext_messages : (fs : List Field) (packet buffer : List ℕ) (v : Version) (at : ℕ) (tl : List ℕ) → drop at buffer ≡ joined fs ++ tl
    → map (λ (r : Record). message_of packet buffer r) (plaintext_records v at fs) ≡ field_messages fs
unfolding plaintext_records message_of
plaintext_messages [] packet buffer v at tl e = refl
plaintext_messages (f ∷ fs) packet buffer v at tl e =
    let here : drop at buffer ≡ bytes_of f ++ (joined fs ++ tl) = e ∙ append_assoc (bytes_of f) (joined fs) tl in
    rw (
      part_here buffer at v f (joined fs ++ tl) here,
      plaintext_messages fs packet buffer v (at + length (bytes_of f)) tl (next_here buffer at v f (joined fs ++ tl) here),
    )

pub inner_messages_law : (xs : List Item) (i : Input) (rest : List ℕ) (k : ℕ) → Laid i k xs rest
    → map (λ (r : Record). message_of i.packet i.lent.plain r) (inner_records i k xs) ≡ inner_messages xs
unfolding inner_records
inner_messages_law [] i rest k l = refl
inner_messages_law (plain f ∷ xs) i rest k l = inner_messages_law xs i rest k l.3
inner_messages_law (shut f ∷ xs) i rest k l = inner_messages_law xs i rest (k + 1) l.3
inner_messages_law (opened f fs ∷ xs) i rest k l =
    let start = start_of i.lent k in
    let buffer = i.lent.plain in
    let after = drop (len_of i.lent k) (drop start buffer) in
    let here : drop start buffer ≡ joined fs ++ after =
    sym (take-append-drop (len_of i.lent k) (drop start buffer)) ∙ ap (λ (z : List ℕ). z ++ after) l.2.filled.whole in
    map-append (λ (r : Record). message_of i.packet i.lent.plain r) (plaintext_records i.version start fs) (inner_records i (k + 1) xs)
    ∙ rw (plaintext_messages fs i.packet buffer i.version start after here, inner_messages_law xs i rest (k + 1) l.3)

abbrev pub item_record : Version → ℕ → Item → Trust → Record
item_record v at (plain f) trust = field_record v at f trust
item_record v at (shut f) trust = marker_record at f trust
item_record v at (opened f fs) trust = marker_record at f trust

-- its record stands where as many are before it as reported items are
pub record_of_item : (before : List Item) (x : Item) (later : List Item) (v : Version) (at : ℕ) (none_there : Record) → Reported x
    → get_or (outer_records v at (before ++ (x ∷ later))) (outer_count before) none_there
    ≡ item_record v (at + length (item_bytes before)) x (trust_before later)
unfolding outer_records
record_of_item [] (plain f) later v at d h =
    let e : at + 0 ≡ at = omega arith in
    rw e
record_of_item [] (shut f) later v at d h =
    let e : at + 0 ≡ at = omega arith in
    rw e
record_of_item [] (opened f fs) later v at d h = absurd h
record_of_item (plain g ∷ before) x later v at d h =
    let e : at + length (bytes_of g) + length (item_bytes before) ≡ at + length (bytes_of g ++ item_bytes before) =
    omega (arith, length-append (bytes_of g) (item_bytes before)) in
    rw (← e) (record_of_item before x later v (at + length (bytes_of g)) d h)
record_of_item (shut g ∷ before) x later v at d h =
    let e : at + length (bytes_of g) + length (item_bytes before) ≡ at + length (bytes_of g ++ item_bytes before) =
    omega (arith, length-append (bytes_of g) (item_bytes before)) in
    rw (← e) (record_of_item before x later v (at + length (bytes_of g)) d h)
record_of_item (opened g gs ∷ before) x later v at d h =
    let e : at + length (bytes_of g) + length (item_bytes before) ≡ at + length (bytes_of g ++ item_bytes before) =
    omega (arith, length-append (bytes_of g) (item_bytes before)) in
    rw (← e) (record_of_item before x later v (at + length (bytes_of g)) d h)
