-- The message of each record of a cut lies inside the packet or, for an inner field, inside the buffer of the plaintexts.
use Rattle.std.specs.Prelude.{◌≡◌, List, [], ◌∷◌, ◌++◌, ℕ, zero, suc, ◌+◌, ◌≤◌, ◌<◌, length, get_or, drop}
use Rattle.std.proofs.Common.{sym, ap, ◌∙◌, append_assoc, arith, length-append, take-append-drop}
use Rattle.base_version.specs.declared.Version.{Version}
use Rattle.field_contents.specs.Meant.{All}
use Rattle.field_frame.specs.LawsLayout.{left_of, next_here}
use Rattle.layout.specs.Meant.{Field, bytes_of, joined}
use Rattle.layout.proofs.Laws.{size_of}
use Rattle.read_opening.specs.Meant.{start_of, len_of}
use Rattle.read_packet.specs.Meant.{Input}
use Rattle.read_records.specs.declared.Record.{Record}
use Rattle.claim_one_cut.specs.MeantCut.{Item, plain, shut, opened, item_bytes}
use Rattle.claim_one_cut.specs.MeantReport.{outer_records, plaintext_records, inner_records}
use Rattle.claim_one_cut.proofs.LawsLaid.{Laid}
use Rattle.claim_one_cut.proofs.LawsTables.{beyond}

-- the message of a record lies inside so many bytes
abbrev pub Inside : ℕ → Record → Type 0
Inside available r = r.field_offset + 4 + r.message_len ≤ available

-- a field that lies at a place has its message inside
inside_here : (s : List ℕ) (at : ℕ) (f : Field) (tl : List ℕ) → drop at s ≡ bytes_of f ++ tl → at + 4 + length f.message ≤ length s
inside_here s at f tl e = omega (arith, left_of s at e, length-append (bytes_of f) tl, size_of f)

pub outer_inside : (xs : List Item) (i : Input) (rest : List ℕ) (at : ℕ) → drop at i.packet ≡ item_bytes xs ++ rest
    → All (Inside (length i.packet)) (outer_records i.version at xs)
unfolding outer_records
outer_inside [] i rest at e = tt
outer_inside (plain f ∷ xs) i rest at e = (
  inside_here i.packet at f (item_bytes xs ++ rest) (e ∙ append_assoc (bytes_of f) (item_bytes xs) rest),
  outer_inside xs i rest (at + length (bytes_of f)) (beyond i at f xs rest e),
)
outer_inside (shut f ∷ xs) i rest at e = (
  inside_here i.packet at f (item_bytes xs ++ rest) (e ∙ append_assoc (bytes_of f) (item_bytes xs) rest),
  outer_inside xs i rest (at + length (bytes_of f)) (beyond i at f xs rest e),
)
outer_inside (opened f fs ∷ xs) i rest at e = outer_inside xs i rest (at + length (bytes_of f)) (beyond i at f xs rest e)

plaintext_inside : (fs : List Field) (buffer : List ℕ) (v : Version) (at : ℕ) (tl : List ℕ) → drop at buffer ≡ joined fs ++ tl
    → All (Inside (length buffer)) (plaintext_records v at fs)
unfolding plaintext_records
plaintext_inside [] buffer v at tl e = tt
plaintext_inside (f ∷ fs) buffer v at tl e =
    let here : drop at buffer ≡ bytes_of f ++ (joined fs ++ tl) = e ∙ append_assoc (bytes_of f) (joined fs) tl in (
      inside_here buffer at f (joined fs ++ tl) here,
      plaintext_inside fs buffer v (at + length (bytes_of f)) tl (next_here buffer at v f (joined fs ++ tl) here),
    )

all_of_both : {A : Type 0} (P : A → Type 0) (xs ys : List A) → All P xs → All P ys → All P (xs ++ ys)
all_of_both P [] ys p q = q
all_of_both P (x ∷ xs) ys p q = (p.0, all_of_both P xs ys p.1 q)

pub inner_inside : (xs : List Item) (i : Input) (rest : List ℕ) (k : ℕ) → Laid i k xs rest
    → All (Inside (length i.lent.plain)) (inner_records i k xs)
unfolding inner_records
inner_inside [] i rest k l = tt
inner_inside (plain f ∷ xs) i rest k l = inner_inside xs i rest k l.3
inner_inside (shut f ∷ xs) i rest k l = inner_inside xs i rest (k + 1) l.3
inner_inside (opened f fs ∷ xs) i rest k l =
    let start = start_of i.lent k in
    let buffer = i.lent.plain in
    let after = drop (len_of i.lent k) (drop start buffer) in
    let here : drop start buffer ≡ joined fs ++ after =
    sym (take-append-drop (len_of i.lent k) (drop start buffer)) ∙ ap (λ (z : List ℕ). z ++ after) l.2.filled.whole in
    all_of_both (Inside (length buffer)) (plaintext_records i.version start fs) (inner_records i (k + 1) xs)
    (plaintext_inside fs buffer i.version start after here) (inner_inside xs i rest (k + 1) l.3)

-- what holds of all holds of each
pub one_of_all : {A : Type 0} (P : A → Type 0) (xs : List A) (k : ℕ) (none_there : A) → All P xs → k < length xs → P (get_or xs k none_there)
one_of_all P [] k d p h = absurd (omega arith)
one_of_all P (x ∷ xs) zero d p h = p.0
one_of_all P (x ∷ xs) (suc k) d p h = one_of_all P xs k d p.1 (omega arith)
