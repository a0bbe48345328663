-- The entries of the walk's lists, made into records, are those that have to be reported of the items.
use Rattle.std.specs.Prelude.{Option, None, ◌≡◌, refl, Bool, true, false, List, [], ◌∷◌, ◌++◌, map, ℕ, ◌+◌, ◌-◌, ◌^◌, ◌≤◌, ◌<◌, length, drop}
use Rattle.std.proofs.Common.{sym, ap, ◌∙◌, append_assoc, append-nil, arith, length-append}
use Rattle.std.proofs.lemmas.List.{map-append}
use Rattle.std.proofs.Math.Nat.{mod-eq_of_lt}
use Rattle.base_answers.specs.Meant.{pick}
use Rattle.base_version.specs.declared.Version.{Version}
use Rattle.base_version.specs.declared.Version.TheVariants.{V4, V5}
use Rattle.base_rounding.specs.Meant.{rounded_up}
use Rattle.field_kinds.specs.Meant.{kind_of, nts_encrypted_field}
use Rattle.field_kinds.specs.declared.Kind.{Kind}
use Rattle.field_kinds.specs.declared.Kind.TheVariants.{Unknown, UniqueIdentifier, NtsCookie, NtsCookiePlaceholder, NtsEncryptedField, InvalidNtsEncryptedField, DraftIdentification, ReferenceIdRequest, ReferenceIdResponse}
use Rattle.field_contents.specs.Meant.{rule_of, All, IsSealed}
use Rattle.field_contents.specs.declared.Rule.{Rule}
use Rattle.field_contents.specs.declared.Rule.TheVariants.{Any, Zeros, Ascii, Offset, Sealed}
use Rattle.read_entries.specs.Model.{entry_of}
use Rattle.read_entries.specs.Laws.{unpacked_entry}
use Rattle.read_opening.specs.Meant.{verdict_of, start_of}
use Rattle.read_packet.specs.Meant.{Input}
use Rattle.read_packet.specs.ModelWalk.{Lists, empty, outer_of, with_field, with_marker, promoted}
use Rattle.read_opening.specs.Model.{cookie_by}
use Rattle.read_records.specs.Model.{item_kind, outer_record, inner_record, plaintext_start as startOf'}
use Rattle.read_records.specs.declared.Trust.{Trust}
use Rattle.read_records.specs.declared.Trust.TheVariants.{Untrusted, Authenticated, Encrypted}
use Rattle.read_records.specs.declared.Record.{Record}
use Rattle.layout.specs.Meant.{Field, bytes_of, joined, Shaped}
use Rattle.claim_one_cut.specs.MeantCut.{Inner, Item, plain, shut, opened, item_bytes, plaintext_of}
use Rattle.claim_one_cut.specs.MeantReport.{opens, fails, field_record, marker_record, trust_before, outer_records, plaintext_records, inner_records, cookie_of, records_of}
use Rattle.field_frame.specs.LawsLayout.{left_of, next_here}
use Rattle.layout.proofs.Laws.{size_of}
use Rattle.field_contents.proofs.LawsRules.{Ruled, zeros, seal, ascii, offset, any, ruled}
use Rattle.claim_one_cut.proofs.LawsPlaintexts.{plaintext_entries}
use Rattle.claim_one_cut.proofs.LawsOpenings.{plaintext_length}
use Rattle.claim_one_cut.proofs.LawsLaid.{Laid, Readied}
use Rattle.claim_one_cut.proofs.LawsTurns.{lists_after}
use Rattle.claim_one_cut.proofs.LawsWalks.{after_all}

-- kinds
other_kind : (k : Kind) → (k ≡ NtsEncryptedField → ⊥) → item_kind k ≡ k
other_kind Unknown h = refl
other_kind UniqueIdentifier h = refl
other_kind NtsCookie h = refl
other_kind NtsCookiePlaceholder h = refl
other_kind NtsEncryptedField h = absurd (h refl)
other_kind InvalidNtsEncryptedField h = refl
other_kind DraftIdentification h = refl
other_kind ReferenceIdRequest h = refl
other_kind ReferenceIdResponse h = refl

pub sealed_type : (v : Version) (t : ℕ) (r : Rule) → Ruled v t r → r ≡ Sealed → t ≡ nts_encrypted_field
sealed_type v t Sealed (seal h) e = h
sealed_type v t Zeros (zeros h) e =
    let z : ◌≡◌ {A = ℕ} 0 1 = cc in
    absurd (omega arith)
sealed_type v t Ascii (ascii n h) e =
    let z : ◌≡◌ {A = ℕ} 0 1 = cc in
    absurd (omega arith)
sealed_type v t Offset (offset n h) e =
    let z : ◌≡◌ {A = ℕ} 0 1 = cc in
    absurd (omega arith)
sealed_type v t Any (any a b c d) e =
    let z : ◌≡◌ {A = ℕ} 0 1 = cc in
    absurd (omega arith)

pub sealed_kind : (v : Version) → kind_of nts_encrypted_field v ≡ NtsEncryptedField
unfolding kind_of
sealed_kind V4 = refl
sealed_kind V5 = refl

-- the record of an entry
module _ (v : Version) (f : Field) (at : ℕ) (shaped : Shaped v f) (place : at < 65536) where
  taken_is : rounded_up (length f.message) + 4 ≡ length (bytes_of f)
  taken_is = sym (size_of f ∙ omega (arith, shaped))

  pub plain_record : (trust : Trust) → (IsSealed f → ⊥)
      → outer_record (entry_of (length f.message) f.type at 0) v trust ≡ field_record v at f trust
  unfolding outer_record
  plain_record trust h =
      let kind =
      other_kind (kind_of f.type v) (λ e. h (sealed_type v f.type (rule_of (kind_of f.type v)) (ruled v f.type) (ap rule_of e))) in
      rw (
        unpacked_entry (length f.message) f.type at 0 (omega (arith, shaped)) shaped.type_fits place,
        kind,
        taken_is,
      )

  pub marker_record_law : (trust : Trust) → IsSealed f
      → outer_record (entry_of (length f.message) nts_encrypted_field at 0) v trust ≡ marker_record at f trust
  unfolding outer_record
  marker_record_law trust h =
      rw (
        unpacked_entry (length f.message) nts_encrypted_field at 0 (omega (arith, shaped)) (omega arith) place,
        sealed_kind v,
        taken_is,
        h,
      )

  pub inner_record_law : (starts : List ℕ) (k start : ℕ) → startOf' starts k ≡ start → start + at < 2 ^ 64
      → inner_record (entry_of (length f.message) f.type at k) v starts ≡ field_record v (start + at) f Encrypted
  unfolding inner_record
  inner_record_law starts k start e h =
      rw (
        unpacked_entry (length f.message) f.type at k (omega (arith, shaped)) shaped.type_fits place,
        e,
        mod-eq_of_lt h,
        taken_is,
      )

-- the outer records of lists; and with every item authenticated, if one is opened later
abbrev pub listed : Version → Lists → List Record
listed v s = records_of v s.authenticated s.untrusted

abbrev pub marked : Version → Bool → Lists → List Record
marked v true s = map (λ (e : ℕ). outer_record e v Authenticated) (outer_of s)
marked v false s = listed v s

module _ (v : Version) (s : Lists) where
  -- one item more
  one_more : (b : Bool) (e : ℕ) (u : Lists) (r : Record) (rs : List Record) → u.authenticated ≡ s.authenticated
      → u.untrusted ≡ s.untrusted ++ e ∷ []
      → outer_record e v (pick b Authenticated Untrusted) ≡ r
      → marked v b u ++ rs ≡ marked v b s ++ r ∷ rs
  one_more true e u r rs g h w =
      rw (
        g,
        h,
        ← append_assoc s.authenticated s.untrusted (e ∷ []),
        map-append (λ (x : ℕ). outer_record x v Authenticated) (s.authenticated ++ s.untrusted) (e ∷ []),
        w,
      )
      (append_assoc (marked v true s) (r ∷ []) rs)
  one_more false e u r rs g h w =
      rw (
        g,
        h,
        map-append (λ (x : ℕ). outer_record x v Untrusted) s.untrusted (e ∷ []),
        w,
        ← append_assoc (map (λ (x : ℕ). outer_record x v Authenticated) s.authenticated)
            (map (λ (x : ℕ). outer_record x v Untrusted) s.untrusted) (r ∷ []),
      )
      (append_assoc (marked v false s) (r ∷ []) rs)

  -- all are authenticated
  all_marked : (b : Bool) (c : Option ℕ) (es : List ℕ) → marked v b (promoted s c es) ≡ marked v true s
  all_marked true c es = ap (λ (l : List ℕ). map (λ (e : ℕ). outer_record e v Authenticated) l) (append-nil (outer_of s))
  all_marked false c es = append-nil (map (λ (e : ℕ). outer_record e v Authenticated) (outer_of s))

-- what follows an item
module _ (i : Input) (at : ℕ) (f : Field) (xs : List Item) (rest : List ℕ)
    (e : drop at i.packet ≡ (bytes_of f ++ item_bytes xs) ++ rest) where
  here : drop at i.packet ≡ bytes_of f ++ (item_bytes xs ++ rest)
  here = e ∙ append_assoc (bytes_of f) (item_bytes xs) rest

  pub beyond : drop (at + length (bytes_of f)) i.packet ≡ item_bytes xs ++ rest
  beyond = next_here i.packet at i.version f (item_bytes xs ++ rest) here

  pub beyond_inside : at ≤ length i.packet → at + length (bytes_of f) ≤ length i.packet
  beyond_inside h = omega (arith, left_of i.packet at here, length-append (bytes_of f) (item_bytes xs ++ rest))

-- the outer records after items
pub outer_listed : (xs : List Item) (i : Input) (rest : List ℕ) (at : ℕ) (s : Lists) → length i.packet ≤ 65535
    → at ≤ length i.packet
    → drop at i.packet ≡ item_bytes xs ++ rest
    → Laid i s.seals xs rest
    → listed i.version (after_all i at s xs) ≡ marked i.version (opens xs) s ++ outer_records i.version at xs
unfolding outer_records
outer_listed [] i rest at s small inside e l = sym (append-nil (listed i.version s))
outer_listed (plain f ∷ xs) i rest at s small inside e l =
    let v = i.version in
    let entry = entry_of (length f.message) f.type at 0 in
    outer_listed xs i rest (at + length (bytes_of f)) (with_field s entry) small (beyond_inside i at f xs rest e inside)
    (beyond i at f xs rest e) l.3
    ∙ one_more v s (opens xs) entry (with_field s entry) (field_record v at f (trust_before xs)) (outer_records v (at + length (bytes_of f)) xs)
    refl refl (plain_record v f at l.1 (omega arith) (trust_before xs) l.2.not_sealed)
outer_listed (shut f ∷ xs) i rest at s small inside e l =
    let v = i.version in
    let entry = entry_of (length f.message) nts_encrypted_field at 0 in
    outer_listed xs i rest (at + length (bytes_of f)) (with_marker s entry) small (beyond_inside i at f xs rest e inside)
    (beyond i at f xs rest e) l.3
    ∙ one_more v s (opens xs) entry (with_marker s entry) (marker_record at f (trust_before xs)) (outer_records v (at + length (bytes_of f)) xs)
    refl refl (marker_record_law v f at l.1 (omega arith) (trust_before xs) l.2.sealed)
outer_listed (opened f fs ∷ xs) i rest at s small inside e l =
    let v = i.version in
    let u = lists_after i at s (opened f fs) in
    outer_listed xs i rest (at + length (bytes_of f)) u small (beyond_inside i at f xs rest e inside) (beyond i at f xs rest e) l.3
    ∙ ap (λ (z : List Record). z ++ outer_records v (at + length (bytes_of f)) xs)
    (all_marked v s (opens xs) (cookie_by (verdict_of i.lent s.seals) s.seals) (plaintext_entries s.seals 0 fs))

-- the inner records of a plaintext
plaintext_listed : (fs : List Field) (i : Input) (text : List ℕ) (k start at : ℕ) → All (Inner i.version) fs
    → drop at text ≡ joined fs
    → at ≤ length text
    → length text ≤ 65535
    → start_of i.lent k ≡ start
    → start + length text < 2 ^ 64
    → map (λ (x : ℕ). inner_record x i.version i.lent.starts) (plaintext_entries k at fs)
    ≡ plaintext_records i.version (start + at) fs
unfolding plaintext_records
plaintext_listed [] i text k start at each e inside small h room = refl
plaintext_listed (f ∷ fs) i text k start at each e inside small h room =
    let v = i.version in
    let left : length text - at ≡ length (bytes_of f) + length (joined fs) = left_of text at e ∙ length-append (bytes_of f) (joined fs) in
    let size = size_of f in
    let first = inner_record_law v f at each.0.shaped (omega arith) i.lent.starts k start h (omega arith) in
    let later =
    plaintext_listed fs i text k start (at + length (bytes_of f)) each.1 (next_here text at v f (joined fs) e) (omega arith) small h
    room in
    let place : start + (at + length (bytes_of f)) ≡ start + at + length (bytes_of f) = omega arith in
    rw (first, later, place)

-- the inner records after items
pub inner_listed : (xs : List Item) (i : Input) (rest : List ℕ) (at : ℕ) (s : Lists) → length i.lent.plain < 2 ^ 64
    → Laid i s.seals xs rest
    → Readied i s.seals xs
    → map (λ (x : ℕ). inner_record x i.version i.lent.starts) (after_all i at s xs).encrypted
    ≡ map (λ (x : ℕ). inner_record x i.version i.lent.starts) s.encrypted ++ inner_records i s.seals xs
unfolding inner_records
inner_listed [] i rest at s room l g = sym (append-nil _)
inner_listed (plain f ∷ xs) i rest at s room l g =
    inner_listed xs i rest (at + length (bytes_of f)) (lists_after i at s (plain f)) room l.3 g.1
inner_listed (shut f ∷ xs) i rest at s room l g =
    inner_listed xs i rest (at + length (bytes_of f)) (lists_after i at s (shut f)) room l.3 g.1
inner_listed (opened f fs ∷ xs) i rest at s room l g =
    let k = s.seals in
    let text = plaintext_of i.lent k in
    let place = g.0.inside l.2.says in
    let size = plaintext_length i k place in
    let short = g.0.short l.2.says in
    let start : start_of i.lent k + 0 ≡ start_of i.lent k = omega arith in
    let own =
    plaintext_listed fs i text k (start_of i.lent k) 0 l.2.filled.each l.2.filled.whole (omega arith) (omega arith) refl
    (omega arith) in
    inner_listed xs i rest (at + length (bytes_of f)) (lists_after i at s (opened f fs)) room l.3 g.1
    ∙ rw (map-append (λ (x : ℕ). inner_record x i.version i.lent.starts) s.encrypted (plaintext_entries k 0 fs), own, start)
    (append_assoc (map (λ (x : ℕ). inner_record x i.version i.lent.starts) s.encrypted)
    (plaintext_records i.version (start_of i.lent k) fs)
    (inner_records i (k + 1) xs))

-- the cookie and the failure after items
-- the last opened item decides, and where none is opened what was there before
cookie_listed : (xs : List Item) (i : Input) (at : ℕ) (s : Lists)
    → (after_all i at s xs).cookie ≡ pick (opens xs) (cookie_of i s.seals xs) s.cookie
unfolding cookie_of
cookie_listed [] i at s = refl
cookie_listed (plain f ∷ xs) i at s = cookie_listed xs i (at + length (bytes_of f)) (lists_after i at s (plain f))
cookie_listed (shut f ∷ xs) i at s = cookie_listed xs i (at + length (bytes_of f)) (lists_after i at s (shut f))
cookie_listed (opened f fs ∷ xs) i at s =
    cookie_listed xs i (at + length (bytes_of f)) (lists_after i at s (opened f fs))

none_opened : (xs : List Item) (i : Input) (k : ℕ) → pick (opens xs) (cookie_of i k xs) None ≡ cookie_of i k xs
unfolding cookie_of
none_opened [] i k = refl
none_opened (plain f ∷ xs) i k = none_opened xs i k
none_opened (shut f ∷ xs) i k = none_opened xs i (k + 1)
none_opened (opened f fs ∷ xs) i k = refl

pub cookie_reported : (xs : List Item) (i : Input) (at : ℕ) → (after_all i at empty xs).cookie ≡ cookie_of i 0 xs
cookie_reported xs i at = cookie_listed xs i at empty ∙ none_opened xs i 0

pub failed_listed : (xs : List Item) (i : Input) (at : ℕ) (s : Lists) → (after_all i at s xs).failed ≡ pick (fails xs) true s.failed
failed_listed [] i at s = refl
failed_listed (plain f ∷ xs) i at s = failed_listed xs i (at + length (bytes_of f)) (lists_after i at s (plain f))
failed_listed (shut f ∷ xs) i at s = failed_listed xs i (at + length (bytes_of f)) (lists_after i at s (shut f)) ∙ either (fails xs)
  where
    either : (b : Bool) → pick b true true ≡ true
    either true = refl
    either false = refl
failed_listed (opened f fs ∷ xs) i at s = failed_listed xs i (at + length (bytes_of f)) (lists_after i at s (opened f fs))
