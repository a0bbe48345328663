-- What a host gets of the sealed fields of a packet, for any answer and table that meet the claim of the survey.
use Rattle.std.specs.Prelude.{Result, ◌≡◌, refl, Bool, true, false, List, [], ◌∷◌, ◌++◌, ℕ, zero, suc, ◌+◌, ◌-◌, ◌≤◌, ◌<◌, ltb, eqb, length, get_or, take}
use Rattle.std.proofs.Common.{sym, ap, subst, ◌∙◌, append_assoc, arith, le-leb, ltb-true, ltb-false, eqb-true, length-append, length-drop}
use Rattle.std.proofs.Math.ListN.{length-take}
use Rattle.std.proofs.lemmas.List.{length-replicate}
use Rattle.std.proofs.Math.Seq.{get_or-take}
use Rattle.base_answers.specs.Meant.{pick}
use Rattle.base_answers.specs.declared.Refusal.{Refusal}
use Rattle.base_big_endian.specs.Meant.{big_endian}
use Rattle.base_big_endian.specs.Laws.{length_big_endian}
use Rattle.base_version.specs.declared.Version.{Version}
use Rattle.field_contents.specs.Meant.{IsSealed}
use Rattle.field_frame.specs.LawsLayout.{left_of}
use Rattle.field_kinds.specs.Meant.{nts_encrypted_field}
use Rattle.field_sealed.specs.Meant.{Sealing}
use Rattle.layout.specs.Meant.{Field, bytes_of, joined}
use Rattle.layout.proofs.Laws.{size_of}
use Rattle.read_entries.specs.Meant.{capacity}
use Rattle.read_entries.specs.Model.{unpacked}
use Rattle.read_entries.specs.LawsSlots.{missing, present}
use Rattle.read_survey.specs.Model.{seal_of}
use Rattle.read_survey.specs.declared.Seal.{Seal}
use Rattle.read_survey.specs.declared.SurveyFault.{SurveyFault}
use Rattle.read_survey.specs.Meant.{faulty_at}
use Rattle.claim_survey.specs.Meant.{seals_among, Names, Ends, complete, no_frame, no_sealing, no_room, SurveyLists}
use Rattle.host_packets.specs.Meant.{survey_row, no_seal, seal_row, seal_across}
use Rattle.host_packets.specs.declared.NtpSeal.{NtpSeal}
use Rattle.claim_trust.specs.MeantSurvey.{places_of, SealsTell, seal_reply}

-- lengths of fields one after the other, and of the message of a sealed one
joined_size : (xs : List Field) (f : Field) (ys : List Field)
    → length (joined (xs ++ (f ∷ ys))) ≡ length (joined xs) + length (bytes_of f) + length (joined ys)
joined_size [] f ys = omega (arith, length-append (bytes_of f) (joined ys))
joined_size (x ∷ xs) f ys =
    omega (
      arith,
      joined_size xs f ys,
      length-append (bytes_of x) (joined (xs ++ (f ∷ ys))),
      length-append (bytes_of x) (joined xs),
    )

sealing_size : (m : List ℕ) (s : Sealing m) → 4 + length s.nonce + length s.filler + length s.ciphertext ≤ length m
sealing_size m s =
    let parts = s.nonce ++ (s.filler ++ (s.ciphertext ++ s.rest)) in
    let size = ap (λ (l : List ℕ). length l) s.whole in
    omega (
      arith,
      length-append (big_endian 2 (length s.nonce)) (big_endian 2 (length s.ciphertext) ++ parts),
      length-append (big_endian 2 (length s.ciphertext)) parts,
      length-append s.nonce (s.filler ++ (s.ciphertext ++ s.rest)),
      length-append s.filler (s.ciphertext ++ s.rest),
      length-append s.ciphertext s.rest,
      length_big_endian 2 (length s.nonce),
      length_big_endian 2 (length s.ciphertext),
    )

-- how many sealed fields there are
seals_of_both : (xs : List Field) (f : Field) (ys : List Field) → IsSealed f → seals_among xs < seals_among (xs ++ (f ∷ ys))
seals_of_both [] f ys h = rw h (omega arith)
seals_of_both (x ∷ xs) f ys h = omega (arith, seals_of_both xs f ys h)

seals_sum : (xs ys : List Field) → seals_among (xs ++ ys) ≡ seals_among xs + seals_among ys
seals_sum [] ys = omega arith
seals_sum (x ∷ xs) ys = omega (arith, seals_sum xs ys)

at_most_one : (b : Bool) → pick b 1 0 ≤ 1
at_most_one true = omega arith
at_most_one false = omega arith

no_bytes : (fs : List Field) → length (joined fs) ≡ 0 → seals_among fs ≡ 0
no_bytes [] h = refl
no_bytes (f ∷ fs) h = absurd (omega (arith, length-append (bytes_of f) (joined fs), size_of f))

-- a sealed field among fields, where there is one
record OneSealed (fs : List Field) : Type 0 where
  before : List Field
  one : Field
  later : List Field
  split : fs ≡ before ++ (one ∷ later)
  sealed : IsSealed one

one_sealed : (fs : List Field) → 0 < seals_among fs → OneSealed fs
one_sealed [] h = absurd (omega arith)
one_sealed (f ∷ fs) h = go (eqb f.type nts_encrypted_field) refl (one_sealed fs)
  where
    go : (b : Bool) → eqb f.type nts_encrypted_field ≡ b → (0 < seals_among fs → OneSealed fs) → OneSealed (f ∷ fs)
    go true e further = record { before = []; one = f; later = fs; split = refl; sealed = eqb-true f.type nts_encrypted_field e }
    go false e further =
        let none_here : ◌≡◌ {A = ℕ} (pick (eqb f.type nts_encrypted_field) 1 0) 0 = rw e in
        let w : OneSealed fs = further (omega arith) in
        record {
          before = f ∷ w.before;
          one = w.one;
          later = w.later;
          split = ap (λ (l : List Field). f ∷ l) w.split;
          sealed = w.sealed;
        }

-- what lies past a table is read as a blank entry, which names a place without any byte before it
past_table : (t : List ℕ) (k : ℕ) → length t ≤ k → get_or t k 0 ≡ 0
past_table [] k h = refl
past_table (x ∷ t) zero h = absurd (omega arith)
past_table (x ∷ t) (suc k) h = past_table t k (omega arith)

blank_entry : (seal_of 0).associated_data_len ≡ 0
unfolding seal_of unpacked
blank_entry = refl

-- the count that the survey returned
count_returned : (v : Version) (left : List ℕ) (n offset : ℕ) (r : Result ℕ SurveyFault) → Ends v left n offset r → (survey_row r).seal_count ≡ n
count_returned v left n offset r (complete h) = refl
count_returned v left n offset r (no_frame a h) = refl
count_returned v left n offset r (no_sealing a f w s h) = refl
count_returned v left n offset r (no_room a f w s h q) = refl

module _ (packet : List ℕ) (header : ℕ) (v : Version) (r : Result ℕ SurveyFault) (t : List ℕ) (l : SurveyLists packet header v r t)
    (inside : header ≤ length packet) where
  abbrev count : ℕ
  count = seals_among l.fields

  counted : (survey_row r).seal_count ≡ count
  counted = count_returned v l.left count (header + length (joined l.fields)) r l.ends

  none_past : (k : ℕ) → count ≤ k → seal_reply packet r t k ≡ no_seal
  unfolding seal_across
  none_past k h = rw (counted, missing (take count t) k (omega (arith, length-take count t)))

  module _ (before : List Field) (f : Field) (later : List Field) (split : l.fields ≡ before ++ (f ∷ later)) (sealed : IsSealed f) where
    abbrev k : ℕ
    k = seals_among before

    abbrev entry : Seal
    entry = seal_of (get_or t k 0)

    named : Names packet (header + length (joined before)) f entry
    named = l.names before f later split sealed

    below : k < count
    below = omega (arith, seals_of_both before f later sealed, ap (λ (z : List Field). seals_among z) split)

    -- an entry that is not there would name a field with no byte before it
    nothing_before : length t ≤ k → header + length (joined before) ≡ 0
    nothing_before h =
        sym named.before
        ∙ ap (λ (z : ℕ). (seal_of z).associated_data_len) (past_table t k h)
        ∙ blank_entry

    ciphertext_inside : entry.ciphertext_offset + entry.ciphertext_len ≤ length packet
    ciphertext_inside =
        omega (
          arith,
          named.ciphertext_place,
          named.ciphertext_length,
          sealing_size f.message named.sealing,
          size_of f,
          joined_size before f later,
          ap (λ (z : List Field). length (joined z)) split,
          left_of packet header l.begins.whole,
          length-append (joined l.fields) l.left,
        )

    -- nor would it name the next sealed field, which has this one before it
    next_not_named : length t ≡ 0 → OneSealed later → ⊥
    next_not_named empty w =
        let place =
        split
        ∙ ap (λ (z : List Field). before ++ (f ∷ z)) w.split
        ∙ sym (append_assoc before (f ∷ w.before) (w.one ∷ w.later)) in
        let named-next = (l.names (before ++ (f ∷ w.before)) w.one w.later place w.sealed).before in
        let blank = past_table t (seals_among (before ++ (f ∷ w.before))) (omega arith) in
        omega (
          arith,
          named-next,
          ap (λ (z : ℕ). (seal_of z).associated_data_len) blank,
          blank_entry,
          joined_size before f w.before,
          size_of f,
        )

    -- the table has an entry for it: one that is too short would be empty, with `capacity` sealed fields to name
    no_table : length t ≤ k → ⊥
    no_table h =
        let first : k ≡ 0 = no_bytes before (omega (arith, nothing_before h)) in
        let others : 0 < seals_among later =
        omega (
          arith,
          l.room,
          ap (λ (z : List ℕ). length z) l.blank,
          length-drop count t,
          length-replicate {A = ℕ} (capacity - count) 0,
          ap (λ (z : List Field). seals_among z) split,
          seals_sum before (f ∷ later),
          at_most_one (eqb f.type nts_encrypted_field),
        ) in
        next_not_named (omega arith) (one_sealed later others)

    there : k < length t
    there = go (ltb k (length t)) refl
      where
        go : (b : Bool) → ltb k (length t) ≡ b → k < length t
        go true q = ltb-true k (length t) q
        go false q = absurd (no_table (ltb-false k (length t) q))

    row_there : seal_reply packet r t k ≡ seal_row (length packet) entry
    unfolding seal_across
    row_there =
        rw (counted, present (take count t) k (omega (arith, length-take count t, below, there)), get_or-take count t k 0 below)

    answered : (seal_row (length packet) entry).number ≡ 0
    unfolding seal_row
    answered = rw (le-leb (entry.ciphertext_offset + entry.ciphertext_len) (length packet) ciphertext_inside)

    placed : places_of (seal_row (length packet) entry) ≡ entry
    unfolding seal_row
    placed = rw (le-leb (entry.ciphertext_offset + entry.ciphertext_len) (length packet) ciphertext_inside)

-- for any answer and table that list the sealed fields
pub seals_come_back : (packet : List ℕ) (header : ℕ) (v : Version) (r : Result ℕ SurveyFault) (t : List ℕ) (l : SurveyLists packet header v r t)
    → header ≤ length packet
    → SealsTell packet header l.fields (seal_reply packet r t)
seals_come_back packet header v r t l inside = record {
  number = λ before f later q h.
      ap (λ (z : NtpSeal). z.number) (row_there packet header v r t l inside before f later q h)
      ∙ answered packet header v r t l inside before f later q h;
  names = λ before f later q h.
      subst (λ (z : Seal). Names packet (header + length (joined before)) f z)
      (sym (ap places_of (row_there packet header v r t l inside before f later q h)
      ∙ placed packet header v r t l inside before f later q h))
      (named packet header v r t l inside before f later q h);
  no_more = none_past packet header v r t l inside;
}

-- a survey that is refused before any field names none
pub none_come_back : (packet t : List ℕ) (q : Refusal) (offset k : ℕ) → seal_reply packet (faulty_at q offset 0) t k ≡ no_seal
unfolding seal_across
none_come_back packet t q offset k = rw (missing (take 0 t) k (omega (arith, length-take 0 t)))
