-- The claims of the journal. Those about a recovery hold of every image; the others of every image that is reached.
use Rattle.std.specs.Prelude.{◌≡◌, refl, Bool, true, false, not, List, [], ◌∷◌, ◌++◌, ℕ, ◌+◌, ◌-◌, ◌≤◌, ◌<◌, eqb, ltb, take, drop, Some, None, Result, Ok, Err}
use Rattle.std.proofs.Common.{sym, ◌∙◌, append-nil, append_assoc, arith, eqb-true, ltb-true, ltb-false, length-append, length-drop, get_or-drop}
use Rattle.std.proofs.Math.Path.{ap}
use Rattle.std.proofs.lemmas.Bool.{eqb-false}
use Rattle.std.proofs.Math.ListN.{length, replicate}
use Rattle.std.proofs.lemmas.List.{length-replicate}
use Rattle.base_answers.specs.Meant.{pick, ◌⇒◌, first_of}
use Rattle.base_answers.specs.declared.Refusal.{Refusal}
use Rattle.base_answers.specs.declared.Refusal.TheVariants.{PacketTooLong, NoRoom, CannotBeMade}
use Rattle.journal.specs.Meant.{blank_byte, Entry, is_named, Named, entry_len, entry_bytes, entries_bytes, AllNamed, none, one, Holds, torn_len_of, append_store, recovery_store, performed, found_at, start_at, entry_read, Left, left}
use Rattle.journal.specs.Model.{found_in, start_in, entry_in, body_in, append_in, append_to, recover_in, recover_to}
use Rattle.claim_journal.proofs.LawsHolds.{some_holds, ends_len}
use Rattle.claim_journal.proofs.LawsMeaning.{long_find, long_start, find_is, start_is, entry_is, body_is, no_entry, no_body, body_at}
use Rattle.claim_journal.proofs.LawsPerformed.{length_performed}
use Rattle.journal.specs.declared.Found.{Found}
use Rattle.journal.specs.declared.Start.{Start}
use Rattle.claim_journal.specs.Meant.{Phase, ready, cut, added, recovered, Reached, blank, append, recovery, append_call, recover_call, Finds}
use Rattle.claim_journal.proofs.LawsTails.{Nothing, Blank, torn_nothing, blank_torn, blank_is, blanks, holds_tail, append_early, append_done, recovery_done, recovery_early}

-- ---- a recovery, of any image

-- what an answer says
abbrev offset_in : Result Start Refusal → ℕ
offset_in (Ok x) = x.entry_offset
offset_in (Err r) = 0

abbrev count_in : Result Start Refusal → ℕ
count_in (Ok x) = x.store_count
count_in (Err r) = 0

abbrev next_in : Result Found Refusal → ℕ
next_in (Ok x) = x.next_offset
next_in (Err r) = 0

abbrev torn_in : Result Found Refusal → ℕ
torn_in (Ok x) = x.torn_len
torn_in (Err r) = 0

abbrev is_found : Result Found Refusal → ℕ
is_found (Ok x) = 1
is_found (Err r) = 0

abbrev is_started : Result Start Refusal → ℕ
is_started (Ok x) = 1
is_started (Err r) = 0

not_found : {a b c : ℕ} {r : Refusal} → ◌≡◌ {A = Result Found Refusal} (Err r) (Ok (found_at a b c)) → ⊥
not_found e = let w : ◌≡◌ {A = ℕ} 0 1 = ap is_found e in omega arith

not_started : {a b : ℕ} {r : Refusal} → ◌≡◌ {A = Result Start Refusal} (Err r) (Ok (start_at a b)) → ⊥
not_started e = let w : ◌≡◌ {A = ℕ} 0 1 = ap is_started e in omega arith

-- only an image of at most 32,768 bytes is searched
pub found_short : (s : List ℕ) {a b c : ℕ} → found_in s ≡ Ok (found_at a b c) → length s ≤ 32768
found_short s e = go (ltb 32768 (length s)) refl
  where
    go : (b : Bool) → ltb 32768 (length s) ≡ b → length s ≤ 32768
    go true q = absurd (not_found (sym (long_find s (ltb-true _ _ q)) ∙ e))
    go false q = ltb-false _ _ q

module _ {s : List ℕ} {es : List Entry} {rest : List ℕ} (h : Holds s es rest) (l : length s ≤ 32768) where
  -- A recovery answers how many entries there are, where they end and how much it erased; it leaves them and blank bytes.
  pub recovers : recover_in s ≡ left (Ok (found_at (length es) (length (entries_bytes es)) (torn_len_of rest))) (entries_bytes es ++ replicate (length rest) blank_byte)
  unfolding recover_in
  recovers =
      let n = length (entries_bytes es) in
      let d : performed (torn_len_of rest) (recovery_store n (torn_len_of rest)) s ≡ entries_bytes es ++ replicate (length rest) blank_byte =
      ap (performed (torn_len_of rest) (recovery_store n (torn_len_of rest))) h.whole ∙
      recovery_done (entries_bytes es) rest (rw h.whole at l) in
      rw (find_is h l) (ap (left (Ok (found_at (length es) n (torn_len_of rest)))) d)

  -- After its first stores, as many as one likes, no entry is lost and none is made,
  pub cut_recovery : (m : ℕ) → m ≤ torn_len_of rest → Finds (performed m (recovery_store (length (entries_bytes es)) (torn_len_of rest)) s) es
  cut_recovery m g =
      let n = length (entries_bytes es) in
      let t = recovery_early (entries_bytes es) rest m (torn_len_of rest) g (ends_len rest h.ends) in
      let w : performed m (recovery_store n (torn_len_of rest)) s ≡ entries_bytes es ++ t.tail =
      ap (performed m (recovery_store n (torn_len_of rest))) h.whole ∙ t.whole in
      let k = holds_tail w h.each t.prop in
      record { rest = t.tail; holds = k; answer = find_is k }

length_holds : {s : List ℕ} {es : List Entry} {rest : List ℕ} → Holds s es rest → length s ≡ length (entries_bytes es) + length rest
length_holds {es = es} {rest = rest} h = ap length h.whole ∙ length-append (entries_bytes es) rest

recovered_image : {s : List ℕ} {es : List Entry} {rest : List ℕ} → Holds s es rest → length s ≤ 32768
    → (recover_in s).image ≡ entries_bytes es ++ replicate (length rest) blank_byte
recovered_image h l = ap (λ (r : Left (Result Found Refusal)). r.image) (recovers h l)

-- and recovering then leaves the same image.
pub recover_again : {s : List ℕ} {es : List Entry} {rest : List ℕ} → Holds s es rest → length s ≤ 32768 → (m : ℕ) → m ≤ torn_len_of rest
    → (recover_in (performed m (recovery_store (length (entries_bytes es)) (torn_len_of rest)) s)).image ≡ (recover_in s).image
recover_again {s} {es} {rest} h l m g =
    let plan = recovery_store (length (entries_bytes es)) (torn_len_of rest) in
    let f = cut_recovery h l m g in
    let n : length (performed m plan s) ≡ length s = length_performed m plan s in
    let e : length f.rest ≡ length rest = omega (arith, length_holds h, length_holds f.holds) in
    recovered_image f.holds (omega arith) ∙ rw e (sym (recovered_image h l))

-- A longer image is left as it is.
pub long_recover : (s : List ℕ) → 32768 < length s → recover_in s ≡ left (Err PacketTooLong) s
unfolding recover_in
long_recover s h = rw (long_find s h)

pub long_append : (s : List ℕ) (kind : ℕ) (body : List ℕ) → 32768 < length s → append_in s kind body ≡ left (Err PacketTooLong) s
unfolding append_in
long_append s kind body h = rw (long_start s kind body h)

blank_holds : {es : List Entry} (n : ℕ) → AllNamed es → Holds (entries_bytes es ++ replicate n blank_byte) es (replicate n blank_byte)
blank_holds n a = holds_tail refl a (torn_nothing (blank_torn (blanks n)))

-- Recovering twice is recovering once: of every image.
pub twice : (s : List ℕ) → (recover_in (recover_in s).image).image ≡ (recover_in s).image
twice s = go (ltb 32768 (length s)) refl
  where
    go : (b : Bool) → ltb 32768 (length s) ≡ b → (recover_in (recover_in s).image).image ≡ (recover_in s).image
    go true q = ap (λ (r : Left (Result Found Refusal)). (recover_in r.image).image) (long_recover s (ltb-true _ _ q))
    go false q =
        let l : length s ≤ 32768 = ltb-false _ _ q in
        let x = some_holds s in
        let h = x.holds in
        let i = recovered_image h l in
        let k = blank_holds (length x.rest) h.each in
        let n = length_holds h in
        let g : length (entries_bytes x.found ++ replicate (length x.rest) blank_byte) ≤ 32768 =
        rw (length-append (entries_bytes x.found) (replicate (length x.rest) blank_byte), length-replicate (length x.rest) blank_byte) (omega arith) in
        ap (λ (t : List ℕ). (recover_in t).image) i ∙ recovered_image k g ∙ rw (length-replicate (length x.rest) blank_byte) (sym i)

-- ---- the images that are reached

-- blank after the entries where a host may append; after a cut, no more than that no entry stands there
abbrev TailIn : Phase → List ℕ → Type 0
TailIn ready t = Blank t
TailIn cut t = Nothing t

record Kept (p : Phase) (es : List Entry) (s : List ℕ) : Type 0 where
  rest : List ℕ
  holds : Holds s es rest
  tail : TailIn p rest

nothing_in : (p : Phase) (t : List ℕ) → TailIn p t → Nothing t
nothing_in ready t x = torn_nothing (blank_torn x)
nothing_in cut t x = x

kept_found : {p : Phase} {es : List Entry} {s : List ℕ} → Kept p es s → Finds s es
kept_found k = record { rest = k.rest; holds = k.holds; answer = find_is k.holds }

-- what an append that is let through has
record Lets (e : Entry) (rest : List ℕ) (s : List ℕ) (offset count : ℕ) (es : List Entry) : Type 0 where
  short : length s ≤ 32768
  named : is_named e.kind (length e.body) ≡ true
  room : entry_len e ≤ length rest
  where_to : offset ≡ length (entries_bytes es)
  how_many : count ≡ entry_len e

lets : {s : List ℕ} {es : List Entry} {rest : List ℕ} (e : Entry) {offset count : ℕ} → Holds s es rest
    → start_in s e.kind e.body ≡ Ok (start_at offset count) → Lets e rest s offset count es
lets {s} {es} {rest} e {offset} {count} h q = go (ltb 32768 (length s)) refl
  where
    named_room : length s ≤ 32768 → (a : Bool) → is_named e.kind (length e.body) ≡ a → (b : Bool) → ltb (length rest) (entry_len e) ≡ b
        → first_of (not a ⇒ Err CannotBeMade ∷ b ⇒ Err NoRoom ∷ []) (Ok (start_at (length (entries_bytes es)) (entry_len e))) ≡ Ok (start_at offset count)
        → Lets e rest s offset count es
    named_room l false x b y z = absurd (not_started z)
    named_room l true x true y z = absurd (not_started z)
    named_room l true x false y z = record { short = l; named = x; room = ltb-false _ _ y; where_to = sym (ap offset_in z); how_many = sym (ap count_in z) }

    go : (b : Bool) → ltb 32768 (length s) ≡ b → Lets e rest s offset count es
    go true x = absurd (not_started (sym (long_start s e.kind e.body (ltb-true _ _ x)) ∙ q))
    go false x =
        let l : length s ≤ 32768 = ltb-false _ _ x in
        named_room l (is_named e.kind (length e.body)) refl (ltb (length rest) (entry_len e)) refl (sym (start_is h e.kind e.body l) ∙ q)

entries_snoc : (es : List Entry) (e : Entry) → entries_bytes (es ++ e ∷ []) ≡ entries_bytes es ++ entry_bytes e
entries_snoc [] e = append-nil (entry_bytes e)
entries_snoc (x ∷ es) e =
    ap (λ (l : List ℕ). entry_bytes x ++ l) (entries_snoc es e) ∙ sym (append_assoc (entry_bytes x) (entries_bytes es) (entry_bytes e))

named_snoc : {es : List Entry} {e : Entry} → AllNamed es → Named e → AllNamed (es ++ e ∷ [])
named_snoc none n = one n none
named_snoc (one m d) n = one m (named_snoc d n)

blank_drop : (n : ℕ) (t : List ℕ) → Blank t → Blank (drop n t)
blank_drop n t b = record { all = λ i h. get_or-drop n t i 0 ∙ b.all (n + i) (let l = length-drop n t in omega arith) }

module _ {s : List ℕ} {es : List Entry} (k : Kept ready es s) (e : Entry) {offset count : ℕ} (q : start_in s e.kind e.body ≡ Ok (start_at offset count)) where
  full_append : Kept ready (es ++ e ∷ []) (performed count (append_store offset e.kind e.body) s)
  full_append =
      let x = lets e k.holds q in
      let t = k.rest in
      let xs = entries_bytes es in
      let d : performed (entry_len e) (append_store (length xs) e.kind e.body) s ≡ (xs ++ entry_bytes e) ++ drop (entry_len e) t =
      ap (performed (entry_len e) (append_store (length xs) e.kind e.body)) k.holds.whole ∙
      append_done xs t e x.named (rw k.holds.whole at x.short) x.room in
      let w : performed count (append_store offset e.kind e.body) s ≡ entries_bytes (es ++ e ∷ []) ++ drop (entry_len e) t =
      rw (x.where_to, x.how_many, entries_snoc es e) d in
      let b = blank_drop (entry_len e) t k.tail in
      record {
        rest = drop (entry_len e) t;
        holds = holds_tail w (named_snoc k.holds.each (record { named = x.named })) (torn_nothing (blank_torn b));
        tail = b;
      }

  part_append : (m : ℕ) → m < count → Kept cut es (performed m (append_store offset e.kind e.body) s)
  part_append m g =
      let x = lets e k.holds q in
      let xs = entries_bytes es in
      let t = append_early xs k.rest e x.named m (let c = x.how_many in omega arith) k.tail in
      let w : performed m (append_store offset e.kind e.body) s ≡ xs ++ t.tail =
      ap (λ (o : ℕ). performed m (append_store o e.kind e.body) s) x.where_to ∙
      ap (performed m (append_store (length xs) e.kind e.body)) k.holds.whole ∙
      t.whole in
      record { rest = t.tail; holds = holds_tail w k.holds.each (torn_nothing t.prop); tail = torn_nothing t.prop }

module _ {p : Phase} {s : List ℕ} {es : List Entry} (k : Kept p es s) {count next torn : ℕ} (q : found_in s ≡ Ok (found_at count next torn)) where
  short : length s ≤ 32768
  short = found_short s q

  same_next : next ≡ length (entries_bytes es)
  same_next = ap next_in (sym q ∙ find_is k.holds short)

  same_torn : torn ≡ torn_len_of k.rest
  same_torn = ap torn_in (sym q ∙ find_is k.holds short)

  full_recovery : Kept ready es (performed torn (recovery_store next torn) s)
  full_recovery =
      let xs = entries_bytes es in
      let t = k.rest in
      let w : performed torn (recovery_store next torn) s ≡ xs ++ replicate (length t) blank_byte =
      rw (same_next, same_torn) (ap (performed (torn_len_of t) (recovery_store (length xs) (torn_len_of t))) k.holds.whole ∙ recovery_done xs t (rw k.holds.whole at short)) in
      let b = blanks (length t) in
      record { rest = replicate (length t) blank_byte; holds = holds_tail w k.holds.each (torn_nothing (blank_torn b)); tail = b }

  part_recovery : (m : ℕ) → m ≤ torn → Kept cut es (performed m (recovery_store next torn) s)
  part_recovery m g =
      let xs = entries_bytes es in
      let t = recovery_early xs k.rest m torn g (nothing_in p k.rest k.tail) in
      let w : performed m (recovery_store next torn) s ≡ xs ++ t.tail =
      rw same_next (ap (performed m (recovery_store (length xs) torn)) k.holds.whole ∙ t.whole) in
      record { rest = t.tail; holds = holds_tail w k.holds.each t.prop; tail = t.prop }

reached_kept : {n : ℕ} {p : Phase} {es : List Entry} {s : List ℕ} → Reached n p es s → Kept p es s
unfolding append_in recover_in
reached_kept {n} blank = record { rest = replicate n blank_byte; holds = blank_holds n none; tail = blanks n }
reached_kept (append {es = es} {s = s} {offset = offset} {count = count} e m d q g) = go (reached_kept d) (eqb m count) refl
  where
    go : Kept ready es s → (b : Bool) → eqb m count ≡ b
        → Kept (pick b ready cut) (es ++ pick b (e ∷ []) []) (performed m (append_store offset e.kind e.body) s)
    go k true x = rw (eqb-true m count x) (full_append k e q)
    go k false x = rw (append-nil es) (part_append k e q m (less (eqb-false m count x)))
      where
        less : (m ≡ count → ⊥) → m < count
        less f = omega arith
reached_kept (recovery {p = p} {es = es} {s = s} {next = next} {torn = torn} m d q g) = go (reached_kept d) (eqb m torn) refl
  where
    go : Kept p es s → (b : Bool) → eqb m torn ≡ b → Kept (pick b ready cut) es (performed m (recovery_store next torn) s)
    go k true x = rw (eqb-true m torn x) (full_recovery k q)
    go k false x = part_recovery k q m g
reached_kept (append_call {es = es} {s = s} e d) = go (reached_kept d) (start_in s e.kind e.body) refl
  where
    go : Kept ready es s → (r : Result Start Refusal) → start_in s e.kind e.body ≡ r
        → Kept ready (es ++ added (append_to s e.kind e.body r).answer e) (append_to s e.kind e.body r).image
    go k (Ok x) q = full_append k e {offset = x.entry_offset} {count = x.store_count} q
    go k (Err r) q = rw (append-nil es) k
reached_kept (recover_call {p = p} {es = es} {s = s} d) = go (reached_kept d) (found_in s) refl
  where
    go : Kept p es s → (r : Result Found Refusal) → found_in s ≡ r → Kept (recovered (recover_to s r).answer p) es (recover_to s r).image
    go k (Ok x) q = full_recovery k {count = x.entry_count} {next = x.next_offset} {torn = x.torn_len} q
    go k (Err r) q = k

-- In every image that is reached exactly the entries are found whose append was completed, in their order, and their end is named.
pub finds : {n : ℕ} {p : Phase} {es : List Entry} {s : List ℕ} → Reached n p es s → Finds s es
finds d = kept_found (reached_kept d)

module _ {n : ℕ} {es : List Entry} {s : List ℕ} (d : Reached n ready es s) (e : Entry) {offset count : ℕ} (q : start_in s e.kind e.body ≡ Ok (start_at offset count)) where
  -- Cut before its last store, an append has changed nothing of them.
  pub cut_append : (m : ℕ) → m < count → Finds (performed m (append_store offset e.kind e.body) s) es
  cut_append m g = kept_found (part_append (reached_kept d) e q m g)

  -- Its last store adds its entry.
  pub whole_append : Finds (performed count (append_store offset e.kind e.body) s) (es ++ e ∷ [])
  whole_append = kept_found (full_append (reached_kept d) e q)

module _ {n : ℕ} {p : Phase} {es : List Entry} {s : List ℕ} (d : Reached n p es s) where
  -- Each of them is shown with its kind, its place and its body,
  pub shown : (k : ℕ) {e : Entry} {later : List Entry} → drop k es ≡ e ∷ later
      → (entry_in s k ≡ Some (entry_read e.kind (length (entries_bytes (take k es))) (length e.body))) × (body_in s k ≡ e.body)
  shown k q = let h = (reached_kept d).holds in (entry_is h k q, body_is h k q)

  -- Its body stands in the image after its length and kind, which is where a host looks.
  pub in_place : (k : ℕ) {e : Entry} {later : List Entry} → drop k es ≡ e ∷ later
      → take (length e.body) (drop (length (entries_bytes (take k es)) + 4) s) ≡ e.body
  in_place k q = body_at (reached_kept d).holds k q

  -- and nothing else is: a torn tail is never shown as an entry.
  pub nothing_else : (k : ℕ) → length es ≤ k → (entry_in s k ≡ None) × (body_in s k ≡ [])
  nothing_else k g = let h = (reached_kept d).holds in (no_entry h k g, no_body h k g)

-- Where a host may append, the image is its entries and then blank.
pub ready_is : {n : ℕ} {es : List Entry} {s : List ℕ} → Reached n ready es s
    → s ≡ entries_bytes es ++ replicate (length s - length (entries_bytes es)) blank_byte
ready_is {es = es} {s = s} d =
    let k = reached_kept d in
    let m : length s - length (entries_bytes es) ≡ length k.rest = omega (arith, length_holds k.holds) in
    k.holds.whole ∙ rw m (ap (λ (t : List ℕ). entries_bytes es ++ t) (blank_is k.rest k.tail))

-- An image keeps its length.
pub same_length : {n : ℕ} {p : Phase} {es : List Entry} {s : List ℕ} → Reached n p es s → length s ≡ n
unfolding append_in recover_in
same_length {n} blank = length-replicate n blank_byte
same_length (append {s = s} {offset = offset} e m d q g) = length_performed m (append_store offset e.kind e.body) s ∙ same_length d
same_length (recovery {s = s} {next = next} {torn = torn} m d q g) = length_performed m (recovery_store next torn) s ∙ same_length d
same_length (append_call {s = s} e d) = go (start_in s e.kind e.body) ∙ same_length d
  where
    go : (r : Result Start Refusal) → length (append_to s e.kind e.body r).image ≡ length s
    go (Ok x) = length_performed x.store_count (append_store x.entry_offset e.kind e.body) s
    go (Err r) = refl
same_length (recover_call {s = s} d) = go (found_in s) ∙ same_length d
  where
    go : (r : Result Found Refusal) → length (recover_to s r).image ≡ length s
    go (Ok x) = length_performed x.torn_len (recovery_store x.next_offset x.torn_len) s
    go (Err r) = refl
