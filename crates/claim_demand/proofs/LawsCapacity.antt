-- How many fields are read, from the record of demand 3 alone: for any answer and any tables. No line here knows how the reader
-- works. All packets are V5 without a header.
use Rattle.std.specs.Prelude.{None, ◌≡◌, refl, false, List, [], ◌∷◌, ℕ, zero, suc, ◌+◌, ◌*◌, ◌≤◌, length}
use Rattle.std.proofs.Common.{sym, ap, ◌∙◌, append-nil, arith, take_all}
use Rattle.base_answers.specs.declared.Refusal.TheVariants.{TooManyFields}
use Rattle.base_big_endian.specs.Meant.{big_endian}
use Rattle.base_version.specs.declared.Version.TheVariants.{V5}
use Rattle.read_entries.specs.Meant.{capacity}
use Rattle.read_opening.specs.Meant.{lent_of}
use Rattle.read_packet.specs.Meant.{Input, input_of}
use Rattle.read_packet.specs.declared.Read.{Read}
use Rattle.read_packet.specs.declared.Read.TheVariants.{Accepted, Refused}
use Rattle.layout.specs.Meant.{Field, bytes_of, joined, Front}
use Rattle.field_contents.specs.Meant.{All, Lawful}
use Rattle.claim_one_cut.specs.MeantCut.{Item, plain, opened, Inner, plaintext_of, Ready, outer_count, inner_count_of}
use Rattle.claim_one_cut.specs.MeantFaults.{no_room, seal, within, stopped}
use Rattle.claim_one_cut.specs.MeantReport.{opens, fails, cookie_of, HasCut}
use Rattle.claim_one_cut.proofs.LawsLaid.{Laid, led, Readied, supplied}
use Rattle.claim_one_cut.proofs.LawsCopies.{copies, copies_number, copies_size, last_copy, alike, fields_alike, identifier_shaped, empty_seal_shaped}
use Rattle.claim_one_cut.proofs.LawsExamples.{input, identifier, empty_seal, empty_sealing}
use Rattle.claim_demand.specs.Meant.{Demand3, authenticated_in, untrusted_in, blank}

-- a field of four bytes, so many times
abbrev pub many : ℕ → List Field
many = copies identifier

abbrev items : ℕ → List Item
items = alike (plain identifier)

lawful : Lawful V5 identifier
lawful = record {
  not_sealed = λ e. omega arith;
  placeholder = λ e. absurd (omega arith);
  identification = λ _ e. absurd (omega arith);
  request = λ _ e. absurd (omega arith);
}

size : (n : ℕ) → length (joined (many n)) ≡ n * 4
unfolding big_endian
size = copies_size identifier

front : Front V5 (bytes_of identifier) identifier
front = record { later = []; shaped = identifier_shaped; whole = sym (append-nil (bytes_of identifier)) }

-- OUTER ITEMS

-- a packet of so many fields
abbrev pub outer : ℕ → Input
outer n = input V5 (joined (many n)) []

outer_laid : (m k n : ℕ) (rest : List ℕ) → Laid (outer m) k (items n) rest
unfolding big_endian
outer_laid m k zero rest = tt
outer_laid m k (suc n) rest = (omega arith, identifier_shaped, lawful, outer_laid m k n rest)

outer_readied : (m k n : ℕ) → Readied (outer m) k (items n)
outer_readied m k zero = tt
outer_readied m k (suc n) = (tt, outer_readied m k n)

-- what is counted among them
record Counted (n : ℕ) : Type 0 where
  pub outers : outer_count (items n) ≡ n
  pub inners : inner_count_of (items n) ≡ 0
  pub none_opened : opens (items n) ≡ false
  pub none_failed : fails (items n) ≡ false
  pub none_authenticated : authenticated_in (items n) ≡ 0
  pub all_untrusted : untrusted_in (items n) ≡ n
  pub no_cookie : (i : Input) → cookie_of i 0 (items n) ≡ None

counted : (n : ℕ) → Counted n
unfolding cookie_of
counted zero = record {
  outers = refl;
  inners = refl;
  none_opened = refl;
  none_failed = refl;
  none_authenticated = refl;
  all_untrusted = refl;
  no_cookie = λ i. refl;
}
counted (suc n) =
    let c = counted n in
    record {
      outers = ap suc c.outers;
      inners = c.inners;
      none_opened = c.none_opened;
      none_failed = c.none_failed;
      none_authenticated = rw c.none_opened (omega (arith, c.none_authenticated));
      all_untrusted = rw c.none_opened (omega (arith, c.all_untrusted));
      no_cookie = c.no_cookie;
    }

outer_cut : (n : ℕ) → n ≤ capacity → HasCut (outer n)
outer_cut n h = record {
  items = items n;
  rest = [];
  cut = record {
    led =
        led (outer n) (items n) []
        (rw (fields_alike (plain identifier) n) (sym (append-nil (joined (many n)))))
        (outer_laid n 0 n []);
    over = omega arith;
  };
  supplied = supplied (outer n) (items n) (outer_readied n 0 n);
  within = record {
    packet = omega (arith, size n);
    header_size = omega arith;
    outer = omega (arith, (counted n).outers);
    inner = omega (arith, (counted n).inners);
  };
}

-- all that fit are read
pub outer_read : (n : ℕ) → n ≤ capacity → (r : Read) {o t : List ℕ} → Demand3 (outer n) r o t → r ≡ Accepted 0 n 0 0 None
unfolding outer_cut
outer_read n h r d =
    let c = counted n in
    (d.reports_the_cut (outer_cut n h)).answer
    ∙ rw (c.none_failed, c.none_authenticated, c.all_untrusted, c.inners, c.no_cookie (outer n)) refl

-- one more is refused at its place
pub outer_refused : (n : ℕ) → n ≡ capacity → (r : Read) {o t : List ℕ} → Demand3 (outer (suc n)) r o t → r ≡ Refused TooManyFields (n * 4)
unfolding big_endian
outer_refused n h r d =
    let i = outer (suc n) in
    let c = counted n in
    (d.refuses_exactly TooManyFields (n * 4)).1
    (stopped (omega (arith, size (suc n))) (omega arith) (record {
      items = items n;
      left = bytes_of identifier;
      led =
          led i (items n) (bytes_of identifier) (rw (fields_alike (plain identifier) n) (last_copy identifier n)) (outer_laid (suc n) 0 n (bytes_of identifier));
      supplied = supplied i (items n) (outer_readied (suc n) 0 n);
      outer = omega (arith, c.outers);
      inner = omega (arith, c.inners);
      starts = omega arith;
      fault = no_room identifier front lawful (omega (arith, c.outers));
      place = rw (fields_alike (plain identifier) n) (omega (arith, size n));
    }))

-- INNER FIELDS

-- a packet of one sealed field, whose plaintext has so many fields
abbrev pub inner : ℕ → Input
inner n = input_of (bytes_of empty_seal) 0 V5 (lent_of (2 ∷ []) (0 ∷ []) (n * 4 ∷ []) (joined (many n)))

plaintext_is : (n : ℕ) → plaintext_of (inner n).lent 0 ≡ joined (many n)
plaintext_is n = take_all (n * 4) (joined (many n)) (omega (arith, size n))

each_inner : (n : ℕ) → All (Inner V5) (many n)
each_inner zero = tt
each_inner (suc n) = (record { shaped = identifier_shaped; lawful = lawful }, each_inner n)

-- the result can be used, also where the plaintext has one field too many
inner_ready : (n : ℕ) → n ≤ capacity + 1 → Ready (inner n) 0
inner_ready n h = record {
  lent = omega arith;
  known = omega arith;
  short = λ _. omega arith;
  inside = λ _. omega (arith, size n);
}

inner_cut : (n : ℕ) → n ≤ capacity → HasCut (inner n)
unfolding big_endian
inner_cut n h = record {
  items = opened empty_seal (many n) ∷ [];
  rest = [];
  cut = record {
    led =
        led (inner n) (opened empty_seal (many n) ∷ []) [] refl (
          omega arith,
          empty_seal_shaped,
          record {
            sealed = refl;
            sealing = empty_sealing;
            says = omega arith;
            filled = record { whole = plaintext_is n; each = each_inner n };
          },
          tt,
        );
    over = omega arith;
  };
  supplied = supplied (inner n) (opened empty_seal (many n) ∷ []) (inner_ready n (omega arith), tt);
  within = record { packet = omega arith; header_size = omega arith; outer = omega arith; inner = omega (arith, copies_number identifier n) };
}

-- all that fit are read
pub inner_read : (n : ℕ) → n ≤ capacity → (r : Read) {o t : List ℕ} → Demand3 (inner n) r o t → r ≡ Accepted 0 0 n 0 None
unfolding cookie_of inner_cut
inner_read n h r d =
    let count : length (many n) + 0 ≡ n = omega (arith, copies_number identifier n) in
    (d.reports_the_cut (inner_cut n h)).answer ∙ rw count refl

-- one more is refused at its sealed field
pub inner_refused : (n : ℕ) → n ≡ capacity → (r : Read) {o t : List ℕ} → Demand3 (inner (suc n)) r o t → r ≡ Refused TooManyFields 0
unfolding big_endian
inner_refused n h r d =
    (d.refuses_exactly TooManyFields 0).1
    (stopped (omega arith) (omega arith) (record {
      items = [];
      left = bytes_of empty_seal;
      led = led (inner (suc n)) [] (bytes_of empty_seal) refl tt;
      supplied = supplied (inner (suc n)) [] tt;
      outer = omega arith;
      inner = omega arith;
      starts = omega arith;
      fault =
          seal empty_seal
          (record {
            later = [];
            shaped = empty_seal_shaped;
            whole = refl;
          })
          refl
          (within empty_sealing (inner_ready (suc n) (omega arith)) (omega arith) (record {
            fields = many n;
            left = bytes_of identifier;
            whole = plaintext_is (suc n) ∙ last_copy identifier n;
            each = each_inner n;
            room = omega (arith, copies_number identifier n);
            some_left = omega arith;
            fault = no_room identifier front lawful (omega (arith, copies_number identifier n));
          }));
      place = refl;
    }))

-- THE NUMBERS of request (vi): 128 of each are read, a 129th is refused, and 128 entries are blank where nothing is read

pub items_128 : (r : Read) {o t : List ℕ} → Demand3 (outer 128) r o t → r ≡ Accepted 0 128 0 0 None
items_128 = outer_read 128 (omega arith)

pub items_129 : (r : Read) {o t : List ℕ} → Demand3 (outer 129) r o t → r ≡ Refused TooManyFields 512
items_129 = outer_refused 128 refl

pub fields_128 : (r : Read) {o t : List ℕ} → Demand3 (inner 128) r o t → r ≡ Accepted 0 0 128 0 None
fields_128 = inner_read 128 (omega arith)

pub fields_129 : (r : Read) {o t : List ℕ} → Demand3 (inner 129) r o t → r ≡ Refused TooManyFields 0
fields_129 = inner_refused 128 refl

pub blank_128 : (r : Read) {o t : List ℕ} → Demand3 (outer 0) r o t → (o ≡ blank 128) × (t ≡ blank 128)
unfolding outer_cut
blank_128 r d =
    let none_there = outer_cut 0 (omega arith) in
    ((d.reports_the_cut none_there).outer_blank, (d.reports_the_cut none_there).inner_blank)
