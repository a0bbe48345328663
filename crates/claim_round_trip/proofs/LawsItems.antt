-- The items of a written packet, and when they are laid as a reader asks.
use Rattle.std.specs.Prelude.{◌≡◌, refl, Bool, true, false, ℕ, ◌+◌, ◌-◌, ◌≤◌, ◌<◌}
use Rattle.std.proofs.Common.{sym, ◌∙◌, arith, length-append}
use Rattle.std.proofs.Math.Path.{ap}
use mathlib.Core.List.{List, [], ◌∷◌, ◌++◌, append_assoc, append-nil}
use Rattle.std.proofs.Math.ListN.{length}
use Rattle.std.proofs.lemmas.List.{length-replicate}
use Rattle.base_answers.specs.Meant.{pick}
use Rattle.base_version.specs.declared.Version.{Version}
use Rattle.base_version.specs.declared.Version.TheVariants.{V4, V5}
use Rattle.base_rounding.specs.Meant.{rounded_up}
use Rattle.base_big_endian.specs.Meant.{big_endian}
use Rattle.base_big_endian.specs.Laws.{length_big_endian}
use Rattle.write_stage_two.specs.Meant.{padded, sealed_length, sealed_bytes}
use Rattle.write_stage_two.specs.Laws.{padded_length, sealed_length_law}
use Rattle.read_packet.specs.Meant.{Input}
use Rattle.layout.specs.Meant.{cutoff_of, Field, bytes_of, joined, Shaped}
use Rattle.field_contents.specs.Meant.{All}
use Rattle.field_sealed.specs.Meant.{Sealing}
use Rattle.claim_one_cut.specs.MeantCut.{Inner, Item, opened, field_of, item_bytes, Holds, outer_count, inner_count_of}
use Rattle.claim_one_cut.proofs.LawsLaid.{next, Laid, Readied}
use Rattle.claim_round_trip.specs.MeantWire.{zeros, seal_field}
use Rattle.claim_round_trip.specs.MeantSerialize.{seal_bytes}
use Rattle.claim_round_trip.specs.MeantReturning.{plains_then, sent_items, Ends, OpenedAgain}

bytes_some : (f : Field) → 4 ≤ length (bytes_of f)
bytes_some f =
    omega (
      arith,
      length-append (big_endian 2 f.type) (big_endian 2 (4 + length f.message) ++ (f.message ++ f.padding)),
      length-append (big_endian 2 (4 + length f.message)) (f.message ++ f.padding),
      length_big_endian 2 f.type,
      length_big_endian 2 (4 + length f.message),
    )

ends_long : (x : Item) (xs : List Item) → Ends V4 (x ∷ xs) → 24 < length (item_bytes (x ∷ xs))
ends_long x [] h = omega (arith, h, length-append (bytes_of (field_of x)) [])
ends_long x (y ∷ ys) h = omega (arith, ends_long y ys h, length-append (bytes_of (field_of x)) (item_bytes (y ∷ ys)))

starts : (v : Version) (x : Item) (xs : List Item) → Ends v (x ∷ xs) → cutoff_of v < length (item_bytes (x ∷ xs) ++ [])
starts V4 x xs h = rw (append-nil (item_bytes (x ∷ xs))) (ends_long x xs h)
starts V5 x xs h =
    rw (append-nil (item_bytes (x ∷ xs)))
    (omega (arith, bytes_some (field_of x), length-append (bytes_of (field_of x)) (item_bytes xs)))

ends_after : (v : Version) (x : Item) (xs : List Item) → Ends v (x ∷ xs) → Ends v xs
ends_after V4 x [] h = tt
ends_after V4 x (y ∷ ys) h = h
ends_after V5 x xs h = tt

-- shape and contents of each item, from sealed number k on
abbrev pub EachHolds : Input → ℕ → List Item → Type 0
EachHolds i k [] = Unit {0}
EachHolds i k (x ∷ xs) = Shaped i.version (field_of x) × Holds i k x × EachHolds i (next k x) xs

pub laid_items : (i : Input) (k : ℕ) (xs : List Item) → EachHolds i k xs → Ends i.version xs → Laid i k xs []
laid_items i k [] h e = tt
laid_items i k (x ∷ xs) h e =
    (starts i.version x xs e, h.0, h.1, laid_items i (next k x) xs h.2 (ends_after i.version x xs e))

pub plains_hold : (i : Input) (k : ℕ) (fs : List Field) (xs : List Item) → All (Inner i.version) fs → EachHolds i k xs
    → EachHolds i k (plains_then fs xs)
plains_hold i k [] xs h e = e
plains_hold i k (f ∷ fs) xs h e = (h.0.shaped, h.0.lawful, plains_hold i k fs xs h.1 e)

pub plains_bytes : (fs : List Field) (xs : List Item) → item_bytes (plains_then fs xs) ≡ joined fs ++ item_bytes xs
plains_bytes [] xs = refl
plains_bytes (f ∷ fs) xs =
    ap (λ (l : List ℕ). bytes_of f ++ l) (plains_bytes fs xs) ∙ sym (append_assoc (bytes_of f) (joined fs) (item_bytes xs))

pub plains_outer : (fs : List Field) (xs : List Item) → outer_count (plains_then fs xs) ≡ length fs + outer_count xs
plains_outer [] xs = omega arith
plains_outer (f ∷ fs) xs = omega (arith, plains_outer fs xs)

pub plains_inner : (fs : List Field) (xs : List Item) → inner_count_of (plains_then fs xs) ≡ inner_count_of xs
plains_inner [] xs = refl
plains_inner (f ∷ fs) xs = plains_inner fs xs

pub plains_readied : (i : Input) (k : ℕ) (fs : List Field) (xs : List Item) → Readied i k xs → Readied i k (plains_then fs xs)
plains_readied i k [] xs h = h
plains_readied i k (f ∷ fs) xs h = (tt, plains_readied i k fs xs h)

-- the sealed field
module _ (nonce ciphertext : List ℕ) where
  pub message_size : length (seal_field nonce ciphertext).message ≡ 4 + (rounded_up (length nonce) + rounded_up (length ciphertext))
  message_size =
      let n = big_endian 2 (length nonce) in
      let c = big_endian 2 (length ciphertext) in
      omega (
        arith,
        length-append n (c ++ (padded nonce ++ padded ciphertext)),
        length-append c (padded nonce ++ padded ciphertext),
        length-append (padded nonce) (padded ciphertext),
        length_big_endian 2 (length nonce),
        length_big_endian 2 (length ciphertext),
        padded_length nonce,
        padded_length ciphertext,
      )

  pub seal_bytes_law : sealed_bytes nonce ciphertext ≡ bytes_of (seal_field nonce ciphertext)
  unfolding sealed_bytes
  seal_bytes_law =
      let m = (seal_field nonce ciphertext).message in
      let e : sealed_length nonce ciphertext ≡ 4 + length m = omega (arith, message_size) in
      ap (λ (n : ℕ). big_endian 2 0x0404 ++ (big_endian 2 n ++ m)) e
      ∙ ap (λ (l : List ℕ). big_endian 2 0x0404 ++ (big_endian 2 (4 + length m) ++ l)) (sym (append-nil m))

  pub seal_shaped : (v : Version) → length (sealed_bytes nonce ciphertext) ≤ 65535 → Shaped v (seal_field nonce ciphertext)
  seal_shaped v h = record {
    type_fits = omega arith;
    length_fits = omega (arith, h, sealed_length_law nonce ciphertext, message_size);
    short = omega arith;
    even = omega (arith, message_size);
    none_in_v4 = λ _. refl;
  }

  pub seal_sealing : length (sealed_bytes nonce ciphertext) ≤ 65535 → Sealing (seal_field nonce ciphertext).message
  seal_sealing h = record {
    nonce = nonce;
    filler = zeros (rounded_up (length nonce) - length nonce);
    ciphertext = ciphertext;
    rest = zeros (rounded_up (length ciphertext) - length ciphertext);
    nonce_fits = omega (arith, h, sealed_length_law nonce ciphertext);
    ciphertext_fits = omega (arith, h, sealed_length_law nonce ciphertext);
    short = omega (arith, length-replicate {A = ℕ} (rounded_up (length nonce) - length nonce) 0);
    even = omega (arith, length-replicate {A = ℕ} (rounded_up (length nonce) - length nonce) 0);
    whole =
        ap (λ (l : List ℕ). big_endian 2 (length nonce) ++ (big_endian 2 (length ciphertext) ++ l))
        (append_assoc nonce (zeros (rounded_up (length nonce) - length nonce)) (padded ciphertext));
  }

-- all items one after the other, which are those that are sent: without a sealed field there are none before it
abbrev pub in_order_of : Bool → List ℕ → List ℕ → List Field → List Field → List Field → List Item
in_order_of seal nonce ciphertext authenticated encrypted untrusted =
    plains_then authenticated
    (pick seal (opened (seal_field nonce ciphertext) encrypted ∷ plains_then untrusted []) (plains_then untrusted []))

pub sent_in_order : (seal : Bool) (nonce ciphertext : List ℕ) (xs es us : List Field) → (seal ≡ false → xs ≡ [])
    → in_order_of seal nonce ciphertext xs es us ≡ sent_items seal nonce ciphertext xs es us
sent_in_order true nonce ciphertext xs es us h = refl
sent_in_order false nonce ciphertext xs es us h = rw (h refl) refl

module _ (nonce ciphertext : List ℕ) (xs es us : List Field) where
  pub sent_bytes : (seal : Bool) → item_bytes (in_order_of seal nonce ciphertext xs es us)
      ≡ joined xs ++ (seal_bytes seal nonce ciphertext ++ joined us)
  sent_bytes true =
      plains_bytes xs (opened (seal_field nonce ciphertext) es ∷ plains_then us [])
      ∙ ap (λ (l : List ℕ). joined xs ++ (bytes_of (seal_field nonce ciphertext) ++ l)) (plains_bytes us [] ∙ append-nil (joined us))
      ∙ ap (λ (l : List ℕ). joined xs ++ (l ++ joined us)) (sym (seal_bytes_law nonce ciphertext))
  sent_bytes false =
      plains_bytes xs (plains_then us [])
      ∙ ap (λ (l : List ℕ). joined xs ++ l) (plains_bytes us [] ∙ append-nil (joined us))

  pub sent_outer : (seal : Bool) → outer_count (in_order_of seal nonce ciphertext xs es us) ≡ length xs + length us
  sent_outer true =
      omega (arith, plains_outer xs (opened (seal_field nonce ciphertext) es ∷ plains_then us []), plains_outer us [])
  sent_outer false = omega (arith, plains_outer xs (plains_then us []), plains_outer us [])

  pub sent_inner : (seal : Bool) → inner_count_of (in_order_of seal nonce ciphertext xs es us) ≤ length es
  sent_inner true =
      omega (arith, plains_inner xs (opened (seal_field nonce ciphertext) es ∷ plains_then us []), plains_inner us [])
  sent_inner false = omega (arith, plains_inner xs (plains_then us []), plains_inner us [])

  module _ (i : Input) (hx : All (Inner i.version) xs) (he : All (Inner i.version) es) (hu : All (Inner i.version) us) where
    pub sent_hold : (seal : Bool) → length (seal_bytes seal nonce ciphertext) ≤ 65535
        → (seal ≡ true → OpenedAgain i (joined es))
        → EachHolds i 0 (in_order_of seal nonce ciphertext xs es us)
    sent_hold true h o =
        let w = o refl in
        plains_hold i 0 xs (opened (seal_field nonce ciphertext) es ∷ plains_then us []) hx (
          seal_shaped nonce ciphertext i.version h,
          record {
            sealed = refl;
            sealing = seal_sealing nonce ciphertext h;
            says = w.says;
            filled = record { whole = w.same; each = he };
          },
          plains_hold i 1 us [] hu tt,
        )
    sent_hold false h o = plains_hold i 0 xs (plains_then us []) hx (plains_hold i 0 us [] hu tt)

  pub sent_readied : (i : Input) (seal : Bool) → (seal ≡ true → OpenedAgain i (joined es))
      → Readied i 0 (in_order_of seal nonce ciphertext xs es us)
  sent_readied i true o =
      plains_readied i 0 xs (opened (seal_field nonce ciphertext) es ∷ plains_then us []) ((o refl).ready, plains_readied i 1 us [] tt)
  sent_readied i false o = plains_readied i 0 xs (plains_then us []) (plains_readied i 0 us [] tt)
