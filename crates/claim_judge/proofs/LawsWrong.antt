-- Wrong judges, refuted from the claim alone: each theorem holds of any word that is yes exactly to the cut. Packets have no header
-- where none is named.
use Rattle.std.specs.Prelude.{◌≡◌, Bool, true, false, ◌&&◌, ℕ, zero, suc, ◌+◌, ◌*◌, ◌≤◌, ◌<◌, ltb, length, replicate}
use Rattle.std.proofs.Math.Path.{refl}
use Rattle.std.proofs.Common.{sym, ap, arith, ltb-true}
use mathlib.Core.List.{List, [], ◌∷◌, append-nil}
use Rattle.base_big_endian.specs.Meant.{big_endian, number_at, Bytes}
use Rattle.base_sizes.specs.Meant.{most_bytes}
use Rattle.base_version.specs.declared.Version.{Version}
use Rattle.base_version.specs.declared.Version.TheVariants.{V4, V5}
use Rattle.field_frame.specs.Model.{frame_of, frame_at}
use Rattle.layout.specs.Meant.{Field, bytes_of, joined}
use Rattle.layout.proofs.Laws.{Along, each_of}
use Rattle.claim_one_cut.proofs.LawsCopies.{copies, copies_number, copies_size, empty_seal_shaped}
use Rattle.claim_one_cut.proofs.LawsExamples.{empty_seal}
use Rattle.judge.specs.Meant.{offsets_from, wire_lengths_of, TheCut, Says}
use Rattle.judge.specs.Model.{is_field, is_rest, are_fields, is_cut}
use Rattle.judge.proofs.Laws.{both}
use Rattle.judge.proofs.LawsExactly.{says, one_list}
use Rattle.claim_judge.proofs.LawsSurvey.{not_yes}

abbrev smalls : List ℕ → Bool
smalls [] = true
smalls (b ∷ bs) = ltb b 256 && smalls bs

small : (bs : List ℕ) → smalls bs ≡ true → Bytes bs
small [] e = tt
small (b ∷ bs) e =
    let l = both (ltb b 256) (smalls bs) e in
    (ltb-true b 256 l.0, small bs l.1)

-- two words for one list are the same
pub one_word : {so : Type 0} (w x : Bool) → Says w so → Says x so → w ≡ x
one_word w true s t = s.yes_if (t.yes_only_if refl)
one_word w false s t = not_yes w (λ e. let f = t.yes_if (s.yes_only_if e) in
    let z : ◌≡◌ {A = ℕ} 0 1 = cc in
    absurd (omega arith))

-- so the claim decides each word
decided : (p : List ℕ) → smalls p ≡ true → (header : ℕ) (v : Version) (os ns : List ℕ) (w : Bool) → Says w (TheCut p header v os ns)
    → w ≡ is_cut p header v os ns
decided p b header v os ns w s = one_word w (is_cut p header v os ns) s (says p (small p b) header v os ns)

-- a field of four bytes
abbrev four : List ℕ
four = 0 ∷ 1 ∷ 0 ∷ 4 ∷ []

module _ (w : Bool) where
  -- a remainder that is not looked at: 25 bytes in V4 hold a field, and in V5 a single byte does
  pub remainder_looked_at : Says w (TheCut (replicate 25 0) 0 V4 [] []) → w ≡ false
  unfolding is_cut are_fields is_rest
  remainder_looked_at s = decided (replicate 25 0) refl 0 V4 [] [] w s

  pub last_byte_looked_at : Says w (TheCut (0 ∷ 1 ∷ 0 ∷ 4 ∷ 0 ∷ []) 0 V5 (0 ∷ []) (4 ∷ [])) → w ≡ false
  unfolding is_cut are_fields is_field is_rest frame_at frame_of number_at
  last_byte_looked_at s = decided (0 ∷ 1 ∷ 0 ∷ 4 ∷ 0 ∷ []) refl 0 V5 (0 ∷ []) (4 ∷ []) w s

  -- less than 24: all of 24 bytes may be left over
  pub all_24_left : Says w (TheCut (replicate 24 0) 0 V4 [] []) → w ≡ true
  unfolding is_cut are_fields is_rest
  all_24_left s = decided (replicate 24 0) refl 0 V4 [] [] w s

  -- a length that is not rounded up
  abbrev padded : List ℕ
  padded = 0 ∷ 1 ∷ 0 ∷ 5 ∷ 7 ∷ 0 ∷ 0 ∷ 0 ∷ []

  pub rounded : Says w (TheCut padded 0 V5 (0 ∷ []) (8 ∷ [])) → w ≡ true
  unfolding is_cut are_fields is_field is_rest frame_at frame_of number_at
  rounded s = decided padded refl 0 V5 (0 ∷ []) (8 ∷ []) w s

  pub not_unrounded : Says w (TheCut padded 0 V5 (0 ∷ []) (5 ∷ [])) → w ≡ false
  unfolding is_cut are_fields is_field is_rest frame_at frame_of number_at
  not_unrounded s = decided padded refl 0 V5 (0 ∷ []) (5 ∷ []) w s

  -- the header not added: offsets count from the packet's first byte
  pub header_added : Says w (TheCut (9 ∷ 9 ∷ 9 ∷ 9 ∷ four) 4 V5 (4 ∷ []) (4 ∷ [])) → w ≡ true
  unfolding is_cut are_fields is_field is_rest frame_at frame_of number_at
  header_added s = decided (9 ∷ 9 ∷ 9 ∷ 9 ∷ four) refl 4 V5 (4 ∷ []) (4 ∷ []) w s

  pub not_from_the_header : Says w (TheCut (9 ∷ 9 ∷ 9 ∷ 9 ∷ four) 4 V5 (0 ∷ []) (4 ∷ [])) → w ≡ false
  unfolding is_cut are_fields is_field is_rest frame_at frame_of number_at
  not_from_the_header s = decided (9 ∷ 9 ∷ 9 ∷ 9 ∷ four) refl 4 V5 (0 ∷ []) (4 ∷ []) w s

  -- an empty list for a region that has a field
  pub not_empty : Says w (TheCut four 0 V5 [] []) → w ≡ false
  unfolding is_cut are_fields is_rest
  not_empty s = decided four refl 0 V5 [] [] w s

  -- a longer list whose prefix fits, whatever its last pair is
  pub not_longer : (o n : ℕ) → Says w (TheCut four 0 V5 (0 ∷ o ∷ []) (4 ∷ n ∷ [])) → w ≡ false
  unfolding is_cut are_fields is_field is_rest frame_at frame_of number_at
  not_longer o n s = decided four refl 0 V5 (0 ∷ o ∷ []) (4 ∷ n ∷ []) w s

  -- lists of unequal length, whichever is longer
  pub not_unequal : (n : ℕ) → Says w (TheCut four 0 V5 (0 ∷ []) (4 ∷ n ∷ [])) → w ≡ false
  unfolding is_cut are_fields is_field is_rest frame_at frame_of number_at
  not_unequal n s = decided four refl 0 V5 (0 ∷ []) (4 ∷ n ∷ []) w s

  pub not_unequal_either : (o : ℕ) → Says w (TheCut four 0 V5 (0 ∷ o ∷ []) (4 ∷ [])) → w ≡ false
  unfolding is_cut are_fields is_field is_rest frame_at frame_of number_at
  not_unequal_either o s = decided four refl 0 V5 (0 ∷ o ∷ []) (4 ∷ []) w s

  -- contents judged: a placeholder with another byte than zero passes
  pub contents_not_judged : Says w (TheCut (3 ∷ 4 ∷ 0 ∷ 8 ∷ 1 ∷ 0 ∷ 0 ∷ 0 ∷ []) 0 V5 (0 ∷ []) (8 ∷ [])) → w ≡ true
  unfolding is_cut are_fields is_field is_rest frame_at frame_of number_at
  contents_not_judged s = decided (3 ∷ 4 ∷ 0 ∷ 8 ∷ 1 ∷ 0 ∷ 0 ∷ 0 ∷ []) refl 0 V5 (0 ∷ []) (8 ∷ []) w s

  -- inner lengths judged: a sealed field without any passes
  pub inner_lengths_not_judged : Says w (TheCut (4 ∷ 4 ∷ 0 ∷ 4 ∷ []) 0 V5 (0 ∷ []) (4 ∷ [])) → w ≡ true
  unfolding is_cut are_fields is_field is_rest frame_at frame_of number_at
  inner_lengths_not_judged s = decided (4 ∷ 4 ∷ 0 ∷ 4 ∷ []) refl 0 V5 (0 ∷ []) (4 ∷ []) w s

-- 7 and 6, whatever the packet and the lists are
pub not_too_long : (w : Bool) (p : List ℕ) (header : ℕ) (v : Version) (os ns : List ℕ) → most_bytes < length p
    → Says w (TheCut p header v os ns) → w ≡ false
not_too_long w p header v os ns h s = not_yes w (λ e. omega (arith, (s.yes_only_if e).within))

pub not_past_the_end : (w : Bool) (p : List ℕ) (header : ℕ) (v : Version) (os ns : List ℕ) → length p < header
    → Says w (TheCut p header v os ns) → w ≡ false
not_past_the_end w p header v os ns h s = not_yes w (λ e. omega (arith, (s.yes_only_if e).inside))

-- stops at the capacity: any number of fields passes that a packet has room for, and a list that leaves one out does not. Here they
-- are sealed fields of eight bytes

abbrev pub seals : ℕ → List Field
seals = copies empty_seal

each_along : (n : ℕ) (rest : List ℕ) → Along V5 0 (seals n) rest
unfolding big_endian
each_along zero rest = tt
each_along (suc n) rest = (record { more = omega arith; shaped = empty_seal_shaped }, each_along n rest)

cut_of : (n : ℕ) → n * 8 ≤ most_bytes → TheCut (joined (seals n)) 0 V5 (offsets_from 0 (seals n)) (wire_lengths_of (seals n))
unfolding big_endian
cut_of n h = record {
  within = omega (arith, copies_size empty_seal n);
  inside = omega arith;
  fields = seals n;
  rest = [];
  laid = record {
    begins = record { whole = sym (append-nil (joined (seals n))); each = each_of V5 0 (seals n) [] (each_along n []) };
    over = omega arith;
  };
  offsets_are = refl;
  lengths_are = refl;
}

offsets_number : (at : ℕ) (fs : List Field) → length (offsets_from at fs) ≡ length fs
offsets_number at [] = refl
offsets_number at (f ∷ fs) = ap suc (offsets_number (at + length (bytes_of f)) fs)

pub many : (n : ℕ) → n * 8 ≤ most_bytes → (w : Bool) → Says w (TheCut (joined (seals n)) 0 V5 (offsets_from 0 (seals n)) (wire_lengths_of (seals n)))
    → w ≡ true
many n h w s = s.yes_if (cut_of n h)

pub none_left_out : (n m : ℕ) → n * 8 ≤ most_bytes → m < n → (w : Bool)
    → Says w (TheCut (joined (seals n)) 0 V5 (offsets_from 0 (seals m)) (wire_lengths_of (seals m))) → w ≡ false
none_left_out n m h less w s =
    not_yes w
    (λ e. let same = (one_list (joined (seals n)) 0 V5 _ _ _ _ (s.yes_only_if e) (cut_of n h)).0 in
    omega (
      arith,
      ap (λ (l : List ℕ). length l) same,
      offsets_number 0 (seals n),
      offsets_number 0 (seals m),
      copies_number empty_seal n,
      copies_number empty_seal m,
    ))
