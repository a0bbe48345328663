-- Rule 15.2: writing a MAC and reading one are inverse, on exactly the lengths that LawsLengths names. What an accepted write left in
-- the output is read as it was written, for every key id of 32 bits; what was read is written again as it was, wherever there is room.
use Rattle.std.specs.Prelude.{◌≡◌, true, List, ◌++◌, ℕ, ◌+◌, ◌^◌, ◌≤◌, ◌<◌, length, take, drop, get_or, Result, Ok}
use Rattle.std.proofs.Common.{sym, ◌∙◌, append_assoc, arith, length-append, take-append-drop, take_at, drop_at}
use Rattle.std.proofs.Math.Path.{ap}
use Rattle.std.proofs.Math.ListN.{length-take}
use Rattle.base_answers.specs.declared.Refusal.{Refusal}
use Rattle.base_big_endian.specs.Meant.{big_endian, value}
use Rattle.base_big_endian.specs.Meant as memory
use Rattle.base_big_endian.specs.Laws.{length_big_endian, value_big_endian, big_endian_value, bytes_take, inside}
use Rattle.base_store.specs.Meant.{Write, told_of, overlay, writing, room_from}
use Rattle.mac.specs.Meant.{mac_of, is_mac, mac_read, mac_body, mac_bytes, mac_write}
use Rattle.mac.specs.LawsLengths.{is_one, has_keyid, is_body, body_of, read_exactly, accepted_only, written_exactly}

pub length_mac : (keyid : ℕ) (body : List ℕ) → length (mac_bytes keyid body) ≡ 4 + length body
length_mac keyid body = simp length-append (omega (arith, length_big_endian 4 keyid))

module _ (keyid : ℕ) (body out : List ℕ) (at n : ℕ) (accepted : (mac_write keyid body out at).answer ≡ Ok n) where
  -- the bytes that an accepted write reports, from `at` on
  stand : take n (drop at (mac_write keyid body out at).output) ≡ mac_bytes keyid body
  stand =
      let fits = accepted_only keyid body out at n accepted in
      let wrote = (written_exactly keyid body out at).1 fits in
      let count : length (mac_bytes keyid body) ≡ n =
      ap (λ (a : Result ℕ Refusal). get_or (told_of a).values 0 0) (sym (ap (λ (w : Write). w.answer) wrote) ∙ accepted) in
      let before : length (take at out) ≡ at = omega (arith, fits.1, length-take at out) in
      let rest = drop (at + length (mac_bytes keyid body)) out in
      let over : overlay out at (mac_bytes keyid body) ≡ take at out ++ (mac_bytes keyid body ++ rest) =
      append_assoc (take at out) (mac_bytes keyid body) rest in
      ap (λ (w : Write). take n (drop at w.output)) wrote
      ∙ ap (λ (l : List ℕ). take n (drop at l)) over
      ∙ ap (λ (l : List ℕ). take n l) (drop_at (take at out) (mac_bytes keyid body ++ rest) at before)
      ∙ take_at (mac_bytes keyid body) rest n count

  is_mac_law : is_mac (length (mac_bytes keyid body)) ≡ true
  is_mac_law = rw (length_mac keyid body) (is_body (length body) (accepted_only keyid body out at n accepted).0)

  -- the key id that was written is read
  pub read_written : keyid < 256 ^ 4 → mac_read (take n (drop at (mac_write keyid body out at).output)) ≡ Ok (mac_of keyid)
  unfolding mac_read
  read_written narrow =
      rw (stand, is_mac_law)
      (ap (λ (k : ℕ). Ok (mac_of k))
      (inside 4 (mac_bytes keyid body) 0 (omega (arith, length_mac keyid body))
      ∙ ap value (take_at (big_endian 4 keyid) body 4 (length_big_endian 4 keyid))
      ∙ value_big_endian 4 keyid narrow))

  -- so is the body
  pub body_written : mac_body (take n (drop at (mac_write keyid body out at).output)) ≡ body
  unfolding mac_body
  body_written = rw (stand, is_mac_law) (drop_at (big_endian 4 keyid) body 4 (length_big_endian 4 keyid))

module _ (s : List ℕ) (bytes : memory.Bytes s) (keyid : ℕ) (read : mac_read s ≡ Ok (mac_of keyid)) where
  bytes_read : mac_bytes keyid (mac_body s) ≡ s
  unfolding mac_body
  bytes_read =
      let found = (read_exactly s keyid).0 read in
      let one = is_one (length s) found.0 in
      let whole = has_keyid (length s) one in
      rw (found.1, one, inside 4 s 0 whole, big_endian_value 4 (take 4 s) (omega (arith, length-take 4 s, whole)) (bytes_take 4 s bytes))
      (take-append-drop 4 s)

  -- bytes that were read as a MAC are written again as they were, wherever there is room for them
  pub written_read : (out : List ℕ) (at : ℕ) → length s ≤ room_from (length out) at
      → mac_write keyid (mac_body s) out at ≡ writing s at out
  written_read out at room =
      let whole : 4 + length (mac_body s) ≡ length s = sym (length_mac keyid (mac_body s)) ∙ ap length bytes_read in
      let one : is_mac (4 + length (mac_body s)) ≡ true = rw whole (is_one (length s) ((read_exactly s keyid).0 read).0) in
      (written_exactly keyid (mac_body s) out at).1 (body_of (length (mac_body s)) one, omega arith)
      ∙ ap (λ (b : List ℕ). writing b at out) bytes_read
