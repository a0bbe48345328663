-- Which tests decide an answer.
use Rattle.std.specs.Prelude.{◌≡◌, true, false, List, ℕ, ◌+◌, ◌-◌, ◌≤◌, ◌<◌, length, drop, Option, Ok, Err}
use Rattle.std.proofs.Common.{◌∙◌, add-one}
use borrow.Author.Tests.{lt-ltb, le-ltb}
use Rattle.base_answers.specs.declared.Refusal.{Refusal}
use Rattle.base_answers.specs.declared.Refusal.TheVariants.{PacketTooLong, NoRoom, CannotBeMade}
use Rattle.journal.specs.Meant.{is_named, torn_len_of, stored, append_store, recovery_store, performed, found_at, start_at, left}
use Rattle.journal.specs.Model.{entries, end_of, found_in, start_in, append_in, recover_in}
use Rattle.journal.specs.declared.Store.{Store}

module _ (s : List ℕ) where
  pub found_long : 32768 < length s → Err PacketTooLong ≡ found_in s
  unfolding found_in
  found_long h = rw (lt-ltb _ _ h)

  pub found_all : {count next torn : ℕ} → length s ≤ 32768 → count ≡ length (entries s) → next ≡ end_of s → torn ≡ torn_len_of (drop next s)
      → Ok (found_at count next torn) ≡ found_in s
  unfolding found_in
  found_all h a b c = rw (le-ltb _ _ h, c, b, a)

  module _ (kind : ℕ) (body : List ℕ) where
    pub start_long : 32768 < length s → Err PacketTooLong ≡ start_in s kind body
    unfolding start_in
    start_long h = rw (lt-ltb _ _ h)

    pub start_unnamed : length s ≤ 32768 → is_named kind (length body) ≡ false → Err CannotBeMade ≡ start_in s kind body
    unfolding start_in
    start_unnamed h e = rw (le-ltb _ _ h, e)

    pub start_full : length s ≤ 32768 → is_named kind (length body) ≡ true → length s - end_of s < length body + 5
        → Err NoRoom ≡ start_in s kind body
    unfolding start_in
    start_full h e g = rw (le-ltb _ _ h, e, lt-ltb _ _ g)

    pub start_there : {offset count : ℕ} → length s ≤ 32768 → is_named kind (length body) ≡ true → length body + 5 ≤ length s - end_of s
        → offset ≡ end_of s
        → count ≡ length body + 5 → Ok (start_at offset count) ≡ start_in s kind body
    unfolding start_in
    start_there h e g a b = rw (le-ltb _ _ h, e, le-ltb _ _ g, a, b)

    -- a refused append leaves the image; another one performs its stores
    pub append_refused : {r : Refusal} → Err r ≡ start_in s kind body → left (Err r) s ≡ append_in s kind body
    unfolding append_in
    append_refused e = rw (← e)

    pub append_stored : {offset count k : ℕ} {image : List ℕ} → Ok (start_at offset count) ≡ start_in s kind body → k ≡ count
        → image ≡ performed k (append_store offset kind body) s → left (Ok (start_at offset count)) image ≡ append_in s kind body
    unfolding append_in
    append_stored e h f = rw (← e, f, h)

  pub recover_refused : {r : Refusal} → Err r ≡ found_in s → left (Err r) s ≡ recover_in s
  unfolding recover_in
  recover_refused e = rw (← e)

  pub recover_stored : {count next torn k : ℕ} {image : List ℕ} → Ok (found_at count next torn) ≡ found_in s → k ≡ torn
      → image ≡ performed k (recovery_store next torn) s → left (Ok (found_at count next torn)) image ≡ recover_in s
  unfolding recover_in
  recover_stored e h f = rw (← e, f, h)

  pub one_more : (plan : ℕ → Option Store) {k : ℕ} {image after : List ℕ} {x : Option Store} → image ≡ performed k plan s → x ≡ plan k
      → after ≡ stored image x
      → after ≡ performed (k + 1) plan s
  one_more plan {k} e f g = rw (add-one k) (g ∙ rw (e, f))
