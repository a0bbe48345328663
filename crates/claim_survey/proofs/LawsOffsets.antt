-- Where the reader refuses with 1 for a frame or for inner lengths, the survey names the same offset.
use Rattle.std.specs.Prelude.{Result, ◌≡◌, List, [], ℕ, ◌+◌, ◌≤◌, length}
use Rattle.std.proofs.Common.{sym, ◌∙◌, arith}
use Rattle.base_answers.specs.declared.Refusal.TheVariants.{IncorrectLength}
use Rattle.layout.specs.Meant.{cutoff_of}
use Rattle.layout.proofs.Laws.{along}
use Rattle.read_entries.specs.Meant.{capacity}
use Rattle.read_packet.specs.Meant.{Input}
use Rattle.read_survey.specs.declared.SurveyFault.{SurveyFault}
use Rattle.read_survey.specs.Meant.{faulty_at}
use Rattle.claim_one_cut.specs.MeantCut.{fields_of, seals_in}
use Rattle.claim_one_cut.specs.MeantFaults.{Stopped}
use Rattle.claim_one_cut.proofs.LawsLaid.{laid}
use Rattle.claim_survey.specs.Meant.{seals_among, Ends, no_frame, no_sealing, SurveyTells, long, past_end, lists, Framing, frame, lengths}
use Rattle.claim_survey.proofs.LawsOnly.{sound, one_way}
use Rattle.claim_survey.proofs.LawsOfACut.{items_along, items_sound, front_seals, nothing_more}

module _ (i : Input) (offset : ℕ) (s : Stopped i IncorrectLength offset) (fault : Framing i.version s.left) where
  ends_there : Ends i.version s.left (seals_among (fields_of s.items)) offset
      (faulty_at IncorrectLength offset (seals_among (fields_of s.items)))
  ends_there = go fault
    where
      go : Framing i.version s.left → Ends i.version s.left (seals_among (fields_of s.items)) offset
          (faulty_at IncorrectLength offset (seals_among (fields_of s.items)))
      go (frame h) = no_frame s.starts h
      go (lengths f w t h) = no_sealing s.starts f w t h

  pub same_offset : length i.packet ≤ 65535 → i.header_size ≤ length i.packet → seals_in s.items ≤ capacity
      → (r : Result ℕ SurveyFault) {t : List ℕ}
      → SurveyTells i.packet i.header_size i.version r t
      → r ≡ faulty_at IncorrectLength offset (seals_in s.items)
  same_offset small header few r (long a e g) = absurd (omega arith)
  same_offset small header few r (past_end a b e g) = absurd (omega arith)
  same_offset small header few r (lists a b l) =
      let v = i.version in
      let w = laid i s.items s.left s.led in
      let n = seals_among (fields_of s.items) in
      let count : n ≡ seals_in s.items = front_seals i 0 s.items [] s.left (rw (nothing_more s.items) w) in
      let none_before : (m : ℕ) → 0 + m ≡ m = λ m. omega arith in
      let answer : r ≡ faulty_at IncorrectLength offset n =
      one_way v l.fields (fields_of s.items) l.left s.left 0 i.header_size r (faulty_at IncorrectLength offset n)
      (sym l.begins.whole ∙ s.led.begins.whole) (along v (cutoff_of v) l.fields l.left l.begins.each)
      (items_along i 0 s.items s.left w)
      (sound l.fields (λ ys f zs q h. (l.names ys f zs q h).sealing)) (items_sound i 0 s.items s.left w)
      (omega (arith, l.room)) (omega (arith, count))
      (rw (none_before (seals_among l.fields)) l.ends)
      (rw (none_before n, ← s.place) ends_there) in
      rw (← count) answer
