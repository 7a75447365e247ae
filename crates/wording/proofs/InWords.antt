-- Transfer, lift, tip, setting and report in the papers' own words, of a call: where it is answered 0, the table is
-- laid with the pieces of `in_table`, where each picked piece joins the end at once, and the answer is what that says;
-- a tip leaves the pieces elsewhere in their order and those of the scale, in the order they lay, behind them; a
-- setting changes one number of the head, and the picks from one vessel. And a report: its numbers are written, and the
-- numbers after these remain. What is refused gives zeros, the head as it was, and changes nothing.
-- Assumes nothing.
use Rattle.std.proofs.Common.{◌≡◌, refl, sym, ◌≢◌, not, List, [], ◌∷◌, ◌++◌, map, append-nil, ℕ, arith, leb, ltb, length, take, drop, take_at, drop_at, ◌∙◌}
use Rattle.std.proofs.lemmas.Bool.Decides.{nat_tests}
use Rattle.table.specs.declared.Piece.{Piece}
use Rattle.table.specs.Pieces.{hand_to}
use Rattle.table.specs.Table.{pieces_of, lay}
use Rattle.table.proofs.Pieces.{all_map}
use Rattle.taking.specs.Stirring.{stirred_rule}
use Rattle.taking.specs.InTable.{Moved, in_table}
use Rattle.taking.specs.Sweeping.{held_by, elsewhere}
use Rattle.taking.proofs.InTable.{taken_in_table}
use Rattle.taking.proofs.Sweeping.{swept_whole}
use Rattle.refusal.specs.Numbers.{◌if◌, first}
use Rattle.book.specs.declared.Head.{Head}
use Rattle.book.specs.declared.Transfer.{Transfer}
use Rattle.book.specs.declared.Lift.{Lift}
use Rattle.book.specs.declared.Tip.{Tip}
use Rattle.book.specs.declared.Setting.{Setting}
use Rattle.book.specs.declared.Motion.{Motion}
use Rattle.book.specs.declared.Report.{Report}
use Rattle.book.specs.Head.{the_scale, most_vessels, book_of, adds_up, rule_at}
use Rattle.book.specs.Motion.{takes}
use Rattle.book.specs.Transfer.{motion_of}
use Rattle.book.specs.Scale.{lift_motion, tip_terms}
use Rattle.book.specs.Setting.{setting_checks, ruled}
use Rattle.book.specs.Reports.{report_row}
use Rattle.book.specs.Calls.{Call, post, lift, tip, set_rule, ask, Answer, no_answer, motion_on, meaning, enter}
use Rattle.book.specs.Memory.{number_of, book_checks, call_on}
use Rattle.book.proofs.RuleLaws.{set_at, set_others}
use Rattle.book.proofs.Checks.{setting_fit}
use Rattle.book.proofs.Memory.{call_number, refused_on}
use Rattle.book.proofs.ReportLaws.{all_pass}
use Rattle.book.proofs.Accepted.{checks_passed, accepted_book, post_fit, fit_lift, set_writes_nothing, ruled_is}

abbrev pub moved_answer : Moved → Answer
moved_answer r = record no_answer { whole = r.whole; split = r.split; born = r.missing }

module _ (h : Head) (t : List ℕ) where
  abbrev ps : List Piece
  ps = pieces_of h.pieces t

  -- what takes weight from a vessel, by the rule of its source
  abbrev moved : Motion → Moved
  moved m = in_table (rule_at h.rules m.moves.source) m.moves ps

  abbrev InWords : Call → Motion → Type 0
  InWords c m = ((call_on h t c).table ≡ lay (moved m).pieces t) × ((call_on h t c).answer ≡ moved_answer (moved m))

  pub in_words : (x : Transfer) → (call_on h t (post x)).number ≡ 0 → rule_at h.rules x.source ≢ stirred_rule
      → InWords (post x) (motion_of x)
  unfolding call_on takes
  in_words x z first =
      let e = sym (call_number h t (post x)) ∙ z in
      let apart = (post_fit h t x e).apart in
      rw (e, taken_in_table _ (motion_of x).moves ps first (λ q. apart (sym q))) (refl, refl)

  pub lift_in_words : (x : Lift) → (call_on h t (lift x)).number ≡ 0 → rule_at h.rules x.source ≢ stirred_rule
      → InWords (lift x) (lift_motion the_scale x)
  unfolding call_on takes
  lift_in_words x z first =
      let e = sym (call_number h t (lift x)) ∙ z in
      let k = (accepted_book h t (lift x) e).vessels_fit in
      rw (e, taken_in_table _ (lift_motion the_scale x).moves ps first (λ q. omega (arith, (fit_lift h t x e).source_in))) (refl, refl)

  pub tip_in_words : (y : Tip) → (call_on h t (tip y)).number ≡ 0
      → (call_on h t (tip y)).table ≡ lay (elsewhere the_scale ps ++ map (hand_to y.destination) (held_by the_scale ps)) t
  unfolding call_on takes
  tip_in_words y z =
      let e = sym (call_number h t (tip y)) ∙ z in
      let weighty = all_map (λ p f. f.weighty) (accepted_book h t (tip y) e).sound in
      rw (e, swept_whole (motion_on (tip_terms the_scale y) (book_of h t)).moves ps weighty refl) (simp append-nil)

  -- "Each accepted report writes exactly the weights that document 01 names for it", and "numbers after these remain".
  pub report_in_words : (q : Report) (room : List ℕ) → (call_on h t (ask q room)).number ≡ 0
      → let w = report_row h.vessels ps q in (take (length w) (call_on h t (ask q room)).room ≡ w) × (drop (length w) (call_on h t (ask q room)).room ≡ drop (length w) room)
  unfolding call_on
  report_in_words q room z =
      let e = sym (call_number h t (ask q room)) ∙ z in
      rw (e, all_pass ps) (take_at (report_row h.vessels ps q) _ _ refl, drop_at (report_row h.vessels ps q) _ _ refl)

  -- A refusal returns its number with all other answer numbers 0 and the head as given; no lent memory changes, the
  -- room of a report neither.
  no_answers : (c : Call) (n : ℕ) → ((meaning c).refused n (length t) (book_of h t)).answer ≡ no_answer
  no_answers (enter p) n = refl
  no_answers c n = refl

  pub refused_in_words : (c : Call) → ((call_on h t c).number ≡ 0 → ⊥)
      → ((call_on h t c).answer ≡ record { whole = 0; split = 0; born = 0; fewer = 0; index = 0; weight = 0 }) × ((call_on h t c).head ≡ h) × ((call_on h t c).table ≡ t)
  refused_in_words c nz = rw (refused_on h t c _ (sym (call_number h t c)) nz) (no_answers c _, refl, refl)

  pub report_refused : (q : Report) (room : List ℕ) → ((call_on h t (ask q room)).number ≡ 0 → ⊥)
      → (call_on h t (ask q room)).room ≡ room
  report_refused q room nz = rw (refused_on h t (ask q room) _ (sym (call_number h t (ask q room))) nz)

  -- "The call checks 1, 4, 5, 2", where "2 now means above 4", and nothing else refuses it.
  pub set_checks : (s : Setting) → number_of h t (set_rule s)
      ≡ first (1 if ltb (length t) 4 ∷ 4 if not (adds_up h t) ∷ 5 if leb h.vessels s.vessel ∷ 2 if ltb 4 s.rule ∷ [])
  unfolding number_of book_checks setting_checks
  set_checks s = grind (arith, nat_tests)

  -- "A new call sets [a vessel's rule] at any moment for later picks": of all numbers of head and table just that one
  -- changes, and the vessel is picked from by it, any other as before.
  pub set_in_words : (s : Setting) → (call_on h t (set_rule s)).number ≡ 0 → length h.rules ≡ most_vessels
      → let o = call_on h t (set_rule s) in
      (o.head ≡ ruled h s) × (o.table ≡ t) × (rule_at o.head.rules s.vessel ≡ s.rule) × ((v : ℕ) → v ≢ s.vessel → rule_at o.head.rules v ≡ rule_at h.rules v)
  unfolding ruled
  set_in_words s z long =
      let e = sym (call_number h t (set_rule s)) ∙ z in
      let few = (accepted_book h t (set_rule s) e).vessels_fit in
      let f = setting_fit h.vessels s (checks_passed h t (set_rule s) e) in
      rw (ruled_is h t s e) (refl, set_writes_nothing h t s, set_at s.vessel s.rule h.rules (omega (arith, f.vessel_in)) long, λ v u. set_others s.vessel s.rule v h.rules u)
