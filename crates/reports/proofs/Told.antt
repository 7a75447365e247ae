-- A report on a book that adds up: its number is that of its own checks.
-- Assumes nothing.
use Rattle.std.proofs.Common.{◌≡◌, refl, ap, ◌∙◌, List, ℕ, ◌*◌, ◌≤◌, arith, length, Result, Ok}
use Rattle.std.specs.Result.{IsErrAnd}
use Rattle.table.specs.Table.{pieces_of}
use Rattle.refusal.specs.Numbers.{first}
use Rattle.refusal.specs.declared.Refusal.{Refusal}
use Rattle.refusal.specs.Refusals as Refusals
use Rattle.book.specs.declared.Head.{Head}
use Rattle.book.specs.declared.Reply.{Reply}
use Rattle.book.specs.declared.Report.{Report}
use Rattle.book.specs.Reports.{report_row, asked_checks, onto}
use Rattle.book.specs.Memory.{Audited}
use Rattle.book.proofs.Audited.{passed}
use Rattle.reports.specs.Scatter.{Reportable}
use Rattle.reports.specs.Asking.{Judged, Asks, AsksKnown}
use Rattle.reports.proofs.Asked.{asked_on, asked_refused, asked_there, asked_reportable, asked_accepted}

module _ (h : Head) (t : List ℕ) (q : Report) (room : List ℕ) (w : Audited h t) where
  judged : (n : ℕ) → n ≡ first (asked_checks h.vessels (length room) q) → Judged h q t room n
  judged = asked_on h t q room (passed h t w, w.sized)

  told : (n : ℕ) (r : List ℕ) → Asks h q t room r (record { number = n; head = h }) → (z : Result (Unit {0}) Refusal)
      → Refusals.outcome_number z ≡ n → AsksKnown h q t room r z
  told n r a z e = record { number = e ∙ ap (λ (x : Reply). x.number) a.answer; room = a.room }

  pub known_refused : (why : Refusal) → Refusals.number_of why ≡ first (asked_checks h.vessels (length room) q)
      → (z : Result (Unit {0}) Refusal) → IsErrAnd z (λ (other : Refusal). other ≡ why) → AsksKnown h q t room room z
  known_refused why e z ez =
      told (Refusals.number_of why) room (asked_refused h t q room why (judged _ e) _ refl) z (grind arith)

  module _ (e : 0 ≡ first (asked_checks h.vessels (length room) q)) where
    pub known_there : 4 * h.pieces ≤ length t
    known_there = asked_there h t q room 0 (judged 0 e) refl

    pub known_reportable : Reportable h.vessels (pieces_of h.pieces t)
    known_reportable = asked_reportable h t q room 0 (judged 0 e) refl

    pub known_done : (r : List ℕ) → r ≡ onto (report_row h.vessels (pieces_of h.pieces t) q) room
        → AsksKnown h q t room r (Ok tt)
    known_done r er = told 0 r (asked_accepted h t q room 0 (judged 0 e) refl _ refl r er) (Ok tt) refl
