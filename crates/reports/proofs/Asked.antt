-- A report on head and table: its refusals, and its acceptance on a book known to add up. One law for all three
-- reports.
-- Assumes nothing.
use Rattle.std.proofs.Common.{◌≡◌, refl, sym, ◌∙◌, List, ℕ, ◌*◌, ◌≤◌, arith, length}
use Rattle.table.specs.Table.{pieces_of}
use Rattle.table.proofs.Pieces.{all_map}
use Rattle.refusal.specs.Numbers.{first}
use Rattle.refusal.specs.declared.Refusal.{Refusal}
use Rattle.refusal.specs.Refusals as Refusals
use Rattle.refusal.proofs.Refusals.{some_number}
use Rattle.book.specs.declared.Head.{Head}
use Rattle.book.specs.declared.Reply.{Reply}
use Rattle.book.specs.Head.{Sized}
use Rattle.book.specs.Calls.{ask}
use Rattle.book.specs.Memory.{book_checks, number_of, call_on}
use Rattle.book.specs.Reports.{report_row, asked_checks, onto}
use Rattle.book.specs.declared.Report.{Report}
use Rattle.book.specs.declared.Report.TheVariants.{Whole}
use Rattle.book.proofs.Memory.{refused_on, off_number, on_number, passed_book, book_passed}
use Rattle.book.proofs.ReportLaws.{all_pass, whole_room}
use Rattle.book.proofs.Known.{Known, adds_up_told, adds_head, known}
use Rattle.reports.specs.Asking.{Judged, Asks}
use Rattle.reports.specs.Scatter.{Reportable}

module _ (h : Head) (t : List ℕ) (q : Report) (room : List ℕ) where
  -- its number, as checks 1 and 4 find it
  pub asked_off : (n : ℕ) → (n ≡ first (book_checks h t)) × Sized h → (n ≡ 0 → ⊥) → Judged h q t room n
  asked_off n e nz = grind (arith, off_number h t (ask q room) n)

  -- and as its own do, past checks 1 and 4
  pub asked_on : (0 ≡ first (book_checks h t)) × Sized h → (n : ℕ) → n ≡ first (asked_checks h.vessels (length room) q) → Judged h q t room n
  asked_on up n en = grind (arith, on_number h t (ask q room) 0 up.0)

  -- refused
  pub asked_refused : (why : Refusal) → Judged h q t room (Refusals.number_of why) → (n : ℕ) → n ≡ Refusals.number_of why → Asks h q t room room (record { number = n; head = h })
  asked_refused why e n en = let r = refused_on h t (ask q room) (Refusals.number_of why) (sym e.number) (some_number why) in grind (arith, r)

  module _ (n : ℕ) (e : Judged h q t room n) where
    -- accepted: what writing it asks, and what is written
    module _ (zn : n ≡ 0) where
      passed_all : number_of h t (ask q room) ≡ 0
      passed_all = sym e.number ∙ zn

      up : 0 ≡ first (book_checks h t)
      up = sym (passed_book h t (ask q room) passed_all)

      book : Known h t
      book = known h t 0 (up, e.sized) refl

      pub asked_there : 4 * h.pieces ≤ length t
      asked_there = book.there

      pub asked_fits : first (asked_checks h.vessels (length room) q) ≡ 0
      asked_fits = grind (arith, on_number h t (ask q room) 0 up)

      pub asked_reportable : Reportable h.vessels (pieces_of h.pieces t)
      asked_reportable =
          let pieces = book.sound.sound in
          record { few = book.sound.vessels_fit; holders = all_map (λ p f. f.holder_in) pieces; origins = all_map (λ p f. f.origin_in) pieces; light = book.light.light }

      pub asked_accepted : (z : Reply) → z ≡ record { number = 0; head = h } → (r : List ℕ) → r ≡ onto (report_row h.vessels (pieces_of h.pieces t) q) room → Asks h q t room r z
      unfolding call_on
      asked_accepted z ez r er = record { answer = rw passed_all (ez ∙ rw (← book.on.head_is) refl); room = rw (passed_all, all_pass (pieces_of h.pieces t)) er }

pub asked_square : (h : Head) (t room : List ℕ) (n : ℕ) → Judged h Whole t room n → n ≡ 0 → h.vessels * h.vessels ≤ length room
asked_square h t room n e zn = whole_room h.vessels (length room) Whole refl (asked_fits h t Whole room n e zn)

-- what a report that is accepted asks and gives
pub ruleset accepted = (asked_there, asked_fits, asked_square, asked_reportable, asked_accepted)

-- EITHER WAY: the promise leaves nothing open, so that two functions that keep it give the same answer and leave the
-- same numbers. `whole` and `whole_by_rows` are such two.
pub either_way : {h : Head} {q : Report} {t room r r' : List ℕ} {z z' : Reply} → Asks h q t room r z → Asks h q t room r' z' → (z ≡ z') × (r ≡ r')
either_way a b = grind arith

-- REPORTS CHANGE NOTHING: refused or accepted, the head and the table are as they were.
pub asked_nothing : (h : Head) (t : List ℕ) (q : Report) (room : List ℕ) → ((call_on h t (ask q room)).head ≡ h) × ((call_on h t (ask q room)).table ≡ t)
unfolding call_on
asked_nothing h t q room =
    let kept = λ (e : number_of h t (ask q room) ≡ 0). adds_head h t (adds_up_told h t (book_passed h t (passed_book h t (ask q room) e)).1) in
    grind (arith, kept)
