-- Calls on a book. A call is data, so that a list of calls is a list, and all that is said of a call is one clause of
-- `meaning`.
-- Definitions only. Assumes nothing.
use Rattle.std.specs.Prelude.{Bool, true, false, ◌&&◌, ◌||◌, ◌==◌, List, [], ◌∷◌, ◌++◌, filter, ℕ, zero, suc, ◌+◌, ltb, length}
use Rattle.table.specs.declared.Piece.{Piece}
use Rattle.table.specs.Table.{lay, places_in}
use Rattle.taking.specs.Taken.{Taken}
use Rattle.taking.specs.Stirring.{stirred_rule}
use Rattle.refusal.specs.Numbers.{Check, ◌if◌, if_zero}
use Rattle.book.specs.declared.Transfer.{Transfer}
use Rattle.book.specs.declared.Lift.{Lift}
use Rattle.book.specs.declared.Tip.{Tip}
use Rattle.book.specs.declared.Setting.{Setting}
use Rattle.book.specs.declared.Motion.{Motion}
use Rattle.book.specs.declared.Report.{Report}
use Rattle.book.specs.Head.{Book, the_scale, rule_at}
use Rattle.book.specs.Motion.{of_book, Terms, motion, takes, pieces_after, book_after}
use Rattle.book.specs.Transfer.{transfer_terms}
use Rattle.book.specs.Scale.{lift_terms, tip_terms}
use Rattle.book.specs.Setting.{setting_checks, with_rule}
use Rattle.book.specs.Reports.{report_row, report_checks, onto}

-- What can be posted, and its terms.
pub data Posting : Type 0 where
  by_transfer : Transfer → Posting
  by_lift : Lift → Posting
  by_tip : Tip → Posting

abbrev pub terms : Posting → Terms
terms (by_transfer x) = transfer_terms x
terms (by_lift x) = lift_terms the_scale x
terms (by_tip y) = tip_terms the_scale y

-- A call: something is posted, a vessel's rule is set, or a report is asked with the room that it is lent to write to.
pub data Call : Type 0 where
  enter : Posting → Call
  set_rule : Setting → Call
  ask : Report → List ℕ → Call

pattern abbrev pub post : Transfer → Call
post x = enter (by_transfer x)

pattern abbrev pub lift : Lift → Call
lift x = enter (by_lift x)

pattern abbrev pub tip : Tip → Call
tip y = enter (by_tip y)

-- "The answer carries the number of pieces moved whole, whether one was split, and the weight born"; that mark is now
-- "a count of splits". How many fewer pieces a fold leaves, the index of a movement of a slip, and a weight asked for.
pub record Answer : Type 0 where
  pub whole : ℕ
  pub split : ℕ
  pub born : ℕ
  pub fewer : ℕ
  pub index : ℕ
  pub weight : ℕ

abbrev pub no_answer : Answer
no_answer = record { whole = 0; split = 0; born = 0; fewer = 0; index = 0; weight = 0 }

abbrev pub answer_of : Taken → Answer
answer_of r = record no_answer { whole = r.whole; split = r.split; born = r.born }

-- "An accepted transfer without split or birth is even."
abbrev pub even_of : Answer → ℕ
even_of a = if_zero (a.split + a.born) 1 0

-- What is told of a call beside its number, and what it leaves of the room that it was lent.
pub record Told : Type 0 where
  pub answer : Answer
  pub room : List ℕ

abbrev pub silence : List ℕ → Told
silence room = record { answer = no_answer; room = room }

-- What a call means, on any book.
pub record Meaning : Type 0 where
  -- its checks after 1 and 4, on a table of so many numbers
  pub checks : ℕ → Book → List Check
  -- where it is accepted: what it tells, the book and the table that it leaves
  pub told : Book → Told
  pub next : Book → Book
  pub table : Book → List ℕ → List ℕ
  -- where it is refused with a number, on a table of so many numbers: what it tells
  pub refused : ℕ → ℕ → Book → Told
  -- how often it counts as a transfer, and how often as an even one where it is accepted
  pub counts : ℕ
  pub even : Book → ℕ
  -- whether, with this number, it made a pick under rule 4
  pub stirs : Book → ℕ → Bool

-- Whether a number says that pieces were picked: the call passed all its checks, or all but 11.
abbrev pub picks : ℕ → Bool
picks number = number == 0 || number == 11

-- A call that moves nothing and counts for nothing: by its checks, what it tells, and the room that it is lent.
abbrev pub unmoved : (ℕ → Book → List Check) → (Book → Told) → List ℕ → Meaning
unmoved checks told lent =
    record {
      checks = checks;
      told = told;
      next = λ b. b;
      table = λ b t. t;
      refused = λ n len b. silence lent;
      counts = 0;
      even = λ b. 0;
      stirs = λ b n. false;
    }

-- "Number 11 comes when the pieces afterwards would exceed the places." (By the four first rules that is "split or
-- birth due, pieces = places": `table_full`.) Only what counts checks it: a tip, which moves pieces whole, cannot want
-- a place.
abbrev pub place_checks : ℕ → ℕ → List Piece → List Check
place_checks zero places ps = []
place_checks (suc n) places ps = 11 if ltb places (length ps) ∷ []

-- What is posted moves its motion. "Numbers behind the last piece are never written": `lay`.
abbrev pub motion_on : Terms → Book → Motion
motion_on p b = motion p (of_book b)

abbrev pub posting_meaning : Terms → Meaning
posting_meaning p =
    record {
      checks = λ len b. p.checks (of_book b) ++ place_checks p.counts (places_in len) (pieces_after b (motion_on p b));
      told = λ b. record { answer = answer_of (takes b (motion_on p b)); room = [] };
      next = λ b. book_after b (motion_on p b);
      table = λ b. lay (pieces_after b (motion_on p b));
      refused = λ n len b. silence [];
      counts = p.counts;
      even = λ b. if_zero p.counts 0 (even_of (answer_of (takes b (motion_on p b))));
      stirs = λ b n. rule_at b.rules p.source == stirred_rule && picks n;
    }

-- A report counts the pieces that a test lets through, on a book and with the room that it is lent. What is asked of a
-- book counts every piece.
abbrev pub report_meaning : (Piece → Bool) → Report → List ℕ → Meaning
report_meaning test q room =
    unmoved
    (λ len b. report_checks b (length room) q)
    (λ b. silence (onto (report_row b.vessels (filter test b.pieces) q) room))
    room

abbrev pub every_piece : Piece → Bool
every_piece p = true

abbrev pub meaning : Call → Meaning
meaning (enter p) = posting_meaning (terms p)
meaning (set_rule s) =
    record (unmoved (λ len b. setting_checks b.vessels s) (λ b. silence []) []) { next = λ b. with_rule b s }
meaning (ask q room) = report_meaning every_piece q room
