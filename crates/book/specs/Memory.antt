-- Calls on a head and a lent table, which is what the contracts of src/ promise: the number, the answer, the next head,
-- and every number of the table and of the room afterwards. "A refusal returns its number with all other answer numbers
-- 0 and the head as given; no lent memory changes."
-- Definitions only. Assumes nothing.
use Rattle.std.specs.Prelude.{◌≡◌, Bool, true, not, List, [], ◌∷◌, ◌++◌, ℕ, zero, suc, ltb, ◌≤◌, length}
use Rattle.refusal.specs.Numbers.{Check, ◌if◌, first}
use Rattle.book.specs.declared.Head.{Head}
use Rattle.book.specs.declared.Transferred.{Transferred}
use Rattle.book.specs.declared.Reply.{Reply}
use Rattle.book.specs.Head.{Sized, head_of, book_of, adds_up}
use Rattle.book.specs.Calls.{Call, Answer, Meaning, meaning}

-- All that a call gives back and leaves, how often it was an even transfer, and whether it made a pick under rule 4.
pub record Outcome : Type 0 where
  pub number : ℕ
  pub answer : Answer
  pub head : Head
  pub table : List ℕ
  pub room : List ℕ
  pub even : ℕ
  pub stirred : Bool

-- "a transfer 1, 4, then 5 to 11 (21 straight after 8); reports 1, 4, 5, 12, 13. The first that applies is given." 22,
-- a lift's, and 23, a tip's, come after 4; the setting of a rule "checks 1, 4, 5, 2".
unfoldable pub book_checks : Head → List ℕ → List Check
book_checks h t = 1 if ltb (length t) 4 ∷ 4 if not (adds_up h t) ∷ []

unfoldable pub number_of : Head → List ℕ → Call → ℕ
number_of h t c = first (book_checks h t ++ (meaning c).checks (length t) (book_of h t))

-- what a call of this meaning leaves, where this is its number
abbrev pub outcome : Head → List ℕ → Meaning → ℕ → Outcome
outcome h t m zero =
    let b = book_of h t in
    record {
      number = 0;
      answer = (m.told b).answer;
      head = head_of (m.next b);
      table = m.table b t;
      room = (m.told b).room;
      even = m.even b;
      stirred = m.stirs b 0;
    }
outcome h t m (suc n) =
    let r = m.refused (suc n) (length t) (book_of h t) in
    record {
      number = suc n;
      answer = r.answer;
      head = h;
      table = t;
      room = r.room;
      even = 0;
      stirred = m.stirs (book_of h t) (suc n);
    }

-- a call on a head and a table
unfoldable pub call_on : Head → List ℕ → Call → Outcome
call_on h t c = outcome h t (meaning c) (number_of h t c)

-- A head and a table that are known to add up: they are past checks 1 and 4, and the head's numbers are ones of 32
-- bits.
pub record Audited (h : Head) (t : List ℕ) : Type 0 where
  pub long : 4 ≤ length t
  pub book_adds_up : adds_up h t ≡ true
  pub sized : Sized h

-- the outcome as the code answers it
abbrev pub transferred : Outcome → Transferred
transferred o = record { number = o.number; head = o.head; whole = o.answer.whole; split = o.answer.split; born = o.answer.born }

abbrev pub replied : Outcome → Reply
replied o = record { number = o.number; head = o.head }
