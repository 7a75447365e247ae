-- What a report promises, and its checks. proofs/Asked.antt shows that head and table stay.
-- Definitions only. Assumes nothing.
use Rattle.std.specs.Prelude.{◌≡◌, List, ℕ, Result}
use Rattle.refusal.specs.declared.Refusal.{Refusal}
use Rattle.refusal.specs.Refusals.{outcome_number}
use Rattle.book.specs.declared.Head.{Head}
use Rattle.book.specs.declared.Report.{Report}
use Rattle.book.specs.declared.Reply.{Reply}
use Rattle.book.specs.Head.{Sized}
use Rattle.book.specs.Calls.{ask}
use Rattle.book.specs.Memory.{number_of, call_on, replied}

-- What all its checks find: the number of the call; and, whatever that is, the head's numbers fit 32 bits.
pub record Judged (h : Head) (q : Report) (t r : List ℕ) (n : ℕ) : Type 0 where
  pub number : n ≡ number_of h t (ask q r)
  pub sized : Sized h

-- What it promises: its answer and every number of the room are those of the call.
pub record Asks (h : Head) (q : Report) (t r r' : List ℕ) (z : Reply) : Type 0 where
  pub answer : z ≡ replied (call_on h t (ask q r))
  pub room : r' ≡ (call_on h t (ask q r)).room

-- The same, where head and table are the caller's: its number.
pub record AsksKnown (h : Head) (q : Report) (t r r' : List ℕ) (z : Result (Unit {0}) Refusal) : Type 0 where
  pub number : outcome_number z ≡ (call_on h t (ask q r)).number
  pub room : r' ≡ (call_on h t (ask q r)).room
