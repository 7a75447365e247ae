-- A list of calls carried out on a fresh book: demand 3 of running code.
-- Definitions only. Assumes nothing.
use Rattle.std.specs.Prelude.{◌≡◌, List, [], ◌∷◌, ◌++◌, ℕ, min, length, take, drop, map, Result}
use Rattle.refusal.specs.declared.Refusal.{Refusal}
use Rattle.refusal.specs.Numbers.{first}
use Rattle.refusal.specs.Refusals.{outcome_number}
use Rattle.book.specs.declared.Head.{Head}
use Rattle.book.specs.declared.Reply.{Reply}
use Rattle.book.specs.Head.{not_opened, open_checks, opening}
use Rattle.book.specs.Calls.{enter, post, lift, tip, set_rule, ask}
use Rattle.book.specs.Calls as Calls
use Rattle.book.specs.Memory.{Outcome, call_on, Audited}
use Rattle.book.specs.Lists.{calls_on}
use Rattle.conservation.specs.Conservation.{Demand3}
use Rattle.journal.specs.declared.Call.{Call}
use Rattle.journal.specs.declared.Call.TheVariants.{Transfer, Lift, Tip, Setting, Report}

-- the call that it is, with the room that it is lent
abbrev pub called : Call → List ℕ → Calls.Call
called (Transfer x) room = post x
called (Lift x) room = lift x
called (Tip y) room = tip y
called (Setting s) room = set_rule s
called (Report q) room = ask q room

-- the room after a call: only a report has some to write to
abbrev pub room_left : Calls.Call → Outcome → List ℕ → List ℕ
room_left (enter p) o room = room
room_left (set_rule s) o room = room
room_left (ask q r) o room = o.room

-- What any call promises on a book that adds up: its number and the next head, table and room after it, and that the
-- book adds up again.
pub record Makes (c : Calls.Call) (h h' : Head) (t t' r r' : List ℕ) (z : Result (Unit {0}) Refusal) : Type 0 where
  pub number : outcome_number z ≡ (call_on h t c).number
  pub head : h' ≡ (call_on h t c).head
  pub table : t' ≡ (call_on h t c).table
  pub room : r' ≡ room_left c (call_on h t c) r
  pub audited : Audited h' t'

-- What is left after calls, and the number of each.
pub record Carried : Type 0 where
  pub numbers : List ℕ
  pub head : Head
  pub table : List ℕ
  pub room : List ℕ

abbrev pub numbered : ℕ → Carried → Carried
numbered n r = record { numbers = n ∷ r.numbers; head = r.head; table = r.table; room = r.room }

unfoldable pub carried : List Call → Head → List ℕ → List ℕ → Carried
carried [] h t room = record { numbers = []; head = h; table = t; room = room }
carried (x ∷ xs) h t room =
    let c = called x room in
    let o = call_on h t c in
    numbered o.number (carried xs o.head o.table (room_left c o room))

-- the calls, each with the room as it is lent then
unfoldable pub lent : List Call → Head → List ℕ → List ℕ → List Calls.Call
lent [] h t room = []
lent (x ∷ xs) h t room =
    let c = called x room in
    let o = call_on h t c in
    c ∷ lent xs o.head o.table (room_left c o room)

-- What all of them in turn promise: the head, and table, answers and room after them.
pub record MakesAll (calls : List Call) (h : Head) (t a r t' a' r' : List ℕ) (h' : Head) : Type 0 where
  pub head : h' ≡ (carried calls h t r).head
  pub table : t' ≡ (carried calls h t r).table
  pub answers : a' ≡ (carried calls h t r).numbers ++ drop (length calls) a
  pub room : r' ≡ (carried calls h t r).room

-- so many are made: as many as there is room for answers
abbrev pub count : List Call → List ℕ → ℕ
count calls answers = min (length calls) (length answers)

abbrev pub made : List Call → List ℕ → List Call
made calls answers = take (count calls answers) calls

-- What carrying out a list of calls promises: with the rule and V that were given, the calls, the three lent slices before, and
-- the answer and the slices after.
pub record CarriesOut (rule size : ℕ) (calls : List Call) (t answers room : List ℕ)
    (r : Reply) (t' answers' room' : List ℕ) : Type 0 where
  -- a list for which no book is opened leaves all as it was
  pub refused : (first (open_checks rule size) ≡ 0 → ⊥)
      → (r ≡ not_opened (first (open_checks rule size))) × (t' ≡ t) × (answers' ≡ answers) × (room' ≡ room)
  -- else the calls are made on a fresh book
  pub done : first (open_checks rule size) ≡ 0
      → let k = carried (made calls answers) (opening rule size).head t room in
      (r ≡ record { number = 0; head = k.head }) × (t' ≡ k.table)
      × (answers' ≡ k.numbers ++ drop (count calls answers) answers) × (room' ≡ k.room)
  -- what was left and answered is that of their journal, and demand 3 holds of it
  pub demand : first (open_checks rule size) ≡ 0
      → let cs = lent (made calls answers) (opening rule size).head t room in
      let j = calls_on (opening rule size).head t cs in
      (r ≡ record { number = 0; head = j.head }) × (t' ≡ j.table)
      × (answers' ≡ map (λ e. e.number) j.log ++ drop (count calls answers) answers) × Demand3 rule size t cs j
