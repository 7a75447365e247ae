-- What a whole list of calls keeps: the pieces are those that the accepted calls leave in turn, they sum to what the
-- weigh book has, and the weigh book alone forecasts the numbers.
-- Definitions only. Assumes nothing.
use Rattle.std.specs.Prelude.{◌≡◌, Bool, true, false, not, ◌==◌, List, [], ◌∷◌, ℕ, ◌+◌, ◌≤◌, length}
use Rattle.std.specs.List.{list_all}
use Rattle.table.specs.Pieces.{sum, born_at, held}
use Rattle.table.specs.Table.{places_of}
use Rattle.taking.specs.Stirring.{stirred_rule}
use Rattle.book.specs.Head.{book_of, adds_up, opened, Book}
use Rattle.book.specs.Calls.{Call, set_rule, meaning}
use Rattle.book.specs.Lists.{Entry, Journal, answered, transfers, tips, evens, stirs}
use Rattle.conservation.specs.WeighBook.{blank, feed, listed, forecast}

-- the book after these calls, where each in turn does to it what is said of the call
unfoldable pub follow : Book → List Call → Book
follow b [] = b
follow b (c ∷ cs) = follow ((meaning c).next b) cs

-- the numbers of a journal's transfers, lifts and tips
abbrev pub numbers : List Entry → List ℕ
numbers [] = []
numbers (e ∷ es) = listed e.asked e.number (numbers es)

-- A list in which no accepted call sets rule 4 never uses it (`first_rules`, proofs/Unstirred.antt). Whether a call
-- sets it, and that none of these does:
abbrev pub sets_stirred : Call → Bool
sets_stirred (set_rule s) = s.rule == stirred_rule
sets_stirred c = false

abbrev pub sets_none : List Call → Bool
sets_none cs = list_all (λ c. not (sets_stirred c)) cs

-- THE CONSERVATION THEOREM is this record, of the journal r of the calls cs on the head of an opening with this rule
-- and this many vessels, and on the table t. It is one claim about the whole list, refused calls included.
pub record Demand3 (rule size : ℕ) (t : List ℕ) (cs : List Call) (r : Journal) : Type 0 where
  -- the pieces are those, in that order, of the accepted calls followed in turn from the empty book
  pub in_turn : book_of r.head r.table ≡ follow (opened rule size) (answered r.log)
  -- in each vessel, and on the scale, they sum to the weigh book's weight there, fed the accepted transfers, lifts and
  -- tips
  pub vessel_sums : (v : ℕ) → held v (book_of r.head r.table).pieces ≡ (feed (blank size) (answered r.log)).weight v
  -- for each origin and birth minute they sum to what the weigh book saw born
  pub birth_sums : (o m : ℕ)
      → sum (born_at o m) (book_of r.head r.table).pieces ≡ (feed (blank size) (answered r.log)).births o m
  -- where rule 4 is never used, pieces + even transfers = accepted transfers, with lifts as transfers and no tip
  -- counted
  pub even_count : stirs r.log ≡ false → r.head.pieces + evens r.log ≡ r.head.accepted
  -- the head's count is the number of transfers and lifts answered 0
  pub accepted_count : r.head.accepted ≡ transfers (answered r.log)
  -- where rule 4 is never used, and no more transfers are listed, lifts and refused ones counted, than there are
  -- places, the weigh book alone gives the number of every transfer and lift; and of every tip, if the table has at
  -- least 4 numbers
  pub forecasts : stirs r.log ≡ false → transfers cs ≤ places_of t → (1 ≤ tips cs → 4 ≤ length t)
      → numbers r.log ≡ forecast (blank size) cs
  -- the book adds up, so that number 4 never comes
  pub book_adds_up : adds_up r.head r.table ≡ true
