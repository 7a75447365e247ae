-- What ages do under rules 2 and 3, where births no longer follow the order of receipt (`aged`); and births of one
-- vessel at different minutes, with ages that bring them to the same minute, are one entry of the weigh book
-- (`one_entry`).
-- Assumes nothing.
use Rattle.std.proofs.Common.{◌≡◌, refl, List, [], ◌∷◌, map}
use Rattle.table.specs.Table.{pieces_of, flat, places_in}
use Rattle.taking.specs.Selection.{precedes}
use Rattle.taking.specs.Taking.{take_up_to, taken}
use Rattle.book.specs.declared.Transfer.{Transfer}
use Rattle.book.specs.Head.{tab, balances_of, every, same, adds_up, opening, rules_fit, all_zero}
use Rattle.book.specs.Motion.{takes}
use Rattle.book.specs.Transfer.{transfer_of, transfer_checks, unaged}
use Rattle.book.specs.Calls.{post}
use Rattle.book.specs.Memory.{book_checks, number_of, call_on}
use Rattle.conservation.specs.WeighBook.{blank, weigh_number, feed}
use Rattle.book.specs.Lists.{calls_on}
use Rattle.cases.proofs.Cases.{Case, worked, seen, pieces}

-- the second delivery is received later, and was milled earlier
abbrev apart : List Transfer
apart = transfer_of 0 2 10 5 2 ∷ transfer_of 1 2 11 4 6 ∷ unaged 2 1 12 6 ∷ []

-- both deliveries were milled in minute 5
abbrev level : List Transfer
level = transfer_of 0 2 10 5 5 ∷ transfer_of 1 2 11 4 6 ∷ unaged 2 1 12 6 ∷ []

unfoldable pub cases : List Case
cases =
    worked 0 apart pieces (2 ∷ 1 ∷ 5 ∷ 3 ∷ 1 ∷ 0 ∷ 8 ∷ 5 ∷ 1 ∷ 1 ∷ 5 ∷ 1 ∷ 0 ∷ [])
    ∷ worked 2 apart pieces (2 ∷ 0 ∷ 8 ∷ 3 ∷ 1 ∷ 1 ∷ 5 ∷ 4 ∷ 1 ∷ 0 ∷ 8 ∷ 2 ∷ 0 ∷ [])
    ∷ worked 3 apart pieces (2 ∷ 1 ∷ 5 ∷ 3 ∷ 1 ∷ 0 ∷ 8 ∷ 5 ∷ 1 ∷ 1 ∷ 5 ∷ 1 ∷ 0 ∷ [])
    ∷ worked 2 level pieces (2 ∷ 1 ∷ 5 ∷ 3 ∷ 1 ∷ 0 ∷ 5 ∷ 5 ∷ 1 ∷ 1 ∷ 5 ∷ 1 ∷ 0 ∷ [])
    ∷ worked 3 level pieces (2 ∷ 0 ∷ 5 ∷ 3 ∷ 1 ∷ 1 ∷ 5 ∷ 4 ∷ 1 ∷ 0 ∷ 5 ∷ 2 ∷ 0 ∷ [])
    ∷ []

pub aged : map seen cases ≡ map (λ c. c.wanted) cases
unfolding cases calls_on call_on number_of book_checks adds_up rules_fit all_zero every same balances_of tab places_in pieces_of flat opening transfer_checks takes taken take_up_to precedes
aged = refl

pub one_entry : (feed (blank 2) (map post (transfer_of 0 1 5 2 1 ∷ transfer_of 0 1 6 3 2 ∷ []))).births 0 4 ≡ 5
unfolding feed weigh_number transfer_checks
one_entry = refl
