-- STIRRED VESSELS on small cases, which were worked by another program: parts given on into another stirred vessel
-- (`onward`), a lift of a stirred vessel, its tip and a transfer beside it (`lifted`), rule 4 before and after another
-- rule (`changed`), a table with exactly the places that the parts need, where the book has more pieces than accepted
-- transfers afterwards (`filled`), and one with a place less (`beyond`), weights near the largest (`heavy`); and how
-- many pieces go whole, how many are split and what is born, for weights below the balance, at it and above. And which
-- lists use rule 4 (`stirred_lists`) or set it.
-- Assumes nothing.
use Rattle.std.proofs.Common.{◌≡◌, refl, Bool, true, false, List, [], ◌∷◌, ◌++◌, map, ℕ, replicate}
use Rattle.sharing.specs.Sharing.{up_to, shares}
use Rattle.table.specs.Table.{pieces_of, flat, places_in}
use Rattle.taking.specs.Selection.{precedes}
use Rattle.taking.specs.Stirring.{giving}
use Rattle.taking.specs.Taking.{take_up_to, taken}
use Rattle.book.specs.declared.Report.TheVariants.{Whole}
use Rattle.book.specs.Head.{tab, balances_of, every, same, all_zero, rules_fit, adds_up, opening}
use Rattle.book.specs.Motion.{takes}
use Rattle.book.specs.Transfer.{transfer_checks}
use Rattle.book.specs.Scale.{lift_of, tip_of, lift_checks, tip_checks}
use Rattle.book.specs.Setting.{setting_checks}
use Rattle.book.specs.Calls.{Call, lift, tip, ask}
use Rattle.book.specs.Memory.{number_of, book_checks, call_on}
use Rattle.book.specs.Reports.{asked_checks, rows}
use Rattle.book.specs.Lists.{Journal, calls_on, stirs}
use Rattle.conservation.specs.Conservation.{sets_none}
use Rattle.cases.proofs.Cases.{Case, called, lent, seen, pieces, answers}
use Rattle.cases.proofs.Mixed.{give, set_to}

-- four lots of vessel 0, of 5, 1, 1 and 3 grams, and four of 5
abbrev lots : List Call
lots = give 1 0 1 5 0 ∷ give 2 0 2 1 0 ∷ give 1 0 3 1 0 ∷ give 2 0 4 3 0 ∷ set_to 0 4 ∷ []

abbrev even_lots : List Call
even_lots = give 1 0 1 5 0 ∷ give 2 0 2 5 0 ∷ give 1 0 3 5 0 ∷ give 2 0 4 5 0 ∷ set_to 0 4 ∷ []

abbrev onward : List Call
onward = lots ++ (set_to 1 4 ∷ give 0 1 5 5 0 ∷ give 1 2 6 3 0 ∷ [])

abbrev lifted : List Call
lifted = lots ++ (lift (lift_of 0 5 5 0) ∷ give 1 0 5 2 0 ∷ tip (tip_of 2 6) ∷ [])

abbrev changed : List Call
changed = lots ++ (give 0 1 5 5 0 ∷ set_to 0 1 ∷ give 0 2 6 2 0 ∷ set_to 0 4 ∷ give 0 2 6 2 0 ∷ [])

-- eight places: four parts fill them, and what goes whole needs none
abbrev filled : List Call
filled = even_lots ++ (give 0 1 5 10 0 ∷ give 1 2 6 2 0 ∷ [])

abbrev beyond : List Call
beyond =
    even_lots ++ (give 1 2 4 1 0 ∷ give 0 1 5 10 0 ∷ lift (lift_of 0 5 10 0) ∷ give 0 1 5 3 0 ∷ give 0 1 5 20 0 ∷ [])

abbrev heavy : List Call
heavy = give 1 0 1 2147483647 0 ∷ give 2 0 2 1 0 ∷ give 1 0 2 2147483647 0 ∷ set_to 0 4 ∷ give 0 1 5 4294967294 0 ∷ []

-- a look at what a transfer of this weight from vessel 0 would answer: whole, split, born
abbrev answers_to : ℕ → Journal → List ℕ
answers_to q r = let a = (call_on r.head r.table (give 0 1 5 q 2)).answer in a.whole ∷ a.split ∷ a.born ∷ []

unfoldable pub cases : List Case
cases =
    called 0 onward pieces (0 ∷ 1 ∷ 1 ∷ 3 ∷ 0 ∷ 1 ∷ 3 ∷ 1 ∷ 0 ∷ 2 ∷ 4 ∷ 1 ∷ 1 ∷ 1 ∷ 1 ∷ 1 ∷ 1 ∷ 2 ∷ 2 ∷ 1 ∷ 2 ∷ 1 ∷ 1 ∷ 1 ∷ 2 ∷ 2 ∷ 4 ∷ 2 ∷ 0 ∷ [])
    ∷ called 0 lifted pieces (0 ∷ 1 ∷ 1 ∷ 3 ∷ 0 ∷ 1 ∷ 3 ∷ 1 ∷ 0 ∷ 2 ∷ 4 ∷ 1 ∷ 0 ∷ 1 ∷ 5 ∷ 2 ∷ 2 ∷ 1 ∷ 1 ∷ 2 ∷ 2 ∷ 2 ∷ 2 ∷ 1 ∷ 2 ∷ 2 ∷ 4 ∷ 2 ∷ 0 ∷ [])
    ∷ called 0 changed pieces (0 ∷ 1 ∷ 1 ∷ 1 ∷ 1 ∷ 1 ∷ 1 ∷ 2 ∷ 1 ∷ 2 ∷ 2 ∷ 1 ∷ 1 ∷ 2 ∷ 4 ∷ 2 ∷ 2 ∷ 2 ∷ 4 ∷ 1 ∷ 2 ∷ 1 ∷ 3 ∷ 1 ∷ 2 ∷ 1 ∷ 1 ∷ 2 ∷ 1 ∷ [])
    ∷ called 0 filled pieces (0 ∷ 1 ∷ 1 ∷ 3 ∷ 0 ∷ 2 ∷ 2 ∷ 2 ∷ 0 ∷ 1 ∷ 3 ∷ 3 ∷ 0 ∷ 2 ∷ 4 ∷ 2 ∷ 1 ∷ 2 ∷ 2 ∷ 3 ∷ 1 ∷ 1 ∷ 3 ∷ 2 ∷ 1 ∷ 2 ∷ 4 ∷ 3 ∷ 2 ∷ 1 ∷ 1 ∷ 2 ∷ 1 ∷ [])
    ∷ called 0 filled answers (0 ∷ 0 ∷ 0 ∷ 0 ∷ 0 ∷ 0 ∷ [])
    ∷ called 0 beyond pieces (0 ∷ 1 ∷ 1 ∷ 5 ∷ 0 ∷ 2 ∷ 2 ∷ 4 ∷ 0 ∷ 1 ∷ 3 ∷ 4 ∷ 0 ∷ 2 ∷ 4 ∷ 4 ∷ 2 ∷ 1 ∷ 4 ∷ 1 ∷ 1 ∷ 2 ∷ 2 ∷ 1 ∷ 1 ∷ 1 ∷ 3 ∷ 1 ∷ 1 ∷ 2 ∷ 4 ∷ 1 ∷ 0 ∷ [])
    ∷ called 0 beyond answers (0 ∷ 0 ∷ 0 ∷ 0 ∷ 0 ∷ 11 ∷ 11 ∷ 0 ∷ 11 ∷ [])
    ∷ called 0 heavy pieces (0 ∷ 1 ∷ 1 ∷ 1 ∷ 1 ∷ 1 ∷ 1 ∷ 2147483646 ∷ 1 ∷ 2 ∷ 2 ∷ 1 ∷ 1 ∷ 1 ∷ 2 ∷ 2147483647 ∷ 0 ∷ [])
    ∷ called 0 lots (answers_to 1) (0 ∷ 1 ∷ 0 ∷ [])
    ∷ called 0 lots (answers_to 4) (0 ∷ 2 ∷ 0 ∷ [])
    ∷ called 0 lots (answers_to 5) (1 ∷ 2 ∷ 0 ∷ [])
    ∷ called 0 lots (answers_to 9) (3 ∷ 1 ∷ 0 ∷ [])
    ∷ called 0 lots (answers_to 10) (4 ∷ 0 ∷ 0 ∷ [])
    ∷ called 0 lots (answers_to 12) (4 ∷ 0 ∷ 2 ∷ [])
    ∷ called 0 even_lots (answers_to 3) (0 ∷ 3 ∷ 0 ∷ [])
    ∷ called 0 even_lots (answers_to 17) (1 ∷ 3 ∷ 0 ∷ [])
    ∷ called 0 (set_to 0 4 ∷ []) (answers_to 12) (0 ∷ 0 ∷ 12 ∷ [])
    ∷ []

pub stirred_cases : map seen cases ≡ map (λ c. c.wanted) cases
unfolding cases calls_on call_on number_of book_checks adds_up rules_fit all_zero every same balances_of tab places_in pieces_of flat opening transfer_checks lift_checks tip_checks setting_checks takes taken take_up_to precedes giving shares up_to
stirred_cases = refl

-- Which lists use rule 4: a pick under it that is accepted, or refused for want of places, but none that is refused
-- before, and no setting, tip or report.
abbrev used : List Call → Bool
used cs = stirs (calls_on (opening 0 3).head lent cs).log

abbrev unpicked : List Call
unpicked =
    lots
    ++ (give 0 0 5 1 0
    ∷ give 0 1 3 1 0
    ∷ give 3 0 5 1 0
    ∷ give 1 0 5 1 0
    ∷ lift (lift_of 1 5 1 0)
    ∷ lift (lift_of 0 5 1 0)
    ∷ tip (tip_of 0 5)
    ∷ lift (lift_of 0 5 0 0)
    ∷ give 2 1 5 1 0
    ∷ give 0 1 5 4294967295 0
    ∷ give 0 1 5 1 6
    ∷ lift (lift_of 0 5 1 6)
    ∷ ask Whole (replicate 9 7)
    ∷ set_to 0 3
    ∷ give 0 1 5 1 0
    ∷ [])

abbrev full_table : List Call
full_table = even_lots ++ (give 1 2 4 1 0 ∷ [])

pub stirred_lists : map used (unpicked ∷ (lots ++ (give 0 1 5 1 0 ∷ [])) ∷ (lots ++ (lift (lift_of 0 5 1 0) ∷ [])) ∷ (full_table ++ (give 0 1 5 10 0 ∷ [])) ∷ (full_table ++ (lift (lift_of 0 5 10 0) ∷ [])) ∷ (full_table ++ (set_to 0 0 ∷ give 0 1 5 10 0 ∷ [])) ∷ [])
    ≡ false ∷ true ∷ true ∷ true ∷ true ∷ false ∷ []
unfolding calls_on call_on number_of book_checks adds_up rules_fit all_zero every same balances_of tab places_in pieces_of flat opening transfer_checks lift_checks tip_checks setting_checks asked_checks rows takes taken take_up_to precedes giving shares up_to
stirred_lists = refl

pub setting_lists : map sets_none (unpicked ∷ (set_to 0 3 ∷ set_to 1 4 ∷ []) ∷ (set_to 0 3 ∷ set_to 1 5 ∷ give 0 1 5 4 0 ∷ lift (lift_of 0 4 4 4) ∷ tip (tip_of 4 4) ∷ ask Whole [] ∷ []) ∷ []) ≡ false ∷ false ∷ true ∷ []
setting_lists = refl
