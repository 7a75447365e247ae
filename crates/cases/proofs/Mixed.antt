-- RULES THAT CHANGE AND MIX, on small cases: parts of the same lots, each taken under another rule of their vessel
-- (`parts`); three vessels with a rule each beside a book with a fourth (`mixture`); a rule set while weight waits on
-- the scale, which a tip brings in as it lies (`weighed`); and settings that are refused (`refused`). In each of the
-- first three the pieces would be others if any setting that is accepted were left out, or a pick went by the rule of
-- its destination or of the book.
-- Assumes nothing.
use Rattle.std.proofs.Common.{◌≡◌, refl, List, [], ◌∷◌, ◌++◌, map, ℕ, take}
use Rattle.table.specs.Table.{pieces_of, flat, places_in}
use Rattle.taking.specs.Selection.{precedes}
use Rattle.taking.specs.Taking.{take_up_to, taken}
use Rattle.refusal.specs.Numbers.{TOP}
use Rattle.book.specs.Head.{tab, balances_of, every, same, all_zero, rules_fit, adds_up, opening}
use Rattle.book.specs.Motion.{takes}
use Rattle.book.specs.Transfer.{transfer_of, transfer_checks}
use Rattle.book.specs.Scale.{lift_of, tip_of, lift_checks, tip_checks}
use Rattle.book.specs.Setting.{setting_of, setting_checks}
use Rattle.book.specs.Calls.{Call, post, lift, tip, set_rule}
use Rattle.book.specs.Memory.{number_of, book_checks, call_on}
use Rattle.book.specs.Lists.{Entry, Journal, calls_on}
use Rattle.cases.proofs.Cases.{Case, called, seen, pieces}

abbrev pub give : ℕ → ℕ → ℕ → ℕ → ℕ → Call
give s d t q age = post (transfer_of s d t q age)

abbrev pub set_to : ℕ → ℕ → Call
set_to v rule = set_rule (setting_of v rule)

-- four lots of vessel 0, received in this order: born in minutes 5, 2, 8 and 6
abbrev lots : List Call
lots = give 1 0 9 3 4 ∷ give 2 0 9 3 7 ∷ give 1 0 10 3 2 ∷ give 2 0 10 3 4 ∷ []

abbrev parts : List Call
parts =
    lots ++ (give 0 1 11 2 0 ∷ set_to 0 1 ∷ give 0 1 11 2 0 ∷ set_to 0 2 ∷ give 0 1 11 2 0 ∷ set_to 0 3 ∷ give 0 1 11 2 0 ∷ [])

abbrev mixture : List Call
mixture =
    set_to 0 1
    ∷ set_to 1 2
    ∷ set_to 2 3
    ∷ give 1 0 5 3 0
    ∷ give 2 0 6 3 4
    ∷ give 1 0 7 3 0
    ∷ give 0 1 8 4 0
    ∷ give 0 1 9 1 0
    ∷ give 1 2 9 2 0
    ∷ give 1 2 9 3 0
    ∷ give 2 0 9 3 0
    ∷ []

abbrev weighed : List Call
weighed =
    lots ++ (set_to 0 3 ∷ lift (lift_of 0 11 4 0) ∷ set_to 0 2 ∷ set_to 1 1 ∷ set_to 3 1 ∷ tip (tip_of 1 12) ∷ give 0 1 12 2 0 ∷ give 1 2 12 3 0 ∷ [])

abbrev refused : List Call
refused =
    set_to 2 3 ∷ set_to 3 0 ∷ set_to 3 5 ∷ set_to 0 5 ∷ set_to 0 TOP ∷ give 1 0 5 3 0 ∷ set_to 1 2 ∷ set_to 64 0 ∷ []

-- a look at the number of every call, the book's rule and those of four vessels, one more than it has
abbrev told : Journal → List ℕ
told r = map (λ (e : Entry). e.number) r.log ++ (r.head.rule ∷ take 4 r.head.rules)

unfoldable pub cases : List Case
cases =
    called 0 parts pieces (0 ∷ 1 ∷ 5 ∷ 1 ∷ 0 ∷ 2 ∷ 2 ∷ 1 ∷ 0 ∷ 1 ∷ 8 ∷ 1 ∷ 0 ∷ 2 ∷ 6 ∷ 1 ∷ 1 ∷ 1 ∷ 5 ∷ 2 ∷ 1 ∷ 2 ∷ 6 ∷ 2 ∷ 1 ∷ 2 ∷ 2 ∷ 2 ∷ 1 ∷ 1 ∷ 8 ∷ 2 ∷ 0 ∷ [])
    ∷ called 0 mixture pieces (0 ∷ 1 ∷ 5 ∷ 3 ∷ 0 ∷ 2 ∷ 2 ∷ 1 ∷ 2 ∷ 2 ∷ 2 ∷ 1 ∷ 2 ∷ 2 ∷ 2 ∷ 1 ∷ 0 ∷ 1 ∷ 7 ∷ 3 ∷ 3 ∷ [])
    ∷ called 0 mixture told (0 ∷ 0 ∷ 0 ∷ 0 ∷ 0 ∷ 0 ∷ 0 ∷ 0 ∷ 0 ∷ 0 ∷ 0 ∷ 0 ∷ 1 ∷ 2 ∷ 3 ∷ 0 ∷ [])
    ∷ called 0 weighed pieces (0 ∷ 1 ∷ 5 ∷ 3 ∷ 0 ∷ 2 ∷ 2 ∷ 1 ∷ 0 ∷ 2 ∷ 6 ∷ 2 ∷ 1 ∷ 1 ∷ 8 ∷ 3 ∷ 2 ∷ 2 ∷ 2 ∷ 2 ∷ 2 ∷ 2 ∷ 6 ∷ 1 ∷ 1 ∷ [])
    ∷ called 0 weighed told (0 ∷ 0 ∷ 0 ∷ 0 ∷ 0 ∷ 0 ∷ 0 ∷ 0 ∷ 5 ∷ 0 ∷ 0 ∷ 0 ∷ 0 ∷ 2 ∷ 1 ∷ 0 ∷ 0 ∷ [])
    ∷ called 1 refused pieces (0 ∷ 1 ∷ 5 ∷ 3 ∷ 0 ∷ [])
    ∷ called 1 refused told (0 ∷ 5 ∷ 5 ∷ 2 ∷ 2 ∷ 0 ∷ 0 ∷ 5 ∷ 1 ∷ 1 ∷ 2 ∷ 3 ∷ 0 ∷ [])
    ∷ []

pub mixed : map seen cases ≡ map (λ c. c.wanted) cases
unfolding cases calls_on call_on number_of book_checks adds_up rules_fit all_zero every same balances_of tab places_in pieces_of flat opening transfer_checks lift_checks tip_checks setting_checks takes taken take_up_to precedes
mixed = refl
