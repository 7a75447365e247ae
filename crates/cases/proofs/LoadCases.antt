-- Beside a loaded scale, on small cases: a tip brings the load in behind (`tip_behind`), no vessel's report has it
-- (`left_out`), and what waits on the scale comes back behind what was received meanwhile (`waited`).
-- Assumes nothing.
use Rattle.std.proofs.Common.{◌≡◌, refl, List, [], ◌∷◌, ◌++◌, map, ℕ, take, replicate}
use Rattle.table.specs.Table.{pieces_of, flat, places_in}
use Rattle.taking.specs.Selection.{precedes}
use Rattle.taking.specs.Taking.{take_up_to, taken}
use Rattle.book.specs.declared.Head.{Head}
use Rattle.book.specs.declared.Report.{Report}
use Rattle.book.specs.declared.Report.TheVariants.{Held, Spread, Whole}
use Rattle.book.specs.Head.{tab, balances_of, every, same, adds_up, opening, rules_fit, all_zero, given_rules}
use Rattle.book.specs.Motion.{takes}
use Rattle.book.specs.Transfer.{transfer_of, transfer_checks}
use Rattle.book.specs.Scale.{lift_of, tip_of, lift_checks, tip_checks}
use Rattle.book.specs.Reports.{rows, asked_checks}
use Rattle.book.specs.Calls.{Call, post, lift, tip, ask}
use Rattle.book.specs.Memory.{number_of, book_checks, call_on}
use Rattle.book.specs.Lists.{calls_on}
use Rattle.cases.proofs.Cases.{Case, called, seen, pieces, answers}

-- a book of three vessels under a rule: two pieces on the scale, each with a piece of another behind it
abbrev laden : ℕ → Head
laden rule =
    record { rule = rule; vessels = 3; pieces = 4; last = 5; accepted = 9; balances = 3 ∷ 5 ∷ replicate 62 0; scale = 6; rules = given_rules rule 3 }

abbrev lying : List ℕ
lying = 64 ∷ 0 ∷ 5 ∷ 2 ∷ 1 ∷ 2 ∷ 1 ∷ 5 ∷ 64 ∷ 2 ∷ 3 ∷ 4 ∷ 0 ∷ 1 ∷ 2 ∷ 3 ∷ 7 ∷ 7 ∷ []

-- the table, and of the head the scale, the last minute, the count and two balances
abbrev tipped_into_1 : ℕ → List ℕ
tipped_into_1 rule =
    let o = call_on (laden rule) lying (tip (tip_of 1 9)) in
    o.table ++ (o.head.scale ∷ o.head.last ∷ o.head.accepted ∷ take 2 o.head.balances)

abbrev behind : List ℕ
behind = 1 ∷ 2 ∷ 1 ∷ 5 ∷ 0 ∷ 1 ∷ 2 ∷ 3 ∷ 1 ∷ 0 ∷ 5 ∷ 2 ∷ 1 ∷ 2 ∷ 3 ∷ 4 ∷ 7 ∷ 7 ∷ 0 ∷ 9 ∷ 9 ∷ 3 ∷ 11 ∷ []

pub tip_behind : map tipped_into_1 (0 ∷ 1 ∷ 2 ∷ 3 ∷ []) ≡ behind ∷ behind ∷ behind ∷ behind ∷ []
unfolding call_on number_of book_checks adds_up rules_fit all_zero every same balances_of tab places_in pieces_of flat tip_checks takes taken take_up_to precedes
tip_behind = refl

-- The same book's reports, and the number behind them.
abbrev reported : Report → List ℕ
reported q = (call_on (laden 0) lying (ask q (replicate 10 7))).room

abbrev vessels_only : List (List ℕ)
vessels_only =
    (0 ∷ 3 ∷ 0 ∷ replicate 7 7) ∷ (0 ∷ 5 ∷ 0 ∷ replicate 7 7) ∷ (0 ∷ 3 ∷ 0 ∷ 0 ∷ 0 ∷ 5 ∷ 0 ∷ 0 ∷ 0 ∷ 7 ∷ []) ∷ []

-- and of 64 vessels, where the scale's number would be behind the row
abbrev all_vessels : Head
all_vessels =
    record { rule = 0; vessels = 64; pieces = 1; last = 5; accepted = 1; balances = replicate 64 0; scale = 7; rules = replicate 64 0 }

pub left_out : (map reported (Held 0 ∷ Spread 2 0 9 ∷ Whole ∷ []) ≡ vessels_only)
    × ((call_on all_vessels (64 ∷ 63 ∷ 5 ∷ 7 ∷ []) (ask (Spread 63 0 9) (replicate 65 7))).room ≡ replicate 64 0 ++ (7 ∷ []))
unfolding call_on number_of book_checks adds_up rules_fit all_zero every same balances_of tab places_in pieces_of flat asked_checks rows
left_out = (refl, refl)

-- What waits on the scale: part of two lots of vessel 0, which gives and receives meanwhile, gets it back behind what
-- it received, and gives by that. (Had the tip left it where it lay, rules 0 and 1 would pick otherwise.)
abbrev waiting : List Call
waiting =
    post (transfer_of 1 0 1 4 0)
    ∷ post (transfer_of 2 0 2 3 0)
    ∷ lift (lift_of 0 3 5 0)
    ∷ post (transfer_of 0 1 4 1 0)
    ∷ lift (lift_of 1 4 1 0)
    ∷ ask Whole (replicate 9 7)
    ∷ post (transfer_of 2 0 4 2 0)
    ∷ []

abbrev returned : List Call
returned = waiting ++ (tip (tip_of 0 5) ∷ post (transfer_of 0 2 5 4 0) ∷ [])

unfoldable pub cases : List Case
cases =
    called 0 returned answers (0 ∷ 0 ∷ 0 ∷ 0 ∷ 22 ∷ 0 ∷ 0 ∷ 0 ∷ [])
    ∷ called 0 waiting pieces (0 ∷ 2 ∷ 2 ∷ 1 ∷ 64 ∷ 1 ∷ 1 ∷ 4 ∷ 64 ∷ 2 ∷ 2 ∷ 1 ∷ 1 ∷ 2 ∷ 2 ∷ 1 ∷ 0 ∷ 2 ∷ 4 ∷ 2 ∷ 0 ∷ [])
    ∷ called 1 waiting pieces (0 ∷ 1 ∷ 1 ∷ 1 ∷ 64 ∷ 2 ∷ 2 ∷ 3 ∷ 64 ∷ 1 ∷ 1 ∷ 2 ∷ 1 ∷ 1 ∷ 1 ∷ 1 ∷ 0 ∷ 2 ∷ 4 ∷ 2 ∷ 0 ∷ [])
    ∷ called 0 returned pieces (1 ∷ 2 ∷ 2 ∷ 1 ∷ 0 ∷ 1 ∷ 1 ∷ 3 ∷ 0 ∷ 2 ∷ 2 ∷ 1 ∷ 2 ∷ 2 ∷ 2 ∷ 1 ∷ 2 ∷ 2 ∷ 4 ∷ 2 ∷ 2 ∷ 1 ∷ 1 ∷ 1 ∷ 0 ∷ [])
    ∷ called 1 returned pieces (0 ∷ 1 ∷ 1 ∷ 1 ∷ 1 ∷ 1 ∷ 1 ∷ 1 ∷ 0 ∷ 2 ∷ 4 ∷ 2 ∷ 0 ∷ 2 ∷ 2 ∷ 1 ∷ 2 ∷ 1 ∷ 1 ∷ 2 ∷ 2 ∷ 2 ∷ 2 ∷ 2 ∷ 0 ∷ [])
    ∷ called 2 returned pieces (0 ∷ 2 ∷ 2 ∷ 1 ∷ 1 ∷ 2 ∷ 2 ∷ 1 ∷ 0 ∷ 2 ∷ 4 ∷ 2 ∷ 0 ∷ 2 ∷ 2 ∷ 1 ∷ 2 ∷ 1 ∷ 1 ∷ 4 ∷ 1 ∷ [])
    ∷ called 3 returned pieces (0 ∷ 1 ∷ 1 ∷ 1 ∷ 1 ∷ 1 ∷ 1 ∷ 1 ∷ 0 ∷ 2 ∷ 2 ∷ 1 ∷ 0 ∷ 1 ∷ 1 ∷ 2 ∷ 2 ∷ 2 ∷ 4 ∷ 2 ∷ 2 ∷ 2 ∷ 2 ∷ 2 ∷ 0 ∷ [])
    ∷ []

pub waited : map seen cases ≡ map (λ c. c.wanted) cases
unfolding cases calls_on call_on number_of book_checks adds_up rules_fit all_zero every same balances_of tab places_in pieces_of flat opening transfer_checks lift_checks tip_checks takes taken take_up_to precedes asked_checks rows
waited = refl
