-- The six movements, each as a lift and a tip, leave the pieces that they leave as transfers (`divided`), and what else
-- lifts and tips leave, on small cases.
-- Assumes nothing.
use Rattle.std.proofs.Common.{◌≡◌, refl, List, [], ◌∷◌, map, ℕ}
use Rattle.table.specs.Table.{pieces_of, flat, places_in}
use Rattle.taking.specs.Selection.{precedes}
use Rattle.taking.specs.Taking.{take_up_to, taken}
use Rattle.book.specs.declared.Transfer.{Transfer}
use Rattle.book.specs.Head.{tab, balances_of, every, same, adds_up, opening, rules_fit, all_zero}
use Rattle.book.specs.Motion.{takes}
use Rattle.book.specs.Transfer.{transfer_of, transfer_checks}
use Rattle.book.specs.Scale.{lift_of, tip_of, lift_part, tip_part, lift_checks, tip_checks}
use Rattle.book.specs.Calls.{Call, post, lift, tip}
use Rattle.book.specs.Memory.{book_checks, number_of, call_on}
use Rattle.book.specs.Lists.{Journal, calls_on}
use Rattle.cases.proofs.Cases.{Case, called, seen, pieces, answers}
use Rattle.cases.proofs.Marked.{six}

-- a transfer as its lift and its tip
abbrev both : List Transfer → List Call
both [] = []
both (x ∷ xs) = lift (lift_part x) ∷ tip (tip_part x) ∷ both xs

-- what is on the scale, the last minute, how many were accepted, and the pieces
abbrev held_up : Journal → List ℕ
held_up r = r.head.scale ∷ r.head.last ∷ r.head.accepted ∷ pieces r

unfoldable pub cases : List Case
cases =
    called 2 (both six) pieces (0 ∷ 2 ∷ 3 ∷ 2 ∷ 2 ∷ 1 ∷ 5 ∷ 4 ∷ 1 ∷ 1 ∷ 1 ∷ 2 ∷ 0 ∷ 1 ∷ 1 ∷ 1 ∷ 2 ∷ [])
    ∷ called 0 (both six) pieces (0 ∷ 2 ∷ 3 ∷ 2 ∷ 2 ∷ 1 ∷ 5 ∷ 4 ∷ 1 ∷ 1 ∷ 1 ∷ 2 ∷ 0 ∷ 1 ∷ 1 ∷ 1 ∷ 2 ∷ [])
    ∷ called 1 (both six) pieces (0 ∷ 1 ∷ 1 ∷ 2 ∷ 2 ∷ 1 ∷ 1 ∷ 1 ∷ 2 ∷ 2 ∷ 3 ∷ 2 ∷ 2 ∷ 1 ∷ 5 ∷ 1 ∷ 1 ∷ 1 ∷ 5 ∷ 2 ∷ 0 ∷ 1 ∷ 5 ∷ 1 ∷ 0 ∷ [])
    ∷ called 3 (both six) pieces (0 ∷ 1 ∷ 1 ∷ 2 ∷ 2 ∷ 2 ∷ 3 ∷ 2 ∷ 2 ∷ 1 ∷ 1 ∷ 1 ∷ 2 ∷ 1 ∷ 5 ∷ 1 ∷ 1 ∷ 1 ∷ 5 ∷ 2 ∷ 0 ∷ 1 ∷ 5 ∷ 1 ∷ 0 ∷ [])
    -- a lift: born at its source, on the scale; then another lift is refused with 22 and a transfer is not, and after
    -- the tip another tip with 23
    ∷ called 0 (lift (lift_of 1 5 3 2) ∷ []) held_up (3 ∷ 5 ∷ 1 ∷ 64 ∷ 1 ∷ 3 ∷ 3 ∷ 0 ∷ [])
    ∷ called 0 (tip (tip_of 0 5) ∷ lift (lift_of 1 5 3 2) ∷ lift (lift_of 9 0 0 0) ∷ post (transfer_of 1 2 5 1 0) ∷ tip (tip_of 2 4) ∷ tip (tip_of 2 6) ∷ tip (tip_of 2 6) ∷ []) answers
    (23 ∷ 0 ∷ 22 ∷ 0 ∷ 8 ∷ 0 ∷ 23 ∷ [])
    -- back to where it came from: the first lot ends behind the second, and the tip sets the last minute and is not
    -- counted
    ∷ called 0 (post (transfer_of 0 1 1 2 0) ∷ post (transfer_of 2 1 2 3 0) ∷ lift (lift_of 1 3 2 0) ∷ tip (tip_of 1 7) ∷ []) held_up (0 ∷ 7 ∷ 3 ∷ 1 ∷ 2 ∷ 2 ∷ 3 ∷ 1 ∷ 0 ∷ 1 ∷ 2 ∷ 1 ∷ [])
    ∷ []

pub divided : map seen cases ≡ map (λ c. c.wanted) cases
unfolding cases calls_on call_on number_of book_checks adds_up rules_fit all_zero every same balances_of tab places_in pieces_of flat opening transfer_checks lift_checks tip_checks takes taken take_up_to precedes
divided = refl
