-- Every test and check of a book at its edge, in one table: of each clause of "adds up" a book that only it refuses,
-- and of each number the last that passes and the first that does not. A definition that is altered together with code
-- and proofs fails here. (Pieces above the places show alone only past the most places: `too_many`.)
-- Assumes nothing.
use Rattle.std.proofs.Common.{◌≡◌, refl, false, cond, List, [], ◌∷◌, ◌++◌, map, ℕ, ◌≤◌, ◌<◌, ◌-◌, arith, eqb, length, replicate}
use Rattle.std.proofs.lemmas.Bool.Decides.{nat_tests}
use Rattle.table.specs.Table.{most_places, pieces_of, places_in, places_of}
use Rattle.refusal.specs.Numbers.{TOP, first}
use Rattle.book.specs.declared.Head.{Head}
use Rattle.book.specs.declared.Report.{Report}
use Rattle.book.specs.declared.Report.TheVariants.{Held, Spread, Whole}
use Rattle.book.specs.Head.{most_vessels, the_scale, tab, balances_of, every, same, adds_up, empty_head, opening, rules_fit, all_zero, given_rules, opened, Book}
use Rattle.book.specs.Motion.{Standing}
use Rattle.book.specs.Transfer.{transfer_of, transfer_checks}
use Rattle.book.specs.Scale.{lift_of, tip_of, lift_checks, tip_checks}
use Rattle.book.specs.Setting.{setting_of, setting_checks}
use Rattle.book.specs.Reports.{asked_checks, report_checks}
use Rattle.book.specs.Calls.{post, lift, tip, set_rule, ask}
use Rattle.book.specs.Memory.{book_checks, number_of}
use Rattle.book.specs.Lists.{tips}

-- a test, and what it is to say
pub record Edge : Type 0 where
  pub found : ℕ
  pub wanted : ℕ

-- "book off", 4, or 0, of a head with these numbers and balances and this weight on the scale, and a table
abbrev loaded : ℕ → ℕ → ℕ → ℕ → ℕ → List ℕ → ℕ → List ℕ → ℕ
loaded rule vessels pieces last accepted balances scale t =
    first (book_checks (record { rule = rule; vessels = vessels; pieces = pieces; last = last; accepted = accepted; balances = balances ++ replicate (most_vessels - length balances) 0; scale = scale; rules = given_rules rule vessels }) t)

abbrev book : ℕ → ℕ → ℕ → ℕ → ℕ → List ℕ → List ℕ → ℕ
book rule vessels pieces last accepted balances t = loaded rule vessels pieces last accepted balances 0 t

-- the same of an empty book whose vessels have these rules
abbrev ruled : ℕ → List ℕ → ℕ
ruled vessels rules = first (book_checks (record { rule = 0; vessels = vessels; pieces = 0; last = 0; accepted = 0; balances = replicate most_vessels 0; scale = 0; rules = rules }) (9 ∷ 9 ∷ 9 ∷ 9 ∷ []))

-- the number of a setting on three vessels
abbrev given : ℕ → ℕ → ℕ
given v rule = first (setting_checks 3 (setting_of v rule))

-- three vessels that hold 5 each, so much on the scale, the last minute 7 and so many accepted
abbrev stand : ℕ → ℕ → Standing
stand scale accepted = record { vessels = 3; balance = λ v. cond (eqb v the_scale) scale 5; last = 7; accepted = accepted }

-- the number of a transfer where nothing is on the scale, and of one, a lift and a tip where so much is
abbrev move : ℕ → ℕ → ℕ → ℕ → ℕ → ℕ → ℕ
move accepted s d t q age = first (transfer_checks (stand 0 accepted) (transfer_of s d t q age))

abbrev beside : ℕ → ℕ → ℕ → ℕ → ℕ → ℕ → ℕ
beside scale s d t q age = first (transfer_checks (stand scale 0) (transfer_of s d t q age))

abbrev raise : ℕ → ℕ → ℕ → ℕ → ℕ → ℕ → ℕ
raise scale accepted s t q age = first (lift_checks the_scale (stand scale accepted) (lift_of s t q age))

abbrev lower : ℕ → ℕ → ℕ → ℕ
lower scale d t = first (tip_checks the_scale (stand scale TOP) (tip_of d t))

-- the number of a report on three vessels, with so much room
abbrev report : Report → ℕ → ℕ
report q room = first (report_checks (opened 0 3) room q)

abbrev ◌gives◌ : ℕ → ℕ → Edge
n gives m = record { found = n; wanted = m }

infix 70 ◌gives◌
unfoldable pub edges : List Edge
edges =
    -- opening: rule and number of vessels
    (opening 3 1).number gives 0
    ∷ (opening 4 1).number gives 2
    ∷ (opening 0 0).number gives 3
    ∷ (opening 0 64).number gives 0
    ∷ (opening 0 65).number gives 3
    ∷ (opening 4 0).number gives 2
    -- a book that adds up: vessel 1 of 2 holds 7 grams, born at 0 in minute 5
    ∷ book 3 2 1 5 1 (0 ∷ 7 ∷ []) (1 ∷ 0 ∷ 5 ∷ 7 ∷ []) gives 0
    -- the rule
    ∷ book 4 2 1 5 1 (0 ∷ 7 ∷ []) (1 ∷ 0 ∷ 5 ∷ 7 ∷ []) gives 4
    -- the number of vessels
    ∷ book 0 0 0 0 0 [] (9 ∷ 9 ∷ 9 ∷ 9 ∷ []) gives 4
    ∷ book 0 1 0 0 0 [] (9 ∷ 9 ∷ 9 ∷ 9 ∷ []) gives 0
    ∷ book 0 64 0 0 0 [] (9 ∷ 9 ∷ 9 ∷ 9 ∷ []) gives 0
    ∷ book 0 65 0 0 0 [] (9 ∷ 9 ∷ 9 ∷ 9 ∷ []) gives 4
    -- a table of fewer than 4 numbers, before all else
    ∷ book 4 0 0 0 0 [] (9 ∷ 9 ∷ 9 ∷ []) gives 1
    -- pieces and accepted transfers, which need not be as many
    ∷ book 3 2 1 5 0 (0 ∷ 7 ∷ []) (1 ∷ 0 ∷ 5 ∷ 7 ∷ []) gives 0
    ∷ book 3 2 1 5 2 (0 ∷ 7 ∷ []) (1 ∷ 0 ∷ 5 ∷ 7 ∷ []) gives 0
    -- a holder, an origin, a birth minute, a weight
    ∷ book 3 2 1 5 1 [] (2 ∷ 0 ∷ 5 ∷ 7 ∷ []) gives 4
    ∷ book 3 2 1 5 1 (0 ∷ 7 ∷ []) (1 ∷ 2 ∷ 5 ∷ 7 ∷ []) gives 4
    ∷ book 3 2 1 5 1 (0 ∷ 7 ∷ []) (1 ∷ 1 ∷ 5 ∷ 7 ∷ []) gives 0
    ∷ book 3 2 1 4 1 (0 ∷ 7 ∷ []) (1 ∷ 0 ∷ 5 ∷ 7 ∷ []) gives 4
    ∷ book 3 2 1 5 1 [] (1 ∷ 0 ∷ 5 ∷ 0 ∷ []) gives 4
    -- the same far off
    ∷ book TOP 2 1 5 1 (0 ∷ 7 ∷ []) (1 ∷ 0 ∷ 5 ∷ 7 ∷ []) gives 4
    ∷ book 0 TOP 0 0 0 [] (9 ∷ 9 ∷ 9 ∷ 9 ∷ []) gives 4
    ∷ book 3 2 1 5 1 [] (9 ∷ 0 ∷ 5 ∷ 7 ∷ []) gives 4
    ∷ book 3 2 1 5 1 (0 ∷ 7 ∷ []) (1 ∷ TOP ∷ 5 ∷ 7 ∷ []) gives 4
    ∷ book 3 2 1 4 1 (0 ∷ 7 ∷ []) (1 ∷ 0 ∷ TOP ∷ 7 ∷ []) gives 4
    -- a piece on the scale, and the scale's balance
    ∷ loaded 3 2 1 5 1 [] 7 (64 ∷ 0 ∷ 5 ∷ 7 ∷ []) gives 0
    ∷ loaded 3 2 1 5 1 [] 8 (64 ∷ 0 ∷ 5 ∷ 7 ∷ []) gives 4
    ∷ loaded 3 2 1 5 1 [] 6 (64 ∷ 0 ∷ 5 ∷ 7 ∷ []) gives 4
    ∷ loaded 3 2 1 5 1 [] 0 (64 ∷ 0 ∷ 5 ∷ 7 ∷ []) gives 4
    ∷ loaded 3 2 1 5 1 (0 ∷ 7 ∷ []) 7 (1 ∷ 0 ∷ 5 ∷ 7 ∷ []) gives 4
    ∷ loaded 3 2 2 5 2 [] 0 (64 ∷ 0 ∷ 5 ∷ TOP ∷ 64 ∷ 0 ∷ 5 ∷ 1 ∷ []) gives 4
    ∷ loaded 3 2 1 5 1 [] 0 (65 ∷ 0 ∷ 5 ∷ 7 ∷ []) gives 4
    ∷ loaded 3 2 1 5 1 [] 0 (TOP ∷ 0 ∷ 5 ∷ 7 ∷ []) gives 4
    ∷ loaded 3 64 1 5 1 [] 7 (64 ∷ 63 ∷ 5 ∷ 7 ∷ []) gives 0
    ∷ loaded 3 64 1 5 1 [] 7 (64 ∷ 64 ∷ 5 ∷ 7 ∷ []) gives 4
    -- a balance below V, one that wraps, one from V on
    ∷ book 3 2 1 5 1 (0 ∷ 8 ∷ []) (1 ∷ 0 ∷ 5 ∷ 7 ∷ []) gives 4
    ∷ book 3 2 2 5 2 [] (1 ∷ 0 ∷ 5 ∷ TOP ∷ 1 ∷ 0 ∷ 5 ∷ 1 ∷ []) gives 4
    ∷ book 3 2 1 5 1 (0 ∷ 7 ∷ 1 ∷ []) (1 ∷ 0 ∷ 5 ∷ 7 ∷ []) gives 4
    -- a vessel's rule, and one from V on
    ∷ ruled 3 (0 ∷ 1 ∷ 3 ∷ replicate 61 0) gives 0
    ∷ ruled 3 (4 ∷ 0 ∷ 4 ∷ replicate 61 0) gives 0
    ∷ ruled 3 (5 ∷ 0 ∷ 0 ∷ replicate 61 0) gives 4
    ∷ ruled 3 (0 ∷ 0 ∷ 5 ∷ replicate 61 0) gives 4
    ∷ ruled 3 (0 ∷ TOP ∷ 0 ∷ replicate 61 0) gives 4
    ∷ ruled 3 (0 ∷ 0 ∷ 0 ∷ 1 ∷ replicate 60 0) gives 4
    ∷ ruled 3 (replicate 63 0 ++ (1 ∷ [])) gives 4
    ∷ ruled 64 (replicate 64 3) gives 0
    ∷ ruled 64 (replicate 64 4) gives 0
    ∷ ruled 64 (replicate 63 0 ++ (5 ∷ [])) gives 4
    -- checks 5 and 2 of a setting, and their order
    ∷ given 2 3 gives 0
    ∷ given 0 4 gives 0
    ∷ given 0 5 gives 2
    ∷ given 3 0 gives 5
    ∷ given 3 5 gives 5
    ∷ given 64 0 gives 5
    ∷ given TOP TOP gives 5
    ∷ given 0 TOP gives 2
    -- checks 5 to 10 and 21 of a transfer, and their order
    ∷ move 0 2 1 7 1 0 gives 0
    ∷ move 0 3 1 7 1 0 gives 5
    ∷ move 0 1 2 7 1 0 gives 0
    ∷ move 0 1 3 7 1 0 gives 5
    ∷ move 0 3 3 7 0 0 gives 5
    ∷ move 0 2 2 7 1 0 gives 6
    ∷ move 0 2 2 7 0 0 gives 6
    ∷ move 0 2 1 7 0 0 gives 7
    ∷ move 0 2 1 6 0 0 gives 7
    ∷ move 0 2 1 6 1 0 gives 8
    ∷ move 0 2 1 6 TOP 0 gives 8
    ∷ move 0 2 1 7 1 7 gives 0
    ∷ move 0 2 1 7 1 8 gives 21
    ∷ move 0 2 1 7 0 8 gives 7
    ∷ move 0 2 1 6 1 7 gives 8
    ∷ move 0 2 1 7 (TOP - 4) 8 gives 21
    ∷ move TOP 2 1 7 1 8 gives 21
    ∷ move 0 2 1 7 (TOP - 5) 0 gives 0
    ∷ move 0 2 1 7 (TOP - 4) 0 gives 9
    ∷ move TOP 2 1 7 (TOP - 4) 0 gives 9
    ∷ move (TOP - 1) 2 1 7 1 0 gives 0
    ∷ move TOP 2 1 7 1 0 gives 10
    ∷ move 0 TOP 1 7 1 0 gives 5
    ∷ move 0 1 TOP 7 1 0 gives 5
    ∷ move 0 2 1 0 1 0 gives 8
    ∷ move 0 2 1 7 1 TOP gives 21
    ∷ move 0 2 1 7 TOP 0 gives 9
    -- the same beside a loaded scale: it has no 22, and 9 is of the destination alone
    ∷ beside 1 2 1 7 1 0 gives 0
    ∷ beside TOP 2 1 7 1 0 gives 0
    ∷ beside TOP 2 1 7 (TOP - 5) 0 gives 0
    ∷ beside 1 2 1 7 (TOP - 4) 0 gives 9
    ∷ beside TOP 3 3 6 0 8 gives 5
    ∷ beside TOP 64 1 7 1 0 gives 5
    ∷ beside TOP 1 64 7 1 0 gives 5
    -- checks 22, 5, 7, 8, 21, 10 of a lift, and their order; it has no 6 and no 9
    ∷ raise 0 0 2 7 TOP 7 gives 0
    ∷ raise 1 TOP 3 6 0 8 gives 22
    ∷ raise 0 TOP 3 6 0 8 gives 5
    ∷ raise 0 0 64 7 1 0 gives 5
    ∷ raise 0 TOP 2 6 0 8 gives 7
    ∷ raise 0 TOP 2 6 1 8 gives 8
    ∷ raise 0 TOP 2 7 1 8 gives 21
    ∷ raise 0 TOP 2 7 1 7 gives 10
    ∷ raise TOP 0 2 7 1 7 gives 22
    ∷ raise 0 0 TOP 7 1 0 gives 5
    ∷ raise 0 0 2 0 1 0 gives 8
    ∷ raise 0 0 2 7 1 TOP gives 21
    ∷ raise 0 (TOP - 1) 2 7 1 7 gives 0
    -- checks 23, 5, 8, 9 of a tip, and their order; it has no 10
    ∷ lower 1 2 7 gives 0
    ∷ lower 0 3 6 gives 23
    ∷ lower (TOP - 4) 3 6 gives 5
    ∷ lower 1 64 7 gives 5
    ∷ lower (TOP - 4) 2 6 gives 8
    ∷ lower (TOP - 4) 2 7 gives 9
    ∷ lower (TOP - 5) 2 7 gives 0
    ∷ lower (TOP - 5) 2 TOP gives 0
    ∷ lower 1 TOP 7 gives 5
    ∷ lower 1 2 0 gives 8
    ∷ lower TOP 2 7 gives 9
    -- checks 5, 12, 13 of a report, and their order
    ∷ report (Held 2) 3 gives 0
    ∷ report (Held 3) 3 gives 5
    ∷ report (Held 3) 2 gives 5
    ∷ report (Held 0) 2 gives 13
    ∷ report (Spread 2 5 5) 3 gives 0
    ∷ report (Spread 3 5 5) 3 gives 5
    ∷ report (Spread 3 5 4) 2 gives 5
    ∷ report (Spread 0 5 4) 3 gives 12
    ∷ report (Spread 0 5 4) 2 gives 12
    ∷ report (Spread 0 5 5) 2 gives 13
    ∷ report (Held TOP) 3 gives 5
    ∷ report (Held 0) 0 gives 13
    ∷ report (Spread TOP 5 5) 3 gives 5
    ∷ report (Spread 0 5 0) 3 gives 12
    ∷ report (Spread 0 0 TOP) 3 gives 0
    ∷ report (Spread 0 5 5) 0 gives 13
    ∷ report Whole 0 gives 13
    ∷ report Whole 8 gives 13
    ∷ report Whole 9 gives 0
    -- places: the length divided by 4, rounded down, but never above 4,096
    ∷ places_of (replicate 3 9) gives 0
    ∷ places_of (replicate 7 9) gives 1
    ∷ places_of (replicate 8 9) gives 2
    ∷ places_of (replicate 16383 9) gives 4095
    ∷ places_of (replicate 16384 9) gives 4096
    ∷ places_of (replicate 16388 9) gives 4096
    -- how many tips a list has
    ∷ tips (post (transfer_of 0 1 0 1 0) ∷ lift (lift_of 0 0 1 0) ∷ tip (tip_of 1 0) ∷ set_rule (setting_of 0 1) ∷ ask Whole [] ∷ tip (tip_of 1 0) ∷ []) gives 2
    ∷ []

pub at_the_edge : map (λ e. e.found) edges ≡ map (λ e. e.wanted) edges
unfolding edges opening book_checks adds_up rules_fit all_zero every same balances_of tab places_in pieces_of transfer_checks lift_checks tip_checks setting_checks asked_checks
at_the_edge = refl

-- The number of a report on the fresh book of three vessels is that of its own checks.
pub fresh_report : (q : Report) (room : List ℕ) → number_of (empty_head 0 3) (9 ∷ 9 ∷ 9 ∷ 9 ∷ []) (ask q room) ≡ report q (length room)
unfolding number_of book_checks adds_up rules_fit all_zero every same balances_of tab places_in pieces_of
fresh_report q room = refl

-- However far off the vessel of a held report or the origin of a spread one is, it is 5, and before all else.
pub no_vessel : (b : Book) (v from to room : ℕ) → b.vessels ≤ v
    → (first (report_checks b room (Held v)) ≡ 5) × (first (report_checks b room (Spread v from to)) ≡ 5)
unfolding asked_checks
no_vessel b v from to room h = grind (arith, nat_tests)

-- Opening gives every vessel of the book its rule, and no other.
pub opened_rules : ((opening 3 2).head.rules ≡ 3 ∷ 3 ∷ replicate 62 0) × ((opening 2 64).head.rules ≡ replicate 64 2)
unfolding opening
opened_rules = (refl, refl)

-- A refused opening gives a head of zeros.
pub zeros : (rule size : ℕ) → ((opening rule size).number ≡ 0 → ⊥)
    → (opening rule size).head ≡ record { rule = 0; vessels = 0; pieces = 0; last = 0; accepted = 0; balances = replicate 64 0; scale = 0; rules = replicate 64 0 }
unfolding opening
zeros rule size nz = grind arith

-- More pieces than a table ever counts places: no computed case reaches it.
pub too_many : (h : Head) (t : List ℕ) → most_places < h.pieces → adds_up h t ≡ false
unfolding adds_up places_in
too_many h t e = grind (arith, nat_tests)
