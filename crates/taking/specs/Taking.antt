-- "A transfer": what is picked of the source, what becomes of it, and what is born.
-- First the weight is taken, then it is handed over: the destination plays no part in the picking. specs/InTable.antt has the
-- same in document 01's own words, where each picked piece joins the end at once, and proofs/InTable.antt shows the two equal.
-- Definitions only. Assumes nothing.
use Rattle.std.specs.Prelude.{Bool, true, false, cond, List, [], ◌∷◌, ◌++◌, map, ℕ, zero, suc, ◌-◌, leb, ltb, eqb, length}
use Rattle.table.specs.declared.Piece.{Piece}
use Rattle.table.specs.Pieces.{of_weight, hand_to, if_any, held}
use Rattle.taking.specs.declared.Move.{Move}
use Rattle.taking.specs.Selection.{as_received, Found, nothing, at, wins, select}
use Rattle.taking.specs.Taken.{Taken, stop, one_whole}
use Rattle.taking.specs.Stirring.{stirred_rule, stirred}

-- The piece p is picked from between b and a. "No heavier than the rest wanted": it leaves its place, and more may follow.
-- "A heavier one stays in its place, reduced", and gives the weight still wanted.
abbrev pub take_from : (ℕ → List Piece → Taken) → ℕ → List Piece → Piece → List Piece → Bool → Taken
take_from more want b p a true = one_whole p (more (want - p.weight) (b ++ a))
take_from more want b p a false =
    record { rest = b ++ (of_weight (p.weight - want) p ∷ a); given = of_weight want p ∷ []; whole = 0; split = 1; born = 0 }

abbrev pub take_found : (ℕ → List Piece → Taken) → ℕ → List Piece → Found → Taken
take_found more want ps nothing = stop want ps
take_found more want ps (at b p a) = take_from more want b p a (leb p.weight want)

-- "until q is reached or none is left": is it reached?
abbrev pub take_next : (List Piece → Found) → (ℕ → List Piece → Taken) → ℕ → List Piece → Bool → Taken
take_next pick more want ps true = stop want ps
take_next pick more want ps false = take_found more want ps (pick ps)

-- at most n pieces are moved whole
unfoldable pub take_up_to : (List Piece → Found) → ℕ → ℕ → List Piece → Taken
take_up_to pick zero want ps = stop want ps
take_up_to pick (suc n) want ps = take_next pick (take_up_to pick n) want ps (eqb want 0)

-- What the four first rules take: one piece after the other.
abbrev pub singly : ℕ → Move → List Piece → Taken
singly rule x ps = take_up_to (select (wins rule) x.source) (length ps) x.weight ps

-- What a transfer takes under a rule. Of a stirred vessel "with q ≥ T all moves, in order of receipt, and the rest is born": as rule 0 has it.
unfoldable pub taken : ℕ → Move → List Piece → Taken
taken rule x ps =
    cond (eqb rule stirred_rule)
    (cond (ltb x.weight (held x.source ps)) (stirred x ps) (singly as_received x ps))
    (singly rule x ps)

-- "If s runs out, the missing weight is born: a piece (d, s, t, missing) joins the end", with the birth minute of the move in place of t.
abbrev pub newborn : Move → ℕ → Piece
newborn x w = record { holder = x.destination; origin = x.source; birth = x.birth; weight = w }

-- the pieces after what was taken is handed over
abbrev pub handed : Move → Taken → List Piece
handed x r = r.rest ++ (map (hand_to x.destination) r.given ++ if_any (newborn x r.born))
