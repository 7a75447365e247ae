-- "Stirred vessels": rule 4. "A stirred liquid leaven gives from everything in it": each piece of the source gives a share of what is wanted.
-- Definitions only. Assumes nothing.
use Rattle.std.specs.Prelude.{cond, List, [], ◌∷◌, ◌++◌, map, ℕ, suc, ◌-◌, eqb}
use Rattle.table.specs.declared.Piece.{Piece}
use Rattle.table.specs.Pieces.{of_weight, weigh, if_any, in_vessel, held}
use Rattle.sharing.specs.Sharing.{shares}
use Rattle.taking.specs.declared.Move.{Move}
use Rattle.taking.specs.Taken.{Taken, stop, one_whole}

-- "Rule 4 can be set for a vessel."
abbrev pub stirred_rule : ℕ
stirred_rule = 4

-- the weight of each piece in a vessel: a piece of another holder has none there
abbrev pub weights_in : ℕ → List Piece → List ℕ
weights_in s ps = map (weigh (in_vessel s)) ps

-- "Take the pieces in order of receipt with running sums C .. Each piece gives (q × C after it) / T minus (q × C before it) / T", with T the balance of the
-- source. (A piece of another holder gives 0, as C is the same after it.)
abbrev pub gifts : Move → List Piece → List ℕ
gifts x ps = shares x.weight (held x.source ps) 0 (weights_in x.source ps)

-- the piece p stays as it is
abbrev pub stays : Piece → Taken → Taken
stays p r = record { rest = p ∷ r.rest; given = r.given; whole = r.whole; split = r.split; born = r.born }

-- The piece p is split: it gives g, and stays in its place, reduced.
abbrev pub in_parts : ℕ → Piece → Taken → Taken
in_parts g p r =
    record { rest = of_weight (p.weight - g) p ∷ r.rest; given = of_weight g p ∷ r.given; whole = r.whole; split = suc r.split; born = r.born }

-- "A piece giving 0 stays; one giving all moves whole; any other splits."
abbrev pub gives : ℕ → Piece → Taken → Taken
gives g p r = cond (eqb g 0) (stays p r) (cond (eqb g p.weight) (one_whole p r) (in_parts g p r))

-- each of the pieces gives so much
unfoldable pub giving : List ℕ → List Piece → Taken
giving [] ps = stop 0 ps
giving (g ∷ gs) [] = stop 0 []
giving (g ∷ gs) (p ∷ ps) = gives g p (giving gs ps)

-- What is taken of a stirred vessel that has more than is wanted.
abbrev pub stirred : Move → List Piece → Taken
stirred x ps = giving (gifts x ps) ps

-- The same in other words: what is left of each piece, and what each gives, is a piece where it has any weight.
unfoldable pub left_of : List ℕ → List Piece → List Piece
left_of (g ∷ gs) (p ∷ ps) = if_any (of_weight (p.weight - g) p) ++ left_of gs ps
left_of gs ps = []

unfoldable pub given_by : List ℕ → List Piece → List Piece
given_by (g ∷ gs) (p ∷ ps) = if_any (of_weight g p) ++ given_by gs ps
given_by gs ps = []
