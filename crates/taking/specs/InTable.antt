-- "A transfer" in document 01's own words: "A picked piece no heavier than the rest wanted leaves its place, those behind close up,
-- and it joins the end with holder d. A heavier one stays in its place, reduced; a new piece with its origin and birth, the weight
-- still wanted and holder d joins the end (a split). If s runs out, the missing weight is born: a piece (d, s, t, missing) joins the end."
-- Definitions only. Assumes nothing.
use Rattle.std.specs.Prelude.{Bool, true, false, List, [], ◌∷◌, ◌++◌, ℕ, zero, suc, ◌-◌, leb, eqb, length}
use Rattle.table.specs.declared.Piece.{Piece}
use Rattle.table.specs.Pieces.{of_weight, hand_to, if_any}
use Rattle.taking.specs.Selection.{Found, nothing, at, wins, select}
use Rattle.taking.specs.declared.Move.{Move}
use Rattle.taking.specs.Taking.{newborn}

-- The pieces, how many moved whole, how many were split, and the weight that is missing.
pub record Moved : Type 0 where
  pub pieces : List Piece
  pub whole : ℕ
  pub split : ℕ
  pub missing : ℕ

abbrev pub stopped : ℕ → List Piece → Moved
stopped want ps = record { pieces = ps; whole = 0; split = 0; missing = want }

abbrev pub with_one_more : Moved → Moved
with_one_more r = record { pieces = r.pieces; whole = suc r.whole; split = r.split; missing = r.missing }

-- the piece p is picked from between b and a
abbrev pub move_from : (ℕ → List Piece → Moved) → ℕ → ℕ → List Piece → Piece → List Piece → Bool → Moved
move_from more d want b p a true = with_one_more (more (want - p.weight) (b ++ (a ++ (hand_to d p ∷ []))))
move_from more d want b p a false =
    record { pieces = b ++ (of_weight (p.weight - want) p ∷ (a ++ (hand_to d (of_weight want p) ∷ []))); whole = 0; split = 1; missing = 0 }

abbrev pub move_found : (ℕ → List Piece → Moved) → ℕ → ℕ → List Piece → Found → Moved
move_found more d want ps nothing = stopped want ps
move_found more d want ps (at b p a) = move_from more d want b p a (leb p.weight want)

abbrev pub move_next : (List Piece → Found) → (ℕ → List Piece → Moved) → ℕ → ℕ → List Piece → Bool → Moved
move_next pick more d want ps true = stopped want ps
move_next pick more d want ps false = move_found more d want ps (pick ps)

unfoldable pub move_up_to : (List Piece → Found) → ℕ → ℕ → ℕ → List Piece → Moved
move_up_to pick d zero want ps = stopped want ps
move_up_to pick d (suc n) want ps = move_next pick (move_up_to pick d n) d want ps (eqb want 0)

-- the pieces after a transfer
unfoldable pub in_table : ℕ → Move → List Piece → Moved
in_table rule x ps =
    let r = move_up_to (select (wins rule) x.source) x.destination (length ps) x.weight ps in
    record { pieces = r.pieces ++ if_any (newborn x r.missing); whole = r.whole; split = r.split; missing = r.missing }
