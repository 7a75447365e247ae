-- "A transfer": which piece of a vessel each of the four first rules picks. The pieces stand in order of receipt.
-- rule 0: earliest received first; rule 1: latest received first; rule 2: smallest birth minute, on a tie the earlier received;
-- rule 3: largest birth minute, on a tie the later received. proofs/Rules.antt shows each of the four in these words.
-- Definitions only. Assumes nothing.
use Rattle.std.specs.Prelude.{Bool, true, false, cond, List, [], ◌∷◌, ℕ, leb, ltb, eqb}
use Rattle.table.specs.declared.Piece.{Piece}

-- rule 0
abbrev pub as_received : ℕ
as_received = 0

-- The pieces before the picked one, the picked one, and those behind it; or none.
pub data Found : Type 0 where
  nothing : Found
  at : List Piece → Piece → List Piece → Found

-- Under the rule, is a piece of birth `early` picked before one of birth `late` that was received later? (Rule 3 is all others.)
unfoldable pub precedes : ℕ → ℕ → ℕ → Bool
precedes rule early late = cond (eqb rule 0) true (cond (eqb rule 1) false (cond (eqb rule 2) (leb early late) (ltb late early)))

abbrev pub wins : ℕ → Piece → Piece → Bool
wins rule p x = precedes rule p.birth x.birth

-- what was found among the pieces behind p
abbrev pub behind : Piece → Found → Found
behind p nothing = nothing
behind p (at b x a) = at (p ∷ b) x a

-- p is held by the vessel too, and stands before ps: does it win over what was found there?
abbrev pub against : (Piece → Piece → Bool) → Piece → List Piece → Found → Found
against better p ps nothing = at [] p ps
against better p ps (at b x a) = cond (better p x) (at [] p ps) (at (p ∷ b) x a)

-- the piece held by s that is picked
abbrev pub select : (Piece → Piece → Bool) → ℕ → List Piece → Found
select better s [] = nothing
select better s (p ∷ ps) = cond (eqb p.holder s) (against better p ps (select better s ps)) (behind p (select better s ps))
