-- The log of receipts: each receipt is noted by its slot, and a slot's last note is its place in the order of receipt.
-- Definitions only. Assumes nothing.
use Rattle.std.specs.Prelude.{◌≡◌, Bool, false, ◌||◌, cond, List, [], ◌∷◌, ℕ, eqb}

-- whether slot i is one of them
unfoldable pub has : ℕ → List ℕ → Bool
has i [] = false
has i (j ∷ l) = eqb i j || has i l

-- the last note of each slot
unfoldable pub latest : List ℕ → List ℕ
latest [] = []
latest (i ∷ l) = cond (has i l) (latest l) (i ∷ latest l)

-- the list without slot i
unfoldable pub without : ℕ → List ℕ → List ℕ
without i [] = []
without i (j ∷ l) = cond (eqb i j) (without i l) (j ∷ without i l)

-- no slot twice
unfoldable pub Once : List ℕ → Type 0
Once [] = Unit
Once (i ∷ l) = (has i l ≡ false) × Once l
