-- Sharing: an amount is shared out over weights by running sums, each rounded down. "Take the pieces in order of receipt with running sums C, C before the
-- first being 0. Each piece gives (q × C after it) / T minus (q × C before it) / T, both rounded down": q is the amount, T the total of the weights.
-- Definitions only. Assumes nothing.
use Rattle.std.specs.Prelude.{List, [], ◌∷◌, ℕ, ◌+◌, ◌-◌, ◌*◌, ◌/◌}

-- what falls to the first weights, whose sum is c
unfoldable pub up_to : ℕ → ℕ → ℕ → ℕ
up_to amount total c = amount * c / total

-- what falls to a weight w behind those whose sum is c
abbrev pub share : ℕ → ℕ → ℕ → ℕ → ℕ
share amount total c w = up_to amount total (c + w) - up_to amount total c

-- and to each of these weights, behind those whose sum is c
unfoldable pub shares : ℕ → ℕ → ℕ → List ℕ → List ℕ
shares amount total c [] = []
shares amount total c (w ∷ ws) = share amount total c w ∷ shares amount total (c + w) ws

-- the sum of weights
abbrev pub sum_of : List ℕ → ℕ
sum_of [] = 0
sum_of (w ∷ ws) = w + sum_of ws
