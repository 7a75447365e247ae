-- Which names a sheet may have, as one table and one theorem: the bytes at each end of the letters, what may stand
-- behind them, and names used twice. Assumes nothing.
use Rattle.std.proofs.Common.{ℕ, ◌≡◌, refl, Bool, true, false, List, [], ◌∷◌, map}
use Rattle.book.specs.Head.{same, all_zero}
use Rattle.fields.specs.Bytes.{exists}
use Rattle.fields.specs.Names.{letters, well_formed, names_off}

-- Names, and whether they are refused.
pub record Case : Type 0 where
  pub names : List (List ℕ)
  pub off : Bool

pub good : List (List ℕ) → Case
good names = record { names = names; off = false }

pub ill : List (List ℕ) → Case
ill names = record { names = names; off = true }

-- a name of one byte, and of three
pub one : ℕ → List ℕ
one a = a ∷ 0 ∷ 0 ∷ 0 ∷ 0 ∷ 0 ∷ 0 ∷ 0 ∷ []

pub three : ℕ → ℕ → ℕ → List ℕ
three a b c = a ∷ b ∷ c ∷ 0 ∷ 0 ∷ 0 ∷ 0 ∷ 0 ∷ []

pub eight : ℕ → List ℕ
eight last = 65 ∷ 66 ∷ 67 ∷ 68 ∷ 69 ∷ 70 ∷ 71 ∷ last ∷ []

pub cases : List Case
cases =
    ill (one 0x20 ∷ [])
    ∷ good (one 0x21 ∷ [])
    ∷ good (one 0x7e ∷ [])
    ∷ ill (one 0x7f ∷ [])
    ∷ ill (one 0 ∷ [])
    ∷ good (three 97 98 99 ∷ [])
    ∷ ill (three 97 0 98 ∷ [])
    ∷ ill (three 97 32 98 ∷ [])
    ∷ good (eight 72 ∷ [])
    ∷ ill (eight 0x7f ∷ [])
    ∷ good (one 65 ∷ one 66 ∷ one 97 ∷ [])
    ∷ ill (one 65 ∷ one 65 ∷ one 66 ∷ [])
    ∷ ill (one 65 ∷ one 66 ∷ one 65 ∷ [])
    ∷ ill (one 65 ∷ one 66 ∷ one 0x20 ∷ [])
    ∷ []

pub which_names : map (λ c. names_off c.names) cases ≡ map (λ c. c.off) cases
unfolding good ill one three eight cases exists well_formed letters all_zero same
which_names = refl
