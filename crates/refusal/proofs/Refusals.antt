-- Laws of a refusal's number, of the outcome of checks, and of what `?` makes of one.
-- Assumes nothing.
use Rattle.std.proofs.Common.{ℕ, ◌≡◌, arith}
use Rattle.std.specs.Prelude.{Result}
use Rattle.std.specs.Result.{IsErr, IsErrAnd}
use Rattle.refusal.specs.declared.Refusal.{Refusal}
use Rattle.refusal.specs.Refusals.{number_of, outcome_number}

-- the number of a refusal is not 0, so that 0 is acceptance alone
pub some_number : (why : Refusal) → number_of why ≡ 0 → ⊥
some_number why e = grind arith

pub refused : {T : Type 0} (r : Result T Refusal) → IsErr r → outcome_number r ≡ 0 → ⊥
refused r h e = grind arith

-- a refusal that is passed on keeps its number
pub passed_on : {T : Type 0} (r : Result T Refusal) (why : Refusal) (n : ℕ) → IsErrAnd r (λ (other : Refusal). other ≡ why) → number_of why ≡ n → outcome_number r ≡ n
passed_on r why n h e = grind arith

-- both, for the way out of a `?`
pub ruleset outcomes = (refused, passed_on)
