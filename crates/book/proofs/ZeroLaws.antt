-- Laws of numbers that are all 0: what each of them is, and those behind the first ones.
-- Assumes nothing.
use Rattle.std.proofs.Common.{◌≡◌, refl, true, List, [], ◌∷◌, ℕ, zero, suc, ◌≤◌, ◌<◌, arith, eqb, length, get_or, drop, replicate}
use Rattle.std.proofs.lemmas.Bool.Decides.{nat_tests}
use Rattle.std.proofs.lemmas.List.Folds.{list_all_at}
use Rattle.book.specs.Head.{all_zero}

pub zeros_all : (n : ℕ) → all_zero (replicate n 0) ≡ true
unfolding all_zero
zeros_all zero = refl
zeros_all (suc n) = zeros_all n

-- by what each is
pub zero_at : (l : List ℕ) → all_zero l ≡ true → (v : ℕ) → v < length l → get_or l v 0 ≡ 0
unfolding all_zero
zero_at l e v h = grind (arith, nat_tests, list_all_at (λ x. eqb x 0) l v 0)

pub at_zero : (l : List ℕ) → ((v : ℕ) → v < length l → get_or l v 0 ≡ 0) → all_zero l ≡ true
unfolding all_zero
at_zero [] h = refl
at_zero (x ∷ l) h = let u = at_zero l (λ v u. h (suc v) (omega arith)) in grind (arith, nat_tests, h 0)

-- behind the first ones
pub zeros_from : (size v : ℕ) (l : List ℕ) → all_zero (drop size l) ≡ true → size ≤ v → get_or l v 0 ≡ 0
unfolding all_zero
zeros_from size v [] e past = refl
zeros_from zero zero (x ∷ l) e past = grind (arith, nat_tests)
zeros_from zero (suc v) (x ∷ l) e past = grind (arith, nat_tests, zeros_from zero v l)
zeros_from (suc size) zero (x ∷ l) e past = absurd (omega arith)
zeros_from (suc size) (suc v) (x ∷ l) e past = zeros_from size v l e (omega arith)
