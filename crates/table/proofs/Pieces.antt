-- Laws of sums over pieces, and of a property of every piece.
-- Assumes nothing.
use Rattle.std.proofs.Common.{◌≡◌, refl, ◌≢◌, Bool, true, false, cond, List, [], ◌∷◌, ◌++◌, ℕ, ◌+◌, ◌≤◌, min, arith, eqb, length}
use Rattle.std.proofs.lemmas.Bool.Decides.{nat_tests}
use borrow.Author.Tests.{eqb-false}
use Rattle.table.specs.declared.Piece.{Piece}
use Rattle.table.specs.Pieces.{of_weight, if_any, only, total, Kind, weigh, sum, All, done, also}

pub total_append : (f : Piece → ℕ) (ps qs : List Piece) → total f (ps ++ qs) ≡ total f ps + total f qs
total_append f [] qs = omega arith
total_append f (p ∷ ps) qs = omega (arith, total_append f ps qs)

pub only_add : (b : Bool) (m n : ℕ) → only b (m + n) ≡ only b m + only b n
only_add b m n = grind arith

pub only_zero : (b : Bool) → only b 0 ≡ 0
only_zero b = grind arith

-- a piece without weight adds nothing, so whether it is there makes no odds
pub sum_if_any : (k : Kind) (p : Piece) → sum k (if_any p) ≡ weigh k p
sum_if_any k p = grind (arith, nat_tests)

pub length_if_any : (p : Piece) → length (if_any p) ≡ min 1 p.weight
length_if_any p = grind (arith, nat_tests)

-- a piece in two parts
pub in_two : (k : Kind) (p : Piece) (m n : ℕ) → p.weight ≡ m + n → weigh k p ≡ weigh k (of_weight m p) + weigh k (of_weight n p)
in_two k p m n e = grind arith

module _ {ℓ} {P : Piece → Type ℓ} where
  pub all_append : {ps qs : List Piece} → All P ps → All P qs → All P (ps ++ qs)
  all_append done y = y
  all_append (also h x) y = also h (all_append x y)

  pub all_split : (ps qs : List Piece) → All P (ps ++ qs) → All P ps × All P qs
  all_split [] qs x = (done, x)
  all_split (p ∷ ps) qs (also h x) = (also h (all_split ps qs x).0, (all_split ps qs x).1)

  pub all_head : {p : Piece} {ps : List Piece} → All P (p ∷ ps) → P p
  all_head (also h x) = h

  pub all_tail : {p : Piece} {ps : List Piece} → All P (p ∷ ps) → All P ps
  all_tail (also h x) = x

  pub all_map {κ} : {Q : Piece → Type κ} {ps : List Piece} → ((p : Piece) → P p → Q p) → All P ps → All Q ps
  all_map f done = done
  all_map f (also h x) = also (f _ h) (all_map f x)

  pub all_both {κ} : {Q : Piece → Type κ} {ps : List Piece} → All P ps → All Q ps → All (λ p. P p × Q p) ps
  all_both done done = done
  all_both (also h x) (also g y) = also (h, g) (all_both x y)

  pub all_if_any : (p : Piece) → (1 ≤ p.weight → P p) → All P (if_any p)
  all_if_any p h = go (eqb p.weight 0) refl
    where
      go : (b : Bool) → eqb p.weight 0 ≡ b → All P (cond b [] (p ∷ []))
      go true e = done
      go false e = let n : p.weight ≢ 0 = eqb-false _ _ e in also (h (omega arith)) done
