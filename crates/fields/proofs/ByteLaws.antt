-- Laws of bytes: which is read, and the comparison of two slices.
-- Assumes nothing.
use Rattle.std.proofs.Common.{ℕ, ◌≡◌, refl, List, [], ◌∷◌, eqb, get_or-drop}
use Rattle.std.specs.Cmp.Lexicographic.{pointwise}
use Rattle.std.specs.Cmp.{both_ways}
use Rattle.book.specs.Head.{same}
use Rattle.book.proofs.HeadLaws.{same_refl, same_eq}

-- what a byte of a slice from an index on is
pub ruleset reads = (get_or-drop)

-- std's comparison of slices is that of lists
pub slices_compared : (a b : List ℕ) → pointwise eqb a b ≡ same a b
unfolding same
slices_compared [] [] = refl
slices_compared [] (y ∷ b) = refl
slices_compared (x ∷ a) [] = refl
slices_compared (x ∷ a) (y ∷ b) = rw (slices_compared a b)

-- either list may be compared with the other
pub same_either : (a b : List ℕ) → same a b ≡ same b a
same_either a b = both_ways (same a b) (same b a) (λ q. rw (same_eq a b q) (same_refl b)) (λ q. rw (same_eq b a q) (same_refl a))
