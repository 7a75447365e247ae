-- Laws of holders: those of a book are its vessels and the scale, and no others.
-- Assumes nothing.
use Rattle.std.proofs.Common.{◌≡◌, ◌≢◌, true, ℕ, ◌≤◌, ◌<◌, arith}
use Rattle.std.proofs.lemmas.Bool.Decides.{nat_tests}
use Rattle.book.specs.Head.{most_vessels, the_scale, most_holders, is_holder}

module _ (size v : ℕ) (h : is_holder size v ≡ true) where
  pub holder_vessel : v ≢ the_scale → v < size
  holder_vessel n = grind (arith, nat_tests)

  pub holder_bound : size ≤ most_vessels → v < most_holders
  holder_bound fit = grind (arith, nat_tests)
