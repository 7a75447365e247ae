-- What a tip is to the weigh book: all the scale's weight goes to its destination, nothing is born, the minute is set
-- and the count stays.
-- Assumes nothing.
use Rattle.std.proofs.Common.{◌≡◌, ◌≢◌, ℕ, ◌+◌, arith, eqb}
use Rattle.std.proofs.lemmas.Bool.Decides.{nat_tests}
use Rattle.table.specs.Pieces.{only}
use Rattle.book.specs.declared.Tip.{Tip}
use Rattle.book.specs.Head.{the_scale}
use Rattle.book.specs.Scale.{tip_motion}
use Rattle.conservation.specs.WeighBook.{WeighBook, weighed}

-- all that holds of the weigh book after a tip
pub record TipWeighed (w : WeighBook) (y : Tip) (w' : WeighBook) : Type 0 where
  pub scale_bare : w'.weight the_scale ≡ 0
  pub others : (v : ℕ) → v ≢ the_scale → w'.weight v ≡ w.weight v + only (eqb y.destination v) (w.weight the_scale)
  pub births : (o m : ℕ) → w'.births o m ≡ w.births o m
  pub last : w'.last ≡ y.minute
  pub accepted : w'.accepted ≡ w.accepted

pub tip_weighed : (w : WeighBook) (y : Tip) → y.destination ≢ the_scale
    → TipWeighed w y (weighed w (tip_motion the_scale (w.weight the_scale) y))
tip_weighed w y ne = grind (arith, nat_tests)
