-- A move of pieces in the lent table asks that they lie there, and that no holder is the number of a vacant place: of a
-- book that adds up both are known.
-- Assumes nothing.
use Rattle.std.proofs.Common.{◌≡◌, List, ℕ, arith}
use Rattle.table.specs.Pieces.{All}
use Rattle.table.specs.Closing.{Present}
use Rattle.table.specs.Table.{pieces_of, places_of, places_in}
use Rattle.table.proofs.Pieces.{all_map}
use Rattle.table.proofs.Table.{places_fit}
use Rattle.moving.specs.Ready.{Ready}
use Rattle.book.specs.declared.Head.{Head}
use Rattle.book.specs.declared.Motion.{Motion}
use Rattle.book.proofs.HolderLaws.{holder_bound}
use Rattle.book.proofs.Known.{Known}
use Rattle.book.specs.Memory.{Audited}
use Rattle.motions.specs.Carrying.{Carriable}
use Rattle.book.proofs.Audited.{audited_known}

module _ (h : Head) (t : List ℕ) (w : Audited h t) (m : Motion) (f : Carriable h m) where
  k : Known h t
  k = audited_known h t w

  -- what the move asks
  pub move_ready : (p : ℕ) → p ≡ places_of t → Ready h.pieces p m.moves t
  unfolding places_in
  move_ready p ep =
      let present : All Present (pieces_of h.pieces t) = all_map (λ q g. let n = holder_bound h.vessels _ g.holder_in k.sound.vessels_fit in omega arith) k.sound.sound in
      grind (arith, k.few, places_fit t p p ep, present)
