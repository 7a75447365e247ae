-- A motion on a book known to add up: the pieces moved and the next head are together the book after it.
-- Assumes nothing.
use Rattle.std.proofs.Common.{◌≡◌, ◌∙◌, Some, List, ℕ, ◌+◌, ◌-◌, ◌<◌, arith, eqb}
use Rattle.std.proofs.lemmas.Bool.Decides.{nat_tests}
use Rattle.table.specs.Pieces.{only, held}
use Rattle.table.specs.Table.{pieces_of, places_of, places_in}
use Rattle.taking.specs.Taken.{Taken}
use Rattle.taking.specs.Taking.{handed}
use Rattle.taking.specs.declared.Applied.{Applied}
use Rattle.taking.specs.Applied.{accepted, applied}
use Rattle.book.specs.declared.Head.{Head}
use Rattle.book.specs.declared.Motion.{Motion}
use Rattle.book.specs.Head.{Book, most_holders, Shiftable, balance_at, with_balance, holdings, shifted, head_of, book_of}
use Rattle.book.specs.Motion.{takes, pieces_after, book_after}
use Rattle.book.proofs.BalanceLaws.{Holders, Matches, matches_balances, long_balances, shift_matches, shift_there}
use Rattle.book.proofs.Sound.{takes_fair, held_after}
use Rattle.book.proofs.Known.{Known}
use Rattle.book.specs.Memory.{Audited}
use Rattle.motions.specs.Carrying.{Carriable, next_head, Countable}
use Rattle.book.proofs.Audited.{audited_known}

-- A motion.
module _ (h : Head) (t : List ℕ) (w : Audited h t) (m : Motion) where
  abbrev b : Book
  b = book_of h t

  abbrev r : Taken
  r = takes b m

  k : Known h t
  k = audited_known h t w

  born_is : r.born ≡ m.moves.weight - held m.moves.source b.pieces
  born_is = (takes_fair b m).born_is

  -- what the source gives is what is not born
  after : (v : ℕ) → held v (handed m.moves r)
      ≡ (held v b.pieces - only (eqb m.moves.source v) (m.moves.weight - r.born)) + only (eqb m.moves.destination v) m.moves.weight
  after v = grind (arith, held_after b m v, born_is)

  -- the next head's balances are what the holders have afterwards, so that it is the head of the book afterwards
  module _ (source_in : m.moves.source < most_holders) (destination_in : m.moves.destination < most_holders) where
    next_match : Matches (holdings (shifted h m.moves.source (m.moves.weight - r.born) m.moves.destination m.moves.weight)) (handed m.moves r)
    next_match =
        shift_matches h b.pieces (handed m.moves r) m.moves.source _ m.moves.destination _ source_in destination_in k.matches after

    pub next_head_is : Holders h.vessels (pieces_after b m)
        → next_head h m (accepted m.moves r) ≡ head_of (book_after b m)
    unfolding takes with_balance
    next_head_is u =
        let s = shifted h m.moves.source (m.moves.weight - r.born) m.moves.destination m.moves.weight in
        let e =
        matches_balances h.vessels s.balances s.scale (pieces_after b m) u (long_balances s _ next_match) next_match in
        rw (e.0, e.1)

  -- what its checks see to
  module _ (f : Carriable h m) where
    shifts : Shiftable h m.moves.source (m.moves.weight - r.born) m.moves.destination m.moves.weight
    shifts =
        let kept =
        shift_there h m.moves.source (balance_at h m.moves.source - (m.moves.weight - r.born)) m.moves.destination f.apart in
        grind (arith, born_is, k.balance m.moves.source, kept)

    -- what the source holds is its balance
    pub source_holds : (w : ℕ) → w ≡ balance_at h m.moves.source → w ≡ held m.moves.source (pieces_of h.pieces t)
    source_holds w e = e ∙ k.balance m.moves.source

    -- what the next head asks, where there was a place
    pub countable : (a : Applied) → applied (places_of t) m.moves r ≡ Some a → Countable h m a
    unfolding places_in applied takes
    countable a e = grind (arith, nat_tests, born_is, shifts)
