-- A BOOK WITH NOTHING ON THE SCALE, whose rules were never set, is document 01's book: `bare_book` shows that document
-- 01's added up where it does and has no more pieces than accepted transfers. That one knew no scale, let a piece lie
-- in a vessel only, and had no rules of vessels.
-- Assumes nothing.
use Rattle.std.proofs.Common.{◌≡◌, refl, Bool, true, ◌&&◌, List, [], ◌∷◌, ℕ, ◌≤◌, ◌<◌, arith, leb, eqb}
use Rattle.std.proofs.lemmas.Bool.Decides.{nat_tests}
use Rattle.table.specs.declared.Piece.{Piece}
use Rattle.table.specs.Pieces.{held, All, done, also}
use Rattle.table.specs.Table.{pieces_of}
use Rattle.book.specs.declared.Head.{Head}
use Rattle.book.specs.Head.{most_vessels, the_scale, balances_of, all_of, fits, every, same, adds_up, given_rules}
use Rattle.former.specs.Former.{former_fits, former_tests}
use Rattle.book.proofs.RuleLaws.{given_fit}
use Rattle.book.proofs.HeadLaws.{all_sound, in_vessels}

module _ (size last : ℕ) where
  -- pieces that fit, and none of them on the scale
  bare_former : {ps : List Piece} → All (λ p. p.holder < size) ps → every (fits size last) ps ≡ true
      → every (former_fits size last) ps ≡ true
  unfolding every
  bare_former done e = refl
  bare_former (also {p = p} {ps = ps} h x) e = grind (arith, nat_tests, bare_former x)

  -- pieces that all lie in vessels
  former_bare : size ≤ most_vessels → (ps : List Piece) → every (former_fits size last) ps ≡ true
      → (every (fits size last) ps ≡ true) × (held the_scale ps ≡ 0)
  unfolding every
  former_bare small [] e = (refl, refl)
  former_bare small (p ∷ ps) e = grind (arith, nat_tests, former_bare small ps)

pub bare_book : (h : Head) (t : List ℕ) → h.scale ≡ 0 → h.rules ≡ given_rules h.rule h.vessels
    → all_of (former_tests h t) ≡ (adds_up h t && leb h.pieces h.accepted)
unfolding adds_up
bare_book h t z unset = grind (arith, nat_tests, alike, given_fit h.rule h.vessels)
  where
    ps : List Piece
    ps = pieces_of h.pieces t

    one : Bool
    one = every (fits h.vessels h.last) ps

    other : Bool
    other = every (former_fits h.vessels h.last) ps

    level : Bool
    level = same h.balances (balances_of h.vessels ps)

    alike : h.vessels ≤ most_vessels
        → (one && (level && (eqb h.scale (held the_scale ps) && true))) ≡ (other && (level && true))
    alike small =
        let lie = in_vessels h.vessels h.last ps in
        let fit = all_sound h.vessels h.last ps in
        let there : held the_scale ps ≡ 0 → one ≡ true → other ≡ true =
        λ w u. bare_former h.vessels h.last (lie (fit u) w) u in
        let back = former_bare h.vessels h.last small ps in
        grind (arith, nat_tests, there, back)
