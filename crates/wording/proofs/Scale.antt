-- THE SCALE. While nothing is on it, every tip is refused with 23, whatever else is amiss with it (`bare_refuses`;
-- Load.antt has what is true while something is).
-- Assumes nothing.
use Rattle.std.proofs.Common.{◌≡◌, refl, List, ℕ, ◌∙◌}
use Rattle.refusal.specs.Numbers.{first}
use Rattle.book.specs.declared.Head.{Head}
use Rattle.book.specs.declared.Tip.{Tip}
use Rattle.book.specs.Scale.{tip_checks}
use Rattle.book.specs.Calls.{tip}
use Rattle.book.specs.Memory.{book_checks, number_of}
use Rattle.book.proofs.Memory.{on_number, book_passed}
use Rattle.book.proofs.Known.{adds_up_told}

-- on a head and a table that checks 1 and 4 let pass
pub bare_refuses : (h : Head) (t : List ℕ) → first (book_checks h t) ≡ 0 → h.scale ≡ 0 → (y : Tip)
    → number_of h t (tip y) ≡ 23
unfolding tip_checks
bare_refuses h t e u y =
    let a = adds_up_told h t (book_passed h t e).1 in
    on_number h t (tip y) _ refl e ∙ rw (← a.scale_is, u)
