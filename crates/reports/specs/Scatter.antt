-- How the code fills a report in one pass: over cleared numbers, each piece that counts is added to the number at its
-- index. For held the index is the origin, for spread the holder, for whole the origin in the row of the holder. Pieces
-- on the scale are in no vessel: held is asked of vessels alone, and spread and whole leave them out.
-- proofs/Scattered.antt shows that each number becomes the sum of its kind, proofs/Square.antt that those of whole are
-- its rows.
-- Definitions only. Assumes nothing.
use Rattle.std.specs.Prelude.{◌≡◌, Bool, true, ◌&&◌, not, cond, List, [], ◌∷◌, ◌++◌, ℕ, ◌+◌, ◌*◌, ◌≤◌, ◌<◌, leb, eqb, length, get_or, set, drop, replicate}
use Rattle.table.specs.declared.Piece.{Piece}
use Rattle.table.specs.Pieces.{only, total, held, All}
use Rattle.refusal.specs.Numbers.{TOP}
use Rattle.book.specs.Head.{most_vessels, the_scale, is_holder}

-- the first n numbers 0, and the others as they were
abbrev pub cleared : ℕ → List ℕ → List ℕ
cleared n r = replicate n 0 ++ drop n r

abbrev pub add_at : List ℕ → ℕ → ℕ → List ℕ
add_at r i w = set r i (get_or r i 0 + w)

-- the piece is entered, if it counts
abbrev pub entered : (Piece → Bool) → (Piece → ℕ) → List ℕ → Piece → List ℕ
entered test at r p = cond (test p) (add_at r (at p) p.weight) r

unfoldable pub scatter : (Piece → Bool) → (Piece → ℕ) → List ℕ → List Piece → List ℕ
scatter test at r [] = r
scatter test at r (p ∷ ps) = scatter test at (entered test at r p) ps

-- the weight of the pieces that count and have this index
abbrev pub tally : (Piece → Bool) → (Piece → ℕ) → List Piece → ℕ → ℕ
tally test at ps j = total (λ p. only (eqb (at p) j && test p) p.weight) ps

-- if the piece counts, its index lies in the numbers r, and the number there ends within 32 bits: of one piece entered,
-- and of all of them
abbrev pub Enterable : (Piece → Bool) → (Piece → ℕ) → List ℕ → Piece → Type 0
Enterable test at r p = test p ≡ true → (at p < length r) × (get_or (entered test at r p) (at p) 0 ≤ TOP)

abbrev pub Fillable : (Piece → Bool) → (Piece → ℕ) → List ℕ → List Piece → Type 0
Fillable test at r ps = All (λ p. test p ≡ true → (at p < length r) × (get_or (scatter test at r ps) (at p) 0 ≤ TOP)) ps

-- the indices of the pieces that count lie in so many numbers, and the number at each ends within 32 bits
abbrev pub Tallied : (Piece → Bool) → (Piece → ℕ) → ℕ → List Piece → Type 0
Tallied test at size ps = All (λ p. test p ≡ true → (at p < size) × (tally test at ps (at p) ≤ TOP)) ps

-- the tallies of src/lib.rt: which pieces count, and at which number each is entered
abbrev pub held_by : ℕ → Piece → Bool
held_by v p = eqb p.holder v

abbrev pub origin_of : Piece → ℕ
origin_of p = p.origin

-- whether the piece is in a vessel: those on the scale are in none
abbrev pub off_scale : Piece → Bool
off_scale p = not (eqb p.holder the_scale)

abbrev pub born : ℕ → ℕ → ℕ → Piece → Bool
born u from to p = off_scale p && (eqb p.origin u && (leb from p.birth && leb p.birth to))

abbrev pub holder_of : Piece → ℕ
holder_of p = p.holder

abbrev pub cell_of : ℕ → Piece → ℕ
cell_of row p = p.holder * row + p.origin

-- what a pass leaves of the room: so many numbers cleared, then the pieces entered
abbrev pub one_pass : ℕ → (Piece → Bool) → (Piece → ℕ) → List ℕ → List Piece → List ℕ
one_pass size test at room ps = scatter test at (cleared size room) ps

-- what the code knows of the pieces of a book that adds up
pub record Reportable (size : ℕ) (ps : List Piece) : Type 0 where
  pub few : size ≤ most_vessels
  pub holders : All (λ p. is_holder size p.holder ≡ true) ps
  pub origins : All (λ p. p.origin < size) ps
  pub light : (v : ℕ) → held v ps ≤ TOP
