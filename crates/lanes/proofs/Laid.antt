-- A table is written piece by piece: the first pieces lie in it, and the next is put behind them (`lay_next`). What was laid before plays no part behind it, nor in its place
-- (`lay_twice`).
-- Assumes nothing.
use Rattle.std.proofs.Common.{◌≡◌, refl, sym, ap, ◌∙◌, List, [], ◌∷◌, ◌++◌, ℕ, ◌+◌, ◌*◌, ◌≤◌, ◌<◌, add-one, arith, length, length-append, length-drop, get_or, set, take, drop, length-take-le}
use lib.Seq.{take-suc}
use Rattle.table.specs.declared.Piece.{Piece}
use Rattle.table.specs.Pieces.{no_piece}
use Rattle.table.specs.Table.{pieces_of, flat, lay, put_in}
use Rattle.table.proofs.Table.{quad_is, length_flat, pieces_flat, pieces_over, rest_over, same_behind, put_pieces, put_more}

pub lay_none : (qs : List Piece) (t : List ℕ) → lay (take 0 qs) t ≡ t
unfolding flat
lay_none qs t = refl

pub length_lay : (qs : List Piece) (t : List ℕ) → 4 * length qs ≤ length t → length (lay qs t) ≡ length t
length_lay qs t h = simp (length-append, length-drop, length_flat) (omega (arith, h, quad_is (length qs)))

-- behind what is laid, the table is as it was
pub behind_laid : (ps : List Piece) (t : List ℕ) (k : ℕ) → length ps ≤ k → drop (4 * k) (lay ps t) ≡ drop (4 * k) t
behind_laid ps t k h = same_behind (length ps) k t (lay ps t) h (rest_over (length ps) ps (drop (4 * length ps) t) refl)

pub lay_twice : (ps qs : List Piece) (t : List ℕ) → length ps ≤ length qs → lay qs (lay ps t) ≡ lay qs t
lay_twice ps qs t h = ap (λ (l : List ℕ). flat qs ++ l) (behind_laid ps t (length qs) h)

pub pieces_laid : (qs : List Piece) (t : List ℕ) → pieces_of (length qs) (lay qs t) ≡ qs
pieces_laid qs t = pieces_flat qs (drop (4 * length qs) t)

-- one piece more
pub lay_next : (qs : List Piece) (t : List ℕ) (j : ℕ) → j < length qs → put_in (j + 1) j (get_or qs j no_piece) (lay (take j qs) t) ≡ lay (take (j + 1) qs) t
lay_next qs t j h =
    let p = get_or qs j no_piece in
    let t' = lay (take j qs) t in
    let few : length (take j qs) ≡ j = length-take-le j qs (omega (arith, h)) in
    let more : length (take (j + 1) qs) ≡ j + 1 = length-take-le (j + 1) qs (omega (arith, h)) in
    let pieces : set (pieces_of (j + 1) t') j p ≡ take (j + 1) qs =
    sym (put_pieces (j + 1) j t' (put_in (j + 1) j p t') p refl)
    ∙ put_more (j + 1) j t' (put_in (j + 1) j p t') p refl (omega arith)
    ∙ ap (λ (l : List Piece). l ++ (p ∷ [])) (pieces_over j (take j qs) (drop (4 * length (take j qs)) t) few)
    ∙ rw add-one (sym (take-suc qs j no_piece h)) in
    rw (pieces, more) (ap (λ (l : List ℕ). flat (take (j + 1) qs) ++ l) (behind_laid (take j qs) t (j + 1) (omega (arith, few))))
