-- The laws of pieces that are read as one value: they lie in numbers of their own, with nothing behind them but less than a piece.
-- Assumes nothing.
use Rattle.std.proofs.Common.{◌≡◌, sym, ap, ◌∙◌, List, [], ◌∷◌, append-nil, ℕ, suc, ◌+◌, ◌*◌, ◌/◌, ◌≤◌, ◌<◌, arith, length, take, drop, length-take, None, Some}
use Rattle.std.specs.List.{slice_get}
use Rattle.std.proofs.lemmas.Option.{slice_get-get_or, slice_get_cases}
use Rattle.std.proofs.lemmas.Grind.{common_steps}
use Rattle.table.specs.declared.Piece.{Piece}
use Rattle.table.specs.Pieces.{no_piece}
use Rattle.table.specs.Table.{first_piece, pieces_of, all_pieces, piece_in}
use Rattle.table.proofs.Table.{length_pieces, flat_pieces, pieces_over}

-- the first n pieces of a table are all that lie in its first numbers
pub first_pieces : (n : ℕ) (t : List ℕ) → 4 * n ≤ length t → all_pieces (take (4 * n) t) ≡ pieces_of n t
first_pieces n t h =
    let long : length (take (4 * n) t) ≡ 4 * n = simp length-take (omega arith) in
    let count : length (take (4 * n) t) / 4 ≡ n = omega arith in
    ap (λ (k : ℕ). pieces_of k (take (4 * n) t)) count
    ∙ ap (pieces_of n) (sym (flat_pieces n t h) ∙ sym (append-nil _))
    ∙ pieces_over n (pieces_of n t) [] (length_pieces n t)

-- the piece at a place, and a place that is not there
pub piece_there : (t : List ℕ) (n i : ℕ) (p : Piece) → n ≡ length t / 4 → i < n → p ≡ piece_in n t i → Some p ≡ slice_get (all_pieces t) i
piece_there t n i p en h ep = rw (ep, en) (sym (slice_get-get_or (all_pieces t) i no_piece (rw length_pieces (rw en at h))))

pub no_piece_there : (t : List ℕ) (i : ℕ) → length t / 4 ≤ i → None ≡ slice_get (all_pieces t) i
no_piece_there t i h = grind (arith, slice_get_cases (all_pieces t) i, length_pieces (length t / 4) t)

-- the first piece, and those behind it
pub next_piece : (t first rest : List ℕ) → first ≡ take 4 t → rest ≡ drop 4 t → length rest + 4 ≡ length t → all_pieces t ≡ first_piece first ∷ all_pieces rest
unfolding pieces_of
next_piece t first rest f e l =
    let count : length t / 4 ≡ suc (length rest / 4) = omega arith in
    let here : first_piece (take 4 t) ≡ first_piece t = grind (arith, common_steps) in
    rw (f, here, count, e)

pub no_next_piece : (t : List ℕ) → length t < 4 → all_pieces t ≡ []
unfolding pieces_of
no_next_piece t h = let count : length t / 4 ≡ 0 = omega arith in ap (λ (k : ℕ). pieces_of k t) count
