-- Laws of closing up. Which pieces stay; then the loop: the first j pieces have their places and those from i on are to come; then what
-- is copied behind them.
-- Assumes nothing.
use Rattle.std.proofs.Common.{◌≡◌, refl, sym, ap, ◌∙◌, ◌≢◌, List, [], ◌∷◌, ◌++◌, append_assoc, append-nil, ℕ, suc, ◌+◌, ◌-◌, ◌*◌, ◌≤◌, ◌<◌, add-one, arith, length, take, drop, drop-drop, drop_of_length-le, length-append, drop-cons, drop-set-lt}
use borrow.Rule.Slice.PartMut.{put_mid}
use Rattle.std.proofs.lemmas.Bool.Decides.{nat_tests}
use Rattle.table.specs.declared.Piece.{Piece}
use Rattle.table.specs.Pieces.{no_piece, All, done, also}
use Rattle.table.specs.Table.{pieces_of, lay, over, piece_in, put_in}
use Rattle.table.specs.Closing.{VACANT, Present, stay, settled, Settling, Closes}
use Rattle.table.proofs.Table.{length_pieces, same_behind, put_pieces, put_behind, put_more, flat_pieces, flat_append}

pub stay_append : (xs ys : List Piece) → stay (xs ++ ys) ≡ stay xs ++ stay ys
unfolding stay
stay_append [] ys = refl
stay_append (x ∷ xs) ys = grind (arith, stay_append xs ys)

pub stay_all : (ps : List Piece) → All Present ps → stay ps ≡ ps
unfolding stay
stay_all [] done = refl
stay_all (p ∷ ps) (also h u) = grind (arith, nat_tests, stay_all ps u)

-- if as many stay as there are, all do
stay_few : (ps : List Piece) → length (stay ps) ≤ length ps
unfolding stay
stay_few [] = omega arith
stay_few (p ∷ ps) = grind (arith, stay_few ps)

stay_same : (ps : List Piece) → length (stay ps) ≡ length ps → stay ps ≡ ps
unfolding stay
stay_same [] e = refl
stay_same (p ∷ ps) e = grind (arith, stay_few ps, stay_same ps)

-- The pieces close up: the first j of t, and those that stay of the pieces from place i on, are all that stay of t₀.
pub record Closing (n i j : ℕ) (t₀ t : List ℕ) : Type 0 where
  pub stands : pieces_of j t ++ stay (drop i (pieces_of n t)) ≡ stay (pieces_of n t₀)
  pub most : j ≤ i
  pub behind : drop (4 * n) t ≡ drop (4 * n) t₀

pub close_start : (n : ℕ) (t : List ℕ) → Closing n 0 0 t t
unfolding pieces_of
close_start n t = grind arith

module _ {n i j : ℕ} {t₀ t : List ℕ} (s : Closing n i j t₀ t) where
  module _ {p : Piece} (h : i < n) (ep : p ≡ piece_in n t i) where
    here : drop i (pieces_of n t) ≡ p ∷ drop (suc i) (pieces_of n t)
    here = drop-cons (pieces_of n t) i no_piece (rw length_pieces h) ∙ rw ep

    pub close_gone : p.holder ≡ VACANT → Closing n (i + 1) j t₀ t
    unfolding stay
    close_gone e = grind (arith, nat_tests, here, add-one i)

    pub close_kept : {t' : List ℕ} → p.holder ≢ VACANT → t' ≡ put_in n j p t → Closing n (i + 1) (j + 1) t₀ t'
    unfolding stay
    close_kept {t'} e et =
        let rest : drop (suc i) (pieces_of n t') ≡ drop (suc i) (pieces_of n t) =
        rw (put_pieces n j t t' p et) (drop-set-lt (suc i) (pieces_of n t) j p (omega arith)) in
        let more = put_more n j t t' p et (omega arith) in
        let joined = append_assoc (pieces_of j t) (p ∷ []) (stay (drop (suc i) (pieces_of n t))) in
        grind (arith, nat_tests, here, add-one i, rest, more, joined, put_behind n j t t' p et)

  pub close_end : n ≤ i → i ≤ n → Closes n t₀ t j
  unfolding stay
  close_end h g =
      let none = drop_of_length-le (pieces_of n t) {i = i} (rw length_pieces h) in
      grind (arith, none, append-nil (pieces_of j t))

-- none has gone
pub no_gaps : (n gone : ℕ) (t : List ℕ) → length (stay (pieces_of n t)) + gone ≡ n → gone ≡ 0 → Closes n t t n
no_gaps n gone t e z = grind (arith, stay_same (pieces_of n t), length_pieces n t)

-- the lifted pieces are copied behind the first j: the numbers up to there stay, and so do those behind
pub appended : (j g : ℕ) (t l ys : List ℕ) → 4 * (j + g) ≤ length t → 4 * g ≤ length l → ys ≡ take (4 * g) l
    → put_mid (4 * j) (4 * (j + g) - 4 * j) t ys ≡ over (j + g) (pieces_of j t ++ pieces_of g l) t
appended j g t l ys h k e =
    let size : 4 * j + (4 * (j + g) - 4 * j) ≡ 4 * (j + g) = omega arith in
    rw (e, drop-drop (4 * (j + g) - 4 * j) (4 * j) t, size, flat_append, flat_pieces j t (omega arith), flat_pieces g l k, append_assoc)

-- both: the pieces settle
module _ (n gone g j : ℕ) (t t' l : List ℕ) (asked : Settling n gone g t l) (closes : Closes n t t' j) where
  pieces : pieces_of j t' ++ pieces_of g l ≡ settled n t g l
  pieces = rw closes.stands

  pub settle_count : j + g ≡ length (settled n t g l)
  settle_count = let a : length (pieces_of j t' ++ pieces_of g l) ≡ j + g = simp (length-append, length_pieces) in sym a ∙ ap length pieces

  pub settle_room : length t' ≡ length t → 4 * (j + g) ≤ length t'
  settle_room e = rw (e, settle_count) asked.fits

  pub settle_table : (t'' : List ℕ) → t'' ≡ over (j + g) (pieces_of j t' ++ pieces_of g l) t' → t'' ≡ lay (settled n t g l) t
  settle_table t'' e =
      let stayed : j ≡ length (stay (pieces_of n t)) = sym (length_pieces j t') ∙ ap length closes.stands in
      let more : n ≤ j + g = omega (arith, asked.vacant, asked.filled) in
      e ∙ rw (pieces, same_behind n (j + g) t t' more closes.behind, settle_count)
