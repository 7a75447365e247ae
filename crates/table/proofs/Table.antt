-- The laws of a table of pieces. Each is by induction over lists of the form `flat ps ++ rest`, at places counted by
-- `quad`, which computes where `4 * n` does not.
-- Assumes nothing.
use Rattle.std.proofs.Common.{ℕ, zero, suc, ◌+◌, ◌-◌, ◌*◌, ◌≤◌, ◌<◌, not-suc-le-zero, le_of_suc-le-suc, add-zero, arith, ◌≡◌, refl, sym, ap, ◌∙◌, List, [], ◌∷◌, ◌++◌, add-one, length, get_or, take, drop, set, length-set, drop-drop, get_or-drop, take-suc-set, take_at, drop_at}
use native.Mathlib.Numerals.{towards_suc}
use lib.ListN.{get_or-eq_default}
use lib.Seq.{sets, set_out}
use Rattle.table.specs.declared.Piece.{Piece}
use Rattle.table.specs.Pieces.{no_piece}
use Rattle.table.specs.Table.{pieces_of, flat, first_piece, over, piece_in, put_in, places_of, places_in}

abbrev pub quad : ℕ → ℕ
quad zero = zero
quad (suc n) = suc (suc (suc (suc (quad n))))

pub quad_is : (n : ℕ) → 4 * n ≡ quad n
quad_is zero = refl
quad_is (suc n) = let h = quad_is n in omega arith

pub length_pieces : (n : ℕ) (t : List ℕ) → length (pieces_of n t) ≡ n
unfolding pieces_of
length_pieces zero t = refl
length_pieces (suc n) t = ap suc (length_pieces n (drop 4 t))

pub length_flat : (ps : List Piece) → length (flat ps) ≡ quad (length ps)
unfolding flat
length_flat [] = refl
length_flat (p ∷ ps) = ap (λ (k : ℕ). suc (suc (suc (suc k)))) (length_flat ps)

abbrev pub numbers : Piece → List ℕ
numbers p = p.holder ∷ p.origin ∷ p.birth ∷ p.weight ∷ []

-- a table is its pieces, and the rest
pub split : (n : ℕ) (t : List ℕ) → quad n ≤ length t → t ≡ flat (pieces_of n t) ++ drop (quad n) t
unfolding pieces_of flat
split zero t h = refl
split (suc n) [] h = absurd (omega arith)
split (suc n) (a ∷ []) h = absurd (omega arith)
split (suc n) (a ∷ b ∷ []) h = absurd (omega arith)
split (suc n) (a ∷ b ∷ c ∷ []) h = absurd (omega arith)
split (suc n) (a ∷ b ∷ c ∷ d ∷ t) h = grind (arith, split n t)

-- the numbers of the first pieces are the first numbers
pub flat_pieces : (n : ℕ) (t : List ℕ) → 4 * n ≤ length t → flat (pieces_of n t) ≡ take (4 * n) t
flat_pieces n t h =
    let long : length (flat (pieces_of n t)) ≡ 4 * n = length_flat (pieces_of n t) ∙ rw length_pieces (sym (quad_is n)) in
    sym (ap (take (4 * n)) (split n t (rw quad_is at h)) ∙ take_at (flat (pieces_of n t)) (drop (quad n) t) (4 * n) long)

pub flat_append : (ps qs : List Piece) → flat (ps ++ qs) ≡ flat ps ++ flat qs
unfolding flat
flat_append [] qs = refl
flat_append (p ∷ ps) qs = ap (λ (l : List ℕ). p.holder ∷ p.origin ∷ p.birth ∷ p.weight ∷ l) (flat_append ps qs)

-- the pieces of a table that is written out
pub pieces_flat : (ps : List Piece) (rest : List ℕ) → pieces_of (length ps) (flat ps ++ rest) ≡ ps
unfolding pieces_of flat
pieces_flat [] rest = refl
pieces_flat (p ∷ ps) rest = ap (λ (l : List Piece). p ∷ l) (pieces_flat ps rest)

pub at_flat : (ps : List Piece) (rest : List ℕ) (i : ℕ) → i < length ps → first_piece (drop (quad i) (flat ps ++ rest)) ≡ get_or ps i no_piece
unfolding flat
at_flat [] rest i h = absurd (not-suc-le-zero h)
at_flat (p ∷ ps) rest zero h = refl
at_flat (p ∷ ps) rest (suc i) h = at_flat ps rest i (le_of_suc-le-suc h)

pub put_flat : (ps : List Piece) (rest : List ℕ) (i : ℕ) (p : Piece) → i < length ps → sets (flat ps ++ rest) (quad i) (numbers p) ≡ flat (set ps i p) ++ rest
unfolding flat
put_flat [] rest i p h = absurd (not-suc-le-zero h)
put_flat (q ∷ ps) rest zero p h = refl
put_flat (q ∷ ps) rest (suc i) p h = grind (arith, put_flat ps rest i p)

-- the four numbers at place i
abbrev pub piece_at : List ℕ → ℕ → Piece
piece_at t i =
    record { holder = get_or t (4 * i) 0; origin = get_or t (4 * i + 1) 0; birth = get_or t (4 * i + 2) 0; weight = get_or t (4 * i + 3) 0 }

module _ (n i : ℕ) (t : List ℕ) (h : i < n) (room : 4 * n ≤ length t) where
  pub piece_law : piece_at t i ≡ piece_in n t i
  piece_law =
      let e : piece_at t i ≡ first_piece (drop (quad i) t) = simp (quad_is, get_or-drop, add-zero) in
      e
      ∙ ap (λ (l : List ℕ). first_piece (drop (quad i) l)) (split n t (rw quad_is at room))
      ∙ at_flat (pieces_of n t) (drop (quad n) t) i (rw length_pieces h)

  pub put_law : (p : Piece) → set (set (set (set t (4 * i) p.holder) (4 * i + 1) p.origin) (4 * i + 2) p.birth) (4 * i + 3) p.weight
      ≡ put_in n i p t
  put_law p =
      let e : set (set (set (set t (4 * i) p.holder) (4 * i + 1) p.origin) (4 * i + 2) p.birth) (4 * i + 3) p.weight ≡ sets t (quad i) (numbers p) = simp (quad_is, towards_suc) in
      e
      ∙ ap (λ (l : List ℕ). sets l (quad i) (numbers p)) (split n t (rw quad_is at room))
      ∙ put_flat (pieces_of n t) (drop (quad n) t) i p (rw length_pieces h)
      ∙ simp quad_is

-- what is read back of a table that is written out
pub pieces_over : (n : ℕ) (ps : List Piece) (rest : List ℕ) → length ps ≡ n → pieces_of n (flat ps ++ rest) ≡ ps
pieces_over n ps rest e = rw (← e) (pieces_flat ps rest)

pub rest_over : (n : ℕ) (ps : List Piece) (rest : List ℕ) → length ps ≡ n → drop (4 * n) (flat ps ++ rest) ≡ rest
rest_over n ps rest e = drop_at (flat ps) rest (4 * n) (length_flat ps ∙ rw (e, quad_is))

-- the first pieces of a table
pub pieces_take : (j n : ℕ) (t : List ℕ) → j ≤ n → take j (pieces_of n t) ≡ pieces_of j t
unfolding pieces_of
pieces_take zero n t h = refl
pieces_take (suc j) zero t h = absurd (not-suc-le-zero h)
pieces_take (suc j) (suc n) t h = ap (λ (l : List Piece). first_piece t ∷ l) (pieces_take j n (drop 4 t) (le_of_suc-le-suc h))

pub formed : (n : ℕ) (t : List ℕ) → 4 * n ≤ length t → t ≡ over n (pieces_of n t) t
formed n t room = split n t (rw quad_is at room) ∙ rw (← quad_is)

-- what is the same behind n pieces is the same behind more
pub same_behind : (n k : ℕ) (t t' : List ℕ) → n ≤ k → drop (4 * n) t' ≡ drop (4 * n) t → drop (4 * k) t' ≡ drop (4 * k) t
same_behind n k t t' h e =
    let more : ℕ = 4 * k - 4 * n in
    let size : 4 * n + more ≡ 4 * k = omega arith in
    rw (← size) (sym (drop-drop more (4 * n) t') ∙ ap (drop more) e ∙ drop-drop more (4 * n) t)

-- a place that is not there
pub no_piece_there : (n i : ℕ) (t : List ℕ) → n ≤ i → no_piece ≡ piece_in n t i
no_piece_there n i t h = sym (get_or-eq_default (pieces_of n t) no_piece {n = i} (rw length_pieces h))

pub not_put : (n i : ℕ) (t : List ℕ) (p : Piece) → n ≤ i → 4 * n ≤ length t → t ≡ put_in n i p t
not_put n i t p h g = grind (arith, set_out (pieces_of n t) i p, length_pieces n t, formed n t g)

-- a piece was put at place c
module _ (n c : ℕ) (t t' : List ℕ) (p : Piece) (e : t' ≡ put_in n c p t) where
  long : length (set (pieces_of n t) c p) ≡ n
  long = length-set (pieces_of n t) c p ∙ length_pieces n t

  pub put_pieces : pieces_of n t' ≡ set (pieces_of n t) c p
  put_pieces = ap (pieces_of n) e ∙ pieces_over n _ (drop (4 * n) t) long

  pub put_behind : drop (4 * n) t' ≡ drop (4 * n) t
  put_behind = ap (drop (4 * n)) e ∙ rest_over n _ (drop (4 * n) t) long

  pub put_more : c < n → pieces_of (c + 1) t' ≡ pieces_of c t ++ (p ∷ [])
  put_more h =
      let g : c < length (pieces_of n t) = rw length_pieces h in
      rw add-one (sym (pieces_take (suc c) n t' h) ∙ rw put_pieces (take-suc-set (pieces_of n t) c p g ∙ rw (pieces_take c n t (omega arith))))

-- as many pieces as places lie in the table
pub places_fit : (t : List ℕ) (n m : ℕ) → m ≡ places_of t → n ≤ m → 4 * n ≤ length t
unfolding places_in
places_fit t n m e h = omega arith
