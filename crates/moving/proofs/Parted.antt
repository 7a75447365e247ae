-- The pieces are parted by what each gives. The first i have been; what `giving` leaves of the others completes what it
-- leaves of all, in the table and among the lifted. The places from i on are as they were, since no more pieces stay
-- than were seen.
-- Assumes nothing.
use Rattle.std.proofs.Common.{◌≡◌, ◌∙◌, ◌≢◌, List, [], ◌∷◌, ◌++◌, append_assoc, append-nil, map, ℕ, suc, ◌+◌, ◌-◌, ◌*◌, ◌≤◌, ◌<◌, add-one, arith, get_or, drop, drop_of_length-le, drop-cons, drop-set-lt}
use Rattle.std.proofs.lemmas.Bool.Decides.{nat_tests}
use Rattle.table.specs.declared.Piece.{Piece}
use Rattle.table.specs.Pieces.{no_piece, of_weight, hand_to}
use Rattle.table.specs.Table.{pieces_of, piece_in, put_in}
use Rattle.table.proofs.Table.{length_pieces, put_pieces, put_behind, put_more}
use Rattle.taking.specs.Taken.{Taken}
use Rattle.taking.specs.Stirring.{gives, giving}
use Rattle.moving.specs.Ready.{lifted_places}
use Rattle.moving.specs.Stirring.{Partible, Parts}

-- what the pieces from place i on give
abbrev pub from : ℕ → List ℕ → List Piece → Taken
from i gs ps = giving (drop i gs) (drop i ps)

pub record Parting (n d i j k : ℕ) (gs t₀ t l : List ℕ) : Type 0 where
  pub stands : pieces_of j t ++ (from i gs (pieces_of n t₀)).rest ≡ (giving gs (pieces_of n t₀)).rest
  pub goes : pieces_of k l ++ map (hand_to d) (from i gs (pieces_of n t₀)).given ≡ map (hand_to d) (giving gs (pieces_of n t₀)).given
  pub ahead : drop i (pieces_of n t) ≡ drop i (pieces_of n t₀)
  pub behind : drop (4 * n) t ≡ drop (4 * n) t₀
  pub few : j ≤ i
  pub most : k ≤ i

pub part_start : (n d : ℕ) (gs t l : List ℕ) → Parting n d 0 0 0 gs t t l
unfolding pieces_of
part_start n d gs t l = grind arith

module _ {n d i j k : ℕ} {gs t₀ t l : List ℕ} (asked : Partible n gs t₀) (s : Parting n d i j k gs t₀ t l) where
  module _ {p : Piece} (h : i < n) (ep : p ≡ piece_in n t i) where
    here : drop i (pieces_of n t) ≡ p ∷ drop (suc i) (pieces_of n t)
    here = drop-cons (pieces_of n t) i no_piece (rw length_pieces h) ∙ rw ep

    same : piece_in n t₀ i ≡ p
    same = let was = drop-cons (pieces_of n t₀) i no_piece (rw length_pieces h) in grind (arith, here, was, s.ahead)

    pub gift_fits : get_or gs i 0 ≤ p.weight
    gift_fits = rw same at (asked.affordable i)

    abbrev g : ℕ
    g = get_or gs i 0

    now : from i gs (pieces_of n t₀) ≡ gives g p (from (suc i) gs (pieces_of n t₀))
    unfolding giving
    now =
        let there = drop-cons (pieces_of n t₀) i no_piece (rw length_pieces h) in
        let gift = drop-cons gs i 0 (omega (arith, asked.gifts)) in
        rw (there, gift, same)

    -- what lies behind place i is as it was, also where a piece is put before
    ahead : drop (suc i) (pieces_of n t) ≡ drop (suc i) (pieces_of n t₀)
    ahead = let there = drop-cons (pieces_of n t₀) i no_piece (rw length_pieces h) in grind (arith, here, there, s.ahead)

    module _ (t' : List ℕ) (q : Piece) (et : t' ≡ put_in n j q t) where
      left : drop (suc i) (pieces_of n t') ≡ drop (suc i) (pieces_of n t₀)
      left = rw (put_pieces n j t t' q et) (drop-set-lt (suc i) (pieces_of n t) j q (omega (arith, s.few))) ∙ ahead

      stayed : pieces_of (j + 1) t' ≡ pieces_of j t ++ (q ∷ [])
      stayed = put_more n j t t' q et (omega (arith, s.few))

    went : (l' : List ℕ) (q : Piece) → l' ≡ put_in lifted_places k q l → pieces_of (k + 1) l' ≡ pieces_of k l ++ (q ∷ [])
    went l' q el = put_more lifted_places k l l' q el (omega (arith, s.most, asked.places))

    pub part_stays : {t' : List ℕ} → g ≡ 0 → t' ≡ put_in n j p t → Parting n d (i + 1) (j + 1) k gs t₀ t' l
    part_stays {t'} e et =
        let joined = append_assoc (pieces_of j t) (p ∷ []) (from (suc i) gs (pieces_of n t₀)).rest in
        grind (arith, nat_tests, add-one i, now, left t' p et, stayed t' p et, joined, put_behind n j t t' p et, s.behind, s.few, s.most)

    -- it gives, and q is what it gives
    module _ {l' : List ℕ} {q r : Piece} (some : g ≢ 0) (eq : q ≡ of_weight g p) (er : r ≡ hand_to d q) (el : l' ≡ put_in lifted_places k r l) where
      pub part_whole : g ≡ p.weight → Parting n d (i + 1) j (k + 1) gs t₀ t l'
      part_whole e =
          let joined = append_assoc (pieces_of k l) (hand_to d p ∷ []) (map (hand_to d) (from (suc i) gs (pieces_of n t₀)).given) in
          grind (arith, nat_tests, add-one i, now, ahead, went l' r el, joined, s.behind, s.few, s.most)

      pub part_split : {t' : List ℕ} {x : Piece} → g ≢ p.weight → x ≡ of_weight (p.weight - g) p → t' ≡ put_in n j x t → Parting n d (i + 1) (j + 1) (k + 1) gs t₀ t' l'
      part_split {t'} {x} m ex et =
          let rest = append_assoc (pieces_of j t) (x ∷ []) (from (suc i) gs (pieces_of n t₀)).rest in
          let given = append_assoc (pieces_of k l) (r ∷ []) (map (hand_to d) (from (suc i) gs (pieces_of n t₀)).given) in
          grind (arith, nat_tests, add-one i, now, left t' x et, stayed t' x et, went l' r el, rest, given, put_behind n j t t' x et, s.behind, s.few, s.most)

  pub part_end : n ≤ i → i ≤ n → Parts n d gs t₀ t l (record { stay = j; go = k })
  unfolding giving
  part_end h e =
      let none = drop_of_length-le (pieces_of n t₀) {i = i} (rw length_pieces h) in
      let spent = drop_of_length-le gs {i = i} (omega (arith, asked.gifts)) in
      record {
        stands = grind (arith, none, spent, append-nil (pieces_of j t), s.stands);
        goes = grind (arith, none, spent, append-nil (pieces_of k l), s.goes);
        behind = s.behind;
        few = omega (arith, s.few);
        most = omega (arith, s.most);
      }
