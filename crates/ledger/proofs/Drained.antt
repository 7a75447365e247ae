-- Where no vessel from V on has any weight, drawing every piece's from its holder's balance, with nothing short and nothing left over, is that all pieces
-- fit and the balances are their sums: each way by induction over the pieces. A piece of another holder than the book's is found short.
-- Assumes nothing.
use Rattle.std.proofs.Common.{◌≡◌, refl, sym, ap, ◌∙◌, Bool, true, false, ◌&&◌, List, [], ◌∷◌, ◌++◌, ℕ, ◌+◌, ◌-◌, ◌≤◌, ◌<◌, arith, leb, ltb, eqb, length, drop, length-drop, get_or, set, length-set, length-append, get_or-set_same, get_or-set_other, leb-true, eq-eqb, eqb-true}
use Rattle.std.proofs.lemmas.Bool.Decides.{nat_tests}
use Rattle.std.proofs.Math.Bool.{and-true}
use Rattle.std.proofs.lemmas.Bool.{and_parts}
use Rattle.std.specs.Cmp.{both_ways}
use Rattle.std.proofs.lemmas.List.{get_or-drop}
use lib.ListN.{get_or-append, get_or-eq_default}
use lib.Seq.{set_at}
use Rattle.table.specs.declared.Piece.{Piece}
use Rattle.table.specs.Pieces.{held, All, done, also}
use Rattle.table.proofs.Pieces.{all_map}
use Rattle.book.specs.declared.Head.{Head}
use Rattle.book.specs.Head.{most_vessels, the_scale, most_holders, is_holder, balance_of, balances_of, lot_fits, fits, all_zero, holdings, all_of, every, same, balanced}
use Rattle.ledger.specs.Audit.{covers, drawn, drained}
use Rattle.book.proofs.HolderLaws.{holder_bound}
use Rattle.book.proofs.Sound.{SoundPiece}
use Rattle.book.proofs.ZeroLaws.{zero_at, at_zero, zeros_from}
use Rattle.book.proofs.HeadLaws.{all_fit, all_sound, same_refl, same_eq}
use Rattle.book.proofs.BalanceLaws.{length_tab, get_d_tab, Holders, Matches, matches_balances, balances_match}

-- what is left of the balances after p, at v
module _ (rest : List ℕ) (p : Piece) (ps : List Piece) (small : p.holder < most_holders) where
  left_matches : p.weight ≤ get_or rest p.holder 0 → length rest ≡ most_holders → Matches (drawn rest p) ps → Matches rest (p ∷ ps)
  left_matches w long m = record { long = long; each = λ v h. grind (arith, nat_tests, get_or-set_same, get_or-set_other, m.each v h) }

  drawn_matches : Matches rest (p ∷ ps) → Matches (drawn rest p) ps
  drawn_matches m = record {
    long = length-set rest p.holder _ ∙ m.long;
    each = λ v h. grind (arith, nat_tests, get_or-set_same, get_or-set_other, m.each v h, m.long);
  }

-- no number is that of another than the holders of the book
abbrev OwnOnly : ℕ → List ℕ → Type 0
OwnOnly size rest = (v : ℕ) → is_holder size v ≡ false → get_or rest v 0 ≡ 0

-- from V on the sums are 0
balances_beyond : (size : ℕ) (ps : List Piece) → all_zero (drop size (balances_of size ps)) ≡ true
unfolding balances_of
balances_beyond size ps =
    at_zero _ (λ v h.
    let u : v < most_vessels - size = rw (length-drop, length_tab) at h in
    get_or-drop size (balances_of size ps) v 0 ∙ get_d_tab (balance_of size ps) 0 most_vessels (size + v) (omega arith) ∙ grind (arith, nat_tests)
    )

module _ (size last : ℕ) (small : size ≤ most_vessels) where
  drained_matches : (ps : List Piece) (rest : List ℕ) → length rest ≡ most_holders → OwnOnly size rest → drained size last rest ps ≡ true
      → All (SoundPiece size last) ps × Matches rest ps
  unfolding drained
  drained_matches [] rest long own e = (done, record { long = long; each = λ v h. zero_at rest e v (rw long h) })
  drained_matches (p ∷ ps) rest long own e =
      let u = and_parts (covers size last rest p) (drained size last (drawn rest p) ps) e in
      let k = and_parts (lot_fits size last p) (ltb p.holder most_holders && leb p.weight (get_or rest p.holder 0)) u.0 in
      let w = and_parts (ltb p.holder most_holders) (leb p.weight (get_or rest p.holder 0)) k.1 in
      let f : SoundPiece size last p = grind (arith, nat_tests, own p.holder) in
      let left : OwnOnly size (drawn rest p) = λ v n. grind (arith, nat_tests, get_or-set_same, get_or-set_other, own v n) in
      let i = drained_matches ps (drawn rest p) (length-set rest p.holder _ ∙ long) left u.1 in
      (also f i.0, left_matches rest p ps (holder_bound size _ f.holder_in small) (leb-true _ _ w.1) long i.1)

  matches_drained : (ps : List Piece) (rest : List ℕ) → All (SoundPiece size last) ps → Matches rest ps → drained size last rest ps ≡ true
  unfolding drained
  matches_drained [] rest done m = at_zero rest (λ v h. m.each v (rw m.long at h))
  matches_drained (p ∷ ps) rest (also f x) m =
      let h : p.holder < most_holders = holder_bound size _ f.holder_in small in
      grind (arith, nat_tests, m.each p.holder h, matches_drained ps (drawn rest p) x (drawn_matches rest p ps h m))

  holders : {ps : List Piece} → All (SoundPiece size last) ps → Holders size ps
  holders x = all_map (λ p f. f.holder_in) x

  -- one pass finds what the last three clauses of `adds_up` say
  module _ (ps : List Piece) (l : List ℕ) (w : ℕ) (long : length l ≡ most_vessels) where
    abbrev all : List ℕ
    all = l ++ (w ∷ [])

    abbrev sums : Bool
    sums = every (fits size last) ps && (same l (balances_of size ps) && eqb w (held the_scale ps))

    own_only : all_zero (drop size l) ≡ true → OwnOnly size all
    own_only beyond v n = grind (arith, nat_tests, zeros_from size v l beyond, get_or-append l (w ∷ []) 0 v, get_or-eq_default all 0 {n = v}, length-append l (w ∷ []))

    there : all_zero (drop size l) ≡ true → drained size last all ps ≡ true → sums ≡ true
    there beyond e =
        let d = drained_matches ps all (simp length-append (omega (arith, long))) (own_only beyond) e in
        let k = matches_balances size l w ps (holders d.0) long d.1 in
        rw (all_fit size last d.0, ← k.0, same_refl l, eq-eqb _ _ k.1)

    back : sums ≡ true → drained size last all ps ≡ true
    back e =
        let u = and_parts (every (fits size last) ps) _ e in
        let k = and_parts (same l (balances_of size ps)) (eqb w (held the_scale ps)) u.1 in
        let x = all_sound size last ps u.0 in
        matches_drained ps all x (balances_match size l w ps (holders x) (same_eq l (balances_of size ps) k.0) (eqb-true _ _ k.1))

    drained_is : all_zero (drop size l) ≡ true → drained size last all ps ≡ sums
    drained_is beyond = both_ways _ _ (there beyond) back

-- a vessel from V on that has weight puts the balances off
beyond_off : (size last : ℕ) (ps : List Piece) (l : List ℕ) (w : ℕ) → all_zero (drop size l) ≡ false
    → (every (fits size last) ps && (same l (balances_of size ps) && eqb w (held the_scale ps))) ≡ false
beyond_off size last ps l w e = grind (arith, nat_tests, same_eq l (balances_of size ps), balances_beyond size ps, e)

-- `draw_all`: the balances of all holders, as the code writes them
pub drawn_all : (h : Head) (ps : List Piece) (l : List ℕ) (b : Bool) → length l ≡ most_vessels → l ≡ h.balances
    → b ≡ drained h.vessels h.last (set (l ++ (0 ∷ [])) most_vessels h.scale) ps
    → (b ≡ drained h.vessels h.last (holdings h) ps) × (length h.balances ≡ most_vessels)
drawn_all h ps l b long el eb = (
  eb ∙ ap (λ (k : List ℕ). drained h.vessels h.last k ps) (set_at l 0 [] h.scale most_vessels long ∙ rw el refl),
  rw el at long,
)

-- `is_balanced`
module _ (h : Head) (ps : List Piece) (few : h.vessels ≤ most_vessels) (c : Bool) (ec : c ≡ all_zero (drop h.vessels h.balances)) where
  pub weight_beyond : c ≡ false → false ≡ all_of (balanced h ps)
  weight_beyond e = sym (beyond_off h.vessels h.last ps h.balances h.scale (sym ec ∙ e)) ∙ rw and-true refl

  pub drawn_balanced : c ≡ true → (b : Bool) → (b ≡ drained h.vessels h.last (holdings h) ps) × (length h.balances ≡ most_vessels) → b ≡ all_of (balanced h ps)
  drawn_balanced e b (eb, long) = eb ∙ drained_is h.vessels h.last few ps h.balances h.scale long (sym ec ∙ e) ∙ rw and-true refl
