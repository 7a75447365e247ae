-- WHAT A STIRRED VESSEL GIVES. The shares are those of the fact about running sums (`shares_sum`, `shares_near`, sharing/proofs/Shares), so that the gifts sum
-- to what is wanted; no piece gives more than it has, and a piece of another holder gives nothing. So the taking is fair, as that of the four first rules is:
-- `taken_fair` says it of every rule. By induction over the pieces, with the sum of those before.
-- Assumes nothing.
use Rattle.std.proofs.Common.{◌≡◌, refl, sym, ap, ◌∙◌, ◌≢◌, Bool, true, false, cond, List, [], ◌∷◌, ℕ, ◌+◌, ◌-◌, ◌≤◌, ◌<◌, arith, ltb, eqb, length, eqb-true, ne_eqb, ltb-true, lt-ltb, le-ltb, ◌*◌, get_or, add-zero, zero-add}
use Rattle.std.proofs.lemmas.Bool.Decides.{nat_tests}
use borrow.Author.Tests.{eqb-false}
use Rattle.sharing.specs.Sharing.{up_to, share, shares, sum_of}
use Rattle.sharing.proofs.Shares.{Within, up_to_none, up_to_all, share_adds, share_fits, shares_sum, shares_near}
use Rattle.table.specs.declared.Piece.{Piece}
use Rattle.table.specs.Pieces.{of_weight, Kind, weigh, sum, in_vessel, held, weight_of, All, done, also}
use Rattle.table.proofs.Pieces.{in_two, all_head, all_tail}
use Rattle.taking.specs.declared.Move.{Move}
use Rattle.taking.specs.Selection.{as_received}
use Rattle.taking.specs.Taken.{Taken, one_whole}
use Rattle.taking.specs.Stirring.{stirred_rule, weights_in, gifts, stays, in_parts, gives, giving, stirred, left_of, given_by}
use Rattle.taking.specs.Taking.{singly, taken}
use Rattle.taking.specs.Sweeping.{held_by}
use Rattle.taking.proofs.HeldBy.{passed_over}
use Rattle.taking.proofs.Taking.{Reweigh, Fair, singly_law}

-- Of any gifts: nothing is born, what is given goes whole or is split, and each split is a piece more.
abbrev pub Counts : List Piece → Taken → Type 0
Counts ps r = (r.born ≡ 0) × (length r.given ≡ r.whole + r.split) × (length r.rest + length r.given ≡ length ps + r.split)

pub counts : (gs : List ℕ) (ps : List Piece) → Counts ps (giving gs ps)
unfolding giving
counts [] ps = (refl, refl, omega arith)
counts (g ∷ gs) [] = (refl, refl, omega arith)
counts (g ∷ gs) (p ∷ ps) = grind (arith, nat_tests, counts gs ps)

-- What gives something is held by s, and its whole weight counts there.
pub own_gift : (s g : ℕ) (p : Piece) → g ≤ weigh (in_vessel s) p → g ≢ 0 → (p.holder ≡ s) × (g ≤ p.weight)
own_gift s g p h n = grind (arith, nat_tests)

module _ (s q T : ℕ) (some : 0 < T) (few : q ≤ T) where
  -- What the pieces ps give, behind pieces of s with the sum c.
  record Gives (c : ℕ) (ps : List Piece) (r : Taken) : Type 1 where
    parts : (k : Kind) → sum k r.rest + sum k r.given ≡ sum k ps
    adds : up_to q T c + weight_of r.given ≡ up_to q T (c + held s ps)
    keeps : (P : Piece → Type 0) → Reweigh P → All P ps → All P r.rest × All (λ p. (p.holder ≡ s) × P p) r.given
    others : (v : ℕ) → v ≢ s → held_by v r.rest ≡ held_by v ps

  -- one piece more in front
  module _ (c g : ℕ) (p : Piece) (ps : List Piece) (r : Taken) (small : g ≤ weigh (in_vessel s) p) (adds_one : up_to q T c + g ≡ up_to q T (c + weigh (in_vessel s) p))
      (i : Gives (c + weigh (in_vessel s) p) ps r) where
    sums : up_to q T c + (g + weight_of r.given) ≡ up_to q T (c + held s (p ∷ ps))
    sums =
        let all : up_to q T (c + weigh (in_vessel s) p + held s ps) ≡ up_to q T (c + held s (p ∷ ps)) = ap (up_to q T) (omega arith) in
        omega (arith, adds_one, i.adds, all)

    none : g ≡ 0 → Gives c (p ∷ ps) (stays p r)
    unfolding held_by
    none e = record {
      parts = λ k. omega (arith, i.parts k);
      adds = omega (arith, sums);
      keeps = λ P u x. let y = i.keeps P u (all_tail x) in (also (all_head x) y.0, y.1);
      others = λ v ne. rw (i.others v ne) refl;
    }

    all : g ≢ 0 → g ≡ p.weight → Gives c (p ∷ ps) (one_whole p r)
    all n e =
        let own = own_gift s g p small n in
        record {
          parts = λ k. omega (arith, i.parts k);
          adds = omega (arith, sums);
          keeps = λ P u x. let y = i.keeps P u (all_tail x) in (y.0, also (own.0, all_head x) y.1);
          others = λ v ne. i.others v ne ∙ sym (passed_over v p ps (λ z. ne (sym z ∙ own.0)));
        }

    some_of_it : g ≢ 0 → g ≢ p.weight → Gives c (p ∷ ps) (in_parts g p r)
    some_of_it n m =
        let own = own_gift s g p small n in
        record {
          parts = λ k. omega (arith, i.parts k, in_two k p (p.weight - g) g (omega (arith, own.1)));
          adds = omega (arith, sums);
          keeps = λ P u x.
              let y = i.keeps P u (all_tail x) in
              (also (u p _ (omega (arith, own.1)) (all_head x)) y.0, also (own.0, u p g (omega arith) (all_head x)) y.1);
          others = λ v ne.
              let past = λ (w : ℕ). passed_over v (of_weight w p) in
              let ours = λ (z : p.holder ≡ v). ne (sym z ∙ own.0) in
              past (p.weight - g) r.rest ours ∙ i.others v ne ∙ sym (past p.weight ps ours);
        }

    one_more : Gives c (p ∷ ps) (gives g p r)
    one_more = go (eqb g 0) refl (eqb g p.weight) refl
      where
        go : (a : Bool) → eqb g 0 ≡ a → (b : Bool) → eqb g p.weight ≡ b → Gives c (p ∷ ps) (cond a (stays p r) (cond b (one_whole p r) (in_parts g p r)))
        go true e b f = none (eqb-true g 0 e)
        go false e true f = all (eqb-false g 0 e) (eqb-true g p.weight f)
        go false e false f = some_of_it (eqb-false g 0 e) (eqb-false g p.weight f)

  each_gives : (c : ℕ) (ps : List Piece) → Gives c ps (giving (shares q T c (weights_in s ps)) ps)
  unfolding giving shares
  each_gives c [] = record {
    parts = λ k. omega arith;
    adds = simp add-zero;
    keeps = λ P u x. (x, done);
    others = λ v ne. refl;
  }
  each_gives c (p ∷ ps) =
      let w : ℕ = weigh (in_vessel s) p in
      one_more c (share q T c w) p ps _ (share_fits q T some few c w) (share_adds q T some c w) (each_gives (c + w) ps)

-- A stirred vessel that has more than is wanted.
module _ (x : Move) (ps : List Piece) (more : x.weight < held x.source ps) where
  abbrev balance : ℕ
  balance = held x.source ps

  gave : Gives x.source x.weight balance (omega arith) (omega arith) 0 ps (stirred x ps)
  gave = each_gives x.source x.weight balance (omega arith) (omega arith) 0 ps

  -- the gifts sum to what is wanted
  stirred_sum : weight_of (stirred x ps).given ≡ x.weight
  stirred_sum = omega (arith, simp zero-add at gave.adds, up_to_none x.weight balance, up_to_all x.weight balance (omega arith))

  stirred_fair : Fair x.source x.weight ps (stirred x ps)
  stirred_fair =
      let c = counts (gifts x ps) ps in
      record {
        parts = gave.parts;
        makes_up = omega (arith, stirred_sum, c.0);
        born_is = omega (arith, c.0);
        longer = c.2;
        keeps = gave.keeps;
        others = gave.others;
      }

-- What is taken under another rule than 4, and under rule 4 where no more is wanted than the vessel has.
pub taken_singly : (rule : ℕ) (x : Move) (ps : List Piece) → rule ≢ stirred_rule → taken rule x ps ≡ singly rule x ps
unfolding taken
taken_singly rule x ps first = rw (ne_eqb rule stirred_rule first) refl

pub taken_stirred : (x : Move) (ps : List Piece) → x.weight < held x.source ps → taken stirred_rule x ps ≡ stirred x ps
unfolding taken
taken_stirred x ps more = rw (lt-ltb _ _ more) refl

pub taken_out : (x : Move) (ps : List Piece) → held x.source ps ≤ x.weight → taken stirred_rule x ps ≡ singly as_received x ps
unfolding taken
taken_out x ps none = rw (le-ltb _ _ none) refl

-- What is taken under any rule is fair.
pub taken_fair : (rule : ℕ) (x : Move) (ps : List Piece) → Fair x.source x.weight ps (taken rule x ps)
unfolding taken
taken_fair rule x ps = go (eqb rule stirred_rule) (ltb x.weight (held x.source ps)) refl
  where
    go : (a b : Bool) → ltb x.weight (held x.source ps) ≡ b → Fair x.source x.weight ps (cond a (cond b (stirred x ps) (singly as_received x ps)) (singly rule x ps))
    go true true e = stirred_fair x ps (ltb-true _ _ e)
    go true false e = (singly_law as_received x ps).fair
    go false b e = (singly_law rule x ps).fair

-- and where all is taken nothing is split
pub none_split : (rule : ℕ) (x : Move) (ps : List Piece) → held x.source ps ≤ x.weight → (taken rule x ps).split ≡ 0
unfolding taken
none_split rule x ps all = rw (le-ltb _ _ all) (go (eqb rule stirred_rule))
  where
    go : (a : Bool) → (cond a (singly as_received x ps) (singly rule x ps)).split ≡ 0
    go true = omega (arith, (singly_law as_received x ps).left_over)
    go false = omega (arith, (singly_law rule x ps).left_over)

-- LESS THAN ONE GRAM: what the piece at any place gives differs from its exact part of what is wanted by less than 1, and all gifts sum to that.
sum_weights : (s : ℕ) (ps : List Piece) → sum_of (weights_in s ps) ≡ held s ps
sum_weights s [] = refl
sum_weights s (p ∷ ps) = omega (arith, sum_weights s ps)

pub gifts_near : (x : Move) (ps : List Piece) → 0 < held x.source ps → (i : ℕ)
    → Within (held x.source ps) (get_or (gifts x ps) i 0 * held x.source ps) (x.weight * get_or (weights_in x.source ps) i 0)
gifts_near x ps some i = rw (sum_weights x.source ps) at (shares_near x.weight (weights_in x.source ps) (rw sum_weights some) i)

pub gifts_sum : (x : Move) (ps : List Piece) → 0 < held x.source ps → sum_of (gifts x ps) ≡ x.weight
gifts_sum x ps some = rw (sum_weights x.source ps) at (shares_sum x.weight (weights_in x.source ps) (rw sum_weights some))

-- IN WORDS: what is left of each piece stays in its order, and what each gives goes in that order, whole pieces and parts alike.
module _ (s q T : ℕ) (some : 0 < T) (few : q ≤ T) where
  left_given : (c : ℕ) (ps : List Piece) → All (λ p. 1 ≤ p.weight) ps
      → let gs = shares q T c (weights_in s ps) in ((giving gs ps).rest ≡ left_of gs ps) × ((giving gs ps).given ≡ given_by gs ps)
  unfolding giving shares left_of given_by
  left_given c [] h = (refl, refl)
  left_given c (p ∷ ps) (also h x) =
      let w = weigh (in_vessel s) p in
      grind (arith, nat_tests, left_given (c + w) ps x, share_fits q T some few c w)

pub stirred_pieces : (x : Move) (ps : List Piece) → All (λ p. 1 ≤ p.weight) ps → x.weight < held x.source ps
    → ((stirred x ps).rest ≡ left_of (gifts x ps) ps) × ((stirred x ps).given ≡ given_by (gifts x ps) ps)
stirred_pieces x ps h more = left_given x.source x.weight (held x.source ps) (omega arith) (omega arith) 0 ps h

-- On four pieces, of which one gives a part, one all, one nothing and one a part again: what they give lies in the order of receipt.
abbrev lot : ℕ → ℕ → Piece
lot origin weight = record { holder = 0; origin = origin; birth = 7; weight = weight }

pub four_pieces : giving (2 ∷ 1 ∷ 0 ∷ 2 ∷ []) (lot 1 5 ∷ lot 2 1 ∷ lot 3 1 ∷ lot 4 3 ∷ [])
    ≡ record { rest = lot 1 3 ∷ lot 3 1 ∷ lot 4 1 ∷ []; given = lot 1 2 ∷ lot 2 1 ∷ lot 4 2 ∷ []; whole = 1; split = 2; born = 0 }
unfolding giving
four_pieces = refl
