-- What others hold plays no part in a taking: from the pieces without those of a holder c, another than the source, the same is taken, and what stays
-- is what stayed, without those of c. The idea: the same piece is picked among fewer, and leaves the same behind; and more steps than there are
-- pieces change nothing.
-- Assumes nothing.
use Rattle.std.proofs.Common.{◌≡◌, refl, sym, ap, ◌∙◌, ◌≢◌, Bool, true, false, cond, List, [], ◌∷◌, ◌++◌, ℕ, zero, suc, ◌-◌, ◌≤◌, arith, leb, eqb, length, length-append, ltb, ◌+◌, add-zero, ne_eqb}
use borrow.Author.Tests.{eqb-false}
use Rattle.std.proofs.lemmas.Bool.Decides.{nat_tests}
use Rattle.table.specs.declared.Piece.{Piece}
use Rattle.sharing.specs.Sharing.{share, shares}
use Rattle.sharing.proofs.Shares.{share_none}
use Rattle.table.specs.Pieces.{of_weight, weigh, in_vessel, held}
use Rattle.table.proofs.Pieces.{all_if_any}
use Rattle.taking.specs.Selection.{as_received, Found, nothing, at, behind, against, wins, select}
use Rattle.taking.specs.declared.Move.{Move}
use Rattle.taking.specs.Taken.{Taken, one_whole}
use Rattle.taking.specs.Stirring.{stirred_rule, weights_in, stays, in_parts, gives, giving, stirred}
use Rattle.taking.specs.Taking.{take_from, take_found, take_next, take_up_to, singly, taken, newborn, handed}
use Rattle.taking.specs.Sweeping.{elsewhere}
use Rattle.taking.proofs.HeldBy.{elsewhere_append, all_elsewhere, sum_elsewhere}
use Rattle.taking.proofs.Taking.{Good, select_good}
use Rattle.taking.proofs.Handed.{handed_away}

-- More steps than there are pieces change nothing.
module _ (better : Piece → Piece → Bool) (s : ℕ) where
  abbrev pick : List Piece → Found
  pick = select better s

  enough : (n m want : ℕ) (ps : List Piece) → length ps ≤ n → length ps ≤ m → take_up_to pick n want ps ≡ take_up_to pick m want ps
  unfolding take_up_to
  enough zero zero want ps h g = refl
  enough zero (suc m) want [] h g = grind arith
  enough (suc n) zero want [] h g = grind arith
  enough zero m want (p ∷ ps) h g = absurd (omega arith)
  enough (suc n) zero want (p ∷ ps) h g = absurd (omega arith)
  enough (suc n) (suc m) want ps h g = next (eqb want 0) (enough n m)
    where
      found : (f : Found) → Good s ps f → ((want : ℕ) (ps : List Piece) → length ps ≤ n → length ps ≤ m → take_up_to pick n want ps ≡ take_up_to pick m want ps)
          → take_found (take_up_to pick n) want ps f ≡ take_found (take_up_to pick m) want ps f
      found nothing u i = refl
      found (at b p a) u i = weighs (leb p.weight want)
        where
          weighs : (t : Bool) → take_from (take_up_to pick n) want b p a t ≡ take_from (take_up_to pick m) want b p a t
          weighs true =
              let k = simp length-append at (ap length u.0) in
              ap (one_whole p) (i (want - p.weight) (b ++ a) (simp length-append (omega (arith, k))) (simp length-append (omega (arith, k))))
          weighs false = refl

      next : (t : Bool) → ((want : ℕ) (ps : List Piece) → length ps ≤ n → length ps ≤ m → take_up_to pick n want ps ≡ take_up_to pick m want ps)
          → take_next pick (take_up_to pick n) want ps t ≡ take_next pick (take_up_to pick m) want ps t
      next true i = refl
      next false i = found (pick ps) (select_good better s ps) i

module _ (c : ℕ) where
  fewer : (ps : List Piece) → length (elsewhere c ps) ≤ length ps
  unfolding elsewhere
  fewer [] = omega arith
  fewer (p ∷ ps) = grind (arith, nat_tests, fewer ps)

  abbrev found_apart : Found → Found
  found_apart nothing = nothing
  found_apart (at b p a) = at (elsewhere c b) p (elsewhere c a)

  abbrev pub taken_apart : Taken → Taken
  taken_apart r = record { rest = elsewhere c r.rest; given = r.given; whole = r.whole; split = r.split; born = r.born }

  module _ (better : Piece → Piece → Bool) (s : ℕ) (apart : c ≢ s) where
    select_apart : (ps : List Piece) → select better s (elsewhere c ps) ≡ found_apart (select better s ps)
    unfolding elsewhere
    select_apart [] = refl
    select_apart (p ∷ ps) = go (select better s ps) (select_apart ps)
      where
        go : (f : Found) → select better s (elsewhere c ps) ≡ found_apart f
            → select better s (cond (eqb p.holder c) (elsewhere c ps) (p ∷ elsewhere c ps)) ≡ found_apart (cond (eqb p.holder s) (against better p ps f) (behind p f))
        go nothing e = grind (arith, nat_tests)
        go (at b x a) e = grind (arith, nat_tests)

    same : (n want : ℕ) (ps : List Piece) → take_up_to (select better s) n want (elsewhere c ps) ≡ taken_apart (take_up_to (select better s) n want ps)
    unfolding take_up_to elsewhere
    same zero want ps = refl
    same (suc n) want ps = next (eqb want 0) (same n)
      where
        found : (f : Found) → Good s ps f → ((want : ℕ) (ps : List Piece) → take_up_to (select better s) n want (elsewhere c ps) ≡ taken_apart (take_up_to (select better s) n want ps))
            → take_found (take_up_to (select better s) n) want (elsewhere c ps) (found_apart f) ≡ taken_apart (take_found (take_up_to (select better s) n) want ps f)
        found nothing u i = refl
        found (at b p a) u i = weighs (leb p.weight want)
          where
            stays : (w : ℕ) → elsewhere c (of_weight w p ∷ a) ≡ of_weight w p ∷ elsewhere c a
            stays w = grind (arith, nat_tests, u.1)

            weighs : (t : Bool) → take_from (take_up_to (select better s) n) want (elsewhere c b) p (elsewhere c a) t ≡ taken_apart (take_from (take_up_to (select better s) n) want b p a t)
            weighs true = ap (one_whole p) (rw (← (elsewhere_append c b a)) (i (want - p.weight) (b ++ a)))
            weighs false = rw (elsewhere_append, stays) refl

        next : (t : Bool) → ((want : ℕ) (ps : List Piece) → take_up_to (select better s) n want (elsewhere c ps) ≡ taken_apart (take_up_to (select better s) n want ps))
            → take_next (select better s) (take_up_to (select better s) n) want (elsewhere c ps) t ≡ taken_apart (take_next (select better s) (take_up_to (select better s) n) want ps t)
        next true i = refl
        next false i = rw (select_apart ps) (found (select better s ps) (select_good better s ps) i)

-- so it is under the four first rules
apart_singly : (c rule : ℕ) (x : Move) (ps : List Piece) → c ≢ x.source → singly rule x (elsewhere c ps) ≡ taken_apart c (singly rule x ps)
apart_singly c rule x ps apart =
    enough (wins rule) x.source (length (elsewhere c ps)) (length ps) x.weight (elsewhere c ps) (omega arith) (fewer c ps)
    ∙ same c (wins rule) x.source apart (length ps) x.weight ps

-- A stirred vessel's pieces give the same among fewer: what c holds has no weight in the sums, and gives nothing.
module _ (c s q T : ℕ) (apart : c ≢ s) where
  gives_apart : (g : ℕ) (p : Piece) (r : Taken) → p.holder ≢ c → gives g p (taken_apart c r) ≡ taken_apart c (gives g p r)
  unfolding elsewhere
  gives_apart g p r ne = go (eqb g 0) (eqb g p.weight)
    where
      away : (w : ℕ) → elsewhere c (of_weight w p ∷ r.rest) ≡ of_weight w p ∷ elsewhere c r.rest
      away w = rw (ne_eqb p.holder c ne) refl

      go : (a b : Bool) → cond a (stays p (taken_apart c r)) (cond b (one_whole p (taken_apart c r)) (in_parts g p (taken_apart c r)))
          ≡ taken_apart c (cond a (stays p r) (cond b (one_whole p r) (in_parts g p r)))
      go true b = rw (away p.weight) refl
      go false true = refl
      go false false = rw (away (p.weight - g)) refl

  stirred_same : (k : ℕ) (ps : List Piece)
      → giving (shares q T k (weights_in s (elsewhere c ps))) (elsewhere c ps) ≡ taken_apart c (giving (shares q T k (weights_in s ps)) ps)
  unfolding giving shares elsewhere
  stirred_same k [] = refl
  stirred_same k (p ∷ ps) = go (eqb p.holder c) refl (λ n. stirred_same n ps)
    where
      w : ℕ
      w = weigh (in_vessel s) p

      go : (t : Bool) → eqb p.holder c ≡ t → ((n : ℕ) → giving (shares q T n (weights_in s (elsewhere c ps))) (elsewhere c ps) ≡ taken_apart c (giving (shares q T n (weights_in s ps)) ps))
          → giving (shares q T k (weights_in s (cond t (elsewhere c ps) (p ∷ elsewhere c ps)))) (cond t (elsewhere c ps) (p ∷ elsewhere c ps))
          ≡ taken_apart c (gives (share q T k w) p (giving (shares q T (k + w) (weights_in s ps)) ps))
      go true e i =
          let z : w ≡ 0 = grind (arith, nat_tests) in
          rw (z, share_none q T k, add-zero, e) (i k)
      go false e i = rw (i (k + w)) (gives_apart (share q T k w) p _ (eqb-false _ _ e))

-- under any rule
pub apart_taken : (c rule : ℕ) (x : Move) (ps : List Piece) → c ≢ x.source → taken rule x (elsewhere c ps) ≡ taken_apart c (taken rule x ps)
unfolding taken
apart_taken c rule x ps apart = rw balance (go (eqb rule stirred_rule) (ltb x.weight (held x.source ps)))
  where
    balance : held x.source (elsewhere c ps) ≡ held x.source ps
    balance = sum_elsewhere c (in_vessel x.source) (λ o b. ne_eqb c x.source apart) ps

    go : (a b : Bool) → cond a (cond b (giving (shares x.weight (held x.source ps) 0 (weights_in x.source (elsewhere c ps))) (elsewhere c ps)) (singly as_received x (elsewhere c ps))) (singly rule x (elsewhere c ps))
        ≡ taken_apart c (cond a (cond b (stirred x ps) (singly as_received x ps)) (singly rule x ps))
    go true true = stirred_same c x.source x.weight (held x.source ps) apart 0 ps
    go true false = apart_singly c as_received x ps apart
    go false b = apart_singly c rule x ps apart

-- and so it is after it was handed over, to another than c
pub apart_handed : (c rule : ℕ) (x : Move) (ps : List Piece) → c ≢ x.source → c ≢ x.destination
    → handed x (taken rule x (elsewhere c ps)) ≡ elsewhere c (handed x (taken rule x ps))
apart_handed c rule x ps apart beside =
    let r = taken rule x ps in
    let far = λ (e : x.destination ≡ c). beside (sym e) in
    let given = all_elsewhere c (handed_away c x.destination far r.given) in
    let born = all_elsewhere c (all_if_any (newborn x r.born) (λ u. far)) in
    ap (handed x) (apart_taken c rule x ps apart) ∙ sym (simp (elsewhere_append, given, born))
