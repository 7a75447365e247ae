-- Rule 0, asked for all that the source holds, or for more, sweeps it, and what it lacks is born. It picks the first piece of the source. The whole balance is
-- wanted, so no piece is heavier than what is still wanted: each goes whole, and it ends when none is left, with nothing split.
-- And what was handed over and is then swept and handed on lies as if it had been handed there at once: it lies last, and in its order.
-- Assumes nothing.
use Rattle.std.proofs.Common.{◌∙◌, ◌≡◌, refl, ap, ◌≢◌, Bool, true, false, List, [], ◌∷◌, ◌++◌, map, append-nil, ℕ, zero, suc, ◌+◌, ◌-◌, ◌≤◌, arith, leb, eqb, length, length-append, eqb-true, eq-eqb, le-leb}
use Rattle.std.proofs.lemmas.Grind.{common_steps}
use native.Mathlib.Nat.{sub-zero}
use mathlib.Core.List.{map-append, map-map}
use Rattle.table.specs.declared.Piece.{Piece}
use Rattle.table.specs.Pieces.{hand_to, if_any, held, All, done, also}
use Rattle.table.proofs.Pieces.{total_append, all_append, all_split, all_tail, all_if_any}
use Rattle.taking.specs.Selection.{Found, nothing, at, wins, select}
use Rattle.taking.specs.declared.Move.{Move}
use Rattle.taking.specs.Stirring.{stirred_rule}
use Rattle.taking.specs.Taken.{Taken, stop, one_whole}
use Rattle.taking.specs.Taking.{take_from, take_found, take_next, take_up_to, taken, newborn, handed}
use Rattle.taking.specs.Sweeping.{held_by, elsewhere, swept}
use Rattle.taking.proofs.HeldBy.{held_by_append, none_of_it, elsewhere_append, all_elsewhere}
use Rattle.taking.proofs.Taking.{Good, select_good}
use Rattle.taking.proofs.Stirring.{taken_out}
use Rattle.taking.proofs.Rules.{rule_0}

module _ (s : ℕ) where
  -- the pieces of others in front are passed over
  past : (b a : List Piece) → All (λ p. p.holder ≢ s) b → (elsewhere s (b ++ a) ≡ b ++ elsewhere s a) × (held_by s (b ++ a) ≡ held_by s a)
  past b a h = (rw (elsewhere_append s b a, all_elsewhere s h) refl, rw (held_by_append s b a, none_of_it s h) refl)

  -- s has no piece; s has every piece
  swept_none : (born : ℕ) (ps : List Piece) → All (λ p. p.holder ≢ s) ps → swept born s ps ≡ stop born ps
  unfolding held_by elsewhere
  swept_none born ps h = let y = simp append-nil at (past ps [] h) in rw (y.0, y.1)

  swept_all : (ps : List Piece) → All (λ p. p.holder ≡ s) ps → (elsewhere s ps ≡ []) × (held_by s ps ≡ ps)
  unfolding held_by elsewhere
  swept_all [] h = (refl, refl)
  swept_all (p ∷ ps) (also h x) = let y = swept_all ps x in rw (eq-eqb p.holder s h) (y.0, ap (λ l. p ∷ l) y.1)

  -- p is the first piece of s: it is given, and then the others are
  first : (born : ℕ) (b : List Piece) (p : Piece) (a : List Piece) → All (λ r. r.holder ≢ s) b → p.holder ≡ s → one_whole p (swept born s (b ++ a)) ≡ swept born s (b ++ (p ∷ a))
  unfolding held_by elsewhere
  first born b p a h e =
      let y = past b a h in
      let z = rw (eq-eqb p.holder s e) at (past b (p ∷ a) h) in
      rw (y.0, y.1, z.0, z.1)

  -- where every piece weighs something, no weight is no piece
  pub none_held : (ps : List Piece) → All (λ p. 1 ≤ p.weight) ps → held s ps ≡ 0 → All (λ p. p.holder ≢ s) ps
  none_held [] h e = done
  none_held (p ∷ ps) (also h x) e = also (λ (u : p.holder ≡ s). absurd (omega (arith, rw (eq-eqb p.holder s u) at e))) (none_held ps x (omega arith))

  -- s has nothing
  ended : (want : ℕ) (ps : List Piece) → All (λ p. 1 ≤ p.weight) ps → held s ps ≡ 0 → stop want ps ≡ swept (want - held s ps) s ps
  ended want ps h z = rw (swept_none (want - held s ps) ps (none_held ps h z), z, sub-zero) refl

  -- with at most n pieces
  abbrev Sweeps : ℕ → Type 0
  Sweeps n = (want : ℕ) (ps : List Piece) → length ps ≤ n → All (λ p. 1 ≤ p.weight) ps → held s ps ≤ want
      → take_up_to (select (wins 0) s) n want ps ≡ swept (want - held s ps) s ps

  -- the first piece of s goes whole, and what is still wanted is no less than s holds then
  goes : (n : ℕ) → Sweeps n → (want : ℕ) (b : List Piece) (p : Piece) (a : List Piece) → All (λ r. r.holder ≢ s) b → p.holder ≡ s
      → length (b ++ (p ∷ a)) ≤ suc n → All (λ r. 1 ≤ r.weight) (b ++ (p ∷ a)) → held s (b ++ (p ∷ a)) ≤ want
      → take_from (take_up_to (select (wins 0) s) n) want b p a (leb p.weight want) ≡ swept (want - held s (b ++ (p ∷ a))) s (b ++ (p ∷ a))
  goes n i want b p a others ours c h e =
      let y = all_split b (p ∷ a) h in
      let w : held s b + (p.weight + held s a) ≤ want = simp (total_append, eq-eqb p.holder s ours) at e in
      let lacks : want - p.weight - held s (b ++ a) ≡ want - held s (b ++ (p ∷ a)) = simp (total_append, eq-eqb p.holder s ours) (omega arith) in
      let l = i (want - p.weight) (b ++ a) (simp length-append (omega (arith, simp length-append at c))) (all_append y.0 (all_tail y.1)) (simp total_append (omega arith)) in
      rw (le-leb p.weight want (omega arith), l, lacks) (first _ b p a others ours)

  by_rule_0 : (n : ℕ) → Sweeps n
  unfolding take_up_to
  by_rule_0 zero want [] c h e = ended want [] h refl
  by_rule_0 zero want (p ∷ ps) c h e = absurd (omega arith)
  by_rule_0 (suc n) want ps c h e = next (eqb want 0) refl (by_rule_0 n)
    where
      found : (f : Found) → select (wins 0) s ps ≡ f → Good s ps f → Sweeps n → take_found (take_up_to (select (wins 0) s) n) want ps f ≡ swept (want - held s ps) s ps
      found nothing u g i = ended want ps h g
      found (at b p a) u g i = rw g.0 (goes n i want b p a (rule_0 s ps b p a u) g.1 (rw g.0 at c) (rw g.0 at h) (rw g.0 at e))

      next : (t : Bool) → eqb want 0 ≡ t → Sweeps n → take_next (select (wins 0) s) (take_up_to (select (wins 0) s) n) want ps t ≡ swept (want - held s ps) s ps
      next true u i = let z : want ≡ 0 = eqb-true want 0 u in ended want ps h (omega arith)
      next false u i = found (select (wins 0) s ps) refl (select_good (wins 0) s ps) i

-- rule 0, asked for no less than the source holds, sweeps it
pub sweeps : (x : Move) (ps : List Piece) → All (λ p. 1 ≤ p.weight) ps → held x.source ps ≤ x.weight → taken 0 x ps ≡ swept (x.weight - held x.source ps) x.source ps
unfolding taken
sweeps x ps h e = by_rule_0 x.source (length ps) x.weight ps (omega arith) h e

-- and asked for just that, with nothing born
pub swept_whole : (x : Move) (ps : List Piece) → All (λ p. 1 ≤ p.weight) ps → x.weight ≡ held x.source ps → taken 0 x ps ≡ swept 0 x.source ps
swept_whole x ps h e = sweeps x ps h (omega arith) ∙ ap (λ (born : ℕ). swept born x.source ps) (omega arith)

-- "With q ≥ T all moves, in order of receipt, and the rest is born": of a stirred vessel.
pub stirred_out : (x : Move) (ps : List Piece) → All (λ p. 1 ≤ p.weight) ps → held x.source ps ≤ x.weight
    → taken stirred_rule x ps ≡ swept (x.weight - held x.source ps) x.source ps
unfolding taken
stirred_out x ps h all = taken_out x ps all ∙ sweeps x ps h all

-- all that is handed to c is held by c
all_handed : (c : ℕ) (ps : List Piece) → All (λ p. p.holder ≡ c) (map (hand_to c) ps)
all_handed c [] = done
all_handed c (p ∷ ps) = also refl (all_handed c ps)

if_any_handed : (d : ℕ) (p : Piece) → map (hand_to d) (if_any p) ≡ if_any (hand_to d p)
if_any_handed d p = grind (arith, common_steps)

-- What was handed to c and is then swept from c and handed to d is what would have been handed to d at once.
-- x hands to c, y hands on from c, z is x with y's destination.
pub passed_on : (x y z : Move) (r : Taken) → All (λ p. p.holder ≢ x.destination) r.rest → y.source ≡ x.destination
    → z.destination ≡ y.destination → z.source ≡ x.source → z.birth ≡ x.birth
    → handed y (swept 0 y.source (handed x r)) ≡ handed z r
passed_on x y z r h from to source birth =
    let on = map (hand_to x.destination) r.given ++ if_any (newborn x r.born) in
    let p = past x.destination r.rest on h in
    let a = swept_all x.destination on (all_append (all_handed x.destination r.given) (all_if_any (newborn x r.born) (λ u. refl))) in
    rw (from, p.0, p.1, a.0, a.1, to, source, birth) (simp (append-nil, map-append, map-map, if_any_handed))
