-- The pieces after what was taken is handed over: sums, their number, and what holds of each. Of any fair taking.
-- Assumes nothing.
use Rattle.std.proofs.Common.{◌≡◌, refl, sym, ap, ◌≢◌, append-nil, ◌&&◌, List, [], ◌∷◌, map, ℕ, ◌+◌, ◌-◌, ◌≤◌, min, arith, eqb, length, length-append}
use lib.ListN.{length-map}
use Rattle.table.specs.declared.Piece.{Piece}
use Rattle.table.specs.Pieces.{hand_to, only, sum, in_vessel, born_at, held, weight_of, All, done, also}
use Rattle.table.proofs.Pieces.{total_append, only_add, only_zero, sum_if_any, length_if_any, all_append, all_map, all_if_any}
use Rattle.taking.specs.declared.Move.{Move}
use Rattle.taking.specs.Sweeping.{held_by}
use Rattle.taking.specs.Taken.{Taken}
use Rattle.taking.specs.Taking.{newborn, handed}
use Rattle.taking.proofs.HeldBy.{held_by_append, none_of_it}
use Rattle.taking.proofs.Taking.{Reweigh, Fair}

held_handed : (v d : ℕ) (ps : List Piece) → held v (map (hand_to d) ps) ≡ only (eqb d v) (weight_of ps)
held_handed v d [] = sym (only_zero (eqb d v))
held_handed v d (p ∷ ps) = rw only_add (omega (arith, held_handed v d ps))

births_handed : (o t d : ℕ) (ps : List Piece) → sum (born_at o t) (map (hand_to d) ps) ≡ sum (born_at o t) ps
births_handed o t d [] = refl
births_handed o t d (p ∷ ps) = omega (arith, births_handed o t d ps)

held_own : (v s : ℕ) {P : Piece → Type 0} {ps : List Piece} → All (λ p. (p.holder ≡ s) × P p) ps → held v ps ≡ only (eqb s v) (weight_of ps)
held_own v s done = sym (only_zero (eqb s v))
held_own v s (also h x) = rw (h.0, only_add) (omega (arith, held_own v s x))

all_hand : (P Q : Piece → Type 0) {s d : ℕ} → ((p : Piece) → p.holder ≡ s → P p → Q (hand_to d p)) → {ps : List Piece}
    → All (λ p. (p.holder ≡ s) × P p) ps → All Q (map (hand_to d) ps)
all_hand P Q hand done = done
all_hand P Q hand (also h x) = also (hand _ h.0 h.1) (all_hand P Q hand x)

-- what is handed to another is not held by c
pub handed_away : (c d : ℕ) → d ≢ c → (ps : List Piece) → All (λ p. p.holder ≢ c) (map (hand_to d) ps)
handed_away c d ne [] = done
handed_away c d ne (p ∷ ps) = also ne (handed_away c d ne ps)

all_trivial : (ps : List Piece) → All (λ p. Unit {0}) ps
all_trivial [] = done
all_trivial (p ∷ ps) = also tt (all_trivial ps)

module _ (x : Move) (ps : List Piece) (r : Taken) (l : Fair x.source x.weight ps r) where
  pub handed_length : length (handed x r) ≡ length ps + (r.split + min 1 r.born)
  handed_length = simp (length-append, length-map, length_if_any) (omega (arith, l.longer))

  pub handed_births : (o t : ℕ) → sum (born_at o t) (handed x r)
      ≡ sum (born_at o t) ps + only (eqb x.source o && eqb x.birth t) (x.weight - held x.source ps)
  handed_births o t = simp (total_append, sum_if_any, births_handed, ← l.born_is) (omega (arith, l.parts (born_at o t)))

  pub handed_held : (v : ℕ) → held v (handed x r)
      ≡ (held v ps - only (eqb x.source v) (x.weight - (x.weight - held x.source ps))) + only (eqb x.destination v) x.weight
  handed_held v =
      let g : x.weight - (x.weight - held x.source ps) ≡ weight_of r.given = omega (arith, l.makes_up, l.born_is) in
      simp (total_append, sum_if_any, held_handed) (rw g (omega (
        arith,
        l.parts (in_vessel v),
        held_own v x.source (l.keeps (λ p. Unit) (λ p w u q. tt) (all_trivial ps)).1,
        only_add (eqb x.destination v) (weight_of r.given) r.born,
        ap (only (eqb x.destination v)) l.makes_up,
      )))

  -- what neither source nor destination holds stays as it lay
  pub handed_others : (c : ℕ) → c ≢ x.source → c ≢ x.destination → held_by c (handed x r) ≡ held_by c ps
  handed_others c apart beside =
      let far = λ (e : x.destination ≡ c). beside (sym e) in
      let given = none_of_it c (handed_away c x.destination far r.given) in
      let born = none_of_it c (all_if_any (newborn x r.born) (λ u. far)) in
      simp (held_by_append, given, born, append-nil) (l.others c apart)

  -- P before gives Q afterwards
  pub handed_all : (P Q : Piece → Type 0) → Reweigh P → ((p : Piece) → P p → Q p)
      → ((p : Piece) → p.holder ≡ x.source → P p → Q (hand_to x.destination p))
      → (1 ≤ r.born → Q (newborn x r.born)) → All P ps → All Q (handed x r)
  handed_all P Q c stay hand n h =
      let y = l.keeps P c h in
      all_append (all_map stay y.0) (all_append (all_hand P Q hand y.1) (all_if_any _ n))
