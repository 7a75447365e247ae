-- What a taking that picks one piece after the other leaves, shown once, over any selection that picks a piece of the source while there is one: it is fair
-- (nothing is lost, the given pieces and what is born make up the weight wanted, and what others hold stays in its order), and at most one piece more comes
-- of it. `singly_law` says it of the four first rules. What a fair taking keeps is shown in Handed.antt, and that every rule is fair in Stirring.antt.
-- Assumes nothing.
use Rattle.std.proofs.Common.{◌≡◌, refl, sym, ap, ◌∙◌, ◌≢◌, Bool, true, false, cond, List, [], ◌∷◌, ◌++◌, ℕ, zero, suc, ◌+◌, ◌-◌, ◌≤◌, min, arith, leb, eqb, length, length-append, leb-true, leb-false, eqb-true, eq-eqb}
use Rattle.std.proofs.lemmas.Grind.{common_steps}
use borrow.Author.Tests.{eqb-false}
use Rattle.table.specs.declared.Piece.{Piece}
use Rattle.table.specs.Pieces.{of_weight, Kind, weigh, sum, in_vessel, held, weight_of, All, done, also}
use Rattle.table.proofs.Pieces.{total_append, in_two, all_append, all_split, all_head, all_tail}
use Rattle.taking.proofs.HeldBy.{held_by_append, passed_over}
use Rattle.taking.specs.Selection.{Found, nothing, at, behind, against, select, wins}
use Rattle.taking.specs.declared.Move.{Move}
use Rattle.taking.specs.Sweeping.{held_by}
use Rattle.taking.specs.Taken.{Taken, stop}
use Rattle.taking.specs.Taking.{take_from, take_found, take_next, take_up_to, singly}

-- What a selection for vessel s owes: a piece of s where it stands, or nothing where s holds no weight.
abbrev pub Good : ℕ → List Piece → Found → Type 0
Good s ps nothing = held s ps ≡ 0
Good s ps (at b p a) = (ps ≡ b ++ (p ∷ a)) × (p.holder ≡ s)

pub select_good : (better : Piece → Piece → Bool) (s : ℕ) (ps : List Piece) → Good s ps (select better s ps)
select_good better s [] = refl
select_good better s (p ∷ ps) = go (select better s ps) (select_good better s ps)
  where
    go : (f : Found) → Good s ps f → Good s (p ∷ ps) (cond (eqb p.holder s) (against better p ps f) (behind p f))
    go nothing g = grind (arith, common_steps)
    go (at b x a) g = grind (arith, common_steps)

-- A property that does not turn on the weight, if there is some.
abbrev pub Reweigh {ℓ} : (Piece → Type ℓ) → Type ℓ
Reweigh P = (p : Piece) (w : ℕ) → 1 ≤ w → P p → P (of_weight w p)

-- A fair taking of `want` from s: every sum is kept, the weight wanted is given or born, s gives before anything is born,
-- each split is a piece more, what held of every piece still holds of those that stay and of those given, which were held by s, and
-- what another holds stays as it is, in its order.
pub record Fair (s want : ℕ) (ps : List Piece) (r : Taken) : Type 1 where
  pub parts : (k : Kind) → sum k r.rest + sum k r.given ≡ sum k ps
  pub makes_up : weight_of r.given + r.born ≡ want
  pub born_is : r.born ≡ want - held s ps
  pub longer : length r.rest + length r.given ≡ length ps + r.split
  pub keeps : (P : Piece → Type 0) → Reweigh P → All P ps → All P r.rest × All (λ p. (p.holder ≡ s) × P p) r.given
  pub others : (c : ℕ) → c ≢ s → held_by c r.rest ≡ held_by c ps

-- Under a rule that picks one piece after the other there is at most one split or birth, and a split only where s holds more than is wanted.
pub record Law (s want : ℕ) (ps : List Piece) (r : Taken) : Type 1 where
  pub fair : Fair s want ps r
  pub one_more : r.split + min 1 r.born ≤ 1
  pub left_over : r.split ≤ held s ps - want
  pub counted : length r.given ≡ r.whole + r.split

module _ (s : ℕ) where
  ours : (p : Piece) → p.holder ≡ s → weigh (in_vessel s) p ≡ p.weight
  ours p e = rw (eq-eqb p.holder s e)

  law_stop : (want : ℕ) (ps : List Piece) → want ≡ want - held s ps → Law s want ps (stop want ps)
  law_stop want ps h = record {
    fair = record { parts = λ k. omega arith; makes_up = omega arith; born_is = h; longer = omega arith; keeps = λ P c x. (x, done); others = λ c ne. refl };
    one_more = omega arith;
    left_over = omega arith;
    counted = omega arith;
  }

  law_from : (more : ℕ → List Piece → Taken) (want : ℕ) (b : List Piece) (p : Piece) (a : List Piece) → p.holder ≡ s → 1 ≤ want
      → (t : Bool) → leb p.weight want ≡ t → Law s (want - p.weight) (b ++ a) (more (want - p.weight) (b ++ a)) → Law s want (b ++ (p ∷ a)) (take_from more want b p a t)
  law_from more want b p a hp some true e l =
      let h = leb-true p.weight want e in
      let f = l.fair in
      record {
        fair = record {
          parts = λ k. simp total_append (omega (arith, simp total_append at (f.parts k)));
          makes_up = omega (arith, f.makes_up);
          born_is = simp total_append (omega (arith, simp total_append at f.born_is, ours p hp));
          longer = simp length-append (omega (arith, simp length-append at f.longer));
          keeps = λ P c x.
              let y = all_split b (p ∷ a) x in
              let z = f.keeps P c (all_append y.0 (all_tail y.1)) in
              (z.0, also (hp, all_head y.1) z.1);
          others = λ c ne. simp held_by_append (simp held_by_append at (f.others c ne) ∙ ap (λ l. held_by c b ++ l) (sym (passed_over c p a (λ u. ne (sym u ∙ hp)))));
        };
        one_more = l.one_more;
        counted = omega (arith, l.counted);
        left_over = simp total_append (omega (arith, simp total_append at l.left_over, ours p hp));
      }
  law_from more want b p a hp some false e l =
      let h = leb-false p.weight want e in
      record {
        fair = record {
          parts = λ k. simp total_append (omega (arith, in_two k p (p.weight - want) want (omega arith)));
          makes_up = omega arith;
          born_is = simp total_append (omega (arith, ours p hp));
          longer = simp length-append (omega arith);
          keeps = λ P c x.
              let y = all_split b (p ∷ a) x in
              (all_append y.0 (also (c p _ (omega arith) (all_head y.1)) (all_tail y.1)), also (hp, c p want some (all_head y.1)) done);
          others = λ c ne.
              let y = λ (w : ℕ). passed_over c (of_weight w p) a (λ u. ne (sym u ∙ hp)) in
              simp held_by_append (ap (λ l. held_by c b ++ l) (y (p.weight - want) ∙ sym (y p.weight)));
        };
        one_more = omega arith;
        counted = omega arith;
        left_over = simp total_append (omega (arith, ours p hp));
      }

  law_found : (n : ℕ) (more : ℕ → List Piece → Taken) → ((k : ℕ) (qs : List Piece) → length qs ≤ n → Law s k qs (more k qs))
      → (want : ℕ) (ps : List Piece) → length ps ≤ suc n → 1 ≤ want → (f : Found) → Good s ps f → Law s want ps (take_found more want ps f)
  law_found n more l want ps c some nothing g = law_stop want ps (omega arith)
  law_found n more l want ps c some (at b p a) g =
      rw g.0 (law_from more want b p a g.1 some (leb p.weight want) refl (l _ _ (simp length-append (omega (arith, simp length-append at (rw g.0 at c))))))

  pub law : (pick : List Piece → Found) → ((ps : List Piece) → Good s ps (pick ps))
      → (n want : ℕ) (ps : List Piece) → length ps ≤ n → Law s want ps (take_up_to pick n want ps)
  unfolding take_up_to
  law pick good zero want [] c = law_stop want [] (omega arith)
  law pick good zero want (p ∷ ps) c = absurd (omega arith)
  law pick good (suc n) want ps c = go (eqb want 0) refl (law pick good n)
    where
      go : (t : Bool) → eqb want 0 ≡ t → ((k : ℕ) (qs : List Piece) → length qs ≤ n → Law s k qs (take_up_to pick n k qs)) → Law s want ps (take_next pick (take_up_to pick n) want ps t)
      go true e l = let z : want ≡ 0 = eqb-true _ _ e in law_stop want ps (omega arith)
      go false e l = let z : want ≢ 0 = eqb-false _ _ e in law_found n (take_up_to pick n) l want ps c (omega arith) (pick ps) (good ps)

-- What the four first rules take.
pub singly_law : (rule : ℕ) (x : Move) (ps : List Piece) → Law x.source x.weight ps (singly rule x ps)
singly_law rule x ps = law x.source _ (select_good (wins rule) x.source) (length ps) x.weight ps (omega arith)
