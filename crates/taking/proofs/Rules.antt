-- EACH RULE PICKS ITS PIECE. What is picked is a piece of s that stands there (`picked_there`), and none is picked only
-- where s has none (`none_there`); which of them it is, is said rule by rule (`rule_0` to `rule_3`). The four are
-- instances of one law: the picked piece wins over each piece of s received later, and no piece of s received earlier
-- wins over it.
-- Assumes nothing.
use Rattle.std.proofs.Common.{◌≡◌, refl, sym, ◌≢◌, Bool, true, false, cond, List, [], ◌∷◌, ◌++◌, ℕ, ◌≤◌, ◌<◌, arith, eqb, leb-true, leb-false, ltb-true, ltb-false, true≢false}
use Rattle.std.proofs.lemmas.Grind.{common_steps}
use borrow.Author.Tests.{eqb-false}
use Rattle.table.specs.declared.Piece.{Piece}
use Rattle.table.specs.Pieces.{All, done, also}
use Rattle.table.proofs.Pieces.{all_append, all_map}
use Rattle.taking.specs.Selection.{Found, nothing, at, precedes, wins, behind, against, select}
use Rattle.taking.proofs.Taking.{Good, select_good}

-- The picked piece wins over each piece of s behind it, and no piece of s before it wins over it. If none is picked, s
-- has none.
abbrev pub Best : (Piece → Piece → Bool) → ℕ → List Piece → Found → Type 0
Best better s ps nothing = All (λ r. r.holder ≢ s) ps
Best better s ps (at b p a) = All (λ r. r.holder ≡ s → better r p ≡ false) b × All (λ r. r.holder ≡ s → better p r ≡ true) a

module _ (better : Piece → Piece → Bool) (s : ℕ)
    (over : (p x r : Piece) → better p x ≡ true → better r x ≡ false → better p r ≡ true)
    (trans : (p x r : Piece) → better p x ≡ true → better x r ≡ true → better p r ≡ true) where
  best : (ps : List Piece) → Best better s ps (select better s ps)
  best [] = done
  best (p ∷ ps) = go (eqb p.holder s) refl (select better s ps) (select_good better s ps) (best ps)
    where
      win : (t : Bool) (b : List Piece) (x : Piece) (a : List Piece) → better p x ≡ t → Good s ps (at b x a) → Best better s ps (at b x a)
          → Best better s (p ∷ ps) (cond t (at [] p ps) (at (p ∷ b) x a))
      win true b x a u g h = (done, rw g.0 (all_append (all_map (λ r k v. over p x r u (k v)) h.0) (also (λ v. u) (all_map (λ r k v. trans p x r u (k v)) h.1))))
      win false b x a u g h = (also (λ v. u) h.0, h.1)

      go : (c : Bool) → eqb p.holder s ≡ c → (f : Found) → Good s ps f → Best better s ps f → Best better s (p ∷ ps) (cond c (against better p ps f) (behind p f))
      go true e nothing g h = (done, all_map (λ r n u. absurd (n u)) h)
      go true e (at b x a) g h = win (better p x) b x a refl g h
      go false e nothing g h = also (eqb-false _ _ e) h
      go false e (at b x a) g h = (also (λ v. absurd (eqb-false _ _ e v)) h.0, h.1)

-- Under each rule a piece that wins over another wins over all that lose to it, and so over all that the other wins
-- over.
over : (rule p x r : ℕ) → precedes rule p x ≡ true → precedes rule r x ≡ false → precedes rule p r ≡ true
unfolding precedes
over rule p x r u v = grind (arith, common_steps)

trans : (rule p x r : ℕ) → precedes rule p x ≡ true → precedes rule x r ≡ true → precedes rule p r ≡ true
unfolding precedes
trans rule p x r u v = grind (arith, common_steps)

-- Under each rule; what that is of each of the four follows.
pub picks_best : (rule s : ℕ) (ps : List Piece) → Best (wins rule) s ps (select (wins rule) s ps)
picks_best rule s = best (wins rule) s (λ p x r. over rule p.birth x.birth r.birth) (λ p x r. trans rule p.birth x.birth r.birth)

picks : (rule s : ℕ) (ps b : List Piece) (p : Piece) (a : List Piece) → select (wins rule) s ps ≡ at b p a → Best (wins rule) s ps (at b p a)
picks rule s ps b p a e = rw e at (picks_best rule s ps)

-- the pieces are those before it, the picked one, held by s, and those behind it
pub picked_there : (rule s : ℕ) (ps b : List Piece) (p : Piece) (a : List Piece) → select (wins rule) s ps ≡ at b p a
    → (ps ≡ b ++ (p ∷ a)) × (p.holder ≡ s)
picked_there rule s ps b p a e = rw e at (select_good (wins rule) s ps)

pub none_there : (rule s : ℕ) (ps : List Piece) → select (wins rule) s ps ≡ nothing → All (λ r. r.holder ≢ s) ps
none_there rule s ps e = rw e at (picks_best rule s ps)

-- earliest received; latest received; smallest birth, the earlier on a tie; largest birth, the later on a tie
module _ (s : ℕ) (ps b : List Piece) (p : Piece) (a : List Piece) where
  pub rule_0 : select (wins 0) s ps ≡ at b p a → All (λ r. r.holder ≢ s) b
  unfolding precedes
  rule_0 e = all_map (λ r k u. true≢false (k u)) (picks 0 s ps b p a e).0

  pub rule_1 : select (wins 1) s ps ≡ at b p a → All (λ r. r.holder ≢ s) a
  unfolding precedes
  rule_1 e = all_map (λ r k u. true≢false (sym (k u))) (picks 1 s ps b p a e).1

  pub rule_2 : select (wins 2) s ps ≡ at b p a → All (λ r. r.holder ≡ s → p.birth < r.birth) b × All (λ r. r.holder ≡ s → p.birth ≤ r.birth) a
  unfolding precedes
  rule_2 e = let y = picks 2 s ps b p a e in (all_map (λ r k u. leb-false r.birth p.birth (k u)) y.0, all_map (λ r k u. leb-true p.birth r.birth (k u)) y.1)

  pub rule_3 : select (wins 3) s ps ≡ at b p a → All (λ r. r.holder ≡ s → r.birth ≤ p.birth) b × All (λ r. r.holder ≡ s → r.birth < p.birth) a
  unfolding precedes
  rule_3 e = let y = picks 3 s ps b p a e in (all_map (λ r k u. ltb-false p.birth r.birth (k u)) y.0, all_map (λ r k u. ltb-true r.birth p.birth (k u)) y.1)
