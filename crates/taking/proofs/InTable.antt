-- A transfer in document 01's own words, where each picked piece joins the end at once, leaves the same pieces and says the same
-- as taking first and handing over later. What was moved already lies behind, held by d, and is never picked again.
-- Assumes nothing.
use Rattle.std.proofs.Common.{◌≡◌, refl, ap, ◌≢◌, Bool, true, false, cond, List, [], ◌∷◌, ◌++◌, map, append_assoc, append-nil, ℕ, zero, suc, ◌-◌, leb, eqb, length, ne_eqb, arith}
use Rattle.std.proofs.lemmas.Grind.{common_steps}
use Rattle.table.specs.declared.Piece.{Piece}
use Rattle.table.specs.Pieces.{hand_to, All, done, also}
use Rattle.table.proofs.Pieces.{all_append}
use Rattle.taking.specs.Selection.{Found, nothing, at, wins, behind, against, select}
use Rattle.taking.specs.declared.Move.{Move}
use Rattle.taking.specs.Taken.{Taken}
use Rattle.taking.specs.Stirring.{stirred_rule}
use Rattle.taking.specs.Taking.{take_from, take_found, take_next, take_up_to, taken, handed}
use Rattle.taking.proofs.Stirring.{taken_singly}
use Rattle.taking.specs.InTable.{Moved, with_one_more, move_from, move_found, move_next, move_up_to, in_table}

-- pieces of others behind do not matter to the selection
abbrev with_end : Found → List Piece → Found
with_end nothing qs = nothing
with_end (at b p a) qs = at b p (a ++ qs)

module _ (better : Piece → Piece → Bool) (s : ℕ) where
  select_others : (qs : List Piece) → All (λ r. r.holder ≢ s) qs → select better s qs ≡ nothing
  select_others [] h = refl
  select_others (q ∷ qs) (also h x) = rw (ne_eqb q.holder s h, select_others qs x)

  select_append : (ps qs : List Piece) → All (λ r. r.holder ≢ s) qs → select better s (ps ++ qs) ≡ with_end (select better s ps) qs
  select_append [] qs h = select_others qs h
  select_append (p ∷ ps) qs h = rw (select_append ps qs h) (go (eqb p.holder s) (select better s ps))
    where
      go : (c : Bool) (f : Found) → cond c (against better p (ps ++ qs) (with_end f qs)) (behind p (with_end f qs)) ≡ with_end (cond c (against better p ps f) (behind p f)) qs
      go c nothing = grind (arith, common_steps)
      go c (at b x a) = grind (arith, common_steps)

  -- what was taken, as the table has it, with qs, moved before, behind what stays
  abbrev tabled : ℕ → List Piece → Taken → Moved
  tabled d qs r = record { pieces = r.rest ++ (qs ++ map (hand_to d) r.given); whole = r.whole; split = r.split; missing = r.born }

  module _ (d : ℕ) (apart : d ≢ s) where
    abbrev Same : ℕ → Type 0
    Same n = (want : ℕ) (ps qs : List Piece) → All (λ r. r.holder ≢ s) qs
        → move_up_to (select better s) d n want (ps ++ qs) ≡ tabled d qs (take_up_to (select better s) n want ps)

    same : (n : ℕ) → Same n
    unfolding move_up_to take_up_to
    same zero want ps qs h = rw append-nil
    same (suc n) want ps qs h = next (eqb want 0) (same n)
      where
        found : (f : Found) → Same n → move_found (move_up_to (select better s) d n) d want (ps ++ qs) (with_end f qs) ≡ tabled d qs (take_found (take_up_to (select better s) n) want ps f)
        found nothing i = rw append-nil
        found (at b p a) i = weighs (leb p.weight want)
          where
            weighs : (t : Bool) → move_from (move_up_to (select better s) d n) d want b p (a ++ qs) t ≡ tabled d qs (take_from (take_up_to (select better s) n) want b p a t)
            weighs true = simp append_assoc (ap with_one_more (simp append_assoc at (i (want - p.weight) (b ++ a) (qs ++ (hand_to d p ∷ [])) (all_append h (also apart done)))))
            weighs false = simp append_assoc

        next : (t : Bool) → Same n → move_next (select better s) (move_up_to (select better s) d n) d want (ps ++ qs) t ≡ tabled d qs (take_next (select better s) (take_up_to (select better s) n) want ps t)
        next true i = rw append-nil
        next false i = rw (select_append ps qs h) (found (select better s ps) i)

-- The theorem: document 01's wording of the four first rules, and what the proofs use.
pub taken_in_table : (rule : ℕ) (x : Move) (ps : List Piece) → rule ≢ stirred_rule → x.destination ≢ x.source
    → let r = taken rule x ps in in_table rule x ps ≡ record { pieces = handed x r; whole = r.whole; split = r.split; missing = r.born }
unfolding in_table
taken_in_table rule x ps first apart =
    rw (taken_singly rule x ps first, simp append-nil at (same (wins rule) x.source x.destination apart (length ps) x.weight ps [] done)) (simp append_assoc)
