-- Lanes as pieces move. A whole piece that is handed over leaves the front of its source's lane and joins that of its destination (`hop`); a new slot joins one lane
-- (`new_slot`); a piece that is reweighed stays where it is (`reweighed`). All other lanes are as they were. The idea: in the first two one slot is received last, and the pieces in all
-- other slots are as they were, so lanes are those of the other slots but where that slot joins.
-- Assumes nothing.
use Rattle.std.proofs.Common.{◌≡◌, refl, sym, subst, ap, ◌∙◌, ◌≢◌, true, false, cond, List, [], ◌∷◌, ◌++◌, ℕ, ◌<◌, length, set, length-append, eqb, arith, get_or-set_same, get_or-set_other, eqb-true, eq-eqb, ne_eqb, true≢false, ⊎_elim, append_assoc}
use Rattle.std.proofs.lemmas.Bool.{cases_eq}
use Rattle.std.proofs.lemmas.Bool.Decides.{nat_tests}
use mathlib.Core.List.{map-append}
use Rattle.table.specs.declared.Piece.{Piece}
use Rattle.table.specs.Pieces.{no_piece, of_weight, hand_to}
use Rattle.lanes.specs.Order.{at_slot, pieces_at, ahead, join, lane}
use Rattle.lanes.specs.Notes.{has, without, Once}
use Rattle.lanes.proofs.Notes.{has_append, Alone, alone, once_end, once_without}
use Rattle.lanes.proofs.Order.{First, first_picked, ranks, joins, not_ours, same_lane}

pub pieces_append : (ps : List Piece) (q k : List ℕ) → pieces_at ps (q ++ k) ≡ pieces_at ps q ++ pieces_at ps k
pieces_append ps q k = map-append (at_slot ps) q k

-- a slot that is not among others is none of them
apart_from : (x i : ℕ) (q : List ℕ) → has x q ≡ false → has i q ≡ true → i ≢ x
apart_from x i q n h e = true≢false (sym h ∙ ap (λ (j : ℕ). has j q) e ∙ n)

-- The pieces in all slots but x are as they were, and x is not among q.
module _ (ps ps' : List Piece) (x : ℕ) (same : (i : ℕ) → i ≢ x → at_slot ps' i ≡ at_slot ps i) where
  pub lane_kept : (rule : ℕ) (q : List ℕ) → has x q ≡ false → (v : ℕ) → lane rule ps' v q ≡ lane rule ps v q
  lane_kept rule q n v = same_lane rule ps ps' v q
      (λ i h. ap (λ (p : Piece). p.holder) (same i (apart_from x i q n h)))
      (λ i h. ap (λ (p : Piece). p.birth) (same i (apart_from x i q n h)))

  pub pieces_kept : (q : List ℕ) → has x q ≡ false → pieces_at ps' q ≡ pieces_at ps q
  unfolding has
  pieces_kept [] n = refl
  pieces_kept (i ∷ q) n = rw (same i (λ e. true≢false (sym (eq-eqb x i (sym e)) ∙ grind (arith, nat_tests))), pieces_kept q (grind (arith, nat_tests))) refl

  pub lane_behind : (rule : ℕ) (q : List ℕ) → has x q ≡ false → (v : ℕ)
      → lane rule ps' v (q ++ (x ∷ [])) ≡ cond (eqb (at_slot ps' x).holder v) (join (ahead rule ps') x (lane rule ps v q)) (lane rule ps v q)
  lane_behind rule q n v =
      rw (← (lane_kept rule q n v)) (joins (ahead rule ps') (λ i. eqb (at_slot ps' i).holder v) (ranks rule ps') q x)

  pub pieces_behind : (q : List ℕ) → has x q ≡ false → pieces_at ps' (q ++ (x ∷ [])) ≡ pieces_at ps q ++ (at_slot ps' x ∷ [])
  pieces_behind q n = pieces_append ps' q (x ∷ []) ∙ ap (λ (l : List Piece). l ++ (at_slot ps' x ∷ [])) (pieces_kept q n)

-- a piece is written in slot x
module _ (ps : List Piece) (x : ℕ) (p : Piece) where
  pub at_other : (i : ℕ) → i ≢ x → at_slot (set ps x p) i ≡ at_slot ps i
  at_other i ne = get_or-set_other ps x i p no_piece ne

  pub at_same : x < length ps → at_slot (set ps x p) x ≡ p
  at_same h = get_or-set_same ps x p no_piece h

  -- what p has in common with the piece that lay there, every slot has as it was
  pub in_common : (f : Piece → ℕ) → x < length ps → f p ≡ f (at_slot ps x) → (i : ℕ) → f (at_slot (set ps x p) i) ≡ f (at_slot ps i)
  in_common f h q i = ⊎_elim
      (λ e. ap (λ (j : ℕ). f (at_slot (set ps x p) j)) e ∙ ap f (at_same h) ∙ q ∙ ap (λ (j : ℕ). f (at_slot ps j)) (sym e))
      (λ ne. ap f (at_other i ne))
      (cases_eq i x)

-- The whole piece in slot x goes from s to d: pieces by slot ps become ps', the order of receipt r becomes r', and l is what is left of the lane of s.
pub record Hop (rule : ℕ) (ps ps' : List Piece) (r r' : List ℕ) (s d x : ℕ) (l : List ℕ) : Type 0 where
  pub first : First rule ps s r x l
  pub from : lane rule ps' s r' ≡ l
  pub to : lane rule ps' d r' ≡ join (ahead rule ps') x (lane rule ps d r)
  pub others : (v : ℕ) → v ≢ s → v ≢ d → lane rule ps' v r' ≡ lane rule ps v r
  pub pieces : pieces_at ps' r' ≡ pieces_at ps first.before ++ (pieces_at ps first.after ++ (hand_to d (at_slot ps x) ∷ []))
  pub as_many : length r' ≡ length r
  pub same_slots : (i : ℕ) → has i r' ≡ has i r
  pub once : Once r'

pub hop : (rule : ℕ) (ps : List Piece) (r : List ℕ) (s d x : ℕ) (l : List ℕ) → Once r → s ≢ d → x < length ps → lane rule ps s r ≡ x ∷ l
    → Hop rule ps (set ps x (hand_to d (at_slot ps x))) r (without x r ++ (x ∷ [])) s d x l
unfolding has
hop rule ps r s d x l once apart h e = record {
  first = f;
  from = behind s ∙ rw (ne_eqb d s (λ k. apart (sym k))) f.left;
  to = to;
  others = λ v u w. behind v ∙ rw (ne_eqb d v (λ k. w (sym k)), without_it v (λ k. u (sym k))) refl;
  pieces = rw (w, pieces_behind ps ps' x kept (b ++ a) n, pieces_append ps b a, at_same ps x p h) (append_assoc (pieces_at ps b) (pieces_at ps a) (p ∷ []));
  as_many = rw w (simp length-append (omega (arith, simp length-append at (ap length f.lies))));
  same_slots = λ i. rw w (grind (arith, nat_tests, has_append i (b ++ a) (x ∷ []), has_append i b a, has_append i b (x ∷ a))) ∙ sym (ap (has i) f.lies);
  once = once_end (without x r) x (once_without x r once) (ap (has x) w ∙ n);
}
  where
    p : Piece
    p = hand_to d (at_slot ps x)

    ps' : List Piece
    ps' = set ps x p

    f : First rule ps s r x l
    f = first_picked rule ps s r x l e

    b : List ℕ
    b = f.before

    a : List ℕ
    a = f.after

    z : Alone x b a
    z = alone x b a (subst Once f.lies once)

    w : without x r ≡ b ++ a
    w = ap (without x) f.lies ∙ z.others

    n : has x (b ++ a) ≡ false
    n = has_append x b a ∙ rw (z.not_before, z.not_after) refl

    kept : (i : ℕ) → i ≢ x → at_slot ps' i ≡ at_slot ps i
    kept = at_other ps x p

    behind : (v : ℕ) → lane rule ps' v (without x r ++ (x ∷ [])) ≡ cond (eqb d v) (join (ahead rule ps') x (lane rule ps v (b ++ a))) (lane rule ps v (b ++ a))
    behind v = rw w (rw (at_same ps x p h) at (lane_behind ps ps' x kept rule (b ++ a) n v))

    without_it : (v : ℕ) → s ≢ v → lane rule ps v r ≡ lane rule ps v (b ++ a)
    without_it v u = ap (lane rule ps v) f.lies
        ∙ not_ours (ahead rule ps) (λ i. eqb (at_slot ps i).holder v) b x a (ne_eqb (at_slot ps x).holder v (λ k. u (sym (eqb-true (at_slot ps x).holder s f.ours) ∙ k)))

    to : lane rule ps' d (without x r ++ (x ∷ [])) ≡ join (ahead rule ps') x (lane rule ps d r)
    to = behind d ∙ rw (eq-eqb d d refl, without_it d apart) refl

-- Slot n is new, and holds the piece p of holder d.
pub record NewSlot (rule : ℕ) (ps ps' : List Piece) (r r' : List ℕ) (n d : ℕ) (p : Piece) : Type 0 where
  pub to : lane rule ps' d r' ≡ join (ahead rule ps') n (lane rule ps d r)
  pub others : (v : ℕ) → v ≢ d → lane rule ps' v r' ≡ lane rule ps v r
  pub pieces : pieces_at ps' r' ≡ pieces_at ps r ++ (p ∷ [])

pub new_slot : (rule : ℕ) (ps : List Piece) (r : List ℕ) (n d : ℕ) (p : Piece) → has n r ≡ false → n < length ps → p.holder ≡ d
    → NewSlot rule ps (set ps n p) r (r ++ (n ∷ [])) n d p
new_slot rule ps r n d p none h e = record {
  to = to;
  others = λ v u. behind v ∙ rw (ne_eqb p.holder v (λ k. u (sym k ∙ e))) refl;
  pieces = rw (at_same ps n p h) at (pieces_behind ps (set ps n p) n (at_other ps n p) r none);
}
  where
    behind : (v : ℕ) → lane rule (set ps n p) v (r ++ (n ∷ [])) ≡ cond (eqb p.holder v) (join (ahead rule (set ps n p)) n (lane rule ps v r)) (lane rule ps v r)
    behind v = rw (at_same ps n p h) at (lane_behind ps (set ps n p) n (at_other ps n p) rule r none v)

    to : lane rule (set ps n p) d (r ++ (n ∷ [])) ≡ join (ahead rule (set ps n p)) n (lane rule ps d r)
    to = behind d ∙ rw (eq-eqb p.holder d e) refl

-- The piece in slot x, which lies between b and a in the order of receipt r, has another weight.
pub record Reweighed (rule : ℕ) (ps ps' : List Piece) (r b : List ℕ) (x : ℕ) (a : List ℕ) (w : ℕ) : Type 0 where
  pub lanes : (v : ℕ) → lane rule ps' v r ≡ lane rule ps v r
  pub pieces : pieces_at ps' r ≡ pieces_at ps b ++ (of_weight w (at_slot ps x) ∷ pieces_at ps a)

pub reweighed : (rule : ℕ) (ps : List Piece) (r b : List ℕ) (x : ℕ) (a : List ℕ) (w : ℕ) → Once r → r ≡ b ++ (x ∷ a) → x < length ps
    → Reweighed rule ps (set ps x (of_weight w (at_slot ps x))) r b x a w
reweighed rule ps r b x a w once lies h = record {
  lanes = λ v. same_lane rule ps ps' v r (λ i u. in_common ps x p (λ q. q.holder) h refl i) (λ i u. in_common ps x p (λ q. q.birth) h refl i);
  pieces = ap (pieces_at ps') lies ∙ pieces_append ps' b (x ∷ a)
      ∙ rw (at_same ps x p h, pieces_kept ps ps' x (at_other ps x p) b z.not_before, pieces_kept ps ps' x (at_other ps x p) a z.not_after) refl;
}
  where
    p : Piece
    p = of_weight w (at_slot ps x)

    ps' : List Piece
    ps' = set ps x p

    z : Alone x b a
    z = alone x b a (subst Once lies once)
