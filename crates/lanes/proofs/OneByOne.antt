-- A move by lanes, one piece after the other, where each picked piece joins the end at once and pieces lie in slots. While the first of the source's lane is no
-- heavier than what is left to move it goes whole (`goes_whole`), a heavier one is cut (`cut`), and nothing moves where the lane is empty (`none_left`) or nothing is
-- wanted (`none_wanted`). The invariant of a loop that does so: what a move from here on does, with the pieces that have gone whole, is what the whole move does (`Goes`).
-- Where the loop ends, its pieces are those after the move (`Ended`).
-- Assumes nothing.
use Rattle.std.proofs.Common.{◌≡◌, refl, sym, ap, ◌∙◌, ◌≢◌, Bool, true, false, List, [], ◌∷◌, ◌++◌, ℕ, zero, suc, ◌+◌, ◌-◌, ◌≤◌, ◌<◌, arith, leb, eqb, length, set, length-set, ne_eqb, append_assoc, append-nil, zero-add, add-zero}
use borrow.Author.Tests.{le-leb, lt-leb}
use Rattle.table.specs.declared.Piece.{Piece}
use Rattle.table.specs.Pieces.{of_weight, hand_to, if_any}
use Rattle.taking.specs.declared.Move.{Move}
use Rattle.taking.specs.Selection.{Found, wins, select}
use Rattle.taking.specs.Stirring.{stirred_rule}
use Rattle.taking.specs.Taken.{Taken}
use Rattle.taking.specs.Taking.{newborn, taken, handed}
use Rattle.taking.specs.InTable.{Moved, stopped, with_one_more, move_from, move_next, move_up_to, in_table}
use Rattle.taking.proofs.InTable.{taken_in_table}
use Rattle.lanes.specs.Order.{at_slot, pieces_at, ahead, join, lane}
use Rattle.lanes.specs.Walk.{after, Goes}
use Rattle.lanes.specs.Moving.{cut_off}
use Rattle.lanes.specs.Notes.{has, without, Once}
use Rattle.lanes.proofs.Order.{First, none_picked, first_picked}
use Rattle.lanes.proofs.Hops.{hop, NewSlot, new_slot, Reweighed, reweighed}
use Rattle.lanes.proofs.Walk.{few_in_lane}

-- nothing is wanted
pub none_wanted : (pick : List Piece → Found) (d n want : ℕ) (qs : List Piece) → want ≡ 0 → move_up_to pick d n want qs ≡ stopped want qs
unfolding move_up_to
none_wanted pick d zero want qs e = refl
none_wanted pick d (suc n) want qs e = rw e refl

-- the slots once the piece in slot x is handed over, and the order of receipt
abbrev pub hopped : ℕ → ℕ → List Piece → List Piece
hopped d x ps = set ps x (hand_to d (at_slot ps x))

abbrev pub last_of : ℕ → List ℕ → List ℕ
last_of x r = without x r ++ (x ∷ [])

-- The piece in slot x is cut, and the new slot k is received: what the move did, and the lanes.
pub record Cut (rule : ℕ) (ps ps' : List Piece) (r r' : List ℕ) (s d k want : ℕ) : Type 0 where
  pub moves : (n : ℕ) → move_up_to (select (wins rule) s) d (suc n) want (pieces_at ps r) ≡ record { pieces = pieces_at ps' r'; whole = 0; split = 1; missing = 0 }
  pub to : lane rule ps' d r' ≡ join (ahead rule ps') k (lane rule ps d r)
  pub others : (v : ℕ) → v ≢ d → lane rule ps' v r' ≡ lane rule ps v r

module _ (rule : ℕ) (ps : List Piece) (r : List ℕ) (s d : ℕ) where
  -- the lane is empty
  pub none_left : lane rule ps s r ≡ [] → (n want : ℕ) → move_up_to (select (wins rule) s) d n want (pieces_at ps r) ≡ stopped want (pieces_at ps r)
  unfolding move_up_to
  none_left e zero want = refl
  none_left e (suc n) want = go (eqb want 0)
    where
      go : (c : Bool) → move_next (select (wins rule) s) (move_up_to (select (wins rule) s) d n) d want (pieces_at ps r) c ≡ stopped want (pieces_at ps r)
      go true = refl
      go false = rw (none_picked rule ps s r e) refl

  -- the first of the lane is x
  module _ (x : ℕ) (l : List ℕ) (once : Once r) (inside : x < length ps) (e : lane rule ps s r ≡ x ∷ l) (want : ℕ) (some : want ≢ 0) where
    picked_is : (f : First rule ps s r x l) (n : ℕ) → move_up_to (select (wins rule) s) d (suc n) want (pieces_at ps r)
        ≡ move_from (move_up_to (select (wins rule) s) d n) d want (pieces_at ps f.before) (at_slot ps x) (pieces_at ps f.after) (leb (at_slot ps x).weight want)
    unfolding move_up_to
    picked_is f n = rw (ne_eqb want 0 some, f.found) refl

    pub goes_whole : s ≢ d → leb (at_slot ps x).weight want ≡ true → (n : ℕ) → move_up_to (select (wins rule) s) d (suc n) want (pieces_at ps r)
        ≡ with_one_more (move_up_to (select (wins rule) s) d n (want - (at_slot ps x).weight) (pieces_at (hopped d x ps) (last_of x r)))
    goes_whole apart light n =
        let h = hop rule ps r s d x l once apart inside e in
        picked_is h.first n ∙ rw light (ap (λ (qs : List Piece). with_one_more (move_up_to (select (wins rule) s) d n (want - (at_slot ps x).weight) qs)) (sym h.pieces))

    pub cut : leb (at_slot ps x).weight want ≡ false → (k : ℕ) → has k r ≡ false → k < length ps → Cut rule ps (cut_off d x k want ps) r (r ++ (k ∷ [])) s d k want
    cut heavy k new there = record {
      moves = λ n. picked_is f n ∙ rw heavy (ap (λ (qs : List Piece). record { pieces = qs; whole = 0; split = 1; missing = 0 }) (sym (slot.pieces
          ∙ ap (λ (qs : List Piece). qs ++ (hand_to d (of_weight want (at_slot ps x)) ∷ [])) less.pieces
          ∙ append_assoc (pieces_at ps f.before) (of_weight ((at_slot ps x).weight - want) (at_slot ps x) ∷ pieces_at ps f.after) (hand_to d (of_weight want (at_slot ps x)) ∷ []))));
      to = slot.to ∙ ap (join (ahead rule (cut_off d x k want ps)) k) (less.lanes d);
      others = λ v u. slot.others v u ∙ less.lanes v;
    }
      where
        f : First rule ps s r x l
        f = first_picked rule ps s r x l e

        ps' : List Piece
        ps' = set ps x (of_weight ((at_slot ps x).weight - want) (at_slot ps x))

        less : Reweighed rule ps ps' r f.before x f.after ((at_slot ps x).weight - want)
        less = reweighed rule ps r f.before x f.after ((at_slot ps x).weight - want) once f.lies inside

        slot : NewSlot rule ps' (cut_off d x k want ps) r (r ++ (k ∷ [])) k d (hand_to d (of_weight want (at_slot ps x)))
        slot = new_slot rule ps' r k d (hand_to d (of_weight want (at_slot ps x))) new (rw length-set there) refl

-- what is moved after so many pieces have gone whole
-- These are the pieces after the move, and so much it did.
pub record Ended (m : Move) (t : Taken) (qs : List Piece) (gone cuts made : ℕ) : Type 0 where
  pub pieces : handed m t ≡ qs
  pub whole : t.whole ≡ gone
  pub split : t.split ≡ cuts
  pub born : t.born ≡ made

after_one : (k : ℕ) (r : Moved) → after k (with_one_more r) ≡ after (k + 1) r
after_one k r = ap (λ (n : ℕ). record { pieces = r.pieces; whole = n; split = r.split; missing = r.missing }) (omega arith)

-- the move, with what is born behind
abbrev closed : Move → Moved → Moved
closed m r = record { pieces = r.pieces ++ if_any (newborn m r.missing); whole = r.whole; split = r.split; missing = r.missing }

module _ (rule : ℕ) (m : Move) (ps₀ : List Piece) (r₀ : List ℕ) where
  pub goes_start : Goes rule m ps₀ r₀ ps₀ r₀ 0 m.weight
  goes_start = record {
    fuel = length (pieces_at ps₀ r₀);
    enough = few_in_lane rule m ps₀ r₀;
    goes = rw zero-add refl;
  }

  module _ (apart : m.source ≢ m.destination) (ps : List Piece) (r : List ℕ) (whole left : ℕ) (g : Goes rule m ps₀ r₀ ps r whole left) where
    -- another piece may go
    turn : (x : ℕ) (l : List ℕ) → lane rule ps m.source r ≡ x ∷ l → move_up_to (select (wins rule) m.source) m.destination g.fuel left (pieces_at ps r)
        ≡ move_up_to (select (wins rule) m.source) m.destination (suc (g.fuel - 1)) left (pieces_at ps r)
    turn x l e = ap (λ (k : ℕ). move_up_to (select (wins rule) m.source) m.destination k left (pieces_at ps r)) (omega (arith, rw e at g.enough))

    pub goes_on : (x : ℕ) (l : List ℕ) → Once r → x < length ps → lane rule ps m.source r ≡ x ∷ l → left ≢ 0 → (at_slot ps x).weight ≤ left
        → Goes rule m ps₀ r₀ (hopped m.destination x ps) (last_of x r) (whole + 1) (left - (at_slot ps x).weight)
    goes_on x l once inside e some light = record {
      fuel = g.fuel - 1;
      enough = rw (hop rule ps r m.source m.destination x l once apart inside e).from (omega (arith, rw e at g.enough));
      goes = g.goes
          ∙ ap (after whole) (turn x l e
          ∙ goes_whole rule ps r m.source m.destination x l once inside e left some apart (le-leb _ _ light) (g.fuel - 1))
          ∙ after_one whole _;
    }

    module _ (first : rule ≢ stirred_rule) where
      ends : (q : Moved) → move_up_to (select (wins rule) m.source) m.destination g.fuel left (pieces_at ps r) ≡ q
          → Ended m (taken rule m (pieces_at ps₀ r₀)) (q.pieces ++ if_any (newborn m q.missing)) (whole + q.whole) q.split q.missing
      unfolding in_table
      ends q e =
          let t = taken rule m (pieces_at ps₀ r₀) in
          let z = sym (taken_in_table rule m (pieces_at ps₀ r₀) first (λ u. apart (sym u))) ∙ ap (closed m) (g.goes ∙ ap (after whole) e) in
          record {
            pieces = ap (λ (k : Moved). k.pieces) z;
            whole = ap (λ (k : Moved). k.whole) z;
            split = ap (λ (k : Moved). k.split) z;
            born = ap (λ (k : Moved). k.missing) z;
          }

      -- all that is wanted has gone whole
      pub ends_even : left ≡ 0 → Ended m (taken rule m (pieces_at ps₀ r₀)) (pieces_at ps r) whole 0 0
      ends_even z = simp (append-nil, add-zero) at (rw z at (ends (stopped left (pieces_at ps r)) (none_wanted (select (wins rule) m.source) m.destination g.fuel left (pieces_at ps r) z)))

      -- the last piece is cut
      pub ends_split : (x : ℕ) (l : List ℕ) → Once r → x < length ps → lane rule ps m.source r ≡ x ∷ l → left ≢ 0 → left < (at_slot ps x).weight
          → (k : ℕ) → has k r ≡ false → k < length ps
          → Ended m (taken rule m (pieces_at ps₀ r₀)) (pieces_at (cut_off m.destination x k left ps) (r ++ (k ∷ []))) whole 1 0
      ends_split x l once inside e some heavy k new there =
          let c = cut rule ps r m.source m.destination x l once inside e left some (lt-leb _ _ heavy) k new there in
          simp (append-nil, add-zero) at (ends _ (turn x l e ∙ c.moves (g.fuel - 1)))

      -- none is left, and the rest is born
      pub ends_born : lane rule ps m.source r ≡ [] → left ≢ 0 → (k : ℕ) → has k r ≡ false → k < length ps
          → Ended m (taken rule m (pieces_at ps₀ r₀)) (pieces_at (set ps k (newborn m left)) (r ++ (k ∷ []))) whole 0 left
      ends_born e some k new there =
          let slot = new_slot rule ps r k m.destination (newborn m left) new there refl in
          rw slot.pieces (rw (ne_eqb left 0 some, add-zero) at (ends (stopped left (pieces_at ps r)) (none_left rule ps r m.source m.destination e g.fuel left)))
