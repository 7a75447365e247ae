-- The loops and parts of a report: clearing its numbers, entering a piece, what a pass asks of a book's pieces and
-- leaves, and rows one behind the other.
-- Assumes nothing.
use Rattle.std.proofs.Common.{◌≡◌, sym, ap, ◌∙◌, true, List, [], ◌∷◌, ◌++◌, append_assoc, append-nil, ℕ, zero, suc, ◌+◌, ◌*◌, ◌≤◌, ◌<◌, zero-add, zero-mul, suc-mul, add-zero, add-one, arith, eqb, length, take, drop, drop_of_length-le, take_at, drop_at, drop-drop}
use Rattle.std.proofs.lemmas.List.{length-take-le}
use Rattle.std.proofs.lemmas.Bool.{and_parts}
use Rattle.std.proofs.lemmas.Bool.Decides.{nat_tests}
use Rattle.table.specs.declared.Piece.{Piece}
use Rattle.table.specs.Pieces.{Kind, in_vessel, sum, All}
use Rattle.table.proofs.Pieces.{all_map, all_both}
use Rattle.refusal.specs.Numbers.{TOP}
use Rattle.book.specs.Reports.{from_origin, held_row, born_within, spread_row, rows, onto}
use Rattle.book.proofs.BalanceLaws.{length_tab, tab_same}
use Rattle.book.proofs.ReportLaws.{length_row, length_rows, held_room, spread_room, whole_room}
use Rattle.reports.specs.Scatter.{held_by, born, off_scale, origin_of, holder_of, cell_of, tally, Tallied, one_pass, Reportable}
use Rattle.reports.proofs.Scattered.{tally_kind, scattered}
use Rattle.reports.proofs.Square.{tally_square, in_a_vessel, cells_inside, rows_in_one_pass}

-- What the passes over a book's pieces ask: the pieces that one counts at an index are some of those that a vessel
-- holds.
narrower : (j k : Kind) → ((h o b : ℕ) → j h o b ≡ true → k h o b ≡ true) → (ps : List Piece) → sum j ps ≤ sum k ps
narrower j k f [] = omega arith
narrower j k f (p ∷ ps) = grind (arith, f p.holder p.origin p.birth, narrower j k f ps)

module _ (size : ℕ) (ps : List Piece) (k : Reportable size ps) where
  by_origin_light : (v u : ℕ) → sum (from_origin v u) ps ≤ TOP
  by_origin_light v u = omega (arith, k.light v, narrower (from_origin v u) (in_vessel v) (λ h o b e. (and_parts (eqb o u) _ e).1) ps)

  by_holder_light : (u from to v : ℕ) → sum (born_within u from to v) ps ≤ TOP
  by_holder_light u from to v = omega (arith, k.light v, narrower (born_within u from to v) (in_vessel v) (λ h o b e. (and_parts (eqb h v) _ e).0) ps)

  pub held_tallied : (v : ℕ) → Tallied (held_by v) origin_of size ps
  held_tallied v = all_map (λ p h c. (h, by_origin_light v p.origin)) k.origins

  -- what spread counts is in vessels, and of what is in a vessel it leaves nothing out
  born_inside : (u from to : ℕ) → All (λ p. born u from to p ≡ true → p.holder < size) ps
  born_inside u from to = all_map (λ p h c. grind (arith, nat_tests)) k.holders

  tally_born : (u from to v : ℕ) → v < size → tally (born u from to) holder_of ps v ≡ sum (born_within u from to v) ps
  tally_born u from to v h = let few = k.few in tally_kind (born u from to) holder_of v (born_within u from to v) (λ p g. grind (arith, nat_tests)) k.holders

  pub spread_tallied : (u from to : ℕ) → Tallied (born u from to) holder_of size ps
  spread_tallied u from to = all_map (λ p h c. (h c, rw (tally_born u from to p.holder (h c)) (by_holder_light u from to p.holder))) (born_inside u from to)

  pub whole_tallied : Tallied off_scale (cell_of size) (size * size) ps
  whole_tallied =
      all_map (λ p (h, (g, o)) c. (h c, rw (tally_square size p.holder p.origin k.few (in_a_vessel size p g c) o k.origins) (by_origin_light p.holder p.origin)))
      (all_both (cells_inside size k.holders k.origins) (all_both k.holders k.origins))

-- what fills the whole room is all that is left of it
alone : (w room : List ℕ) → length w ≡ length room → onto w room ≡ w
alone w room e = rw (e, drop_of_length-le room {i = length room} (omega arith), append-nil w)

-- and what each leaves of room that it fills
module _ (room : List ℕ) (ps : List Piece) where
  pub held_filled : (v : ℕ) → Reportable (length room) ps → one_pass (length room) (held_by v) origin_of room ps ≡ held_row (length room) v ps
  held_filled v k = scattered _ _ _ room ps (all_map (λ p h c. h) k.origins) ∙ alone _ room (length_row _ v ps)

  pub spread_filled : (u from to : ℕ) → Reportable (length room) ps
      → one_pass (length room) (born u from to) holder_of room ps ≡ spread_row (length room) u from to ps
  spread_filled u from to k =
      scattered _ _ _ room ps (born_inside _ ps k u from to) ∙ alone _ room (length_tab _ 0 _) ∙ tab_same _ _ 0 0 _ (λ v h. rw zero-add (tally_born _ ps k u from to v h))

  pub whole_filled : (size : ℕ) → length room ≡ size * size → Reportable size ps → one_pass (length room) off_scale (cell_of size) room ps ≡ rows size 0 size ps
  whole_filled size e k = rw e (rows_in_one_pass size room k.few k.holders k.origins) ∙ alone _ room (length_rows size 0 size ps ∙ sym e)

-- Rows one behind the other.
rows_snoc : (size v n : ℕ) (ps : List Piece) → rows size v (suc n) ps ≡ rows size v n ps ++ held_row size (v + n) ps
unfolding rows
rows_snoc size v zero ps = rw add-zero (append-nil (held_row size v ps))
rows_snoc size v (suc n) ps =
    let k : suc v + n ≡ v + suc n = omega arith in
    ap (λ (l : List ℕ). held_row size v ps ++ l) (rows_snoc size (suc v) n ps ∙ rw k) ∙ sym (append_assoc (held_row size v ps) (rows size (suc v) n ps) (held_row size (v + suc n) ps))

-- the loop over the rows: its start, and a turn that lends the numbers behind the rows to the next row
module _ (m : ℕ) (ps : List Piece) (r₀ : List ℕ) where
  pub rows_none : r₀ ≡ rows m 0 0 ps ++ drop (0 * m) r₀
  unfolding rows
  rows_none = rw (zero-mul m)

  pub rows_next : (r ys : List ℕ) (v n : ℕ) → n ≡ m → r ≡ rows m 0 v ps ++ drop (v * m) r₀ → ys ≡ held_row m v ps
      → take (v * m) r ++ (ys ++ drop n (drop (v * m) r)) ≡ rows m 0 (v + 1) ps ++ drop ((v + 1) * m) r₀
  rows_next r ys v n en e ey =
      let d : List ℕ = drop (v * m) r₀ in
      let tk : take (v * m) r ≡ rows m 0 v ps = rw e (take_at (rows m 0 v ps) d (v * m) (length_rows m 0 v ps)) in
      let dr : drop (v * m) r ≡ d = rw e (drop_at (rows m 0 v ps) d (v * m) (length_rows m 0 v ps)) in
      let z : 0 + v ≡ v = omega arith in
      simp (ey, en, tk, dr, add-one, rows_snoc, z, suc-mul, drop-drop, append_assoc)

-- the room is long enough for what is asked, and so is the part of it that is lent
pub ruleset room_laws = (held_room, spread_room, whole_room, length-take-le)
