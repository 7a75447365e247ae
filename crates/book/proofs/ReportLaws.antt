-- What the definitions of the reports say together, in document 01's words: how many numbers each has, a held row sums
-- to what the vessel holds, whole is made of held rows, spread over every minute is a column of whole, spans that meet
-- add up, and what is on the scale is in none of them. So a definition that is changed alone falls out with the others.
-- Edges.antt has each check of a report at its edge; where they pass, the room is long enough.
-- Assumes nothing.
use Rattle.std.proofs.Common.{◌≡◌, refl, sym, ap, Bool, true, ◌&&◌, List, [], ◌∷◌, ℕ, zero, suc, ◌+◌, ◌*◌, ◌≤◌, ◌<◌, add-zero, zero-mul, suc-mul, not-suc-le-zero, le_of_suc-le-suc, arith, eqb, length, get_or, length-append, get_or-append-add, ◌∙◌}
use mathlib.Core.List.{foldr}
use lib.ListN.{get_or-append}
use Rattle.std.proofs.lemmas.Bool.Decides.{nat_tests}
use Rattle.table.specs.declared.Piece.{Piece}
use Rattle.table.specs.Pieces.{only, sum, held, All, done, also}
use Rattle.table.specs.Table.{pieces_of}
use Rattle.table.proofs.Pieces.{all_map}
use Rattle.taking.specs.Sweeping.{elsewhere}
use Rattle.taking.proofs.HeldBy.{sum_elsewhere}
use Rattle.refusal.specs.Numbers.{TOP, first}
use Rattle.book.specs.declared.Head.{Head}
use Rattle.book.specs.declared.Report.{Report}
use Rattle.book.specs.declared.Report.TheVariants.{Held, Spread, Whole}
use Rattle.book.specs.Head.{most_vessels, the_scale, balance_at, tab, adds_up}
use Rattle.book.specs.Reports.{from_origin, held_row, born_within, rows, report_row, asked_checks}
use Rattle.book.proofs.BalanceLaws.{length_tab, get_d_tab, tab_same}
use Rattle.book.proofs.Known.{adds_up_told, adds_balance}
use Rattle.std.specs.List.{filter}
use Rattle.book.specs.Calls.{every_piece}

-- a number of a row
pub row_at : (f : ℕ → ℕ) (n j : ℕ) → j < n → get_or (tab f 0 n) j 0 ≡ f j
row_at f n j h = get_d_tab f 0 n j h ∙ ap f (omega arith)

-- how many numbers a row has, and rows one behind the other
pub length_row : (size v : ℕ) (ps : List Piece) → length (held_row size v ps) ≡ size
length_row size v ps = length_tab _ 0 size

pub length_rows : (size v n : ℕ) (ps : List Piece) → length (rows size v n ps) ≡ n * size
unfolding rows
length_rows size v zero ps = sym (zero-mul size)
length_rows size v (suc n) ps = simp (length-append, length_row) (omega (arith, length_rows size (suc v) n ps, suc-mul n size))

-- HOW MANY: "V numbers" of held and of spread, "V rows of V numbers" of whole.
pub report_length : (size : ℕ) (ps : List Piece) (v u from to : ℕ)
    → (length (report_row size ps (Held v)) ≡ size) × (length (report_row size ps (Spread u from to)) ≡ size) × (length (report_row size ps Whole) ≡ size * size)
report_length size ps v u from to = (length_row size v ps, length_tab _ 0 size, length_rows size 0 size ps)

-- the sum of a row's numbers
abbrev pub added : List ℕ → ℕ
added = foldr ◌+◌ 0

-- HELD: "V numbers, the weight by origin in v": together, all that v holds.
added_zeros : (i n : ℕ) → added (tab (λ u. 0) i n) ≡ 0
unfolding tab
added_zeros i zero = refl
added_zeros i (suc n) = omega (arith, added_zeros (suc i) n)

added_both : (f g : ℕ → ℕ) (i n : ℕ) → added (tab (λ u. f u + g u) i n) ≡ added (tab f i n) + added (tab g i n)
unfolding tab
added_both f g i zero = refl
added_both f g i (suc n) = omega (arith, added_both f g (suc i) n)

-- a weight at one index of n, and at none of them
module _ (o : ℕ) (c : Bool) (w : ℕ) where
  abbrev at_one : ℕ → ℕ
  at_one u = only (eqb o u && c) w

  added_none : (i n : ℕ) → o < i → added (tab at_one i n) ≡ 0
  unfolding tab
  added_none i zero h = refl
  added_none i (suc n) h = grind (arith, nat_tests, added_none (suc i) n)

  added_one : (i n : ℕ) → i ≤ o → o < i + n → added (tab at_one i n) ≡ only c w
  unfolding tab
  added_one i zero g h = absurd (omega arith)
  added_one i (suc n) g h = grind (arith, nat_tests, added_none (suc i) n, added_one (suc i) n)

pub held_adds : (size v : ℕ) {ps : List Piece} → All (λ p. p.origin < size) ps → added (held_row size v ps) ≡ held v ps
held_adds size v done = added_zeros 0 size
held_adds size v (also {p = p} {ps = ps} h x) =
    added_both (at_one p.origin (eqb p.holder v) p.weight) (λ u. sum (from_origin v u) ps) 0 size
    ∙ omega (arith, added_one p.origin (eqb p.holder v) p.weight 0 size (omega arith) (omega arith), held_adds size v x)

-- so on a book that adds up it is the vessel's balance
pub held_balance : (h : Head) (t : List ℕ) → adds_up h t ≡ true → (v : ℕ) → added (report_row h.vessels (pieces_of h.pieces t) (Held v)) ≡ balance_at h v
held_balance h t a v = let u = adds_up_told h t a in held_adds h.vessels v (all_map (λ p f. f.origin_in) u.sound) ∙ sym (adds_balance h t u v)

-- WHOLE: "vessel v's row starts at number v × V and is its held report."
rows_at : (size w n v u : ℕ) (ps : List Piece) → v < n → u < size → get_or (rows size w n ps) (v * size + u) 0 ≡ get_or (held_row size (w + v) ps) u 0
unfolding rows
rows_at size w zero v u ps h g = absurd (not-suc-le-zero h)
rows_at size w (suc n) zero u ps h g =
    rw (zero-mul, add-zero) (ap (λ (i : ℕ). get_or (rows size w (suc n) ps) i 0) (omega arith) ∙ get_or-append (held_row size w ps) (rows size (suc w) n ps) 0 u (rw length_row g))
rows_at size w (suc n) (suc v) u ps h g =
    let i : suc v * size + u ≡ length (held_row size w ps) + (v * size + u) = rw length_row (omega (arith, suc-mul v size)) in
    let k : suc w + v ≡ w + suc v = omega arith in
    rw i (get_or-append-add (held_row size w ps) (rows size (suc w) n ps) (v * size + u) 0 ∙ rows_at size (suc w) n v u ps (le_of_suc-le-suc h) g ∙ rw k)

pub whole_held : (size v u : ℕ) (ps : List Piece) → v < size → u < size → get_or (report_row size ps Whole) (v * size + u) 0 ≡ get_or (report_row size ps (Held v)) u 0
whole_held size v u ps h g = rows_at size 0 size v u ps h g ∙ ap (λ (w : ℕ). get_or (held_row size w ps) u 0) (omega arith)

-- SPREAD over every minute is the origin's column of whole.
every_minute : (o v : ℕ) {ps : List Piece} → All (λ p. p.birth ≤ TOP) ps → sum (born_within o 0 TOP v) ps ≡ sum (from_origin v o) ps
every_minute o v done = refl
every_minute o v (also {p = p} h x) = grind (arith, nat_tests, every_minute o v x)

pub whole_spread : (size o v : ℕ) {ps : List Piece} → o < size → v < size → All (λ p. p.birth ≤ TOP) ps
    → get_or (report_row size ps (Spread o 0 TOP)) v 0 ≡ get_or (report_row size ps Whole) (v * size + o) 0
whole_spread size o v {ps} ho hv x =
    row_at (λ u. sum (born_within o 0 TOP u) ps) size v hv ∙ every_minute o v x ∙ sym (whole_held size v o ps hv ho ∙ row_at (λ u. sum (from_origin v u) ps) size o ho)

-- "minutes from and to, both included": two spans that meet add up to the span of both.
spans : (o v from m to : ℕ) → from ≤ m → m < to → (ps : List Piece) → sum (born_within o from m v) ps + sum (born_within o (m + 1) to v) ps ≡ sum (born_within o from to v) ps
spans o v from m to h g [] = refl
spans o v from m to h g (p ∷ ps) = grind (arith, nat_tests, spans o v from m to h g ps)

pub spread_spans : (size o v from m to : ℕ) (ps : List Piece) → v < size → from ≤ m → m < to
    → get_or (report_row size ps (Spread o from m)) v 0 + get_or (report_row size ps (Spread o (m + 1) to)) v 0 ≡ get_or (report_row size ps (Spread o from to)) v 0
spread_spans size o v from m to ps hv h g =
    rw (row_at (λ u. sum (born_within o from m u) ps) size v hv, row_at (λ u. sum (born_within o (m + 1) to u) ps) size v hv, row_at (λ u. sum (born_within o from to u) ps) size v hv)
    (spans o v from m to h g ps)

-- WHAT IS ON THE SCALE "is in no vessel, and no vessel's report includes it": a report is that of the other pieces.
module _ (size : ℕ) (few : size ≤ most_vessels) (ps : List Piece) where
  held_unloaded : (v : ℕ) → v < size → held_row size v (elsewhere the_scale ps) ≡ held_row size v ps
  held_unloaded v h = tab_same _ _ 0 0 size (λ u g. sum_elsewhere the_scale (from_origin v (0 + u)) (λ o b. grind (arith, nat_tests)) ps)

  rows_unloaded : (v n : ℕ) → v + n ≤ size → rows size v n (elsewhere the_scale ps) ≡ rows size v n ps
  unfolding rows
  rows_unloaded v zero h = refl
  rows_unloaded v (suc n) h = rw (held_unloaded v (omega arith), rows_unloaded (suc v) n (omega arith)) refl

  pub row_unloaded : (room : ℕ) (q : Report) → first (asked_checks size room q) ≡ 0 → report_row size (elsewhere the_scale ps) q ≡ report_row size ps q
  unfolding asked_checks
  row_unloaded room (Held v) e = held_unloaded v (grind (arith, nat_tests))
  row_unloaded room (Spread u from to) e =
      tab_same _ _ 0 0 size (λ v g. sum_elsewhere the_scale (born_within u from to (0 + v)) (λ o b. grind (arith, nat_tests)) ps)
  row_unloaded room Whole e = rows_unloaded 0 size (omega arith)

-- A test that every piece passes lets all through.
pub all_pass : (ps : List Piece) → filter every_piece ps ≡ ps
all_pass [] = refl
all_pass (p ∷ ps) = ap (λ qs. p ∷ qs) (all_pass ps)

-- the room is long enough where the checks pass
module _ (size room : ℕ) (asked : Report) where
  pub held_room : (v : ℕ) → asked ≡ Held v → first (asked_checks size room asked) ≡ 0 → size ≤ room
  unfolding asked_checks
  held_room v a e = let k = rw a at e in grind (arith, nat_tests)

  pub spread_room : (u from to : ℕ) → asked ≡ Spread u from to → first (asked_checks size room asked) ≡ 0 → size ≤ room
  unfolding asked_checks
  spread_room u from to a e = let k = rw a at e in grind (arith, nat_tests)

  pub whole_room : asked ≡ Whole → first (asked_checks size room asked) ≡ 0 → size * size ≤ room
  unfolding asked_checks
  whole_room a e = let k = rw a at e in grind (arith, nat_tests)
