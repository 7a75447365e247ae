-- A plan is applied: what is lifted of the pieces and what stays of them, settled, is what is handed over. Lifting
-- keeps the n places and what lies behind them.
-- Assumes nothing.
use Rattle.std.proofs.Common.{◌≡◌, refl, ap, ◌∙◌, List, [], ◌∷◌, append_assoc, ℕ, ◌+◌, ◌*◌, ◌≤◌, arith, length, drop, length-append, length-set}
use mathlib.Core.List.{map-append}
use Rattle.table.specs.declared.Piece.{Piece}
use Rattle.table.specs.Table.{lay}
use Rattle.table.specs.Closing.{stay, settled, Settling}
use Rattle.table.proofs.Table.{length_pieces, pieces_over, rest_over, same_behind}
use Rattle.picking.specs.Plan.{place_of, vacate_at, vacate_all, reduced}
use Rattle.taking.specs.declared.Applied.{Applied}
use Rattle.moving.specs.declared.apply.Withdrawal.{Withdrawal}
use Rattle.moving.specs.Ready.{lifted_places}
use Rattle.moving.specs.Parts.{Room, pieces, gone, next, Lifts, Follows, plan_handed, Gathers, plan_answer, Applicable, Applies}

length_vacate_all : (ks : List ℕ) (ps : List Piece) → length (vacate_all ks ps) ≡ length ps
unfolding vacate_all
length_vacate_all [] ps = refl
length_vacate_all (k ∷ ks) ps = length_vacate_all ks (vacate_at (place_of k) ps) ∙ length-set ps (place_of k) _

length_reduced : (w : ℕ) (ks : List ℕ) (ps : List Piece) → length (reduced w ks ps) ≡ length ps
length_reduced w [] ps = refl
length_reduced w (k ∷ ks) ps = length-set ps (place_of k) _

module _ (w : Withdrawal) (t : List ℕ) where
  abbrev vacant : List Piece
  vacant = vacate_all (gone w) (pieces w t)

  abbrev left : List Piece
  left = reduced w.plan.left (next w) vacant

  long : length vacant ≡ w.count
  long = length_vacate_all (gone w) (pieces w t) ∙ length_pieces w.count t

  -- lifting, and the remainder
  pub gathers : (t₁ l₁ t₂ l₂ : List ℕ) (g : ℕ) → Lifts w t t₁ l₁ → Follows w t₁ l₁ t₂ l₂ g → Gathers w t t₂ l₂ g
  gathers t₁ l₁ t₂ l₂ g lifts follows =
      let behind : List ℕ = drop (4 * w.count) t in
      let ps : pieces w t₁ ≡ vacant = ap (pieces w) lifts.stands ∙ pieces_over w.count _ behind long in
      let rs : drop (4 * w.count) t₁ ≡ behind = ap (drop (4 * w.count)) lifts.stands ∙ rest_over w.count _ behind long in
      record {
        stands = follows.stands ∙ rw (ps, rs);
        goes = follows.goes ∙ rw (lifts.goes, ps) (simp (map-append, append_assoc));
        least = omega (arith, simp (length-append, length_pieces) at (ap length follows.goes));
        most = follows.most;
      }

  -- settling
  module _ (can : Applicable w t) (t₂ l₂ : List ℕ) (g : ℕ) (gathered : Gathers w t t₂ l₂ g) where
    long₂ : length left ≡ w.count
    long₂ = length_reduced w.plan.left (next w) vacant ∙ long

    stands : pieces w t₂ ≡ left
    stands = ap (pieces w) gathered.stands ∙ pieces_over w.count _ (drop (4 * w.count) t) long₂

    vacancies : length (stay (pieces w t₂)) + w.plan.whole ≡ w.count
    vacancies = rw stands can.rest

    result : settled w.count t₂ g l₂ ≡ plan_handed w t
    result = rw (stands, gathered.goes)

    pub apply_settling : Room w t → length t₂ ≡ length t → length l₂ ≡ 4 * lifted_places → Settling w.count w.plan.whole g t₂ l₂
    apply_settling room et el = record {
      places = room.places;
      pieces = omega (arith, room.pieces);
      vacant = vacancies;
      filled = gathered.least;
      fits = rw (result, et) can.fits;
      lifted = omega (arith, gathered.most);
    }

    pub apply_end : (t₃ : List ℕ) (count : ℕ) (a : Applied) → t₃ ≡ lay (settled w.count t₂ g l₂) t₂ → count ≡ length (settled w.count t₂ g l₂)
        → a ≡ plan_answer w count → Applies w t t₃ a
    apply_end t₃ count a et ec ea =
        let total : ℕ = length (plan_handed w t) in
        let kept : drop (4 * w.count) t₂ ≡ drop (4 * w.count) t = ap (drop (4 * w.count)) gathered.stands ∙ rest_over w.count _ (drop (4 * w.count) t) long₂ in
        let sum : length (settled w.count t₂ g l₂) ≡ length (stay (pieces w t₂)) + g = simp (length-append, length_pieces) in
        let size : w.count ≤ total = omega (arith, vacancies, gathered.least, ap length result) in
        record {
          stands = et ∙ rw (result, same_behind w.count total t t₂ size kept);
          answers = ea ∙ ap (plan_answer w) (ec ∙ ap length result);
        }
