-- Whole pieces are handed over in a loop. The invariant: memory is in order, n leads from the start of the source's lane, what is left of the move from here on does what
-- the move does, and there is a note left for every piece that may still go.
-- Assumes nothing.
use Rattle.std.proofs.Common.{◌≡◌, refl, sym, ap, ◌∙◌, ◌≢◌, List, [], ◌∷◌, ℕ, ◌+◌, ◌-◌, ◌≤◌, ◌<◌, arith, length, eqb, take}
use borrow.Author.Tests.{le-leb, lt-leb}
use Rattle.table.specs.declared.Piece.{Piece}
use Rattle.table.specs.Pieces.{hand_to}
use Rattle.table.specs.Table.{most_places}
use Rattle.taking.specs.declared.Move.{Move}
use Rattle.lanes.specs.Order.{at_slot, ahead}
use Rattle.lanes.specs.Chains.{start, link, Chain, ends}
use Rattle.lanes.specs.declared.Store.{Store}
use Rattle.lanes.specs.Store.{most_notes, received, lane_of, Kept}
use Rattle.lanes.specs.Steps.{Handing, HandedOver}
use Rattle.lanes.specs.Walk.{remains, Goes}
use Rattle.lanes.specs.Moving.{Going, Gone}
use Rattle.lanes.proofs.Notes.{once_latest}
use Rattle.lanes.proofs.Order.{length_in_order}
use Rattle.lanes.proofs.Hops.{hop, in_common}
use Rattle.lanes.proofs.Chains.{Begins, begins, none_behind}
use Rattle.lanes.proofs.OneByOne.{hopped, goes_start, goes_on}

-- what remains turns on the weights alone
remains_agrees : (ps ps' : List Piece) → ((i : ℕ) → (at_slot ps' i).weight ≡ (at_slot ps i).weight) → (want : ℕ) (l : List ℕ) → remains ps' want l ≡ remains ps want l
unfolding remains
remains_agrees ps ps' e want [] = refl
remains_agrees ps ps' e want (i ∷ l) = rw (e i, remains_agrees ps ps' e (want - (at_slot ps i).weight) l) refl

pub record Handed (rule : ℕ) (m : Move) (s₀ s : Store) (whole left n : ℕ) : Type 0 where
  pub kept : Kept rule s
  pub first : n ≡ link s.next (start m.source)
  pub goes : Goes rule m s₀.pieces (received s₀) s.pieces (received s) whole left
  pub count : s.count ≡ s₀.count
  pub wanted : remains s₀.pieces m.weight (lane_of rule s₀ m.source) ≡ remains s.pieces left (lane_of rule s m.source)
  pub room : s.noted + length (lane_of rule s m.source) < most_notes
  pub few : whole + length (lane_of rule s m.source) ≤ most_places

module _ (rule : ℕ) (m : Move) (s₀ : Store) (g : Going rule m s₀) where
  pub handed_start : (n : ℕ) → n ≡ link s₀.next (start m.source) → Handed rule m s₀ s₀ 0 m.weight n
  handed_start n e =
      let l = length_in_order (ahead rule s₀.pieces) (λ i. eqb (at_slot s₀.pieces i).holder m.source) (received s₀) in
      record {
        kept = g.kept;
        first = e;
        goes = goes_start rule m s₀.pieces (received s₀);
        count = refl;
        wanted = refl;
        room = omega (arith, l, g.kept.listed.all, g.room);
        few = omega (arith, l, g.kept.listed.all, g.kept.listed.few);
      }

  module _ (s : Store) (whole left n : ℕ) (h : Handed rule m s₀ s whole left n) where
    chain : Chain s.next (start m.source) (lane_of rule s m.source)
    chain = h.kept.chained m.source g.source

    -- nothing more goes whole, and what is left remains
    gone : (left ≢ 0 → remains s.pieces left (lane_of rule s m.source) ≡ left)
        → (left ≢ 0 → (x : ℕ) → link s.next (start m.source) ≡ x + 1 → left < (at_slot s.pieces x).weight)
        → Gone rule m s₀ s (record { whole = whole; left = left })
    gone stays heavy = record {
      kept = h.kept;
      goes = h.goes;
      heavier = heavy;
      place = λ some. rw h.count (g.place (λ z. some (sym (h.wanted ∙ stays some) ∙ z)));
      room = omega (arith, h.room);
      count = h.count;
      few = omega (arith, h.few);
    }

    empty : link s.next (start m.source) ≡ 0 → remains s.pieces left (lane_of rule s m.source) ≡ left
    unfolding remains
    empty e = rw (none_behind chain e) refl

    none_left : (left ≢ 0 → link s.next (start m.source) ≡ 0) → Gone rule m s₀ s (record { whole = whole; left = left })
    none_left e = gone (λ some. empty (e some)) (λ some x q. absurd (omega (arith, e some, q)))

    pub gone_all : (left ≢ 0 → n ≡ 0) → Gone rule m s₀ s (record { whole = whole; left = left })
    gone_all e = none_left (λ some. sym h.first ∙ e some)

    heavy_behind : (x : ℕ) (l : List ℕ) → lane_of rule s m.source ≡ x ∷ l → left < (at_slot s.pieces x).weight → remains s.pieces left (lane_of rule s m.source) ≡ left
    unfolding remains
    heavy_behind x l e q = rw (e, lt-leb (at_slot s.pieces x).weight left q) refl

    pub gone_last : whole ≡ most_places → Gone rule m s₀ s (record { whole = most_places; left = left })
    gone_last q = rw (← q) (none_left (λ some. go (lane_of rule s m.source) chain h.few))
      where
        go : (l : List ℕ) → Chain s.next (start m.source) l → whole + length l ≤ most_places → link s.next (start m.source) ≡ 0
        go [] (ends e) k = e
        go (y ∷ l) c k = absurd (omega (arith, k, q))

    -- there is a next
    module _ (some_next : n ≢ 0) where
      abbrev x : ℕ
      x = n - 1

      leads_on : link s.next (start m.source) ≡ x + 1
      leads_on = omega (arith, h.first, some_next)

      line : Begins x (lane_of rule s m.source)
      line = begins x chain leads_on

      pub next_inside : n - 1 < most_places
      next_inside = line.inside

      pub gone_whole : left < (at_slot s.pieces (n - 1)).weight → Gone rule m s₀ s (record { whole = whole; left = left })
      gone_whole q = gone (λ some. heavy_behind x line.rest line.is q) (λ some y e. let u : y ≡ x = omega (arith, e, leads_on) in rw u q)

      pub can_hand : Handing rule m.source m.destination (n - 1) s
      can_hand = record { kept = h.kept; source = g.source; destination = g.destination; apart = g.apart; first = leads_on; slot = line.inside; room = omega (arith, h.room) }

      -- the slot is passed
      passed : (at_slot s.pieces x).weight ≤ left → (l : List ℕ) → remains s.pieces left (x ∷ l) ≡ remains s.pieces (left - (at_slot s.pieces x).weight) l
      unfolding remains
      passed light l = rw (le-leb (at_slot s.pieces x).weight left light) refl

      pub handed_on : left ≢ 0 → (at_slot s.pieces (n - 1)).weight ≤ left → (s' : Store) (n' : ℕ) → HandedOver rule m.source m.destination (n - 1) s s' n'
          → Handed rule m s₀ s' (whole + 1) (left - (at_slot s.pieces (n - 1)).weight) n'
      handed_on some light s' n' o =
          let once = once_latest (take s.noted s.log) in
          let q : x < length s.pieces = omega (arith, line.inside, h.kept.slots) in
          let from = (hop rule s.pieces (received s) m.source m.destination x line.rest once g.apart q line.is).from in
          let k = ap length line.is in
          let weights = in_common s.pieces x (hand_to m.destination (at_slot s.pieces x)) (λ p. p.weight) q refl in
          record {
            kept = o.kept;
            first = o.next;
            goes = rw (o.pieces, o.order) (goes_on rule m s₀.pieces (received s₀) g.apart s.pieces (received s) whole left h.goes x line.rest once q line.is some light);
            count = o.count ∙ h.count;
            wanted = h.wanted ∙ rw (line.is, o.pieces, o.order, from) (passed light line.rest ∙ sym (remains_agrees s.pieces (hopped m.destination x s.pieces) weights (left - (at_slot s.pieces x).weight) line.rest));
            room = rw (o.pieces, o.order, from, o.noted) (omega (arith, h.room, k));
            few = rw (o.pieces, o.order, from) (omega (arith, h.few, k));
          }
