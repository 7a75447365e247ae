-- A move is made: once whole pieces have gone, what is left is split off the next piece, or born, or there is nothing
-- left. Before it the log is closed, where it might have no room.
-- Assumes nothing.
use Rattle.std.proofs.Common.{◌≡◌, refl, sym, ap, ◌∙◌, ◌≢◌, ℕ, ◌+◌, ◌-◌, ◌≤◌, ◌<◌, arith, length, set, take, length-set}
use Rattle.std.proofs.lemmas.Bool.Decides.{nat_tests}
use Rattle.table.specs.declared.Piece.{Piece}
use Rattle.table.specs.Pieces.{of_weight, hand_to}
use Rattle.taking.specs.declared.Move.{Move}
use Rattle.taking.specs.Taking.{newborn, taken, handed}
use Rattle.taking.specs.Stirring.{stirred_rule}
use Rattle.lanes.specs.Notes.{latest, Once}
use Rattle.lanes.specs.Order.{at_slot}
use Rattle.lanes.specs.Keys.{last_minute}
use Rattle.lanes.specs.Chains.{start, link, Chain}
use Rattle.lanes.specs.declared.Store.{Store}
use Rattle.lanes.specs.declared.moves.Progress.{Progress}
use Rattle.lanes.specs.Store.{received, pieces_in, lane_of, Kept}
use Rattle.lanes.specs.Steps.{Closed, Addable, Added}
use Rattle.lanes.specs.Moving.{Going, Gone, Splitting, SplitOff, Made, Roomy}
use Rattle.lanes.proofs.Notes.{latest_latest, once_latest, Among, among}
use Rattle.lanes.proofs.Hops.{Reweighed, reweighed, in_common}
use Rattle.lanes.proofs.ByKeys.{keyed_same}
use Rattle.lanes.proofs.Listing.{same_listed}
use Rattle.lanes.proofs.InUse.{first_used, next_unused, length_pieces_in}
use Rattle.lanes.proofs.Chains.{Begins, begins, none_behind}
use Rattle.lanes.proofs.OneByOne.{Ended, ends_even, ends_split, ends_born}

-- the log is closed
pub roomy : (rule : ℕ) (s s' : Store) → Kept rule s → Closed s s' → Roomy rule s s'
roomy rule s s' k c = record {
  kept = record {
    slots = rw c.pieces k.slots;
    room = omega (arith, c.noted, k.listed.few);
    keyed = rw (c.pieces, c.keys, c.count) k.keyed;
    listed = record { few = rw c.count k.listed.few; noted = rw (order, c.count) k.listed.noted; all = rw (order, c.count) k.listed.all };
    chained = rw (order, c.links, c.pieces) k.chained;
  };
  order = order;
  pieces = c.pieces;
  count = c.count;
  room = omega (arith, c.noted, c.count, k.listed.few);
}
  where
    order : received s' ≡ received s
    order = ap latest c.log ∙ latest_latest (take s.noted s.log)

-- a piece gives a part
module _ (rule d x weight : ℕ) (s : Store) (h : Splitting rule d x weight s) where
  abbrev part : Piece
  part = hand_to d (of_weight weight (at_slot s.pieces x))

  there : x < length s.pieces
  there = omega (arith, h.used, h.place, h.kept.slots)

  lies : Among x (received s)
  lies = among x (received s) (h.kept.listed.noted x ∙ grind (arith, nat_tests, h.used))

  lighter : Reweighed rule s.pieces (set s.pieces x (of_weight ((at_slot s.pieces x).weight - weight) (at_slot s.pieces x))) (received s) lies.before x lies.after ((at_slot s.pieces x).weight - weight)
  lighter = reweighed rule s.pieces (received s) lies.before x lies.after ((at_slot s.pieces x).weight - weight) (once_latest (take s.noted s.log)) lies.lies there

  module _ (s₁ : Store) (pieces_is : s₁.pieces ≡ set s.pieces x (of_weight ((at_slot s.pieces x).weight - weight) (at_slot s.pieces x))) (next_is : s₁.next ≡ s.next)
      (log_is : s₁.log ≡ s.log) (noted_is : s₁.noted ≡ s.noted) (count_is : s₁.count ≡ s.count) (keys_is : s₁.keys ≡ s.keys) where
    pub part_addable : Addable rule part s₁
    part_addable = record {
      kept = record {
        slots = rw pieces_is (length-set s.pieces x _ ∙ h.kept.slots);
        room = rw noted_is h.kept.room;
        listed = same_listed s s₁ h.kept.listed log_is noted_is count_is;
        keyed = λ i q. rw (pieces_is, keys_is) (keyed_same rule s.pieces s.keys _ (in_common s.pieces x _ (λ p. p.birth) there refl) i (h.kept.keyed i (rw count_is at q)));
        chained = λ v q. rw (next_is, pieces_is, log_is, noted_is, lighter.lanes v) (h.kept.chained v q);
      };
      place = rw count_is h.place;
      holder = h.destination;
      birth = (h.kept.keyed x h.used).small;
      room = rw noted_is h.room;
    }

    pub part_added : (s₂ : Store) → Added rule part s₁ s₂ → SplitOff rule d x weight s s₂
    part_added s₂ a = record {
      kept = a.kept;
      pieces = a.pieces ∙ rw (pieces_is, count_is) refl;
      order = a.order ∙ rw (log_is, noted_is, count_is) refl;
      count = a.count ∙ rw count_is refl;
    }

-- the ways out
module _ (rule : ℕ) (m : Move) (s : Store) (g : Going rule m s) (first : rule ≢ stirred_rule) (s₁ : Store) (far : Progress) (o : Gone rule m s s₁ far) where
  chain : Chain s₁.next (start m.source) (lane_of rule s₁ m.source)
  chain = o.kept.chained m.source g.source

  once : Once (received s₁)
  once = once_latest (take s₁.noted s₁.log)

  -- the answer, where the pieces are these
  made : (s₂ : Store) (split born : ℕ) → Kept rule s₂ → Ended m (taken rule m (pieces_in s)) (pieces_in s₂) far.whole split born
      → Made rule m s s₂ (record { whole = far.whole; split = split; born = born; count = s₂.count })
  made s₂ split born k e =
      let n : s₂.count ≡ length (handed m (taken rule m (pieces_in s))) = sym (ap length e.pieces ∙ length_pieces_in rule s₂ k) in
      record { kept = k; pieces = sym e.pieces; answer = rw (← e.whole, ← e.split, ← e.born, n) refl }

  pub made_even : far.left ≡ 0 → Made rule m s s₁ (record { whole = far.whole; split = 0; born = 0; count = s₁.count })
  made_even z = made s₁ 0 0 o.kept (ends_even rule m s.pieces (received s) g.apart s₁.pieces (received s₁) far.whole far.left o.goes first z)

  module _ (some : far.left ≢ 0) where
    inside : s₁.count < length s₁.pieces
    inside = omega (arith, o.place some, o.kept.slots)

    pub can_bear : m.birth ≤ last_minute → Addable rule (newborn m far.left) s₁
    can_bear b = record { kept = o.kept; place = o.place some; holder = g.destination; birth = b; room = o.room }

    pub made_born : link s₁.next (start m.source) ≡ 0 → (s₂ : Store) → Added rule (newborn m far.left) s₁ s₂
        → Made rule m s s₂ (record { whole = far.whole; split = 0; born = far.left; count = s₂.count })
    made_born q s₂ a =
        let e = ends_born rule m s.pieces (received s) g.apart s₁.pieces (received s₁) far.whole far.left o.goes first (none_behind chain q) some s₁.count (next_unused rule s₁ o.kept) inside in
        made s₂ 0 far.left a.kept (rw (a.pieces, a.order) e)

    module _ (n : ℕ) (is : n ≡ link s₁.next (start m.source)) (there_is : n ≢ 0) where
      abbrev x : ℕ
      x = n - 1

      leads_on : link s₁.next (start m.source) ≡ x + 1
      leads_on = omega (arith, is, there_is)

      line : Begins x (lane_of rule s₁ m.source)
      line = begins x chain leads_on

      heavy : far.left < (at_slot s₁.pieces x).weight
      heavy = o.heavier some x leads_on

      pub can_split : Splitting rule m.destination (n - 1) far.left s₁
      can_split = record {
        kept = o.kept;
        used = first_used rule s₁ o.kept m.source x line.rest line.is;
        place = o.place some;
        destination = g.destination;
        less = heavy;
        room = o.room;
      }

      pub made_split : (s₂ : Store) → SplitOff rule m.destination (n - 1) far.left s₁ s₂ → Made rule m s s₂ (record { whole = far.whole; split = 1; born = 0; count = s₂.count })
      made_split s₂ a =
          let e = ends_split rule m s.pieces (received s) g.apart s₁.pieces (received s₁) far.whole far.left o.goes first x line.rest once (omega (arith, line.inside, o.kept.slots)) line.is some heavy
          s₁.count (next_unused rule s₁ o.kept) inside in
          made s₂ 1 0 a.kept (rw (a.pieces, a.order) e)
