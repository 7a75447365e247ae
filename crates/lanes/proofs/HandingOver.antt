-- A whole piece goes from the front of a lane to its place in another: the slot leaves its lane by one link, joins the other, has another holder, and is received last.
-- Assumes nothing.
use Rattle.std.proofs.Common.{◌≡◌, refl, sym, subst, ap, ◌∙◌, ◌≢◌, Bool, true, false, List, [], ◌∷◌, ◌++◌, ℕ, ◌+◌, ◌<◌, arith, eqb, length, set, take, length-set, eqb-true, eq-eqb}
use Rattle.std.proofs.lemmas.Bool.Decides.{nat_tests}
use Rattle.std.proofs.lemmas.List.{take_more_set, get_or-set_same}
use borrow.Author.Tests.{eqb-false}
use Rattle.table.specs.declared.Piece.{Piece}
use Rattle.table.specs.Pieces.{hand_to}
use Rattle.table.specs.Table.{most_places}
use Rattle.lanes.specs.Notes.{has, without, Once}
use Rattle.lanes.specs.Order.{at_slot, ahead, lane}
use Rattle.lanes.specs.Chains.{start, link, Chain, foot, put_behind}
use Rattle.lanes.specs.Lanes.{most_lanes}
use Rattle.lanes.specs.declared.Store.{Store}
use Rattle.lanes.specs.Store.{most_notes, received, lane_of}
use Rattle.lanes.specs.Steps.{Joining, Joined, Left, Handing, HandedOver}
use Rattle.lanes.proofs.Notes.{has_without, latest_noted, once_latest, once_without, alone}
use Rattle.lanes.proofs.Order.{not_ours}
use Rattle.lanes.proofs.Hops.{Hop, hop, at_same, at_other, in_common}
use Rattle.lanes.proofs.Chains.{has_first, chain_apart, chain_leave, Begins, begins}
use Rattle.lanes.proofs.ByKeys.{keyed_same}
use Rattle.lanes.proofs.Listing.{same_listed}
use Rattle.lanes.proofs.InUse.{first_used}
use Rattle.lanes.proofs.Receiving.{start_in_none, start_stays, received_last}

-- a slot that is noted once more
pub noted_last : (s s' : Store) (x : ℕ) → s.noted < length s.log → s'.log ≡ set s.log s.noted x → s'.noted ≡ s.noted + 1 → received s' ≡ without x (received s) ++ (x ∷ [])
noted_last s s' x h e n = rw (e, n, take_more_set s.log s.noted x h) (latest_noted x (take s.noted s.log))

module _ (rule v d x : ℕ) (s : Store) (h : Handing rule v d x s) (links : length s.next ≡ most_places + most_lanes)
    (notes : length s.log ≡ most_notes) where
  once : Once (received s)
  once = once_latest (take s.noted s.log)

  lane_v : Begins x (lane_of rule s v)
  lane_v = begins x (h.kept.chained v h.source) h.first

  moved : Hop rule s.pieces (set s.pieces x (hand_to d (at_slot s.pieces x))) (received s) (without x (received s) ++ (x ∷ [])) v d x lane_v.rest
  moved = hop rule s.pieces (received s) v d x lane_v.rest once h.apart (omega (arith, h.slot, h.kept.slots)) lane_v.is

  ours : (at_slot s.pieces x).holder ≡ v
  ours = eqb-true (at_slot s.pieces x).holder v moved.first.ours

  others_are : without x (received s) ≡ moved.first.before ++ moved.first.after
  others_are = ap (without x) moved.first.lies ∙ (alone x moved.first.before moved.first.after (subst Once moved.first.lies once)).others

  -- the other lanes are as they were, and the slot is in none of them
  lane_without : (w : ℕ) → w ≢ v → lane rule s.pieces w (without x (received s)) ≡ lane_of rule s w
  lane_without w n =
      ap (lane rule s.pieces w) others_are
      ∙ sym (not_ours (ahead rule s.pieces) (λ i. eqb (at_slot s.pieces i).holder w) moved.first.before x moved.first.after (rw ours (grind (arith, nat_tests))))
      ∙ ap (lane rule s.pieces w) (sym moved.first.lies)

  -- the slot has left
  left_chains : (w : ℕ) → w < most_lanes → Chain (set s.next (start v) (link s.next x)) (start w) (lane rule s.pieces w (without x (received s)))
  left_chains w q = go (eqb w v) refl
    where
      none : (u : ℕ) → u < most_lanes → has (start v) (lane_of rule s u) ≡ false
      none u p = start_in_none rule s.pieces (received s) s.next h.kept.chained u p v

      go : (t : Bool) → eqb w v ≡ t → Chain (set s.next (start v) (link s.next x)) (start w) (lane rule s.pieces w (without x (received s)))
      go true e =
          let u : w ≡ v = eqb-true w v e in
          let l : lane rule s.pieces v (without x (received s)) ≡ lane_v.rest = ap (lane rule s.pieces v) others_are ∙ moved.first.left in
          rw (u, l) (chain_leave (rw lane_v.is at (h.kept.chained v h.source)) (omega (arith, links, h.source)) (has_first (start v) x lane_v.rest (rw lane_v.is at (none v h.source))).1)
      go false e =
          let n : w ≢ v = eqb-false w v e in
          rw (lane_without w n) (chain_apart (start v) (link s.next x) (h.kept.chained w q) (λ k. n (omega (arith, k))) (none w q))

  used : x < s.count
  used = first_used rule s h.kept v x lane_v.rest lane_v.is

  module _ (s₁ : Store) (l : Left v x s s₁) where
    pub joining : Joining rule d x s₁
    joining = record {
      listed = same_listed s s₁ h.kept.listed l.log l.noted l.count;
      keyed = rw (l.pieces, l.keys, l.count) h.kept.keyed;
      own = rw (l.pieces, l.keys) (h.kept.keyed x used);
      slot = h.slot;
      holder = h.destination;
      apart = λ q e. h.apart (sym ours ∙ rw l.pieces at e);
      chained = rw (l.links, l.pieces, l.log, l.noted) (rw (lane_without d (λ e. h.apart (sym e))) at (left_chains d h.destination));
    }

    module _ (s₂ : Store) (j : Joined rule d x s₁ s₂) (s₄ : Store) (next_is : s₄.next ≡ s₂.next) (pieces_is : s₄.pieces ≡ set s₂.pieces x (hand_to d (at_slot s₂.pieces x))) (keys_is : s₄.keys ≡ s₂.keys)
        (log_is : s₄.log ≡ set s₂.log s₂.noted x) (noted_is : s₄.noted ≡ s₂.noted + 1) (count_is : s₄.count ≡ s₂.count) where
      abbrev after : List Piece
      after = set s.pieces x (hand_to d (at_slot s.pieces x))

      pieces_now : s₄.pieces ≡ after
      pieces_now = rw (pieces_is, j.pieces, l.pieces) refl

      noted_now : s₄.noted ≡ s.noted + 1
      noted_now = noted_is ∙ ap (λ n. n + 1) (j.noted ∙ l.noted)

      order_now : received s₄ ≡ without x (received s) ++ (x ∷ [])
      order_now = noted_last s s₄ x (omega (arith, notes, h.room)) (rw (log_is, j.log, j.noted, l.log, l.noted) refl) noted_now

      count_now : s₄.count ≡ s.count
      count_now = count_is ∙ j.count ∙ l.count

      same : (i : ℕ) → i ≢ x → at_slot after i ≡ at_slot s.pieces i
      same = at_other s.pieces x (hand_to d (at_slot s.pieces x))

      there : at_slot after x ≡ hand_to d (at_slot s.pieces x)
      there = at_same s.pieces x (hand_to d (at_slot s.pieces x)) (omega (arith, h.slot, h.kept.slots))

      born : (i : ℕ) → (at_slot after i).birth ≡ (at_slot s.pieces i).birth
      born = in_common s.pieces x (hand_to d (at_slot s.pieces x)) (λ p. p.birth) (omega (arith, h.slot, h.kept.slots)) refl

      links_now : s₄.next ≡ put_behind x (foot (ahead rule s.pieces) x (start d) (lane rule s.pieces d (without x (received s)))) (set s.next (start v) (link s.next x))
      links_now = next_is ∙ j.links ∙ rw (l.links, l.pieces, l.log, l.noted, lane_without d (λ e. h.apart (sym e))) refl

      next_now : link s₄.next (start v) ≡ link s.next x
      next_now =
          ap (λ n. link n (start v)) links_now
          ∙ start_stays rule s.pieces (without x (received s)) (set s.next (start v) (link s.next x)) left_chains v d x h.apart h.destination h.slot
          ∙ get_or-set_same s.next (start v) (link s.next x) 0 (omega (arith, links, h.source))

      pub handed_over : (n : ℕ) → n ≡ link s.next x → HandedOver rule v d x s s₄ n
      handed_over n e = record {
        next = e ∙ sym next_now;
        kept = record {
          slots = rw pieces_now (length-set s.pieces x _ ∙ h.kept.slots);
          room = omega (arith, noted_now, h.room);
          listed = record {
            few = rw count_now h.kept.listed.few;
            noted = λ i. rw (order_now, count_now) (moved.same_slots i ∙ h.kept.listed.noted i);
            all = rw (order_now, count_now) (moved.as_many ∙ h.kept.listed.all);
          };
          keyed = λ i q. rw (pieces_now, keys_is, j.keys, l.keys) (keyed_same rule s.pieces s.keys after born i (h.kept.keyed i (rw count_now at q)));
          chained = λ w q. rw (links_now, pieces_now, order_now) (received_last rule s.pieces (without x (received s)) (set s.next (start v) (link s.next x)) left_chains after x same born
              h.slot (has_without x x (received s) ∙ rw (eq-eqb x x refl) refl) (once_without x (received s) once) (length-set s.next (start v) (link s.next x) ∙ links) d (ap (λ (p : Piece). p.holder) there) h.destination w q);
        };
        pieces = pieces_now;
        order = order_now;
        noted = noted_now;
        count = count_now;
      }
