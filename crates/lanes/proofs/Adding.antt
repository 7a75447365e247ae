-- A new slot holds a piece: it joins the lane of the piece's holder, and is received last.
-- Assumes nothing.
use Rattle.std.proofs.Common.{Bool, ◌≡◌, refl, ap, ◌∙◌, false, ◌||◌, List, [], ◌∷◌, ◌++◌, ℕ, ◌+◌, ◌<◌, arith, ltb, length, length-append, length-set, set, take, eqb, eqb-true, true, false}
use Rattle.std.proofs.lemmas.Bool.Decides.{nat_tests}
use borrow.Author.Tests.{eqb-false}
use Rattle.table.specs.declared.Piece.{Piece}
use Rattle.table.specs.Table.{most_places}
use Rattle.lanes.specs.Notes.{has}
use Rattle.lanes.specs.Order.{at_slot, ahead, lane}
use Rattle.lanes.specs.Keys.{key, Keyed}
use Rattle.lanes.specs.Chains.{start, Chain, foot, put_behind}
use Rattle.lanes.specs.Lanes.{most_lanes}
use Rattle.lanes.specs.declared.Store.{Store}
use Rattle.lanes.specs.Store.{most_notes, received, lane_of}
use Rattle.lanes.specs.Steps.{Joining, Joined, Addable, Added}
use Rattle.lanes.proofs.Notes.{has_append, without_none, once_latest}
use Rattle.lanes.proofs.Hops.{lane_kept, at_same, at_other}
use Rattle.lanes.proofs.ByKeys.{keyed_other, keyed_new}
use Rattle.lanes.proofs.Listing.{same_listed}
use Rattle.lanes.proofs.Receiving.{received_last}
use Rattle.lanes.proofs.HandingOver.{noted_last}

module _ (rule : ℕ) (p : Piece) (s : Store) (h : Addable rule p s) (links : length s.next ≡ most_places + most_lanes)
    (notes : length s.log ≡ most_notes) (wide : length s.keys ≡ most_places) where
  abbrev after : List Piece
  after = set s.pieces s.count p

  new : has s.count (received s) ≡ false
  new = h.kept.listed.noted s.count ∙ grind (arith, nat_tests)

  lanes_are : (v : ℕ) → lane rule after v (received s) ≡ lane_of rule s v
  lanes_are = lane_kept s.pieces after s.count (at_other s.pieces s.count p) rule (received s) new

  chains : (v : ℕ) → v < most_lanes → Chain s.next (start v) (lane rule after v (received s))
  chains v q = rw (lanes_are v) (h.kept.chained v q)

  -- keys
  former : (i : ℕ) → i < s.count → Keyed rule after (set s.keys s.count (key rule p.birth)) i
  former i q = keyed_other rule s.pieces s.keys s.count p i (λ e. omega (arith, e, q)) (h.kept.keyed i q)

  own_key : Keyed rule after (set s.keys s.count (key rule p.birth)) s.count
  own_key = keyed_new rule s.pieces s.keys s.count p (omega (arith, h.place, h.kept.slots)) (omega (arith, h.place, wide)) h.birth

  -- memory with the piece in its slot
  module _ (s₁ : Store) (pieces_is : s₁.pieces ≡ after) (next_is : s₁.next ≡ s.next) (log_is : s₁.log ≡ s.log) (noted_is : s₁.noted ≡ s.noted) (count_is : s₁.count ≡ s.count) (keys_is : s₁.keys ≡ set s.keys s.count (key rule p.birth)) where
    pub joining_new : Joining rule p.holder s.count s₁
    joining_new = record {
      listed = same_listed s s₁ h.kept.listed log_is noted_is count_is;
      keyed = λ i q. let u : i < s.count = rw count_is at q in rw (pieces_is, keys_is) (former i u);
      own = rw (pieces_is, keys_is) own_key;
      slot = h.place;
      holder = h.holder;
      apart = λ q. absurd (omega (arith, q, count_is));
      chained = rw (next_is, pieces_is, log_is, noted_is) (chains p.holder h.holder);
    }

    module _ (s₂ : Store) (j : Joined rule p.holder s.count s₁ s₂) (s₃ : Store) (links_is : s₃.next ≡ s₂.next) (holds : s₃.pieces ≡ s₂.pieces) (keys_hold : s₃.keys ≡ s₂.keys)
        (noting : s₃.log ≡ set s₂.log s₂.noted s.count) (one_more : s₃.noted ≡ s₂.noted + 1) (counted : s₃.count ≡ s.count + 1) where
      pieces_now : s₃.pieces ≡ after
      pieces_now = holds ∙ j.pieces ∙ pieces_is

      noted_now : s₃.noted ≡ s.noted + 1
      noted_now = one_more ∙ ap (λ n. n + 1) (j.noted ∙ noted_is)

      order_now : received s₃ ≡ received s ++ (s.count ∷ [])
      order_now =
          noted_last s s₃ s.count (omega (arith, notes, h.room)) (rw (noting, j.log, j.noted, log_is, noted_is) refl) noted_now
          ∙ ap (λ (l : List ℕ). l ++ (s.count ∷ [])) (without_none s.count (received s) new)

      links_now : s₃.next ≡ put_behind s.count (foot (ahead rule after) s.count (start p.holder) (lane rule after p.holder (received s))) s.next
      links_now = links_is ∙ j.links ∙ rw (next_is, pieces_is, log_is, noted_is) refl

      there : at_slot after s.count ≡ p
      there = at_same s.pieces s.count p (omega (arith, h.place, h.kept.slots))

      one_more_slot : (i : ℕ) → has i (received s) || has i (s.count ∷ []) ≡ ltb i (s.count + 1)
      unfolding has
      one_more_slot i = let q = h.kept.listed.noted i in grind (arith, nat_tests)

      pub added : Added rule p s s₃
      added = record {
        kept = record {
          slots = rw pieces_now (length-set s.pieces s.count p ∙ h.kept.slots);
          room = omega (arith, noted_now, h.room);
          listed = record {
            few = omega (arith, counted, h.place);
            noted = λ i. rw (order_now, counted) (has_append i (received s) (s.count ∷ []) ∙ one_more_slot i);
            all = rw (order_now, counted) (simp length-append (omega (arith, h.kept.listed.all)));
          };
          keyed = λ i q. rw (pieces_now, keys_hold, j.keys, keys_is) (each i (eqb i s.count) refl (rw counted at q));
          chained = λ v q. rw (links_now, pieces_now, order_now) (received_last rule after (received s) s.next chains after s.count (λ i n. refl) (λ i. refl)
              h.place new (once_latest (take s.noted s.log)) links p.holder (ap (λ (k : Piece). k.holder) there) h.holder v q);
        };
        pieces = pieces_now;
        order = order_now;
        count = counted;
      }
        where
          each : (i : ℕ) (t : Bool) → eqb i s.count ≡ t → i < s.count + 1 → Keyed rule after (set s.keys s.count (key rule p.birth)) i
          each i true e q = rw (eqb-true i s.count e) own_key
          each i false e q = let n = eqb-false i s.count e in former i (omega (arith, q, n))
