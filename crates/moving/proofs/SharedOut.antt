-- What each piece gives is put down in one pass. What is put down, followed by the shares of the pieces left, is what all give, and likewise for the splits.
-- Assumes nothing.
use Rattle.std.proofs.Common.{◌≡◌, ◌≢◌, ◌⊎◌, List, [], ◌∷◌, ◌++◌, append_assoc, append-nil, ℕ, ◌+◌, ◌-◌, ◌≤◌, ◌<◌, add-zero, add-one, arith, length, set, take, take-suc-set, eq-eqb, ne_eqb}
use Rattle.std.proofs.lemmas.Bool.Decides.{nat_tests}
use Rattle.sharing.specs.Sharing.{up_to, share, shares}
use Rattle.sharing.proofs.Shares.{up_to_none, share_none, share_adds}
use Rattle.table.specs.declared.Piece.{Piece}
use Rattle.table.specs.Pieces.{weigh, in_vessel, held}
use Rattle.taking.specs.declared.Move.{Move}
use Rattle.taking.specs.Stirring.{weights_in, gifts, gives, giving, stirred}
use Rattle.taking.specs.Taken.{Taken}
use Rattle.moving.specs.Stirring.{Stirrable, SharesOut}

pub record SharingOut (m : Move) (T : ℕ) (all left : List Piece) (i sum given splits : ℕ) (gs : List ℕ) : Type 0 where
  pub noted : take i gs ++ shares m.weight T sum (weights_in m.source left) ≡ gifts m all
  pub counted : splits + (giving (shares m.weight T sum (weights_in m.source left)) left).split ≡ (stirred m all).split
  pub all_weight : sum + held m.source left ≡ T
  pub due : given ≡ up_to m.weight T sum
  pub place : i + length left ≡ length all
  pub most : splits ≤ i

-- the next piece p is the one at place i
abbrev Next : List Piece → Piece → List Piece → ℕ → ℕ → ℕ → ℕ → Type 0
Next left p ps i at j bound = (left ≡ p ∷ ps) × (at ≡ i) × (j ≡ i + 1) × (at + 1 < bound)

-- a piece that goes whole or stays is not split
gives_whole : (g : ℕ) (p : Piece) (r : Taken) → (g ≡ 0) ⊎ (g ≡ p.weight) → (gives g p r).split ≡ r.split
gives_whole g p r why = grind (arith, nat_tests)

module _ {m : Move} {T : ℕ} {all : List Piece} (asked : Stirrable m T all) where
  pub share_start : {left : List Piece} {i : ℕ} {gs : List ℕ} → left ≡ all → i ≡ 0 → SharingOut m T all left i 0 0 0 gs
  share_start e z = grind (arith, up_to_none m.weight T, asked.all)

  module _ {i sum given splits : ℕ} {left : List Piece} {gs : List ℕ} (so_far : SharingOut m T all left i sum given splits gs) where
    module _ {p : Piece} {ps : List Piece} {at j bound : ℕ} (next : Next left p ps i at j bound) where
      -- w is the weight that the piece has in the source
      module _ (w : ℕ) (ew : weigh (in_vessel m.source) p ≡ w) where
        noted_next : (g : ℕ) → share m.weight T sum w ≡ g → i < length gs
            → take j (set gs at g) ++ shares m.weight T (sum + w) (weights_in m.source ps) ≡ gifts m all
        unfolding shares
        noted_next g e h =
            rw (next.1, next.2, add-one, take-suc-set gs i g h, append_assoc) (rw (next.0, ew, e) at so_far.noted)

        counted_next : (g : ℕ) → share m.weight T sum w ≡ g
            → splits + (gives g p (giving (shares m.weight T (sum + w) (weights_in m.source ps)) ps)).split
            ≡ (stirred m all).split
        unfolding shares giving
        counted_next g e = rw (next.0, ew, e) at so_far.counted

        held_next : (sum + w) + held m.source ps ≡ T
        held_next = omega (arith, rw (next.0, ew) at so_far.all_weight)

      place_next : j + length ps ≡ length all
      place_next = omega (arith, rw next.0 at so_far.place, next.2)

      -- it has a place among all
      pub share_place : at < length all
      share_place = omega (arith, rw next.0 at so_far.place, next.1)

      pub share_other : p.holder ≢ m.source → i < length gs → SharingOut m T all ps j sum given splits (set gs at 0)
      share_other h g =
          let ew : weigh (in_vessel m.source) p ≡ 0 = rw (ne_eqb p.holder m.source h) in
          let none : share m.weight T sum 0 ≡ 0 = share_none m.weight T sum in
          record {
            noted = rw add-zero at (noted_next 0 ew 0 none g);
            counted = rw add-zero at (counted_next 0 ew 0 none);
            all_weight = rw add-zero at (held_next 0 ew);
            due = so_far.due;
            place = place_next;
            most = omega (arith, so_far.most, next.2);
          }

      -- the source's own: its weight counts, and the sum stays within what the source holds
      own : p.holder ≡ m.source → weigh (in_vessel m.source) p ≡ p.weight
      own h = rw (eq-eqb p.holder m.source h)

      pub share_sum : p.holder ≡ m.source → sum + p.weight ≤ T
      share_sum h = omega (arith, held_next p.weight (own h))

      -- the source's own: due is what falls to the pieces up to and with this one
      module _ {due : ℕ} (ours : p.holder ≡ m.source) (ed : due ≡ up_to m.weight T (sum + p.weight)) where
        some : 0 < T
        some = omega (arith, asked.more)

        pub share_grows : given ≤ due
        share_grows = omega (arith, so_far.due, share_adds m.weight T some sum p.weight)

        gift : share m.weight T sum p.weight ≡ due - given
        gift = rw (ed, so_far.due)

        -- it goes whole, or not at all
        pub share_whole : (due - given ≡ 0) ⊎ (due - given ≡ p.weight) → i < length gs
            → SharingOut m T all ps j (sum + p.weight) due splits (set gs at (due - given))
        share_whole why g = record {
          noted = noted_next p.weight (own ours) (due - given) gift g;
          counted = rw (gives_whole (due - given) p _ why) at (counted_next p.weight (own ours) (due - given) gift);
          all_weight = held_next p.weight (own ours);
          due = ed;
          place = place_next;
          most = omega (arith, so_far.most, next.2);
        }

        pub share_split : due - given ≢ 0 → due - given ≢ p.weight → i < length gs
            → SharingOut m T all ps j (sum + p.weight) due (splits + 1) (set gs at (due - given))
        share_split n h g = record {
          noted = noted_next p.weight (own ours) (due - given) gift g;
          counted =
              let r = counted_next p.weight (own ours) (due - given) gift in
              omega (arith, rw (ne_eqb (due - given) 0 n, ne_eqb (due - given) p.weight h) at r);
          all_weight = held_next p.weight (own ours);
          due = ed;
          place = place_next;
          most = omega (arith, so_far.most, next.2);
        }

    pub share_end : left ≡ [] → SharesOut m all gs splits
    unfolding shares giving
    share_end e = grind (arith, append-nil (take i gs))
