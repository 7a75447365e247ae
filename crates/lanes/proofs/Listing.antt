-- The last notes of a log are listed from the newest on. The invariant: of the notes behind, the slots are marked as seen, and the last notes are listed at the end of the
-- room for all.
-- Assumes nothing.
use Rattle.std.proofs.Common.{◌≡◌, refl, sym, ap, ◌∙◌, Bool, true, false, ◌||◌, List, [], ◌∷◌, ℕ, suc, ◌+◌, ◌-◌, ◌≤◌, ◌<◌, arith, eqb, length, get_or, set, take, drop, replicate, length-set, length-take-le, get_or-take, eqb-true, ltb-true}
use Rattle.std.proofs.lemmas.Bool.Decides.{nat_tests}
use Rattle.std.proofs.lemmas.List.{drop_more, drop-set, get_or-set_same, get_or-set_other, get_or-replicate, length-replicate}
use Rattle.std.proofs.Math.Seq.{take-set-lt, drop-length}
use borrow.Author.Tests.{eqb-false}
use Rattle.table.specs.Table.{most_places}
use Rattle.lanes.specs.Notes.{has, latest}
use Rattle.lanes.specs.Closing.{Listable, Lists}
use Rattle.lanes.specs.declared.Store.{Store}
use Rattle.lanes.specs.Store.{most_notes, Listed}
use Rattle.lanes.proofs.Notes.{has_at, has_latest, length_latest_drop, latest_drop}

-- the last k of the notes
abbrev newest : List ℕ → ℕ → List ℕ
newest notes k = drop (length notes - k) notes

pub record Listing (notes : List ℕ) (count : ℕ) (seen : List Bool) (last : List ℕ) (free k : ℕ) : Type 0 where
  pub marks : length seen ≡ most_places
  pub seen_is : (i : ℕ) → i < most_places → get_or seen i false ≡ has i (newest notes k)
  pub free_is : free + length (latest (newest notes k)) ≡ count
  pub listed : drop free (take count last) ≡ latest (newest notes k)
  pub room : count ≤ length last

module _ (log : List ℕ) (noted count : ℕ) (last₀ : List ℕ) (able : Listable log noted count last₀) where
  abbrev notes : List ℕ
  notes = take noted log

  length_notes : length notes ≡ noted
  length_notes = length-take-le noted log able.inside

  pub listing_start : Listing notes count (replicate most_places false) last₀ count 0
  unfolding has latest
  listing_start =
      let none : newest notes 0 ≡ [] = ap (λ n. drop n notes) {y = length notes} (omega arith) ∙ drop-length notes in
      let w : length (take count last₀) ≡ count = length-take-le count last₀ able.room in
      record {
        marks = length-replicate most_places false;
        seen_is = λ i h. rw none (get_or-replicate most_places i false false h);
        free_is = rw none (omega arith);
        listed = rw none (ap (λ n. drop n (take count last₀)) {y = length (take count last₀)} (sym w) ∙ drop-length (take count last₀));
        room = able.room;
      }

  module _ (seen : List Bool) (last : List ℕ) (free k : ℕ) (l : Listing notes count seen last free k) where
    -- as many are listed as there are
    pub listing_full : free ≡ 0 → Lists notes count last
    listing_full none =
        let m : length (latest (newest notes k)) ≡ length (latest notes) = omega (arith, l.free_is, none, able.all) in
        rw none at l.listed ∙ latest_drop (length notes - k) notes m

    pub listing_end : k ≡ noted → Lists notes count last
    listing_end e =
        let all : newest notes k ≡ notes = ap (λ n. drop n notes) {y = 0} (omega (arith, e, length_notes)) in
        let m : length (latest (newest notes k)) ≡ length (latest notes) = ap (λ q. length (latest q)) all in
        listing_full (omega (arith, l.free_is, m, able.all))

    module _ (x : ℕ) (lies : x ≡ get_or log (noted - 1 - k) 0) (q : k < noted) where
      here : x ≡ get_or notes (noted - 1 - k) 0
      here = lies ∙ sym (get_or-take noted log (noted - 1 - k) 0 (omega (arith, q)))

      -- the note that is looked at, before those looked at
      next : newest notes (k + 1) ≡ x ∷ newest notes k
      next =
          let p : length notes - (k + 1) ≡ noted - 1 - k = omega (arith, length_notes) in
          let r : (noted - 1 - k) + 1 ≡ length notes - k = omega (arith, q, length_notes) in
          rw (p, ← r, here) (drop_more notes (noted - 1 - k) 0 (omega (arith, q, length_notes)))

      pub slot_of : x < most_places
      slot_of = able.slots x (rw here (has_at notes (noted - 1 - k) (omega (arith, q, length_notes))))

      pub seen_before : get_or seen x false ≡ true → Listing notes count seen last free (k + 1)
      unfolding has latest
      seen_before e =
          let old : has x (newest notes k) ≡ true = sym (l.seen_is x slot_of) ∙ e in
          record {
            marks = l.marks;
            seen_is = λ i h. rw next (grind (arith, nat_tests, l.seen_is i h, l.seen_is x slot_of));
            free_is = rw (next, old) l.free_is;
            listed = rw (next, old) l.listed;
            room = l.room;
          }

      module _ (e : get_or seen x false ≡ false) where
        new : has x (newest notes k) ≡ false
        new = sym (l.seen_is x slot_of) ∙ e

        pub some_free : 1 ≤ free
        unfolding latest
        some_free =
            let n = length_latest_drop (length notes - (k + 1)) notes in
            let m : length (latest (newest notes (k + 1))) ≡ suc (length (latest (newest notes k))) = rw (next, new) refl in
            omega (arith, n, m, l.free_is, able.all)

        pub free_fits : free - 1 < length last
        free_fits = omega (arith, some_free, l.free_is, l.room)

        pub newly_seen : Listing notes count (set seen x true) (set last (free - 1) x) (free - 1) (k + 1)
        unfolding has latest
        newly_seen =
            let f : free - 1 < count = omega (arith, some_free, l.free_is) in
            let b : (free - 1) + 1 ≡ free = omega (arith, some_free) in
            let w : length (take count last) ≡ count = length-take-le count last l.room in
            record {
              marks = length-set seen x true ∙ l.marks;
              seen_is = λ i h. rw next (go i h (eqb i x) refl);
              free_is = rw (next, new) (omega (arith, some_free, l.free_is));
              listed = rw (next, new, take-set-lt count last (free - 1) x f, drop-set (take count last) (free - 1) x (omega (arith, w, f)), b) (ap (λ (m : List ℕ). x ∷ m) l.listed);
              room = rw (length-set last (free - 1) x) l.room;
            }
          where
            go : (i : ℕ) → i < most_places → (t : Bool) → eqb i x ≡ t → get_or (set seen x true) i false ≡ t || has i (newest notes k)
            go i h true u = rw (eqb-true i x u, get_or-set_same seen x true false (omega (arith, slot_of, l.marks))) refl
            go i h false u = get_or-set_other seen x i true false (eqb-false i x u) ∙ l.seen_is i h

-- the log of memory that is kept in order
pub closable : (s : Store) → Listed s → s.noted ≤ most_notes → most_notes ≤ length s.log → most_places ≤ length s.spare → Listable s.log s.noted s.count s.spare
closable s c room long wide = record {
  inside = omega (arith, room, long);
  slots = λ i h. let q = ltb-true i s.count (sym (c.noted i) ∙ (has_latest i (take s.noted s.log) ∙ h)) in omega (arith, q, c.few);
  all = c.all;
  room = omega (arith, c.few, wide);
}

-- memory with the same notes
pub same_listed : (s s' : Store) → Listed s → s'.log ≡ s.log → s'.noted ≡ s.noted → s'.count ≡ s.count → Listed s'
same_listed s s' l log noted count = record { few = rw count l.few; noted = rw (log, noted, count) l.noted; all = rw (log, noted, count) l.all }
