-- What is taken by plan is what the four first rules take. In the plan a picked piece leaves a vacant place; in `singly` those behind it close up at
-- once. So at each pick the pieces of `singly` are those that stay in the plan, and the pick is the first key of the order (proofs/Picks.antt).
-- Assumes nothing.
use Rattle.std.proofs.Common.{◌≡◌, refl, sym, ap, ◌∙◌, ◌≢◌, Bool, true, false, List, [], ◌∷◌, ◌++◌, ℕ, zero, suc, ◌+◌, ◌-◌, ◌≤◌, ◌<◌, min, arith, leb, eqb, length, get_or, set, length-append, eqb-true, ne_eqb}
use mathlib.Core.List.{reverse-append}
use native.Mathlib.Nat.{sub-zero}
use lib.ListN.{length-reverse}
use Rattle.std.proofs.lemmas.Bool.{cases_eq, cases_lt}
use Rattle.std.proofs.lemmas.Bool.Decides.{nat_tests}
use Rattle.std.proofs.lemmas.Grind.{common_steps}
use lib.Seq.{set_out, get_or_at, set_at, set-get_or}
use borrow.Author.Tests.{eqb-false}
use Rattle.table.specs.declared.Piece.{Piece}
use Rattle.table.specs.Pieces.{no_piece, of_weight, All}
use Rattle.table.specs.Table.{most_places}
use Rattle.table.specs.Closing.{VACANT, vacated, Present, stay}
use Rattle.table.proofs.ClosingUp.{stay_append, stay_all}
use Rattle.sorting.proofs.Laws.{length_sort}
use Rattle.picking.specs.declared.plan.Plan.{Plan}
use Rattle.taking.specs.Selection.{Found, nothing, at, select}
use Rattle.taking.specs.declared.Move.{Move}
use Rattle.taking.specs.Taken.{Taken, stop, one_whole}
use Rattle.taking.specs.Taking.{take_from, take_found, take_next, take_up_to, singly}
use Rattle.picking.specs.Plan.{by_birth, backwards, key_of, place_of, at_key, keys_of, turned, order_of, vacate_at, vacate_all, picked, halt, plan_from, reduced, taken_by, planned}
use Rattle.picking.proofs.Picks.{prefers, rule_is, place_key, Headed, Picked, picks_first}

-- a selection, where only the pieces that stay are there
abbrev seen : Found → Found
seen nothing = nothing
seen (at b x a) = at (stay b) x (stay a)

select_stay : (better : Piece → Piece → Bool) (s : ℕ) → s ≢ VACANT → (ms : List Piece) → select better s (stay ms) ≡ seen (select better s ms)
unfolding stay
select_stay better s apart [] = refl
select_stay better s apart (p ∷ ms) = grind (arith, nat_tests, select_stay better s apart ms)

-- The order is nothing where nothing is picked, else the pick's key and the order without it.
abbrev Starts : Bool → Bool → ℕ → List Piece → Found → Type 0
Starts old back s ms nothing = order_of old back s 0 ms ≡ []
Starts old back s ms (at b x a) =
    (k : ℕ) × (ms ≡ b ++ (x ∷ a)) × (x.holder ≡ s) × (place_of k ≡ length b)
    × (order_of old back s 0 ms ≡ k ∷ order_of old back s 0 (b ++ (vacated x ∷ a)))

starts : (old back : Bool) (s : ℕ) → s ≢ VACANT → (ms : List Piece) → length ms ≤ most_places → Starts old back s ms (select (prefers old back) s ms)
starts old back s apart ms h = go back (select (prefers old back) s ms) (picks_first old s apart back 0 ms (omega arith))
  where
    order : (back : Bool) (k : ℕ) (ks ts : List ℕ) → Headed back k ks ts → turned back ks ≡ k ∷ turned back ts
    order false k ks ts u = u
    order true k ks ts (u, m) = rw u (reverse-append ts (k ∷ []))

    go : (back : Bool) (f : Found) → Picked old s apart back 0 ms f → Starts old back s ms f
    go back nothing u = grind arith
    go back (at b x a) (g, hx, u) =
        let l : length b < most_places = omega (arith, ap length g, length-append b (x ∷ a)) in
        let z : 0 + length b ≡ length b = omega arith in
        (key_of old (0 + length b) x, g, hx, rw z (place_key old (length b) x l), order back _ _ _ u)

-- The plan: counted from further on; and it looks at weights only.
abbrev further : Plan → Plan
further r = record { whole = suc r.whole; left = r.left }

plan_suc : (ks : List ℕ) (c want : ℕ) (ps : List Piece) → plan_from (suc c) ks want ps ≡ further (plan_from c ks want ps)
unfolding plan_from
plan_suc [] c want ps = refl
plan_suc (k ∷ ks) c want ps = grind (arith, plan_suc ks (suc c) (want - (at_key ps k).weight) ps)

weight_vacated : (i j : ℕ) (ps : List Piece) → (get_or (vacate_at i ps) j no_piece).weight ≡ (get_or ps j no_piece).weight
weight_vacated i j ps = grind (arith, common_steps, cases_eq i j, cases_lt i (length ps), set_out ps i)

plan_vacated : (i : ℕ) (ks : List ℕ) (c want : ℕ) (ps : List Piece) → plan_from c ks want (vacate_at i ps) ≡ plan_from c ks want ps
unfolding plan_from
plan_vacated i [] c want ps = refl
plan_vacated i (k ∷ ks) c want ps = rw (weight_vacated, plan_vacated i ks)

-- one key more goes whole
taken_by_suc : (k : ℕ) (ks : List ℕ) (ps : List Piece) (r : Plan) → taken_by (k ∷ ks) ps (further r)
    ≡ one_whole (at_key ps k) (taken_by ks (vacate_at (place_of k) ps) r)
unfolding vacate_all picked
taken_by_suc k ks ps r = refl

-- nothing more is wanted
pub reduced_zero : (ks : List ℕ) (ps : List Piece) → reduced 0 ks ps ≡ ps
reduced_zero [] ps = refl
reduced_zero (k ∷ ks) ps = rw (sub-zero (at_key ps k).weight) (set-get_or ps (place_of k) no_piece)

reached : (ks : List ℕ) (want : ℕ) (ps : List Piece) → want ≡ 0 → stop want (stay ps) ≡ taken_by ks ps (plan_from 0 ks want ps)
unfolding plan_from vacate_all picked
reached [] want ps e = refl
reached (k ∷ ks) want ps e = rw (e, reduced_zero (k ∷ ks) ps)

-- x is picked between b and a, and k is its key
module _ (more : ℕ → List Piece → Taken) (s want : ℕ) (b : List Piece) (x : Piece) (a : List Piece) (k : ℕ) (ks : List ℕ)
    (apart : s ≢ VACANT) (wanted : want ≢ 0) (hx : x.holder ≡ s) (pk : place_of k ≡ length b) where
  abbrev all : List Piece
  all = b ++ (x ∷ a)

  there : at_key all k ≡ x
  there = get_or_at b x a no_piece (place_of k) (sym pk)

  put : (y : Piece) → set all (place_of k) y ≡ b ++ (y ∷ a)
  put y = set_at b x a y (place_of k) (sym pk)

  gone : vacate_at (place_of k) all ≡ b ++ (vacated x ∷ a)
  gone = rw there (put (vacated x))

  stay_gone : stay (b ++ (vacated x ∷ a)) ≡ stay b ++ stay a
  unfolding stay
  stay_gone = stay_append b (vacated x ∷ a)

  stay_put : (y : Piece) → y.holder ≡ s → stay (b ++ (y ∷ a)) ≡ stay b ++ (y ∷ stay a)
  unfolding stay
  stay_put y e = grind (arith, nat_tests, stay_append b (y ∷ a))

  abbrev less : List Piece
  less = b ++ (vacated x ∷ a)

  abbrev rest : ℕ
  rest = want - x.weight

  turn : (t : Bool) → leb x.weight want ≡ t → more rest (stay less) ≡ taken_by ks less (plan_from 0 ks rest less)
      → take_from more want (stay b) x (stay a) t ≡ taken_by (k ∷ ks) all (plan_from 0 (k ∷ ks) want all)
  unfolding plan_from vacate_all picked
  turn true e i =
      let p : plan_from 0 (k ∷ ks) want all ≡ plan_from 1 ks rest all = rw (ne_eqb _ _ wanted, there, e) in
      let q : plan_from 0 ks rest less ≡ plan_from 0 ks rest all = rw (← gone) (plan_vacated (place_of k) ks 0 rest all) in
      let o : taken_by (k ∷ ks) all (plan_from 1 ks rest all) ≡ one_whole (at_key all k) (taken_by ks (vacate_at (place_of k) all) (plan_from 0 ks rest all)) =
      ap (taken_by (k ∷ ks) all) (plan_suc ks 0 rest all) ∙ taken_by_suc k ks all _ in
      ap (λ (l : List Piece). one_whole x (more rest l)) (sym stay_gone)
      ∙ ap (one_whole x) (i ∙ ap (taken_by ks less) q)
      ∙ sym (ap (taken_by (k ∷ ks) all) p ∙ o ∙ rw (gone, there))
  turn false e i =
      let p : plan_from 0 (k ∷ ks) want all ≡ halt 0 want = rw (ne_eqb _ _ wanted, there, e) in
      let o : stay (reduced want (k ∷ ks) all) ≡ stay b ++ (of_weight (x.weight - want) x ∷ stay a) =
      rw (there, put) (stay_put (of_weight (x.weight - want) x) hx) in
      let m : min 1 want ≡ 1 = omega arith in
      rw p (rw (o, there, ne_eqb _ _ wanted, m))

module _ (old back : Bool) (s : ℕ) (apart : s ≢ VACANT) where
  abbrev pick : List Piece → Found
  pick = select (prefers old back) s

  abbrev order : List Piece → List ℕ
  order ms = order_of old back s 0 ms

  abbrev planning : ℕ → List Piece → Taken
  planning want ms = taken_by (order ms) ms (plan_from 0 (order ms) want ms)

  abbrev Same : ℕ → Type 0
  Same n = (want : ℕ) (ms : List Piece) → length ms ≤ most_places → length (order ms) ≤ n → take_up_to pick n want (stay ms) ≡ planning want ms

  same : (n : ℕ) → Same n
  unfolding take_up_to plan_from vacate_all picked
  same zero want ms h f = go (order ms) f
    where
      go : (ks : List ℕ) → length ks ≤ 0 → stop want (stay ms) ≡ taken_by ks ms (plan_from 0 ks want ms)
      go [] f = refl
      go (k ∷ ks) f = absurd (omega arith)
  same (suc n) want ms h f = next (eqb want 0) refl (same n)
    where
      found : want ≢ 0 → (x : Found) → Starts old back s ms x → Same n → take_found (take_up_to pick n) want (stay ms) (seen x) ≡ planning want ms
      found w nothing e i = rw e
      found w (at b x a) (k, g, hx, pk, e) i =
          let ls : List Piece = b ++ (vacated x ∷ a) in
          let short : length ls ≤ most_places = simp length-append (omega (arith, simp length-append at (ap length g))) in
          let fuel : length (order ls) ≤ n = omega (arith, ap length e) in
          rw (e, g) (turn (take_up_to pick n) s want b x a k (order ls) apart w hx pk (leb x.weight want) refl (i (want - x.weight) ls short fuel))

      next : (t : Bool) → eqb want 0 ≡ t → Same n → take_next pick (take_up_to pick n) want (stay ms) t ≡ planning want ms
      next true e i = reached (order ms) want ms (eqb-true _ _ e)
      next false e i = rw (select_stay (prefers old back) s apart ms) (found (eqb-false _ _ e) (pick ms) (starts old back s apart ms h) i)

-- as many keys as pieces, at most
length_keys : (old : Bool) (s i : ℕ) (ps : List Piece) → length (keys_of old s i ps) ≤ length ps
unfolding keys_of
length_keys old s i [] = omega arith
length_keys old s i (p ∷ ps) = grind (arith, length_keys old s (suc i) ps)

length_order : (old back : Bool) (s i : ℕ) (ps : List Piece) → length (order_of old back s i ps) ≤ length ps
length_order old true s i ps = rw (length-reverse, length_sort) (length_keys old s i ps)
length_order old false s i ps = rw length_sort (length_keys old s i ps)

-- The theorem.
pub singly_planned : (rule : ℕ) (x : Move) (ps : List Piece) → x.source < VACANT → length ps ≤ most_places → All Present ps
    → singly rule x ps ≡ planned rule x ps
unfolding planned
singly_planned rule x ps hs h u =
    let old = by_birth rule in
    let back = backwards rule in
    let apart : x.source ≢ VACANT = λ e. omega arith in
    ap (λ (better : Piece → Piece → Bool). take_up_to (select better x.source) (length ps) x.weight ps) (rule_is rule)
    ∙ (rw (stay_all ps u) at (same old back x.source apart (length ps) x.weight ps h (length_order old back x.source 0 ps)))
