-- Calls in numbers are the calls in their groups of six.
-- Assumes nothing.
use Rattle.std.proofs.Common.{◌≡◌, refl, ap, ap₂, ◌∙◌, Bool, true, false, ◌||◌, cond, List, ◌∷◌, ◌++◌, map, ℕ, zero, suc, ◌/◌, min, ◌≤◌, ◌<◌, arith, length, get_or, take, drop, Result, Ok}
use Rattle.std.proofs.lemmas.List.{get_or-take}
use Rattle.std.specs.List.{list_any}
use Rattle.std.specs.Result.{IsErrAnd}
use Rattle.std.specs.Simd.{first_chunks}
use Rattle.refusal.specs.declared.Refusal.{Refusal}
use Rattle.refusal.specs.Refusals.{number_of}
use Rattle.refusal.proofs.Refusals.{some_number}
use Rattle.journal.specs.declared.Call.{Call}
use Rattle.encoding.specs.Encoding.{call_size, call_listed, age_off, ages_off, calls_in, count_calls, Reads}

-- the first n calls, six numbers each
abbrev pub groups : ℕ → List ℕ → List (List ℕ)
groups = first_chunks call_size

first_groups : (n m : ℕ) (l : List ℕ) → n ≤ m → take n (groups m l) ≡ groups n l
first_groups zero m l h = refl
first_groups (suc n) zero l h = absurd (omega arith)
first_groups (suc n) (suc m) l h =
    ap (λ (k : List (List ℕ)). take call_size l ∷ k) (first_groups n m (drop call_size l) (omega arith))

count_groups : (n : ℕ) (l : List ℕ) → length (groups n l) ≡ n
count_groups zero l = refl
count_groups (suc n) l = ap suc (count_groups n (drop call_size l))

module _ (l : List ℕ) where
  six : (i : ℕ) → i < call_size → get_or (take call_size l) i 0 ≡ get_or l i 0
  six i h = get_or-take call_size l i 0 h

  group_age : age_off (take call_size l) ≡ age_off l
  unfolding age_off
  group_age = rw (six 0 (omega arith), six 4 (omega arith), six 5 (omega arith)) refl

  group_call : call_listed (take call_size l) ≡ call_listed l
  unfolding call_listed
  group_call =
      rw (six 0 (omega arith), six 1 (omega arith), six 2 (omega arith), six 3 (omega arith), six 4 (omega arith), six 5 (omega arith)) refl

grouped_ages : (n : ℕ) (l : List ℕ) → list_any age_off (groups n l) ≡ ages_off n l
unfolding ages_off
grouped_ages zero l = refl
grouped_ages (suc n) l = ap₂ (λ (a b : Bool). a || b) (group_age l) (grouped_ages n (drop call_size l))

grouped_calls : (n : ℕ) (l : List ℕ) → map call_listed (groups n l) ≡ calls_in n l
unfolding calls_in
grouped_calls zero l = refl
grouped_calls (suc n) l =
    ap₂ (λ (c : Call) (cs : List Call). c ∷ cs) (group_call l) (grouped_calls n (drop call_size l))

-- `read_calls`, at its returns: the groups that it reads are the first, as many as there is room for
module _ (l : List ℕ) (cs : List Call) (gs : List (List ℕ)) (n : ℕ) (ea : gs ≡ groups (length l / call_size) l)
    (en : n ≡ min (length gs) (length cs)) where
  counted : n ≡ count_calls l (length cs)
  counted = en ∙ ap (λ (k : ℕ). min k (length cs)) (ap length ea ∙ count_groups (length l / call_size) l)

  the_groups : take n gs ≡ groups n l
  the_groups = ap (take n) ea ∙ first_groups n (length l / call_size) l (omega (arith, counted))

  the_ages : list_any age_off (take n gs) ≡ ages_off (count_calls l (length cs)) l
  the_ages = ap (list_any age_off) the_groups ∙ grouped_ages n l ∙ ap (λ (k : ℕ). ages_off k l) counted

  pub read_refused : (why : Refusal) → number_of why ≡ cond (list_any age_off (take n gs)) 18 0
      → (r : Result ℕ Refusal) → IsErrAnd r (λ (other : Refusal). other ≡ why) → Reads l cs cs r
  read_refused why e r er = go (list_any age_off (take n gs)) refl
    where
      go : (b : Bool) → list_any age_off (take n gs) ≡ b → Reads l cs cs r
      go true eb =
          let a : ages_off (count_calls l (length cs)) l ≡ true = rw (← the_ages) eb in
          record { off = λ u. (grind (arith, e, eb), refl); on = λ u. absurd (grind (arith, a, u)) }
      go false eb = absurd (some_number why (e ∙ rw eb))

  module _ (e : ◌≡◌ {A = ℕ} 0 (cond (list_any age_off (take n gs)) 18 0)) where
    none_off : list_any age_off (take n gs) ≡ false
    none_off = go (list_any age_off (take n gs)) e
      where
        go : (b : Bool) → ◌≡◌ {A = ℕ} 0 (cond b 18 0) → b ≡ false
        go true z = absurd (omega (arith, z))
        go false z = refl

    size : length (take n gs) ≡ n
    size = ap length the_groups ∙ count_groups n l

    pub fill_ready : (length (take n gs) ≤ length cs) × (list_any age_off (take n gs) ≡ false)
    fill_ready = (omega (arith, size, en), none_off)

    pub read_done : (cs' : List Call) → cs' ≡ map call_listed (take n gs) ++ drop (length (take n gs)) cs
        → Reads l cs cs' (Ok n)
    read_done cs' ec =
        let a : ages_off (count_calls l (length cs)) l ≡ false = rw (← the_ages) none_off in
        record {
          off = λ u. absurd (grind (arith, a, u));
          on = λ u. (ap Ok counted, ec ∙ rw (size, the_groups, grouped_calls n l, counted) refl);
        }
