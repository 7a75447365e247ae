-- Laws of movements: the scan for a movement that fails a check, and what passed checks tell.
-- Assumes nothing.
use Rattle.std.proofs.Common.{ℕ, zero, suc, ◌+◌, ◌<◌, ◌≤◌, Bool, false, ◌≡◌, refl, sym, ◌∙◌, List, [], ◌∷◌, ◌++◌, length, get_or, drop, drop_of_length-le, map, leb-false, ltb-false, le-ltb, T, leb, ltb, arith}
use Rattle.std.proofs.lemmas.List.{drop_more}
use Rattle.std.proofs.lemmas.Bool.{or_parts}
use Rattle.refusal.specs.Numbers.{Check, ◌if◌, first, if_zero}
use Rattle.refusal.proofs.Numbers.{named, passed, first_append, not_zero, passed_first, passed_second, named_append, refuses_less, alike_behind}
use Rattle.book.specs.Transfer.{most_age}
use Rattle.fields.specs.declared.entries.Entry.{Entry}
use Rattle.fields.specs.Movements.{no_entry, entry_checks, given_checks, entries_checks}

-- both kinds of checks of a movement have numbers
pub named_entry : (vessels : ℕ) (e : Entry) → T (named (entry_checks vessels e))
named_entry vessels e = tt

pub named_given : (vessels : ℕ) (e : Entry) → T (named (given_checks vessels e))
named_given vessels e = tt

-- the checks of each movement in turn, whatever those of one are
module _ (checks : Entry → List Check) (ok : (e : Entry) → T (named (checks e))) where
  pub named_entries : (es : List Entry) → T (named (entries_checks checks es))
  unfolding entries_checks
  named_entries [] = tt
  named_entries (e ∷ es) = named_append (checks e) (entries_checks checks es) (ok e) (named_entries es)

  -- those of the movements left, from one on
  next_check : (e : Entry) (es : List Entry)
      → first (entries_checks checks (e ∷ es)) ≡ if_zero (first (checks e)) (first (entries_checks checks es)) (first (checks e))
  unfolding entries_checks
  next_check e es = first_append (checks e) (entries_checks checks es) (ok e)

  -- where none applies, none of any movement does
  pub each_passed : (es : List Entry) → first (entries_checks checks es) ≡ 0 → (i : ℕ) → i < length es → first (checks (get_or es i no_entry)) ≡ 0
  unfolding entries_checks
  each_passed [] z i h = absurd (omega arith)
  each_passed (e ∷ es) z zero h = passed_first (checks e) (entries_checks checks es) (ok e) z
  each_passed (e ∷ es) z (suc i) h = each_passed es (passed_second (checks e) (entries_checks checks es) (ok e) z) i (omega arith)

-- a scan of movements for one that fails a check: what those left tell, from movement i on, by what movement i does
module _ (checks : Entry → List Check) (make : List ℕ → Entry) (l : List (List ℕ)) (i : ℕ) where
  abbrev left : ℕ → ℕ
  left j = first (entries_checks checks (map make (drop j l)))

  abbrev here : ℕ
  here = first (checks (make (get_or l i [])))

  module _ (ok : (e : Entry) → T (named (checks e))) (h : i < length l) where
    one : left i ≡ if_zero here (left (i + 1)) here
    one = rw (drop_more l i [] h) (next_check checks ok (make (get_or l i [])) (map make (drop (i + 1) l)))

    pub check_turn : here ≡ 0 → left i ≡ left (i + 1)
    check_turn z = rw z at one

    pub check_stop : (here ≡ 0 → ⊥) → left i ≡ here
    check_stop z = one ∙ sym (not_zero here (left (i + 1)) here z)

  pub check_end : length l ≤ i → left i ≡ 0
  unfolding entries_checks
  check_end h = rw (drop_of_length-le l h)

-- What the checks of a movement given tell once they are passed.
pub record Sound (vessels : ℕ) (e : Entry) : Type 0 where
  pub age : e.age ≤ most_age
  pub source : e.source < vessels
  pub destination : e.destination < vessels

sound : (vessels : ℕ) (e : Entry) → first (given_checks vessels e) ≡ 0 → Sound vessels e
sound vessels e z =
    let p = passed (given_checks vessels e) tt z in
    let v = or_parts (leb vessels e.source) (leb vessels e.destination) p.1.0 in
    record {
      age = ltb-false most_age e.age p.0;
      source = leb-false vessels e.source v.0;
      destination = leb-false vessels e.destination v.1;
    }

pub all_sound : (vessels : ℕ) (es : List Entry) → first (entries_checks (given_checks vessels) es) ≡ 0 → (i : ℕ) → i < length es → Sound vessels (get_or es i no_entry)
all_sound vessels es z i h = sound vessels (get_or es i no_entry) (each_passed (given_checks vessels) (named_given vessels) es z i h)

-- a further check of each movement, before the others: where it applies to none, it changes nothing
module _ (n : ℕ) (off : Entry → Bool) (checks : Entry → List Check) (ok : (e : Entry) → T (named (checks e))) where
  pub further : (es : List Entry) → ((i : ℕ) → i < length es → off (get_or es i no_entry) ≡ false)
      → first (entries_checks (λ e. (n if off e) ∷ checks e) es) ≡ first (entries_checks checks es)
  unfolding entries_checks
  further [] h = refl
  further (e ∷ es) h =
      let ih = further es (λ i k. h (suc i) (omega arith)) in
      rw (h 0 (omega arith), first_append (checks e) (entries_checks checks es) (ok e), ← ih) (first_append (checks e) _ (ok e))

-- and where its number is not given, it changes nothing either
module _ (n : ℕ) (off : Entry → Bool) (checks : Entry → List Check) where
  pub not_given : (es : List Entry) → (first (entries_checks (λ e. (n if off e) ∷ checks e) es) ≡ n → ⊥)
      → first (entries_checks checks es) ≡ first (entries_checks (λ e. (n if off e) ∷ checks e) es)
  unfolding entries_checks
  not_given [] h = refl
  not_given (e ∷ es) h =
      let all = entries_checks (λ e. (n if off e) ∷ checks e) es in
      let here : first (checks e ++ all) ≡ first ((n if off e) ∷ checks e ++ all) = refuses_less n (off e) false (checks e ++ all) (λ q. refl) h in
      alike_behind n (checks e) all (entries_checks checks es) (not_given es) (λ q. h (sym here ∙ q)) ∙ here

-- where every age fits its bytes, the writer checks what reading does
pub ages_fit : (vessels : ℕ) (es : List Entry) → ((i : ℕ) → i < length es → (get_or es i no_entry).age ≤ most_age)
    → first (entries_checks (given_checks vessels) es) ≡ first (entries_checks (entry_checks vessels) es)
ages_fit vessels es h = further 18 (λ e. ltb most_age e.age) (entry_checks vessels) (named_entry vessels) es (λ i k. le-ltb _ _ (h i k))
