-- Laws of notes: the last notes of a log have the same slots, each once, and to note a slot once more moves it to the end.
-- Assumes nothing.
use Rattle.std.proofs.Common.{◌≡◌, refl, sym, ap, ◌∙◌, Bool, true, false, not, ◌||◌, ◌&&◌, cond, List, [], ◌∷◌, ◌++◌, ℕ, zero, suc, ◌≤◌, ◌<◌, eqb, drop, length, get_or, arith, eqb-true, true≢false}
use Rattle.std.proofs.lemmas.Bool.Decides.{nat_tests}
use Rattle.std.proofs.lemmas.Grind.{common_steps}
use Rattle.lanes.specs.Notes.{has, latest, without, Once}

pub has_append : (i : ℕ) (l k : List ℕ) → has i (l ++ k) ≡ has i l || has i k
unfolding has
has_append i [] k = refl
has_append i (j ∷ l) k = grind (arith, common_steps, has_append i l k)

pub has_latest : (i : ℕ) (l : List ℕ) → has i (latest l) ≡ has i l
unfolding has latest
has_latest i [] = refl
has_latest i (j ∷ l) = grind (arith, nat_tests, has_latest i l)

pub once_latest : (l : List ℕ) → Once (latest l)
unfolding has latest Once
once_latest [] = tt
once_latest (i ∷ l) = go (has i l) refl (once_latest l)
  where
    go : (t : Bool) → has i l ≡ t → Once (latest l) → Once (cond t (latest l) (i ∷ latest l))
    go true e h = h
    go false e h = (has_latest i l ∙ e, h)

pub latest_once : (l : List ℕ) → Once l → latest l ≡ l
unfolding has latest Once
latest_once [] h = refl
latest_once (i ∷ l) h = rw (h.0, latest_once l h.1) refl

pub latest_latest : (l : List ℕ) → latest (latest l) ≡ latest l
latest_latest l = latest_once (latest l) (once_latest l)

-- a slot noted once more
pub latest_noted : (i : ℕ) (l : List ℕ) → latest (l ++ (i ∷ [])) ≡ without i (latest l) ++ (i ∷ [])
unfolding has latest without
latest_noted i [] = refl
latest_noted i (j ∷ l) = grind (arith, nat_tests, has_append j l (i ∷ []), latest_noted i l)

pub without_none : (i : ℕ) (l : List ℕ) → has i l ≡ false → without i l ≡ l
unfolding has without
without_none i [] h = refl
without_none i (j ∷ l) h = grind (arith, nat_tests, without_none i l)

pub without_append : (i : ℕ) (l k : List ℕ) → without i (l ++ k) ≡ without i l ++ without i k
unfolding without
without_append i [] k = refl
without_append i (j ∷ l) k = grind (arith, common_steps, without_append i l k)

pub has_without : (i k : ℕ) (l : List ℕ) → has i (without k l) ≡ not (eqb i k) && has i l
unfolding has without
has_without i k [] = grind (arith, nat_tests)
has_without i k (j ∷ l) = grind (arith, nat_tests, has_without i k l)

-- Where slot i lies among slots of which none is there twice.
pub record Alone (i : ℕ) (b a : List ℕ) : Type 0 where
  pub not_before : has i b ≡ false
  pub not_after : has i a ≡ false
  pub others : without i (b ++ (i ∷ a)) ≡ b ++ a

pub alone : (i : ℕ) (b a : List ℕ) → Once (b ++ (i ∷ a)) → Alone i b a
unfolding has without Once
alone i [] a h = record { not_before = refl; not_after = h.0; others = grind (arith, nat_tests, without_none i a h.0) }
alone i (j ∷ b) a h =
    let y = alone i b a h.1 in
    let n : eqb i j ≡ false = grind (arith, nat_tests, h.0, has_append j b (i ∷ a)) in
    record { not_before = rw n y.not_before; not_after = y.not_after; others = rw n (ap (λ (l : List ℕ). j ∷ l) y.others) }

-- Where slot i lies.
pub record Among (i : ℕ) (l : List ℕ) : Type 0 where
  pub before : List ℕ
  pub after : List ℕ
  pub lies : l ≡ before ++ (i ∷ after)

pub among : (i : ℕ) (l : List ℕ) → has i l ≡ true → Among i l
unfolding has
among i [] h = absurd (true≢false (sym h))
among i (j ∷ l) h = go (eqb i j) refl h (among i l)
  where
    go : (t : Bool) → eqb i j ≡ t → t || has i l ≡ true → (has i l ≡ true → Among i l) → Among i (j ∷ l)
    go true e u k = record { before = []; after = l; lies = rw (eqb-true i j e) refl }
    go false e u k =
        let y = k u in
        record { before = j ∷ y.before; after = y.after; lies = ap (λ (q : List ℕ). j ∷ q) y.lies }

-- a slot behind slots among which it is not
pub once_end : (l : List ℕ) (i : ℕ) → Once l → has i l ≡ false → Once (l ++ (i ∷ []))
unfolding has Once
once_end [] i h n = (refl, tt)
once_end (j ∷ l) i h n = (grind (arith, nat_tests, h.0, has_append j l (i ∷ [])), once_end l i h.1 (grind (arith, nat_tests)))

pub once_without : (i : ℕ) (l : List ℕ) → Once l → Once (without i l)
unfolding has without Once
once_without i [] h = tt
once_without i (j ∷ l) h = go (eqb i j) (once_without i l h.1)
  where
    go : (t : Bool) → Once (without i l) → Once (cond t (without i l) (j ∷ without i l))
    go true k = k
    go false k = (grind (arith, nat_tests, h.0, has_without j i l), k)

-- how many last notes there are
pub length_latest : (i : ℕ) (l : List ℕ) → length (latest (i ∷ l)) ≡ cond (has i l) (length (latest l)) (suc (length (latest l)))
unfolding latest
length_latest i l = grind (arith, common_steps)

pub length_latest_drop : (k : ℕ) (l : List ℕ) → length (latest (drop k l)) ≤ length (latest l)
length_latest_drop zero l = omega arith
length_latest_drop (suc k) [] = omega arith
length_latest_drop (suc k) (i ∷ l) = grind (arith, common_steps, length_latest i l, length_latest_drop k l)

-- where the end of a log has as many last notes as all of it, they are the same
pub latest_drop : (k : ℕ) (l : List ℕ) → length (latest (drop k l)) ≡ length (latest l) → latest (drop k l) ≡ latest l
unfolding latest
latest_drop zero l h = refl
latest_drop (suc k) [] h = refl
latest_drop (suc k) (i ∷ l) h = go (has i l) refl h (latest_drop k l)
  where
    go : (t : Bool) → has i l ≡ t → length (latest (drop k l)) ≡ length (cond t (latest l) (i ∷ latest l)) → (length (latest (drop k l)) ≡ length (latest l) → latest (drop k l) ≡ latest l)
        → latest (drop k l) ≡ cond t (latest l) (i ∷ latest l)
    go true e u m = m u
    go false e u m = absurd (omega (arith, u, length_latest_drop k l))

-- what lies at an index is one of them
pub has_at : (l : List ℕ) (i : ℕ) → i < length l → has (get_or l i 0) l ≡ true
unfolding has
has_at [] i q = absurd (omega (arith, q))
has_at (j ∷ l) zero q = grind (arith, nat_tests)
has_at (j ∷ l) (suc i) q = let h = has_at l i (omega (arith, q)) in grind (arith, nat_tests)
