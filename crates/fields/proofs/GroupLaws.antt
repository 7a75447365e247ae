-- Laws of a list cut into groups: how many there are, and which is which. Assumes nothing.
use Rattle.std.proofs.Common.{ℕ, zero, suc, ◌+◌, ◌*◌, ◌<◌, ◌≤◌, mul-zero, mul-suc, add_comm, arith, ◌≡◌, refl, ap, ap₂, ◌∙◌, List, ◌∷◌, ◌++◌, length, get_or, drop, length-drop, drop-drop}
use Rattle.std.proofs.lemmas.List.{drop_more}
use lib.Seq.{drop-append-le}
use Rattle.fields.specs.Bytes.{groups}

module _ {A : Type 0} (size : ℕ) (f : List ℕ → A) where
  pub length_groups : (count : ℕ) (l : List ℕ) → length (groups size f count l) ≡ count
  unfolding groups
  length_groups zero l = refl
  length_groups (suc count) l = ap suc (length_groups count (drop size l))

  pub group_at : (count : ℕ) (l : List ℕ) (i : ℕ) (d : A) → i < count → get_or (groups size f count l) i d ≡ f (drop (size * i) l)
  unfolding groups
  group_at zero l i d h = absurd (omega arith)
  group_at (suc count) l zero d h = rw (mul-zero size)
  group_at (suc count) l (suc i) d h =
      group_at count (drop size l) i d (omega arith) ∙ simp (drop-drop, mul-suc, add_comm)

  pub next_group : (count : ℕ) (l : List ℕ) (i : ℕ) (d : A) → i < count
      → drop i (groups size f count l) ≡ get_or (groups size f count l) i d ∷ drop (i + 1) (groups size f count l)
  next_group count l i d h = drop_more (groups size f count l) i d (rw length_groups h)

-- what lies behind the groups does not matter, if it does not matter to what is made of one
pub groups_append : {A : Type 0} (size : ℕ) (f : List ℕ → A) → ((l r : List ℕ) → size ≤ length l → f (l ++ r) ≡ f l)
    → (count : ℕ) (l r : List ℕ) → size * count ≤ length l → groups size f count (l ++ r) ≡ groups size f count l
unfolding groups
groups_append {A} size f same zero l r h = refl
groups_append {A} size f same (suc count) l r h =
    let k : size + size * count ≤ length l = rw (mul-suc, add_comm) at h in
    let one : size ≤ length l = omega arith in
    let rest : size * count ≤ length (drop size l) = rw length-drop (omega arith) in
    ap₂ (λ (x : A) (xs : List A). x ∷ xs) (same l r one)
    (ap (groups size f count) (drop-append-le size l r one) ∙ groups_append size f same count (drop size l) r rest)
