-- Laws of there and back: a number and a movement through their bytes, and bytes through what they hold. Assumes nothing.
use mathlib.Core.List.{flat_map}
use Rattle.std.proofs.Common.{ℕ, zero, suc, ◌+◌, ◌*◌, ◌/◌, ◌%◌, ◌^◌, ◌<◌, ◌≤◌, arith, ◌≡◌, refl, ap, ap₂, ◌∙◌, List, [], ◌∷◌, ◌++◌, append_assoc, length, get_or, drop, length-drop, get_or-drop, drop-drop}
use native.Mathlib.Nat.{pow-zero, pow-succ'}
use Rattle.book.specs.Transfer.{most_age}
use Rattle.fields.specs.declared.entries.Entry.{Entry}
use Rattle.fields.specs.Bytes.{value_in, bytes_of, groups}
use Rattle.fields.specs.Movements.{entry_size, no_entry, entry_in, entry_bytes, entries_in, entries_given, entries_bytes, numbers_in}
use Rattle.fields.proofs.GroupLaws.{group_at}

-- Each number of the list is below a bound, as each byte of a slice is below 256.
abbrev pub Below : ℕ → List ℕ → Type 0
Below bound l = (i : ℕ) → get_or l i 0 < bound

pub below_drop : (bound k : ℕ) (l : List ℕ) → Below bound l → Below bound (drop k l)
below_drop bound k l h i = rw get_or-drop (h (k + i))

-- a number through its bytes
pub back_number : (w x : ℕ) (r : List ℕ) → x < 256 ^ w → value_in w (bytes_of w x ++ r) ≡ x
unfolding value_in bytes_of
back_number zero x r h = let e : x < 1 = rw pow-zero at h in omega arith
back_number (suc w) x r h =
    let e : x < 256 * 256 ^ w = rw pow-succ' at h in
    let ih = back_number w (x / 256) r (omega arith) in
    omega (arith, ih)

-- bytes hold no more than their width can
value_below : (w : ℕ) (l : List ℕ) → Below 256 l → value_in w l < 256 ^ w
unfolding value_in
value_below zero l b = rw pow-zero (omega arith)
value_below (suc w) l b = let ih = value_below w (drop 1 l) (below_drop 256 1 l b) in rw pow-succ' (omega (arith, b 0))

-- bytes through the number in them
back_bytes : (w : ℕ) (l : List ℕ) → w ≤ length l → Below 256 l → bytes_of w (value_in w l) ++ drop w l ≡ l
unfolding value_in bytes_of
back_bytes zero l h b = refl
back_bytes (suc w) [] h b = absurd (omega arith)
back_bytes (suc w) (x ∷ l) h b =
    let low : (x + 256 * value_in w l) % 256 ≡ x = omega (arith, b 0) in
    let high : (x + 256 * value_in w l) / 256 ≡ value_in w l = omega (arith, b 0) in
    ap₂ (λ (y : ℕ) (v : ℕ). y ∷ (bytes_of w v ++ drop w l)) low high ∙ ap (λ (t : List ℕ). x ∷ t) (back_bytes w l (omega arith) (λ i. b (suc i)))

-- the same at an index
pub back_at : (s : List ℕ) (at w x : ℕ) → x ≡ value_in w (drop at s) → at + w ≤ length s → Below 256 s → bytes_of w x ++ drop (at + w) s ≡ drop at s
back_at s at w x e h b =
    rw (e, ← drop-drop w at s) (back_bytes w (drop at s) (rw length-drop (omega arith)) (below_drop 256 at s b))

-- A movement whose numbers fit their bytes.
pub record Fit (e : Entry) : Type 0 where
  pub source : e.source < 256
  pub destination : e.destination < 256
  pub age : e.age < 65536
  pub minute : e.minute < 4294967296
  pub weight : e.weight < 4294967296

-- a movement through its bytes
back_entry : (e : Entry) (r : List ℕ) → Fit e → entry_in (entry_bytes e ++ r) ≡ e
unfolding bytes_of
back_entry e r f =
    let l = entry_bytes e ++ r in
    let a : value_in 1 l ≡ e.source = back_number 1 e.source _ f.source in
    let b : value_in 1 (drop 1 l) ≡ e.destination = back_number 1 e.destination _ f.destination in
    let c : value_in 2 (drop 2 l) ≡ e.age = back_number 2 e.age _ f.age in
    let d : value_in 4 (drop 4 l) ≡ e.minute = back_number 4 e.minute _ f.minute in
    let g : value_in 4 (drop 8 l) ≡ e.weight = back_number 4 e.weight _ f.weight in
    simp (a, b, c, d, g)

pub back_entries : (es : List Entry) → ((i : ℕ) → i < length es → Fit (get_or es i no_entry)) → entries_in (length es) (entries_bytes es) ≡ es
unfolding groups flat_map bytes_of
back_entries [] h = refl
back_entries (e ∷ es) h =
    ap₂ (λ (x : Entry) (xs : List Entry). x ∷ xs) (back_entry e (entries_bytes es) (h 0 (omega arith))) (back_entries es (λ i k. h (suc i) (omega arith)))

-- bytes through the movements in them
back_twelve : (l : List ℕ) → entry_size ≤ length l → Below 256 l → entry_bytes (entry_in l) ++ drop entry_size l ≡ l
back_twelve l h b =
    simp append_assoc
    (rw (
      back_at l 8 4 (value_in 4 (drop 8 l)) refl (omega arith) b,
      back_at l 4 4 (value_in 4 (drop 4 l)) refl (omega arith) b,
      back_at l 2 2 (value_in 2 (drop 2 l)) refl (omega arith) b,
      back_at l 1 1 (value_in 1 (drop 1 l)) refl (omega arith) b,
    )
    (back_bytes 1 l (omega arith) b))

pub back_movements : (m : ℕ) (l : List ℕ) → length l ≡ entry_size * m → Below 256 l → entries_bytes (entries_in m l) ≡ l
unfolding groups flat_map
back_movements zero [] h b = refl
back_movements zero (x ∷ l) h b = absurd (omega arith)
back_movements (suc m) l h b =
    ap (λ (t : List ℕ). entry_bytes (entry_in l) ++ t) (back_movements m (drop entry_size l) (rw length-drop (omega arith)) (below_drop 256 entry_size l b))
    ∙ back_twelve l (omega arith) b

-- two bytes hold no age that the writer refuses
pub ages_read : (count : ℕ) (l : List ℕ) → Below 256 l → (i : ℕ) → i < count → (get_or (entries_in count l) i no_entry).age ≤ most_age
ages_read count l b i h =
    let d = drop (entry_size * i) l in
    let small = value_below 2 (drop 2 d) (below_drop 256 2 d (below_drop 256 (entry_size * i) l b)) in
    rw (group_at entry_size entry_in count l i no_entry h) (omega (arith, small))

-- the numbers of movements give these movements
pub back_given : (es : List Entry) → entries_given (length es) (numbers_in es) ≡ es
unfolding groups flat_map
back_given [] = refl
back_given (e ∷ es) = ap (λ (xs : List Entry). e ∷ xs) (back_given es)
