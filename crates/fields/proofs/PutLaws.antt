-- Laws of bytes put one behind the other: two runs of stores are one, a part written whole is a run, and a turn of each loop that puts bytes.
-- Assumes nothing.
use mathlib.Core.List.{flat_map}
use Rattle.std.proofs.Common.{ℕ, zero, suc, ◌+◌, ◌-◌, ◌/◌, ◌%◌, ◌<◌, ◌≤◌, add-zero, add-suc, suc-add, arith, ◌≡◌, refl, sym, ap, ◌∙◌, List, [], ◌∷◌, ◌++◌, append_assoc, append-nil, length-append, length, get_or, take, drop, set, drop_of_length-le, drop-drop, take_all}
use Rattle.std.proofs.lemmas.List.{take_more_set, drop_more}
use lib.Seq.{sets, sets-eq}
use borrow.Rule.Slice.PartMut.{put_mid}
use Rattle.fields.specs.Bytes.{bytes_of}

pub length_bytes : (w x : ℕ) → length (bytes_of w x) ≡ w
unfolding bytes_of
length_bytes zero x = refl
length_bytes (suc w) x = ap suc (length_bytes w _)

sets_append : (a b l : List ℕ) (i : ℕ) → sets (sets l i a) (i + length a) b ≡ sets l i (a ++ b)
sets_append [] b l i = rw add-zero
sets_append (x ∷ a) b l i = rw (add-suc, ← suc-add) (sets_append a b (set l i x) (suc i))

-- what is put behind a is put as one with it
pub put_then : (l a b : List ℕ) (i j : ℕ) → j ≡ i + length a → sets (sets l i a) j b ≡ sets l i (a ++ b)
put_then l a b i j e = rw e (sets_append a b l i)

-- for parts put one behind the other
pub ruleset puts = (put_then, length_bytes, length-append, append_assoc)

-- a part of a list that is written whole
pub part_put : (l new bytes : List ℕ) (at width : ℕ) → at + length bytes ≤ length l → width ≡ length bytes → new ≡ bytes → put_mid at width l new ≡ sets l at bytes
part_put l new bytes at width h ew en = rw (en, ew, drop-drop, sets-eq bytes l at h) (sym (append_assoc (take at l) bytes (drop (at + length bytes) l)))

-- the loop that puts the bytes of a number: the low byte of what is left is the next
module _ (items goal : List ℕ) (i width left : ℕ) (sized : length items ≡ width) (inv : take i items ++ bytes_of (width - i) left ≡ goal) where
  pub number_turn : i < width → take (i + 1) (set items i (left % 256)) ++ bytes_of (width - (i + 1)) (left / 256) ≡ goal
  unfolding bytes_of
  number_turn h =
      let q : width - i ≡ suc (width - (i + 1)) = omega arith in
      let one : take (i + 1) (set items i (left % 256)) ≡ take i items ++ left % 256 ∷ [] = take_more_set items i (left % 256) (omega arith) in
      rw (one, append_assoc) (rw q at inv)

  number_end : width ≤ i → items ≡ goal
  unfolding bytes_of
  number_end h =
      let q : width - i ≡ 0 = omega arith in
      let k : length items ≤ i = omega arith in
      rw (q, take_all i items k, append-nil) at inv

pub number_put : (l items : List ℕ) (at part i width left value : ℕ) → at + width ≤ length l → part ≡ width → length items ≡ width
    → take i items ++ bytes_of (width - i) left ≡ bytes_of width value → width ≤ i → put_mid at part l items ≡ sets l at (bytes_of width value)
number_put l items at part i width left value fits ep sized inv h =
    let size = length_bytes width value in
    part_put l items (bytes_of width value) at part (rw size fits) (ep ∙ sym size) (number_end items (bytes_of width value) i width left sized inv h)

-- the loop that puts what f makes of each item of a list, from k on
module _ {A : Type 0} (f : A → List ℕ) (items : List A) (out : List ℕ) (k i : ℕ) where
  pub item_turn : (d : A) → i < length items
      → sets out k (flat_map f (drop i items)) ≡ sets (sets out k (f (get_or items i d))) (k + length (f (get_or items i d))) (flat_map f (drop (i + 1) items))
  unfolding flat_map
  item_turn d h = rw (drop_more items i d h) (sym (sets_append (f (get_or items i d)) (flat_map f (drop (i + 1) items)) out k))

  pub item_end : length items ≤ i → sets out k (flat_map f (drop i items)) ≡ out
  unfolding flat_map
  item_end h = rw (drop_of_length-le items h)
