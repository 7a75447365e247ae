-- A vector's sheet is that of the numbers read, and the part that is listed is the sheet. Assumes nothing.
use Rattle.std.proofs.Common.{ℕ, ◌+◌, ◌-◌, ◌/◌, ◌≤◌, min, arith, ◌≡◌, ap, ◌∙◌, List, length, get_or, take, drop, replicate, length-take, length-drop}
use native.Mathlib.Nat.{sub-zero}
use lib.ListN.{length-replicate}
use lib.Seq.{sets}
use Rattle.fields.specs.Layout.{sheet_size}
use Rattle.fields.specs.Movements.{given_size}
use Rattle.writing.specs.Writing.{written}
use Rattle.listing.specs.Listing.{sheet_listing}
use Rattle.text.specs.Numbers.{numbers_in}
use Rattle.vectors.specs.Vectors.{vector_numbers, vector_rule, vector_movements, vessels, names, numbers_room, table_room, sheet_room, VectorWritten, vector_listing}
use Rattle.text.proofs.NumberLaws.{first_put}

-- the numbers that were read into so much memory
pub numbers_read : (room : ℕ) (text numbers : List ℕ) (count : ℕ) → count ≡ min (length (numbers_in text)) room → numbers ≡ sets (replicate room 0) 0 (numbers_in text)
    → take count numbers ≡ take room (numbers_in text)
numbers_read room text numbers count ec en =
    let long : length (replicate room 0) ≡ room = length-replicate {A = ℕ} room 0 in
    rw (ec, en) (rw long at (first_put (numbers_in text) (replicate room 0)))

-- what is written of them, where the rule stands first
pub vector_written : (text numbers : List ℕ) (count : ℕ) → count ≡ min (length (numbers_in text)) (1 + numbers_room)
    → numbers ≡ sets (replicate (1 + numbers_room) 0) 0 (numbers_in text) → (rule : ℕ) (movements : List ℕ)
    → (rule ≡ get_or (take count numbers) 0 0) × (movements ≡ drop 1 (take count numbers)) → (before after : List ℕ) → after ≡ written rule vessels names movements before
    → VectorWritten text before (sheet_size vessels (length movements / given_size)) after
vector_written text numbers count ec en rule movements (er, em) before after ea =
    let read = numbers_read (1 + numbers_room) text numbers count ec en in
    let m : movements ≡ vector_movements text = em ∙ ap (drop 1) read in
    let r : rule ≡ vector_rule text = er ∙ ap (λ (ns : List ℕ). get_or ns 0 0) read in
    let small : length movements ≤ numbers_room = omega (arith, ap length m, length-drop 1 (vector_numbers text), length-take (1 + numbers_room) (numbers_in text)) in
    record {
      size_is = ap (λ (ns : List ℕ). sheet_size vessels (length ns / given_size)) m;
      room = omega (arith, small);
      after_is = ea ∙ rw (r, m);
    }

-- what is listed of the sheet that was written
pub vector_listed : (text sheet : List ℕ) (size : ℕ) → VectorWritten text (replicate sheet_room 0) size sheet
    → sheet_listing (take (size - 0) sheet) (replicate table_room 0) ≡ vector_listing text
vector_listed text sheet size w = rw (sub-zero, w.after_is, w.size_is)
