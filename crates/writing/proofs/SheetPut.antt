-- The movements, the header and the whole sheet, from parts put one behind the other. Assumes nothing.
use Rattle.std.proofs.Common.{ℕ, ◌+◌, ◌<◌, ◌≤◌, arith, ◌≡◌, ◌∙◌, List, [], map, length, get_or, drop, length-append, append-nil, drop_of_length-le}
use Rattle.std.proofs.lemmas.List.{get_or-map, length-map}
use lib.Seq.{sets, sets-eq}
use Rattle.fields.specs.declared.entries.Entry.{Entry}
use Rattle.fields.specs.Movements.{entry_size, no_entry, given_in, entry_bytes, entries_bytes}
use Rattle.fields.specs.Layout.{header_size}
use Rattle.fields.proofs.PutLaws.{length_bytes, item_turn, item_end}
use Rattle.writing.specs.Writing.{header_bytes}

pub length_entry : (e : Entry) → length (entry_bytes e) ≡ entry_size
length_entry e = simp (length-append, length_bytes)

-- the loop that puts movements, from k on
module _ (given : List (List ℕ)) (out : List ℕ) (k i : ℕ) where
  pub entries_turn : i < length given
      → sets out k (entries_bytes (drop i (map given_in given))) ≡ sets (sets out k (entry_bytes (given_in (get_or given i [])))) (k + entry_size) (entries_bytes (drop (i + 1) (map given_in given)))
  entries_turn h =
      let turn = item_turn entry_bytes (map given_in given) out k i no_entry (rw length-map h) in
      rw (get_or-map given_in given i [] no_entry h, length_entry (given_in (get_or given i []))) at turn

  pub entries_end : length given ≤ i → sets out k (entries_bytes (drop i (map given_in given))) ≡ out
  entries_end h = item_end entry_bytes (map given_in given) out k i (rw length-map h)

pub length_header : (rule vessels movements : ℕ) → length (header_bytes rule vessels movements) ≡ header_size
length_header rule vessels movements = simp (length-append, length_bytes)

-- bytes that are all written
pub filled : (l bytes : List ℕ) → length bytes ≡ length l → sets l 0 bytes ≡ bytes
filled l bytes e = sets-eq bytes l 0 (omega arith) ∙ rw (drop_of_length-le l {i = 0 + length bytes} (omega arith)) (append-nil bytes)
