-- THE ROUND TRIP OF A SHEET, in three theorems over the definitions that the contracts cite.
-- `written_reads`: reading what was written yields what was given, the rule, the counts, every movement with its age
-- and every name. `writer_leaves`: the sheet lies at the start of the slice that the writer leaves.
-- `read_rewrites`: writing what was read is accepted, whatever its ages are, and yields the same bytes.
-- `rewrite` (src/lib.rt) has the last of them in its contract, of running code, which knows of its bytes what a byte
-- is. Each byte of a `u8` slice is below 256, and each number of a `u32` slice below 4,294,967,296: `Below` says so of
-- a list. Assumes nothing.
use Rattle.std.proofs.Common.{ℕ, ◌*◌, ◌<◌, ◌≤◌, ◌≡◌, refl, List, length, take, drop}
use Rattle.fields.specs.Layout.{name_size, sheet_size}
use Rattle.fields.specs.Names.{short_name}
use Rattle.fields.specs.Movements.{given_size, given_in}
use Rattle.sheet.specs.Sheet.{names_of, rule_of, vessels_of, movements_of, read_number}
use Rattle.sheet.specs.Answers.{reading, movement_answer, movement_at, movement_asked, name_bytes, name_asked}
use Rattle.writing.specs.Writing.{count_given, sheet_of, write_number, written}
use Rattle.writing.specs.Rewriting.{numbers_of}
use Rattle.writing.proofs.WriteLaws.{write_starts}
use Rattle.fields.proofs.BackLaws.{Below}
use Rattle.writing.proofs.WrittenReads as there
use Rattle.writing.proofs.ReadRewrites as again

-- What reading and asking give for a sheet of that rule and these vessels, names and numbers.
pub record ReadBack (rule vessels : ℕ) (names numbers s : List ℕ) : Type 0 where
  pub number : read_number s ≡ 0
  pub header : reading s ≡ record { number = 0; rule = rule; vessels = vessels; movements = count_given numbers }
  pub movement : (i : ℕ) → i < count_given numbers → movement_asked s i ≡ movement_answer 0 (given_in (drop (given_size * i) numbers))
  pub name : (v : ℕ) → v < vessels → name_asked s v ≡ short_name (take name_size (drop (name_size * v) names))
  pub bytes : (v : ℕ) → v < vessels → name_bytes s v ≡ take name_size (drop (name_size * v) names)

-- Reading what was written yields what was given: the rule, the counts, every movement, every name.
pub written_reads : (rule vessels room : ℕ) (names numbers : List ℕ) → write_number rule vessels names numbers room ≡ 0 → Below 4294967296 numbers
    → ReadBack rule vessels names numbers (sheet_of rule vessels names numbers)
written_reads rule vessels room names numbers z small =
    let h = there.header rule vessels room names numbers z small in
    record {
      number = there.accepts rule vessels room names numbers z small;
      header = rw (there.accepts rule vessels room names numbers z small, h.known, h.held, h.moved);
      movement = λ i k. rw (there.moved rule vessels room names numbers z small i k) (there.same_movement rule vessels room names numbers z small i k);
      name = λ v k. rw (there.named rule vessels room names numbers z small v k, there.same_name rule vessels room names numbers z small v k);
      bytes = λ v k. there.same_name rule vessels room names numbers z small v k;
    }

-- The bytes that the writer leaves at the start are the sheet.
pub writer_leaves : (rule vessels : ℕ) (names numbers out : List ℕ) → write_number rule vessels names numbers (length out) ≡ 0
    → take (sheet_size vessels (count_given numbers)) (written rule vessels names numbers out) ≡ sheet_of rule vessels names numbers
writer_leaves rule vessels names numbers out z = write_starts rule vessels _ names numbers out refl z

-- What writing again gives for a sheet: no refusal where there is room for it, the same bytes, from the numbers that
-- asking yields.
pub record Rewritten (s : List ℕ) : Type 0 where
  pub number : (room : ℕ) → length s ≤ room → write_number (rule_of s) (vessels_of s) (names_of s) (numbers_of s) room ≡ 0
  pub bytes : sheet_of (rule_of s) (vessels_of s) (names_of s) (numbers_of s) ≡ s
  pub movement : (i : ℕ) → i < movements_of s → movement_at s i ≡ movement_answer 0 (given_in (drop (given_size * i) (numbers_of s)))

-- Rewriting what was read yields the same bytes.
pub read_rewrites : (s : List ℕ) → read_number s ≡ 0 → Below 256 s → Rewritten s
read_rewrites s z small =
    record {
      number = again.accepts s z small;
      bytes = again.rewrites s z small;
      movement = again.asked_numbers s z small;
    }
