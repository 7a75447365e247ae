-- A SHIFT THAT MOVED NOTHING, TO THE END. `no_movement_listed`: the listing of a sheet without movements is its first
-- line, "vessels V rule R accepted 0 pieces 0 even 0" and a newline. `no_movement_whole`: so it is of the sheet that
-- the writer makes of no numbers, whatever rule, vessels and names it accepts.
-- Assumes nothing.
use Rattle.std.proofs.Common.{ℕ, ◌≤◌, arith, ◌≡◌, refl, sym, ap, ◌∙◌, List, [], ◌∷◌, ◌++◌, append_assoc, append-nil, length}
use Rattle.refusal.proofs.Numbers.{not_zero}
use Rattle.book.specs.Head.{empty_head}
use Rattle.table.specs.Table.{pieces_of}
use Rattle.sheet.specs.declared.answer.Reading.{Reading}
use Rattle.sheet.specs.Sheet.{rule_of, vessels_of, movements_of, read_number}
use Rattle.sheet.specs.Answers.{header_of}
use Rattle.sheet.proofs.ReadLaws.{good}
use Rattle.writing.specs.Writing.{sheet_of, write_number}
use Rattle.writing.proofs.RoundTrip.{written_reads}
use Rattle.run.proofs.NoMovement.{no_movement_run}
use Rattle.text.specs.Digits.{digits, decimal}
use Rattle.text.specs.Text.{word}
use Rattle.listing.specs.Words.{vessels_word, rule_word, accepted_word, pieces_word, even_word, newline}
use Rattle.listing.specs.Listing.{first_line, piece_lines, book_text, listing_text, sheet_listing}

-- " accepted 0 pieces 0 even 0" and a newline
abbrev nothing : List ℕ
nothing = 0x20 ∷ 0x61 ∷ 0x63 ∷ 0x63 ∷ 0x65 ∷ 0x70 ∷ 0x74 ∷ 0x65 ∷ 0x64 ∷ 0x20 ∷ 0x30 ∷ 0x20 ∷ 0x70 ∷ 0x69 ∷ 0x65 ∷ 0x63 ∷ 0x65 ∷ 0x73 ∷ 0x20 ∷ 0x30 ∷ 0x20 ∷ 0x65 ∷ 0x76 ∷ 0x65 ∷ 0x6e ∷ 0x20 ∷ 0x30 ∷ 0x0a ∷ []

zeros : word accepted_word 0 ++ (word pieces_word 0 ++ (word even_word 0 ++ newline)) ≡ nothing
unfolding decimal digits
zeros = refl

behind : (a b c d e : List ℕ) → a ++ b ++ c ++ d ++ e ≡ a ++ (b ++ (c ++ (d ++ e)))
behind a b c d e = simp append_assoc

-- the first line of a fresh book
fresh_line : (rule vessels : ℕ) → first_line (empty_head rule vessels) 0 ≡ word vessels_word vessels ++ word rule_word rule ++ nothing
unfolding first_line
fresh_line rule vessels =
    let front : List ℕ = word vessels_word vessels ++ word rule_word rule in
    behind front (word accepted_word 0) (word pieces_word 0) (word even_word 0) newline ∙ ap (λ (l : List ℕ). front ++ l) zeros

pub no_movement_listed : (s t : List ℕ) → movements_of s ≡ 0 → read_number s ≡ 0 → 4 ≤ length t
    → sheet_listing s t ≡ word vessels_word (vessels_of s) ++ word rule_word (rule_of s) ++ nothing
unfolding listing_text book_text piece_lines pieces_of
no_movement_listed s t none reads long =
    let opened = (good s _ refl reads).opened in
    rw (no_movement_run s t none reads long)
    (sym (not_zero (vessels_of s) _ _ (λ z. omega (arith, opened.some_vessels))) ∙ append-nil _ ∙ append-nil _ ∙ fresh_line (rule_of s) (vessels_of s))

-- the same from the writer on: written from no numbers, read, run and listed
pub no_movement_whole : (rule vessels room : ℕ) (names t : List ℕ) → write_number rule vessels names [] room ≡ 0 → 4 ≤ length t
    → sheet_listing (sheet_of rule vessels names []) t ≡ word vessels_word vessels ++ word rule_word rule ++ nothing
no_movement_whole rule vessels room names t z long =
    let s = sheet_of rule vessels names [] in
    let back = written_reads rule vessels room names [] z (λ i. omega arith) in
    let same : header_of s ≡ record { number = 0; rule = rule; vessels = vessels; movements = 0 } = rw back.number at back.header in
    no_movement_listed s t (ap (λ (r : Reading). r.movements) same) back.number long
    ∙ ap (λ (r : Reading). word vessels_word r.vessels ++ word rule_word r.rule ++ nothing) same
