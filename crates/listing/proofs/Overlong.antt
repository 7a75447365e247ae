-- LONGER THAN ANY SHEET: the listing of an input is that of its part up to any length beyond the longest sheet (`cut_listing`). So a program
-- that reads no further than that lists the whole of its input.
-- Assumes nothing.
use Rattle.std.proofs.Common.{◌≡◌, ℕ, suc, ◌<◌, List, length, take, sym, ◌∙◌, ap, ⊎_elim}
use Rattle.std.proofs.lemmas.Bool.{cases_lt}
use Rattle.std.proofs.lemmas.List.{take_all}
use Rattle.sheet.specs.Sheet.{read_number}
use Rattle.sheet.proofs.Overlong.{longest, cut_refusal}
use Rattle.run.specs.Run.{run_number}
use Rattle.listing.specs.Listing.{refused_line, sheet_listing}
use Rattle.listing.proofs.RunListing.{listing_theorem}

-- a sheet that is refused
refused_listing : (s t : List ℕ) (n : ℕ) → read_number s ≡ suc n → sheet_listing s t ≡ refused_line (suc n)
unfolding run_number
refused_listing s t n e = let r : run_number s t ≡ suc n = rw e in listing_theorem s t ∙ rw r

pub cut_listing : (k : ℕ) (s t : List ℕ) → longest < k → sheet_listing (take k s) t ≡ sheet_listing s t
cut_listing k s t h = ⊎_elim
    (λ l.
    let c = cut_refusal k s h l in
    refused_listing (take k s) t c.0 c.1 ∙ sym (refused_listing s t c.0 c.2))
    (λ l. ap (λ (bytes : List ℕ). sheet_listing bytes t) (take_all k s l))
    (cases_lt k (length s))
