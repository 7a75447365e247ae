-- What is read of the input tells its listing, and what is written is that listing.
-- Assumes nothing.
use Rattle.std.proofs.Common.{◌≡◌, ℕ, ◌<◌, List, ◌++◌, length, take, sym, ◌∙◌, ap, subst, arith, append-nil, ⊎_elim, length-take-le, OnOk, IfSome, Some, None, Ok, Err}
use Rattle.std.proofs.lemmas.Bool.{cases_lt}
use Rattle.std.proofs.Math.Seq.{take-append_seam}
use Rattle.std.specs.Io.KnownBytes.{Appends}
use Rattle.std.specs.declared.option.Option.{Option}
use Rattle.std.specs.declared.result.Result.{Result}
use Rattle.input.specs.Filled.{FilledBy}
use Rattle.sheet.proofs.Overlong.{longest}
use Rattle.listing.specs.Listing.{sheet_listing, Listed}
use Rattle.listing.proofs.RunListing.{text_taken}
use Rattle.listing.proofs.Overlong.{cut_listing}

-- Room for more than the longest sheet holds all of the input, or so much of it that the rest tells nothing.
enough : (bytes rest room t : List ℕ) (got : ℕ) → longest < length room → FilledBy (Some bytes) (Some rest) room got → sheet_listing (take got room) t ≡ sheet_listing bytes t
enough bytes rest room t got h f = ⊎_elim
    (λ l. ap (λ (s : List ℕ). sheet_listing s t) (sym (append-nil (take got room)) ∙ ap (λ l. take got room ++ l) (sym (f.all l)) ∙ sym f.read))
    (λ l.
    let full : take got bytes ≡ take got room = ap (take got) f.read ∙ ap (λ n. take n (take got room ++ rest)) (sym (length-take-le got room f.inside)) ∙ take-append_seam (take got room) rest in
    ap (λ (s : List ℕ). sheet_listing s t) (sym full) ∙ cut_listing got bytes t (omega arith))
    (cases_lt got (length room))

-- An input whose bytes are known was read into such room, and what was read was listed.
pub listed : {A E : Type 0} (known left : Option (List ℕ)) (room t before text : List ℕ) (got size : ℕ) (r : Result A E) (old new : Option (List ℕ))
    → longest < length room → FilledBy known left room got → Listed before (sheet_listing (take got room) t) size text → OnOk r (Appends old new (take size text))
    → OnOk r (IfSome known (λ bytes. Appends old new (sheet_listing bytes t)))
listed known left room t before text got size (Err x) old new h f l w = tt
listed None left room t before text got size (Ok a) old new h f l w = tt
listed (Some bytes) None room t before text got size (Ok a) old new h f l w = absurd f.read
listed (Some bytes) (Some rest) room t before text got size (Ok a) old new h f l w =
    subst (λ (x : List ℕ). Appends old new x) (text_taken _ _ _ _ l ∙ enough bytes rest room t got h f) w
