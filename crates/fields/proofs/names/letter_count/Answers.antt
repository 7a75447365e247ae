-- The bytes that `take_while` lets through are the letters, and no more than there are.
use Rattle.std.proofs.Common.{◌∙◌, rules, tests}
use Rattle.std.proofs.lemmas.Iterator.{YieldsList-from_slice}
use Rattle.std.proofs.lemmas.Iterator.Consumers.{count_from_yields_List}
use Rattle.std.proofs.lemmas.Iterator.Search.{YieldsList-from_take_while}
use Rattle.std.proofs.lemmas.List.Folds.{length-prefix_len}
use Rattle.std.proofs.lemmas.List.Sums.{prefix_len-le-length}
use Rattle.std.specs.Char.{is_ascii_graphic}
use Rattle.fields.proofs.NameLaws.{letters_counted}
use Rattle.fields.proofs.names.letter_count.Goals as goal

pub returns : goal.returns
returns c =
    let s = c.args.name.now in
    let prefix =
    count_from_yields_List c.take_while.result _ c.count.ensures.ran
    (YieldsList-from_take_while _ is_ascii_graphic (YieldsList-from_slice s (cc)) c.take_while.ensures.closure c.take_while.ensures.done (λ x b q k. search (rules, tests)))
    ∙ length-prefix_len is_ascii_graphic s
    in
    (prefix ∙ letters_counted s, rw prefix (prefix_len-le-length is_ascii_graphic s))
