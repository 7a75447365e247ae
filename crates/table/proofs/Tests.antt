-- The lemmas by which `search` follows a definition that goes by tests, from the tests that led to a `return`.
use Rattle.std.proofs.Common.{lt-ltb, le-ltb, le-leb, eq-eqb, ne_eqb}
use borrow.Author.Tests.{lt-leb}

pub ruleset tests = (lt-ltb, le-ltb, le-leb, lt-leb, eq-eqb, ne_eqb)
