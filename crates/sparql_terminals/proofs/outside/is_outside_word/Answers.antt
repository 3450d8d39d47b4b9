use Rattle.std.proofs.Common.{rules, tests, map, bytes_eq}
use Rattle.std.specs.Char.{to_ascii_lowercase}
use Rattle.std.proofs.lemmas.Iterator.{YieldsList-from_slice}
use Rattle.std.proofs.lemmas.Iterator.Search.{any_from_yields_List}
use Rattle.sparql_terminals.proofs.outside.is_outside_word.Goals as goal

pub returns : goal.returns
returns c = any_from_yields_List (λ word. bytes_eq (map to_ascii_lowercase c.args.text.now) (map to_ascii_lowercase word.now)) _ _ c.any.result c.any.ensures.ran (YieldsList-from_slice _ c.iter.ensures.rest) (λ x b q k. search (rules, tests))
