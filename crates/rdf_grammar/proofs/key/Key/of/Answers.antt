use Rattle.rdf_grammar.proofs.ScopeTexts.{bytes_of}
use Rattle.rdf_grammar.proofs.key.Key.of.Goals as goal

pub returns : goal.returns
returns c = bytes_of _ _ c.as_str.utf8 c.as_str.ensures
