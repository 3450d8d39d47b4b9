use Rattle.rdf_grammar.proofs.CallerLemmas.{lexemes_have_forms}
use Rattle.sparql_terminals.specs.Terminals.{terminal_by}
use Rattle.sparql_terminals.proofs.laws.lexemes_have_forms.Goals as goal

pub returns : goal.returns
returns c = lexemes_have_forms terminal_by
