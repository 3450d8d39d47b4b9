use Rattle.rdf_grammar.proofs.CallerLemmas.{lexemes_have_forms}
use Rattle.rdf_turtle.specs.Terminals.{terminal_by}
use Rattle.rdf_turtle.proofs.laws.lexemes_have_forms.Goals as goal

pub returns : goal.returns
returns c = lexemes_have_forms terminal_by
