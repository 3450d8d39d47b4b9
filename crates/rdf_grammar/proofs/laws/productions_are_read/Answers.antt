use Rattle.rdf_grammar.proofs.Productions.{iris_are_read, literals_are_read, bindings_are_read}
use Rattle.rdf_grammar.proofs.laws.productions_are_read.Goals as goal

pub returns-clause-iris : goal.returns-clause-iris
returns-clause-iris g c = iris_are_read g.T.Words.word

pub returns-clause-literals : goal.returns-clause-literals
returns-clause-literals g c = literals_are_read g.T.Words.word

pub returns-clause-bindings : goal.returns-clause-bindings
returns-clause-bindings g c = bindings_are_read g.T.Words.word
