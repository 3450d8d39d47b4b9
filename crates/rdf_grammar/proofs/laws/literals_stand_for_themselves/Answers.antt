use Rattle.rdf_grammar.proofs.MeaningLemmas.{literal_table}
use Rattle.rdf_grammar.proofs.laws.literals_stand_for_themselves.Goals as goal

pub returns : goal.returns
returns g c = literal_table g.T.Words.word c.texts_have_values.ensures
