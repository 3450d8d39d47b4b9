use Rattle.rdf_grammar.proofs.MeaningLemmas.{name_table}
use Rattle.rdf_grammar.proofs.laws.names_have_iris.Goals as goal

pub returns : goal.returns
returns g c =
    name_table g.T.Words.word c.iris_have_values.ensures.value c.pnames_have_parts.ensures.prefix c.pnames_have_parts.ensures.local c.locals_have_values.ensures.value
