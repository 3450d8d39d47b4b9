use Rattle.std.proofs.Common.{ap}
use Rattle.rdf_terms.specs.Term.{is_literal_term}
use Rattle.sparql_results.proofs.FieldLemmas.{term_stays}
use Rattle.sparql_results.proofs.field.may_have_tab.Goals as goal

pub returns-in-Blank : goal.returns-in-Blank
returns-in-Blank c = λ _. term_stays _ c.term_is_one.ensures (ap is_literal_term c.in-Blank.is)

pub returns-in-Iri : goal.returns-in-Iri
returns-in-Iri c = λ _. term_stays _ c.term_is_one.ensures (ap is_literal_term c.in-Iri.is)
