use Rattle.rdf_store.proofs.PatternLemmas.{wants_graph, wants_no_graph}
use Rattle.rdf_store.proofs.ResultLemmas.{if_some_to, if_none_to}
use Rattle.rdf_store.proofs.pattern.wanted_graph.Goals as goal

pub returns-clause-found : goal.returns-clause-found
returns-clause-found c = if_some_to c.find_graph.result (λ number e. wants_graph _ c.terms_are_held_once.ensures.once number _ e) c.find_graph.ensures.found

pub returns-clause-absent : goal.returns-clause-absent
returns-clause-absent c = if_none_to c.find_graph.result (λ none. wants_no_graph _ _ none) c.find_graph.ensures.absent
