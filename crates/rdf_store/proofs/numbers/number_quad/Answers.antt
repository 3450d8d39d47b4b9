use Rattle.rdf_store.proofs.NumberLemmas.{numbered_in_steps}
use Rattle.rdf_store.proofs.numbers.number_quad.Goals as goal

pub returns-clause-number : goal.returns-clause-number
returns-clause-number c =
    numbered_in_steps _ _ _ _ _ _ _ _ _ _ _ _ _ c.graph.ensures.sound c.graph.ensures.value c.subject.ensures.value c.predicate.ensures.value c.object.ensures.value
    c.in_ok-subject.ensures.grown c.in_ok-predicate.ensures.grown c.in_ok-object.ensures.grown
    c.in_ok-graph.ensures.number c.in_ok-subject.ensures.number c.in_ok-predicate.ensures.number c.in_ok-object.ensures.number
