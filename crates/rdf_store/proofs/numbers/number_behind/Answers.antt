use Rattle.rdf_orders.specs.Quads.{quad_of}
use Rattle.rdf_store.proofs.NumberLemmas.{grown_then, id_later, numbered_in_steps}
use Rattle.rdf_store.proofs.numbers.number_behind.Goals as goal

pub number_like-requires : goal.number_like-requires
number_like-requires c = id_later _ _ (quad_of c.args.before.now).subject c.in_ok-graph.ensures.grown c.requires.subject

pub number_like-requires-2 : goal.number_like-requires-2
number_like-requires-2 c = id_later _ _ (quad_of c.args.before.now).predicate (grown_then _ _ _ c.in_ok-graph.ensures.grown c.in_ok-subject.ensures.grown) c.requires.predicate

pub returns-clause-number : goal.returns-clause-number
returns-clause-number c =
    numbered_in_steps _ _ _ _ _ _ _ _ _ _ _ _ _ c.graph.ensures.sound c.graph.ensures.value c.subject.ensures.value c.predicate.ensures.value c.object.ensures.value
    c.in_ok-subject.ensures.grown c.in_ok-predicate.ensures.grown c.in_ok-object.ensures.grown
    c.in_ok-graph.ensures.number c.in_ok-subject.ensures.number c.in_ok-predicate.ensures.number c.in_ok-object.ensures.number
