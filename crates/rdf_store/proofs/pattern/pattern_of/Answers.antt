use Rattle.rdf_store.proofs.PatternLemmas.{same_matches, no_subject, no_predicate, no_object}
use Rattle.rdf_store.proofs.pattern.pattern_of.Goals as goal

pub returns-in_err-subject-clause-absent : goal.returns-in_err-subject-clause-absent
returns-in_err-subject-clause-absent c = rw c.from_residual-in_err-subject.ensures (no_subject _ _ _ _ _ c.in_err-subject.ensures.absent)

pub returns-in_err-predicate-clause-absent : goal.returns-in_err-predicate-clause-absent
returns-in_err-predicate-clause-absent c = rw c.from_residual-in_err-predicate.ensures (no_predicate _ _ _ _ _ c.in_err-predicate.ensures.absent)

pub returns-in_err-object-clause-absent : goal.returns-in_err-object-clause-absent
returns-in_err-object-clause-absent c = rw c.from_residual-in_err-object.ensures (no_object _ _ _ _ _ c.in_err-object.ensures.absent)

pub returns-clause-found : goal.returns-clause-found
returns-clause-found c = same_matches _ _ _ _ _ _ _ _ _ c.in_ok-graph.ensures.found c.in_ok-subject.ensures.found c.in_ok-predicate.ensures.found c.in_ok-object.ensures.found
