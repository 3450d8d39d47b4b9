use Rattle.std.proofs.Common.{cond}
use Rattle.std.specs.List.{list_any}
use Rattle.std.proofs.lemmas.List.Sums.{sum_by-append}
use Rattle.rdf_terms.specs.declared.term.Term.TheVariants as t
use Rattle.rdf_terms.specs.declared.quad.GraphName.TheVariants.{Named}
use Rattle.sparql_values.specs.Mapping.{same_term, same_mapping}
use Rattle.sparql_algebra.specs.Solutions.{satisfies, solutions}
use Rattle.sparql_algebra.proofs.CountLawLemmas.{basic_law, cond_counts, variable_law}
use Rattle.sparql_algebra.proofs.Regroup.{join_law, left_join_law, filter_law, each_once, each_once_lists}
use Rattle.sparql_algebra.proofs.MinusLemmas.{minus_law}
use Rattle.sparql_algebra.proofs.laws.counts_are_the_algebra.Goals as goal

pub returns-clause-basic : goal.returns-clause-basic
returns-clause-basic c vs d g b m W h = basic_law vs (d.quads g) b m W h

pub returns-clause-join : goal.returns-clause-join
returns-clause-join c vs d g A B U V lu lv m = join_law (solutions vs d g A) (solutions vs d g B) U V lu lv m

pub returns-clause-left_join : goal.returns-clause-left_join
returns-clause-left_join c vs d g F A B U V lu lv m = left_join_law (satisfies vs F) (solutions vs d g A) (solutions vs d g B) U V lu lv m

pub returns-clause-filter : goal.returns-clause-filter
returns-clause-filter c vs d g F A m = filter_law (satisfies vs F) (solutions vs d g A) m

pub returns-clause-union : goal.returns-clause-union
returns-clause-union c vs d g A B m = sum_by-append (λ x. cond (same_mapping m x) 1 0) (solutions vs d g A) (solutions vs d g B)

pub returns-clause-minus : goal.returns-clause-minus
returns-clause-minus c vs d g A B V lv m = minus_law (solutions vs d g A) (solutions vs d g B) V lv m

pub returns-clause-named : goal.returns-clause-named
returns-clause-named c vs d g iri A m = cond_counts (list_any (same_term (t.Iri iri)) d.names) (solutions vs d (Named (t.Iri iri)) A) m

pub returns-clause-variable : goal.returns-clause-variable
returns-clause-variable c = variable_law

pub returns-clause-listed : goal.returns-clause-listed
returns-clause-listed c vs d g A = (each_once (solutions vs d g A), each_once_lists (solutions vs d g A))
