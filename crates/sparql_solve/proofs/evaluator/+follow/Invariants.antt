use Rattle.std.proofs.Common.{◌≡◌, ◌≤◌, ◌-◌, length, map, take, drop, true}
use Rattle.std.specs.List.{flat_map, list_all}
use Rattle.sparql_algebra.specs.Algebra.{element, group_of, translation, filtered}
use Rattle.sparql_algebra.specs.Solutions.{solutions}
use Rattle.sparql_algebra.specs.Under.{under}
use Rattle.sparql_solve.specs.Members.{AreMoreSolutions}
use Rattle.sparql_solve.specs.Under.{AreMade, AreUnder, under_name, is_wide}
use Rattle.rdf_terms.specs.declared.quad.GraphName.TheVariants.{Default}
use Rattle.sparql_algebra.specs.Listing.{Listing, Lists}
use Rattle.sparql_solve.proofs.ApartLemmas.{Follows}
use Rattle.sparql_solve.proofs.evaluator.+follow.Given as goal

abbrev pub invariant-first_under-loop-place : goal.invariant-first_under-loop-place
invariant-first_under-loop-place g l =
    AreUnder l.evaluation.scope.variables.now (g.S.Source.contents l.evaluation.source.now) l.under l.rows.items (λ d. solutions l.evaluation.scope.variables.now d l.graph (group_of (map element (take l.place l.members))))

abbrev pub invariant-rows_followed-loop-done : goal.invariant-rows_followed-loop-done
invariant-rows_followed-loop-done g l = record {
  made : AreMade l.evaluation.scope.variables.now (g.S.Source.contents l.evaluation.source.now) l.graph l.under (element l.member) (take l.done l.rows) l.out.items;
  within : l.done ≤ length l.rows;
}

abbrev pub decreases-rows_followed-loop-done : goal.decreases-rows_followed-loop-done
decreases-rows_followed-loop-done g l = length l.rows - l.done

abbrev pub invariant-union_under-loop-group : goal.invariant-union_under-loop-group
invariant-union_under-loop-group g l =
    length l.under ≡ length l.evaluation.scope.variables.now →
    AreMoreSolutions (g.S.Source.contents l.evaluation.source.now) l.out.items (λ d. flat_map (λ p. under l.evaluation.scope.variables.now d l.graph (translation p) l.under) (drop l.group-index l.groups))
    (λ d. flat_map (λ p. under l.evaluation.scope.variables.now d l.graph (translation p) l.under) l.groups)

abbrev pub invariant-apart_under-loop-place : goal.invariant-apart_under-loop-place
invariant-apart_under-loop-place g l =
    (d : Listing) → Lists (g.S.Source.contents l.evaluation.source.now) d → length l.under ≡ length l.evaluation.scope.variables.now →
    list_all (is_wide l.evaluation.scope.variables.now) l.fn.rows.items ≡ true →
    Follows l.evaluation.scope.variables.now d Default l.under (drop l.first l.members) (drop l.place l.members) l.fn.rows.items l.rows.items

abbrev pub invariant-each_under-loop-name : goal.invariant-each_under-loop-name
invariant-each_under-loop-name g l =
    length l.under ≡ length l.evaluation.scope.variables.now →
    AreMoreSolutions (g.S.Source.contents l.evaluation.source.now) l.out.items
    (λ d. flat_map (under_name l.evaluation.scope.variables.now d l.variable (filtered l.filters (group_of (map element (take l.many l.members)))) l.under) (drop l.name-index l.names))
    (λ d. flat_map (under_name l.evaluation.scope.variables.now d l.variable (filtered l.filters (group_of (map element (take l.many l.members)))) l.under) l.names)
