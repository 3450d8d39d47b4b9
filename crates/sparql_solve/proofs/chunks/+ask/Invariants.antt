use Rattle.std.proofs.Common.{◌≡◌, ◌≤◌, ◌+◌, ◌-◌, ◌*◌, true, length, map, drop}
use Rattle.std.specs.List.{list_all}
use Rattle.sparql_algebra.specs.Algebra.{element}
use Rattle.sparql_algebra.specs.Listing.{Listing, Lists}
use Rattle.sparql_algebra.specs.Results.{is_some_solution}
use Rattle.sparql_solve.specs.Ask.{followed, has_columns}
use Rattle.sparql_solve.specs.Matching.{matches_of}
use Rattle.sparql_solve.specs.Under.{is_wide}
use Rattle.sparql_solve.proofs.AskLemmas.{Asks, Grows, grows_to}
use Rattle.sparql_solve.proofs.PatternOrderLemmas.{asked}
use Rattle.sparql_solve.proofs.chunks.+ask.Given as goal

abbrev pub decreases-some_after : goal.decreases-some_after
decreases-some_after g l = 5 * length l.behind.rooms.now + 1

abbrev pub decreases-some_of_first : goal.decreases-some_of_first
decreases-some_of_first g l = 5 * length l.behind.rooms.now

abbrev pub decreases-some_looked_up : goal.decreases-some_looked_up
decreases-some_looked_up g l = 5 * length l.behind.rooms.now + 3

abbrev pub decreases-some_matched : goal.decreases-some_matched
decreases-some_matched g l = 5 * length l.behind.rooms.now + 2

abbrev pub decreases-some_of_first_matched : goal.decreases-some_of_first_matched
decreases-some_of_first_matched g l = 5 * length l.behind.rooms.now

abbrev pub invariant-some_after-loop-place : goal.invariant-some_after-loop-place
invariant-some_after-loop-place g l =
    (d : Listing) → Lists (g.S.Source.contents l.group.evaluation.now.source.now) d → length l.group.under.now ≡ length l.group.evaluation.now.scope.variables.now → list_all (is_wide l.group.evaluation.now.scope.variables.now) l.fn.rows.items ≡ true →
    Asks l.group.evaluation.now.scope.variables.now d l.group.graph.now l.group.under.now l.group.filters.now l.behind.members.now (drop l.place l.behind.members.now) l.fn.rows.items l.rows.items

abbrev pub invariant-some_of_first-loop-first : goal.invariant-some_of_first-loop-first
invariant-some_of_first-loop-first g l = record {
  wide : list_all (is_wide l.group.evaluation.now.scope.variables.now) l.fn.rows.items ≡ true → list_all (is_wide l.group.evaluation.now.scope.variables.now) l.rows.items ≡ true;
  same : (d : Listing) → Lists (g.S.Source.contents l.group.evaluation.now.source.now) d → length l.group.under.now ≡ length l.group.evaluation.now.scope.variables.now → list_all (is_wide l.group.evaluation.now.scope.variables.now) l.fn.rows.items ≡ true →
      is_some_solution (followed l.group.evaluation.now.scope.variables.now d l.group.graph.now l.group.under.now (map element l.behind.members.now) l.group.filters.now l.rows.items)
      ≡ is_some_solution (followed l.group.evaluation.now.scope.variables.now d l.group.graph.now l.group.under.now (map element l.behind.members.now) l.group.filters.now l.fn.rows.items);
}

abbrev pub decreases-some_of_first-loop-first : goal.decreases-some_of_first-loop-first
decreases-some_of_first-loop-first g l = length l.rows.items

abbrev pub invariant-some_matched-loop-rest : goal.invariant-some_matched-loop-rest
invariant-some_matched-loop-rest g l =
    (d : Listing) → Lists (g.S.Source.contents l.group.evaluation.now.source.now) d → length l.group.under.now ≡ length l.group.evaluation.now.scope.variables.now → list_all (has_columns l.group.evaluation.now.scope.variables.now) l.fn.start.items ≡ true →
    Grows l.group.evaluation.now.scope.variables.now d l.group.graph.now l.group.under.now l.own l.behind.members.now l.group.filters.now (asked l.fn.patterns.items) (asked l.rest.items) l.fn.start.items l.rows.items

abbrev pub decreases-some_matched-loop-rest : goal.decreases-some_matched-loop-rest
decreases-some_matched-loop-rest g l = length l.rest.items

abbrev pub invariant-some_of_first_matched-loop-first : goal.invariant-some_of_first_matched-loop-first
invariant-some_of_first_matched-loop-first g l = record {
  wide : list_all (has_columns l.group.evaluation.now.scope.variables.now) l.fn.rows.items ≡ true → list_all (has_columns l.group.evaluation.now.scope.variables.now) l.rows.items ≡ true;
  same : (d : Listing) → Lists (g.S.Source.contents l.group.evaluation.now.source.now) d → length l.group.under.now ≡ length l.group.evaluation.now.scope.variables.now → list_all (has_columns l.group.evaluation.now.scope.variables.now) l.fn.rows.items ≡ true →
      is_some_solution (grows_to l.group.evaluation.now.scope.variables.now d l.group.graph.now l.group.under.now l.own l.behind.members.now l.group.filters.now (asked l.patterns.items) l.rows.items)
      ≡ is_some_solution (grows_to l.group.evaluation.now.scope.variables.now d l.group.graph.now l.group.under.now l.own l.behind.members.now l.group.filters.now (asked l.patterns.items) l.fn.rows.items);
}

abbrev pub decreases-some_of_first_matched-loop-first : goal.decreases-some_of_first_matched-loop-first
decreases-some_of_first_matched-loop-first g l = length l.rows.items

abbrev pub decreases-some_of_lone : goal.decreases-some_of_lone
decreases-some_of_lone g l = 5 * length l.behind.rooms.now + 1

abbrev pub decreases-some_of_quads : goal.decreases-some_of_quads
decreases-some_of_quads g l = 5 * length l.behind.rooms.now

abbrev pub invariant-some_of_quads-loop-done : goal.invariant-some_of_quads-loop-done
invariant-some_of_quads-loop-done g l = record {
  within : l.done ≤ length l.quads;
  same : (d : Listing) → Lists (g.S.Source.contents l.group.evaluation.now.source.now) d → length l.group.under.now ≡ length l.group.evaluation.now.scope.variables.now → has_columns l.group.evaluation.now.scope.variables.now l.row ≡ true →
      is_some_solution (grows_to l.group.evaluation.now.scope.variables.now d l.group.graph.now l.group.under.now l.own l.behind.members.now l.group.filters.now (asked l.patterns.items) (matches_of (drop l.done l.quads) l.places l.row))
      ≡ is_some_solution (grows_to l.group.evaluation.now.scope.variables.now d l.group.graph.now l.group.under.now l.own l.behind.members.now l.group.filters.now (asked l.patterns.items) (matches_of l.quads l.places l.row));
}

abbrev pub decreases-some_of_quads-loop-done : goal.decreases-some_of_quads-loop-done
decreases-some_of_quads-loop-done g l = length l.quads - l.done
