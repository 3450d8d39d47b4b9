use Rattle.std.proofs.Common.{List, Option, ℕ, map, ap, ◌∙◌}
use Rattle.std.specs.List.{count_by}
use Rattle.sparql_values.specs.Mapping.{same_mapping, value_in}
use Rattle.sparql_algebra.specs.Results.{times_selected}
use Rattle.sparql_solve.proofs.ResultLemmas.{selected_through}
use Rattle.sparql_solve.proofs.results.select_minus.Goals as goal

pub from_rising-variables-requires : goal.from_rising-variables-requires
from_rising-variables-requires g c = rw c.in_ok-visible.ensures (c.one_list_of_visible_variables.ensures.sorted c.args.query.now.pattern).rises

pub from_rising-all-requires : goal.from_rising-all-requires
from_rising-all-requires g c = rw c.in_ok-named.ensures (c.one_list_of_visible_variables.ensures.named c.args.query.now.pattern).rises

pub returns : goal.returns
returns g c =
    selected_through c.args.query.now (g.S.Source.contents c.args.source.now) c.from_rising-variables.result c.from_rising-all.result
    c.in_ok-found.found.items c.in_ok-fewer.fewer.items c.in_ok-ordered.field-0.items c.in_ok-columns.columns.items
    (c.from_rising-variables.ensures ∙ c.in_ok-visible.ensures) (c.from_rising-all.ensures ∙ c.in_ok-named.ensures) c.in_ok-found.ensures c.in_ok-columns.ensures
    (λ m. c.in_ok-fewer.ensures m
    ∙ ap (λ (ks : List (Option ℕ)). times_selected c.args.query.now.distinct (count_by (same_mapping m) (map (λ r. map (value_in r) ks) c.in_ok-found.found.items)))
    c.as_slice.ensures.value)
    c.in_ok-ordered.ensures.sorted c.in_ok-ordered.ensures.counted
