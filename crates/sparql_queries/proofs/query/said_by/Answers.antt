use Rattle.std.proofs.Common.{ap}
use Rattle.std.specs.Option.{option_copied}
use Rattle.sparql_drafts.specs.Drafting.{Drafting}
use Rattle.sparql_queries.proofs.QueryLemmas.{query_said}
use Rattle.sparql_queries.proofs.query.said_by.Goals as goal

pub returns : goal.returns
returns c =
    query_said (option_copied c.args.base) c.args.query.now c.in_ok-scope.scope.prologue c.said_in_scope-said.result
    (ap (λ (s : Drafting). s.prologue) c.in_ok-scope.ensures) c.said_in_scope-said.ensures
