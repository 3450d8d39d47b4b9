use Rattle.std.proofs.Common.{◌≡◌, ◌∙◌, ap, sym, Bool, true, ◌&&◌, map, rules}
use Rattle.std.specs.List.{list_all}
use Rattle.sparql_grammar.specs.Proper.{holds}
use Rattle.sparql_queries.specs.Known.{known_expression, known_member}
use Rattle.sparql_queries.proofs.KnownLemmas.{group_known}
use Rattle.sparql_queries.proofs.known.+known.Goals as goal

pub knows_group-returns-then-knows_members : goal.knows_group-returns-then-knows_members
knows_group-returns-then-knows_members t c =
    let declared = c.args.declared.now.keys in
    let group = c.args.group.now in
    let members : list_all holds (map (known_member declared) group.members) ≡ true = search rules in
    let filters : c.knows_expressions.result ≡ list_all holds (map (known_expression declared) group.filters) = search rules in
    filters ∙ sym (group_known declared group ∙ ap (λ (b : Bool). b && list_all holds (map (known_expression declared) group.filters)) members)
