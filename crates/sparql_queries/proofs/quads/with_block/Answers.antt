use Rattle.std.proofs.Common.{◌≡◌, ◌∙◌, ap, sym, subst, rules, map, Some, List, [], ◌∷◌, ◌++◌}
use Rattle.sparql_drafts.specs.Kept.{Fails}
use Rattle.sparql_grammar.specs.GroupReading.{together}
use Rattle.sparql_grammar.specs.QuadGroups.{members_by}
use Rattle.sparql_queries.specs.Collected.{collected_behind}
use Rattle.sparql_queries.specs.Groups as spec
use Rattle.sparql_queries.proofs.QuadLemmas.{graph_block_said, graph_block_fails, block_name_fails}
use Rattle.sparql_grammar.specs.declared.tree.Triples.{Triples}
use Rattle.sparql_trees.specs.declared.expression.Expression.{Expression}
use Rattle.sparql_trees.specs.declared.pattern.Member.{Member}
use Rattle.sparql_trees.specs.declared.pattern.Member.TheVariants as member
use Rattle.sparql_queries.proofs.quads.with_block.Goals as goal

pub returns-in_err-name-in-Some-clause-gives : goal.returns-in_err-name-in-Some-clause-gives
returns-in_err-name-in-Some-clause-gives c =
    let p = c.args.scope.now.prologue in
    let block = c.args.block.now in
    let e = c.in_err-name-in-Some.field-0.0 in
    let fails : Fails (collected_behind c.args.members (map (spec.member_in p) (members_by block.graph block.triples)) c.args.labels.now) e =
    rw c.in-Some.is (block_name_fails p c.args.members c.in-Some.name block.triples c.args.labels.now e c.in_err-name-in-Some.ensures.tells) in
    search rules

pub returns-in_err-inside-in-Some-clause-gives : goal.returns-in_err-inside-in-Some-clause-gives
returns-in_err-inside-in-Some-clause-gives c =
    let p = c.args.scope.now.prologue in
    let q = c.named.new.scope.prologue in
    let block = c.args.block.now in
    let labels = c.args.labels.now in
    let e = c.in_err-inside-in-Some.field-0.0 in
    let same : c.as_slice-in-Some.result.now ≡ block.triples = c.as_slice-in-Some.ensures in
    let inside : Fails (collected_behind c.new-empty.result (map (spec.member_in q) (together block.triples)) labels) e =
    subst (λ (ts : List Triples). Fails (collected_behind c.new-empty.result (map (spec.member_in q) (together ts)) labels) e) same c.in_err-inside-in-Some.ensures.gives in
    let fails : Fails (collected_behind c.args.members (map (spec.member_in p) (members_by block.graph block.triples)) labels) e =
    rw c.in-Some.is (graph_block_fails p q c.args.members c.in-Some.name block.triples labels c.in_ok-name-in-Some.name c.new-empty.result e
    c.named.ensures.prologue c.new-empty.ensures c.in_ok-name-in-Some.ensures.tells inside) in
    search rules

pub returns-in_ok-push-in-Some-clause-gives : goal.returns-in_ok-push-in-Some-clause-gives
returns-in_ok-push-in-Some-clause-gives c =
    let p = c.args.scope.now.prologue in
    let q = c.named.new.scope.prologue in
    let block = c.args.block.now in
    let found = c.args.members in
    let s = c.args.labels.now in
    let u = c.with_triples-in-Some.new.labels in
    let name = c.in_ok-name-in-Some.name in
    let ms = c.in_ok-inside-in-Some.inside in
    let same : c.as_slice-in-Some.result.now ≡ block.triples = c.as_slice-in-Some.ensures in
    let inside : collected_behind c.new-empty.result (map (spec.member_in q) (together block.triples)) s ≡ Some (ms, u) =
    subst (λ (ts : List Triples). collected_behind c.new-empty.result (map (spec.member_in q) (together ts)) s ≡ Some (ms, u)) same c.in_ok-inside-in-Some.ensures.gives in
    let pushed : c.push.new.self ≡ found ++ member.Graph name (spec.pattern_with ms c.new.result) ∷ [] = c.in_ok-push-in-Some.ensures.ok in
    rw c.in-Some.is
    (graph_block_said p q found c.in-Some.name block.triples s u name ms c.new-empty.result c.named.ensures.prologue c.new-empty.ensures c.in_ok-name-in-Some.ensures.tells inside
    ∙ ap (λ (fs : List Expression). Some (found ++ member.Graph name (spec.pattern_with ms fs) ∷ [], u)) (sym c.new.ensures)
    ∙ ap (λ (l : List Member). Some (l, u)) (sym pushed))
