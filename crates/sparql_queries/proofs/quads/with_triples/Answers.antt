use Rattle.std.proofs.Common.{◌≡◌, ◌∙◌, ap, sym, rules, arith, map, ◌<◌, length, Some, List, [], ◌∷◌, ◌++◌}
use Rattle.sparql_drafts.specs.Kept.{Fails}
use Rattle.sparql_grammar.specs.GroupReading.{together}
use Rattle.sparql_queries.specs.Collected.{collected_behind}
use Rattle.sparql_queries.specs.Groups as spec
use Rattle.sparql_queries.proofs.QuadLemmas.{some_together, together_fails}
use Rattle.sparql_trees.specs.declared.pattern.Member.{Member}
use Rattle.sparql_trees.specs.declared.pattern.Member.TheVariants as member
use Rattle.sparql_queries.proofs.quads.with_triples.Goals as goal

pub returns-in_err-pattern-clause-gives : goal.returns-in_err-pattern-clause-gives
returns-in_err-pattern-clause-gives c =
    let p = c.args.scope.now.prologue in
    let triples = c.args.triples.now in
    let e = c.in_err-pattern.field-0.0 in
    let filled : 0 < length triples = grind arith in
    let fails : Fails (collected_behind c.args.members (map (spec.member_in p) (together triples)) c.args.labels.now) e =
    together_fails p c.args.members triples c.args.labels.now e filled c.in_err-pattern.ensures.gives in
    search rules

pub returns-clause-gives : goal.returns-clause-gives
returns-clause-gives c =
    let p = c.args.scope.now.prologue in
    let triples = c.args.triples.now in
    let u = c.basic.new.labels in
    let b = c.in_ok-pattern.pattern in
    let filled : 0 < length triples = grind arith in
    let pushed : c.push.new.self ≡ c.args.members ++ member.Basic b ∷ [] = c.in_ok-push.ensures.ok in
    some_together p c.args.members triples c.args.labels.now u b filled c.in_ok-pattern.ensures.gives
    ∙ ap (λ (ms : List Member). Some (ms, u)) (sym pushed)
