use Rattle.std.proofs.Common.{◌≡◌, ◌∙◌, ap, sym, subst, rules, map, Some, List}
use Rattle.rdf_grammar.specs.Prologue.{Prologue}
use Rattle.rdf_grammar.proofs.CallerLemmas.{next_member}
use Rattle.sparql_drafts.specs.Kept.{Fails}
use Rattle.sparql_grammar.specs.Proper as proper
use Rattle.sparql_grammar.specs.QuadGroups.{quads_group}
use Rattle.sparql_queries.specs.Collected.{collected_behind}
use Rattle.sparql_queries.specs.Groups as spec
use Rattle.sparql_queries.proofs.QuadLemmas.{members_in, next_block, no_block, quads_said, quads_fail}
use Rattle.sparql_trees.specs.declared.expression.Expression.{Expression}
use Rattle.sparql_queries.proofs.quads.quads_pattern_of.Goals as goal

pub loop-block-preserved : goal.loop-block-preserved
loop-block-preserved c =
    let p = c.args.scope.now.prologue in
    let i = c.loop-block.block-index in
    let blocks = c.args.blocks.now in
    let b = c.block-item.result in
    let found = c.loop-block.members in
    let made = c.in_ok-members.members in
    let s = c.loop-block.labels in
    let u = c.with_block.new.labels in
    let same : c.loop-block.scope.prologue ≡ p = c.loop-block.invariant.prologue in
    let gives : collected_behind found (map (spec.member_in p) (members_in b)) s ≡ Some (made, u) =
    subst (λ (q : Prologue). collected_behind found (map (spec.member_in q) (members_in b)) s ≡ Some (made, u)) same c.in_ok-members.ensures.gives in
    let whole = next_member proper.proper_block blocks i b c.loop-block-test.true c.block-item.is c.loop-block.invariant.proper in
    record {
      says = c.loop-block.invariant.says ∙ next_block p blocks i b found made s u c.loop-block-test.true c.block-item.is gives;
      prologue = c.with_block.ensures.prologue ∙ same;
      proper = whole.1;
    }

pub returns-in_err-members-clause-gives : goal.returns-in_err-members-clause-gives
returns-in_err-members-clause-gives c =
    let p = c.args.scope.now.prologue in
    let i = c.loop-block.block-index in
    let blocks = c.args.blocks.now in
    let b = c.block-item.result in
    let found = c.loop-block.members in
    let s = c.loop-block.labels in
    let e = c.in_err-members.field-0.0 in
    let same : c.loop-block.scope.prologue ≡ p = c.loop-block.invariant.prologue in
    let one : Fails (collected_behind found (map (spec.member_in p) (members_in b)) s) e =
    subst (λ (q : Prologue). Fails (collected_behind found (map (spec.member_in q) (members_in b)) s) e) same c.in_err-members.ensures.gives in
    let fails : Fails (spec.group p (quads_group blocks) c.args.labels.now) e =
    quads_fail p blocks i b found c.args.labels.now s e c.loop-block.invariant.says c.loop-block-test.true c.block-item.is one in
    search rules

pub returns-clause-gives : goal.returns-clause-gives
returns-clause-gives c =
    let p = c.args.scope.now.prologue in
    let blocks = c.args.blocks.now in
    let s = c.args.labels.now in
    let u = c.loop-block.labels in
    let ms = c.loop-block.members in
    quads_said p blocks s u ms (c.loop-block.invariant.says ∙ no_block p blocks c.loop-block.block-index ms u c.loop-block-test.false)
    ∙ ap (λ (fs : List Expression). Some (spec.pattern_with ms fs, u)) (sym c.new.ensures)
