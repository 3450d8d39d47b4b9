use Rattle.std.proofs.Common.{rules, ◌∙◌}
use Rattle.sparql_drafts.specs.Kept.{Fails}
use Rattle.sparql_drafts.specs.declared.draft.Quads.{Quads}
use Rattle.sparql_syntax.specs.Meaning.{modification}
use Rattle.sparql_syntax.proofs.ModifyLemmas.{group_fails, modification_told, templates_told}
use Rattle.sparql_syntax.proofs.drafts.modify.Goals as goal

pub returns-in_err-pattern-clause-tells : goal.returns-in_err-pattern-clause-tells
returns-in_err-pattern-clause-tells c =
    let p = c.args.scope.now.prologue in
    let m = c.args.written.now in
    let both : Quads × Quads = (c.in_ok-delete.delete, c.in_ok-delete.insert) in
    let e = c.in_err-pattern.field-0.0 in
    let quads = templates_told m.delete m.insert c.as_slice.result.now c.as_slice-2.result.now p c.with_graph.new.scope.prologue both
    c.as_slice.ensures c.as_slice-2.ensures c.with_graph.ensures.prologue c.in_ok-delete.ensures.tells in
    let fails : Fails (modification m.with m.delete m.insert m.group p) e =
    group_fails m.with m.delete m.insert m.group p c.templates.new.scope.prologue c.new-labels.result c.in_ok-with.with both e
    (c.templates.ensures.prologue ∙ c.with_graph.ensures.prologue) c.new-labels.ensures c.in_ok-with.ensures.tells quads c.in_err-pattern.ensures.gives in
    search rules

pub returns-clause-tells : goal.returns-clause-tells
returns-clause-tells c =
    let p = c.args.scope.now.prologue in
    let m = c.args.written.now in
    let both : Quads × Quads = (c.in_ok-delete.delete, c.in_ok-delete.insert) in
    let quads = templates_told m.delete m.insert c.as_slice.result.now c.as_slice-2.result.now p c.with_graph.new.scope.prologue both
    c.as_slice.ensures c.as_slice-2.ensures c.with_graph.ensures.prologue c.in_ok-delete.ensures.tells in
    modification_told m.with m.delete m.insert m.group p c.templates.new.scope.prologue c.new-labels.result c.in_ok-with.with both
    (c.in_ok-pattern.pattern, c.pattern_of.new.labels) (c.templates.ensures.prologue ∙ c.with_graph.ensures.prologue) c.new-labels.ensures c.in_ok-with.ensures.tells quads
    c.in_ok-pattern.ensures.gives
