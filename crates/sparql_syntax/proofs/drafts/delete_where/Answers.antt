use Rattle.std.proofs.Common.{rules, ◌≡◌, [], Some, None, refl}
use Rattle.sparql_drafts.specs.Kept.{Fails}
use Rattle.sparql_grammar.specs.QuadGroups.{quads_group}
use Rattle.sparql_syntax.specs.Meaning.{modification, templates}
use Rattle.sparql_syntax.proofs.ModifyLemmas.{group_fails, modification_told}
use Rattle.sparql_syntax.proofs.drafts.delete_where.Goals as goal

pub returns-in_err-pattern-clause-tells : goal.returns-in_err-pattern-clause-tells
returns-in_err-pattern-clause-tells c =
    let p = c.args.scope.now.prologue in
    let blocks = c.args.blocks.now in
    let e = c.in_err-pattern.field-0.0 in
    let quads : templates blocks [] p ≡ Some (c.in_ok-delete.delete, c.in_ok-delete.insert) = c.in_ok-delete.ensures.tells in
    let fails : Fails (modification None blocks [] (quads_group blocks) p) e =
    group_fails None blocks [] (quads_group blocks) p c.templates.new.scope.prologue c.new-labels.result None (c.in_ok-delete.delete, c.in_ok-delete.insert) e
    c.templates.ensures.prologue c.new-labels.ensures refl quads c.in_err-pattern.ensures.gives in
    search rules

pub returns-clause-tells : goal.returns-clause-tells
returns-clause-tells c =
    let p = c.args.scope.now.prologue in
    let blocks = c.args.blocks.now in
    let quads : templates blocks [] p ≡ Some (c.in_ok-delete.delete, c.in_ok-delete.insert) = c.in_ok-delete.ensures.tells in
    modification_told None blocks [] (quads_group blocks) p c.templates.new.scope.prologue c.new-labels.result None (c.in_ok-delete.delete, c.in_ok-delete.insert)
    (c.in_ok-pattern.pattern, c.quads_pattern_of.new.labels) c.templates.ensures.prologue c.new-labels.ensures refl quads c.in_ok-pattern.ensures.gives
