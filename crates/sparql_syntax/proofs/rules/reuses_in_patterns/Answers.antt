use Rattle.std.proofs.Common.{rules, ◌≡◌, ◌∙◌, true, false, sym}
use Rattle.sparql_syntax.specs.Labels.{all_known_behind, repeats_label}
use Rattle.sparql_syntax.specs.Rules.{pattern_labels}
use Rattle.sparql_syntax.proofs.LabelLemmas.{repeats_later, repeats_there}
use Rattle.sparql_syntax.proofs.rules.reuses_in_patterns.Goals as goal

pub returns-then-branch : goal.returns-then-branch
returns-then-branch c =
    let drafts = c.args.drafts.now in
    let i = c.loop-draft.draft-index in
    let draft = c.draft-item.result in
    let known = c.loop-draft.known.keys in
    let found : repeats_label known (pattern_labels draft) ≡ true = search rules in
    sym (c.loop-draft.invariant ∙ repeats_there pattern_labels drafts i draft known c.loop-draft-test.true c.draft-item.is found)

pub loop-draft-preserved : goal.loop-draft-preserved
loop-draft-preserved c =
    let drafts = c.args.drafts.now in
    let i = c.loop-draft.draft-index in
    let draft = c.draft-item.result in
    let known = c.loop-draft.known.keys in
    let none : repeats_label known (pattern_labels draft) ≡ false = search rules in
    let knows : c.repeats_in.new.known.keys ≡ all_known_behind known (pattern_labels draft) = search rules in
    c.loop-draft.invariant ∙ repeats_later pattern_labels drafts i draft known c.repeats_in.new.known.keys c.loop-draft-test.true c.draft-item.is none knows
