use Rattle.std.proofs.Common.{rules, ◌≡◌, ◌∙◌, ap, [], ◌∷◌}
use Rattle.rdf_tokens.specs.Lines.{line_of}
use Rattle.rdf_grammar.specs.Walks.{first_fault, depth_behind}
use Rattle.rdf_turtle.specs.Terminals.{bracket, terminal_by}
use Rattle.rdf_turtle.proofs.SurveyLemmas.{token_fault, deep_fault, no_deep_fault}
use Rattle.rdf_turtle.proofs.survey.survey.Goals as goal

pub returns-in-NoToken : goal.returns-in-NoToken
returns-in-NoToken c base =
    token_fault base c.args.text.now c.over-walk.result c.in-NoToken.start c.fault_at.result c.utf8.text c.over-walk.ensures
    (c.loop-found.invariant.fault ∙ ap first_fault (c.in-Some.ensures ∙ ap (λ f. f ∷ c.next.new.self) c.in-NoToken.is)) c.fault_at.ensures.kind
    (c.fault_at.ensures.line (λ same. cc) ∙ ap (λ t. line_of t c.in-NoToken.start) c.as_bytes.ensures.value)

pub returns-in-Open : goal.returns-in-Open
returns-in-Open c =
    let end : c.loop-found.walk ≡ [] = search rules in
    no_deep_fault c.args.text.now c.over-walk.result _ c.utf8.text c.over-walk.ensures (c.loop-found.invariant.fault ∙ ap first_fault end)
    (c.loop-found.invariant.depth ∙ ap (depth_behind terminal_by bracket c.loop-found.depth) end ∙ c.in-Open.is)

pub returns-in-TooDeep : goal.returns-in-TooDeep
returns-in-TooDeep c base =
    let end : c.loop-found.walk ≡ [] = search rules in
    deep_fault base c.args.text.now c.over-walk.result c.in-TooDeep.start c.fault_at-in-TooDeep.result c.utf8.text c.over-walk.ensures (c.loop-found.invariant.fault ∙ ap first_fault end)
    (c.loop-found.invariant.depth ∙ ap (depth_behind terminal_by bracket c.loop-found.depth) end ∙ c.in-TooDeep.is) c.fault_at-in-TooDeep.ensures.kind
    (c.fault_at-in-TooDeep.ensures.line (λ same. cc) ∙ ap (λ t. line_of t c.in-TooDeep.start) c.as_bytes-in-TooDeep.ensures.value)
