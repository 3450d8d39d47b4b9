use Rattle.std.proofs.Common.{rules, ℕ, ◌≡◌, ◌∙◌, ap, [], ◌∷◌, Some}
use Rattle.rdf_grammar.specs.Walks.{first_fault, depth_behind}
use Rattle.sparql_terminals.specs.Terminals.{bracket, terminal_by}
use Rattle.sparql_syntax.specs.Survey.{left_out_behind}
use Rattle.sparql_syntax.proofs.SurveyLemmas.{token_fault, word_fault, depth_fault, no_fault, not_some}
use Rattle.sparql_syntax.proofs.survey.survey.Goals as goal

pub returns-in-NoToken : goal.returns-in-NoToken
returns-in-NoToken c =
    token_fault c.args.text.now c.over-walk.result c.in-NoToken.start c.fault_at.result c.utf8.text c.over-walk.ensures
    (c.loop-found.invariant.fault ∙ ap first_fault (c.in-Some.ensures ∙ ap (λ f. f ∷ c.next.new.self) c.in-NoToken.is)) (search rules)

pub returns-in-Some-left_out : goal.returns-in-Some-left_out
returns-in-Some-left_out c =
    let end : c.loop-found.walk ≡ [] = search rules in
    let out : c.loop-found.left_out ≡ Some c.in-Some-left_out.start = search rules in
    word_fault c.args.text.now c.over-walk.result c.in-Some-left_out.start c.fault_at-in-Some-left_out.result c.utf8.text c.over-walk.ensures (c.loop-found.invariant.fault ∙ ap first_fault end)
    (c.loop-found.invariant.out ∙ ap (left_out_behind c.loop-found.left_out) end ∙ out) (search rules)

pub returns-in-TooDeep : goal.returns-in-TooDeep
returns-in-TooDeep c =
    let end : c.loop-found.walk ≡ [] = search rules in
    let none : (start : ℕ) → c.loop-found.left_out ≡ Some start → ⊥ = search rules in
    depth_fault c.args.text.now c.over-walk.result c.in-TooDeep.start c.fault_at-in-TooDeep.result c.utf8.text c.over-walk.ensures (c.loop-found.invariant.fault ∙ ap first_fault end)
    (c.loop-found.invariant.out ∙ ap (left_out_behind c.loop-found.left_out) end ∙ not_some c.loop-found.left_out none)
    (c.loop-found.invariant.depth ∙ ap (depth_behind terminal_by bracket c.loop-found.depth) end ∙ c.in-TooDeep.is) (search rules)

pub returns-in-Open : goal.returns-in-Open
returns-in-Open c =
    let end : c.loop-found.walk ≡ [] = search rules in
    let none : (start : ℕ) → c.loop-found.left_out ≡ Some start → ⊥ = search rules in
    no_fault c.args.text.now c.over-walk.result _ c.utf8.text c.over-walk.ensures (c.loop-found.invariant.fault ∙ ap first_fault end)
    (c.loop-found.invariant.out ∙ ap (left_out_behind c.loop-found.left_out) end ∙ not_some c.loop-found.left_out none)
    (c.loop-found.invariant.depth ∙ ap (depth_behind terminal_by bracket c.loop-found.depth) end ∙ c.in-Open.is)
