use Rattle.std.proofs.Common.{rules, ◌≡◌, ◌∙◌, ap, [], ◌∷◌, true, length}
use Rattle.rdf_turtle.specs.FaultyNames.{taken, is_unbound}
use Rattle.rdf_turtle.specs.Inside.Walks.{unbound_start}
use Rattle.rdf_turtle.specs.Terminals.{terminal_of}
use Rattle.rdf_turtle.proofs.SurveyLemmas.{unbound_starts, here}
use Rattle.rdf_turtle.proofs.faulty_name.first_unbound_in.Goals as goal

pub returns-then-is_unbound : goal.returns-then-is_unbound
returns-then-is_unbound c =
    let l = c.loop-found in
    let found : is_unbound l.declares l.bound.keys (taken l.behind (terminal_of c.in-Token.kind c.in-Token.name)) c.in-Token.name ≡ true =
    cc (c.if-is_unbound.ensures, c.taken-terminal.ensures, c.terminal_of-read.ensures) in
    unbound_starts c.args.text.now c.over-walk.result c.in-Token.start c.over-walk.ensures
    (l.invariant ∙ ap (unbound_start (length c.args.text.now) l.behind l.declares l.bound.keys) (c.in-Some.ensures ∙ ap (λ f. f ∷ c.next.new.self) c.in-Token.is) ∙ here _ _ _ found)

pub returns-in-NoToken : goal.returns-in-NoToken
returns-in-NoToken c =
    let l = c.loop-found in
    unbound_starts c.args.text.now c.over-walk.result _ c.over-walk.ensures
    (l.invariant ∙ ap (unbound_start (length c.args.text.now) l.behind l.declares l.bound.keys) (c.in-Some.ensures ∙ ap (λ f. f ∷ c.next.new.self) c.in-NoToken.is))

pub returns : goal.returns
returns c =
    let l = c.loop-found in
    let end : l.walk ≡ [] = search rules in
    unbound_starts c.args.text.now c.over-walk.result _ c.over-walk.ensures (l.invariant ∙ ap (unbound_start (length c.args.text.now) l.behind l.declares l.bound.keys) end)
