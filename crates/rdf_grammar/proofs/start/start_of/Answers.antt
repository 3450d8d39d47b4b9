use Rattle.std.proofs.Common.{rules, ◌≡◌, ◌∙◌, ap, [], ◌∷◌, length}
use Rattle.rdf_grammar.specs.Walks.{start_behind}
use Rattle.rdf_grammar.proofs.WalkLemmas.{number_starts}
use Rattle.rdf_grammar.proofs.start.start_of.Goals as goal

pub returns-in-NoToken : goal.returns-in-NoToken
returns-in-NoToken c =
    let l = c.loop-found in
    number_starts c.args.text.now c.over-walk.result c.args.number _ c.over-walk.ensures
    (l.invariant ∙ ap (start_behind (length c.args.text.now) l.before) (c.in-Some.ensures ∙ ap (λ f. f ∷ c.next.new.self) c.in-NoToken.is))

pub returns : goal.returns
returns c =
    let l = c.loop-found in
    let end : l.walk ≡ [] = search rules in
    number_starts c.args.text.now c.over-walk.result c.args.number _ c.over-walk.ensures (l.invariant ∙ ap (start_behind (length c.args.text.now) l.before) end)

pub returns-then-before-eq0 : goal.returns-then-before-eq0
returns-then-before-eq0 c =
    let l = c.loop-found in
    number_starts c.args.text.now c.over-walk.result c.args.number _ c.over-walk.ensures
    (l.invariant ∙ ap (λ n. start_behind (length c.args.text.now) n l.walk) c.if-before-eq0.true
    ∙ ap (start_behind (length c.args.text.now) 0) (c.in-Some.ensures ∙ ap (λ f. f ∷ c.next.new.self) c.in-Token.is))
