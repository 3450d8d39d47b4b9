use Rattle.std.proofs.Common.{rules, ◌≡◌, ◌∙◌, ap, [], ◌∷◌, true, length}
use Rattle.sparql_syntax.specs.FaultyNames.{is_lacking}
use Rattle.sparql_terminals.specs.Terminals.{terminal_of}
use Rattle.sparql_syntax.proofs.NameWalks.{lacking_start, lacking_starts, here}
use Rattle.sparql_syntax.proofs.faulty_name.first_lacking.Goals as goal

pub returns-then-branch : goal.returns-then-branch
returns-then-branch c =
    let l = c.loop-found in
    let found : is_lacking l.in_force (terminal_of c.in-Token.kind c.in-Token.reference) c.in-Token.reference ≡ true =
    cc (c.if-branch.true, c.in_ok-is_lacking-in-Token.ensures, c.terminal_of-terminal.ensures) in
    lacking_starts c.args.text.now c.args.based c.over-walk.result c.in-Token.start c.over-walk.ensures
    (l.invariant ∙ ap (lacking_start (length c.args.text.now) l.moves l.in_force) (c.in-Some.ensures ∙ ap (λ f. f ∷ c.next.new.self) c.in-Token.is) ∙ here _ _ _ found)

pub returns-in-NoToken : goal.returns-in-NoToken
returns-in-NoToken c =
    let l = c.loop-found in
    lacking_starts c.args.text.now c.args.based c.over-walk.result _ c.over-walk.ensures
    (l.invariant ∙ ap (lacking_start (length c.args.text.now) l.moves l.in_force) (c.in-Some.ensures ∙ ap (λ f. f ∷ c.next.new.self) c.in-NoToken.is))

pub returns : goal.returns
returns c =
    let l = c.loop-found in
    let end : l.walk ≡ [] = search rules in
    lacking_starts c.args.text.now c.args.based c.over-walk.result _ c.over-walk.ensures (l.invariant ∙ ap (lacking_start (length c.args.text.now) l.moves l.in_force) end)
