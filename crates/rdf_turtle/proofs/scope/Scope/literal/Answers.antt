use Rattle.std.proofs.Common.{◌≡◌, IfOk, Some, rules}
use Rattle.std.specs.Prelude.{IfErr}
use Rattle.rdf_grammar.specs.Literals.{ExplainsLiteral, literal_of}
use Rattle.rdf_turtle.proofs.PrologueSteps.{literal_gives, literal_knows}
use Rattle.rdf_turtle.proofs.scope.Scope.literal.Goals as goal

pub returns-clause-gives : goal.returns-clause-gives
returns-clause-gives g c =
    let value : IfOk c.literal.result (λ l. literal_of c.args.literal.now c.args.self.now.prologue ≡ Some l) = search rules in
    let fault : IfErr c.literal.result (λ e. ExplainsLiteral c.args.self.now.prologue c.args.literal.now e) = search rules in
    literal_gives c.args.literal.now c.args.self.now _ c.literal.result value fault (search rules)

pub returns-clause-known : goal.returns-clause-known
returns-clause-known g c =
    let value : IfOk c.literal.result (λ l. literal_of c.args.literal.now c.args.self.now.prologue ≡ Some l) = search rules in
    literal_knows c.args.literal.now c.args.self.now.prologue c.literal.result value
