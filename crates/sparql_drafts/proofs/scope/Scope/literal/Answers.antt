use Rattle.std.proofs.Common.{◌≡◌, IfOk, Some, rules}
use Rattle.std.specs.Prelude.{IfErr}
use Rattle.rdf_grammar.specs.Literals.{ExplainsLiteral, literal_of}
use Rattle.sparql_drafts.specs.Kept.{Tells}
use Rattle.sparql_drafts.proofs.ScopeSteps.{literal_tells, literal_gives}
use Rattle.sparql_drafts.proofs.scope.Scope.literal.Goals as goal

pub returns-clause-tells : goal.returns-clause-tells
returns-clause-tells c =
    let value : IfOk c.literal.result (λ l. literal_of c.args.literal.now c.args.self.now.prologue ≡ Some l) = search rules in
    let fault : IfErr c.literal.result (λ e. ExplainsLiteral c.args.self.now.prologue c.args.literal.now e) = search rules in
    literal_tells c.args.literal.now c.args.self.now.prologue c.literal.result c.or_fault.result value fault c.or_fault.ensures

pub returns-clause-gives : goal.returns-clause-gives
returns-clause-gives c =
    let value : IfOk c.literal.result (λ l. literal_of c.args.literal.now c.args.self.now.prologue ≡ Some l) = search rules in
    let fault : IfErr c.literal.result (λ e. ExplainsLiteral c.args.self.now.prologue c.args.literal.now e) = search rules in
    let tells : Tells (literal_of c.args.literal.now c.args.self.now.prologue) c.or_fault.result =
    literal_tells c.args.literal.now c.args.self.now.prologue c.literal.result c.or_fault.result value fault c.or_fault.ensures in
    literal_gives c.args.literal.now c.args.self.now _ c.or_fault.result tells (search rules)
