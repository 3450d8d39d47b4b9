use Rattle.std.proofs.Common.{◌≡◌, IfOk, Some, rules}
use Rattle.std.specs.Prelude.{IfErr}
use Rattle.rdf_grammar.specs.Prologue.{iri_of}
use Rattle.rdf_grammar.specs.PrologueFaults.{Explains}
use Rattle.rdf_turtle.proofs.PrologueSteps.{iri_gives, iri_knows}
use Rattle.rdf_turtle.proofs.scope.Scope.iri.Goals as goal

pub returns-clause-gives : goal.returns-clause-gives
returns-clause-gives g c =
    let value : IfOk c.iri.result (λ i. iri_of c.args.name.now c.args.self.now.prologue ≡ Some i) = search rules in
    let fault : IfErr c.iri.result (λ e. Explains c.args.self.now.prologue c.args.name.now e) = search rules in
    iri_gives c.args.name.now c.args.self.now _ c.iri.result value fault (search rules)

pub returns-clause-known : goal.returns-clause-known
returns-clause-known g c =
    let value : IfOk c.iri.result (λ i. iri_of c.args.name.now c.args.self.now.prologue ≡ Some i) = search rules in
    iri_knows c.args.name.now c.args.self.now.prologue c.iri.result value
