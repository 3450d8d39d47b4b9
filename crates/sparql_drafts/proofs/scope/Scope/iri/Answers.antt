use Rattle.std.proofs.Common.{◌≡◌, IfOk, Some, rules}
use Rattle.std.specs.Prelude.{IfErr}
use Rattle.rdf_grammar.specs.Prologue.{iri_of}
use Rattle.rdf_grammar.specs.PrologueFaults.{Explains}
use Rattle.sparql_drafts.specs.Kept.{Tells}
use Rattle.sparql_drafts.proofs.ScopeSteps.{iri_tells, iri_gives}
use Rattle.sparql_drafts.proofs.scope.Scope.iri.Goals as goal

pub returns-clause-tells : goal.returns-clause-tells
returns-clause-tells c =
    let value : IfOk c.iri.result (λ i. iri_of c.args.name.now c.args.self.now.prologue ≡ Some i) = search rules in
    let fault : IfErr c.iri.result (λ e. Explains c.args.self.now.prologue c.args.name.now e) = search rules in
    iri_tells c.args.name.now c.args.self.now.prologue c.iri.result c.or_fault.result value fault c.or_fault.ensures

pub returns-clause-gives : goal.returns-clause-gives
returns-clause-gives c =
    let value : IfOk c.iri.result (λ i. iri_of c.args.name.now c.args.self.now.prologue ≡ Some i) = search rules in
    let fault : IfErr c.iri.result (λ e. Explains c.args.self.now.prologue c.args.name.now e) = search rules in
    let tells : Tells (iri_of c.args.name.now c.args.self.now.prologue) c.or_fault.result =
    iri_tells c.args.name.now c.args.self.now.prologue c.iri.result c.or_fault.result value fault c.or_fault.ensures in
    iri_gives c.args.name.now c.args.self.now _ c.or_fault.result tells (search rules)
