use Rattle.std.proofs.Common.{◌≡◌, IfOk, Some, rules}
use Rattle.std.specs.Prelude.{IfErr}
use Rattle.rdf_grammar.specs.declared.tree.Name.TheVariants.{Full}
use Rattle.rdf_grammar.specs.Prologue.{resolved}
use Rattle.rdf_grammar.specs.PrologueFaults.{Explains}
use Rattle.sparql_drafts.proofs.ScopeSteps.{reference_tells}
use Rattle.sparql_drafts.proofs.scope.Scope.resolved.Goals as goal

pub returns : goal.returns
returns c =
    let value : IfOk c.resolve.result (λ i. resolved c.args.reference.now c.args.self.now.prologue ≡ Some i) = search rules in
    let fault : IfErr c.resolve.result (λ e. Explains c.args.self.now.prologue (Full c.args.reference.now) e) = search rules in
    reference_tells c.args.reference.now c.args.self.now.prologue c.resolve.result c.or_fault.result value fault c.or_fault.ensures
