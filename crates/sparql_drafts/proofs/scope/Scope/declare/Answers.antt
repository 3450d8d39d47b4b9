use Rattle.std.proofs.Common.{◌≡◌, ap, subst, Some}
use Rattle.std.specs.Prelude.{IfErr, OnOk}
use Rattle.std.specs.Option.{option_map}
use Rattle.rdf_grammar.specs.declared.tree.Name.TheVariants.{Full}
use Rattle.rdf_grammar.specs.Prologue.{Prologue, moves_base, resolved}
use Rattle.rdf_grammar.specs.PrologueFaults.{Explains}
use Rattle.sparql_drafts.specs.Drafting.{Drafting}
use Rattle.sparql_drafts.proofs.ScopeSteps.{base_gives}
use Rattle.sparql_drafts.proofs.scope.Scope.declare.Goals as goal

pub returns-in-Base-clause-gives : goal.returns-in-Base-clause-gives
returns-in-Base-clause-gives c =
    let before = ap (λ (s : Drafting). s.prologue) c.self.view_is in
    rw c.in-Base.is (base_gives c.in-Base.reference c.args.self.now.prologue c.move_base.new.self c.move_base.result c.or_fault.result
    (subst (λ (p : Prologue). OnOk c.move_base.result (option_map (λ i. moves_base i p) (resolved c.in-Base.reference p) ≡ Some c.move_base.new.self)) before c.move_base.ensures.value)
    (subst (λ (p : Prologue). IfErr c.move_base.result (λ e. Explains p (Full c.in-Base.reference) e)) before c.move_base.ensures.fault)
    c.or_fault.ensures)
