use Rattle.std.proofs.Common.{ℕ, List, Option, ◌∙◌, ap, subst, Err, IsSomeAnd}
use Rattle.rdf_terms.specs.declared.fault.IriFault.{IriFault}
use Rattle.rdf_terms.specs.Resolution.{Means}
use Rattle.rdf_grammar.specs.Prologue.{Prologue}
use Rattle.rdf_grammar.proofs.PrologueIris.{moved_is, never_forbidden}
use Rattle.rdf_grammar.proofs.prologue.Prologue.move_base.Goals as goal

pub returns-in-Ok-clause-value : goal.returns-in-Ok-clause-value
returns-in-Ok-clause-value c =
    moved_is c.args.self.now _ c.args.reference.now c.as_str.result.now c.move_on.new.base (c.as_str.ensures.value ∙ c.in_ok-text.ensures)
    (subst (λ (o : Option (List ℕ)). IsSomeAnd c.move_on.new.base (λ iri. Means o c.as_str.result.now iri)) (ap (λ (p : Prologue). p.base) c.self.view_is) c.in-Ok.ensures.value)
    (ap (λ (p : Prologue). record p { base = c.move_on.new.base }) c.self.view_is)

pub unreachable-requires : goal.unreachable-requires
unreachable-requires c =
    never_forbidden c.args.reference.now c.as_str.result.now (c.as_str.ensures.value ∙ c.in_ok-text.ensures)
    (c.in-Err-BadCharacter.ensures.bad_character (ap (λ (e : IriFault). Err e) c.in-Err-BadCharacter.field-0-is))
