use Rattle.std.proofs.Common.{◌≡◌, ◌∙◌, ap, rules, Err}
use Rattle.std.specs.Option.{option_copied}
use Rattle.rdf_terms.specs.declared.fault.IriFault.{IriFault}
use Rattle.rdf_grammar.proofs.PrologueIris.{resolved_is, never_forbidden}
use Rattle.rdf_grammar.proofs.prologue.Prologue.resolve.Goals as goal

pub returns-in-Ok-clause-value : goal.returns-in-Ok-clause-value
returns-in-Ok-clause-value c =
    let base : option_copied c.as_ref.result ≡ c.args.self.now.base = search rules in
    resolved_is c.args.self.now _ c.args.reference.now c.as_str.result.now c.in-Ok.iri base (c.as_str.ensures.value ∙ c.in_ok-text.ensures) c.in-Ok.ensures.value

pub unreachable-requires : goal.unreachable-requires
unreachable-requires c =
    never_forbidden c.args.reference.now c.as_str.result.now (c.as_str.ensures.value ∙ c.in_ok-text.ensures)
    (c.in-Err-BadCharacter.ensures.bad_character (ap (λ (e : IriFault). Err e) c.in-Err-BadCharacter.field-0-is))
