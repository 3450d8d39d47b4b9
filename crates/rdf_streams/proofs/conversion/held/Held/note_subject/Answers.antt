use Rattle.std.proofs.Common.{◌≡◌, ◌-◌, ap, arith, length, length-append, refl, Some}
use Rattle.rdf_terms.specs.TermText.{term_text}
use Rattle.rdf_terms.specs.declared.term.Term.{Term}
use Rattle.rdf_streams.proofs.ConversionLemmas.Parts.{keeps_noted}
use Rattle.rdf_streams.proofs.conversion.held.Held.note_subject.Goals as goal

pub returns-in-Ok-clause-kept : goal.returns-in-Ok-clause-kept
returns-in-Ok-clause-kept c =
    let subject = c.args.subject.now in
    let count = c.len.result - c.len-before.result in
    let all : count ≡ length (term_text subject) = omega (arith, ap length c.in_ok-write_term.ensures.ok, length-append c.args.self.now.texts.items (term_text subject)) in
    keeps_noted c.args.self.now _ subject count c.in_ok-write_term.ensures.ok c.in-Ok.ensures.items all (ap (λ (t : Term). Some t) c.in_ok-copy.ensures) refl
