use Rattle.std.proofs.Common.{◌≡◌, rules, Some}
use Rattle.rdf_terms.specs.Table.{IsIdOf}
use Rattle.rdf_terms.specs.declared.term.Term.TheVariants as term
use Rattle.rdf_streams.proofs.ConversionLemmas.Parts.{holds_then, keeps_then, where_err, where_ok}
use Rattle.rdf_streams.proofs.conversion.held.Held.hold.Goals as goal

pub returns-in-Some-clause-ok : goal.returns-in-Some-clause-ok
returns-in-Some-clause-ok c =
    let noted : c.note.new.self.subject ≡ Some c.args.subject.now = search rules in
    let id : IsIdOf c.note.new.self.predicates c.in-Some.number (term.Iri c.args.predicate.now) = search rules in
    where_ok c.hold_parts.result c.hold_parts.ensures.ok (λ on. holds_then c.args.self.now _ _ _ c.note.ensures.kept (on c.args.subject.now c.args.predicate.now noted id))

pub returns-in-Some-clause-err : goal.returns-in-Some-clause-err
returns-in-Some-clause-err c = where_err c.hold_parts.result c.hold_parts.ensures.err (λ keeps. keeps_then c.args.self.now _ _ c.note.ensures.kept keeps)

pub returns-in-None-clause-ok : goal.returns-in-None-clause-ok
returns-in-None-clause-ok c = where_ok c.hold_whole.result c.hold_whole.ensures.ok (λ on. holds_then c.args.self.now _ _ _ c.note.ensures.kept on)

pub returns-in-None-clause-err : goal.returns-in-None-clause-err
returns-in-None-clause-err c = where_err c.hold_whole.result c.hold_whole.ensures.err (λ keeps. keeps_then c.args.self.now _ _ c.note.ensures.kept keeps)
