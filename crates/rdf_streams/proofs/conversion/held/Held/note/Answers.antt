use Rattle.std.proofs.Common.{refl}
use Rattle.rdf_streams.proofs.ConversionLemmas.Parts.{keeps_then, keeps_with}
use Rattle.rdf_streams.proofs.conversion.held.Held.note.Goals as goal

pub returns-in_err-number-clause-kept : goal.returns-in_err-number-clause-kept
returns-in_err-number-clause-kept c = keeps_with c.args.self.now _ refl refl refl c.number.ensures.grown

pub returns-in_default-clause-kept : goal.returns-in_default-clause-kept
returns-in_default-clause-kept c = keeps_with c.args.self.now _ refl refl refl c.number.ensures.grown

pub returns-in_err-note_subject-clause-kept : goal.returns-in_err-note_subject-clause-kept
returns-in_err-note_subject-clause-kept c = keeps_then c.args.self.now _ _ (keeps_with c.args.self.now _ refl refl refl c.number.ensures.grown) c.note_subject.ensures.kept

pub returns-then-branch-clause-kept : goal.returns-then-branch-clause-kept
returns-then-branch-clause-kept c = keeps_then c.args.self.now _ _ (keeps_with c.args.self.now _ refl refl refl c.number.ensures.grown) c.note_subject.ensures.kept

pub returns-else-branch-clause-kept : goal.returns-else-branch-clause-kept
returns-else-branch-clause-kept c = keeps_then c.args.self.now _ _ (keeps_with c.args.self.now _ refl refl refl c.number.ensures.grown) c.note_subject.ensures.kept
