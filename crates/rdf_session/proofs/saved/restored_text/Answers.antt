use Rattle.std.proofs.Common.{ap, Err, subst}
use Rattle.rdf_lines.specs.StateText.{IsNoStateText}
use Rattle.std.proofs.lemmas.Result.{err_from_is_err_and}
use Rattle.rdf_session.proofs.SavedLemmas.{tells}
use Rattle.rdf_session.proofs.saved.restored_text.Goals as goal

pub returns-in_err-state : goal.returns-in_err-state
returns-in_err-state c =
    let p = err_from_is_err_and c.from_residual.result c.from_residual.ensures.1 in
    rw (p.1, p.2) (tells c.args.text.items c.in_err-state.field-0.0 (λ e. subst IsNoStateText c.as_slice.ensures.value (c.in_err-state.ensures.not_state (ap Err e))))
