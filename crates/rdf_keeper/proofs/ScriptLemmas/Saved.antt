-- What is shown of a state, and how many lines a text has.
use Rattle.std.proofs.Common.{◌≡◌, ◌∙◌, ℕ, List, sym, ap, subst}
use Rattle.std.specs.List.{concat}
use Rattle.rdf_dataset.specs.State.{State as DatasetState}
use Rattle.rdf_lines.specs.StateText.{state_text}
use Rattle.rdf_terms.specs.OrderLaws.{term_cmp_total, term_cmp-IsAntisymmetric, quad_cmp_total, quad_cmp-IsAntisymmetric}
use Rattle.rdf_session.specs.Saved.{IsTextOf, RestoredIsAsCommitted, RestoredIsSavedAlike, SavedComesBack}
use Rattle.rdf_session.specs.Session.{Session, now}
use Rattle.rdf_keeper.specs.Script.Runs.{RunsOver}
use Rattle.rdf_keeper.specs.Script.Saved.{RestoredShowsItsText, ScriptsGoOnAlike, ShownComesBack}
use Rattle.rdf_keeper.specs.Script.Show.{Shows}
use Rattle.rdf_keeper.specs.declared.script.command.Topic.TheVariants.{State}
use Rattle.rdf_keeper.proofs.ScriptLemmas.Cuts.{lines_are_the_text}
use Rattle.rdf_keeper.proofs.ScriptLemmas.OneShow.{one_sorted}

-- ---- the text of a state

pub one_state_text : (s : DatasetState) (text other : List ℕ) → IsTextOf s text → IsTextOf s other → text ≡ other
one_state_text s text other a b =
    let names = one_sorted term_cmp_total term_cmp-IsAntisymmetric s.names a.names_listed b.names_listed a.names_sorted b.names_sorted in
    let quads = one_sorted quad_cmp_total quad_cmp-IsAntisymmetric s.quads a.quads_listed b.quads_listed a.quads_sorted b.quads_sorted in
    a.is ∙ (λ i. state_text s.next (names i) (quads i)) ∙ sym b.is

pub shown_text : (s : Session) (lines : List (List ℕ)) → Shows State s lines → IsTextOf (now s) (concat lines)
shown_text s lines a = subst (IsTextOf (now s)) (sym (ap concat a.2 ∙ lines_are_the_text a.0)) a.1

-- ---- the laws

pub shown_comes_back : SavedComesBack → ShownComesBack
shown_comes_back back session base_iri lines answer sound shown = back session base_iri (concat lines) answer sound (shown_text session lines shown)

pub restored_shows_its_text : RestoredIsSavedAlike → RestoredShowsItsText
restored_shows_its_text alike base_iri text lines restored answer shown = alike base_iri text (concat lines) restored answer (shown_text restored lines shown)

pub scripts_go_on_alike : RestoredIsAsCommitted → ScriptsGoOnAlike
scripts_go_on_alike as_committed old committed restored last lines stop before after answers status sound shown answer commits =
    let same = as_committed old committed restored (concat lines) sound (shown_text old lines shown) answer commits in
    (subst (λ (s : Session). RunsOver stop before after s answers last status) same, subst (λ (s : Session). RunsOver stop before after s answers last status) (sym same))
