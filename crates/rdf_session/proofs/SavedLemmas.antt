-- A state and its state text.
use Rattle.std.proofs.Common.{◌≡◌, ℕ, List, Ok, Err, refl, sym, ap, ◌∙◌, subst}
use mathlib.Core.Logic.{inl, inr}
use Rattle.rdf_dataset.specs.State.{State, IsSound, Names}
use Rattle.rdf_dataset.specs.State as state
use Rattle.rdf_lines.specs.StateText as lines
use Rattle.rdf_lines.specs.StateText.{IsNoStateText, IsSoundState, StateTextIsOne, StateTextsDiffer}
use Rattle.rdf_lines.specs.declared.state_text.fault.StateFault.{StateFault}
use Rattle.rdf_lines.specs.declared.state_text.fault.StateFault.TheVariants.{NotState, NoMemory}
use Rattle.rdf_terms.specs.declared.quad.GraphName.{GraphName}
use Rattle.rdf_terms.specs.declared.quad.GraphName.TheVariants.{Default, Named}
use Rattle.rdf_session.specs.Inside.Saving.{TellsStateFault}
use Rattle.rdf_session.specs.Saved.{IsTextOf, CommandsGoOnAlike, RestoredIsAsCommitted, RestoredIsSavedAlike, SavedComesBack}
use Rattle.rdf_session.specs.Session.{Session, fresh, now, with_depth}
use Rattle.rdf_session.specs.Standing.{Run}

-- ---- soundness, as datasets have it and as state texts have it

named_there : (names : Names) (graph : GraphName) → state.IsNamed names graph → lines.IsNamed names graph
named_there names Default h = tt
named_there names (Named name) h = h

pub sound_there : (s : State) → IsSound s → IsSoundState s.next s.names s.quads
sound_there s h = record {
  right_quads = h.right_quads;
  right_names = h.right_names;
  named = λ q m. named_there s.names q.graph (h.named q m);
  quads_below = h.quads_below;
  names_below = h.names_below;
  limit = h.limit;
}

-- ---- faults

pub tells : (text : List ℕ) (fault : StateFault) → (fault ≡ NotState → IsNoStateText text) → TellsStateFault text fault
tells text NotState none = λ s sound is. none refl s.next s.names s.quads (sound_there s sound) is
tells text (NoMemory _) none = tt

-- ---- the laws

same_state : StateTextsDiffer → (s t : State) (text : List ℕ) → IsSound s → IsSound t → IsTextOf s text → IsTextOf t text → t ≡ s
same_state differ s t text a b p q =
    let same = differ s.next t.next s.names t.names s.quads t.quads text (sound_there s a) (sound_there t b) p q in
    λ i. record { quads = same.2 i; names = same.1 i; next = same.0 i }

pub saved_comes_back : StateTextsDiffer → SavedComesBack
saved_comes_back differ session base_iri text (Ok restored) sound is answer =
    inl (ap Ok (answer.3 ∙ ap (fresh base_iri) (same_state differ (now session) answer.0 text sound answer.1 is answer.2)))
saved_comes_back differ session base_iri text (Err NotState) sound is answer = absurd (answer (now session) sound is)
saved_comes_back differ session base_iri text (Err (NoMemory r)) sound is answer = inr refl

pub restored_is_saved_alike : StateTextIsOne → RestoredIsSavedAlike
restored_is_saved_alike one base_iri text other restored answer is =
    let s = answer.0 in
    one s.next s.names s.quads text other answer.2 (subst (λ (t : State). IsTextOf t other) (ap now answer.3) is)

pub restored_is_as_committed : StateTextsDiffer → RestoredIsAsCommitted
restored_is_as_committed differ old committed restored text sound is answer commits =
    ap (with_depth old.depth) (answer.3 ∙ ap (fresh old.base_iri) (same_state differ (now old) answer.0 text sound answer.1 is answer.2)) ∙ sym commits

pub commands_go_on_alike : StateTextsDiffer → CommandsGoOnAlike
commands_go_on_alike differ old committed restored last text events sound is answer commits =
    let same = restored_is_as_committed differ old committed restored text sound is answer commits in
    (subst (λ (s : Session). Run s events last) same, subst (λ (s : Session). Run s events last) (sym same))
