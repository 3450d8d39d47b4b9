-- What an accepted request leaves of a history.
use Rattle.std.proofs.Common.{◌≡◌, ℕ, ◌+◌, ◌-◌, ◌<◌, ◌≤◌, List, [], ◌∷◌, ◌++◌, length, take, drop, get_or, Some, refl, sym, ap, ◌∙◌, subst, arith, add-one}
use Rattle.rdf_dataset.specs.State.{State}
use Rattle.rdf_session.proofs.BehindLemmas.{behind_is, behind_was, get_behind}
use Rattle.rdf_session.proofs.ForgettingLemmas.{by_depth, fewer_within, length_behind, length_pushed, past_by_one, state_forgetting, state_grown}
use Rattle.rdf_session.proofs.MarkLemmas.{get_upto, place_kept, upto_kept}
use Rattle.rdf_session.specs.Depth.{is_past}
use Rattle.rdf_session.specs.Forgets.{Leaves, RequestsLeaveTheLast}
use Rattle.rdf_session.specs.GivesBack.{IsWholeSession}
use Rattle.rdf_session.specs.Session.{Session, accepted, all_states, forgetting, grown, now}

-- a list of states by its first and those behind it
split_first : (base : State) (ss : List State) (d : State) → 0 < length ss → get_or (base ∷ ss) 1 d ∷ drop 1 ss ≡ ss
split_first base [] d h = absurd (omega (arith, h))
split_first base (s ∷ ss) d h = refl

-- up to the cursor, and the new one
listed : (after : State) (s : Session) → s.base ∷ (grown after s).states.items ≡ take (s.states.cursor + 1) (all_states s) ++ after ∷ []
listed after s = rw add-one refl

leave : (after : State) (s : Session) → IsWholeSession s → Leaves s (accepted after s)
leave after s w =
    by_depth (Leaves s) after s
    (λ _. record {
      forgotten = [];
      states = listed after s ∙ ap (λ x. take (k + 1) (all_states s) ++ x ∷ []) (sym now_grown);
      least = λ some. absurd (some refl);
      cursor = sym n;
      marks = λ name place. (
        λ e. let is = upto_kept _ k place (sym (get_upto s.states.marks k name) ∙ e) in (is.0 ∙ ap Some (sym (with_none place)), subst (λ j. j ≤ k) (sym (with_none place)) is.1),
        λ h. place_kept name s.states.marks place k (h.0 ∙ ap Some (with_none place)) (subst (λ j. j ≤ k) (with_none place) h.1),
      );
    })
    (λ long. record {
      forgotten = s.base ∷ [];
      states = ap (λ xs. s.base ∷ xs) (split_first s.base g.states.items s.base (omega (arith, n))) ∙ listed after s ∙ ap (λ x. take (k + 1) (all_states s) ++ x ∷ []) (sym now_forgetting);
      least = λ _. past_by_one s.depth k (fewer_within s.depth k (length s.states.items) w.cursor w.within) (ap (is_past s.depth) (sym n) ∙ long) ∙ ap Some (sym left);
      cursor = one_back ∙ sym left;
      marks = λ name place. (
        λ e. let was = behind_was 1 place _ (sym (get_behind g.states.marks 1 name) ∙ e) in upto_kept _ k (place + 1) (sym (get_upto s.states.marks k name) ∙ was),
        λ h. get_behind g.states.marks 1 name ∙ behind_is 1 place _ (place_kept name s.states.marks (place + 1) k h.0 h.1),
      );
    })
  where
    k : ℕ
    k = s.states.cursor

    g : Session
    g = grown after s

    n : length g.states.items ≡ k + 1
    n = length_pushed s.states.items k after w.cursor

    one_back : (k + 1) - 1 ≡ k
    one_back = omega arith

    left : length (drop 1 g.states.items) ≡ k
    left = length_behind g.states.items ∙ ap (λ m. m - 1) n ∙ one_back

    with_none : (place : ℕ) → place + 0 ≡ place
    with_none place = omega arith

    now_grown : now g ≡ after
    now_grown = state_grown after s w.cursor

    now_forgetting : now (forgetting g) ≡ after
    now_forgetting = state_forgetting after s w.cursor

pub requests_leave_the_last : RequestsLeaveTheLast
requests_leave_the_last old new request c w st = subst (Leaves old) (sym st.2) (leave st.0 old w)
