-- Chains of nets: the states that they go through, and the steps of a session over them.
use Rattle.std.proofs.Common.{◌≡◌, ℕ, zero, suc, ◌+◌, ◌-◌, ◌<◌, ◌≤◌, cond, List, [], ◌∷◌, ◌++◌, length, take, drop, get_or, Some, refl, sym, ap, ◌∙◌, subst, arith, add-one, length-append, length-take}
use Rattle.std.specs.FinMap as map
use mathlib.Core.Bool.{Bool, true≢false, true, false}
use Rattle.std.specs.FinSet as set
use Rattle.std.specs.List.{AllByRecursion}
use Rattle.rdf_dataset.specs.Chains.{Leads}
use Rattle.rdf_dataset.specs.State.{State, Change, IsSound, Begins, Ends, net_between, applied, turned}
use Rattle.rdf_session.proofs.BehindLemmas.{lie_behind}
use Rattle.rdf_session.proofs.ForgettingLemmas.{any_default, fewer_within, length_behind, length_pushed, within_depth}
use Rattle.rdf_session.proofs.MarkLemmas.{lie_kept, lie_marked}
use Rattle.rdf_session.proofs.NetLemmas.{applied_is, turned_is, one_end}
use Rattle.rdf_session.specs.GivesBack.{IsWholeSession}
use Rattle.rdf_session.specs.Depth.{is_past}
use Rattle.rdf_session.specs.History.{LieIn, Marks, is_too_long, marks_behind, marks_upto, place_of}
use Rattle.rdf_session.specs.Session.{Session, Transition, Undo, Redo, Rollback, Changed, Refused, all_states, counts_between, now, accepted, forgetting, grown}
use Rattle.rdf_session.specs.Inside.Kept.{Settings, before_all, states_after, AreNets, session_from, base_of, IsBounded, IsKept}
use Rattle.rdf_session.specs.Inside.Spans.{Span, IsSpan, no_span}
use Rattle.rdf_session.specs.Session.{nets_between}
use Rattle.rdf_session.specs.declared.fault.Counts.{Counts}
use Rattle.rdf_session.specs.Faults.{no_memory}

-- the state at a place of a chain
abbrev pub at : State → List Change → ℕ → State → State
at base ns k d = get_or (base ∷ states_after base ns) k d

-- each entry is the net between its neighbours
pub entry_is : (base : State) (ns : List Change) (k : ℕ) (d : State) (e : Change) → AreNets base ns → k < length ns → get_or ns k e ≡ net_between (at base ns k d) (at base ns (suc k) d)
entry_is base [] k d e c h = absurd (omega (arith, h))
entry_is base (n ∷ ns) zero d e c h = c.0
entry_is base (n ∷ ns) (suc k) d e c h = entry_is (applied n base) ns k d e c.1.1 (omega (arith, h))

pub before_all-at : (base : State) (ns : List Change) (k : ℕ) (d : State) → AreNets base ns → k ≤ length ns → before_all (take k ns) (at base ns k d) ≡ base
before_all-at base ns zero d c h = refl
before_all-at base [] (suc k) d c h = absurd (omega (arith, h))
before_all-at base (n ∷ ns) (suc k) d c h =
    ap (applied (turned n)) (before_all-at (applied n base) ns k d c.1.1 (omega (arith, h))) ∙ turned_is base (applied n base) n c.0

-- what is kept at a place says which base there is
pub base_of-kept : (base s : State) (ns : List Change) (k : ℕ) (marks : Marks) → IsKept base s ns k marks → base_of s ns k ≡ base
base_of-kept base s ns k marks c = ap (before_all (take k ns)) c.current ∙ before_all-at base ns k base c.nets c.within

pub kept : (base s : State) (ns : List Change) (k : ℕ) (marks : Marks) → IsKept base s ns k marks → IsKept (base_of s ns k) s ns k marks
kept base s ns k marks c = subst (λ b. IsKept b s ns k marks) (sym (base_of-kept base s ns k marks c)) c

pub length-states_after : (base : State) (ns : List Change) → length (states_after base ns) ≡ length ns
length-states_after base [] = refl
length-states_after base (n ∷ ns) = ap suc (length-states_after (applied n base) ns)

-- another place of the same chain
pub kept_at : (base s t : State) (ns : List Change) (k j : ℕ) (marks : Marks) → IsKept base s ns k marks → j ≤ length ns → t ≡ at base ns j base → IsKept base t ns j marks
kept_at base s t ns k j marks c h e = record { sound = c.sound; nets = c.nets; current = e; within = h; marks_within = c.marks_within }

-- the states after the changes are sound
after_sound : (base : State) (ns : List Change) → AreNets base ns → AllByRecursion IsSound (states_after base ns)
after_sound base [] c = tt
after_sound base (n ∷ ns) c = (c.1.0, after_sound (applied n base) ns c.1.1)

-- every state of the chain is sound
pub sound_at : (base : State) (ns : List Change) (k : ℕ) (d : State) → IsSound base → AreNets base ns → k ≤ length ns → IsSound (at base ns k d)
sound_at base ns zero d o c h = o
sound_at base [] (suc k) d o c h = absurd (omega (arith, h))
sound_at base (n ∷ ns) (suc k) d o c h = sound_at (applied n base) ns k d c.1.0 c.1.1 (omega (arith, h))

pub same_counts : (c : Counts) (s t : State) → c.added ≡ set.len (net_between s t).added → c.removed ≡ set.len (net_between s t).removed → c ≡ counts_between s t
same_counts c s t a r = λ i. record { added = a i; removed = r i }

-- an accepted request puts its net after the first k
pub extended : (base : State) (ns : List Change) (k : ℕ) (d : State) (e : Change) (after : State) → AreNets base ns → k ≤ length ns → IsSound after → e ≡ net_between (at base ns k d) after → AreNets base (take k ns ++ e ∷ []) × (states_after base (take k ns ++ e ∷ []) ≡ take k (states_after base ns) ++ after ∷ []) × (at base (take k ns ++ e ∷ []) (suc k) d ≡ after)
extended base ns zero d e after c h o n =
    let on = applied_is base after e n in ((n ∙ ap (net_between base) (sym on), (subst IsSound (sym on) o, tt)), ap (λ x. x ∷ []) on, on)
extended base [] (suc k) d e after c h o n = absurd (omega (arith, h))
extended base (n ∷ ns) (suc k) d e after c h o m =
    let r = extended (applied n base) ns k d e after c.1.1 (omega (arith, h)) o m in
    ((c.0, (c.1.0, r.0)), ap (λ xs. applied n base ∷ xs) r.1, r.2)

pub length-extended : (ns : List Change) (k : ℕ) (e : Change) → k ≤ length ns → length (take k ns ++ e ∷ []) ≡ k + 1
length-extended ns k e h = simp (length-append, length-take) (omega (arith, h))

-- the places up to where entries are cut off
at_cut : (base : State) (ns : List Change) (k p : ℕ) (e : Change) (d : State) → p ≤ k → k ≤ length ns → at base ns p d ≡ at base (take k ns ++ e ∷ []) p d
at_cut base ns k zero e d h l = refl
at_cut base [] k (suc p) e d h l = absurd (omega (arith, h, l))
at_cut base (n ∷ ns) zero (suc p) e d h l = absurd (omega (arith, h))
at_cut base (n ∷ ns) (suc k) (suc p) e d h l = at_cut (applied n base) ns k p e d (omega (arith, h)) (omega (arith, l))

-- without the first entry
kept_behind : (base s : State) (ns : List Change) (k : ℕ) (marks : Marks) → 0 < k → IsKept base s ns k marks → IsKept (at base ns 1 base) s (drop 1 ns) (k - 1) (marks_behind 1 marks)
kept_behind base s ns zero marks h c = absurd (omega (arith, h))
kept_behind base s [] (suc k) marks h c = absurd (omega (arith, c.within))
kept_behind base s (n ∷ ns) (suc k) marks h c = record {
  sound = c.nets.1.0;
  nets = c.nets.1.1;
  current =
      c.current ∙ any_default (states_after base (n ∷ ns)) k base (applied n base) (omega (arith, c.within, length-states_after base (n ∷ ns)))
      ∙ ap (λ j. get_or (states_after base (n ∷ ns)) j (applied n base)) (sym (one_less k));
  within = omega (arith, c.within);
  marks_within = subst (λ m. LieIn m (marks_behind 1 marks)) (one_less (length ns)) (lie_behind (length (n ∷ ns)) marks c.marks_within);
}
  where
    one_less : (m : ℕ) → suc m - 1 ≡ m
    one_less m = omega arith

session_behind : (given : Settings) (base : State) (ns : List Change) (k : ℕ) (marks : Marks) → session_from given (at base ns 1 base) (drop 1 ns) (k - 1) (marks_behind 1 marks) ≡ forgetting (session_from given base ns k marks)
session_behind given base [] k marks = refl
session_behind given base (n ∷ ns) k marks = refl

no_truth : false ≡ true → ⊥
no_truth e = true≢false (sym e)

-- the view at another place of the chain
pub session_at : (given : Settings) (base t : State) (ns : List Change) (j : ℕ) (marks : Marks) → IsKept base t ns j marks → session_from given (base_of t ns j) ns j marks ≡ session_from given base ns j marks
session_at given base t ns j marks c = ap (λ b. session_from given b ns j marks) (base_of-kept base t ns j marks c)

module _ (given : Settings) (base s : State) (ns : List Change) (k : ℕ) (marks : Marks) (c : IsKept base s ns k marks) (o : Session) (view : session_from given base ns k marks ≡ o) where
  abbrev pub old_session : Session
  old_session = session_from given base ns k marks

  -- going to another place of the chain
  pub transition_to : (t : State) (j : ℕ) (counts : Counts) → IsKept base t ns j marks → counts.added ≡ set.len (net_between s t).added → counts.removed ≡ set.len (net_between s t).removed → (session_from given (base_of t ns j) ns j marks ≡ session_from given base ns j marks) × (counts ≡ counts_between (now old_session) (now (session_from given (base_of t ns j) ns j marks)))
  transition_to t j counts d a r =
      let there = session_at given base t ns j marks d in
      (there, same_counts counts s t a r ∙ ap (λ x. counts_between x t) c.current ∙ ap (counts_between (now old_session)) d.current ∙ ap (λ x. counts_between (now old_session) (now x)) (sym there))

  pub undo_entry : (e : Change) → 0 < k → e ≡ get_or ns (k - 1) e → e ≡ net_between (at base ns (k - 1) base) s
  undo_entry e h is =
      let next : suc (k - 1) ≡ k = omega (arith, h) in
      is ∙ entry_is base ns (k - 1) base e c.nets (omega (arith, h, c.within)) ∙ ap (λ j. net_between (at base ns (k - 1) base) (at base ns j base)) next ∙ ap (net_between (at base ns (k - 1) base)) (sym c.current)

  pub redo_entry : (e : Change) → k < length ns → e ≡ get_or ns k e → e ≡ net_between s (at base ns (k + 1) base)
  redo_entry e h is =
      is ∙ entry_is base ns k base e c.nets h ∙ rw add-one (ap (λ x. net_between x (at base ns (suc k) base)) (sym c.current))

  -- the state now is sound
  pub sound_now : IsSound s
  sound_now = subst IsSound (sym c.current) (sound_at base ns k base c.sound c.nets c.within)

  -- and so is each state of the session
  pub all_sound : AllByRecursion IsSound (all_states o)
  all_sound = subst (λ x. AllByRecursion IsSound (all_states x)) view (c.sound, after_sound base ns c.nets)

  -- its cursor and marks lie in the list of these, and it is no longer than the depth
  pub whole : IsBounded given.depth ns → IsWholeSession o
  whole b = subst IsWholeSession view (record {
    cursor = rw (length-states_after base ns) c.within;
    marks = rw (length-states_after base ns) c.marks_within;
    depth = b.0;
    within = rw (length-states_after base ns) b.1;
  })

  -- a name that is put at a place of the list lies there too
  pub marked_kept : (name : List ℕ) (j : ℕ) → j ≤ length ns → IsKept base s ns k (map.insert marks name j)
  marked_kept name j h = record { sound = c.sound; nets = c.nets; current = c.current; within = c.within; marks_within = lie_marked _ j name marks h c.marks_within }

  pub now_is : s ≡ now o
  now_is = c.current ∙ ap now view

  pub undo_ends : (e : Change) → 0 < k → e ≡ get_or ns (k - 1) e → Ends e s
  undo_ends e h is = (at base ns (k - 1) base, sound_at base ns (k - 1) base c.sound c.nets (omega (arith, h, c.within)), undo_entry e h is)

  pub redo_begins : (e : Change) → k < length ns → e ≡ get_or ns k e → Begins e s
  redo_begins e h is = (at base ns (k + 1) base, sound_at base ns (k + 1) base c.sound c.nets (omega (arith, h)), redo_entry e h is)

  -- a net to an earlier place ends here
  pub rollback_ends : (e : Change) (j : ℕ) → j ≤ k → e ≡ net_between (at base ns j base) s → Ends e s
  rollback_ends e j h n = (at base ns j base, sound_at base ns j base c.sound c.nets (omega (arith, h, c.within)), n)

  -- the net of a request that was accepted at the session begins here
  pub begins_here : (e : Change) → Begins e (now o) → Begins e s
  begins_here e b = (b.0, b.1, b.2 ∙ ap (λ x. net_between x b.0) (sym now_is))

  -- an undo over the entry e
  pub undo_transition : (t : State) (counts : Counts) (e : Change) → 0 < k → e ≡ get_or ns (k - 1) e → ((start : State) → e ≡ net_between start s → t ≡ start) → counts.added ≡ set.len e.removed → counts.removed ≡ set.len e.added → IsKept base t ns (k - 1) marks × Transition o Undo (Changed counts) (session_from given (base_of t ns (k - 1)) ns (k - 1) marks)
  undo_transition t counts e h is ends a r =
      let n = undo_entry e h is in
      let back = ends (at base ns (k - 1) base) n in
      let there = kept_at base s t ns k (k - 1) marks c (omega (arith, c.within)) back in
      let n' : e ≡ net_between t s = n ∙ ap (λ x. net_between x s) (sym back) in
      let st = transition_to t (k - 1) counts there (a ∙ ap (λ (x : Change). set.len x.removed) n') (r ∙ ap (λ (x : Change). set.len x.added) n') in
      (there, subst (λ x. Transition x Undo (Changed counts) (session_from given (base_of t ns (k - 1)) ns (k - 1) marks)) view (h, st.0, st.1))

  pub redo_transition : (t : State) (counts : Counts) (e : Change) → k < length ns → e ≡ get_or ns k e → ((end : State) → e ≡ net_between s end → t ≡ end) → counts.added ≡ set.len e.added → counts.removed ≡ set.len e.removed → IsKept base t ns (k + 1) marks × Transition o Redo (Changed counts) (session_from given (base_of t ns (k + 1)) ns (k + 1) marks)
  redo_transition t counts e h is ends a r =
      let n = redo_entry e h is in
      let on = ends (at base ns (k + 1) base) n in
      let there = kept_at base s t ns k (k + 1) marks c (omega (arith, h)) on in
      let n' : e ≡ net_between s t = n ∙ ap (net_between s) (sym on) in
      let st = transition_to t (k + 1) counts there (a ∙ ap (λ (x : Change). set.len x.added) n') (r ∙ ap (λ (x : Change). set.len x.removed) n') in
      (there, subst (λ x. Transition x Redo (Changed counts) (session_from given (base_of t ns (k + 1)) ns (k + 1) marks)) view (rw (length-states_after base ns) h, st.0, st.1))

  -- a rollback to the place j over one net
  pub rollback_transition : (name : List ℕ) (t : State) (counts : Counts) (e : Change) (j : ℕ) → j ≤ k → place_of name old_session.states ≡ Some j → e ≡ net_between (at base ns j base) s → ((start : State) → e ≡ net_between start s → t ≡ start) → counts.added ≡ set.len e.removed → counts.removed ≡ set.len e.added → IsKept base t ns j marks × Transition o (Rollback name) (Changed counts) (session_from given (base_of t ns j) ns j marks)
  rollback_transition name t counts e j h found n ends a r =
      let back = ends (at base ns j base) n in
      let there = kept_at base s t ns k j marks c (omega (arith, h, c.within)) back in
      let n' : e ≡ net_between t s = n ∙ ap (λ x. net_between x s) (sym back) in
      let st = transition_to t j counts there (a ∙ ap (λ (x : Change). set.len x.removed) n') (r ∙ ap (λ (x : Change). set.len x.added) n') in
      (there, subst (λ x. Transition x (Rollback name) (Changed counts) (session_from given (base_of t ns j) ns j marks)) view (j, found, h, st.0, st.1))

  -- want of memory, which leaves the session
  pub undo_refused : (t : State) (e : Change) → 0 < k → e ≡ get_or ns (k - 1) e → (e.removed ≡ set.empty → e.names_removed ≡ set.empty → false ≡ true) → t ≡ s → Transition o Undo (Refused no_memory) (session_from given (base_of t ns k) ns k marks)
  undo_refused t e h is some same =
      let n = undo_entry e h is in
      subst (λ x. Transition x Undo (Refused no_memory) (session_from given (base_of t ns k) ns k marks)) view (
        (h, λ z. let f = n ∙ ap (net_between (at base ns (k - 1) base)) c.current in no_truth (some (ap (λ (x : Change). x.removed) f ∙ z.0) (ap (λ (x : Change). x.names_removed) f ∙ z.1))),
        ap (λ x. session_from given (base_of x ns k) ns k marks) same ∙ session_at given base s ns k marks c,
      )

  pub redo_refused : (t : State) (e : Change) → k < length ns → e ≡ get_or ns k e → (e.added ≡ set.empty → e.names_added ≡ set.empty → false ≡ true) → t ≡ s → Transition o Redo (Refused no_memory) (session_from given (base_of t ns k) ns k marks)
  redo_refused t e h is some same =
      let n = redo_entry e h is in
      subst (λ x. Transition x Redo (Refused no_memory) (session_from given (base_of t ns k) ns k marks)) view (
        (rw (length-states_after base ns) h, λ z. let f = n ∙ ap (λ x. net_between x (at base ns (k + 1) base)) c.current in no_truth (some (ap (λ (x : Change). x.added) f ∙ z.0) (ap (λ (x : Change). x.names_added) f ∙ z.1))),
        ap (λ x. session_from given (base_of x ns k) ns k marks) same ∙ session_at given base s ns k marks c,
      )

  pub rollback_refused : (name : List ℕ) (t : State) → t ≡ s → Transition o (Rollback name) (Refused no_memory) (session_from given (base_of t ns k) ns k marks)
  rollback_refused name t same = subst (λ x. Transition x (Rollback name) (Refused no_memory) (session_from given (base_of t ns k) ns k marks)) view (tt, ap (λ x. session_from given (base_of x ns k) ns k marks) same ∙ session_at given base s ns k marks c)

  -- the entries of the states up to the cursor with the new one behind them
  abbrev more : Change → List Change
  more e = take k ns ++ e ∷ []

  -- an accepted request, before anything is forgotten
  grown_kept : (t after : State) (e : Change) → IsSound after → e ≡ net_between s after → t ≡ after → IsKept base t (more e) (k + 1) (marks_upto k marks) × (session_from given base (more e) (k + 1) (marks_upto k marks) ≡ grown after old_session)
  grown_kept t after e sound n on =
      let x = extended base ns k base e after c.nets c.within sound (n ∙ ap (λ y. net_between y after) c.current) in (
        record {
          sound = c.sound;
          nets = x.0;
          current = on ∙ sym x.2 ∙ ap (λ i. at base (more e) i base) (sym (add-one k));
          within = rw (length-extended ns k e c.within) (omega arith);
          marks_within = lie_kept _ k marks (rw (length-extended ns k e c.within) (omega arith));
        },
        (λ i. record { base_iri = given.base_iri; depth = given.depth; base = base; states = record { items = x.1 i; cursor = k + 1; marks = marks_upto k marks } }),
      )

  abbrev entries_left : Bool → Change → List Change
  entries_left long e = cond long (drop 1 (more e)) (more e)

  abbrev cursor_left : Bool → ℕ
  cursor_left long = cond long ((k + 1) - 1) (k + 1)

  abbrev marks_left : Bool → Marks
  marks_left long = cond long (marks_behind 1 (marks_upto k marks)) (marks_upto k marks)

  abbrev base_left : Bool → Change → State
  base_left long e = cond long (at base (more e) 1 base) base

  long_alike : (after : State) → is_too_long given.depth (grown after old_session).states ≡ is_past given.depth (k + 1)
  long_alike after = ap (is_past given.depth) (length_pushed (states_after base ns) k after (rw (length-states_after base ns) c.within))

  -- and what is kept of it
  left_kept : (t after : State) (e : Change) → IsSound after → e ≡ net_between s after → t ≡ after → (long : Bool) → is_past given.depth (k + 1) ≡ long → IsKept (base_left long e) t (entries_left long e) (cursor_left long) (marks_left long) × (session_from given (base_left long e) (entries_left long e) (cursor_left long) (marks_left long) ≡ accepted after old_session)
  left_kept t after e sound n on false short =
      let g = grown_kept t after e sound n on in
      (g.0, g.1 ∙ sym (ap (λ b. cond b (forgetting (grown after old_session)) (grown after old_session)) (long_alike after ∙ short)))
  left_kept t after e sound n on true long =
      let g = grown_kept t after e sound n on in (
        kept_behind base t (more e) (k + 1) (marks_upto k marks) (omega arith) g.0,
        session_behind given base (more e) (k + 1) (marks_upto k marks) ∙ ap forgetting g.1
            ∙ sym (ap (λ b. cond b (forgetting (grown after old_session)) (grown after old_session)) (long_alike after ∙ long)),
      )

  -- they are no more than the depth
  pub left_bounded : (e : Change) (ns' : List Change) (long : Bool) → IsBounded given.depth ns → is_past given.depth (k + 1) ≡ long → ns' ≡ entries_left long e → IsBounded given.depth ns'
  left_bounded e ns' false b short pn = (b.0, within_depth given.depth (length ns') (ap (is_past given.depth) (ap length pn ∙ length-extended ns k e c.within) ∙ short))
  left_bounded e ns' true b long pn =
      let n = ap length pn in
      let m = length_behind (more e) in
      let l = length-extended ns k e c.within in
      (b.0, fewer_within given.depth (length ns') (length ns) (omega (arith, n, m, l, c.within)) b.1)

  -- for each state that the net may lead to
  pub accepted_any : (t : State) (counts : Counts) (e : Change) (ns' : List Change) (j : ℕ) (marks' : Marks) (long : Bool) → Begins e (now o) → ((end : State) → e ≡ net_between s end → t ≡ end) → is_past given.depth (k + 1) ≡ long → ns' ≡ entries_left long e → j ≡ cursor_left long → marks' ≡ marks_left long → counts.added ≡ set.len e.added → counts.removed ≡ set.len e.removed → IsKept (base_of t ns' j) t ns' j marks' × ((after : State) → e ≡ net_between (now o) after → (session_from given (base_of t ns' j) ns' j marks' ≡ accepted after o) × (counts ≡ counts_between (now o) after))
  unfolding begins_here
  accepted_any t counts e ns' j marks' long b ends is_long pn pj pm a r =
      let h = begins_here e b in
      let st = left_kept t h.0 e h.1 h.2 (ends h.0 h.2) long is_long in
      let there = kept _ _ _ _ _ st.0 in
      let seen : session_from given (base_of t (entries_left long e) (cursor_left long)) (entries_left long e) (cursor_left long) (marks_left long) ≡ accepted h.0 o =
      session_at given _ t _ _ _ st.0 ∙ st.1 ∙ ap (accepted h.0) view in
      let counted : counts ≡ counts_between (now o) h.0 =
      same_counts counts s h.0 (a ∙ ap (λ (y : Change). set.len y.added) h.2) (r ∙ ap (λ (y : Change). set.len y.removed) h.2) ∙ ap (λ y. counts_between y h.0) now_is in
      rw (pn, pj, pm) (there, λ after n. subst (λ x. (session_from given (base_of t (entries_left long e) (cursor_left long)) (entries_left long e) (cursor_left long) (marks_left long) ≡ accepted x o) × (counts ≡ counts_between (now o) x)) (one_end (now o) h.0 after e b.2 n) (seen, counted))

  span_cut : (e : Change) (span : Span) (long : Bool) → IsSpan base ns span → span.place ≤ k → IsSpan (base_left long e) (entries_left long e) (cond long no_span span)
  span_cut e span true held h = record { within = omega arith; leads = refl }
  span_cut e span false held h = record {
    within = rw (length-extended ns k e c.within) (omega (arith, h));
    leads = subst (Leads base span.nets) (at_cut base ns k span.place e base h c.within) held.leads;
  }

  -- what is held since the base, up to a place that stays
  pub span_left : (t : State) (e : Change) (ns' : List Change) (j : ℕ) (long : Bool) (span span' : Span) → Begins e (now o) → ((end : State) → e ≡ net_between s end → t ≡ end) → is_past given.depth (k + 1) ≡ long → ns' ≡ entries_left long e → j ≡ cursor_left long → IsSpan base ns span → span.place ≤ k → span' ≡ cond long no_span span → IsSpan (base_of t ns' j) ns' span'
  span_left t e ns' j long span span' b ends is_long pn pj held h ps =
      let n = begins_here e b in
      let st = left_kept t n.0 e n.1 n.2 (ends n.0 n.2) long is_long in
      rw (pn, pj, ps) (subst (λ x. IsSpan x (entries_left long e) (cond long no_span span)) (sym (base_of-kept _ _ _ _ _ st.0)) (span_cut e span long held h))

pub entries_are : (base : State) (ns : List Change) → AreNets base ns → ns ≡ nets_between base (states_after base ns)
entries_are base [] c = refl
entries_are base (n ∷ ns) c = λ i. c.0 i ∷ entries_are (applied n base) ns c.1.1 i
