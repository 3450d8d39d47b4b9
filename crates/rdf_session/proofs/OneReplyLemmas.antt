-- Where memory isn't wanting, a command has one reply, but for a line that is the reader's own choice.
use Rattle.std.proofs.Common.{◌≡◌, ◌≢◌, ◌⊎◌, inl, inr, ℕ, ◌+◌, ◌<◌, ◌≤◌, Bool, true, false, List, length, Option, Some, None, Result, Ok, Err, refl, sym, ap, ◌∙◌, subst, arith}
use Rattle.rdf_terms.specs.Quad.{QuadParts}
use Rattle.rdf_lines.specs.declared.fault.LineFault.{LineFault}
use Rattle.rdf_lines.specs.declared.format.LineFormat.{LineFormat}
use Rattle.rdf_lines.specs.declared.format.LineFormat.TheVariants as line
use Rattle.rdf_lines.specs.Document as lines
use Rattle.rdf_turtle.specs.Document as turtle
use Rattle.rdf_turtle.specs.DocumentLaws as turtle_laws
use Rattle.rdf_turtle.specs.declared.fault.TurtleFault.{TurtleFault}
use Rattle.sparql_eval.specs.Operations.{steps}
use Rattle.sparql_eval.specs.declared.fault.ApplyFault.{ApplyFault}
use Rattle.sparql_syntax.specs.Update as update
use Rattle.sparql_syntax.specs.UpdateLaws as update_laws
use Rattle.sparql_syntax.specs.declared.fault.SyntaxFault.{SyntaxFault}
use Rattle.sparql_trees.specs.declared.operation.Request.{Request as UpdateRequest}
use Rattle.rdf_dataset.specs.State.{State, last_number}
use Rattle.rdf_session.specs.Documents.{IsDocument, IsFaulty}
use Rattle.rdf_session.specs.Inside.ReaderLaws.{ReaderLaws}
use Rattle.rdf_session.specs.History.{place_of}
use Rattle.rdf_session.specs.OneReply.{DifferInLine, IsFull, OneReply, SameReply}
use Rattle.rdf_session.specs.Request.{Request, Load, Update, Makes, blank_limit, loaded}
use Rattle.rdf_session.specs.Session.{Session, Command, Reply, Do, Undo, Redo, Mark, Rollback, Commit, Changed, Done, Refused as RefusedReply, MayRefuse, Transition, accepted, at_place, counts_between, now}
use Rattle.rdf_session.specs.declared.fault.KeeperFault.{KeeperFault}
use Rattle.rdf_session.specs.declared.fault.KeeperFault.TheVariants.{NothingToUndo, NothingToRedo, NoSuchMark, MarkAhead, NoMemory as NoMemoryFault, BlankNumbers, Line as LineFaultOf, Turtle as TurtleFaultOf, Syntax as SyntaxFaultOf, Apply as ApplyFaultOf}
use Rattle.rdf_session.specs.declared.format.Format.{Format}
use Rattle.rdf_session.specs.declared.format.Format.TheVariants.{NQuads, NTriples, Turtle}
use Rattle.rdf_session.specs.Faults.{no_memory}

-- ---- refusals but for want of memory

undo_fault : (s : Session) (f : KeeperFault) → MayRefuse s Undo f → f ≢ no_memory → (f ≡ NothingToUndo) × (s.states.cursor ≡ 0)
undo_fault s NothingToUndo h n = (refl, h)
undo_fault s (NoMemoryFault _) h n = absurd (n refl)
undo_fault s _ h n = absurd h

redo_fault : (s : Session) (f : KeeperFault) → MayRefuse s Redo f → f ≢ no_memory → (f ≡ NothingToRedo) × (s.states.cursor ≡ length s.states.items)
redo_fault s NothingToRedo h n = (refl, h)
redo_fault s (NoMemoryFault _) h n = absurd (n refl)
redo_fault s _ h n = absurd h

mark_fault : {A : Type 0} (s : Session) (name : List ℕ) (f : KeeperFault) → MayRefuse s (Mark name) f → f ≢ no_memory → A
mark_fault s name (NoMemoryFault _) h n = absurd (n refl)
mark_fault s name _ h n = absurd h

commit_fault : {A : Type 0} (s : Session) (f : KeeperFault) → MayRefuse s Commit f → A
commit_fault s _ h = absurd h

abbrev RollbackFault : Session → List ℕ → KeeperFault → Type 0
RollbackFault s name f =
    ((f ≡ NoSuchMark) × (place_of name s.states ≡ None))
    ⊎ ((f ≡ MarkAhead) × ((k : ℕ) × (place_of name s.states ≡ Some k) × (s.states.cursor < k)))

rollback_fault : (s : Session) (name : List ℕ) (f : KeeperFault) → MayRefuse s (Rollback name) f → f ≢ no_memory → RollbackFault s name f
rollback_fault s name NoSuchMark h n = inl (refl, h)
rollback_fault s name MarkAhead h n = inr (refl, h)
rollback_fault s name (NoMemoryFault _) h n = absurd (n refl)
rollback_fault s name _ h n = absurd h

abbrev LoadFault : Session → Format → List ℕ → KeeperFault → Type 0
LoadFault s format text f =
    ((quads : List QuadParts) × IsDocument format s.base_iri text quads × (last_number < (now s).next + blank_limit quads) × (f ≡ BlankNumbers))
    ⊎ IsFaulty format s.base_iri text f

load_fault : (s : Session) (format : Format) (text : List ℕ) (f : KeeperFault) → MayRefuse s (Do (Load format text)) f → f ≢ no_memory → LoadFault s format text f
load_fault s format text BlankNumbers h n = inl (h.0, h.1, h.2, refl)
load_fault s format text (NoMemoryFault _) h n = absurd (n refl)
load_fault s format text _ h n = inr h

abbrev NoRequest : Session → List ℕ → KeeperFault → Type 0
NoRequest s text f = (at : SyntaxFault) × update.IsFaulty s.base_iri text at × (f ≡ SyntaxFaultOf at)

abbrev Stopped : Session → List ℕ → KeeperFault → Type 0
Stopped s text f =
    (at : ApplyFault) × (request : UpdateRequest) × update.IsUpdate s.base_iri text request × (steps (now s) request.operations ≡ Err at) × (f ≡ ApplyFaultOf at)

abbrev UpdateFault : Session → List ℕ → KeeperFault → Type 0
UpdateFault s text f = NoRequest s text f ⊎ Stopped s text f

update_fault : (s : Session) (text : List ℕ) (f : KeeperFault) → MayRefuse s (Do (Update text)) f → f ≢ no_memory → UpdateFault s text f
update_fault s text (SyntaxFaultOf at) h n = inl (at, h, refl)
update_fault s text (ApplyFaultOf at) h n = inr (at, h.0, h.1, h.2, refl)
update_fault s text (NoMemoryFault _) h n = absurd (n refl)
update_fault s text _ h n = absurd h

-- ---- one reply

abbrev Same : Reply → Session → Reply → Session → Type 0
Same r t q u = (r ≡ q) × (t ≡ u)

full_fault : (f : KeeperFault) → IsFull (RefusedReply f) → f ≢ no_memory
full_fault f n e = n (ap RefusedReply e)

both_refused : {s t u : Session} {f g : KeeperFault} → f ≡ g → t ≡ s → u ≡ s → Same (RefusedReply f) t (RefusedReply g) u
both_refused e p q = (ap RefusedReply e, p ∙ sym q)

some_place : (j k : ℕ) → Some j ≡ Some k → j ≡ k
some_place j k e = cc

no_place : {A : Type 0} (o : Option ℕ) (k : ℕ) → o ≡ None → o ≡ Some k → A
no_place o k e f = absurd (none_some k (sym e ∙ f))
  where
    none_some : (k : ℕ) → None ≡ Some k → ⊥
    none_some k e = cc

undo_same : (s t u : Session) (r q : Reply) → Transition s Undo r t → Transition s Undo q u → IsFull r → IsFull q → Same r t q u
undo_same s t u (RefusedReply f) (RefusedReply g) a b n m =
    let p = undo_fault s f a.0 (full_fault f n) in let p' = undo_fault s g b.0 (full_fault g m) in both_refused (p.0 ∙ sym p'.0) a.1 b.1
undo_same s t u (RefusedReply f) (Changed c) a b n m = let p = undo_fault s f a.0 (full_fault f n) in absurd (omega (arith, p.1, b.0))
undo_same s t u (RefusedReply f) Done a b n m = absurd b
undo_same s t u (Changed c) (RefusedReply g) a b n m = let p = undo_fault s g b.0 (full_fault g m) in absurd (omega (arith, p.1, a.0))
undo_same s t u (Changed c) (Changed d) a b n m =
    let e = a.1 ∙ sym b.1 in (ap Changed (a.2 ∙ ap (λ x. counts_between (now s) (now x)) e ∙ sym b.2), e)
undo_same s t u (Changed c) Done a b n m = absurd b
undo_same s t u Done q a b n m = absurd a

redo_same : (s t u : Session) (r q : Reply) → Transition s Redo r t → Transition s Redo q u → IsFull r → IsFull q → Same r t q u
redo_same s t u (RefusedReply f) (RefusedReply g) a b n m =
    let p = redo_fault s f a.0 (full_fault f n) in let p' = redo_fault s g b.0 (full_fault g m) in both_refused (p.0 ∙ sym p'.0) a.1 b.1
redo_same s t u (RefusedReply f) (Changed c) a b n m = let p = redo_fault s f a.0 (full_fault f n) in absurd (omega (arith, p.1, b.0))
redo_same s t u (RefusedReply f) Done a b n m = absurd b
redo_same s t u (Changed c) (RefusedReply g) a b n m = let p = redo_fault s g b.0 (full_fault g m) in absurd (omega (arith, p.1, a.0))
redo_same s t u (Changed c) (Changed d) a b n m =
    let e = a.1 ∙ sym b.1 in (ap Changed (a.2 ∙ ap (λ x. counts_between (now s) (now x)) e ∙ sym b.2), e)
redo_same s t u (Changed c) Done a b n m = absurd b
redo_same s t u Done q a b n m = absurd a

mark_same : (s t u : Session) (name : List ℕ) (r q : Reply) → Transition s (Mark name) r t → Transition s (Mark name) q u → IsFull r → IsFull q → Same r t q u
mark_same s t u name (RefusedReply f) q a b n m = mark_fault s name f a.0 (full_fault f n)
mark_same s t u name (Changed c) q a b n m = absurd a
mark_same s t u name Done (RefusedReply g) a b n m = mark_fault s name g b.0 (full_fault g m)
mark_same s t u name Done (Changed d) a b n m = absurd b
mark_same s t u name Done Done a b n m = (refl, a ∙ sym b)

commit_same : (s t u : Session) (r q : Reply) → Transition s Commit r t → Transition s Commit q u → Same r t q u
commit_same s t u (RefusedReply f) q a b = commit_fault s f a.0
commit_same s t u (Changed c) q a b = absurd a
commit_same s t u Done (RefusedReply g) a b = commit_fault s g b.0
commit_same s t u Done (Changed d) a b = absurd b
commit_same s t u Done Done a b = (refl, a ∙ sym b)

rollback_faults : (s : Session) (name : List ℕ) (f g : KeeperFault) → RollbackFault s name f → RollbackFault s name g → f ≡ g
rollback_faults s name f g (inl a) (inl b) = a.0 ∙ sym b.0
rollback_faults s name f g (inl a) (inr b) = no_place _ b.1.0 a.1 b.1.1
rollback_faults s name f g (inr a) (inl b) = no_place _ a.1.0 b.1 a.1.1
rollback_faults s name f g (inr a) (inr b) = a.0 ∙ sym b.0

rollback_not : {A : Type 0} (s : Session) (name : List ℕ) (f : KeeperFault) (k : ℕ) → RollbackFault s name f → place_of name s.states ≡ Some k → k ≤ s.states.cursor → A
rollback_not s name f k (inl a) p h = no_place _ k a.1 p
rollback_not s name f k (inr a) p h = let e = some_place a.1.0 k (sym a.1.1 ∙ p) in absurd (omega (arith, e, a.1.2, h))

rollback_same : (s t u : Session) (name : List ℕ) (r q : Reply) → Transition s (Rollback name) r t → Transition s (Rollback name) q u → IsFull r → IsFull q → Same r t q u
rollback_same s t u name (RefusedReply f) (RefusedReply g) a b n m =
    both_refused (rollback_faults s name f g (rollback_fault s name f a.0 (full_fault f n)) (rollback_fault s name g b.0 (full_fault g m))) a.1 b.1
rollback_same s t u name (RefusedReply f) (Changed c) a b n m = rollback_not s name f b.0 (rollback_fault s name f a.0 (full_fault f n)) b.1 b.2
rollback_same s t u name (RefusedReply f) Done a b n m = absurd b
rollback_same s t u name (Changed c) (RefusedReply g) a b n m = rollback_not s name g a.0 (rollback_fault s name g b.0 (full_fault g m)) a.1 a.2
rollback_same s t u name (Changed c) (Changed d) a b n m =
    let k = some_place a.0 b.0 (sym a.1 ∙ b.1) in
    let e : t ≡ u = a.3 ∙ (λ i. at_place (k i) s) ∙ sym b.3 in
    (ap Changed (a.4 ∙ ap (λ x. counts_between (now s) (now x)) e ∙ sym b.4), e)
rollback_same s t u name (Changed c) Done a b n m = absurd b
rollback_same s t u name Done q a b n m = absurd a

-- ---- texts, which are one document or have one fault

same_fault : (x y : LineFault) → Some x ≡ Some y → x ≡ y
same_fault x y e = cc

none_not_some : {A : Type 0} (x : LineFault) → None ≡ Some x → A
none_not_some x e = cc

abbrev Ending : Type 0
Ending = Result State ApplyFault

same_obstacle : (ending : Ending) (x y : ApplyFault) → ending ≡ Err x → ending ≡ Err y → x ≡ y
same_obstacle ending x y e f = cc

same_state : (ending : Ending) (t u : State) → ending ≡ Ok t → ending ≡ Ok u → t ≡ u
same_state ending t u e f = cc

stopped_not : {A : Type 0} (ending : Ending) (x : ApplyFault) (t : State) → ending ≡ Err x → ending ≡ Ok t → A
stopped_not ending x t e f = cc

-- the fault of a text of lines
abbrev InLines : LineFormat → List ℕ → KeeperFault → Type 0
InLines format text f = (at : LineFault) × (quads : List QuadParts) × lines.IsDocument format text quads (Some at) × (f ≡ LineFaultOf at)

nquads_fault : (base : Option (List ℕ)) (text : List ℕ) (f : KeeperFault) → IsFaulty NQuads base text f → InLines line.NQuads text f
nquads_fault base text (LineFaultOf at) h = (at, h.0, h.1, refl)
nquads_fault base text _ h = absurd h

ntriples_fault : (base : Option (List ℕ)) (text : List ℕ) (f : KeeperFault) → IsFaulty NTriples base text f → InLines line.NTriples text f
ntriples_fault base text (LineFaultOf at) h = (at, h.0, h.1, refl)
ntriples_fault base text _ h = absurd h

turtle_fault : (base : Option (List ℕ)) (text : List ℕ) (f : KeeperFault) → IsFaulty Turtle base text f → (at : TurtleFault) × turtle.IsFaulty base text at × (f ≡ TurtleFaultOf at)
turtle_fault base text (TurtleFaultOf at) h = (at, h, refl)
turtle_fault base text _ h = absurd h

-- one fault, but for a line that is the reader's own choice
abbrev AreAlike : Request → KeeperFault → KeeperFault → Type 0
AreAlike request f g = (f ≡ g) ⊎ DifferInLine (Do request) f g

in_turtle : (text : List ℕ) (x y : TurtleFault) → turtle_laws.SameFault x y → (free : Bool) → turtle_laws.has_free_line x.kind ≡ free → AreAlike (Load Turtle text) (TurtleFaultOf x) (TurtleFaultOf y)
in_turtle text x y same true e = inr (e, ap turtle_laws.has_free_line (sym same.0) ∙ e, same.0)
in_turtle text x y same false e = inl (λ i. TurtleFaultOf (record { line = same.1 e i; kind = same.0 i }))

in_update : (text : List ℕ) (x y : SyntaxFault) → update_laws.SameFault x y → (free : Bool) → update_laws.has_free_line x.kind ≡ free → AreAlike (Update text) (SyntaxFaultOf x) (SyntaxFaultOf y)
in_update text x y same true e = inr (e, ap update_laws.has_free_line (sym same.0) ∙ e, same.0)
in_update text x y same false e = inl (λ i. SyntaxFaultOf (record { line = same.1 e i; kind = same.0 i }))

module _ (laws : ReaderLaws) where
  in_lines : (format : LineFormat) (text : List ℕ) (quads others : List QuadParts) (ending end : Option LineFault) → lines.IsDocument format text quads ending → lines.IsDocument format text others end → (quads ≡ others) × (ending ≡ end)
  in_lines format text quads others ending end a b =
      let d = laws.text format text in
      let p = d.3 quads ending a in let q = d.3 others end b in (p.0 ∙ sym q.0, p.1 ∙ sym q.1)

  pub one_document : (format : Format) (base : Option (List ℕ)) (text : List ℕ) (quads others : List QuadParts) → IsDocument format base text quads → IsDocument format base text others → quads ≡ others
  one_document NQuads base text quads others a b = (in_lines line.NQuads text quads others None None a b).0
  one_document NTriples base text quads others a b = (in_lines line.NTriples text quads others None None a b).0
  one_document Turtle base text quads others a b = laws.document base text quads others a b

  never_in_lines : {A : Type 0} (format : LineFormat) (text : List ℕ) (quads : List QuadParts) (f : KeeperFault) → lines.IsDocument format text quads None → InLines format text f → A
  never_in_lines format text quads f a (at, others, b, is) = none_not_some at (in_lines format text quads others None (Some at) a b).1

  never_both : {A : Type 0} (format : Format) (base : Option (List ℕ)) (text : List ℕ) (quads : List QuadParts) (f : KeeperFault) → IsDocument format base text quads → IsFaulty format base text f → A
  never_both NQuads base text quads f a b = never_in_lines line.NQuads text quads f a (nquads_fault base text f b)
  never_both NTriples base text quads f a b = never_in_lines line.NTriples text quads f a (ntriples_fault base text f b)
  never_both Turtle base text quads f a b = let own = turtle_fault base text f b in absurd (laws.never_both base text quads own.0 a own.1)

  one_in_lines : (format : LineFormat) (text : List ℕ) (f g : KeeperFault) → InLines format text f → InLines format text g → f ≡ g
  one_in_lines format text f g (at, quads, a, is) (here, others, b, was) =
      is ∙ ap LineFaultOf (same_fault at here (in_lines format text quads others (Some at) (Some here) a b).1) ∙ sym was

  one_fault : (format : Format) (base : Option (List ℕ)) (text : List ℕ) (f g : KeeperFault) → IsFaulty format base text f → IsFaulty format base text g → AreAlike (Load format text) f g
  one_fault NQuads base text f g a b = inl (one_in_lines line.NQuads text f g (nquads_fault base text f a) (nquads_fault base text g b))
  one_fault NTriples base text f g a b = inl (one_in_lines line.NTriples text f g (ntriples_fault base text f a) (ntriples_fault base text g b))
  one_fault Turtle base text f g a b =
      let x = turtle_fault base text f a in
      let y = turtle_fault base text g b in
      subst (λ h. AreAlike (Load Turtle text) h g) (sym x.2) (subst (λ h. AreAlike (Load Turtle text) (TurtleFaultOf x.0) h) (sym y.2)
      (in_turtle text x.0 y.0 (laws.fault base text x.0 y.0 x.1 y.1) (turtle_laws.has_free_line x.0.kind) refl))

  -- ---- loads

  load_faults : (s : Session) (format : Format) (text : List ℕ) (f g : KeeperFault) → LoadFault s format text f → LoadFault s format text g → AreAlike (Load format text) f g
  load_faults s format text f g (inl a) (inl b) = inl (a.3 ∙ sym b.3)
  load_faults s format text f g (inl a) (inr b) = never_both format s.base_iri text a.0 g a.1 b
  load_faults s format text f g (inr a) (inl b) = never_both format s.base_iri text b.0 f b.1 a
  load_faults s format text f g (inr a) (inr b) = one_fault format s.base_iri text f g a b

  load_not : {A : Type 0} (s : Session) (format : Format) (text : List ℕ) (f : KeeperFault) (after : State) → LoadFault s format text f → Makes s.base_iri (Load format text) (now s) after → A
  load_not s format text f after (inl a) b =
      let e = one_document format s.base_iri text a.0 b.0 a.1 b.1 in
      absurd (omega (arith, a.2, b.2, ap blank_limit e))
  load_not s format text f after (inr a) b = never_both format s.base_iri text b.0 f b.1 a

  -- ---- updates

  one_update_fault : (base : Option (List ℕ)) (text : List ℕ) (f g : KeeperFault) (x y : SyntaxFault) → f ≡ SyntaxFaultOf x → g ≡ SyntaxFaultOf y → update.IsFaulty base text x → update.IsFaulty base text y → AreAlike (Update text) f g
  one_update_fault base text f g x y p q a b =
      subst (λ h. AreAlike (Update text) h g) (sym p) (subst (λ h. AreAlike (Update text) (SyntaxFaultOf x) h) (sym q)
      (in_update text x y (laws.request_fault base text x y a b) (update_laws.has_free_line x.kind) refl))

  -- what the operations of a text lead to
  one_ending : (base : Option (List ℕ)) (text : List ℕ) (s : State) (r q : UpdateRequest) (ending : Ending) → update.IsUpdate base text r → update.IsUpdate base text q → steps s q.operations ≡ ending → steps s r.operations ≡ ending
  one_ending base text s r q ending a b e = ap (λ (x : UpdateRequest). steps s x.operations) (laws.request base text r q a b) ∙ e

  update_faults : (s : Session) (text : List ℕ) (f g : KeeperFault) → UpdateFault s text f → UpdateFault s text g → AreAlike (Update text) f g
  update_faults s text f g (inl a) (inl b) = one_update_fault s.base_iri text f g a.0 b.0 a.2 b.2 a.1 b.1
  update_faults s text f g (inl a) (inr b) = absurd (laws.request_or_fault s.base_iri text b.1 a.0 b.2 a.1)
  update_faults s text f g (inr a) (inl b) = absurd (laws.request_or_fault s.base_iri text a.1 b.0 a.2 b.1)
  update_faults s text f g (inr a) (inr b) =
      inl (a.4 ∙ ap ApplyFaultOf (same_obstacle _ a.0 b.0 a.3 (one_ending s.base_iri text (now s) a.1 b.1 (Err b.0) a.2 b.2 b.3)) ∙ sym b.4)

  update_not : {A : Type 0} (s : Session) (text : List ℕ) (f : KeeperFault) (after : State) → UpdateFault s text f → Makes s.base_iri (Update text) (now s) after → A
  update_not s text f after (inl a) b = absurd (laws.request_or_fault s.base_iri text b.0 a.0 b.1 a.1)
  update_not s text f after (inr a) b = stopped_not _ a.0 after a.3 (one_ending s.base_iri text (now s) a.1 b.0 (Ok after) a.2 b.1 b.2)

  -- ---- requests of both kinds

  pub one_meaning : (base : Option (List ℕ)) (r : Request) (s t u : State) → Makes base r s t → Makes base r s u → t ≡ u
  one_meaning base (Load format text) s t u a b = a.3 ∙ ap (loaded s) (one_document format base text a.0 b.0 a.1 b.1) ∙ sym b.3
  one_meaning base (Update text) s t u a b = same_state _ t u a.2 (one_ending base text s a.0 b.0 (Ok u) a.1 b.1 b.2)

  refused_alike : (s : Session) (r : Request) (f g : KeeperFault) → MayRefuse s (Do r) f → MayRefuse s (Do r) g → f ≢ no_memory → g ≢ no_memory → AreAlike r f g
  refused_alike s (Load format text) f g a b n m = load_faults s format text f g (load_fault s format text f a n) (load_fault s format text g b m)
  refused_alike s (Update text) f g a b n m = update_faults s text f g (update_fault s text f a n) (update_fault s text g b m)

  pub never_refused : {A : Type 0} (s : Session) (r : Request) (f : KeeperFault) (after : State) → MayRefuse s (Do r) f → f ≢ no_memory → Makes s.base_iri r (now s) after → A
  never_refused s (Load format text) f after a n b = load_not s format text f after (load_fault s format text f a n) b
  never_refused s (Update text) f after a n b = update_not s text f after (update_fault s text f a n) b

  refusals : (s t u : Session) (request : Request) (f g : KeeperFault) → AreAlike request f g → t ≡ s → u ≡ s → SameReply (Do request) (RefusedReply f) (RefusedReply g) × (t ≡ u)
  refusals s t u request f g (inl e) p q = (inl (ap RefusedReply e), p ∙ sym q)
  refusals s t u request f g (inr free) p q = (inr (f, g, refl, refl, free), p ∙ sym q)

  request_same : (s t u : Session) (request : Request) (r q : Reply) → Transition s (Do request) r t → Transition s (Do request) q u → IsFull r → IsFull q → SameReply (Do request) r q × (t ≡ u)
  request_same s t u request (RefusedReply f) (RefusedReply g) a b n m =
      refusals s t u request f g (refused_alike s request f g a.0 b.0 (full_fault f n) (full_fault g m)) a.1 b.1
  request_same s t u request (RefusedReply f) (Changed c) a b n m = never_refused s request f b.0 a.0 (full_fault f n) b.1
  request_same s t u request (RefusedReply f) Done a b n m = absurd b
  request_same s t u request (Changed c) (RefusedReply g) a b n m = never_refused s request g a.0 b.0 (full_fault g m) a.1
  request_same s t u request (Changed c) (Changed d) a b n m =
      let e = one_meaning s.base_iri request (now s) a.0 b.0 a.1 b.1 in
      (inl (ap Changed (a.3 ∙ ap (counts_between (now s)) e ∙ sym b.3)), a.2 ∙ ap (λ x. accepted x s) e ∙ sym b.2)
  request_same s t u request (Changed c) Done a b n m = absurd b
  request_same s t u request Done q a b n m = absurd a

  -- ---- any command

  alike : (c : Command) (t u : Session) (r q : Reply) → Same r t q u → SameReply c r q × (t ≡ u)
  alike c t u r q e = (inl e.0, e.1)

  pub one_reply : OneReply
  one_reply s t u (Do request) r q a n b m = request_same s t u request r q a b n m
  one_reply s t u Undo r q a n b m = alike Undo t u r q (undo_same s t u r q a b n m)
  one_reply s t u Redo r q a n b m = alike Redo t u r q (redo_same s t u r q a b n m)
  one_reply s t u (Mark name) r q a n b m = alike (Mark name) t u r q (mark_same s t u name r q a b n m)
  one_reply s t u (Rollback name) r q a n b m = alike (Rollback name) t u r q (rollback_same s t u name r q a b n m)
  one_reply s t u Commit r q a n b m = alike Commit t u r q (commit_same s t u r q a b)
