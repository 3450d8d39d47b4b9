-- A request has a result or is refused, and never both.
use Rattle.std.proofs.Common.{◌≡◌, ◌⊎◌, ℕ, inl, inr, suc, ◌+◌, List, Option, Some, None, Result, Ok, Err, refl, subst, arith}
use Rattle.std.proofs.lemmas.Bool.Decides.{leb_tells}
use Rattle.rdf_dataset.specs.State.{State, last_number}
use Rattle.rdf_lines.specs.Document as lines
use Rattle.rdf_lines.specs.Document.{EachTextIsOneDocument}
use Rattle.rdf_lines.specs.declared.fault.LineFault.{LineFault}
use Rattle.rdf_lines.specs.declared.format.LineFormat.{LineFormat}
use Rattle.rdf_lines.specs.declared.format.LineFormat.TheVariants as line
use Rattle.rdf_terms.specs.Quad.{QuadParts}
use Rattle.rdf_turtle.specs.DocumentLaws as turtle_laws
use Rattle.sparql_eval.specs.Operations.{steps}
use Rattle.sparql_eval.specs.declared.fault.ApplyFault.{ApplyFault}
use Rattle.sparql_syntax.specs.UpdateLaws as update_laws
use Rattle.rdf_session.proofs.OneReplyLemmas.{never_refused, one_meaning}
use Rattle.rdf_session.specs.Inside.ReaderLaws.{ReaderLaws}
use Rattle.rdf_session.specs.Documents.{IsDocument, IsFaulty}
use Rattle.rdf_session.specs.OneResult.{SomeResult, OneResult, ResultOrRefusal}
use Rattle.rdf_session.specs.Request.{Request, Load, Update, Makes, IsRefused, blank_limit, loaded}
use Rattle.rdf_session.specs.Session.{MayRefuse, Do, fresh}
use Rattle.rdf_session.specs.Faults.{no_memory}
use Rattle.rdf_session.specs.declared.fault.KeeperFault.{KeeperFault}
use Rattle.rdf_session.specs.declared.fault.KeeperFault.TheVariants.{NoMemory, BlankNumbers, Line as LineFaultOf, Turtle as TurtleFaultOf, Syntax as SyntaxFaultOf, Apply as ApplyFaultOf}
use Rattle.rdf_session.specs.declared.format.Format.{Format}
use Rattle.rdf_session.specs.declared.format.Format.TheVariants.{NQuads, NTriples, Turtle}

-- ---- each request has a result or a refusal

abbrev Says : Format → Option (List ℕ) → List ℕ → Type 0
Says format base text = ((quads : List QuadParts) × IsDocument format base text quads) ⊎ ((fault : KeeperFault) × IsFaulty format base text fault)

abbrev Ending : Type 0
Ending = Result State ApplyFault

abbrev Ends : Ending → Type 0
Ends ending = ((t : State) × (ending ≡ Ok t)) ⊎ ((fault : ApplyFault) × (ending ≡ Err fault))

ends : (ending : Ending) → Ends ending
ends (Ok t) = inl (t, refl)
ends (Err fault) = inr (fault, refl)

abbrev LinesSay : LineFormat → List ℕ → Type 0
LinesSay format text =
    ((quads : List QuadParts) × lines.IsDocument format text quads None)
    ⊎ ((fault : LineFault) × ((quads : List QuadParts) × lines.IsDocument format text quads (Some fault)))

by_ending : (format : LineFormat) (text : List ℕ) (quads : List QuadParts) (ending : Option LineFault) → lines.IsDocument format text quads ending → LinesSay format text
by_ending format text quads None is = inl (quads, is)
by_ending format text quads (Some fault) is = inr (fault, (quads, is))

module _ (text_law : EachTextIsOneDocument) (turtle_law : turtle_laws.SomeMeaning) (update_law : update_laws.SomeMeaning) where
  in_lines : (format : LineFormat) (text : List ℕ) → LinesSay format text
  in_lines format text = let d = text_law format text in by_ending format text d.0 d.1 d.2

  says : (format : Format) (base : Option (List ℕ)) (text : List ℕ) → Says format base text
  says NQuads base text =
      elim (in_lines line.NQuads text) [ inl is ↦ inl (is.0, is.1) | inr at ↦ inr (LineFaultOf at.0, at.1) ]
  says NTriples base text =
      elim (in_lines line.NTriples text) [ inl is ↦ inl (is.0, is.1) | inr at ↦ inr (LineFaultOf at.0, at.1) ]
  says Turtle base text =
      elim (turtle_law base text) [ inl is ↦ inl (is.0, is.1) | inr at ↦ inr (TurtleFaultOf at.0, at.1) ]

  abbrev Comes : Option (List ℕ) → Request → State → Type 0
  Comes base request s = ((t : State) × Makes base request s t) ⊎ ((fault : KeeperFault) × IsRefused base request s fault)

  -- a faulty text is no want of blank numbers
  faulty_refused : (format : Format) (base : Option (List ℕ)) (text : List ℕ) (s : State) (fault : KeeperFault) → IsFaulty format base text fault → IsRefused base (Load format text) s fault
  faulty_refused NQuads base text s BlankNumbers h = absurd h
  faulty_refused NTriples base text s BlankNumbers h = absurd h
  faulty_refused Turtle base text s BlankNumbers h = absurd h
  faulty_refused format base text s fault h = h

  load_comes : (format : Format) (base : Option (List ℕ)) (text : List ℕ) (s : State) (quads : List QuadParts) → IsDocument format base text quads → Comes base (Load format text) s
  load_comes format base text s quads is =
      elim (leb_tells (suc last_number) (s.next + blank_limit quads)) [
        | inl past ↦ inr (BlankNumbers, (quads, is, omega (arith, past.1)))
        | inr room ↦ inl (loaded s quads, (quads, is, omega (arith, room.1), refl))
      ]

  pub some_result : SomeResult
  some_result base (Load format text) s =
      elim (says format base text) [
        | inl is ↦ load_comes format base text s is.0 is.1
        | inr at ↦ inr (at.0, faulty_refused format base text s at.0 at.1)
      ]
  some_result base (Update text) s =
      elim (update_law base text) [
        | inl is ↦
            elim (ends (steps s is.0.operations)) [
              | inl led ↦ inl (led.0, (is.0, is.1, led.1))
              | inr stopped ↦ inr (ApplyFaultOf stopped.0, (is.0, is.1, stopped.1))
            ]
        | inr at ↦ inr (SyntaxFaultOf at.0, at.1)
      ]

-- ---- and never both

-- want of memory is no reason of a request's own
no_want : (base : Option (List ℕ)) (request : Request) (s : State) → IsRefused base request s no_memory → ⊥
no_want base (Load NQuads text) s h = h
no_want base (Load NTriples text) s h = h
no_want base (Load Turtle text) s h = h
no_want base (Update text) s h = h

may : (base : Option (List ℕ)) (request : Request) (s : State) (fault : KeeperFault) → IsRefused base request s fault → MayRefuse (fresh base s) (Do request) fault
may base request s (NoMemory _) h = tt
may base request s fault h = h

pub one_result : ReaderLaws → OneResult
one_result laws base request s t u = one_meaning laws base request s t u

pub result_or_refusal : ReaderLaws → ResultOrRefusal
result_or_refusal laws base request s t fault made refused =
    never_refused laws (fresh base s) request fault t (may base request s fault refused)
    (λ e. no_want base request s (subst (IsRefused base request s) e refused)) made
