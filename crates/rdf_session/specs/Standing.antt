-- What the states of a session have to do with the requests that stand.
use Rattle.std.specs.Prelude.{◌≡◌, ℕ, ◌+◌, ◌-◌, List, [], ◌∷◌, Option, unwrap_or}
use Rattle.rdf_dataset.specs.State.{State}
use Rattle.rdf_session.specs.History.{History, kept_within, nothing, pushed, moved, marked, place_of}
use Rattle.rdf_session.specs.Request.{Request, Makes}
use Rattle.rdf_session.specs.Session.{Session, Command, Reply, Do, Undo, Redo, Mark, Rollback, Commit, Refused, Transition}

-- the session after commands with these replies
abbrev pub Run : Session → List (Command × Reply) → Session → Type 0
Run old [] new = new ≡ old
Run old (event ∷ events) new = (mid : Session) × Transition old event.0 event.1 mid × Run mid events new

abbrev pub Requests : Type 0
Requests = History Request

-- the standing requests are kept by the rules of the states, under the same depth
abbrev pub kept_after : Option ℕ → Requests → Command × Reply → Requests
kept_after depth h (c, Refused fault) = h
kept_after depth h (Do request, r) = kept_within depth (pushed request h)
kept_after depth h (Undo, r) = moved (h.cursor - 1) h
kept_after depth h (Redo, r) = moved (h.cursor + 1) h
kept_after depth h (Mark name, r) = marked name h
kept_after depth h (Rollback name, r) = moved (unwrap_or (place_of name h) 0) h
kept_after depth h (Commit, r) = nothing

abbrev pub requests_of : Option ℕ → Requests → List (Command × Reply) → Requests
requests_of depth h [] = h
requests_of depth h (event ∷ events) = requests_of depth (kept_after depth h event) events

-- against the base IRI, each state is what its request makes of the state before
abbrev pub Follows : Option (List ℕ) → State → List Request → List State → Type 0
Follows base_iri s [] [] = Unit {0}
Follows base_iri s (r ∷ requests) (t ∷ states) = Makes base_iri r s t × Follows base_iri t requests states
Follows base_iri s [] (t ∷ states) = ⊥
Follows base_iri s (r ∷ requests) [] = ⊥

-- what requests make of a state, one after another
abbrev pub MakesAll : Option (List ℕ) → List Request → State → State → Type 0
MakesAll base_iri [] s t = t ≡ s
MakesAll base_iri (r ∷ requests) s t = (mid : State) × Makes base_iri r s mid × MakesAll base_iri requests mid t
