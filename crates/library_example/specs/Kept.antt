-- What is there once a document was loaded, and nothing else stands.
use Rattle.std.specs.Prelude.{◌≡◌, ℕ, List, None}
use Rattle.std.specs.List.{concat}
use Rattle.rdf_dataset.specs.State.{State, empty_state}
use Rattle.rdf_session.specs.QuadLines.{ListsQuads}
use Rattle.rdf_session.specs.Request.{Load, Makes}
use Rattle.rdf_session.specs.declared.format.Format.TheVariants.{Turtle}

-- the sorted lines of the quads of the document alone
abbrev pub AreItsLines : List ℕ → List ℕ → Type 0
AreItsLines document text = (s : State) × Makes None (Load Turtle document) (empty_state 0) s
    × (lines : List (List ℕ)) × ListsQuads s lines × (text ≡ concat lines)
