-- Requests, and what they make of a state: a dataset (RDF 1.1 Concepts, section 4) with a counter of blank nodes.
use Rattle.std.specs.Prelude.{◌≡◌, ℕ, ◌+◌, ◌<◌, ◌≤◌, List, [], ◌∷◌, max, Option, Ok, Err}
use Rattle.rdf_terms.specs.Quad.{QuadParts}
use Rattle.rdf_terms.specs.declared.quad.GraphName.{GraphName}
use Rattle.rdf_terms.specs.declared.quad.GraphName.TheVariants.{Default, Named}
use Rattle.rdf_terms.specs.declared.term.Term.{Term}
use Rattle.rdf_terms.specs.declared.term.Term.TheVariants.{Blank}
use Rattle.rdf_dataset.specs.State.{State, last_number}
use Rattle.rdf_dataset.specs.Insertion.{with_data}
use Rattle.sparql_eval.specs.Operations.{steps}
use Rattle.sparql_syntax.specs.Update as update
use Rattle.sparql_trees.specs.declared.operation.Request.{Request as UpdateRequest}
use Rattle.rdf_session.specs.Documents.{IsDocument, IsFaulty}
use Rattle.rdf_session.specs.declared.fault.KeeperFault.{KeeperFault}
use Rattle.rdf_session.specs.declared.fault.KeeperFault.TheVariants.{BlankNumbers, Syntax, Apply}
use Rattle.rdf_session.specs.declared.format.Format.{Format}

pub data Request : Type 0 where
  -- the document of a text comes in
  Load : Format → List ℕ → Request
  -- the operations of a text act (SPARQL 1.1 Update, section 3)
  Update : List ℕ → Request

-- ---- the blank nodes of a document, whose labels mean nothing outside it (RDF 1.1 N-Quads, section 2.4; RDF 1.1 Turtle, section 2.6)

-- the least number above that of the term, where it is a blank node
abbrev pub term_limit : Term → ℕ
term_limit (Blank number) = number + 1
term_limit t = 0

abbrev pub graph_limit : GraphName → ℕ
graph_limit Default = 0
graph_limit (Named name) = term_limit name

abbrev pub quad_limit : QuadParts → ℕ
quad_limit q = max (graph_limit q.graph) (max (term_limit q.subject) (max (term_limit q.predicate) (term_limit q.object)))

-- the least number above those of all blank nodes of the quads
abbrev pub blank_limit : List QuadParts → ℕ
blank_limit [] = 0
blank_limit (q ∷ qs) = max (quad_limit q) (blank_limit qs)

-- a document's quads come in, its blank nodes numbered on from the counter
abbrev pub loaded : State → List QuadParts → State
loaded s qs = with_data s qs (blank_limit qs)

-- ---- what a request makes of a state against the session's base IRI, and why it is refused

abbrev pub Makes : Option (List ℕ) → Request → State → State → Type 0
Makes base (Load format text) s t =
    (quads : List QuadParts) × IsDocument format base text quads × (s.next + blank_limit quads ≤ last_number) × (t ≡ loaded s quads)
Makes base (Update text) s t =
    (request : UpdateRequest) × update.IsUpdate base text request × (steps s request.operations ≡ Ok t)

abbrev pub IsRefused : Option (List ℕ) → Request → State → KeeperFault → Type 0
-- its blank nodes would bring the counter past the last number
IsRefused base (Load format text) s BlankNumbers = (quads : List QuadParts) × IsDocument format base text quads × (last_number < s.next + blank_limit quads)
-- the text is no document
IsRefused base (Load format text) s fault = IsFaulty format base text fault
-- the text is no request
IsRefused base (Update text) s (Syntax fault) = update.IsFaulty base text fault
-- one of its operations is refused
IsRefused base (Update text) s (Apply fault) =
    (request : UpdateRequest) × update.IsUpdate base text request × (steps s request.operations ≡ Err fault)
IsRefused base (Update text) s _ = ⊥
