-- Data that comes into a dataset: the quads of a document or of INSERT DATA (SPARQL 1.1 Update, section 3.1.1). Its blank nodes
-- are new ones, numbered on from the counter, since their labels mean nothing outside it (RDF 1.1 Turtle, section 2.6).
use Rattle.std.specs.Prelude.{◌≡◌, ℕ, ◌+◌, ◌<◌, ◌≤◌, List, [], ◌∷◌, map, Option, None, Some}
use Rattle.std.specs.List.{flat_map}
use Rattle.std.specs.FinSet as set
use Rattle.rdf_terms.specs.Quad.{QuadParts}
use Rattle.rdf_terms.specs.declared.quad.GraphName.{GraphName}
use Rattle.rdf_terms.specs.declared.quad.GraphName.TheVariants.{Default, Named}
use Rattle.rdf_terms.specs.declared.term.Term.{Term}
use Rattle.rdf_terms.specs.declared.term.Term.TheVariants.{Blank}
use Rattle.rdf_dataset.specs.State.{State, last_number, with_blanks}
use Rattle.rdf_dataset.specs.Staging.{Staging, staged}

-- ---- blank nodes

-- blank node j becomes first + j
abbrev pub term_from : ℕ → Term → Term
term_from first (Blank number) = Blank (first + number)
term_from first t = t

abbrev pub graph_from : ℕ → GraphName → GraphName
graph_from first Default = Default
graph_from first (Named name) = Named (term_from first name)

abbrev pub quad_from : ℕ → QuadParts → QuadParts
quad_from first q = record {
  graph = graph_from first q.graph;
  subject = term_from first q.subject;
  predicate = term_from first q.predicate;
  object = term_from first q.object;
}

-- ---- what comes in

-- the name of a graph, where it has one
abbrev pub graph_names : GraphName → List Term
graph_names Default = []
graph_names (Named name) = name ∷ []

abbrev pub names_in : QuadParts → List Term
names_in q = graph_names q.graph

-- the quads come in, with the names of their graphs
abbrev pub with_all : State → List QuadParts → State
with_all s qs = record {
  quads = set.union s.quads (set.from_list qs);
  names = set.union s.names (set.from_list (flat_map names_in qs));
  next = s.next;
}

-- the quads of data come in, its blank nodes numbered on from the counter
abbrev pub with_data : State → List QuadParts → ℕ → State
with_data s quads blanks = with_all (with_blanks s blanks) (map (quad_from s.next) quads)

-- ---- what staging it answers

-- the first number that its blank nodes took, or none where they would bring the counter past the last number
abbrev pub Inserts : Staging → List QuadParts → ℕ → Option ℕ → Staging → Type 0
Inserts old quads blanks None new = (last_number < old.now.next + blanks) × (new ≡ old)
Inserts old quads blanks (Some first) new =
    (old.now.next + blanks ≤ last_number) × ((first ≡ old.now.next) × (new ≡ staged old (with_data old.now quads blanks)))
