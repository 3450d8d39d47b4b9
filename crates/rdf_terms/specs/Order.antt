-- The order of terms and quads. It is this project's own; RDF gives none.
use Rattle.std.specs.Prelude.{ℕ, List, Option, None, Some}
use Rattle.std.specs.Ordering.{nat_cmp, ordering_then}
use Rattle.std.specs.Cmp.Lexicographic.{slice_cmp}
use Rattle.std.specs.declared.cmp.Ordering.{Ordering}
use Rattle.std.specs.declared.cmp.Ordering.TheVariants.{Less, Equal, Greater}
use Rattle.rdf_terms.specs.Literal.{LiteralParts}
use Rattle.rdf_terms.specs.Quad.{QuadParts}
use Rattle.rdf_terms.specs.declared.quad.GraphName.{GraphName}
use Rattle.rdf_terms.specs.declared.quad.GraphName.TheVariants.{Default, Named}
use Rattle.rdf_terms.specs.declared.term.Term.{Term}
use Rattle.rdf_terms.specs.declared.term.Term.TheVariants.{Blank, Iri, Literal}

-- texts by their bytes, which is the order of their code points
abbrev pub text_cmp : List ℕ → List ℕ → Ordering
text_cmp = slice_cmp nat_cmp

-- no tag comes first
abbrev pub tag_cmp : Option (List ℕ) → Option (List ℕ) → Ordering
tag_cmp None None = Equal
tag_cmp None (Some t) = Less
tag_cmp (Some s) None = Greater
tag_cmp (Some s) (Some t) = text_cmp s t

-- by lexical form, datatype and tag
abbrev pub literal_cmp : LiteralParts → LiteralParts → Ordering
literal_cmp a b = ordering_then (text_cmp a.lexical b.lexical) (ordering_then (text_cmp a.datatype b.datatype) (tag_cmp a.tag b.tag))

-- blank nodes by number, then IRIs, then literals
abbrev pub term_cmp : Term → Term → Ordering
term_cmp (Blank a) (Blank b) = nat_cmp a b
term_cmp (Blank a) t = Less
term_cmp (Iri a) (Blank b) = Greater
term_cmp (Iri a) (Iri b) = text_cmp a b
term_cmp (Iri a) (Literal b) = Less
term_cmp (Literal a) (Literal b) = literal_cmp a b
term_cmp (Literal a) t = Greater

-- the default graph comes first
abbrev pub graph_cmp : GraphName → GraphName → Ordering
graph_cmp Default Default = Equal
graph_cmp Default (Named t) = Less
graph_cmp (Named s) Default = Greater
graph_cmp (Named s) (Named t) = term_cmp s t

-- by graph, subject, predicate and object
abbrev pub quad_cmp : QuadParts → QuadParts → Ordering
quad_cmp a b =
    ordering_then (graph_cmp a.graph b.graph) (ordering_then (term_cmp a.subject b.subject)
    (ordering_then (term_cmp a.predicate b.predicate) (term_cmp a.object b.object)))
