-- What is printed is read back in each format: N-Triples is a subset of Turtle (RDF 1.1 N-Triples, section 1), and an N-Quads line without a
-- graph label lies in the default graph (RDF 1.1 N-Quads, section 2.1).
use Rattle.std.specs.Prelude.{◌≡◌, ℕ, List, Option, IsTrue, IsSorted}
use Rattle.std.specs.FinSet as set
use Rattle.std.specs.List.{AllByRecursion, concat, flat_map}
use Rattle.rdf_terms.specs.Blanks.{AreNumberedInOrder}
use Rattle.rdf_terms.specs.Order.{quad_cmp}
use Rattle.rdf_terms.specs.Quad.{QuadParts}
use Rattle.rdf_terms.specs.declared.quad.GraphName.TheVariants.{Default}
use Rattle.rdf_lines.specs.QuadText.{quad_text, IsSortedText}
use Rattle.rdf_turtle.specs.WrittenLaws.{IsDefaultQuad}
use Rattle.rdf_dataset.specs.Sorted.{ListsSorted}
use Rattle.rdf_dataset.specs.State.{State, IsSound}
use Rattle.rdf_session.specs.Documents.{IsDocument}
use Rattle.rdf_keeper.specs.Script.Show.{Shows}
use Rattle.rdf_session.specs.Session.{Session, now}
use Rattle.rdf_session.specs.declared.format.Format.{Format}
use Rattle.rdf_keeper.specs.declared.script.command.Topic.TheVariants.{Quads}

-- The lines of quads of the default graph whose blank numbers come in order are a document of these very quads, in this order, in
-- each format and against any base.
abbrev pub LinesAreDocuments : Type 0
LinesAreDocuments =
    (format : Format) (base : Option (List ℕ)) (quads : List QuadParts) → AllByRecursion IsDefaultQuad quads → AreNumberedInOrder quads
    → IsDocument format base (flat_map quad_text quads) quads

-- Where such quads are sorted, so is their sorted text.
abbrev pub SortedTextsAreDocuments : Type 0
SortedTextsAreDocuments =
    (format : Format) (base : Option (List ℕ)) (quads : List QuadParts) (text : List ℕ) → AllByRecursion IsDefaultQuad quads → AreNumberedInOrder quads
    → IsSorted quad_cmp quads → IsSortedText quads text → IsDocument format base text quads

-- A sound dataset with all its quads in the default graph, whose blank numbers come in order where the quads are sorted.
pub record IsGraphInOrder (s : State) : Type 0 where
  pub sound : IsSound s
  pub in_default : (q : QuadParts) → IsTrue (set.contains s.quads q) → q.graph ≡ Default
  pub in_order : (quads : List QuadParts) → ListsSorted s.quads quads → AreNumberedInOrder quads

-- What `%print` shows of such a dataset is, in each format and against any base, a document of its quads, sorted.
abbrev pub PrintedLinesAreDocuments : Type 0
PrintedLinesAreDocuments =
    (format : Format) (base : Option (List ℕ)) (session : Session) (lines : List (List ℕ)) → IsGraphInOrder (now session) → Shows Quads session lines
    → (quads : List QuadParts) × ListsSorted (now session).quads quads × IsDocument format base (concat lines) quads
