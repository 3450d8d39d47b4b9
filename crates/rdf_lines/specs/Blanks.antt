-- The blank nodes of quads, by their numbers.
use Rattle.std.specs.Prelude.{◌≡◌, ℕ, ◌<◌, ◌↔◌, List, [], length, IsTrue, Contains, Option}
use Rattle.std.specs.List.{flat_map, AllByRecursion}
use Rattle.rdf_terms.specs.Blanks.{AreNumberedInOrder, blanks_of}
use Rattle.rdf_terms.specs.Quad.{has_right_kinds}
use Rattle.rdf_terms.specs.declared.quad.Quad.{Quad}
use Rattle.rdf_lines.specs.declared.fault.LineFault.{LineFault}
use Rattle.rdf_lines.specs.declared.format.LineFormat.{LineFormat}
use Rattle.rdf_lines.specs.declared.statement.Node.{Node}
use Rattle.rdf_lines.specs.declared.statement.Statement.{Statement}
use Rattle.rdf_lines.specs.Lines.{lines}
use Rattle.rdf_lines.specs.Labels.{labels_after, nodes_of, term_in, numbered}
use Rattle.rdf_lines.specs.Document.{ReadsAll, IsDocument}

-- The blank numbers of a document are just those below the number of its labels, and each of its quads holds terms of right kinds.
abbrev pub BlankNumbersAreBelow : Type 0
BlankNumbersAreBelow = (format : LineFormat) (text : List ℕ) (quads : List Quad) (ending : Option LineFault) → IsDocument format text quads ending →
    (statements : List Statement) × ReadsAll format 1 (lines text) statements ending × (quads ≡ numbered statements)
    × ((number : ℕ) → (number < length (labels_after [] statements)) ↔ Contains (flat_map blanks_of quads) number)
    × AllByRecursion (λ q. IsTrue (has_right_kinds q)) quads

-- Two nodes of a document's statements have the same term just where they are the same node. So two labels share a number just
-- where they are equal (RDF 1.1 N-Quads, section 2.4).
abbrev pub NodesAreToldApart : Type 0
NodesAreToldApart = (format : LineFormat) (text : List ℕ) (quads : List Quad) (ending : Option LineFault) → IsDocument format text quads ending →
    (statements : List Statement) × ReadsAll format 1 (lines text) statements ending × (quads ≡ numbered statements)
    × ((a b : Node) → Contains (flat_map nodes_of statements) a → Contains (flat_map nodes_of statements) b
    → (term_in (labels_after [] statements) a ≡ term_in (labels_after [] statements) b) ↔ (a ≡ b))

-- The blank numbers of a document's quads come in order of first appearance.
abbrev pub NumbersComeInOrder : Type 0
NumbersComeInOrder = (format : LineFormat) (text : List ℕ) (quads : List Quad) (ending : Option LineFault) → IsDocument format text quads ending → AreNumberedInOrder quads
