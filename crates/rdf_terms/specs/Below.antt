-- Terms and quads whose blank nodes have numbers below a given one.
use Rattle.std.specs.Prelude.{ℕ, ◌<◌, ⊤, List}
use Rattle.std.specs.List.{AllByRecursion}
use Rattle.rdf_terms.specs.Quad.{QuadParts}
use Rattle.rdf_terms.specs.declared.term.Term.{Term}
use Rattle.rdf_terms.specs.declared.term.Term.TheVariants.{Blank, Iri, Literal}
use Rattle.rdf_terms.specs.declared.quad.GraphName.{GraphName}
use Rattle.rdf_terms.specs.declared.quad.GraphName.TheVariants.{Default, Named}

abbrev pub IsTermBelow : ℕ → Term → Type 0
IsTermBelow next (Blank number) = number < next
IsTermBelow next (Iri text) = ⊤
IsTermBelow next (Literal parts) = ⊤

abbrev pub IsGraphBelow : ℕ → GraphName → Type 0
IsGraphBelow next Default = ⊤
IsGraphBelow next (Named name) = IsTermBelow next name

-- the blank nodes of a quad have numbers below next
pub record IsQuadBelow (next : ℕ) (q : QuadParts) : Type 0 where
  pub graph : IsGraphBelow next q.graph
  pub subject : IsTermBelow next q.subject
  pub predicate : IsTermBelow next q.predicate
  pub object : IsTermBelow next q.object

-- and those of all the quads
abbrev pub AreBelow : ℕ → List QuadParts → Type 0
AreBelow next quads = AllByRecursion (IsQuadBelow next) quads
