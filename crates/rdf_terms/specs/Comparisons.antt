-- That `==` and `cmp` of the code are the equality of values and the orders of Order.antt.
use Rattle.std.specs.Prelude.{◌≡◌, ◌↔◌, Bool, IsTrue}
use Rattle.std.specs.declared.cmp.Ordering.{Ordering}
use Rattle.rdf_terms.specs.Order.{text_cmp, literal_cmp, term_cmp, graph_cmp, quad_cmp}
use Rattle.rdf_terms.specs.contracts.iri.IriOrd.TheImpl as order_of_iris
use Rattle.rdf_terms.specs.contracts.literal.LiteralOrd.TheImpl as order_of_literals
use Rattle.rdf_terms.specs.contracts.term.TermOrd.TheImpl as order_of_terms
use Rattle.rdf_terms.specs.contracts.quad.GraphNameOrd.TheImpl as order_of_graphs
use Rattle.rdf_terms.specs.contracts.quad.QuadOrd.TheImpl as order_of_quads
use Rattle.rdf_terms.specs.contracts.iri.IriPartialEq.TheImpl as equality_of_iris
use Rattle.rdf_terms.specs.contracts.literal.LiteralPartialEq.TheImpl as equality_of_literals
use Rattle.rdf_terms.specs.contracts.term.TermPartialEq.TheImpl as equality_of_terms
use Rattle.rdf_terms.specs.contracts.quad.GraphNamePartialEq.TheImpl as equality_of_graphs
use Rattle.rdf_terms.specs.contracts.quad.QuadPartialEq.TheImpl as equality_of_quads

-- a comparison of the code is the order R
abbrev pub IsOrder : {T : Type 0} → (T → T → Ordering) → (T → T → Ordering) → Type 0
IsOrder {T = T} compare R = (a b : T) → compare a b ≡ R a b

-- an `==` of the code is the equality of values
abbrev pub IsEquality : {T : Type 0} → (T → T → Bool) → Type 0
IsEquality {T = T} eq = (a b : T) → IsTrue (eq a b) ↔ (a ≡ b)

abbrev pub IrisAreOrdered : Type 0
IrisAreOrdered = IsOrder (order_of_iris.ghosts).cmp text_cmp

abbrev pub LiteralsAreOrdered : Type 0
LiteralsAreOrdered = IsOrder (order_of_literals.ghosts).cmp literal_cmp

abbrev pub TermsAreOrdered : Type 0
TermsAreOrdered = IsOrder (order_of_terms.ghosts).cmp term_cmp

abbrev pub GraphsAreOrdered : Type 0
GraphsAreOrdered = IsOrder (order_of_graphs.ghosts).cmp graph_cmp

abbrev pub QuadsAreOrdered : Type 0
QuadsAreOrdered = IsOrder (order_of_quads.ghosts).cmp quad_cmp

abbrev pub IrisAreEqual : Type 0
IrisAreEqual = IsEquality (equality_of_iris.ghosts).eq

abbrev pub LiteralsAreEqual : Type 0
LiteralsAreEqual = IsEquality (equality_of_literals.ghosts).eq

abbrev pub TermsAreEqual : Type 0
TermsAreEqual = IsEquality (equality_of_terms.ghosts).eq

abbrev pub GraphsAreEqual : Type 0
GraphsAreEqual = IsEquality (equality_of_graphs.ghosts).eq

abbrev pub QuadsAreEqual : Type 0
QuadsAreEqual = IsEquality (equality_of_quads.ghosts).eq
