-- The derived comparisons are the orders of Order.antt. These are total, and in them only equal values tie.
use Rattle.std.specs.Prelude.{◌≡◌, ℕ, List, Option, None, Some, refl}
use mathlib.Core.Path.{sym, subst, ap}
use mathlib.Core.Bool.{true≢false}
use Rattle.std.specs.declared.cmp.Ordering.{Ordering}
use Rattle.std.specs.declared.cmp.Ordering.TheVariants.{Less, Equal, Greater}
use Rattle.std.specs.Ordering.{ordering_then, is_eq}
use Rattle.std.specs.Option.{option_cmp}
use Rattle.std.specs.Cmp.{IsTotalOrder}
use Rattle.std.specs.FinSet.{IsAntisymmetric, nat_cmp-IsAntisymmetric, slice_cmp-IsAntisymmetric}
use Rattle.rdf_terms.specs.Order.{text_cmp, tag_cmp, literal_cmp, term_cmp, graph_cmp, quad_cmp}
use Rattle.rdf_terms.specs.Literal.{LiteralParts}
use Rattle.rdf_terms.specs.Quad.{QuadParts}
use Rattle.rdf_terms.specs.declared.quad.GraphName.{GraphName}
use Rattle.rdf_terms.specs.declared.quad.GraphName.TheVariants.{Default, Named}
use Rattle.rdf_terms.specs.declared.term.Term.{Term}
use Rattle.rdf_terms.specs.declared.term.Term.TheVariants.{Blank, Iri, Literal}
use Rattle.rdf_terms.specs.contracts.iri.IriOrd.TheImpl as of_iris
use Rattle.rdf_terms.specs.contracts.literal.LiteralOrd.TheImpl as of_literals
use Rattle.rdf_terms.specs.contracts.term.TermOrd.TheImpl as of_terms
use Rattle.rdf_terms.specs.contracts.term.TermOrd.TheImpl.Laws as laws_of_terms
use Rattle.rdf_terms.specs.contracts.quad.GraphNameOrd.TheImpl as of_graphs
use Rattle.rdf_terms.specs.contracts.quad.GraphNameOrd.TheImpl.Laws as laws_of_graphs
use Rattle.rdf_terms.specs.contracts.quad.QuadOrd.TheImpl as of_quads
use Rattle.rdf_terms.specs.contracts.quad.QuadOrd.TheImpl.Laws as laws_of_quads

-- ---- the derived comparisons

tag_order : (s t : Option (List ℕ)) → option_cmp text_cmp s t ≡ tag_cmp s t
tag_order None None = refl
tag_order None (Some t) = refl
tag_order (Some s) None = refl
tag_order (Some s) (Some t) = refl

pub iri_order : (a b : List ℕ) → (of_iris.ghosts).cmp a b ≡ text_cmp a b
iri_order a b = refl

pub literal_order : (a b : LiteralParts) → (of_literals.ghosts).cmp a b ≡ literal_cmp a b
literal_order a b =
    λ i. ordering_then (text_cmp a.lexical b.lexical) (ordering_then (text_cmp a.datatype b.datatype) (tag_order a.tag b.tag i))

pub term_order : (a b : Term) → (of_terms.ghosts).cmp a b ≡ term_cmp a b
term_order (Blank a) (Blank b) = refl
term_order (Blank a) (Iri b) = refl
term_order (Blank a) (Literal b) = refl
term_order (Iri a) (Blank b) = refl
term_order (Iri a) (Iri b) = refl
term_order (Iri a) (Literal b) = refl
term_order (Literal a) (Blank b) = refl
term_order (Literal a) (Iri b) = refl
term_order (Literal a) (Literal b) = literal_order a b

pub graph_order : (a b : GraphName) → (of_graphs.ghosts).cmp a b ≡ graph_cmp a b
graph_order Default Default = refl
graph_order Default (Named t) = refl
graph_order (Named s) Default = refl
graph_order (Named s) (Named t) = term_order s t

pub quad_order : (a b : QuadParts) → (of_quads.ghosts).cmp a b ≡ quad_cmp a b
quad_order a b =
    λ i. ordering_then (graph_order a.graph b.graph i) (ordering_then (term_order a.subject b.subject i)
    (ordering_then (term_order a.predicate b.predicate i) (term_order a.object b.object i)))

-- the same as equations of functions, for a caller that sorts
pub term_order_is : (of_terms.ghosts).cmp ≡ term_cmp
term_order_is = λ i a b. term_order a b i

pub graph_order_is : (of_graphs.ghosts).cmp ≡ graph_cmp
graph_order_is = λ i a b. graph_order a b i

pub quad_order_is : (of_quads.ghosts).cmp ≡ quad_cmp
quad_order_is = λ i a b. quad_order a b i

-- ---- the orders are total

pub term_cmp_total : IsTotalOrder term_cmp
term_cmp_total = subst IsTotalOrder term_order_is laws_of_terms.total-law

pub graph_cmp_total : IsTotalOrder graph_cmp
graph_cmp_total = subst IsTotalOrder graph_order_is laws_of_graphs.total-law

pub quad_cmp_total : IsTotalOrder quad_cmp
quad_cmp_total = subst IsTotalOrder quad_order_is laws_of_quads.total-law

-- ---- only equal values tie

-- where one comparison and then another ties, both do
both_tie : (a b : Ordering) → ordering_then a b ≡ Equal → (a ≡ Equal) × (b ≡ Equal)
both_tie Less b e = absurd (true≢false (sym (ap is_eq e)))
both_tie Equal b e = (refl, e)
both_tie Greater b e = absurd (true≢false (sym (ap is_eq e)))

pub text_cmp-IsAntisymmetric : IsAntisymmetric text_cmp
text_cmp-IsAntisymmetric = slice_cmp-IsAntisymmetric nat_cmp-IsAntisymmetric

tag_cmp-IsAntisymmetric : IsAntisymmetric tag_cmp
tag_cmp-IsAntisymmetric None None e = refl
tag_cmp-IsAntisymmetric None (Some t) e = absurd (true≢false (sym (ap is_eq e)))
tag_cmp-IsAntisymmetric (Some s) None e = absurd (true≢false (sym (ap is_eq e)))
tag_cmp-IsAntisymmetric (Some s) (Some t) e = ap Some (text_cmp-IsAntisymmetric s t e)

same_parts : (x y : LiteralParts) → x.lexical ≡ y.lexical → x.datatype ≡ y.datatype → x.tag ≡ y.tag → x ≡ y
same_parts x y l d t = λ i. record { lexical = l i; datatype = d i; tag = t i }

pub literal_cmp-IsAntisymmetric : IsAntisymmetric literal_cmp
literal_cmp-IsAntisymmetric x y e =
    let a = both_tie (text_cmp x.lexical y.lexical) _ e in
    let b = both_tie (text_cmp x.datatype y.datatype) _ a.1 in
    same_parts x y (text_cmp-IsAntisymmetric x.lexical y.lexical a.0) (text_cmp-IsAntisymmetric x.datatype y.datatype b.0)
    (tag_cmp-IsAntisymmetric x.tag y.tag b.1)

pub term_cmp-IsAntisymmetric : IsAntisymmetric term_cmp
term_cmp-IsAntisymmetric (Blank a) (Blank b) e = ap Blank (nat_cmp-IsAntisymmetric a b e)
term_cmp-IsAntisymmetric (Blank a) (Iri b) e = absurd (true≢false (sym (ap is_eq e)))
term_cmp-IsAntisymmetric (Blank a) (Literal b) e = absurd (true≢false (sym (ap is_eq e)))
term_cmp-IsAntisymmetric (Iri a) (Blank b) e = absurd (true≢false (sym (ap is_eq e)))
term_cmp-IsAntisymmetric (Iri a) (Iri b) e = ap Iri (text_cmp-IsAntisymmetric a b e)
term_cmp-IsAntisymmetric (Iri a) (Literal b) e = absurd (true≢false (sym (ap is_eq e)))
term_cmp-IsAntisymmetric (Literal a) (Blank b) e = absurd (true≢false (sym (ap is_eq e)))
term_cmp-IsAntisymmetric (Literal a) (Iri b) e = absurd (true≢false (sym (ap is_eq e)))
term_cmp-IsAntisymmetric (Literal a) (Literal b) e = ap Literal (literal_cmp-IsAntisymmetric a b e)

pub graph_cmp-IsAntisymmetric : IsAntisymmetric graph_cmp
graph_cmp-IsAntisymmetric Default Default e = refl
graph_cmp-IsAntisymmetric Default (Named t) e = absurd (true≢false (sym (ap is_eq e)))
graph_cmp-IsAntisymmetric (Named s) Default e = absurd (true≢false (sym (ap is_eq e)))
graph_cmp-IsAntisymmetric (Named s) (Named t) e = ap Named (term_cmp-IsAntisymmetric s t e)

same_places : (x y : QuadParts) → x.graph ≡ y.graph → x.subject ≡ y.subject → x.predicate ≡ y.predicate → x.object ≡ y.object → x ≡ y
same_places x y g s p o = λ i. record { graph = g i; subject = s i; predicate = p i; object = o i }

pub quad_cmp-IsAntisymmetric : IsAntisymmetric quad_cmp
quad_cmp-IsAntisymmetric x y e =
    let a = both_tie (graph_cmp x.graph y.graph) _ e in
    let b = both_tie (term_cmp x.subject y.subject) _ a.1 in
    let c = both_tie (term_cmp x.predicate y.predicate) _ b.1 in
    same_places x y (graph_cmp-IsAntisymmetric x.graph y.graph a.0) (term_cmp-IsAntisymmetric x.subject y.subject b.0)
    (term_cmp-IsAntisymmetric x.predicate y.predicate c.0) (term_cmp-IsAntisymmetric x.object y.object c.1)
