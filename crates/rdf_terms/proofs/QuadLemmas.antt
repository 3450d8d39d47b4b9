-- A quad of four terms, and `==` of quads.
use Rattle.std.proofs.Common.{◌≡◌, ◌∙◌, sym, ap, rules, Bool, true, ◌&&◌, if◌then◌else◌, None, Some}
use Rattle.std.proofs.lemmas.Bool.{and_from, and_parts}
use Rattle.rdf_terms.specs.Term.{is_term}
use Rattle.rdf_terms.specs.Quad.{QuadParts, is_graph, is_quad, has_right_kinds}
use Rattle.rdf_terms.specs.declared.quad.GraphName.{GraphName}
use Rattle.rdf_terms.specs.contracts.quad.GraphNamePartialEq.TheImpl as of_graphs
use Rattle.rdf_terms.specs.contracts.quad.QuadPartialEq.TheImpl as of_quads
use Rattle.rdf_terms.proofs.TermEq.{term_eq, term_eq-same, term_eq-own}

pub is_quad-from : (q : QuadParts) → has_right_kinds q ≡ true → is_graph q.graph ≡ true → is_term q.subject ≡ true → is_term q.predicate ≡ true → is_term q.object ≡ true → is_quad q ≡ true
is_quad-from q kinds graph subject predicate object =
    and_from (has_right_kinds q) _ kinds (and_from (is_graph q.graph) _ graph (and_from (is_term q.subject) _ subject (and_from (is_term q.predicate) (is_term q.object) predicate object)))

-- what `Quad::new` answers, by the test of its places
pub answered : (q : QuadParts) (b : Bool) → b ≡ has_right_kinds q → (c : Bool) → b ≡ c → (if c then Some q else None) ≡ (if has_right_kinds q then Some q else None)
answered q b e c h = ap (λ t. if t then Some q else None) (sym h ∙ e)

pub graph_eq-same : (x y : GraphName) → (of_graphs.ghosts).eq x y ≡ true → x ≡ y
graph_eq-same x y h = search rules

pub graph_eq-own : (x : GraphName) → (of_graphs.ghosts).eq x x ≡ true
graph_eq-own x = search rules

same_places : (x y : QuadParts) → x.graph ≡ y.graph → x.subject ≡ y.subject → x.predicate ≡ y.predicate → x.object ≡ y.object → x ≡ y
same_places x y g s p o = λ i. record { graph = g i; subject = s i; predicate = p i; object = o i }

pub quad_eq-same : (x y : QuadParts) → (of_quads.ghosts).eq x y ≡ true → x ≡ y
quad_eq-same x y h =
    let a = and_parts ((of_graphs.ghosts).eq x.graph y.graph) (term_eq x.subject y.subject && (term_eq x.predicate y.predicate && term_eq x.object y.object)) h in
    let b = and_parts (term_eq x.subject y.subject) (term_eq x.predicate y.predicate && term_eq x.object y.object) a.1 in
    let c = and_parts (term_eq x.predicate y.predicate) (term_eq x.object y.object) b.1 in
    same_places x y (graph_eq-same x.graph y.graph a.0) (term_eq-same x.subject y.subject b.0) (term_eq-same x.predicate y.predicate c.0) (term_eq-same x.object y.object c.1)

pub quad_eq-own : (x : QuadParts) → (of_quads.ghosts).eq x x ≡ true
quad_eq-own x =
    and_from _ _ (graph_eq-own x.graph) (and_from _ _ (term_eq-own x.subject) (and_from _ _ (term_eq-own x.predicate) (term_eq-own x.object)))
