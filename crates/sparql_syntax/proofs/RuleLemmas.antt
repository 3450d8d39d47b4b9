-- What data that keep to the rules are.
use Rattle.std.proofs.Common.{◌≡◌, ◌==◌, ℕ, Bool, true, false, cond, not, List, [], ◌∷◌, Option, Some, None, Result, Ok, Err, refl, subst, arith}
use Rattle.std.proofs.lemmas.Bool.Decides.{nat_tests}
use Rattle.std.specs.List.{list_any, filter_map, cons_option}
use Rattle.rdf_terms.specs.Below.{IsQuadBelow, AreBelow}
use Rattle.rdf_terms.specs.Quad.{QuadParts, has_right_kinds}
use Rattle.rdf_terms.specs.declared.quad.GraphName.{GraphName}
use Rattle.rdf_terms.specs.declared.quad.GraphName.TheVariants.{Default, Named}
use Rattle.rdf_terms.specs.declared.term.Term.{Term}
use Rattle.rdf_terms.specs.declared.term.Term.TheVariants as term
use Rattle.sparql_syntax.specs.declared.drafts.Draft.{Draft}
use Rattle.sparql_drafts.specs.declared.draft.QuadPattern.{QuadPattern}
use Rattle.sparql_drafts.specs.declared.draft.VarOrIri.{VarOrIri}
use Rattle.sparql_drafts.specs.declared.draft.VarOrIri.TheVariants as name
use Rattle.sparql_drafts.specs.declared.draft.VarOrTerm.{VarOrTerm}
use Rattle.sparql_drafts.specs.declared.draft.VarOrTerm.TheVariants as place
use Rattle.sparql_syntax.specs.declared.fault.SyntaxFaultKind.{SyntaxFaultKind}
use Rattle.sparql_syntax.specs.declared.fault.SyntaxFaultKind.TheVariants as fault
use Rattle.sparql_drafts.specs.Drafts.{IsPlaceBelow, IsPatternBelow, ArePatternsBelow}
use Rattle.sparql_syntax.specs.Rules.{has_blank_in_delete, graph_of, term_of, predicate_of, quad_of, judged}
use Rattle.sparql_trees.specs.Quads.{quad_by}
use Rattle.sparql_trees.specs.declared.operation.Operation.{Operation}

some_or_none : (b : Bool) (x y : QuadParts) → cond b (Some x) None ≡ Some y → x ≡ y
some_or_none true x y e = cc
some_or_none false x y e = absurd cc

none_some : (q : QuadParts) → ◌≡◌ {A = Option QuadParts} None (Some q) → ⊥
none_some q e = cc

-- the graph's name is an IRI, and the predicate too
in_graph : (limit : ℕ) (g : GraphName) (s : Term) (p : List ℕ) (o : Term) (q : QuadParts) → IsQuadBelow limit (record { graph = g; subject = s; predicate = term.Iri p; object = o })
    → quad_by (Some g) (Some s) (Some (term.Iri p)) (Some o) ≡ Some q → IsQuadBelow limit q
in_graph limit g s p o q h e =
    let parts : QuadParts = record { graph = g; subject = s; predicate = term.Iri p; object = o } in
    subst (IsQuadBelow limit) (some_or_none (has_right_kinds parts) parts q e) h

by_places : (limit : ℕ) (g : Option VarOrIri) (s : VarOrTerm) (p : VarOrIri) (o : VarOrTerm) (q : QuadParts) → IsPlaceBelow limit s → IsPlaceBelow limit o
    → quad_by (graph_of g) (term_of s) (predicate_of p) (term_of o) ≡ Some q → IsQuadBelow limit q
by_places limit None (place.Term s) (name.Iri p) (place.Term o) q h i e = in_graph limit Default s p o q (record { graph = tt; subject = h; predicate = tt; object = i }) e
by_places limit (Some (name.Iri g)) (place.Term s) (name.Iri p) (place.Term o) q h i e =
    in_graph limit (Named (term.Iri g)) s p o q (record { graph = tt; subject = h; predicate = tt; object = i }) e
by_places limit (Some (name.Variable g)) s p o q h i e = absurd (none_some q e)
by_places limit None (place.Variable s) p o q h i e = absurd (none_some q e)
by_places limit (Some (name.Iri g)) (place.Variable s) p o q h i e = absurd (none_some q e)
by_places limit None (place.Term s) (name.Variable p) o q h i e = absurd (none_some q e)
by_places limit (Some (name.Iri g)) (place.Term s) (name.Variable p) o q h i e = absurd (none_some q e)
by_places limit None (place.Term s) (name.Iri p) (place.Variable o) q h i e = absurd (none_some q e)
by_places limit (Some (name.Iri g)) (place.Term s) (name.Iri p) (place.Variable o) q h i e = absurd (none_some q e)

quad_below : (limit : ℕ) (p : QuadPattern) (q : QuadParts) → IsPatternBelow limit p → quad_of p ≡ Some q → IsQuadBelow limit q
quad_below limit p q h e = by_places limit p.graph p.subject p.predicate p.object q h.0 h.1 e

one_more : (limit : ℕ) (o : Option QuadParts) (qs : List QuadParts) → ((q : QuadParts) → o ≡ Some q → IsQuadBelow limit q) → AreBelow limit qs → AreBelow limit (cons_option o qs)
one_more limit None qs f h = h
one_more limit (Some q) qs f h = (f q refl, h)

-- the quads of patterns whose blank nodes have numbers below the limit
pub quads_below : (limit : ℕ) (ps : List QuadPattern) → ArePatternsBelow limit ps → AreBelow limit (filter_map quad_of ps)
quads_below limit [] h = tt
quads_below limit (p ∷ ps) h = one_more limit (quad_of p) (filter_map quad_of ps) (λ q e. quad_below limit p q h.0 e) (quads_below limit ps h.1)

none_left : (n : ℕ) → not (n == 0) ≡ false → n ≡ 0
none_left n e = grind (arith, nat_tests)

-- where DELETE DATA has no blank node, its quads have none
pub quads_ground : (blanks : ℕ) (ps : List QuadPattern) → ArePatternsBelow blanks ps → not (blanks == 0) ≡ false → AreBelow 0 (filter_map quad_of ps)
quads_ground blanks ps h e = quads_below 0 ps (subst (λ (n : ℕ). ArePatternsBelow n ps) (none_left blanks e) h)

-- a request that keeps to the rules has no blank node in DELETE DATA
ground_by : (a : Bool) (r : Result (List Operation) SyntaxFaultKind) (operations : List Operation) → cond a (Err fault.BlankInDelete) r ≡ Ok operations → a ≡ false
ground_by true r operations e = absurd cc
ground_by false r operations e = refl

pub ground : (drafts : List Draft) (operations : List Operation) → judged drafts ≡ Ok operations → list_any has_blank_in_delete drafts ≡ false
ground drafts operations e = ground_by (list_any has_blank_in_delete drafts) _ operations e
