-- In a request that keeps to the static rules each pattern of data is a quad.
use Rattle.std.proofs.Common.{◌≡◌, Bool, true, false, cond, ◌||◌, ◌&&◌, List, [], ◌∷◌, map, Option, Some, None, Result, Ok, Err, is_some, refl}
use Rattle.std.specs.List.{list_all, list_any}
use Rattle.rdf_terms.specs.declared.term.Term.TheVariants as term
use Rattle.sparql_syntax.specs.declared.drafts.Draft.{Draft}
use Rattle.sparql_syntax.specs.declared.drafts.Draft.TheVariants as draft
use Rattle.sparql_drafts.specs.declared.draft.QuadPattern.{QuadPattern}
use Rattle.sparql_drafts.specs.declared.draft.VarOrIri.{VarOrIri}
use Rattle.sparql_drafts.specs.declared.draft.VarOrIri.TheVariants as name
use Rattle.sparql_drafts.specs.declared.draft.VarOrTerm.{VarOrTerm}
use Rattle.sparql_drafts.specs.declared.draft.VarOrTerm.TheVariants as place
use Rattle.sparql_syntax.specs.declared.fault.SyntaxFaultKind.{SyntaxFaultKind}
use Rattle.sparql_syntax.specs.declared.fault.SyntaxFaultKind.TheVariants as fault
use Rattle.sparql_syntax.specs.RuleLaws.{are_quads, has_quads, PatternsAreQuads}
use Rattle.sparql_syntax.specs.Rules.{is_variable, is_variable_place, is_variable_graph, has_variable, is_literal, has_variable_in_data, has_literal_subject, has_blank_in_delete, reuses_label, graph_of, term_of, predicate_of, quad_of, operation_of}
use Rattle.sparql_trees.specs.Quads.{quad_by}
use Rattle.sparql_trees.specs.declared.operation.Operation.{Operation}

no_first : (a b : Bool) → (a || b) ≡ false → a ≡ false
no_first true b e = absurd cc
no_first false b e = refl

no_second : (a b : Bool) → (a || b) ≡ false → b ≡ false
no_second true b e = absurd cc
no_second false b e = e

both : (a b : Bool) → a ≡ true → b ≡ true → (a && b) ≡ true
both true b e f = f
both false b e f = absurd cc

by_places : (g : Option VarOrIri) (s : VarOrTerm) (p : VarOrIri) (o : VarOrTerm)
    → (is_variable_graph g || (is_variable_place s || (is_variable p || is_variable_place o))) ≡ false → is_literal s ≡ false
    → is_some (quad_by (graph_of g) (term_of s) (predicate_of p) (term_of o)) ≡ true
by_places (Some (name.Variable g)) s p o e f = absurd cc
by_places None (place.Variable s) p o e f = absurd cc
by_places (Some (name.Iri g)) (place.Variable s) p o e f = absurd cc
by_places None (place.Term s) (name.Variable p) o e f = absurd cc
by_places (Some (name.Iri g)) (place.Term s) (name.Variable p) o e f = absurd cc
by_places None (place.Term s) (name.Iri p) (place.Variable o) e f = absurd cc
by_places (Some (name.Iri g)) (place.Term s) (name.Iri p) (place.Variable o) e f = absurd cc
by_places None (place.Term (term.Blank n)) (name.Iri p) (place.Term o) e f = refl
by_places None (place.Term (term.Iri i)) (name.Iri p) (place.Term o) e f = refl
by_places None (place.Term (term.Literal l)) (name.Iri p) (place.Term o) e f = absurd cc
by_places (Some (name.Iri g)) (place.Term (term.Blank n)) (name.Iri p) (place.Term o) e f = refl
by_places (Some (name.Iri g)) (place.Term (term.Iri i)) (name.Iri p) (place.Term o) e f = refl
by_places (Some (name.Iri g)) (place.Term (term.Literal l)) (name.Iri p) (place.Term o) e f = absurd cc

all_quads : (ps : List QuadPattern) → list_any has_variable ps ≡ false → list_any (λ p. is_literal p.subject) ps ≡ false → are_quads ps ≡ true
all_quads [] e f = refl
all_quads (p ∷ ps) e f =
    both (is_some (quad_of p)) (are_quads ps)
    (by_places p.graph p.subject p.predicate p.object (no_first (has_variable p) (list_any has_variable ps) e) (no_first (is_literal p.subject) (list_any (λ q. is_literal q.subject) ps) f))
    (all_quads ps (no_second (has_variable p) (list_any has_variable ps) e) (no_second (is_literal p.subject) (list_any (λ q. is_literal q.subject) ps) f))

draft_quads : (d : Draft) → has_variable_in_data d ≡ false → has_literal_subject d ≡ false → has_quads d ≡ true
draft_quads (draft.InsertData quads) e f = all_quads quads.patterns (no_second (list_any is_variable quads.graphs) (list_any has_variable quads.patterns) e) f
draft_quads (draft.DeleteData quads) e f = all_quads quads.patterns (no_second (list_any is_variable quads.graphs) (list_any has_variable quads.patterns) e) f
draft_quads (draft.Modify m) e f = refl
draft_quads (draft.Other other) e f = refl

drafts_quads : (ds : List Draft) → list_any has_variable_in_data ds ≡ false → list_any has_literal_subject ds ≡ false → list_all has_quads ds ≡ true
drafts_quads [] e f = refl
drafts_quads (d ∷ ds) e f =
    both (has_quads d) (list_all has_quads ds)
    (draft_quads d (no_first (has_variable_in_data d) (list_any has_variable_in_data ds) e) (no_first (has_literal_subject d) (list_any has_literal_subject ds) f))
    (drafts_quads ds (no_second (has_variable_in_data d) (list_any has_variable_in_data ds) e) (no_second (has_literal_subject d) (list_any has_literal_subject ds) f))

Ruled : Bool → Bool → Bool → Bool → List Operation → Result (List Operation) SyntaxFaultKind
Ruled a b c d operations = cond a (Err fault.BlankInDelete) (cond b (Err fault.VariableInData) (cond c (Err fault.LiteralSubject) (cond d (Err fault.BlankReused) (Ok operations))))

no_variable : (a b c d : Bool) (written operations : List Operation) → Ruled a b c d written ≡ Ok operations → b ≡ false
unfolding Ruled
no_variable true b c d written operations e = absurd cc
no_variable false true c d written operations e = absurd cc
no_variable false false c d written operations e = refl

no_literal : (a b c d : Bool) (written operations : List Operation) → Ruled a b c d written ≡ Ok operations → c ≡ false
unfolding Ruled
no_literal true b c d written operations e = absurd cc
no_literal false true c d written operations e = absurd cc
no_literal false false true d written operations e = absurd cc
no_literal false false false d written operations e = refl

pub patterns_are_quads : PatternsAreQuads
unfolding Ruled
patterns_are_quads drafts operations e =
    let a = list_any has_blank_in_delete drafts in
    let b = list_any has_variable_in_data drafts in
    let c = list_any has_literal_subject drafts in
    let d = reuses_label drafts in
    let written = map operation_of drafts in
    drafts_quads drafts (no_variable a b c d written operations e) (no_literal a b c d written operations e)
