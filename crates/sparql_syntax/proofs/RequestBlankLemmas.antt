-- The blank nodes of a request have numbers below their counts.
use Rattle.std.proofs.Common.{◌≡◌, refl, subst, ℕ, Bool, true, false, cond, not, ◌==◌, ◌||◌, List, [], ◌∷◌, map, filter_map, Option, Some, None, Result, Ok, Err, arith, true≢false}
use Rattle.std.proofs.lemmas.Option.{same_Some}
use Rattle.std.specs.List.{AllByRecursion, list_any}
use Rattle.std.specs.Option.{option_map}
use Rattle.rdf_terms.specs.Below.{AreBelow, IsQuadBelow}
use Rattle.rdf_terms.specs.Quad.{QuadParts, has_right_kinds}
use Rattle.rdf_terms.specs.declared.quad.GraphName.TheVariants.{Default, Named}
use Rattle.rdf_terms.specs.declared.term.Term.TheVariants as term
use Rattle.rdf_grammar.specs.Prologue.{Prologue}
use Rattle.sparql_grammar.specs.declared.tree.Operation as written_operation
use Rattle.sparql_grammar.specs.declared.tree.Operation.TheVariants as o
use Rattle.sparql_grammar.specs.declared.tree.Part.{Part}
use Rattle.sparql_drafts.specs.Drafts as drafted
use Rattle.sparql_drafts.specs.declared.draft.QuadPattern as read
use Rattle.sparql_drafts.specs.declared.draft.Quads.{Quads}
use Rattle.sparql_drafts.specs.declared.draft.VarOrIri.{VarOrIri}
use Rattle.sparql_drafts.specs.declared.draft.VarOrIri.TheVariants as name
use Rattle.sparql_drafts.specs.declared.draft.VarOrTerm as read_place
use Rattle.sparql_drafts.specs.declared.draft.VarOrTerm.TheVariants as place
use Rattle.sparql_drafts.proofs.CallerLemmas.{numbered_below}
use Rattle.sparql_queries.specs.Groups.{var_or_term}
use Rattle.sparql_queries.specs.Templates.{quad_pattern, template}
use Rattle.sparql_syntax.specs.Blanks.{IsDraftNumbered}
use Rattle.sparql_syntax.specs.Meaning.{answer, operation}
use Rattle.sparql_syntax.specs.RequestBlanks.{IsOperationBelow, IsPatternBelow, IsPlaceBelow, IsTemplateBelow, RequestsStayBelow}
use Rattle.sparql_syntax.specs.Rules as rules
use Rattle.sparql_syntax.specs.Rules.{graph_of, operation_of, predicate_of, quad_of, term_of}
use Rattle.sparql_syntax.specs.Update.{ruled}
use Rattle.sparql_syntax.specs.declared.drafts.Draft.{Draft}
use Rattle.sparql_syntax.specs.declared.drafts.Draft.TheVariants as d
use Rattle.sparql_syntax.specs.declared.fault.SyntaxFaultKind.{SyntaxFaultKind}
use Rattle.sparql_syntax.specs.declared.fault.SyntaxFaultKind.TheVariants as fault
use Rattle.sparql_trees.specs.Quads.{quad_by}
use Rattle.sparql_trees.specs.declared.operation.Operation.{Operation}
use Rattle.sparql_syntax.proofs.DraftLists.{all_drafts}
use Rattle.sparql_syntax.proofs.DraftsNumbered.{blank_numbers_are_below}

-- ---- templates

place_below : (limit : ℕ) (x : read_place.VarOrTerm) → drafted.IsPlaceBelow limit x → IsPlaceBelow limit (var_or_term x)
place_below limit (place.Variable variable) h = tt
place_below limit (place.Term (term.Blank number)) h = h
place_below limit (place.Term (term.Iri iri)) h = tt
place_below limit (place.Term (term.Literal literal)) h = tt

patterns_below : (limit : ℕ) (ps : List read.QuadPattern) → drafted.ArePatternsBelow limit ps → AllByRecursion (IsPatternBelow limit) (map quad_pattern ps)
patterns_below limit [] h = tt
patterns_below limit (p ∷ ps) h = ((place_below limit p.subject h.0.0, place_below limit p.object h.0.1), patterns_below limit ps h.1)

template_below : (q : Quads) → drafted.ArePatternsBelow q.blanks q.patterns → IsTemplateBelow (template q)
template_below q h = patterns_below q.blanks q.patterns h

-- ---- data

chosen_below : (limit : ℕ) (parts : QuadParts) (b : Bool) (q : QuadParts) → IsQuadBelow limit parts → cond b (Some parts) None ≡ Some q → IsQuadBelow limit q
chosen_below limit parts true q h e = subst (IsQuadBelow limit) (same_Some _ _ e) h
chosen_below limit parts false q h e = absurd (cc e)

by_places : (limit : ℕ) (g : Option VarOrIri) (s : read_place.VarOrTerm) (p : VarOrIri) (x : read_place.VarOrTerm) (q : QuadParts) → drafted.IsPlaceBelow limit s → drafted.IsPlaceBelow limit x
    → quad_by (graph_of g) (term_of s) (predicate_of p) (term_of x) ≡ Some q → IsQuadBelow limit q
by_places limit (Some (name.Variable g)) s p x q h k e = absurd (cc e)
by_places limit None (place.Variable s) p x q h k e = absurd (cc e)
by_places limit (Some (name.Iri g)) (place.Variable s) p x q h k e = absurd (cc e)
by_places limit None (place.Term s) (name.Variable p) x q h k e = absurd (cc e)
by_places limit (Some (name.Iri g)) (place.Term s) (name.Variable p) x q h k e = absurd (cc e)
by_places limit None (place.Term s) (name.Iri p) (place.Variable x) q h k e = absurd (cc e)
by_places limit (Some (name.Iri g)) (place.Term s) (name.Iri p) (place.Variable x) q h k e = absurd (cc e)
by_places limit None (place.Term s) (name.Iri p) (place.Term x) q h k e =
    let parts : QuadParts = record { graph = Default; subject = s; predicate = term.Iri p; object = x } in
    chosen_below limit parts (has_right_kinds parts) q (record { graph = tt; subject = h; predicate = tt; object = k }) e
by_places limit (Some (name.Iri g)) (place.Term s) (name.Iri p) (place.Term x) q h k e =
    let parts : QuadParts = record { graph = Named (term.Iri g); subject = s; predicate = term.Iri p; object = x } in
    chosen_below limit parts (has_right_kinds parts) q (record { graph = tt; subject = h; predicate = tt; object = k }) e

quads_below : (limit : ℕ) (ps : List read.QuadPattern) → drafted.ArePatternsBelow limit ps → AreBelow limit (filter_map quad_of ps)
quads_below limit [] h = tt
quads_below limit (p ∷ ps) h = by (quad_of p) refl (quads_below limit ps h.1)
  where
    by : (r : Option QuadParts) → quad_of p ≡ r → AreBelow limit (filter_map quad_of ps) → AreBelow limit (filter_map quad_of (p ∷ ps))
    by None e rest = rw e rest
    by (Some q) e rest = rw e (by_places limit p.graph p.subject p.predicate p.object q h.0.0 h.0.1 e, rest)

-- ---- operations on graphs

-- an operation that is no data and no template
abbrev IsPlain : Draft → Type 0
IsPlain (d.Other other) = IsOperationBelow other
IsPlain (d.InsertData quads) = Unit {0}
IsPlain (d.DeleteData quads) = Unit {0}
IsPlain (d.Modify m) = Unit {0}

mapped_plain : {A : Type 0} (f : A → Draft) (r : Option A) (draft : Draft) → ((y : A) → IsPlain (f y)) → option_map f r ≡ Some draft → IsPlain draft
mapped_plain f None draft h e = absurd (cc e)
mapped_plain f (Some y) draft h e = subst IsPlain (same_Some _ _ e) (h y)

operation_plain : (written : written_operation.Operation) (p : Prologue) (draft : Draft) → operation written p ≡ Some draft → IsPlain draft
unfolding operation
operation_plain (o.InsertData blocks) p draft e = mapped_plain _ _ draft (λ _. tt) e
operation_plain (o.DeleteData blocks) p draft e = mapped_plain _ _ draft (λ _. tt) e
operation_plain (o.DeleteWhere blocks) p draft e = mapped_plain _ _ draft (λ _. tt) e
operation_plain (o.Modify m) p draft e = mapped_plain _ _ draft (λ _. tt) e
operation_plain (o.Create silent name) p draft e = mapped_plain _ _ draft (λ _. tt) e
operation_plain (o.Clear silent graphs) p draft e = mapped_plain _ _ draft (λ _. tt) e
operation_plain (o.Drop silent graphs) p draft e = mapped_plain _ _ draft (λ _. tt) e
operation_plain (o.Copy silent from to) p draft e = mapped_plain _ _ draft (λ _. tt) e
operation_plain (o.Move silent from to) p draft e = mapped_plain _ _ draft (λ _. tt) e
operation_plain (o.Add silent from to) p draft e = mapped_plain _ _ draft (λ _. tt) e

-- ---- requests

not_zero : (n : ℕ) → not (n == 0) ≡ false → n ≡ 0
not_zero n e = grind arith

none_below : (limit : ℕ) (ps : List read.QuadPattern) → limit ≡ 0 → drafted.ArePatternsBelow limit ps → drafted.ArePatternsBelow 0 ps
none_below limit ps e h = subst (λ (n : ℕ). drafted.ArePatternsBelow n ps) e h

draft_below : (draft : Draft) → IsDraftNumbered draft → IsPlain draft → rules.has_blank_in_delete draft ≡ false → IsOperationBelow (operation_of draft)
draft_below (d.InsertData quads) h plain none = quads_below quads.blanks quads.patterns (numbered_below quads h)
draft_below (d.DeleteData quads) h plain none = quads_below 0 quads.patterns (none_below quads.blanks quads.patterns (not_zero quads.blanks none) (numbered_below quads h))
draft_below (d.Modify m) h plain none = (not_zero m.delete.blanks none, template_below m.delete (numbered_below m.delete h.0), template_below m.insert (numbered_below m.insert h.1))
draft_below (d.Other other) h plain none = plain

no_first : (a b : Bool) → (a || b) ≡ false → a ≡ false
no_first true b e = absurd (true≢false e)
no_first false b e = refl

no_second : (a b : Bool) → (a || b) ≡ false → b ≡ false
no_second true b e = absurd (true≢false e)
no_second false b e = e

all_below : (ds : List Draft) → AllByRecursion IsDraftNumbered ds → AllByRecursion IsPlain ds → list_any rules.has_blank_in_delete ds ≡ false → AllByRecursion IsOperationBelow (map operation_of ds)
all_below [] h plain none = tt
all_below (x ∷ ds) h plain none = (
  draft_below x h.0 plain.0 (no_first (rules.has_blank_in_delete x) (list_any rules.has_blank_in_delete ds) none),
  all_below ds h.1 plain.1 (no_second (rules.has_blank_in_delete x) (list_any rules.has_blank_in_delete ds) none),
)

record Judged (a : Bool) (written operations : List Operation) : Type 0 where
  none : a ≡ false
  is : written ≡ operations

judged_is : (a b c e : Bool) (written operations : List Operation)
    → cond a (Err fault.BlankInDelete) (cond b (Err fault.VariableInData) (cond c (Err fault.LiteralSubject) (cond e (Err fault.BlankReused) (Ok written)))) ≡ Ok operations → Judged a written operations
judged_is true b c e written operations is = absurd (cc is)
judged_is false true c e written operations is = absurd (cc is)
judged_is false false true e written operations is = absurd (cc is)
judged_is false false false true written operations is = absurd (cc is)
judged_is false false false false written operations is = record { none = refl; is = cc is }

by_answer : (base : Option (List ℕ)) (tree : List Part) (r : Result (List Draft) SyntaxFaultKind) (operations : List Operation) → answer base tree ≡ r → ruled r ≡ Ok operations → AllByRecursion IsOperationBelow operations
by_answer base tree (Err kind) operations is e = absurd (cc e)
by_answer base tree (Ok ds) operations is e =
    let judged = judged_is (list_any rules.has_blank_in_delete ds) (list_any rules.has_variable_in_data ds) (list_any rules.has_literal_subject ds) (rules.reuses_label ds) (map operation_of ds) operations e in
    subst (AllByRecursion IsOperationBelow) judged.is
    (all_below ds (blank_numbers_are_below base tree ds is) (all_drafts IsPlain operation_plain base tree ds is) judged.none)

pub requests_stay_below : RequestsStayBelow
requests_stay_below base text request update = by_answer base update.0 (answer base update.0) request.operations refl update.2
