-- What may not stand in data, in templates and in two places of a request, and the operations of a request that keeps to it (SPARQL 1.1
-- Update, section 3.1; SPARQL 1.1 Query, sections 4.1.4, 19.6 and 19.8).
use Rattle.std.specs.Prelude.{Bool, true, false, not, ◌||◌, ◌==◌, List, [], ◌∷◌, map, Option, Some, None, Result, Ok, Err, if◌then◌else◌}
use Rattle.std.specs.List.{filter_map, flat_map, list_any}
use Rattle.rdf_terms.specs.Quad.{QuadParts}
use Rattle.rdf_terms.specs.Term.{is_literal_term}
use Rattle.rdf_terms.specs.declared.quad.GraphName.{GraphName}
use Rattle.rdf_terms.specs.declared.quad.GraphName.TheVariants.{Default, Named}
use Rattle.rdf_terms.specs.declared.term.Term.{Term}
use Rattle.rdf_terms.specs.declared.term.Term.TheVariants as term
use Rattle.sparql_syntax.specs.declared.drafts.Draft.{Draft}
use Rattle.sparql_syntax.specs.declared.drafts.Draft.TheVariants as draft
use Rattle.sparql_syntax.specs.declared.drafts.Modification.{Modification}
use Rattle.sparql_drafts.specs.declared.draft.QuadPattern.{QuadPattern}
use Rattle.sparql_drafts.specs.declared.draft.Quads.{Quads}
use Rattle.sparql_drafts.specs.declared.draft.VarOrIri.{VarOrIri}
use Rattle.sparql_drafts.specs.declared.draft.VarOrIri.TheVariants as name
use Rattle.sparql_drafts.specs.declared.draft.VarOrTerm.{VarOrTerm}
use Rattle.sparql_drafts.specs.declared.draft.VarOrTerm.TheVariants as place
use Rattle.sparql_queries.specs.Groups.{Labels}
use Rattle.sparql_queries.specs.Templates.{template}
use Rattle.sparql_syntax.specs.declared.fault.SyntaxFaultKind.{SyntaxFaultKind}
use Rattle.sparql_syntax.specs.declared.fault.SyntaxFaultKind.TheVariants.{BlankInDelete, VariableInData, LiteralSubject, BlankReused}
use Rattle.sparql_syntax.specs.Labels.{repeats_label}
use Rattle.sparql_trees.specs.Quads.{quad_by}
use Rattle.sparql_trees.specs.declared.operation.Operation.{Operation}
use Rattle.sparql_trees.specs.declared.operation.Operation.TheVariants as operation
use Rattle.sparql_trees.specs.declared.template.Modify.{Modify}

-- ---- blank nodes in DELETE DATA, DELETE and DELETE WHERE

abbrev pub has_blank_in_delete : Draft → Bool
has_blank_in_delete (draft.DeleteData quads) = not (quads.blanks == 0)
has_blank_in_delete (draft.Modify m) = not (m.delete.blanks == 0)
has_blank_in_delete (draft.InsertData quads) = false
has_blank_in_delete (draft.Other other) = false

-- ---- variables in data

abbrev pub is_variable : VarOrIri → Bool
is_variable (name.Variable variable) = true
is_variable (name.Iri iri) = false

abbrev pub is_variable_place : VarOrTerm → Bool
is_variable_place (place.Variable variable) = true
is_variable_place (place.Term t) = false

abbrev pub is_variable_graph : Option VarOrIri → Bool
is_variable_graph None = false
is_variable_graph (Some graph) = is_variable graph

abbrev pub has_variable : QuadPattern → Bool
has_variable p = is_variable_graph p.graph || (is_variable_place p.subject || (is_variable p.predicate || is_variable_place p.object))

-- as the name behind GRAPH, also of no triples, or in a quad
abbrev pub quads_have_variable : Quads → Bool
quads_have_variable quads = list_any is_variable quads.graphs || list_any has_variable quads.patterns

abbrev pub has_variable_in_data : Draft → Bool
has_variable_in_data (draft.InsertData quads) = quads_have_variable quads
has_variable_in_data (draft.DeleteData quads) = quads_have_variable quads
has_variable_in_data (draft.Modify m) = false
has_variable_in_data (draft.Other other) = false

-- ---- literals as subjects of data

abbrev pub is_literal : VarOrTerm → Bool
is_literal (place.Variable variable) = false
is_literal (place.Term t) = is_literal_term t

abbrev pub has_literal_subject : Draft → Bool
has_literal_subject (draft.InsertData quads) = list_any (λ p. is_literal p.subject) quads.patterns
has_literal_subject (draft.DeleteData quads) = list_any (λ p. is_literal p.subject) quads.patterns
has_literal_subject (draft.Modify m) = false
has_literal_subject (draft.Other other) = false

-- ---- blank node labels in two INSERT DATA operations, or in two basic graph patterns

-- the labels of the data that an operation inserts
abbrev pub inserted_labels : Draft → Labels
inserted_labels (draft.InsertData quads) = quads.labels ∷ []
inserted_labels (draft.DeleteData quads) = []
inserted_labels (draft.Modify m) = []
inserted_labels (draft.Other other) = []

-- the labels of each basic graph pattern behind its WHERE
abbrev pub pattern_labels : Draft → Labels
pattern_labels (draft.Modify m) = m.labels
pattern_labels (draft.InsertData quads) = []
pattern_labels (draft.DeleteData quads) = []
pattern_labels (draft.Other other) = []

-- some label stands in two INSERT DATA operations, or in two basic graph patterns; templates aren't asked, whose blank nodes are new under
-- each solution
abbrev pub reuses_label : List Draft → Bool
reuses_label drafts = repeats_label [] (flat_map inserted_labels drafts) || repeats_label [] (flat_map pattern_labels drafts)

-- ---- operations

abbrev pub graph_of : Option VarOrIri → Option GraphName
graph_of None = Some Default
graph_of (Some (name.Iri iri)) = Some (Named (term.Iri iri))
graph_of (Some (name.Variable variable)) = None

abbrev pub term_of : VarOrTerm → Option Term
term_of (place.Term t) = Some t
term_of (place.Variable variable) = None

abbrev pub predicate_of : VarOrIri → Option Term
predicate_of (name.Iri iri) = Some (term.Iri iri)
predicate_of (name.Variable variable) = None

-- the quad that a pattern is: it has no variable, and a literal is no subject
abbrev pub quad_of : QuadPattern → Option QuadParts
quad_of p = quad_by (graph_of p.graph) (term_of p.subject) (predicate_of p.predicate) (term_of p.object)

-- in templates any place may be a variable, and a literal a subject
abbrev pub modify_of : Modification → Modify
modify_of m = record { with = m.with; delete = template m.delete; insert = template m.insert; pattern = m.pattern }

abbrev pub operation_of : Draft → Operation
operation_of (draft.InsertData quads) = operation.InsertData (record { quads = filter_map quad_of quads.patterns; blanks = quads.blanks })
operation_of (draft.DeleteData quads) = operation.DeleteData (filter_map quad_of quads.patterns)
operation_of (draft.Modify m) = operation.Modify (modify_of m)
operation_of (draft.Other other) = other

-- each rule is asked of the whole request before the next
abbrev pub judged : List Draft → Result (List Operation) SyntaxFaultKind
judged drafts =
    if list_any has_blank_in_delete drafts then Err BlankInDelete
    else if list_any has_variable_in_data drafts then Err VariableInData
    else if list_any has_literal_subject drafts then Err LiteralSubject
    else if reuses_label drafts then Err BlankReused
    else Ok (map operation_of drafts)
