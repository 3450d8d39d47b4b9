-- The blank nodes of a request, by their numbers: each has one below the count of its data or of its template, so that none is lost where the
-- request is applied (SPARQL 1.1 Update, sections 3.1.1 and 3.1.3).
use Rattle.std.specs.Prelude.{◌≡◌, ℕ, ◌<◌, ⊤, List, Option}
use Rattle.std.specs.List.{AllByRecursion}
use Rattle.rdf_terms.specs.Below.{AreBelow, IsTermBelow}
use Rattle.sparql_syntax.specs.Update.{IsUpdate}
use Rattle.sparql_trees.specs.declared.operation.Operation.{Operation}
use Rattle.sparql_trees.specs.declared.operation.Operation.TheVariants as operation
use Rattle.sparql_trees.specs.declared.operation.Request.{Request}
use Rattle.sparql_trees.specs.declared.pattern.VarOrTerm.{VarOrTerm}
use Rattle.sparql_trees.specs.declared.pattern.VarOrTerm.TheVariants as place
use Rattle.sparql_trees.specs.declared.template.QuadPattern.{QuadPattern}
use Rattle.sparql_trees.specs.declared.template.Template.{Template}

-- a blank node of the template has a number below the limit, and no blank node of the dataset stands there
abbrev pub IsPlaceBelow : ℕ → VarOrTerm → Type 0
IsPlaceBelow limit (place.Variable variable) = ⊤
IsPlaceBelow limit (place.Hidden number) = number < limit
IsPlaceBelow limit (place.Term t) = IsTermBelow 0 t

abbrev pub IsPatternBelow : ℕ → QuadPattern → Type 0
IsPatternBelow limit q = IsPlaceBelow limit q.triple.subject × IsPlaceBelow limit q.triple.object

abbrev pub IsTemplateBelow : Template → Type 0
IsTemplateBelow t = AllByRecursion (IsPatternBelow t.blanks) t.quads

-- what is deleted has no blank nodes
abbrev pub IsOperationBelow : Operation → Type 0
IsOperationBelow (operation.InsertData d) = AreBelow d.blanks d.quads
IsOperationBelow (operation.DeleteData quads) = AreBelow 0 quads
IsOperationBelow (operation.Modify m) = (m.delete.blanks ≡ 0) × IsTemplateBelow m.delete × IsTemplateBelow m.insert
IsOperationBelow (operation.Create silent graph) = ⊤
IsOperationBelow (operation.Clear silent graphs) = ⊤
IsOperationBelow (operation.Drop silent graphs) = ⊤
IsOperationBelow (operation.Copy silent from to) = ⊤
IsOperationBelow (operation.Move silent from to) = ⊤
IsOperationBelow (operation.Add silent from to) = ⊤

abbrev pub RequestsStayBelow : Type 0
RequestsStayBelow =
    (base : Option (List ℕ)) (text : List ℕ) (request : Request) → IsUpdate base text request → AllByRecursion IsOperationBelow request.operations
