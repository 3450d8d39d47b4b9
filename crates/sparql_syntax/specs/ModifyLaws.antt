-- DELETE WHERE by the group of the same text (SPARQL 1.1 Update, section 3.1.3.3).
use Rattle.std.specs.Prelude.{◌≡◌, List, [], Some, None}
use Rattle.rdf_grammar.specs.Prologue.{Prologue}
use Rattle.sparql_drafts.specs.Meaning.{quads_in}
use Rattle.sparql_grammar.specs.QuadGroups.{quads_group}
use Rattle.sparql_grammar.specs.declared.tree.Block.{Block}
use Rattle.sparql_grammar.specs.declared.tree.Operation.TheVariants as written
use Rattle.sparql_queries.specs.Groups.{group}
use Rattle.sparql_syntax.specs.Meaning.{operation}
use Rattle.sparql_syntax.specs.declared.drafts.Draft.{Draft}
use Rattle.sparql_syntax.specs.declared.drafts.Draft.TheVariants.{Modify}
use Rattle.sparql_syntax.specs.declared.drafts.Modification.{Modification}

-- what it deletes are its quads, it inserts nothing, and its pattern is what the group of the same text says
pub record IsItsGroup (blocks : List Block) (p : Prologue) (m : Modification) : Type 0 where
  pub default : m.with ≡ None
  pub deleted : quads_in blocks p ≡ Some m.delete
  pub inserted : quads_in [] p ≡ Some m.insert
  pub asked : group p (quads_group blocks) [] ≡ Some (m.pattern, m.labels)

abbrev pub DeleteWhereIsItsGroup : Type 0
DeleteWhereIsItsGroup =
    (blocks : List Block) (p : Prologue) (draft : Draft) → operation (written.DeleteWhere blocks) p ≡ Some draft
    → (m : Modification) × (draft ≡ Modify m) × IsItsGroup blocks p m
