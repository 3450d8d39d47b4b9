-- A load and INSERT DATA are one operation (SPARQL 1.1 Update, section 3.1.1).
use Rattle.std.specs.Prelude.{ℕ, List, Option, ◌↔◌}
use Rattle.rdf_dataset.specs.State.{State}
use Rattle.rdf_terms.specs.Quad.{QuadParts}
use Rattle.sparql_eval.specs.Operations.{Leads, Refuses}
use Rattle.sparql_eval.specs.declared.fault.ApplyFault.TheVariants as obstacle
use Rattle.sparql_trees.specs.declared.operation.Operation.{Operation}
use Rattle.sparql_trees.specs.declared.operation.Operation.TheVariants.{InsertData}
use Rattle.rdf_session.specs.Documents.{IsDocument}
use Rattle.rdf_session.specs.Request.{Load, IsRefused, Makes, blank_limit}
use Rattle.rdf_session.specs.declared.fault.KeeperFault.TheVariants.{BlankNumbers}
use Rattle.rdf_session.specs.declared.format.Format.{Format}

-- INSERT DATA of a document's quads
abbrev pub insertion : List QuadParts → Operation
insertion quads = InsertData (record { quads = quads; blanks = blank_limit quads })

-- A load leads where INSERT DATA of its document's quads leads.
abbrev pub LoadInserts : Type 0
LoadInserts = (base : Option (List ℕ)) (format : Format) (text : List ℕ) (s t : State)
    → Makes base (Load format text) s t ↔ ((quads : List QuadParts) × IsDocument format base text quads × Leads s (insertion quads) t)

-- And where that is refused for want of blank numbers, so is the load.
abbrev pub LoadIsRefusedAlike : Type 0
LoadIsRefusedAlike = (base : Option (List ℕ)) (format : Format) (text : List ℕ) (s : State)
    → IsRefused base (Load format text) s BlankNumbers ↔ ((quads : List QuadParts) × IsDocument format base text quads × Refuses s (insertion quads) obstacle.BlankNumbers)
