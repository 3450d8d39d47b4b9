use Rattle.std.proofs.Common.{rules, ◌≡◌, ◌==◌, false, not, subst, sym}
use Rattle.std.specs.List.{filter_map}
use Rattle.rdf_terms.specs.Below.{AreBelow}
use Rattle.sparql_drafts.specs.Drafts.{ArePatternsBelow}
use Rattle.sparql_syntax.specs.Rules.{quad_of}
use Rattle.sparql_syntax.proofs.RuleLemmas.{quads_below, quads_ground}
use Rattle.sparql_syntax.proofs.operations.operation_of.Goals as goal

pub new-requires : goal.new-requires
new-requires c =
    let written = c.in-InsertData.field-0 in
    let below : ArePatternsBelow written.blanks written.patterns = search rules in
    let is : c.in_ok-quads-in-InsertData.quads ≡ filter_map quad_of written.patterns = search rules in
    subst (AreBelow written.blanks) (sym is) (quads_below written.blanks written.patterns below)

pub new-requires-in-DeleteData : goal.new-requires-in-DeleteData
new-requires-in-DeleteData c =
    let written = c.in-DeleteData.field-0 in
    let below : ArePatternsBelow written.blanks written.patterns = search rules in
    let ground : not (written.blanks == 0) ≡ false = search rules in
    let is : c.in_ok-quads-in-DeleteData.quads ≡ filter_map quad_of written.patterns = search rules in
    subst (AreBelow 0) (sym is) (quads_ground written.blanks written.patterns below ground)
