-- What a template says: its blank nodes are its own, by their numbers (SPARQL 1.1 Update, section 3.1.3).
use Rattle.std.specs.Prelude.{map}
use Rattle.std.specs.Option.{option_map}
use Rattle.sparql_drafts.specs.declared.draft.QuadPattern as read
use Rattle.sparql_drafts.specs.declared.draft.Quads.{Quads}
use Rattle.sparql_queries.specs.Groups.{triple_pattern, var_or_iri}
use Rattle.sparql_trees.specs.declared.template.QuadPattern.{QuadPattern}
use Rattle.sparql_trees.specs.declared.template.Template.{Template}

abbrev pub quad_pattern : read.QuadPattern → QuadPattern
quad_pattern p = record { graph = option_map var_or_iri p.graph; triple = triple_pattern p }

abbrev pub template : Quads → Template
template q = record { quads = map quad_pattern q.patterns; blanks = q.blanks }
