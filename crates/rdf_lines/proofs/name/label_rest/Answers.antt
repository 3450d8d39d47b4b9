use Rattle.std.proofs.Common.{rules, of_calls}
use Rattle.rdf_lines.proofs.BlankLabelLemmas.{part_at, part_shortens}
use Rattle.rdf_lines.proofs.name.label_rest.Goals as goal

pub dotted-requires : goal.dotted-requires
dotted-requires c κs = (search rules, (search of_calls, (part_at, record { answered = λ cs answer h. search rules; shorter = part_shortens })))

pub returns : goal.returns
returns c = c.dotted.ensures part_at (record { answered = λ cs answer h. search rules; shorter = part_shortens })
