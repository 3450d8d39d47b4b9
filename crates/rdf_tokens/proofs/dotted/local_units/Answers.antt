use Rattle.std.proofs.Common.{rules, of_calls, ◌∙◌}
use Rattle.rdf_tokens.specs.Inside.TokenReading.{local_part_at}
use Rattle.rdf_tokens.proofs.TokenRuns.{with_word, local_shortens, local_units}
use Rattle.rdf_tokens.proofs.dotted.local_units.Goals as goal

pub dotted-requires : goal.dotted-requires
dotted-requires c κs = (search rules, (search of_calls, (with_word local_part_at, record { answered = λ cs answer h. search rules; shorter = local_shortens })))

pub returns : goal.returns
returns c = c.dotted.ensures (with_word local_part_at) (record { answered = λ cs answer h. search rules; shorter = local_shortens }) ∙ local_units c.args.cursor.now
