use Rattle.std.proofs.Common.{rules, of_calls, ◌∙◌}
use Rattle.rdf_tokens.specs.Inside.TokenReading.{name_part_at}
use Rattle.rdf_tokens.proofs.TokenRuns.{with_word, name_shortens, name_units}
use Rattle.rdf_tokens.proofs.dotted.name_units.Goals as goal

pub dotted-requires : goal.dotted-requires
dotted-requires c κs = (search rules, (search of_calls, (with_word name_part_at, record { answered = λ cs answer h. search rules; shorter = name_shortens })))

pub returns : goal.returns
returns c = c.dotted.ensures (with_word name_part_at) (record { answered = λ cs answer h. search rules; shorter = name_shortens }) ∙ name_units c.args.cursor.now
