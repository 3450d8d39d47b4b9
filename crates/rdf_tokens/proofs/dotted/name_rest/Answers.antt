use Rattle.std.proofs.Common.{List, ℕ, ap, sym, ◌∙◌}
use Rattle.rdf_terms.specs.Dotted.{dotted_at}
use Rattle.rdf_tokens.specs.Inside.TokenReading.{name_part_at}
use Rattle.rdf_tokens.proofs.TokenRuns.{name_over_word}
use Rattle.rdf_tokens.proofs.TokenStops.{name_is_word}
use Rattle.rdf_tokens.proofs.dotted.name_rest.Goals as goal

pub returns-in-Some : goal.returns-in-Some
returns-in-Some c =
    name_is_word c.args.cursor.now c.skip_word-word_end.result c.in-Some.c c.in-Some.ensures.0 c.skip_word-word_end.ensures c.in-Some.ensures.1 (sym c.ends_name.ensures ∙ c.if-ends_name.true)

pub returns-in_default : goal.returns-in_default
returns-in_default c = c.name_units.ensures ∙ ap (λ (t : List ℕ). dotted_at name_part_at t) c.skip_word-word_end.ensures ∙ name_over_word c.args.cursor.now
