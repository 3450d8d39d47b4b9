-- The table is held against the definition at each of the 128 places, by computing.
use Rattle.std.proofs.Common.{get_or, nat_eq, refl, sym, ◌∙◌}
use Rattle.std.proofs.lemmas.Bool.{agree_below_at, ltb-true, ltb-false}
use Rattle.rdf_tokens.specs.declared.character.TheConstants.{WORD_MAP}
use Rattle.rdf_tokens.specs.Characters.{is_word_part}
use Rattle.rdf_tokens.proofs.TokenRuns.{high_no_word}
use Rattle.rdf_tokens.proofs.character.is_word_part.Goals as goal

pub returns-then-not-is_ascii : goal.returns-then-not-is_ascii
returns-then-not-is_ascii c = sym (high_no_word c.args.c (ltb-false c.args.c 128 (sym c.is_ascii.ensures ∙ c.if-not-is_ascii.true)))

pub returns : goal.returns
returns c =
    agree_below_at (λ k. nat_eq (get_or WORD_MAP k 0) 119) is_word_part 128 c.args.c refl (ltb-true c.args.c 128 (sym c.is_ascii.ensures ∙ c.if-not-is_ascii.false))
