use Rattle.std.proofs.Common.{sym, ap, ◌∙◌}
use Rattle.rdf_tokens.specs.Inside.TokenReading.{token_at}
use Rattle.rdf_tokens.proofs.TokenStops.{alone_is_read}
use Rattle.rdf_tokens.proofs.tokenizer.token.Goals as goal

pub returns-then-stands_alone-clause-token : goal.returns-then-stands_alone-clause-token
returns-then-stands_alone-clause-token c =
    sym (ap token_at (sym c.fork-behind.ensures ∙ c.in_ok-c.ensures) ∙ alone_is_read c.in_ok-c.c c.bump.new.self (sym c.stands_alone.ensures ∙ c.if-stands_alone.true))
