use Rattle.std.proofs.Common.{rules}
use Rattle.std.specs.Str.{chars}
use Rattle.format_tests.proofs.TokenLemmas.{first_has}
use Rattle.format_tests.proofs.tokens.first_text.Goals as goal

pub token_text-requires-clause-form : goal.token_text-requires-clause-form
token_text-requires-clause-form c = first_has (chars c.args.text.now) c.args.list.now _ c.requires (search rules)

pub token_text-requires-in-Text-clause-form : goal.token_text-requires-in-Text-clause-form
token_text-requires-in-Text-clause-form c = first_has (chars c.args.text.now) c.args.list.now _ c.requires (search rules)

pub token_text-requires-in-Pname-clause-form : goal.token_text-requires-in-Pname-clause-form
token_text-requires-in-Pname-clause-form c = first_has (chars c.args.text.now) c.args.list.now _ c.requires (search rules)
