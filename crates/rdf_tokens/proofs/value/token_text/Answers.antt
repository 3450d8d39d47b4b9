use Rattle.std.proofs.Common.{◌∙◌}
use Rattle.std.specs.Str.{chars}
use Rattle.rdf_tokens.proofs.TokenTextLemmas.{token_says}
use Rattle.rdf_tokens.proofs.value.token_text.Goals as goal

pub returns : goal.returns
returns c =
    token_says (chars c.args.text.now) c.args.token.now c.slice_of-slice.result _ c.requires.form c.requires.kind c.slice_of-slice.ensures
    (c.in_ok-from_str.ensures.ok ∙ c.as_str.ensures.value ∙ c.in_ok-value.ensures)
