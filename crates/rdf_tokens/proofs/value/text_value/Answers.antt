use Rattle.std.proofs.Common.{ap, sym, ◌∙◌}
use Rattle.std.specs.Str.{chars}
use Rattle.rdf_tokens.specs.Values.{text_body}
use Rattle.rdf_tokens.proofs.ValueEscapes.{text_value_by, no_text}
use Rattle.rdf_tokens.proofs.value.text_value.Goals as goal

pub returns-in-Some : goal.returns-in-Some
returns-in-Some c =
    rw (text_value_by c.args.slice.now (chars c.in-Some.body.now) (ap text_body (sym c.as_str.ensures) ∙ c.in-Some.ensures)) c.unescaped.ensures

pub returns-in-None : goal.returns-in-None
returns-in-None c = rw (no_text c.args.slice.now (ap text_body (sym c.as_str.ensures) ∙ c.in-None.ensures)) c.unescaped-in-None.ensures
