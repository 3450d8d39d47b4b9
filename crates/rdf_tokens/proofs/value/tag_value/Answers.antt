use Rattle.std.proofs.Common.{Some, None, ap, ◌∙◌, arith}
use Rattle.std.proofs.lemmas.Str.Pattern.{strip_prefix_char}
use Rattle.rdf_tokens.specs.Values.{tag_value}
use Rattle.rdf_tokens.proofs.ValuePlaces.{tag_is, no_tag}
use Rattle.rdf_tokens.proofs.value.tag_value.Goals as goal

pub returns-in-Some : goal.returns-in-Some
returns-in-Some c =
    tag_is c.as_str.result.now c.in-Some.tag.now c.as_str.utf8 (strip_prefix_char 64 c.as_str.result.now (Some c.in-Some.tag) c.in-Some.ensures.cases (omega arith)) ∙ ap tag_value c.as_str.ensures

pub returns-in-None : goal.returns-in-None
returns-in-None c =
    no_tag c.as_str.result.now c.as_str.utf8 (strip_prefix_char 64 c.as_str.result.now None c.in-None.ensures.cases (omega arith)) ∙ ap tag_value c.as_str.ensures
