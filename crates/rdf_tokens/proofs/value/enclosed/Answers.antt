use Rattle.std.proofs.Common.{Some, None}
use Rattle.std.proofs.lemmas.Str.Pattern.{strip_prefix_char, strip_suffix_char}
use Rattle.rdf_tokens.proofs.ValuePlaces.{no_enclosed_front, enclosed_from}
use Rattle.rdf_tokens.proofs.value.enclosed.Goals as goal

pub returns-in_err-strip_prefix : goal.returns-in_err-strip_prefix
returns-in_err-strip_prefix c =
    rw c.from_residual.ensures
    (no_enclosed_front c.args.first c.args.last c.args.text.now c.requires.first c.utf8.text (strip_prefix_char c.args.first c.args.text.now None c.in_err-strip_prefix.ensures.cases c.requires.first))

pub returns : goal.returns
returns c =
    enclosed_from c.args.first c.args.last c.args.text.now c.in_ok-strip_prefix.field-0.now c.strip_suffix.result c.requires.first c.requires.last c.utf8.text
    (strip_prefix_char c.args.first c.args.text.now (Some c.in_ok-strip_prefix.field-0) c.in_ok-strip_prefix.ensures.cases c.requires.first)
    (strip_suffix_char c.args.last c.in_ok-strip_prefix.field-0.now c.strip_suffix.result c.strip_suffix.ensures.cases c.requires.last)
