use Rattle.std.proofs.Common.{◌∙◌, ap, sym}
use Rattle.std.proofs.lemmas.Str.{encodes-chars}
use Rattle.std.specs.Str.{encode_utf8_all}
use Rattle.sparql_terminals.specs.Terminals.{terminal_by}
use Rattle.sparql_syntax.proofs.survey.terminal_of.Goals as goal

pub returns : goal.returns
returns c = c.of.ensures ∙ ap (terminal_by c.args.kind) (sym (encodes-chars c.as_str.result.now c.as_str.utf8) ∙ ap encode_utf8_all c.as_str.ensures)
