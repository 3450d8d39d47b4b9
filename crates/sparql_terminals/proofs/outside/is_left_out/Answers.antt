use Rattle.std.proofs.Common.{ap, sym, ◌∙◌}
use Rattle.std.proofs.lemmas.Str.{encodes-chars}
use Rattle.std.specs.Str.{encode_utf8_all}
use Rattle.rdf_tokens.specs.declared.token.Kind.{Kind}
use Rattle.sparql_terminals.specs.Profile.{is_left_out, is_outside}
use Rattle.sparql_terminals.proofs.outside.is_left_out.Goals as goal

pub returns-in-Word : goal.returns-in-Word
returns-in-Word c =
    c.is_outside_word.ensures ∙ ap is_outside (sym (encodes-chars c.as_str.result.now c.as_str.utf8) ∙ ap encode_utf8_all c.as_str.ensures)
    ∙ ap (λ (k : Kind). is_left_out k c.args.slice.now) (sym c.in-Word.is)
