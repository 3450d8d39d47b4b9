use Rattle.std.proofs.Common.{sym, ◌∙◌}
use Rattle.rdf_lines.proofs.SuffixSlices.{type_suffix}
use Rattle.rdf_lines.proofs.canonical.datatype_end.Goals as goal

pub returns-else-is_string_type : goal.returns-else-is_string_type
returns-else-is_string_type c =
    type_suffix c.args.one.now c.in_ok-both.both c.in_ok-text.text.now c.in_ok-text.rest (sym c.in_ok-both.ensures) c.in_ok-text.ensures (sym c.is_string_type.ensures ∙ c.if-is_string_type.false)
