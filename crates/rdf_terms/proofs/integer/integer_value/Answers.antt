use Rattle.std.proofs.Common.{arith}
use Rattle.rdf_terms.proofs.IntegerLemmas.{integer_parsed, short_integer_read}
use Rattle.rdf_terms.proofs.integer.integer_value.Goals as goal

pub returns-in-Some : goal.returns-in-Some
returns-in-Some c =
    short_integer_read c.args.literal.now c.datatype.result.now c.lexical-text.result.now c.as_bytes.result.now c.is_xsd_integer.result c.in-Some.number c.from.result
    c.from.ensures (omega arith) c.in-Some.ensures.form c.in-Some.ensures.value c.as_bytes.ensures.value c.lexical-text.ensures.value c.datatype.ensures.value
    c.is_xsd_integer.ensures c.if-not-is_xsd_integer.false

pub returns-in-None : goal.returns-in-None
returns-in-None c =
    integer_parsed c.args.literal.now c.datatype.result.now c.lexical-text.result.now c.is_xsd_integer.result c.parse.result c.ok.result c.ok.ensures.value
    c.parse.ensures.value.0 c.datatype.ensures.value c.lexical-text.ensures.value c.is_xsd_integer.ensures c.if-not-is_xsd_integer.false
