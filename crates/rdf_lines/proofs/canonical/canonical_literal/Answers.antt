use Rattle.rdf_lines.proofs.SuffixSlices.{literal_leads, literal_reads}
use Rattle.rdf_lines.proofs.canonical.canonical_literal.Goals as goal

pub text_up_to-requires : goal.text_up_to-requires
text_up_to-requires c =
    let string = c.in_ok-string.ensures in
    literal_leads c.args.at.now string.0 c.in_ok-string.string c.in_ok-rest.rest string.1 c.in_ok-rest.ensures

pub returns : goal.returns
returns c =
    let string = c.in_ok-string.ensures in
    literal_reads c.args.at.now string.0 c.in_ok-string.string c.text_up_to.result.now c.in_ok-rest.rest string.1 c.in_ok-rest.ensures c.text_up_to.ensures
