use Rattle.std.proofs.Common.{◌∙◌}
use Rattle.rdf_terms.proofs.DottedLemmas.{unit_read, unit_less, no_unit_read}
use Rattle.rdf_terms.proofs.cursor.Cursor.dotted.Goals as goal

pub loop-behind-smaller : goal.loop-behind-smaller
loop-behind-smaller g c =
    let reads = c.requires.reads in
    unit_less _ reads.0 reads.1 c.loop-behind.rest c.skip_dots.result c.skip_dots.ensures c.in-Some.behind c.in-Some.ensures

pub loop-behind-preserved : goal.loop-behind-preserved
loop-behind-preserved g c = λ one reads.
    unit_read _ one reads c.loop-behind.rest c.skip_dots.result c.skip_dots.ensures c.in-Some.behind c.in-Some.ensures ∙ c.loop-behind.invariant one reads

pub returns : goal.returns
returns g c = λ one reads. no_unit_read _ one reads c.loop-behind.rest c.skip_dots.result c.skip_dots.ensures c.in_default.ensures ∙ c.loop-behind.invariant one reads
