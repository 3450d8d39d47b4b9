use Rattle.std.proofs.Common.{◌∙◌}
use Rattle.std.specs.Slice.Iter.{iter_rest}
use Rattle.std.specs.Iterator.Adapters.{zip_first, zip_second}
use Rattle.std.proofs.lemmas.Slice.Zip.{either_empty_from_Zip}
use Rattle.sparql_values.specs.Mapping.{merge, first_of}
use Rattle.sparql_solve.proofs.RowLemmas.{zip_done}
use Rattle.sparql_solve.proofs.mappings.Mapping.merged_plainly.Goals as goal

pub returns : goal.returns
returns c =
    c.plain.ensures ∙ zip_done first_of c.loop-x.values.items (merge c.args.own.now c.args.others.now) (iter_rest (zip_first c.loop-x.x-iterator))
    (iter_rest (zip_second c.loop-x.x-iterator)) c.loop-x.invariant
    (either_empty_from_Zip c.loop-x.x-iterator c.next.new.self c.next.result c.in-None.is c.next.ensures.steps)
