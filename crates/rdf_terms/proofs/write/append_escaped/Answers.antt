use Rattle.std.proofs.Common.{rules, ◌≡◌, ◌++◌, ◌+◌, ◌<◌, length, take, get_or, sym}
use Rattle.std.proofs.lemmas.List.{take_rest}
use Rattle.rdf_terms.specs.TermText.{escaped}
use Rattle.rdf_terms.proofs.EscapedLemmas.{goes_on_written, ends_written}
use Rattle.rdf_terms.proofs.write.append_escaped.Goals as goal

pub loop-place-preserved : goal.loop-place-preserved
loop-place-preserved c =
    let run : c.extend_from_slice.new.self.items ≡ c.loop-place.out.items ++ take c.in-Some.place c.loop-place.rest.now = search rules in
    let byte : c.append_byte.new.out.items ≡ c.extend_from_slice.new.self.items ++ escaped (get_or c.loop-place.rest.now c.in-Some.place 0) = search rules in
    let below : c.in-Some.place < length c.loop-place.rest.now = search rules in
    rw (take_rest c.loop-place.rest.now (c.in-Some.place + 1))
    (goes_on_written c.args.out.now.items c.args.text.now c.loop-place.out.items c.loop-place.rest.now c.extend_from_slice.new.self.items c.append_byte.new.out.items c.in-Some.place c.loop-place.invariant (sym c.in-Some.ensures.first) below run byte)

pub returns-clause-ok : goal.returns-clause-ok
returns-clause-ok c =
    ends_written c.args.out.now.items c.args.text.now c.loop-place.out.items c.loop-place.rest.now c.extend_from_slice-2.new.self.items c.loop-place.invariant (sym c.in_default.ensures.first) c.in_ok-extend_from_slice-2.ensures.items
