use Rattle.std.proofs.Common.{◌++◌, ◌∙◌, false, subst, sym}
use Rattle.std.specs.Prelude.{Err}
use Rattle.rdf_streams.specs.declared.conversion.fault.ConvertFault.{ConvertFault}
use Rattle.rdf_keeper.specs.Inside.Once.{Tells, WritesCheck}
use Rattle.rdf_keeper.proofs.program.check.tell_fault.Goals as goal

pub returns-in-Document-clause-written : goal.returns-in-Document-clause-written
returns-in-Document-clause-written g c =
    let before = g.W.Write.contents c.args.writer.now in
    let after = g.W.Write.contents c.tell.new.writer in
    subst (λ (f : ConvertFault). WritesCheck c.args.name.now before (Err f) c.tell.result after) (sym c.in-Document.is)
    (subst (λ t. Tells before (c.args.name.now ++ t) false c.tell.result after) (c.as_slice.ensures.value ∙ c.faulty_line.ensures) c.tell.ensures.written)
