use Rattle.std.proofs.Common.{refl, sym, ◌∙◌}
use Rattle.rdf_keeper.proofs.ProgramLemmas.{first_cut, second_cut}
use Rattle.rdf_keeper.proofs.program.check.write_line.Goals as goal

pub returns-then-is_err : goal.returns-then-is_err
returns-then-is_err g c = (refl, first_cut _ _ _ _ _ c.write_whole.result c.as_bytes.ensures.value (sym c.is_err.ensures.value ∙ c.if-is_err.true) c.write_whole.ensures)

pub returns-in-Err : goal.returns-in-Err
returns-in-Err g c =
    (refl, second_cut _ _ _ _ _ _ c.write_whole.result c.as_bytes.ensures.value (sym c.is_err.ensures.value ∙ c.if-is_err.false) c.write_whole.ensures c.in-Err.ensures)
