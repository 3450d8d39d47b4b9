use Rattle.std.proofs.Common.{refl, Some}
use Rattle.rdf_lines.specs.Labels.{quad_in}
use Rattle.rdf_lines.proofs.progress.Progress.copy_line.Goals as goal

pub returns-in-Ok : goal.returns-in-Ok
returns-in-Ok c format line s says are = (Some (quad_in c.write_slices.new.self s), (s, says, c.in-Ok.ensures.labels s are, refl, refl), c.in-Ok.ensures.text s are)
