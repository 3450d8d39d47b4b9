use Rattle.rdf_keeper.proofs.OrderLemmas.{in_order}
use Rattle.rdf_keeper.proofs.law.files_are_opened_in_order.Goals as goal

pub returns : goal.returns
returns g c = in_order g.F.Folder.step
