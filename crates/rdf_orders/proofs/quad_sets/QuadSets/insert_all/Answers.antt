use Rattle.rdf_orders.proofs.ContentsLemmas.{all_taken_back}
use Rattle.rdf_orders.proofs.quad_sets.QuadSets.insert_all.Goals as goal

pub returns-in-Err-clause-err : goal.returns-in-Err-clause-err
returns-in-Err-clause-err c = all_taken_back _ _ _ _ _ c.requires.new_quads c.requires.new_names c.in-Err.ensures.err c.remove_all.ensures
