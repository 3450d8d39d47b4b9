use Rattle.sparql_values.proofs.columns.+sprouted.Given as goal

abbrev pub decreases-sprouted : goal.decreases-sprouted
decreases-sprouted l = l.columns
