use Rattle.sparql_syntax.proofs.ModifyLemmas as lemma
use Rattle.sparql_syntax.proofs.laws.delete_where_is_its_group.Goals as goal

pub returns : goal.returns
returns c = lemma.delete_where_is_its_group
