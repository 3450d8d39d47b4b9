use Rattle.sparql_syntax.proofs.QueryTrees.{tree_proper}
use Rattle.sparql_syntax.proofs.query.TreeSyntaxTree.say.Goals as goal

pub query_of-query-requires : goal.query_of-query-requires
query_of-query-requires c = tree_proper c.requires.0 c.args.self c.requires.1
