use Rattle.sparql_syntax.proofs.QueryTrees.{parse_explained, parse_useful}
use Rattle.sparql_syntax.proofs.query.TreeSyntaxTree.parse.Goals as goal

pub returns-clause-useful : goal.returns-clause-useful
returns-clause-useful c = parse_useful c.args.parser.now c.parse_query.result c.parse_query.ensures.found

pub returns-clause-fault : goal.returns-clause-fault
returns-clause-fault c = parse_explained c.args.parser.now c.parse_query.result c.parse_query.ensures.fault
