use Rattle.sparql_syntax.proofs.TellLemmas.{stop_told, tree_read}
use Rattle.sparql_syntax.proofs.reader.tree_of.Goals as goal

pub returns-in-Ok : goal.returns-in-Ok
returns-in-Ok g c = tree_read g.T.SyntaxTree.derives g.T.SyntaxTree.meaning c.args.text.now c.over-parser.result c.in-Ok.tree c.requires c.over-parser.ensures.read c.in-Ok.ensures.found

pub returns-in-Err : goal.returns-in-Err
returns-in-Err g c =
    stop_told g.T.SyntaxTree.derives g.T.SyntaxTree.meaning c.args.text.now c.over-parser.result c.in-Err.fault c.left.result c.stop_fault.result
    c.requires c.over-parser.ensures.read c.in-Err.ensures.fault c.stop_fault.ensures
