use Rattle.std.proofs.Common.{rules, ◌≤◌}
use Rattle.std.specs.List.{count_by}
use Rattle.sparql_terminals.specs.Openers.{is_opener}
use Rattle.sparql_syntax.proofs.AtOnceLemmas.{readable}
use Rattle.sparql_syntax.proofs.TellLemmas.{tree_read}
use Rattle.sparql_syntax.proofs.reader.tree_at_once.Goals as goal

pub returns-in-Ok : goal.returns-in-Ok
returns-in-Ok g c =
    let text = c.args.text.now in
    let ls = c.over-parser.result in
    let few : count_by is_opener text ≤ 100 = search rules in
    tree_read g.T.SyntaxTree.derives g.T.SyntaxTree.meaning text ls c.in-Ok.tree (readable text ls c.utf8.text few c.over-parser.ensures.read c.in-Ok.ensures.useful)
    c.over-parser.ensures.read c.in-Ok.ensures.found
