use Rattle.rdf_lines.proofs.StateLineLemmas.{no_first, first_is}
use Rattle.rdf_lines.proofs.state_text.lines.first_line.Goals as goal

pub returns-in-Some : goal.returns-in-Some
returns-in-Some c =
    first_is c.args.text.now _ c.split_at.result.1.now _ c.in-Some.end c.in-Some.ensures c.split_at.ensures.front c.split_at.ensures.back c.split_at-in-Some.ensures.back

pub returns-in-None : goal.returns-in-None
returns-in-None c = no_first c.args.text.now c.in-None.ensures
