use Rattle.sparql_grammar.proofs.group.put_block.Goals as goal

pub returns-clause-puts : goal.returns-clause-puts
returns-clause-puts c = (_, c.in_ok-block.ensures.reads, c.in_ok-put_some.ensures)
