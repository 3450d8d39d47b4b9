use Rattle.std.proofs.Common.{rules}
use Rattle.rdf_turtle.specs.TokenFaults.{IsTokenFault}
use Rattle.rdf_turtle.proofs.TokenFaultLemmas.{no_list}
use Rattle.rdf_turtle.proofs.token_list.tokens.Goals as goal

pub returns-in-Err-clause-none : goal.returns-in-Err-clause-none
returns-in-Err-clause-none c =
    let held : IsTokenFault c.args.text.now c.turtle_fault.result = search rules in
    no_list c.args.text.now c.turtle_fault.result.kind c.turtle_fault.result.line held
