use Rattle.std.proofs.Common.{rules, ◌≡◌, ◌+◌, ◌∙◌, sym, arith, true, false, Some, None, length}
use Rattle.rdf_grammar.specs.Terminals.{next_terminal}
use Rattle.sparql_terminals.specs.declared.terminal.Terminal.{Terminal}
use Rattle.sparql_syntax.specs.BrokenRules.{breaks, breaking_from, first_breaking}
use Rattle.sparql_syntax.proofs.RuleWalks.{breaking_starts, goes_on, none_left, nothing, one_shorter, stops_here}
use Rattle.sparql_syntax.proofs.broken_rule.first_breaking.Goals as goal

pub returns-then-breaks : goal.returns-then-breaks
returns-then-breaks c =
    let l = c.loop-terminal in
    let at : next_terminal l.left ≡ Some c.in-Some.terminal = cc (c.peek.ensures, c.in-Some.is) in
    let test : breaks c.args.rule l.clause l.subject c.in-Some.terminal c.peek_second.result ≡ true = sym c.if-breaks.ensures in
    let none : breaking_from c.args.rule l.clause l.subject l.left ≡ 0 = stops_here c.args.rule l.clause l.subject l.left c.in-Some.terminal c.peek_second.result at c.peek_second.ensures test in
    let number : first_breaking c.args.rule c.over-left.result ≡ l.number = l.invariant.found ∙ omega (arith, none) in
    breaking_starts c.args.text.now c.args.rule c.over-left.result l.number c.start_of.result c.over-left.ensures.read number c.start_of.ensures

pub loop-terminal-preserved : goal.loop-terminal-preserved
loop-terminal-preserved c =
    let l = c.loop-terminal in
    let at : next_terminal l.left ≡ Some c.in-Some.terminal = cc (c.peek.ensures, c.in-Some.is) in
    let test : breaks c.args.rule l.clause l.subject c.in-Some.terminal c.peek_second.result ≡ false = sym c.if-breaks.ensures in
    let step : breaking_from c.args.rule l.clause l.subject l.left ≡ breaking_from c.args.rule c.clause_behind-clause.result c.subject_behind-subject.result c.pass.new.self + 1 =
    rw (c.clause_behind-clause.ensures, c.subject_behind-subject.ensures, c.pass.ensures) (goes_on c.args.rule l.clause l.subject l.left c.in-Some.terminal c.peek_second.result at c.peek_second.ensures test) in
    let short : length l.left ≡ length c.pass.new.self + 1 = rw c.pass.ensures (one_shorter l.left c.in-Some.terminal at) in
    record { found = l.invariant.found ∙ omega (arith, step); room = omega (arith, l.invariant.room, short) }

pub returns : goal.returns
returns c =
    let l = c.loop-terminal in
    let some : (k : Terminal) → c.peek.result ≡ Some k → ⊥ = search rules in
    let end : next_terminal l.left ≡ None = sym c.peek.ensures ∙ nothing c.peek.result some in
    let none : breaking_from c.args.rule l.clause l.subject l.left ≡ 0 = none_left c.args.rule l.clause l.subject l.left end in
    let number : first_breaking c.args.rule c.over-left.result ≡ l.number = l.invariant.found ∙ omega (arith, none) in
    breaking_starts c.args.text.now c.args.rule c.over-left.result l.number c.start_of-2.result c.over-left.ensures.read number c.start_of-2.ensures
