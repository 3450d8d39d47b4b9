use Rattle.std.proofs.Common.{arith, sym}
use Rattle.rdf_grammar.proofs.CallerLemmas.{grown_starts, grown_on, one_reads}
use Rattle.sparql_terminals.specs.declared.terminal.Terminal.TheVariants as terminal
use Rattle.sparql_terminals.specs.Lexemes.{value}
use Rattle.sparql_grammar.proofs.query.variables.Goals as goal

pub loop-all-init : goal.loop-all-init
loop-all-init c = record { grown = grown_starts _ _ _ _; shorter = omega arith }

pub loop-all-preserved : goal.loop-all-preserved
loop-all-preserved c = record {
  grown = grown_on _ _ _ c.loop-all.invariant.grown (sym c.loop-all-test.ensures) (one_reads (value terminal.Variable) _ _ _ c.in_ok-value-2.ensures.reads) c.in_ok-value-2.ensures.shorter c.in_ok-push-2.ensures.ok;
  shorter = omega (arith, c.in_ok-value-2.ensures.shorter);
}
