use Rattle.std.proofs.Common.{arith, sym, ◌∙◌, ap}
use Rattle.rdf_grammar.proofs.CallerLemmas.{grown_starts, grown_on, one_reads}
use Rattle.sparql_grammar.specs.PrologueReading.{begins_declaration, declaration}
use Rattle.sparql_grammar.proofs.prologue.prologue.Goals as goal

pub loop-all-init : goal.loop-all-init
loop-all-init c = rw c.new-all.ensures record { grown = grown_starts _ _ _ _; shorter = omega arith }

pub loop-all-preserved : goal.loop-all-preserved
loop-all-preserved c = record {
  grown = grown_on _ _ _ c.loop-all.invariant.grown (ap begins_declaration (sym c.peek.ensures) ∙ sym c.loop-all-test.ensures) (one_reads declaration _ _ _ c.in_ok-declaration.ensures.reads) c.in_ok-declaration.ensures.shorter c.in_ok-push.ensures.ok;
  shorter = omega (arith, c.in_ok-declaration.ensures.shorter);
}
