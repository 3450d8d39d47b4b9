use Rattle.std.proofs.Common.{arith, sym, ◌∙◌, ap, ◌∷◌, [], ◌++◌, length}
use Rattle.std.proofs.lemmas.Result.{err_from_is_err_and}
use Rattle.sparql_grammar.specs.Reading.{node, triples_template}
use Rattle.rdf_grammar.proofs.CallerLemmas.{grown_starts, grown_on, going_done, going_fails, fails_on, fails_first, fails_then}
use Rattle.sparql_grammar.proofs.Turns.{another_some, another_reads, another_fails, template_reads}
use Rattle.sparql_grammar.proofs.grammar.triples_template.Goals as goal

pub loop-parser-init : goal.loop-parser-init
loop-parser-init c = record { grown = grown_starts _ _ _ _; shorter = omega arith }

pub loop-parser-preserved : goal.loop-parser-preserved
loop-parser-preserved c =
    let seen = sym c.loop-parser-test.ensures in
    let less = another_some c.loop-parser.parser seen in
    let passed = ap length c.pass.ensures in
    let read = another_reads (node c.args.depth) _ _ _ _ seen c.pass.ensures c.in_ok-same_subject-2.ensures.reads in
    record {
      grown = grown_on _ _ _ c.loop-parser.invariant.grown seen read (omega (arith, c.in_ok-same_subject-2.ensures.shorter, less, passed)) c.in_ok-push-2.ensures.ok;
      shorter = omega (arith, c.in_ok-same_subject-2.ensures.shorter, less, passed);
    }

pub returns-in_err-same_subject-2-clause-reads : goal.returns-in_err-same_subject-2-clause-reads
unfolding triples_template
returns-in_err-same_subject-2-clause-reads c =
    let seen = sym c.loop-parser-test.ensures in
    let less = another_some c.loop-parser.parser seen in
    let p = err_from_is_err_and c.from_residual-in_err-same_subject-2.result c.from_residual-in_err-same_subject-2.ensures.1 in
    rw (p.1, p.2) (fails_then _ _ _ _ _ c.in_ok-same_subject.ensures.reads (fails_first _ _ _ (fails_on _ c.in_err-same_subject-2.ensures.reads
    (λ none. going_fails c.loop-parser.invariant.grown.going (omega (arith, less)) seen (another_fails (node c.args.depth) _ _ seen c.pass.ensures none)))))

pub returns-clause-reads : goal.returns-clause-reads
returns-clause-reads c =
    let g = c.loop-parser.invariant.grown in
    let rest = going_done g.going (sym c.loop-parser-test.ensures) in
    let all = g.all_is ∙ ap (λ front. front ++ g.found) c.in_ok-push.ensures.ok ∙ ap (λ front. (front ++ c.in_ok-same_subject.field-0 ∷ []) ++ g.found) c.new-all.ensures in
    template_reads (node c.args.depth) _ c.eat.new.self c.loop-parser.all c.eat.result c.in_ok-same_subject.ensures.reads rest c.eat.ensures.found c.eat.ensures.left all
