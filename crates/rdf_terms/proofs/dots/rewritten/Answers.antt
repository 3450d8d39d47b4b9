use Rattle.std.proofs.Common.{◌++◌, rules, arith}
use Rattle.std.proofs.Math.Seq.{take-length}
use Rattle.std.proofs.lemmas.List.{append-nil}
use Rattle.rdf_terms.specs.Rewriting.{written}
use Rattle.rdf_terms.proofs.DotLemmas.{done_next, smaller_next}
use Rattle.rdf_terms.proofs.FrontLemmas.{done_front}
use Rattle.rdf_terms.proofs.dots.rewritten.Goals as goal

pub loop-input-init : goal.loop-input-init
loop-input-init c = record { so_far = rw (c.new.ensures.items, append-nil, take-length) (done_front c.args.front.now c.args.path.now c.requires); kept = omega arith }

pub loop-input-smaller : goal.loop-input-smaller
loop-input-smaller c =
    smaller_next (c.args.front.now ++ c.args.path.now) c.loop-input.input.now (written c.args.front.now c.loop-input.output) c.in_ok-input.input.now (search rules) c.in_ok-input.ensures.input c.loop-input.invariant.so_far

pub loop-input-preserved : goal.loop-input-preserved
loop-input-preserved c = record {
  so_far = done_next (c.args.front.now ++ c.args.path.now) c.loop-input.input.now (written c.args.front.now c.loop-input.output) c.in_ok-input.input.now (written c.args.front.now c.step.new.output) (search rules) c.in_ok-input.ensures.input c.in_ok-input.ensures.output c.loop-input.invariant.so_far;
  kept = c.step.ensures.kept;
}
