use Rattle.std.proofs.Common.{◌∙◌, ap, sym}
use Rattle.rdf_terms.specs.Skips.{skip}
use Rattle.rdf_terms.proofs.SkipLemmas.{skip_step, skip_stop, skip_end}
use Rattle.rdf_terms.proofs.cursor.Cursor.skip.Goals as goal

pub returns-then-not-passes : goal.returns-then-not-passes
returns-then-not-passes g c = λ class test.
    let next = sym c.loop-c.invariant.here ∙ c.in-Some.ensures in
    let stays = skip_stop class c.in-Some.c c.bump.new.self (sym (test c.in-Some.c c.passes.result c.passes.ensures) ∙ c.if-not-passes.true) in
    next ∙ sym stays ∙ ap (skip class) (sym next) ∙ c.loop-c.invariant.over class test

pub loop-c-preserved : goal.loop-c-preserved
loop-c-preserved g c = record {
  here = sym c.fork-rest-in-Some.ensures;
  over = λ class test.
      let next = sym c.loop-c.invariant.here ∙ c.in-Some.ensures in
      let goes = skip_step class c.in-Some.c c.bump.new.self (sym (test c.in-Some.c c.passes.result c.passes.ensures) ∙ c.if-not-passes.false) in
      ap (skip class) c.fork-rest-in-Some.ensures ∙ sym (ap (skip class) next ∙ goes) ∙ c.loop-c.invariant.over class test;
}

pub returns : goal.returns
returns g c = λ class test.
    let over = sym c.loop-c.invariant.here ∙ c.in_default.ensures.0 in
    over ∙ sym (ap (skip class) over ∙ skip_end class) ∙ c.loop-c.invariant.over class test
