use Rattle.std.proofs.Common.{le_refl, arith, sym, ◌∙◌, ap, subst, false, [], ◌++◌, ◌≡◌, Option, Some, None, Ok, Err}
use Rattle.rdf_lines.specs.declared.state.ReaderState.TheVariants.{Reading}
use Rattle.rdf_terms.specs.declared.quad.Quad.{Quad}
use Rattle.rdf_lines.specs.Reader.{BetweenCalls, over, OneLine, FallsAtOk}
use Rattle.rdf_lines.proofs.ReaderLemmas.{passes_none, still_passes, ends_passing, passes_on, reads_on, call_is}
use Rattle.rdf_lines.proofs.reader.LineReader.next.Goals as goal

was_reading : {a b : BetweenCalls} → a ≡ b → a.state ≡ Reading → b.state ≡ Reading
was_reading e h = sym (ap (λ (s : BetweenCalls). s.state) e) ∙ h

pub loop-self-init : goal.loop-self-init
loop-self-init g c = ([], false, passes_none (over (g.R.Read.remaining c.args.stream.now) c.args.self.now) (was_reading c.self.view_is c.in-Reading.is), le_refl _)

pub loop-self-preserved : goal.loop-self-preserved
loop-self-preserved g c =
    let inv = c.loop-self.invariant in
    let first = over (g.R.Read.remaining c.args.stream.now) c.args.self.now in
    let now = over (g.R.Read.remaining c.loop-self.stream) c.loop-self.self in
    let next = over (g.R.Read.remaining c.one_line.new.stream) c.one_line.new.self in
    let took = subst (λ (a : Option Quad). OneLine now (Ok a) next) c.in-Ok-None.field-0-is c.in-Ok-None.ensures.line in
    let before = still_passes first now inv.0 inv.1 c.loop-self-test.ensures inv.2 in
    (inv.0 ++ took.0, took.1, passes_on first now next inv.0 took.0 took.1 before took.2, (let f = subst (λ (a : Option Quad). FallsAtOk c.loop-self.self (Ok a) c.one_line.new.self) c.in-Ok-None.field-0-is c.in-Ok-None.ensures.falls in omega (arith, inv.3, f)))

pub returns-in-Ok-Some-clause-call : goal.returns-in-Ok-Some-clause-call
returns-in-Ok-Some-clause-call g c =
    let inv = c.loop-self.invariant in
    let first = over (g.R.Read.remaining c.args.stream.now) c.args.self.now in
    let now = over (g.R.Read.remaining c.loop-self.stream) c.loop-self.self in
    let next = over (g.R.Read.remaining c.one_line.new.stream) c.one_line.new.self in
    let took = subst (λ (a : Option Quad). OneLine now (Ok a) next) c.in-Ok-Some.field-0-is c.in-Ok-Some.ensures.line in
    let before = still_passes first now inv.0 inv.1 c.loop-self-test.ensures inv.2 in
    call_is Reading first next (Ok (Some c.in-Ok-Some.quad)) (was_reading c.self.view_is c.in-Reading.is) (reads_on first now next inv.0 (Ok (Some c.in-Ok-Some.quad)) before took)

pub returns-in-Ok-Some-clause-falls : goal.returns-in-Ok-Some-clause-falls
returns-in-Ok-Some-clause-falls g c =
    let inv = c.loop-self.invariant in
    let f = subst (λ (a : Option Quad). FallsAtOk c.loop-self.self (Ok a) c.one_line.new.self) c.in-Ok-Some.field-0-is c.in-Ok-Some.ensures.falls in
    omega (arith, inv.3, f)

pub returns-in-Err-clause-call : goal.returns-in-Err-clause-call
returns-in-Err-clause-call g c =
    let inv = c.loop-self.invariant in
    let first = over (g.R.Read.remaining c.args.stream.now) c.args.self.now in
    let now = over (g.R.Read.remaining c.loop-self.stream) c.loop-self.self in
    let next = over (g.R.Read.remaining c.one_line.new.stream) c.one_line.new.self in
    let before = still_passes first now inv.0 inv.1 c.loop-self-test.ensures inv.2 in
    call_is Reading first next (Err c.in-Err.fault) (was_reading c.self.view_is c.in-Reading.is) (reads_on first now next inv.0 (Err c.in-Err.fault) before c.in-Err.ensures.line)

pub returns-clause-call : goal.returns-clause-call
returns-clause-call g c =
    let inv = c.loop-self.invariant in
    let first = over (g.R.Read.remaining c.args.stream.now) c.args.self.now in
    let now = over (g.R.Read.remaining c.loop-self.stream) c.loop-self.self in
    call_is Reading first now (Ok None) (was_reading c.self.view_is c.in-Reading.is) (inv.0, ends_passing first now inv.0 inv.1 c.loop-self-test.ensures inv.2)
