use Rattle.std.proofs.Common.{◌≡◌, ◌∙◌, ◌++◌, ◌∷◌, [], arith, rules, ap, sym, subst, length, append_assoc, append-nil, List}
use Rattle.std.specs.Vec.Iter.{into_iter_items, into_iter_len}
use Rattle.rdf_dataset.proofs.CallerLemmas.{none_left}
use Rattle.rdf_terms.specs.Quad.{QuadParts}
use Rattle.rdf_session.specs.Inside.Starting.{Starts}
use Rattle.rdf_session.proofs.start.started.Goals as goal

pub loop-quad-init : goal.loop-quad-init
loop-quad-init c =
    let all : into_iter_items c.into_iter-quad-iterator.result ≡ c.args.quads.items = search rules in
    let count : into_iter_len c.into_iter-quad-iterator.result ≡ length (into_iter_items c.into_iter-quad-iterator.result) = search rules in
    record {
      steps = tt;
      ends = tt;
      parts = sym all ∙ ap (λ (l : List QuadParts). l ++ into_iter_items c.into_iter-quad-iterator.result) (sym c.new-start.ensures);
      count = count;
    }

pub loop-quad-preserved : goal.loop-quad-preserved
loop-quad-preserved c =
    let next = c.in-Some.ensures.steps in
    record {
      steps = tt;
      ends = tt;
      parts =
          c.loop-quad.invariant.parts ∙ ap (λ (l : List QuadParts). c.loop-quad.start ++ l) next.0
          ∙ sym (append_assoc c.loop-quad.start (c.in-Some.quad ∷ []) (into_iter_items c.next.new.self)) ∙ ap (λ (l : List QuadParts). l ++ into_iter_items c.next.new.self) (sym c.in_ok-push.ensures);
      count = omega (arith, ap length next.0, next.1, c.loop-quad.invariant.count);
    }

pub returns : goal.returns
returns c =
    let i = c.loop-quad.invariant in
    subst (λ (quads : List QuadParts). Starts quads c.into_dataset.result)
    (sym (i.parts ∙ ap (λ (l : List QuadParts). c.loop-quad.start ++ l) (none_left _ _ i.count c.in-None.ensures.steps.0) ∙ append-nil c.loop-quad.start))
    c.into_dataset.ensures
