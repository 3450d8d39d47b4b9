use Rattle.std.proofs.Common.{◌≡◌, ◌<◌, ◌≤◌, ◌++◌, ◌+◌, ◌-◌, refl, sym, ◌∙◌, map, take, drop, length, arith, ap}
use Rattle.std.proofs.lemmas.Bool.{eqb-true}
use Rattle.std.proofs.lemmas.List.{take_all, length-drop}
use Rattle.std.proofs.lemmas.Result.{IfOk-weaker}
use Rattle.std.specs.List.{list_all}
use Rattle.sparql_algebra.specs.Algebra.{element}
use Rattle.sparql_algebra.specs.Results.{is_some_solution}
use Rattle.sparql_solve.specs.Ask.{followed, has_columns}
use Rattle.sparql_solve.specs.Under.{is_wide}
use Rattle.sparql_solve.proofs.AskLemmas as ask
use Rattle.sparql_solve.proofs.AskQuadLemmas as quad
use Rattle.sparql_solve.proofs.AskLemmas.{grows_to}
use Rattle.sparql_solve.proofs.PatternOrderLemmas.{asked}
use Rattle.sparql_solve.proofs.chunks.+ask.Goals as goal

pub some_after-returns-in-One : goal.some_after-returns-in-One
some_after-returns-in-One g t c =
    let ms = c.args.behind.members.now in
    let i = c.loop-place.place in
    let lt : i < length ms = omega arith in
    IfOk-weaker c.some_looked_up.result _ _
    (λ answer h d l ea w. ask.looked_up_after c.args.group.now.evaluation.now.scope.variables.now (g.S.Source.contents c.args.group.now.evaluation.now.source.now) c.args.group.now.graph.now c.args.group.now.under.now
    c.args.group.now.filters.now ms i c.index-members-place.result (take (length ms - (i + 1)) (drop (i + 1) ms)) lt c.index-members-place.is
    (take_all (length ms - (i + 1)) (drop (i + 1) ms) (omega (arith, length-drop (i + 1) ms))) d l ea c.args.rows.items c.loop-place.rows.items
    (c.loop-place.invariant d l ea w) c.in_ok-look_up.look_up c.in-Some.look_up c.in-One.own c.deref.result.now answer c.in-Some.is c.in-One.is
    (sym c.is_joined.ensures ∙ c.if-is_joined.true) c.in_ok-look_up.ensures c.deref.ensures.value (h d l ea))
    c.some_looked_up.ensures

pub some_after-returns-then-branch : goal.some_after-returns-then-branch
some_after-returns-then-branch g t c d l ea w =
    let ms = c.args.behind.members.now in
    let i = c.loop-place.place in
    let lt : i < length ms = omega arith in
    ask.some_after c.args.group.now.evaluation.now.scope.variables.now (g.S.Source.contents c.args.group.now.evaluation.now.source.now) c.args.group.now.graph.now c.args.group.now.under.now c.args.group.now.filters.now ms i
    c.index-members-place.result (take (length ms - (i + 1)) (drop (i + 1) ms)) lt c.index-members-place.is
    (take_all (length ms - (i + 1)) (drop (i + 1) ms) (omega (arith, length-drop (i + 1) ms))) d l ea c.args.rows.items c.loop-place.rows.items
    (c.loop-place.invariant d l ea w) c.in_ok-rows.rows.items c.some_of_first.new.rows.items c.in_ok-some_of_first.field-0 c.in_ok-rows.ensures
    (c.in_ok-some_of_first.ensures.some d l ea) c.if-branch.true

pub some_after-loop-place-preserved : goal.some_after-loop-place-preserved
some_after-loop-place-preserved g t c d l ea w =
    let ms = c.args.behind.members.now in
    let i = c.loop-place.place in
    let lt : i < length ms = omega arith in
    ask.asks_rest c.args.group.now.evaluation.now.scope.variables.now (g.S.Source.contents c.args.group.now.evaluation.now.source.now) c.args.group.now.graph.now c.args.group.now.under.now c.args.group.now.filters.now ms i
    c.index-members-place.result (take (length ms - (i + 1)) (drop (i + 1) ms)) lt c.index-members-place.is
    (take_all (length ms - (i + 1)) (drop (i + 1) ms) (omega (arith, length-drop (i + 1) ms))) d l ea c.args.rows.items c.loop-place.rows.items
    (c.loop-place.invariant d l ea w) c.in_ok-rows.rows.items c.some_of_first.new.rows.items c.in_ok-some_of_first.field-0 c.in_ok-rows.ensures
    (c.in_ok-some_of_first.ensures.some d l ea) c.in_ok-some_of_first.ensures.wide c.if-branch.false

pub some_after-returns : goal.some_after-returns
some_after-returns g t c =
    IfOk-weaker c.some_satisfies.result _ _
    (λ answer e d l ea w. ask.none_after c.args.group.now.evaluation.now.scope.variables.now (g.S.Source.contents c.args.group.now.evaluation.now.source.now) c.args.group.now.graph.now c.args.group.now.under.now
    c.args.group.now.filters.now d c.args.behind.members.now c.loop-place.place c.args.rows.items c.loop-place.rows.items c.deref-2.result.now answer (omega arith)
    (c.loop-place.invariant d l ea w) c.deref-2.ensures.value e)
    c.some_satisfies.ensures

pub some_of_first-returns-then-branch-clause-some : goal.some_of_first-returns-then-branch-clause-some
some_of_first-returns-then-branch-clause-some g t c d l ea w =
    let vs = c.args.group.now.evaluation.now.scope.variables.now in
    let rows = c.loop-first.rows.items in
    let first = c.in-Some-2.first.items in
    let rest = c.first_rows.new.rows.items in
    let parted : rows ≡ first ++ rest = rw c.in-Some-2.is at c.in_ok-first.ensures.some in
    ask.some_first (followed vs d c.args.group.now.graph.now c.args.group.now.under.now (map element c.args.behind.members.now) c.args.group.now.filters.now)
    (ask.followed_parts vs d c.args.group.now.graph.now c.args.group.now.under.now (map element c.args.behind.members.now) c.args.group.now.filters.now) rows first rest c.in_ok-some_after.field-0 _ parted
    (c.loop-first.invariant.same d l ea w)
    (c.in_ok-some_after.ensures d l ea (ask.first_all (is_wide vs) rows first rest parted (c.loop-first.invariant.wide w))) c.if-branch.true

pub some_of_first-loop-first-preserved : goal.some_of_first-loop-first-preserved
some_of_first-loop-first-preserved g t c =
    let vs = c.args.group.now.evaluation.now.scope.variables.now in
    let rows = c.loop-first.rows.items in
    let first = c.in-Some-2.first.items in
    let rest = c.first_rows.new.rows.items in
    let parted : rows ≡ first ++ rest = rw c.in-Some-2.is at c.in_ok-first.ensures.some in
    record {
      wide = λ w. ask.rest_all (is_wide vs) rows first rest parted (c.loop-first.invariant.wide w);
      same = λ d l ea w.
          ask.some_rest (followed vs d c.args.group.now.graph.now c.args.group.now.under.now (map element c.args.behind.members.now) c.args.group.now.filters.now)
          (ask.followed_parts vs d c.args.group.now.graph.now c.args.group.now.under.now (map element c.args.behind.members.now) c.args.group.now.filters.now) rows first rest c.in_ok-some_after.field-0 _ parted
          (c.loop-first.invariant.same d l ea w)
          (c.in_ok-some_after.ensures d l ea (ask.first_all (is_wide vs) rows first rest parted (c.loop-first.invariant.wide w))) c.if-branch.false;
    }

pub some_looked_up-returns : goal.some_looked_up-returns
some_looked_up-returns g t c =
    IfOk-weaker c.some_matched.result _ _
    (λ answer h d l ea w. ask.looked_up_some c.args.group.now.evaluation.now.scope.variables.now (g.S.Source.contents c.args.group.now.evaluation.now.source.now) c.args.group.now.graph.now c.args.group.now.under.now c.args.own.now
    c.args.behind.members.now c.args.group.now.filters.now c.args.look_up.now c.args.rows.now c.in_ok-start.start.items c.as_slice.result.now
    c.in_ok-patterns.patterns.items answer d c.in_ok-start.ensures c.as_slice.ensures c.in_ok-patterns.ensures w (h d l ea))
    c.some_matched.ensures

pub some_matched-returns-then-branch : goal.some_matched-returns-then-branch
some_matched-returns-then-branch g t c d l ea w =
    ask.some_grown c.args.group.now.evaluation.now.scope.variables.now (g.S.Source.contents c.args.group.now.evaluation.now.source.now) c.args.group.now.graph.now c.args.group.now.under.now c.args.own.now c.args.behind.members.now
    c.args.group.now.filters.now (asked c.args.patterns.items) c.loop-rest.rest.items c.remove.new.self.items c.next_pattern-next.result c.in-Some.places
    (c.next_pattern-next.ensures (omega (arith, c.in-Some.ensures.len, c.loop-rest.rest.ok.0))) c.in-Some.ensures.value c.in-Some.ensures.items
    c.args.start.items c.loop-rest.rows.items c.in_ok-rows.rows.items c.in_ok-rows.ensures d l (c.loop-rest.invariant d l ea w)
    c.some_of_first_matched.new.rows.items c.in_ok-some_of_first_matched.field-0 (c.in_ok-some_of_first_matched.ensures.some d l ea) c.if-branch.true

pub some_matched-loop-rest-preserved : goal.some_matched-loop-rest-preserved
some_matched-loop-rest-preserved g t c d l ea w =
    ask.grows_rest c.args.group.now.evaluation.now.scope.variables.now (g.S.Source.contents c.args.group.now.evaluation.now.source.now) c.args.group.now.graph.now c.args.group.now.under.now c.args.own.now c.args.behind.members.now
    c.args.group.now.filters.now (asked c.args.patterns.items) c.loop-rest.rest.items c.remove.new.self.items c.next_pattern-next.result c.in-Some.places
    (c.next_pattern-next.ensures (omega (arith, c.in-Some.ensures.len, c.loop-rest.rest.ok.0))) c.in-Some.ensures.value c.in-Some.ensures.items
    c.args.start.items c.loop-rest.rows.items c.in_ok-rows.rows.items c.in_ok-rows.ensures d l (c.loop-rest.invariant d l ea w)
    c.some_of_first_matched.new.rows.items c.in_ok-some_of_first_matched.field-0 (c.in_ok-some_of_first_matched.ensures.some d l ea)
    c.in_ok-some_of_first_matched.ensures.wide c.if-branch.false

pub some_matched-returns : goal.some_matched-returns
some_matched-returns g t c =
    IfOk-weaker c.some_after.result _ _
    (λ answer h d l ea w. ask.grown_all c.args.group.now.evaluation.now.scope.variables.now (g.S.Source.contents c.args.group.now.evaluation.now.source.now) c.args.group.now.graph.now c.args.group.now.under.now c.args.own.now
    c.args.behind.members.now c.args.group.now.filters.now (asked c.args.patterns.items) c.loop-rest.rest.items c.args.start.items c.loop-rest.rows.items
    (map (take (length c.args.group.now.evaluation.now.scope.variables.now)) c.loop-rest.rows.items) c.in_ok-rows-2.rows.items (length c.args.group.now.evaluation.now.scope.variables.now) answer d
    (omega (arith, c.loop-rest.rest.ok.0, eqb-true c.loop-rest.rest.len 0 (sym c.is_empty.ensures ∙ c.loop-rest-test.false)))
    (c.loop-rest.invariant d l ea w) refl refl c.in_ok-rows-2.ensures (h d l ea))
    c.some_after.ensures

pub some_of_first_matched-returns-then-branch-clause-some : goal.some_of_first_matched-returns-then-branch-clause-some
some_of_first_matched-returns-then-branch-clause-some g t c d l ea w =
    let vs = c.args.group.now.evaluation.now.scope.variables.now in
    let rows = c.loop-first.rows.items in
    let first = c.in-Some-2.first.items in
    let rest = c.first_rows.new.rows.items in
    let parted : rows ≡ first ++ rest = rw c.in-Some-2.is at c.in_ok-first.ensures.some in
    ask.some_first (grows_to vs d c.args.group.now.graph.now c.args.group.now.under.now c.args.own.now c.args.behind.members.now c.args.group.now.filters.now (asked c.args.patterns.now.items))
    (ask.grown_parts vs d c.args.group.now.graph.now c.args.group.now.under.now c.args.own.now c.args.behind.members.now c.args.group.now.filters.now (asked c.args.patterns.now.items)) rows first rest c.in_ok-some_matched.field-0 _ parted
    (c.loop-first.invariant.same d l ea w)
    (ask.same_patterns c.in_ok-patterns.patterns.items c.args.patterns.now.items c.in_ok-some_matched.field-0
    (λ ps. is_some_solution (grows_to vs d c.args.group.now.graph.now c.args.group.now.under.now c.args.own.now c.args.behind.members.now c.args.group.now.filters.now ps first))
    c.in_ok-patterns.ensures (c.in_ok-some_matched.ensures d l ea (ask.first_all (has_columns vs) rows first rest parted (c.loop-first.invariant.wide w)))) c.if-branch.true

pub some_of_first_matched-loop-first-preserved : goal.some_of_first_matched-loop-first-preserved
some_of_first_matched-loop-first-preserved g t c =
    let vs = c.args.group.now.evaluation.now.scope.variables.now in
    let rows = c.loop-first.rows.items in
    let first = c.in-Some-2.first.items in
    let rest = c.first_rows.new.rows.items in
    let parted : rows ≡ first ++ rest = rw c.in-Some-2.is at c.in_ok-first.ensures.some in
    record {
      wide = λ w. ask.rest_all (has_columns vs) rows first rest parted (c.loop-first.invariant.wide w);
      same = λ d l ea w.
          ask.some_rest (grows_to vs d c.args.group.now.graph.now c.args.group.now.under.now c.args.own.now c.args.behind.members.now c.args.group.now.filters.now (asked c.args.patterns.now.items))
          (ask.grown_parts vs d c.args.group.now.graph.now c.args.group.now.under.now c.args.own.now c.args.behind.members.now c.args.group.now.filters.now (asked c.args.patterns.now.items)) rows first rest c.in_ok-some_matched.field-0 _ parted
          (c.loop-first.invariant.same d l ea w)
          (ask.same_patterns c.in_ok-patterns.patterns.items c.args.patterns.now.items c.in_ok-some_matched.field-0
          (λ ps. is_some_solution (grows_to vs d c.args.group.now.graph.now c.args.group.now.under.now c.args.own.now c.args.behind.members.now c.args.group.now.filters.now ps first))
          c.in_ok-patterns.ensures (c.in_ok-some_matched.ensures d l ea (ask.first_all (has_columns vs) rows first rest parted (c.loop-first.invariant.wide w)))) c.if-branch.false;
    }

pub some_matched-returns-in-Some-lone_row : goal.some_matched-returns-in-Some-lone_row
some_matched-returns-in-Some-lone_row g t c =
    IfOk-weaker c.some_of_lone.result _ _
    (λ answer h d l ea w. quad.lone_grown c.args.group.now.evaluation.now.scope.variables.now (g.S.Source.contents c.args.group.now.evaluation.now.source.now) c.args.group.now.graph.now c.args.group.now.under.now c.args.own.now
    c.args.behind.members.now c.args.group.now.filters.now (asked c.args.patterns.items) c.loop-rest.rest.items c.remove.new.self.items c.next_pattern-next.result
    c.in-Some.places (c.next_pattern-next.ensures (omega (arith, c.in-Some.ensures.len, c.loop-rest.rest.ok.0))) c.in-Some.ensures.value
    c.in-Some.ensures.items c.args.start.items c.loop-rest.rows.items c.in-Some-lone_row.row.now c.deref-in-loop-rest.result.now answer d
    c.deref-in-loop-rest.ensures.value c.in-Some-lone_row.ensures.lone (c.loop-rest.invariant d l ea w) (h d l ea))
    c.some_of_lone.ensures

pub some_of_lone-returns : goal.some_of_lone-returns
some_of_lone-returns g t c =
    IfOk-weaker c.some_of_quads-2.result _ _
    (λ answer h d l ea w. quad.lone_some c.args.group.now.evaluation.now.scope.variables.now (g.S.Source.contents c.args.group.now.evaluation.now.source.now) c.args.group.now.graph.now c.args.group.now.under.now c.args.own.now
    c.args.behind.members.now c.args.group.now.filters.now c.args.places.now c.args.row.now (asked c.args.patterns.now.items) c.in_ok-quads.quads.items
    c.deref-2.result.now answer d l c.in_ok-quads.ensures.listed c.deref-2.ensures.value (h d l ea w))
    c.some_of_quads-2.ensures

pub some_of_lone-returns-then-branch : goal.some_of_lone-returns-then-branch
some_of_lone-returns-then-branch g t c d l ea w =
    quad.few_some c.args.group.now.evaluation.now.scope.variables.now (g.S.Source.contents c.args.group.now.evaluation.now.source.now) c.args.group.now.graph.now c.args.group.now.under.now c.args.own.now c.args.behind.members.now
    c.args.group.now.filters.now c.args.places.now c.args.row.now (asked c.args.patterns.now.items) c.in_ok-few.few.are_all c.in_ok-few.few.quads.items
    c.deref.result.now c.in_ok-some_of_quads.field-0 d l c.in_ok-few.ensures.some c.deref.ensures.value
    (c.in_ok-some_of_quads.ensures d l ea w) c.if-branch.true

pub some_of_lone-returns-then-few : goal.some_of_lone-returns-then-few
some_of_lone-returns-then-few g t c d l ea w =
    quad.few_none c.args.group.now.evaluation.now.scope.variables.now (g.S.Source.contents c.args.group.now.evaluation.now.source.now) c.args.group.now.graph.now c.args.group.now.under.now c.args.own.now c.args.behind.members.now
    c.args.group.now.filters.now c.args.places.now c.args.row.now (asked c.args.patterns.now.items) c.in_ok-few.few.are_all c.in_ok-few.few.quads.items
    c.deref.result.now c.in_ok-some_of_quads.field-0 d l c.in_ok-few.ensures.some c.deref.ensures.value
    (c.in_ok-some_of_quads.ensures d l ea w) c.if-branch.false c.if-few.true

pub some_of_quads-copies_matched-requires : goal.some_of_quads-copies_matched-requires
some_of_quads-copies_matched-requires g t c =
    let quads = c.args.quads.now in
    let done = c.loop-done.done in
    quad.part_held c.args.places.now c.args.row.now quads (take (length quads - done) (drop done quads)) done c.first_len-len.result
    (take_all (length quads - done) (drop done quads) (omega (arith, length-drop done quads))) c.requires.held

pub some_of_quads-returns-then-branch : goal.some_of_quads-returns-then-branch
some_of_quads-returns-then-branch g t c d l ea w =
    let vs = c.args.group.now.evaluation.now.scope.variables.now in
    let p = c.args.places.now in
    let m = c.args.row.now in
    let quads = c.args.quads.now in
    let done = c.loop-done.done in
    let len = c.first_len-len.result in
    let rest = take (length quads - done) (drop done quads) in
    let first = c.in_ok-rows.rows.items in
    quad.first_quads
    (grows_to vs d c.args.group.now.graph.now c.args.group.now.under.now c.args.own.now c.args.behind.members.now c.args.group.now.filters.now (asked c.args.patterns.now.items))
    (ask.grown_parts vs d c.args.group.now.graph.now c.args.group.now.under.now c.args.own.now c.args.behind.members.now c.args.group.now.filters.now (asked c.args.patterns.now.items))
    p m quads rest done len _ (take_all (length quads - done) (drop done quads) (omega (arith, length-drop done quads)))
    (c.loop-done.invariant.same d l ea w) first c.in_ok-some_matched.field-0 c.in_ok-rows.ensures
    (ask.same_patterns c.in_ok-patterns.patterns.items c.args.patterns.now.items c.in_ok-some_matched.field-0
    (λ ps. is_some_solution (grows_to vs d c.args.group.now.graph.now c.args.group.now.under.now c.args.own.now c.args.behind.members.now c.args.group.now.filters.now ps first))
    c.in_ok-patterns.ensures
    (c.in_ok-some_matched.ensures d l ea (ap (list_all (has_columns vs)) c.in_ok-rows.ensures ∙ ask.matches_columns vs (take len rest) p m w)))
    c.if-branch.true

pub some_of_quads-loop-done-preserved : goal.some_of_quads-loop-done-preserved
some_of_quads-loop-done-preserved g t c =
    let vs = c.args.group.now.evaluation.now.scope.variables.now in
    let p = c.args.places.now in
    let m = c.args.row.now in
    let quads = c.args.quads.now in
    let done = c.loop-done.done in
    let len = c.first_len-len.result in
    let rest = take (length quads - done) (drop done quads) in
    let first = c.in_ok-rows.rows.items in
    let long : length (drop done quads) ≡ length quads - done = length-drop done quads in
    let whole : rest ≡ drop done quads = take_all (length quads - done) (drop done quads) (omega (arith, long)) in
    let same : length rest ≡ length (drop done quads) = ap length whole in
    let less : done < length quads = c.loop-done-test.true in
    let within : len ≤ length rest = c.first_len-len.ensures.within in
    record {
      within = omega (arith, same, long, less, within);
      same = λ d l ea w.
          quad.rest_quads
          (grows_to vs d c.args.group.now.graph.now c.args.group.now.under.now c.args.own.now c.args.behind.members.now c.args.group.now.filters.now (asked c.args.patterns.now.items))
          (ask.grown_parts vs d c.args.group.now.graph.now c.args.group.now.under.now c.args.own.now c.args.behind.members.now c.args.group.now.filters.now (asked c.args.patterns.now.items))
          p m quads rest done len _ whole (c.loop-done.invariant.same d l ea w) first c.in_ok-some_matched.field-0 c.in_ok-rows.ensures
          (ask.same_patterns c.in_ok-patterns.patterns.items c.args.patterns.now.items c.in_ok-some_matched.field-0
          (λ ps. is_some_solution (grows_to vs d c.args.group.now.graph.now c.args.group.now.under.now c.args.own.now c.args.behind.members.now c.args.group.now.filters.now ps first))
          c.in_ok-patterns.ensures
          (c.in_ok-some_matched.ensures d l ea (ap (list_all (has_columns vs)) c.in_ok-rows.ensures ∙ ask.matches_columns vs (take len rest) p m w)))
          c.if-branch.false;
    }

pub some_of_quads-returns : goal.some_of_quads-returns
some_of_quads-returns g t c d l ea w =
    quad.no_quads
    (grows_to c.args.group.now.evaluation.now.scope.variables.now d c.args.group.now.graph.now c.args.group.now.under.now c.args.own.now c.args.behind.members.now c.args.group.now.filters.now (asked c.args.patterns.now.items))
    (ask.grown_parts c.args.group.now.evaluation.now.scope.variables.now d c.args.group.now.graph.now c.args.group.now.under.now c.args.own.now c.args.behind.members.now c.args.group.now.filters.now
    (asked c.args.patterns.now.items))
    c.args.places.now c.args.row.now c.args.quads.now c.loop-done.done _ c.loop-done-test.false (c.loop-done.invariant.same d l ea w)
