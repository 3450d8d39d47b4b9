use Rattle.std.proofs.Common.{rules, ◌≡◌, List, [], ◌∷◌, ◌++◌, refl, sym, ap, ◌∙◌, arith, length}
use Rattle.std.specs.Vec.Iter.{into_iter_items, into_iter_len}
use Rattle.rdf_terms.specs.Quad.{QuadParts}
use Rattle.sparql_values.specs.Mapping.{Mapping}
use Rattle.sparql_algebra.specs.Listing.{Listing}
use Rattle.sparql_solve.specs.Matching.{matches_of}
use Rattle.sparql_solve.proofs.FitLemmas.{listed_held}
use Rattle.sparql_solve.proofs.LookUpLemmas.{look_up_gives, looked_as, asked_before}
use Rattle.sparql_solve.proofs.MemberLemmas.{first_gives, next_gives, last_gives, none_left}
use Rattle.sparql_solve.proofs.matching.step.Goals.{then-asks_same+in_ok-append_matches, else-asks_same+in_ok-append_last+in_ok-quads_under-2}
use Rattle.sparql_solve.proofs.matching.step.Goals as goal

pub loop-next-init : goal.loop-next-init
loop-next-init g c =
    let rest = into_iter_items c.into_iter-next-iterator.result in
    let is : c.args.rows.items ≡ c.in-Some.row ∷ rest = search rules in
    let before : into_iter_len c.into_iter-rest.result ≡ length (into_iter_items c.into_iter-rest.result) = search rules in
    let count : into_iter_len c.next.new.self ≡ length (into_iter_items c.next.new.self) =
    omega (arith, before, ap length c.in-Some.ensures.cases.0, c.in-Some.ensures.cases.1) in
    let is_next : c.into_iter-next-iterator.result ≡ c.next.new.self = c.into_iter-next-iterator.ensures.into_iter_gives in
    record {
      gives = first_gives (g.S.Source.contents c.args.source.now) (λ d m. matches_of (d.quads c.args.graph.now) c.args.places.now m) c.args.rows.items
          c.in-Some.row rest c.new-out.result.items is c.new-out.ensures.items;
      looked = c.in_ok-quads_under.ensures;
      count = ap into_iter_len is_next ∙ count ∙ sym (ap (λ it. length (into_iter_items it)) is_next);
    }

pub append_matches-requires : goal.append_matches-requires
append_matches-requires g c =
    listed_held (g.S.Source.contents c.args.source.now) c.args.graph.now c.args.places.now c.loop-next.row c.loop-next.quads.items c.deref.result.now
    c.loop-next.invariant.looked c.deref.ensures.value

pub append_last-requires : goal.append_last-requires
append_last-requires g c =
    listed_held (g.S.Source.contents c.args.source.now) c.args.graph.now c.args.places.now c.loop-next.row c.loop-next.quads.items c.loop-next.quads.items
    c.loop-next.invariant.looked refl

pub loop-next-preserved : goal.loop-next-preserved
loop-next-preserved g c =
    let s = g.S.Source.contents c.args.source.now in
    let p = c.args.places.now in
    let row = c.loop-next.row in
    let next = c.in-Some-next.next in
    let quads = c.loop-next.quads.items in
    let found = matches_of quads p row in
    let made : c.if-asks_same.out.items ≡ c.loop-next.out.items ++ found = elim c.if-asks_same.branch [
      | then-asks_same+in_ok-append_matches w ↦
          (λ i. (w.out-is i).items) ∙ w.in_ok-append_matches.ensures
          ∙ ap (λ (qs : List QuadParts). c.loop-next.out.items ++ matches_of qs p row) w.deref.ensures.value
      | else-asks_same+in_ok-append_last+in_ok-quads_under-2 w ↦ (λ i. (w.out-is i).items) ∙ w.in_ok-append_last.ensures
    ] in
    record {
      gives = next_gives s (λ d m. matches_of (d.quads c.args.graph.now) p m) c.args.rows.items row (into_iter_items c.loop-next.next-iterator)
          (next ∷ into_iter_items c.next-in-loop-next.new.self) c.loop-next.out.items found c.if-asks_same.out.items c.loop-next.invariant.gives
          (look_up_gives s c.args.graph.now p row quads quads found c.loop-next.invariant.looked refl refl) made c.in-Some-next.ensures.steps.0;
      looked = elim c.if-asks_same.branch [
        | then-asks_same+in_ok-append_matches w ↦
            looked_as s c.args.graph.now p next quads c.if-asks_same.quads.items (λ i. (w.quads-is i).items)
            (asked_before s c.args.graph.now p row next quads (c.asks_same.ensures w.if-asks_same.true) c.loop-next.invariant.looked)
        | else-asks_same+in_ok-append_last+in_ok-quads_under-2 w ↦
            looked_as s c.args.graph.now p next w.quads_under-else-asks_same.new.quads.items c.if-asks_same.quads.items (λ i. (w.quads-is i).items)
            w.in_ok-quads_under-2.ensures
      ];
      count = omega (arith, ap length c.in-Some-next.ensures.steps.0, c.in-Some-next.ensures.steps.1, c.loop-next.invariant.count);
    }

pub append_last-requires-2 : goal.append_last-requires-2
append_last-requires-2 g c =
    listed_held (g.S.Source.contents c.args.source.now) c.args.graph.now c.args.places.now c.loop-next.row c.loop-next.quads.items c.loop-next.quads.items
    c.loop-next.invariant.looked refl

pub returns : goal.returns
returns g c =
    let s = g.S.Source.contents c.args.source.now in
    let p = c.args.places.now in
    let row = c.loop-next.row in
    let quads = c.loop-next.quads.items in
    let F : Listing → Mapping → List Mapping = λ d m. matches_of (d.quads c.args.graph.now) p m in
    let found = matches_of quads p row in
    let none : into_iter_items c.loop-next.next-iterator ≡ [] = none_left _ (sym c.loop-next.invariant.count ∙ c.in-None.ensures.steps.0) in
    last_gives s F c.args.rows.items c.append_last-2.new.out.items
    (next_gives s F c.args.rows.items row (into_iter_items c.loop-next.next-iterator) [] c.loop-next.out.items found c.append_last-2.new.out.items
    c.loop-next.invariant.gives (look_up_gives s c.args.graph.now p row quads quads found c.loop-next.invariant.looked refl refl)
    c.in_ok-append_last-2.ensures none)
