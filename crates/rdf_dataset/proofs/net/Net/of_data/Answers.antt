use Rattle.std.proofs.Common.{◌≡◌, ◌+◌, ◌≤◌, ◌∙◌, ap, arith, map, subst}
use Rattle.std.specs.FinSet as set
use Rattle.rdf_sets.specs.Delta.{IsDelta}
use Rattle.rdf_dataset.specs.Insertion.{quad_from}
use Rattle.rdf_dataset.specs.Loading.{names_with, quads_with}
use Rattle.rdf_dataset.specs.State.{last_number}
use Rattle.rdf_dataset.proofs.LoadingLemmas.{Sound, net_with_data, sound_with_data}
use Rattle.rdf_dataset.proofs.net.Net.of_data.Goals as goal

pub returns : goal.returns
returns g c =
    let s = g.D.Source.contents c.args.under.now in
    let qs = c.args.quads.items in
    let first = c.next_blank-first.ensures.value in
    let limit : s.next + c.args.blanks ≤ last_number = omega (arith, first) in
    let moved : c.in_ok-quads.quads.items ≡ map (quad_from s.next) qs = c.in_ok-quads.ensures ∙ ap (λ n. map (quad_from n) qs) first in
    let looked : c.deref.result.now ≡ map (quad_from s.next) qs = c.deref.ensures.value ∙ moved in (
      limit,
      (
        sound_with_data s qs c.args.blanks c.next_blank-first.ensures.sound limit c.requires.below (subst Sound looked c.in_ok-names.ensures.sound),
        net_with_data s qs c.args.blanks c.new_quads.result c.new.result c.in_ok-names.names.added c.in_ok-names.names.removed _ _
            (c.new_quads.ensures ∙ ap (λ l. set.difference (quads_with s.quads l) s.quads) moved) c.new.ensures
            (subst (λ l. IsDelta s.names (names_with s.names l) c.in_ok-names.names.added c.in_ok-names.names.removed) looked c.in_ok-names.ensures.names)
            first (ap (λ n. n + c.args.blanks) first),
      ),
    )
