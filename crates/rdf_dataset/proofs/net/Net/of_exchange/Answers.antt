use Rattle.std.proofs.Common.{◌+◌, ap, subst, ◌∙◌}
use Rattle.std.specs.FinSet as set
use Rattle.rdf_sets.specs.Delta.{IsDelta}
use Rattle.rdf_dataset.specs.Loading.{names_with}
use Rattle.rdf_dataset.specs.State.{Quads}
use Rattle.rdf_dataset.proofs.ExchangeLemmas.{left_with, net_exchanged, sound_exchanged}
use Rattle.rdf_dataset.proofs.LoadingLemmas.{Sound}
use Rattle.rdf_dataset.proofs.net.Net.of_exchange.Goals as goal

pub returns-clause-net : goal.returns-clause-net
returns-clause-net g c =
    let s = g.D.Source.contents c.args.under.now in
    let first = c.next_blank-first.ensures.value in
    net_exchanged s c.args.gone.items c.args.blanks c.args.come.items c.into_vec.result.items c.new_quads.result c.lost_quads-removed.result c.in_ok-names.names.added c.in_ok-names.names.removed _ _
    (c.into_vec.ensures.lists.all ∙ c.from_list-come.ensures)
    c.new_quads.ensures
    (c.lost_quads-removed.ensures ∙ ap (λ (come : Quads). set.difference s.quads (left_with s.quads c.args.gone.items come)) c.from_list-come.ensures)
    (subst (λ l. IsDelta s.names (names_with s.names l) c.in_ok-names.names.added c.in_ok-names.names.removed) c.deref.ensures.value c.in_ok-names.ensures.names)
    first (ap (λ n. n + c.args.blanks) first)

pub returns-clause-sound : goal.returns-clause-sound
returns-clause-sound g c =
    let s = g.D.Source.contents c.args.under.now in
    sound_exchanged s c.args.gone.items c.args.blanks c.args.come.items c.next_blank-first.ensures.sound c.requires.room c.requires.below (subst Sound c.deref.ensures.value c.in_ok-names.ensures.sound)
