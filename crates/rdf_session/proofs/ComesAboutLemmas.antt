-- What the promise speaks of comes about.
use Rattle.std.proofs.Common.{◌≡◌, ◌+◌, ◌-◌, cond, [], refl, sym, ap, arith}
use Rattle.rdf_dataset.specs.State.{State}
use Rattle.rdf_session.proofs.ForgettingLemmas.{accepted_above, accepted_is, one_within}
use Rattle.rdf_session.proofs.HeadlineLemmas.{made_by}
use Rattle.rdf_session.proofs.MarkLemmas.{place_marked}
use Rattle.rdf_session.specs.ComesAbout.{MayBeAccepted, EachCommandRuns, each_command}
use Rattle.rdf_session.specs.Request.{Load, Makes, loaded}
use Rattle.rdf_session.specs.Session.{Session, accepted, at_place, counts_between, forgetting, fresh, grown, now, with_depth, with_mark}
use Rattle.rdf_session.specs.Standing.{Run}
use Rattle.rdf_session.specs.declared.format.Format.TheVariants.{NQuads}

pub may_be_accepted : MayBeAccepted
may_be_accepted s request operations t placed depth theirs leads =
    let mid : Session = accepted t s in
    let back : Session = at_place (mid.states.cursor - 1) mid in
    let new : Session = at_place (back.states.cursor + 1) back in
    let above = accepted_above t s placed depth in
    let last = (accepted_is t s placed).cursor in (
      mid,
      back,
      new,
      counts_between (now s) t,
      counts_between (now mid) (now back),
      counts_between (now back) (now new),
      (t, made_by s.base_iri request operations (now s) t theirs leads, refl, refl),
      (above, refl, refl),
      (omega (arith, above, last), refl, refl),
    )

pub each_command_runs : EachCommandRuns
each_command_runs depth base start is_depth room =
    let begun : Session = with_depth depth (fresh base start) in
    let empty : State = loaded start [] in
    let first : Session = grown empty begun in
    let named : Session = with_mark [] first in
    let undone : Session = at_place (named.states.cursor - 1) named in
    let redone : Session = at_place (undone.states.cursor + 1) undone in
    let there : Session = at_place 1 redone in
    let last : Session = with_depth depth (fresh base (now there)) in
    let step : Makes base (Load NQuads []) start empty = ([], ([], (refl, refl), refl), omega (arith, room), refl) in
    let all_kept : first ≡ accepted empty begun = sym (ap (λ b. cond b (forgetting first) first) (one_within depth is_depth)) in
    let run : Run begun (each_command (counts_between start empty) (counts_between (now named) (now undone)) (counts_between (now undone) (now redone)) (counts_between (now redone) (now there))) last =
    (first, (empty, step, all_kept, refl), (named, refl, (undone, (omega arith, refl, refl), (redone, (omega arith, refl, refl), (there, (1, place_marked [] first.states.marks 1, omega arith, refl, refl), (last, refl, refl)))))) in
    (last, counts_between start empty, counts_between (now named) (now undone), counts_between (now undone) (now redone), counts_between (now redone) (now there), run)
