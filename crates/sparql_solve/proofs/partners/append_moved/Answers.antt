use Rattle.std.proofs.Common.{cond, Some, None, sym, ap, ◌∙◌}
use Rattle.sparql_solve.proofs.FitLemmas.{held_last}
use Rattle.sparql_solve.proofs.MatchingLemmas.{last_matched, last_unmatched}
use Rattle.sparql_solve.proofs.OnceLemmas.{held_others}
use Rattle.sparql_solve.proofs.PartnerLemmas.{last_of, quads_of}
use Rattle.sparql_solve.proofs.partners.append_moved.Goals as goal

pub append_copies-requires : goal.append_copies-requires
append_copies-requires c =
    held_others c.args.places.now c.args.row (quads_of c.args.quads.now) (quads_of c.in-Some.others.now) c.in-Some.last.now.now
    (last_of c.args.quads.now c.in-Some.others.now c.in-Some.last.now c.in-Some.ensures.cases) c.requires

pub matches_row-requires : goal.matches_row-requires
matches_row-requires c =
    held_last c.args.places.now c.args.row (quads_of c.args.quads.now) (quads_of c.in-Some.others.now) c.in-Some.last.now.now
    (last_of c.args.quads.now c.in-Some.others.now c.in-Some.last.now c.in-Some.ensures.cases) c.requires

pub returns-in_ok-push : goal.returns-in_ok-push
returns-in_ok-push c =
    last_matched c.args.places.now c.args.row (quads_of c.args.quads.now) (quads_of c.in-Some.others.now) c.in-Some.last.now.now
    (last_of c.args.quads.now c.in-Some.others.now c.in-Some.last.now c.in-Some.ensures.cases) c.args.out.now.items
    c.append_copies.new.out.items c.in_ok-append_copies.ensures c.matches_row.new.row c.push.new.self.items
    (sym (c.in_ok-matches_row.ensures ∙ ap (λ b. cond b (Some c.matches_row.new.row) None) c.if-branch.true))
    c.in_ok-push.ensures.items

pub returns-else-branch : goal.returns-else-branch
returns-else-branch c =
    last_unmatched c.args.places.now c.args.row (quads_of c.args.quads.now) (quads_of c.in-Some.others.now) c.in-Some.last.now.now
    (last_of c.args.quads.now c.in-Some.others.now c.in-Some.last.now c.in-Some.ensures.cases) c.args.out.now.items
    c.append_copies.new.out.items c.in_ok-append_copies.ensures
    (sym (c.in_ok-matches_row.ensures ∙ ap (λ b. cond b (Some c.matches_row.new.row) None) c.if-branch.false))
