use Rattle.std.proofs.Common.{cond, Some, None, sym, ap, ◌∙◌}
use Rattle.sparql_solve.proofs.FitLemmas.{held_last}
use Rattle.sparql_solve.proofs.MatchingLemmas.{last_matched, last_unmatched}
use Rattle.sparql_solve.proofs.OnceLemmas.{split_off, held_others}
use Rattle.sparql_solve.proofs.grown.append_last.Goals as goal

pub append_grown-requires-clause-held : goal.append_grown-requires-clause-held
append_grown-requires-clause-held c =
    held_others c.args.places.now c.args.row c.args.quads.now.items c.pop.new.self.items c.in-Some.last
    (split_off c.args.quads.now.items c.pop.new.self.items c.in-Some.last c.in-Some.ensures.items) c.requires

pub grows-requires-clause-held : goal.grows-requires-clause-held
grows-requires-clause-held c =
    held_last c.args.places.now c.args.row c.args.quads.now.items c.pop.new.self.items c.in-Some.last
    (split_off c.args.quads.now.items c.pop.new.self.items c.in-Some.last c.in-Some.ensures.items) c.requires

pub returns-in_ok-push : goal.returns-in_ok-push
returns-in_ok-push c =
    last_matched c.args.places.now c.args.row c.args.quads.now.items c.pop.new.self.items c.in-Some.last
    (split_off c.args.quads.now.items c.pop.new.self.items c.in-Some.last c.in-Some.ensures.items) c.args.out.now.items
    c.append_grown.new.out.items c.in_ok-append_grown.ensures c.grows.new.row c.push.new.self.items
    (sym (c.in_ok-grows.ensures ∙ ap (λ b. cond b (Some c.grows.new.row) None) c.if-branch.true)) c.in_ok-push.ensures.items

pub returns-else-branch : goal.returns-else-branch
returns-else-branch c =
    last_unmatched c.args.places.now c.args.row c.args.quads.now.items c.pop.new.self.items c.in-Some.last
    (split_off c.args.quads.now.items c.pop.new.self.items c.in-Some.last c.in-Some.ensures.items) c.args.out.now.items
    c.append_grown.new.out.items c.in_ok-append_grown.ensures
    (sym (c.in_ok-grows.ensures ∙ ap (λ b. cond b (Some c.grows.new.row) None) c.if-branch.false))
