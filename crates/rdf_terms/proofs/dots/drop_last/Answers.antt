use Rattle.std.proofs.Common.{take}
use Rattle.rdf_terms.proofs.FrontLemmas.{drop_added, drop_kept}
use Rattle.rdf_terms.proofs.dots.drop_last.Goals as goal

pub returns-then-end-gt0-clause-value : goal.returns-then-end-gt0-clause-value
returns-then-end-gt0-clause-value c =
    let within = rw c.deref.ensures.value at c.slash_end-end.ensures.within in
    let up = rw c.deref.ensures.value at c.slash_end-end.ensures.front in
    rw c.truncate.ensures.items (drop_added (take c.args.output.now.kept c.args.front.now) c.args.output.now.added.items c.slash_end-end.result c.if-end-gt0.true within up)

pub returns-clause-value : goal.returns-clause-value
returns-clause-value c =
    let up = rw c.deref.ensures.value at c.slash_end-end.ensures.front in
    rw (c.clear.ensures.items, c.saturating_sub-output.ensures)
    (drop_kept c.args.front.now c.args.output.now.added.items c.args.output.now.kept c.slash_end-end.result c.slash_end.result c.requires c.if-end-gt0.false up c.slash_end.ensures.within c.slash_end.ensures.front)
