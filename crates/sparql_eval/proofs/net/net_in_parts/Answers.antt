use Rattle.std.proofs.Common.{sym, subst, length, ◌++◌, IfErr, IfOk}
use Rattle.std.proofs.lemmas.List.{nil_from_length}
use borrow.Author.Tests.{eqb-true}
use Rattle.sparql_eval.specs.Nets.{IsNetOf}
use Rattle.sparql_eval.specs.Operations.{Tells, steps}
use Rattle.sparql_eval.proofs.UnreadLemmas.{view_joined}
use Rattle.sparql_eval.proofs.net.net_in_parts.Goals as goal

pub returns-then-is_empty-clause-made : goal.returns-then-is_empty-clause-made
returns-then-is_empty-clause-made g c =
    let s = g.S.Source.contents c.args.under.now in
    let nil = nil_from_length c.args.read.now (eqb-true (length c.args.read.now) 0 (sym c.if-is_empty.ensures)) in
    subst (λ l. IfOk c.net_of_last.result (IsNetOf s (l ++ c.args.last.now))) (sym nil) c.net_of_last.ensures.made

pub returns-then-is_empty-clause-refused : goal.returns-then-is_empty-clause-refused
returns-then-is_empty-clause-refused g c =
    let s = g.S.Source.contents c.args.under.now in
    let nil = nil_from_length c.args.read.now (eqb-true (length c.args.read.now) 0 (sym c.if-is_empty.ensures)) in
    subst (λ l. IfErr c.net_of_last.result (Tells (steps s (l ++ c.args.last.now)))) (sym nil) c.net_of_last.ensures.refused

pub returns-in_ok-joined-in-Ok-clause-made : goal.returns-in_ok-joined-in-Ok-clause-made
returns-in_ok-joined-in-Ok-clause-made g c =
    view_joined (g.S.Source.contents c.args.under.now) c.over-staged.result c.net_behind-after.new.staged c.args.read.now c.args.last.now
    c.in_ok-before-in-Ok.field-0 c.in-Ok.after c.in_ok-joined-in-Ok.field-0 c.over-staged.ensures c.in-Ok.ensures.leads c.in-Ok.ensures.beneath
    c.into_net-before.ensures.sound c.in_ok-before-in-Ok.ensures.net c.in-Ok.ensures.none c.in-Ok.ensures.made c.in_ok-joined-in-Ok.ensures.alone
    c.in_ok-joined-in-Ok.ensures.both
