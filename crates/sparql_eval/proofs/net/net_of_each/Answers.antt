use Rattle.std.proofs.Common.{◌++◌, ◌∙◌, subst, IfErr, IfOk}
use Rattle.std.proofs.lemmas.List.{take-append-drop}
use Rattle.sparql_eval.specs.Nets.{IsNetOf}
use Rattle.sparql_eval.specs.Operations.{Tells, steps}
use Rattle.sparql_eval.proofs.net.net_of_each.Goals as goal

pub returns-clause-made : goal.returns-clause-made
returns-clause-made g c =
    subst (λ l. IfOk c.net_in_parts.result (IsNetOf (g.S.Source.contents c.args.under.now) l))
    ((λ i. c.split_at.ensures.front i ++ c.split_at.ensures.back i) ∙ take-append-drop c.unread_from.result c.args.operations.now) c.net_in_parts.ensures.made

pub returns-clause-refused : goal.returns-clause-refused
returns-clause-refused g c =
    subst (λ l. IfErr c.net_in_parts.result (Tells (steps (g.S.Source.contents c.args.under.now) l)))
    ((λ i. c.split_at.ensures.front i ++ c.split_at.ensures.back i) ∙ take-append-drop c.unread_from.result c.args.operations.now) c.net_in_parts.ensures.refused
