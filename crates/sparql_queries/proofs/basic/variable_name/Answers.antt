use Rattle.std.proofs.Common.{◌≡◌, ℕ, List, subst, IfOk}
use Rattle.sparql_queries.proofs.NameLemmas.{name_is}
use Rattle.sparql_queries.proofs.basic.variable_name.Goals as goal

pub returns : goal.returns
returns c =
    subst (λ (b : List ℕ). IfOk c.new.result (λ name. name ≡ b))
    (name_is (λ s. s.rest.now) c.chars-characters.result c.next-mark.new.self c.next-mark.result c.as_str.result.now c.args.variable.now c.as_str-2.result.now c.as_str.utf8 c.as_str.ensures c.chars-characters.ensures.rest c.next-mark.ensures.steps.0 c.as_str-2.utf8 c.as_str-2.ensures)
    c.new.ensures
