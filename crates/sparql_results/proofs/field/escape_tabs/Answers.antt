use Rattle.std.proofs.Common.{rules, ◌≡◌, ◌==◌, ◌-◌, ◌∙◌, ◌++◌, ap, sym, subst, ℕ, List, false, drop, take, length, take-append-drop}
use Rattle.std.specs.List.{list_any}
use Rattle.std.proofs.lemmas.List.{take_rest}
use Rattle.sparql_results.proofs.TabLemmas.{no_tabs}
use Rattle.sparql_results.proofs.field.escape_tabs.Goals as goal

pub returns-then-not-has_tab-clause-ok : goal.returns-then-not-has_tab-clause-ok
returns-then-not-has_tab-clause-ok c =
    let items = c.args.out.now.items in
    let found : list_any (λ (b : ℕ). b == 9) (take (length items - c.args.from) (drop c.args.from items)) ≡ false = search rules in
    let none = subst (λ (t : List ℕ). list_any (λ (b : ℕ). b == 9) t ≡ false) (take_rest items c.args.from) found in
    sym (ap (λ (t : List ℕ). take c.args.from items ++ t) (no_tabs (drop c.args.from items) none) ∙ take-append-drop c.args.from items)
