-- The names of a sum by those of its operands, and those of a group by its members and its FILTERs.
use Rattle.std.proofs.Common.{◌≡◌, ◌∙◌, ap, sym, ℕ, List, [], ◌∷◌, map, Bool, ◌&&◌, refl}
use Rattle.std.specs.List.{list_all}
use Rattle.std.proofs.lemmas.List.Folds.{list_all-map}
use Rattle.sparql_expressions.specs.declared.tree.Expression.{Expression}
use Rattle.sparql_expressions.specs.declared.tree.Expression.TheFolds.{fold-roll-Expression}
use Rattle.sparql_expressions.specs.declared.tree.Expression.TheOpen.{Expression-F}
use Rattle.sparql_expressions.specs.declared.tree.Expression.TheVariants as w
use Rattle.sparql_expressions.specs.ProperExpressions.{proper_expression, proper_expression_of}
use Rattle.sparql_queries.specs.Addends.{each_value, known_addend}
use Rattle.sparql_trees.specs.declared.expression.Sign.{Sign}
use Rattle.sparql_grammar.specs.Proper.{holds}
use Rattle.sparql_grammar.specs.declared.tree.Group.{Group}
use Rattle.sparql_grammar.specs.declared.tree.Member.TheFolds.{fold_out-Group}
use Rattle.sparql_queries.specs.Known.{known_expression, known_expression_of, known_group, known_group_of, known_member, known_member_of}

pub all_hold : {A : Type 0} (f : A → Bool) (xs : List A) → list_all holds (map f xs) ≡ list_all f xs
all_hold f xs = list_all-map holds f xs

pub known_group_is : (declared : List (List ℕ)) (g : Group) → known_group declared g ≡ (list_all holds (map (known_member declared) g.members) && list_all (known_expression declared) g.filters)
known_group_is declared g = fold_out-Group Bool Bool (known_member_of declared) (known_group_of declared) g

-- a group's names by those of its members and of its FILTERs
pub group_known : (declared : List (List ℕ)) (g : Group) → known_group declared g ≡ (list_all holds (map (known_member declared) g.members) && list_all holds (map (known_expression declared) g.filters))
group_known declared g =
    known_group_is declared g ∙ ap (λ x. list_all holds (map (known_member declared) g.members) && x) (sym (all_hold (known_expression declared) g.filters))

pub sum_known : (declared : List (List ℕ)) (first : Expression) (others : List (Sign × Expression)) → known_expression declared (w.Sum first others) ≡ (known_expression declared first && each_value (known_expression declared) others)
sum_known declared first others = ap (known_expression declared) (sym (w.rolls-Sum first others)) ∙ fold-roll-Expression Bool (known_expression_of declared) (Expression-F.Sum first others)

pub each_holds : (test : Expression → Bool) (parts : List (Sign × Expression)) → each_value test parts ≡ list_all holds (map (λ part. test part.1) parts)
each_holds test [] = refl
each_holds test (part ∷ parts) = ap (λ b. test part.1 && b) (each_holds test parts)

pub sum_tested : (declared : List (List ℕ)) (first : Expression) (others : List (Sign × Expression))
    → known_expression declared (w.Sum first others) ≡ (known_expression declared first && list_all holds (map (known_addend declared) others))
sum_tested declared first others = sum_known declared first others ∙ ap (λ b. known_expression declared first && b) (each_holds (known_expression declared) others)

pub sum_proper : (first : Expression) (others : List (Sign × Expression)) → proper_expression (w.Sum first others) ≡ (proper_expression first && each_value proper_expression others)
sum_proper first others = ap proper_expression (sym (w.rolls-Sum first others)) ∙ fold-roll-Expression Bool proper_expression_of (Expression-F.Sum first others)
