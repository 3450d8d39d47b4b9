use Rattle.std.proofs.Common.{◌≡◌, List, Bool, true, false, cond, ◌&&◌, [], ◌∷◌, map, codes, refl, ap, sym, ◌∙◌}
use Rattle.std.specs.List.{flat_map}
use Rattle.rdf_terms.specs.declared.quad.GraphName.TheVariants.{Default}
use Rattle.sparql_trees.specs.declared.expression.Expression.{Expression}
use Rattle.sparql_trees.specs.declared.pattern.BasicGraphPattern.{BasicGraphPattern}
use Rattle.sparql_trees.specs.declared.pattern.Member.TheVariants as m
use Rattle.sparql_trees.specs.declared.pattern.Member.TheFolds.{fold-roll-Member, fold-roll-Pattern}
use Rattle.sparql_trees.specs.declared.pattern.Member.TheOpen.{Member-F}
use Rattle.sparql_trees.specs.declared.pattern.VarOrTerm.TheVariants as p
use Rattle.sparql_trees.specs.Visible.{Names, joined, member_names, named, names_of_member, names_of_pattern, names_where, triple_names, visible, with_names}
use Rattle.sparql_values.specs.Mapping.{Mapping, value_of}
use Rattle.sparql_algebra.specs.Algebra.{Algebra, Element, join, union, left_join, minus, empty_pattern, filtered, group_of, translation}
use Rattle.sparql_algebra.specs.Examples.{alone, triple, p_without_q, s_and_t, first, second, group, group_where, in_group, below_three, people, mailboxes, with_name, with_mailbox, optional_mailbox, no_mailbox, is_bob, other_mailbox, ps_and_qs, numbers, with_p, with_q, same_numbers}
use Rattle.sparql_algebra.specs.Results.{projected}
use Rattle.sparql_algebra.specs.Solutions.{left_joins, minuses, satisfies, solutions}
use Rattle.sparql_algebra.proofs.ExampleLemmas.{asks_no_mailbox, no_mailbox-is, asks_bob, is_bob-is, asks_other_mailbox, other_mailbox-is, asks_same_numbers, same_numbers-is}
use Rattle.sparql_algebra.proofs.FilterLemmas.{filter-cong}
use Rattle.sparql_algebra.proofs.TranslationLemmas.{element-Basic, element-Union, element-Optional, element-Minus, translation-is}
use Rattle.sparql_algebra.proofs.examples.the_standards_examples_hold.Goals as goal

alone_under : (F : List Expression) (b : BasicGraphPattern) → translation (record { members = m.Basic b ∷ []; filters = F }) ≡ filtered F (in_group b)
alone_under F b = translation-is (record { members = m.Basic b ∷ []; filters = F }) ∙ ap (λ (x : Element). filtered F (group_of (x ∷ []))) (element-Basic b)

-- the second pattern is optional to the first, each under FILTERs of its own
optional_under : (F G : List Expression) →
    translation (record { members = m.Basic first ∷ m.Optional (record { members = m.Basic second ∷ []; filters = G }) ∷ []; filters = F })
    ≡ filtered F (left_join G (in_group first) (in_group second))
optional_under F G =
    translation-is (record { members = m.Basic first ∷ m.Optional (record { members = m.Basic second ∷ []; filters = G }) ∷ []; filters = F })
    ∙ (λ i. filtered F (group_of (element-Basic first i ∷ element-Optional (record { members = m.Basic second ∷ []; filters = G }) i ∷ [])))
    ∙ ap (λ (x : Element). filtered F (left_join G (in_group first) (group_of (x ∷ [])))) (element-Basic second)

-- the same with MINUS
taken_pair : (b e : BasicGraphPattern) → translation (group (m.Basic b ∷ m.Minus (group (m.Basic e ∷ [])) ∷ [])) ≡ minus (in_group b) (in_group e)
taken_pair b e =
    translation-is (group (m.Basic b ∷ m.Minus (group (m.Basic e ∷ [])) ∷ []))
    ∙ (λ i. group_of (element-Basic b i ∷ element-Minus (group (m.Basic e ∷ [])) i ∷ []))
    ∙ ap (λ (A : Algebra). minus (in_group b) A) (alone_under [] e)

abbrev with_p_of : BasicGraphPattern
with_p_of = alone (triple (p.Variable (codes "s")) (codes ":p") (p.Variable (codes "o"))) 0

abbrev with_q_of : BasicGraphPattern
with_q_of = alone (triple (p.Variable (codes "s")) (codes ":q") (p.Variable (codes "x"))) 0

taken_from : (F G : List Expression) →
    translation (record { members = m.Basic first ∷ m.Minus (record { members = m.Basic second ∷ []; filters = G }) ∷ []; filters = F })
    ≡ filtered F (minus (in_group first) (filtered G (in_group second)))
taken_from F G =
    translation-is (record { members = m.Basic first ∷ m.Minus (record { members = m.Basic second ∷ []; filters = G }) ∷ []; filters = F })
    ∙ (λ i. filtered F (group_of (element-Basic first i ∷ element-Minus (record { members = m.Basic second ∷ []; filters = G }) i ∷ [])))
    ∙ ap (λ (A : Algebra). filtered F (minus (in_group first) A)) (alone_under G second)

pub returns-clause-translation : goal.returns-clause-translation
returns-clause-translation c = record {
  one = alone_under [] first;
  united =
      translation-is (group (m.Union (group (m.Basic first ∷ []) ∷ group (m.Basic second ∷ []) ∷ []) ∷ []))
      ∙ ap (λ (x : Element). group_of (x ∷ [])) (element-Union (group (m.Basic first ∷ []) ∷ group (m.Basic second ∷ []) ∷ []))
      ∙ (λ i. join empty_pattern (union (alone_under [] first i) (alone_under [] second i)));
  optional = optional_under [] [];
  filtered = alone_under (below_three ∷ []) first;
  at_the_end = optional_under (below_three ∷ []) [];
  condition = optional_under [] (below_three ∷ []);
  inside =
      translation-is (group (m.Basic first ∷ m.Optional (group (m.Union (group_where below_three (m.Basic second ∷ []) ∷ []) ∷ [])) ∷ []))
      ∙ (λ i. group_of (element-Basic first i ∷ element-Optional (group (m.Union (group_where below_three (m.Basic second ∷ []) ∷ []) ∷ [])) i ∷ []))
      ∙ ap (λ (x : Element). left_join [] (in_group first) (group_of (x ∷ []))) (element-Union (group_where below_three (m.Basic second ∷ []) ∷ []))
      ∙ ap (λ (A : Algebra). left_join [] (in_group first) (join empty_pattern A)) (alone_under (below_three ∷ []) second);
  taken = taken_from [] [];
  taken_at_the_end = taken_from (below_three ∷ []) [];
  taken_inside = taken_from [] (below_three ∷ []);
}

pub returns-clause-optional : goal.returns-clause-optional
returns-clause-optional c = record { three = refl; alice = refl; bob = refl }

abbrev found : List Mapping
found = solutions mailboxes people Default optional_mailbox

pub returns-clause-filters : goal.returns-clause-filters
returns-clause-filters c = record {
  unbound =
      filter-cong (satisfies mailboxes (no_mailbox ∷ [])) (λ m. asks_no_mailbox (value_of mailboxes m) && true) (λ m. no_mailbox-is (value_of mailboxes m)) found;
  error =
      filter-cong (satisfies mailboxes (other_mailbox ∷ [])) (λ m. asks_other_mailbox (value_of mailboxes m) && true)
      (λ m. other_mailbox-is (value_of mailboxes m)) found;
  condition = λ i.
      left_joins (solutions mailboxes people Default with_name) (solutions mailboxes people Default with_mailbox) (λ m. is_bob-is (value_of mailboxes m) i);
  behind = filter-cong (satisfies mailboxes (is_bob ∷ [])) (λ m. asks_bob (value_of mailboxes m) && true) (λ m. is_bob-is (value_of mailboxes m)) found;
}

names_are : (too : Bool) → names_where too p_without_q ≡ codes "s" ∷ codes "o" ∷ cond too (codes "s" ∷ codes "x" ∷ []) []
names_are too =
    fold-roll-Pattern Names Names (names_of_member too) names_of_pattern (record { members = p_without_q.members; filters = [] })
    ∙ (λ i. joined (basic_names with_p_of i ∷ minus_names i ∷ []))
    ∙ by_case too
  where
    basic_names : (b : BasicGraphPattern) → member_names too (m.Basic b) ≡ flat_map triple_names b.triples
    basic_names b = ap (member_names too) (sym (m.rolls-Basic b)) ∙ fold-roll-Member Names Names (names_of_member too) names_of_pattern (Member-F.Basic b)

    minus_names : member_names too (m.Minus (group (m.Basic with_q_of ∷ []))) ≡ cond too (codes "s" ∷ codes "x" ∷ []) []
    minus_names =
        ap (member_names too) (sym (m.rolls-Minus (group (m.Basic with_q_of ∷ []))))
        ∙ fold-roll-Member Names Names (names_of_member too) names_of_pattern (Member-F.Minus (group (m.Basic with_q_of ∷ [])))
        ∙ ap (λ (ns : Names). cond too ns [])
        (fold-roll-Pattern Names Names (names_of_member too) names_of_pattern (record { members = m.Basic with_q_of ∷ []; filters = [] })
        ∙ (λ i. joined (basic_names with_q_of i ∷ [])))

    by_case : (b : Bool) → joined (flat_map triple_names with_p_of.triples ∷ cond b (codes "s" ∷ codes "x" ∷ []) [] ∷ []) ≡ codes "s" ∷ codes "o" ∷ cond b (codes "s" ∷ codes "x" ∷ []) []
    by_case true = refl
    by_case false = refl

named_is : named p_without_q ≡ codes "o" ∷ codes "s" ∷ codes "x" ∷ []
unfolding named
named_is = ap (with_names []) (names_are true)

visible_is : visible p_without_q ≡ codes "o" ∷ codes "s" ∷ []
unfolding visible
visible_is = ap (with_names []) (names_are false)

pub returns-clause-minus : goal.returns-clause-minus
returns-clause-minus c = record {
  unshared = refl;
  fixed = refl;
  shared = refl;
  inner = λ i.
      minuses (solutions numbers ps_and_qs Default with_p)
      (filter-cong (satisfies numbers (same_numbers ∷ [])) (λ m. asks_same_numbers (value_of numbers m) && true)
      (λ m. same_numbers-is (value_of numbers m)) (solutions numbers ps_and_qs Default with_q) i);
  unbound = refl;
  named_there = named_is;
  visible_there = visible_is;
  shown = λ i. map (projected (named_is i) (visible_is i)) (solutions (named_is i) s_and_t Default (taken_pair with_p_of with_q_of i));
}

pub returns-clause-counts : goal.returns-clause-counts
returns-clause-counts c = record { hidden = refl; repeated = refl; named = refl; there = refl; absent = refl; literal = refl; unnumbered = refl }
