-- Groups that end with an element, a condition of one expression, and what Minus keeps.
use Rattle.std.proofs.Common.{◌≡◌, ◌<◌, Bool, true, false, cond, not, ◌&&◌, ◌||◌, List, [], ◌∷◌, ◌++◌, map, filter, refl, sym, ap, ◌∙◌}
use Rattle.std.specs.List.{fold, list_any}
use Rattle.std.proofs.lemmas.List.{map-append}
use Rattle.sparql_trees.specs.declared.expression.Expression.{Expression}
use Rattle.sparql_trees.specs.declared.pattern.Member.{Member}
use Rattle.sparql_values.specs.Mapping.{Variables, Mapping, compatible, value_of}
use Rattle.sparql_values.specs.Values.{is_satisfied}
use Rattle.sparql_algebra.specs.Algebra.{Algebra, Element, extended, empty_pattern, group_of, filtered, translation, element}
use Rattle.sparql_algebra.specs.Solutions.{satisfies, shares, minuses}
use Rattle.sparql_algebra.specs.Words.{members, ending}
use Rattle.sparql_algebra.proofs.MinusLemmas.{none_any}
use Rattle.sparql_algebra.proofs.Regroup.{times, filter_law}
use Rattle.sparql_algebra.proofs.TranslationLemmas.{translation-is}

extended_last : (G : Algebra) (xs : List Element) (x : Element) → fold extended G (xs ++ x ∷ []) ≡ extended (fold extended G xs) x
extended_last G [] x = refl
extended_last G (y ∷ xs) x = extended_last (extended G y) xs x

-- a group with one element more extends the group
pub ending-is : (ms : List Member) (last : Member) → translation (ending ms last) ≡ extended (translation (members ms)) (element last)
ending-is ms last =
    translation-is (ending ms last)
    ∙ ap group_of (map-append element ms (last ∷ []))
    ∙ extended_last empty_pattern (map element ms) (element last)
    ∙ ap (λ (G : Algebra). extended G (element last)) (sym (translation-is (members ms)))

pub ending-as : (ms : List Member) (last : Member) (x : Element) → element last ≡ x → translation (ending ms last) ≡ extended (translation (members ms)) x
ending-as ms last x h = ending-is ms last ∙ ap (λ (y : Element). extended (translation (members ms)) y) h

-- FILTERs are asked of what the members are without them
pub filters-is : (ms : List Member) (F : List Expression) → translation (record { members = ms; filters = F }) ≡ filtered F (translation (members ms))
filters-is ms F =
    translation-is (record { members = ms; filters = F })
    ∙ ap (λ (G : Algebra). filtered F G) (sym (translation-is (members ms)))

and_true : (b : Bool) → (b && true) ≡ b
and_true true = refl
and_true false = refl

pub one_expression : (variables : Variables) (F : Expression) (A : List Mapping) (m : Mapping) →
    times (filter (satisfies variables (F ∷ [])) A) m ≡ cond (is_satisfied (value_of variables m) F) (times A m) 0
one_expression variables F A m =
    filter_law (satisfies variables (F ∷ [])) A m
    ∙ ap (λ b. cond b (times A m) 0) (and_true (is_satisfied (value_of variables m) F))

not_both : (a b : Bool) → (not a || not b) ≡ true → (a && b) ≡ false
not_both true true h = sym h
not_both true false h = refl
not_both false b h = refl

pub minus_keeps : (A B : List Mapping) (m : Mapping) →
    ((b : Mapping) → 0 < times B b → (not (compatible m b) || not (shares m b)) ≡ true) → times (minuses A B) m ≡ times A m
minus_keeps A B m h =
    filter_law (λ a. not (list_any (λ b. compatible a b && shares a b) B)) A m
    ∙ ap (λ b. cond (not b) (times A m) 0)
    (none_any (λ b. compatible m b && shares m b) B (λ b k. not_both (compatible m b) (shares m b) (h b k)))
