use Rattle.std.proofs.Common.{◌≡◌, ◌∙◌, ap, sym, subst, rules, refl, true, Some, Option, List, [], ◌∷◌, ◌++◌, ◌+◌, map, drop}
use Rattle.std.proofs.lemmas.Bool.{and_parts}
use Rattle.sparql_queries.proofs.KnownLemmas.{each_holds, sum_proper}
use Rattle.rdf_grammar.specs.Prologue.{Prologue}
use Rattle.sparql_expressions.specs.declared.tree.Expression as written
use Rattle.rdf_grammar.proofs.CallerLemmas.{next_member}
use Rattle.sparql_drafts.specs.Kept.{Fails}
use Rattle.sparql_expressions.specs.ProperExpressions as proper
use Rattle.sparql_queries.specs.Addends as addends
use Rattle.sparql_queries.specs.Expressions as spec
use Rattle.sparql_queries.proofs.ExpressionLemmas.{all_behind, next_part, part_fails, addend_fails, left_fails, right_fails, both_there, compare_is, same_term_is, sum_is, all_at_start}
use Rattle.sparql_trees.specs.declared.expression.Expression.{Expression}
use Rattle.sparql_trees.specs.declared.expression.Expression.TheVariants as e
use Rattle.sparql_trees.specs.declared.expression.Sign.{Sign}
use Rattle.sparql_queries.proofs.expression.+expression.Goals as goal

pub expressions-loop-one-preserved : goal.expressions-loop-one-preserved
expressions-loop-one-preserved t c =
    let p = c.args.scope.now.prologue in
    let i = c.loop-one.one-index in
    let all = c.args.written.now in
    let x = c.one-item.result in
    let same : c.loop-one.scope.prologue ≡ p = c.loop-one.invariant.prologue in
    let said : spec.expression_in p x ≡ Some c.in_ok-said.said = subst (λ (q : Prologue). spec.expression_in q x ≡ Some c.in_ok-said.said) same c.in_ok-said.ensures.tells in
    let whole = next_member proper.proper_expression all i x c.loop-one-test.true c.one-item.is c.loop-one.invariant.proper in
    let pushed : c.push.new.self ≡ c.loop-one.made ++ c.in_ok-said.said ∷ [] = search rules in
    record {
      says = c.loop-one.invariant.says
          ∙ next_part (spec.expression_in p) all i x c.loop-one.made c.in_ok-said.said c.loop-one-test.true c.one-item.is said
          ∙ ap (λ (made : List Expression). all_behind made (map (spec.expression_in p) (drop (i + 1) all))) (sym pushed);
      prologue = c.in_ok-said.ensures.prologue ∙ same;
      proper = whole.1;
    }

pub expressions-returns-in_err-said-clause-tells : goal.expressions-returns-in_err-said-clause-tells
expressions-returns-in_err-said-clause-tells t c =
    let p = c.args.scope.now.prologue in
    let i = c.loop-one.one-index in
    let all = c.args.written.now in
    let x = c.one-item.result in
    let fault = c.in_err-said.field-0.0 in
    let same : c.loop-one.scope.prologue ≡ p = c.loop-one.invariant.prologue in
    let one : Fails (spec.expression_in p x) fault = subst (λ (q : Prologue). Fails (spec.expression_in q x) fault) same c.in_err-said.ensures.tells in
    let fails : Fails (spec.all (map (spec.expression_in p) all)) fault =
    part_fails (spec.expression_in p) all i x c.loop-one.made (spec.all (map (spec.expression_in p) all)) fault c.loop-one.invariant.says c.loop-one-test.true c.one-item.is one in
    search rules

pub addends-loop-one-preserved : goal.addends-loop-one-preserved
addends-loop-one-preserved t c =
    let p = c.args.scope.now.prologue in
    let i = c.loop-one.one-index in
    let all = c.args.written.now in
    let x = c.one-item.result in
    let same : c.loop-one.scope.prologue ≡ p = c.loop-one.invariant.prologue in
    let said : spec.expression_in p x.1 ≡ Some c.in_ok-said.said = subst (λ (q : Prologue). spec.expression_in q x.1 ≡ Some c.in_ok-said.said) same c.in_ok-said.ensures.tells in
    let whole = next_member addends.proper_addend all i x c.loop-one-test.true c.one-item.is c.loop-one.invariant.proper in
    let pushed : c.push.new.self ≡ c.loop-one.made ++ (x.0, c.in_ok-said.said) ∷ [] = search rules in
    record {
      says = c.loop-one.invariant.says
          ∙ next_part (addends.addend_in p) all i x c.loop-one.made (x.0, c.in_ok-said.said) c.loop-one-test.true c.one-item.is (ap (λ (o : Option Expression). spec.addend (x.0, o)) said)
          ∙ ap (λ (made : List (Sign × Expression)). all_behind made (map (addends.addend_in p) (drop (i + 1) all))) (sym pushed);
      prologue = c.in_ok-said.ensures.prologue ∙ same;
      proper = whole.1;
    }

pub addends-returns-in_err-said-clause-tells : goal.addends-returns-in_err-said-clause-tells
addends-returns-in_err-said-clause-tells t c =
    let p = c.args.scope.now.prologue in
    let i = c.loop-one.one-index in
    let all = c.args.written.now in
    let x = c.one-item.result in
    let fault = c.in_err-said.field-0.0 in
    let same : c.loop-one.scope.prologue ≡ p = c.loop-one.invariant.prologue in
    let one : Fails (spec.expression_in p x.1) fault = subst (λ (q : Prologue). Fails (spec.expression_in q x.1) fault) same c.in_err-said.ensures.tells in
    let fails : Fails (spec.all (map (addends.addend_in p) all)) fault =
    part_fails (addends.addend_in p) all i x c.loop-one.made (spec.all (map (addends.addend_in p) all)) fault c.loop-one.invariant.says c.loop-one-test.true c.one-item.is (addend_fails x.0 (spec.expression_in p x.1) fault one) in
    search rules

pub addends-loop-one-init : goal.addends-loop-one-init
addends-loop-one-init t c =
    let p = c.args.scope.now.prologue in
    let parts = c.args.written.now in
    record {
      says = all_at_start (addends.addend_in p) parts c.new-made.result c.new-made.ensures;
      prologue = refl;
      proper = sym (each_holds proper.proper_expression parts) ∙ c.requires.proper;
    }

pub expression-returns-in_ok-right-in-Compare-clause-tells : goal.expression-returns-in_ok-right-in-Compare-clause-tells
expression-returns-in_ok-right-in-Compare-clause-tells t c =
    let p = c.args.scope.now.prologue in
    let left = spec.expression_in p c.in-Compare.left in
    let right = λ (q : Prologue). spec.expression_in q c.in-Compare.right in
    let there : right p ≡ Some c.in_ok-right-in-Compare.right = subst (λ (q : Prologue). right q ≡ Some c.in_ok-right-in-Compare.right) c.in_ok-left-in-Compare.ensures.prologue c.in_ok-right-in-Compare.ensures.tells in
    ap (spec.expression_in p) c.in-Compare.is ∙ compare_is p c.in-Compare.operator c.in-Compare.left c.in-Compare.right ∙ both_there (e.Compare c.in-Compare.operator) left (right p) c.in_ok-left-in-Compare.left c.in_ok-right-in-Compare.right c.in_ok-left-in-Compare.ensures.tells there

pub expression-returns-in_err-left-in-Compare-clause-tells : goal.expression-returns-in_err-left-in-Compare-clause-tells
expression-returns-in_err-left-in-Compare-clause-tells t c =
    let p = c.args.scope.now.prologue in
    let left = spec.expression_in p c.in-Compare.left in
    let right = λ (q : Prologue). spec.expression_in q c.in-Compare.right in
    let fault = c.in_err-left-in-Compare.field-0.0 in
    let fails : Fails (spec.expression_in p c.args.written.now) fault =
    subst (λ (o : Option Expression). Fails o fault) (sym (ap (spec.expression_in p) c.in-Compare.is ∙ compare_is p c.in-Compare.operator c.in-Compare.left c.in-Compare.right)) (left_fails (e.Compare c.in-Compare.operator) left (right p) fault c.in_err-left-in-Compare.ensures.tells) in
    search rules

pub expression-returns-in_err-right-in-Compare-clause-tells : goal.expression-returns-in_err-right-in-Compare-clause-tells
expression-returns-in_err-right-in-Compare-clause-tells t c =
    let p = c.args.scope.now.prologue in
    let left = spec.expression_in p c.in-Compare.left in
    let right = λ (q : Prologue). spec.expression_in q c.in-Compare.right in
    let fault = c.in_err-right-in-Compare.field-0.0 in
    let later : Fails (right p) fault = subst (λ (q : Prologue). Fails (right q) fault) c.in_ok-left-in-Compare.ensures.prologue c.in_err-right-in-Compare.ensures.tells in
    let fails : Fails (spec.expression_in p c.args.written.now) fault =
    subst (λ (o : Option Expression). Fails o fault) (sym (ap (spec.expression_in p) c.in-Compare.is ∙ compare_is p c.in-Compare.operator c.in-Compare.left c.in-Compare.right)) (right_fails (e.Compare c.in-Compare.operator) left (right p) fault later) in
    search rules

pub expression-returns-in_ok-right-in-SameTerm-clause-tells : goal.expression-returns-in_ok-right-in-SameTerm-clause-tells
expression-returns-in_ok-right-in-SameTerm-clause-tells t c =
    let p = c.args.scope.now.prologue in
    let left = spec.expression_in p c.in-SameTerm.left in
    let right = λ (q : Prologue). spec.expression_in q c.in-SameTerm.right in
    let there : right p ≡ Some c.in_ok-right-in-SameTerm.right = subst (λ (q : Prologue). right q ≡ Some c.in_ok-right-in-SameTerm.right) c.in_ok-left-in-SameTerm.ensures.prologue c.in_ok-right-in-SameTerm.ensures.tells in
    ap (spec.expression_in p) c.in-SameTerm.is ∙ same_term_is p c.in-SameTerm.left c.in-SameTerm.right ∙ both_there (e.SameTerm) left (right p) c.in_ok-left-in-SameTerm.left c.in_ok-right-in-SameTerm.right c.in_ok-left-in-SameTerm.ensures.tells there

pub expression-returns-in_err-left-in-SameTerm-clause-tells : goal.expression-returns-in_err-left-in-SameTerm-clause-tells
expression-returns-in_err-left-in-SameTerm-clause-tells t c =
    let p = c.args.scope.now.prologue in
    let left = spec.expression_in p c.in-SameTerm.left in
    let right = λ (q : Prologue). spec.expression_in q c.in-SameTerm.right in
    let fault = c.in_err-left-in-SameTerm.field-0.0 in
    let fails : Fails (spec.expression_in p c.args.written.now) fault =
    subst (λ (o : Option Expression). Fails o fault) (sym (ap (spec.expression_in p) c.in-SameTerm.is ∙ same_term_is p c.in-SameTerm.left c.in-SameTerm.right)) (left_fails (e.SameTerm) left (right p) fault c.in_err-left-in-SameTerm.ensures.tells) in
    search rules

pub expression-returns-in_err-right-in-SameTerm-clause-tells : goal.expression-returns-in_err-right-in-SameTerm-clause-tells
expression-returns-in_err-right-in-SameTerm-clause-tells t c =
    let p = c.args.scope.now.prologue in
    let left = spec.expression_in p c.in-SameTerm.left in
    let right = λ (q : Prologue). spec.expression_in q c.in-SameTerm.right in
    let fault = c.in_err-right-in-SameTerm.field-0.0 in
    let later : Fails (right p) fault = subst (λ (q : Prologue). Fails (right q) fault) c.in_ok-left-in-SameTerm.ensures.prologue c.in_err-right-in-SameTerm.ensures.tells in
    let fails : Fails (spec.expression_in p c.args.written.now) fault =
    subst (λ (o : Option Expression). Fails o fault) (sym (ap (spec.expression_in p) c.in-SameTerm.is ∙ same_term_is p c.in-SameTerm.left c.in-SameTerm.right)) (right_fails (e.SameTerm) left (right p) fault later) in
    search rules

pub expression-returns-in_ok-right-in-Sum-clause-tells : goal.expression-returns-in_ok-right-in-Sum-clause-tells
expression-returns-in_ok-right-in-Sum-clause-tells t c =
    let p = c.args.scope.now.prologue in
    let left = spec.expression_in p c.in-Sum.first in
    let right = λ (q : Prologue). spec.all (map (addends.addend_in q) c.in-Sum.others) in
    let at_p = subst (λ (q : Prologue). spec.all (map (addends.addend_in q) c.as_slice-in-Sum.result.now) ≡ Some c.in_ok-right-in-Sum.right) c.in_ok-left-in-Sum.ensures.prologue c.in_ok-right-in-Sum.ensures.tells in
    let there : right p ≡ Some c.in_ok-right-in-Sum.right = subst (λ (xs : List (Sign × written.Expression)). spec.all (map (addends.addend_in p) xs) ≡ Some c.in_ok-right-in-Sum.right) c.as_slice-in-Sum.ensures at_p in
    ap (spec.expression_in p) c.in-Sum.is ∙ sum_is p c.in-Sum.first c.in-Sum.others ∙ both_there (e.Sum) left (right p) c.in_ok-left-in-Sum.left c.in_ok-right-in-Sum.right c.in_ok-left-in-Sum.ensures.tells there

pub expression-returns-in_err-left-in-Sum-clause-tells : goal.expression-returns-in_err-left-in-Sum-clause-tells
expression-returns-in_err-left-in-Sum-clause-tells t c =
    let p = c.args.scope.now.prologue in
    let left = spec.expression_in p c.in-Sum.first in
    let right = λ (q : Prologue). spec.all (map (addends.addend_in q) c.in-Sum.others) in
    let fault = c.in_err-left-in-Sum.field-0.0 in
    let fails : Fails (spec.expression_in p c.args.written.now) fault =
    subst (λ (o : Option Expression). Fails o fault) (sym (ap (spec.expression_in p) c.in-Sum.is ∙ sum_is p c.in-Sum.first c.in-Sum.others)) (left_fails (e.Sum) left (right p) fault c.in_err-left-in-Sum.ensures.tells) in
    search rules

pub expression-returns-in_err-right-in-Sum-clause-tells : goal.expression-returns-in_err-right-in-Sum-clause-tells
expression-returns-in_err-right-in-Sum-clause-tells t c =
    let p = c.args.scope.now.prologue in
    let left = spec.expression_in p c.in-Sum.first in
    let right = λ (q : Prologue). spec.all (map (addends.addend_in q) c.in-Sum.others) in
    let fault = c.in_err-right-in-Sum.field-0.0 in
    let at_p = subst (λ (q : Prologue). Fails (spec.all (map (addends.addend_in q) c.as_slice-in-Sum.result.now)) fault) c.in_ok-left-in-Sum.ensures.prologue c.in_err-right-in-Sum.ensures.tells in
    let later : Fails (right p) fault = subst (λ (xs : List (Sign × written.Expression)). Fails (spec.all (map (addends.addend_in p) xs)) fault) c.as_slice-in-Sum.ensures at_p in
    let fails : Fails (spec.expression_in p c.args.written.now) fault =
    subst (λ (o : Option Expression). Fails o fault) (sym (ap (spec.expression_in p) c.in-Sum.is ∙ sum_is p c.in-Sum.first c.in-Sum.others)) (right_fails (e.Sum) left (right p) fault later) in
    search rules

pub addends-expression-requires : goal.addends-expression-requires
addends-expression-requires t c =
    let whole = next_member addends.proper_addend c.args.written.now c.loop-one.one-index c.one-item.result c.loop-one-test.true c.one-item.is c.loop-one.invariant.proper in
    (search (rules, written.the_lemmas), whole.0)

pub expression-addends-requires : goal.expression-addends-requires
expression-addends-requires t c =
    let first = c.in-Sum.first in
    let others = c.in-Sum.others in
    let whole = and_parts (proper.proper_expression first) (addends.each_value proper.proper_expression others) (sym (ap proper.proper_expression c.in-Sum.is ∙ sum_proper first others) ∙ c.requires.proper) in
    let proper_now = subst (λ (xs : List (Sign × written.Expression)). addends.each_value proper.proper_expression xs ≡ true) (sym c.as_slice-in-Sum.ensures) whole.1 in
    (search (rules, written.the_lemmas), proper_now)
