-- Proper expressions say something just where each of their names has an IRI.
use Rattle.std.proofs.Common.{◌≡◌, ◌∙◌, ap, refl, sym, subst, Bool, true, ◌&&◌, List, [], ◌∷◌, map, Option, Some, None}
use Rattle.std.proofs.lemmas.Bool.{and_parts}
use Rattle.std.specs.Prelude.{is_some, option_map}
use Rattle.std.specs.List.{list_all, AllByRecursion}
use Rattle.rdf_grammar.specs.Holds.{holds}
use Rattle.rdf_grammar.specs.Prologue.{Prologue, iri_of}
use Rattle.sparql_expressions.specs.declared.tree.Expression as written
use Rattle.sparql_expressions.specs.declared.tree.Expression.TheFolds.{fold-roll-Expression, map-Expression, ind-Expression}
use Rattle.sparql_expressions.specs.declared.tree.Expression.TheOpen.{Expression-F}
use Rattle.sparql_expressions.specs.declared.tree.Expression.TheViews.{roll-Expression}
use Rattle.sparql_expressions.specs.ProperExpressions.{proper_expression, proper_expression_of}
use Rattle.sparql_queries.specs.Expressions.{all, addend, both, expression_in, expression_of}
use Rattle.sparql_trees.specs.declared.expression.Expression.{Expression}
use Rattle.sparql_trees.specs.declared.expression.Sign.{Sign}
use Rattle.sparql_syntax.proofs.NameFronts.{Ask, of_names}
use Rattle.sparql_syntax.proofs.NameExpressions.{each_expression, each_expression_of}
use Rattle.sparql_syntax.proofs.NameMeanings.{has_iri, literal_there}
use Rattle.sparql_syntax.proofs.TriplesSaid.{some_map}

both_there : {A B C : Type 0} (make : A → B → C) (left : Option A) (right : Option B) → is_some (both make left right) ≡ is_some left && is_some right
both_there make None right = refl
both_there make (Some a) right = some_map (make a) right

-- the parts of a list are there just where each is
pub all_there : {A D : Type 0} (f : D → Option A) (flag : D → Bool) (ds : List D) → AllByRecursion (λ d. is_some (f d) ≡ flag d) ds → is_some (all (map f ds)) ≡ list_all holds (map flag ds)
all_there f flag [] h = refl
all_there f flag (d ∷ ds) h =
    both_there (λ a others. a ∷ others) (f d) (all (map f ds)) ∙ ap (λ (b : Bool). b && is_some (all (map f ds))) h.0 ∙ ap (λ (b : Bool). flag d && b) (all_there f flag ds h.1)

module _ (p : Prologue) where
  abbrev q : Ask
  q = of_names (has_iri p)

  abbrev Tells : written.Expression → Type 0
  Tells d = is_some (expression_in p d) ≡ each_expression q d

  abbrev Means : written.Expression → Type 0
  Means d = proper_expression d ≡ true → Tells d

  abbrev Good : Type 0
  Good = (d : written.Expression) × Means d

  abbrev plain : Expression-F Good → Expression-F written.Expression
  plain = map-Expression Good written.Expression (λ e. e.0)

  each_told : (ds : List Good) → list_all holds (map proper_expression (map (λ e. e.0) ds)) ≡ true → AllByRecursion Tells (map (λ e. e.0) ds)
  each_told [] h = tt
  each_told (d ∷ ds) h = let both = and_parts (proper_expression d.0) (list_all holds (map proper_expression (map (λ e. e.0) ds))) h in (d.1 both.0, each_told ds both.1)

  list_told : {A : Type 0} (make : List Expression → A) (ds : List Good) → list_all holds (map proper_expression (map (λ e. e.0) ds)) ≡ true
      → is_some (option_map make (all (map (expression_in p) (map (λ e. e.0) ds)))) ≡ list_all holds (map (each_expression q) (map (λ e. e.0) ds))
  list_told make ds h = some_map make _ ∙ all_there (expression_in p) (each_expression q) (map (λ e. e.0) ds) (each_told ds h)

  pair_told : {A : Type 0} (make : Expression → Expression → A) (x y : Good) → proper_expression x.0 && proper_expression y.0 ≡ true
      → is_some (both make (expression_in p x.0) (expression_in p y.0)) ≡ each_expression q x.0 && each_expression q y.0
  pair_told make x y h =
      let parts = and_parts (proper_expression x.0) (proper_expression y.0) h in
      both_there make (expression_in p x.0) (expression_in p y.0)
      ∙ ap (λ (b : Bool). b && is_some (expression_in p y.0)) (x.1 parts.0) ∙ ap (λ (b : Bool). each_expression q x.0 && b) (y.1 parts.1)

  abbrev plain_addends : List (Sign × Good) → List (Sign × written.Expression)
  plain_addends ys = map (λ y. (y.0, (y.1).0)) ys

  addends_told : (ys : List (Sign × Good)) → list_all (λ (y : Sign × Bool). y.1) (map (λ y. (y.0, proper_expression y.1)) (plain_addends ys)) ≡ true
      → is_some (all (map addend (map (λ y. (y.0, expression_in p y.1)) (plain_addends ys)))) ≡ list_all (λ (y : Sign × Bool). y.1) (map (λ y. (y.0, each_expression q y.1)) (plain_addends ys))
  addends_told [] h = refl
  addends_told (y ∷ ys) h =
      let parts = and_parts (proper_expression (y.1).0) _ h in
      both_there (λ a others. a ∷ others) (addend (y.0, expression_in p (y.1).0)) (all (map addend (map (λ z. (z.0, expression_in p z.1)) (plain_addends ys))))
      ∙ ap (λ (b : Bool). b && is_some (all (map addend (map (λ z. (z.0, expression_in p z.1)) (plain_addends ys))))) (some_map _ (expression_in p (y.1).0) ∙ (y.1).1 parts.0)
      ∙ ap (λ (b : Bool). each_expression q (y.1).0 && b) (addends_told ys parts.1)

  good : (y : Expression-F Good) → proper_expression_of (map-Expression written.Expression Bool proper_expression (plain y)) ≡ true
      → is_some (expression_of p (map-Expression written.Expression (Option Expression) (expression_in p) (plain y))) ≡ each_expression_of q (map-Expression written.Expression Bool (each_expression q) (plain y))
  good (Expression-F.Or ds) h = list_told _ ds h
  good (Expression-F.And ds) h = list_told _ ds h
  good (Expression-F.Compare operator x y) h = pair_told _ x y h
  good (Expression-F.Sum x ys) h =
      let parts = and_parts (proper_expression x.0) _ h in
      both_there _ (expression_in p x.0) _ ∙ ap (λ (b : Bool). b && is_some (all (map addend (map (λ z. (z.0, expression_in p z.1)) (plain_addends ys))))) (x.1 parts.0)
      ∙ ap (λ (b : Bool). each_expression q x.0 && b) (addends_told ys parts.1)
  good (Expression-F.Product ds) h = list_told _ ds h
  good (Expression-F.Not x) h = some_map _ (expression_in p x.0) ∙ x.1 h
  good (Expression-F.Signed sign x) h = some_map _ (expression_in p x.0) ∙ x.1 h
  good (Expression-F.Variable variable) h = refl
  good (Expression-F.Name name) h = some_map _ (iri_of name p)
  good (Expression-F.Literal w) h = some_map _ _ ∙ literal_there p w h
  good (Expression-F.Bound variable) h = refl
  good (Expression-F.SameTerm x y) h = pair_told _ x y h
  good (Expression-F.Call function x) h = some_map _ (expression_in p x.0) ∙ x.1 h

  rolled : (y : Expression-F Good) → Means (roll-Expression (plain y))
  rolled y h =
      let z : Expression-F written.Expression = plain y in
      ap (λ (o : Option Expression). is_some o) (fold-roll-Expression (Option Expression) (expression_of p) z)
      ∙ good y (sym (fold-roll-Expression Bool proper_expression_of z) ∙ h) ∙ sym (fold-roll-Expression Bool (each_expression_of q) z)

  step : (z : Expression-F written.Expression) (y : Expression-F Good) → plain y ≡ z → Means (roll-Expression z)
  step z y is = subst (λ (a : Expression-F written.Expression). Means (roll-Expression a)) is (rolled y)

  pub expression_there : (d : written.Expression) → Means d
  expression_there = ind-Expression Means step
