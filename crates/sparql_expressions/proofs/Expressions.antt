-- Expressions are read just as they are derived.
use Rattle.std.proofs.Common.{◌≡◌, ℕ, zero, suc, ◌<◌, ◌≤◌, Bool, true, false, List, length, Option, Some, None, refl, ◌∙◌, ap, arith, inl, inr, ◌⊎◌}
use Rattle.std.specs.Prelude.{is_some}
use Rattle.rdf_grammar.specs.Steps as steps
use Rattle.rdf_grammar.specs.Readings as reading
use Rattle.rdf_grammar.specs.Readings.{any}
use Rattle.rdf_grammar.specs.Terminals.{next_terminal}
use Rattle.rdf_grammar.specs.Derivations as grammar
use Rattle.rdf_grammar.specs.Derivations.{◌>>=◌, ◌>>◌, ◌<$>◌, ◌∣◌, pure, the, value, Then, Star, stop, more}
use Rattle.rdf_grammar.specs.declared.tree.Literal.{Literal}
use Rattle.rdf_grammar.specs.declared.tree.Literal.TheVariants as l
use Rattle.rdf_grammar.proofs.CallerLemmas.{one_decides, seq, last, also, always, Decides, then_decides, pure_decides, repeat_decides, some_pair, the_decides, value_decides, after_terminal, the_terminal, value_terminal, any_the}
use Rattle.sparql_terminals.specs.declared.terminal.Terminal.{Terminal}
use Rattle.sparql_terminals.specs.declared.terminal.Terminal.TheVariants as terminal
use Rattle.sparql_terminals.specs.Lexemes as lexemes
use Rattle.sparql_terminals.specs.Lexemes.{Lexemes, Reading, Derives, Test}
use Rattle.sparql_terminals.specs.Terminals.{same_terminal, apart}
use Rattle.sparql_terminals.specs.WordGrammar.{Iri, ALiteral}
use Rattle.sparql_terminals.specs.WordReading.{iri, literal}
use Rattle.sparql_terminals.proofs.CallerLemmas.{iri_terminal, iri_passes, iri_decides, iri_strict, after_node, literal_decides, literal_strict, begins_literal, literal_begins, keyword_sound, keyword_complete, keyword_terminal, keyword_strict}
use Rattle.sparql_trees.specs.declared.expression.Comparison.{Comparison}
use Rattle.sparql_trees.specs.declared.expression.Function.{Function}
use Rattle.sparql_trees.specs.declared.expression.Sign.{Sign}
use Rattle.sparql_trees.specs.declared.expression.Sign.TheVariants.{Plus, Minus}
use Rattle.sparql_expressions.specs.declared.tree.Expression.{Expression}
use Rattle.sparql_expressions.specs.declared.tree.Expression.TheVariants as e
use Rattle.sparql_expressions.specs.ExpressionGrammar as g
use Rattle.sparql_expressions.specs.ExpressionReading as read
use Rattle.sparql_expressions.specs.ExpressionReading.{comparison_by, sign_by, function_by, is_signed_number, begins_addend, sees_addend, chain, sum}
use Rattle.sparql_expressions.proofs.Choices.{choice_is, chosen_sound, chosen_complete, chosen_strict, comparison_choice, sign_choice, function_choice}
use Rattle.sparql_expressions.proofs.Follow.{above, wider, no_suffix, addend_above, no_addend, no_comparison, comparison_above, rest_decides, chained}

-- where less may follow
narrowed : {A : Type 0} (p : Reading A) (P : Derives A) (e1 e2 : Test) → Decides p P e1 → ((us : Lexemes) → e2 us ≡ true → e1 us ≡ true) → Decides p P e2
narrowed p P e1 e2 d goes = record { sound = d.sound; complete = λ ts a us h e. d.complete ts a us h (goes us e); shorter = d.shorter }

-- a lexeme, and then a tree
closed_decides : {A : Type 0} (k : Terminal) (x : A) → Decides (steps.◌>>◌ (lexemes.the k) (steps.pure x)) (the k >> pure x) always
closed_decides k x = seq _ _ _ _ always (the_decides same_terminal apart k) (λ _. pure_decides x always)

leaf_decides : {A : Type 0} (f : List ℕ → A) (k : Terminal) → Decides (steps.◌<$>◌ f (lexemes.value k)) (f <$> value k) always
leaf_decides f k = last f _ _ always (value_decides same_terminal apart k)

-- an operator that the next lexeme is, and what stands behind it
module _ {A : Type 0} (k : Terminal) (p : Reading A) (P : Derives A) (ends : Test) (d : Decides p P ends) where
  behind_sound : (ts : Lexemes) (x : A) (us : Lexemes) → next_terminal ts ≡ Some k → steps.◌>>◌ any p ts ≡ Some (x, us) → (the k >> P) ts x us
  behind_sound ts x us q h = (after_terminal same_terminal apart k p P ends d).sound ts x us (rw (any_the same_terminal apart k ts q) at h)

  behind_complete : (ts : Lexemes) (x : A) (us : Lexemes) → next_terminal ts ≡ Some k → (the k >> P) ts x us → ends us ≡ true → steps.◌>>◌ any p ts ≡ Some (x, us)
  behind_complete ts x us q h e = rw (any_the same_terminal apart k ts q) ((after_terminal same_terminal apart k p P ends d).complete ts x us h e)

  behind_strict : (ts : Lexemes) (x : A) (us : Lexemes) → (the k >> P) ts x us → length us < length ts
  behind_strict ts x us h = let a = d.shorter h.mid x us h.goes in omega (arith, ap length h.reads.2)

-- ---- numbers with their signs

signed_sound : (k : Option Terminal) (ts : Lexemes) (x : Literal) (us : Lexemes) → read.signed_number_by k ts ≡ Some (x, us) → g.SignedNumber ts x us
signed_sound (Some terminal.SignedInteger) ts x us h = inl ((leaf_decides l.Integer terminal.SignedInteger).sound ts x us h)
signed_sound (Some terminal.SignedDecimal) ts x us h = inr (inl ((leaf_decides l.Decimal terminal.SignedDecimal).sound ts x us h))
signed_sound (Some terminal.SignedDouble) ts x us h = inr (inr ((leaf_decides l.Double terminal.SignedDouble).sound ts x us h))
signed_sound _ ts x us h = absurd (cc)

signed_complete : (ts : Lexemes) (x : Literal) (us : Lexemes) → g.SignedNumber ts x us → read.signed_number_by (next_terminal ts) ts ≡ Some (x, us)
signed_complete ts x us (inl h) = rw (value_terminal terminal.SignedInteger ts h.mid h.first h.reads) ((leaf_decides l.Integer terminal.SignedInteger).complete ts x us h refl)
signed_complete ts x us (inr (inl h)) = rw (value_terminal terminal.SignedDecimal ts h.mid h.first h.reads) ((leaf_decides l.Decimal terminal.SignedDecimal).complete ts x us h refl)
signed_complete ts x us (inr (inr h)) = rw (value_terminal terminal.SignedDouble ts h.mid h.first h.reads) ((leaf_decides l.Double terminal.SignedDouble).complete ts x us h refl)

signed_strict : (ts : Lexemes) (x : Literal) (us : Lexemes) → g.SignedNumber ts x us → length us < length ts
signed_strict ts x us (inl h) = omega (arith, ap length h.reads.3, ap length h.goes.1)
signed_strict ts x us (inr (inl h)) = omega (arith, ap length h.reads.3, ap length h.goes.1)
signed_strict ts x us (inr (inr h)) = omega (arith, ap length h.reads.3, ap length h.goes.1)

signed_begins : (ts : Lexemes) (x : Literal) (us : Lexemes) → g.SignedNumber ts x us → is_signed_number (next_terminal ts) ≡ true
signed_begins ts x us (inl h) = rw (value_terminal terminal.SignedInteger ts h.mid h.first h.reads) refl
signed_begins ts x us (inr (inl h)) = rw (value_terminal terminal.SignedDecimal ts h.mid h.first h.reads) refl
signed_begins ts x us (inr (inr h)) = rw (value_terminal terminal.SignedDouble ts h.mid h.first h.reads) refl

signed_decides : Decides read.signed_number g.SignedNumber always
unfolding read.signed_number
signed_decides = record {
  sound = λ ts x us h. signed_sound (next_terminal ts) ts x us h;
  complete = λ ts x us h _. signed_complete ts x us h;
  shorter = λ ts x us h. let a = signed_strict ts x us h in omega arith;
}

signed_no_sign : (k : Option Terminal) → is_signed_number k ≡ true → sign_by k ≡ None
signed_no_sign (Some terminal.Plus) h = absurd (cc)
signed_no_sign (Some terminal.Minus) h = absurd (cc)
signed_no_sign _ h = refl

signed_addend : (k : Option Terminal) → is_signed_number k ≡ true → begins_addend k ≡ true
signed_addend (Some terminal.Plus) h = refl
signed_addend (Some terminal.Minus) h = refl
signed_addend _ h = h

sign_addend : (k : Option Terminal) (s : Sign) → sign_by k ≡ Some s → begins_addend k ≡ true
sign_addend (Some terminal.Plus) s h = refl
sign_addend (Some terminal.Minus) s h = refl
sign_addend _ s h = absurd (cc)

-- ---- BOUND

abbrev BoundRest : Derives Expression
BoundRest = the terminal.Open >>= (λ _. value terminal.Variable >>= (λ variable. the terminal.Close >>= (λ _. pure (e.Bound variable))))

bound_decides : Decides read.bound BoundRest always
unfolding read.bound
bound_decides = seq _ _ _ _ always (the_decides same_terminal apart terminal.Open) (λ _. seq _ _ _ _ always (value_decides same_terminal apart terminal.Variable) (λ v. closed_decides terminal.Close (e.Bound v)))

-- ---- what begins a value

abbrev begins_call : Option Terminal → Bool
begins_call (Some terminal.Bound) = true
begins_call (Some terminal.SameTerm) = true
begins_call k = is_some (function_by k)

abbrev no_operator : Option Terminal → Bool
no_operator (Some terminal.Not) = false
no_operator (Some terminal.Plus) = false
no_operator (Some terminal.Minus) = false
no_operator _ = true

function_begins : (k : Option Terminal) (f : Function) → function_by k ≡ Some f → begins_call k ≡ true
function_begins (Some terminal.Bound) f h = refl
function_begins (Some terminal.SameTerm) f h = refl
function_begins k f h = ap is_some h

call_no_operator : (k : Option Terminal) → begins_call k ≡ true → no_operator k ≡ true
call_no_operator (Some terminal.Not) h = absurd (cc)
call_no_operator (Some terminal.Plus) h = absurd (cc)
call_no_operator (Some terminal.Minus) h = absurd (cc)
call_no_operator _ h = refl

literal_no_operator : (k : Option Terminal) → begins_literal k ≡ true → no_operator k ≡ true
literal_no_operator (Some terminal.Not) h = absurd (cc)
literal_no_operator (Some terminal.Plus) h = absurd (cc)
literal_no_operator (Some terminal.Minus) h = absurd (cc)
literal_no_operator _ h = refl

-- expression is read where Expression' is derived
module _ (expression : Reading Expression) (Expression' : Derives Expression) (d : Decides expression Expression' (above 5)) where
  -- ---- parentheses and calls

  abbrev InnerRest : Derives Expression
  InnerRest = Expression' >>= (λ inner. the terminal.Close >>= (λ _. pure inner))

  abbrev inner_rest : Reading Expression
  inner_rest = steps.◌>>=◌ expression (λ inner. steps.◌>>=◌ (lexemes.the terminal.Close) (λ _. steps.pure inner))

  inner_decides : Decides inner_rest InnerRest always
  inner_decides = then_decides _ _ _ _ (above 5) always d (closed_decides terminal.Close) (λ x mid y us h e. rw (the_terminal terminal.Close mid h.mid h.first h.reads) refl)

  pub bracketted_decides : Decides (read.bracketted expression) (g.BrackettedExpression Expression') always
  unfolding read.bracketted
  bracketted_decides = seq _ _ _ _ always (the_decides same_terminal apart terminal.Open) (λ _. inner_decides)

  bracketted_strict : (ts : Lexemes) (x : Expression) (us : Lexemes) → g.BrackettedExpression Expression' ts x us → length us < length ts
  bracketted_strict ts x us h = keyword_strict terminal.Open inner_rest InnerRest inner_decides ts x us h

  abbrev RightRest : Expression → Derives Expression
  RightRest left = Expression' >>= (λ right. the terminal.Close >>= (λ _. pure (e.SameTerm left right)))

  abbrev SameTermRest : Derives Expression
  SameTermRest = the terminal.Open >>= (λ _. Expression' >>= (λ left. the terminal.Comma >>= (λ _. RightRest left)))

  same_term_decides : Decides (read.same_term expression) SameTermRest always
  unfolding read.same_term read.second_term read.same_term_of
  same_term_decides =
      seq _ _ _ _ always (the_decides same_terminal apart terminal.Open) (λ _.
      then_decides _ _ _ _ (above 5) always d
      (λ left. seq _ _ _ _ always (the_decides same_terminal apart terminal.Comma) (λ _.
      then_decides _ _ _ _ (above 5) always d (λ right. closed_decides terminal.Close (e.SameTerm left right)) (λ x mid y us h e. rw (the_terminal terminal.Close mid h.mid h.first h.reads) refl)))
      (λ x mid y us h e. rw (the_terminal terminal.Comma mid h.mid h.first h.reads) refl))

  operand_decides : (function : Function) → Decides (steps.◌<$>◌ (e.Call function) (read.bracketted expression)) (e.Call function <$> g.BrackettedExpression Expression') always
  operand_decides function = last (e.Call function) _ _ always bracketted_decides

  function_sound : (o : Option Function) (ts : Lexemes) (x : Expression) (us : Lexemes) → function_by (next_terminal ts) ≡ o → read.call_of expression o ts ≡ Some (x, us) → g.FunctionCall Expression' ts x us
  function_sound (Some f) ts x us q h = chosen_sound function_by g.AFunction function_choice _ _ always operand_decides f ts x us q h
  function_sound None ts x us q h = absurd (cc)

  call_sound : (k : Option Terminal) (ts : Lexemes) (x : Expression) (us : Lexemes) → next_terminal ts ≡ k → read.call_by expression k ts ≡ Some (x, us) → g.BuiltInCall Expression' ts x us
  call_sound (Some terminal.Bound) ts x us q h = inl (keyword_sound terminal.Bound _ _ bound_decides ts x us q h)
  call_sound (Some terminal.SameTerm) ts x us q h = inr (inl (keyword_sound terminal.SameTerm _ _ same_term_decides ts x us q h))
  call_sound k ts x us q h = inr (inr (function_sound (function_by k) ts x us (ap function_by q) h))

  call_at : (k : Option Terminal) (f : Function) → function_by k ≡ Some f → read.call_by expression k ≡ read.call_of expression (Some f)
  call_at (Some terminal.Bound) f h = absurd (cc)
  call_at (Some terminal.SameTerm) f h = absurd (cc)
  call_at k f h = ap (read.call_of expression) h

  call_complete : (ts : Lexemes) (x : Expression) (us : Lexemes) → g.BuiltInCall Expression' ts x us → read.call_by expression (next_terminal ts) ts ≡ Some (x, us)
  call_complete ts x us (inl h) = let q = keyword_terminal terminal.Bound BoundRest ts x us h in rw q (keyword_complete terminal.Bound _ _ bound_decides ts x us q h)
  call_complete ts x us (inr (inl h)) = let q = keyword_terminal terminal.SameTerm SameTermRest ts x us h in rw q (keyword_complete terminal.SameTerm _ _ same_term_decides ts x us q h)
  call_complete ts x us (inr (inr h)) =
      let q = choice_is function_by g.AFunction function_choice ts h.first h.mid h.reads in
      rw (call_at (next_terminal ts) h.first q) (chosen_complete function_by g.AFunction function_choice _ _ always operand_decides ts x us h refl)

  call_begins : (ts : Lexemes) (x : Expression) (us : Lexemes) → g.BuiltInCall Expression' ts x us → begins_call (next_terminal ts) ≡ true
  call_begins ts x us (inl h) = rw (keyword_terminal terminal.Bound BoundRest ts x us h) refl
  call_begins ts x us (inr (inl h)) = rw (keyword_terminal terminal.SameTerm SameTermRest ts x us h) refl
  call_begins ts x us (inr (inr h)) = function_begins (next_terminal ts) h.first (choice_is function_by g.AFunction function_choice ts h.first h.mid h.reads)

  call_strict : (ts : Lexemes) (x : Expression) (us : Lexemes) → g.BuiltInCall Expression' ts x us → length us < length ts
  call_strict ts x us (inl h) = keyword_strict terminal.Bound _ _ bound_decides ts x us h
  call_strict ts x us (inr (inl h)) = keyword_strict terminal.SameTerm _ _ same_term_decides ts x us h
  call_strict ts x us (inr (inr h)) = chosen_strict function_by g.AFunction function_choice _ _ always operand_decides ts x us h

  call_decides : Decides (read.built_in_call expression) (g.BuiltInCall Expression') always
  unfolding read.built_in_call
  call_decides = record {
    sound = λ ts x us h. call_sound (next_terminal ts) ts x us refl h;
    complete = λ ts x us h _. call_complete ts x us h;
    shorter = λ ts x us h. let a = call_strict ts x us h in omega arith;
  }

  -- ---- what stands behind FILTER

  constraint_sound : (k : Option Terminal) (ts : Lexemes) (x : Expression) (us : Lexemes) → next_terminal ts ≡ k → read.constraint_by expression k ts ≡ Some (x, us) → g.Constraint Expression' ts x us
  constraint_sound (Some terminal.Open) ts x us q h = inl (bracketted_decides.sound ts x us h)
  constraint_sound k ts x us q h = inr (call_sound k ts x us q h)

  constraint_at : (k : Option Terminal) → begins_call k ≡ true → read.constraint_by expression k ≡ read.call_by expression k
  constraint_at (Some terminal.Open) h = absurd (cc)
  constraint_at _ h = refl

  constraint_complete : (ts : Lexemes) (x : Expression) (us : Lexemes) → g.Constraint Expression' ts x us → read.constraint_by expression (next_terminal ts) ts ≡ Some (x, us)
  constraint_complete ts x us (inl h) = rw (keyword_terminal terminal.Open InnerRest ts x us h) (bracketted_decides.complete ts x us h refl)
  constraint_complete ts x us (inr h) = rw (constraint_at (next_terminal ts) (call_begins ts x us h)) (call_complete ts x us h)

  pub constraint_strict_with : (ts : Lexemes) (x : Expression) (us : Lexemes) → g.Constraint Expression' ts x us → length us < length ts
  constraint_strict_with ts x us (inl h) = bracketted_strict ts x us h
  constraint_strict_with ts x us (inr h) = call_strict ts x us h

  pub constraint_with_decides : Decides (read.constraint_with expression) (g.Constraint Expression') always
  unfolding read.constraint_with
  constraint_with_decides = record {
    sound = λ ts x us h. constraint_sound (next_terminal ts) ts x us refl h;
    complete = λ ts x us h _. constraint_complete ts x us h;
    shorter = λ ts x us h. let a = constraint_strict_with ts x us h in omega arith;
  }

  -- ---- primary expressions

  name_decides : Decides (steps.◌<$>◌ e.Name iri) (e.Name <$> Iri) always
  name_decides = last e.Name _ _ always iri_decides

  a_literal_decides : Decides (steps.◌<$>◌ e.Literal literal) (e.Literal <$> ALiteral) (above 0)
  a_literal_decides = narrowed _ _ after_node (above 0) (last e.Literal _ _ after_node literal_decides) no_suffix

  primary_sound : (k : Option Terminal) (ts : Lexemes) (x : Expression) (us : Lexemes) → read.primary_by expression k ts ≡ Some (x, us) → g.PrimaryExpression Expression' ts x us
  primary_sound (Some terminal.Open) ts x us h = inl (bracketted_decides.sound ts x us h)
  primary_sound (Some terminal.Variable) ts x us h = inr (inr (inr (inr ((leaf_decides e.Variable terminal.Variable).sound ts x us h))))
  primary_sound (Some terminal.Iri) ts x us h = inr (inr (inl (name_decides.sound ts x us h)))
  primary_sound (Some terminal.Pname) ts x us h = inr (inr (inl (name_decides.sound ts x us h)))
  primary_sound (Some terminal.Text) ts x us h = inr (inr (inr (inl (a_literal_decides.sound ts x us h))))
  primary_sound (Some terminal.Integer) ts x us h = inr (inr (inr (inl (a_literal_decides.sound ts x us h))))
  primary_sound (Some terminal.Decimal) ts x us h = inr (inr (inr (inl (a_literal_decides.sound ts x us h))))
  primary_sound (Some terminal.Double) ts x us h = inr (inr (inr (inl (a_literal_decides.sound ts x us h))))
  primary_sound (Some terminal.SignedInteger) ts x us h = inr (inr (inr (inl (a_literal_decides.sound ts x us h))))
  primary_sound (Some terminal.SignedDecimal) ts x us h = inr (inr (inr (inl (a_literal_decides.sound ts x us h))))
  primary_sound (Some terminal.SignedDouble) ts x us h = inr (inr (inr (inl (a_literal_decides.sound ts x us h))))
  primary_sound (Some terminal.True) ts x us h = inr (inr (inr (inl (a_literal_decides.sound ts x us h))))
  primary_sound (Some terminal.False) ts x us h = inr (inr (inr (inl (a_literal_decides.sound ts x us h))))
  primary_sound _ ts x us h = inr (inl (call_decides.sound ts x us h))

  literal_at : (k : Option Terminal) → begins_literal k ≡ true → read.primary_by expression k ≡ steps.◌<$>◌ e.Literal literal
  literal_at (Some terminal.Text) h = refl
  literal_at (Some terminal.Integer) h = refl
  literal_at (Some terminal.Decimal) h = refl
  literal_at (Some terminal.Double) h = refl
  literal_at (Some terminal.SignedInteger) h = refl
  literal_at (Some terminal.SignedDecimal) h = refl
  literal_at (Some terminal.SignedDouble) h = refl
  literal_at (Some terminal.True) h = refl
  literal_at (Some terminal.False) h = refl
  literal_at _ h = absurd (cc)

  primary_at : (k : Option Terminal) → begins_call k ≡ true → read.primary_by expression k ≡ read.built_in_call expression
  primary_at (Some terminal.Open) h = absurd (cc)
  primary_at (Some terminal.Variable) h = absurd (cc)
  primary_at (Some terminal.Iri) h = absurd (cc)
  primary_at (Some terminal.Pname) h = absurd (cc)
  primary_at (Some terminal.Text) h = absurd (cc)
  primary_at (Some terminal.Integer) h = absurd (cc)
  primary_at (Some terminal.Decimal) h = absurd (cc)
  primary_at (Some terminal.Double) h = absurd (cc)
  primary_at (Some terminal.SignedInteger) h = absurd (cc)
  primary_at (Some terminal.SignedDecimal) h = absurd (cc)
  primary_at (Some terminal.SignedDouble) h = absurd (cc)
  primary_at (Some terminal.True) h = absurd (cc)
  primary_at (Some terminal.False) h = absurd (cc)
  primary_at _ h = refl

  name_complete : (ts : Lexemes) (x : Expression) (us : Lexemes) → (e.Name <$> Iri) ts x us → (next_terminal ts ≡ Some terminal.Iri) ⊎ (next_terminal ts ≡ Some terminal.Pname)
      → read.primary_by expression (next_terminal ts) ts ≡ Some (x, us)
  name_complete ts x us h (inl q) = rw q (name_decides.complete ts x us h refl)
  name_complete ts x us h (inr q) = rw q (name_decides.complete ts x us h refl)

  primary_complete : (ts : Lexemes) (x : Expression) (us : Lexemes) → g.PrimaryExpression Expression' ts x us → above 0 us ≡ true → read.primary_by expression (next_terminal ts) ts ≡ Some (x, us)
  primary_complete ts x us (inl h) a = rw (keyword_terminal terminal.Open InnerRest ts x us h) (bracketted_decides.complete ts x us h refl)
  primary_complete ts x us (inr (inl h)) a = rw (primary_at (next_terminal ts) (call_begins ts x us h)) (call_decides.complete ts x us h refl)
  primary_complete ts x us (inr (inr (inl h))) a = name_complete ts x us h (iri_terminal ts h.first h.mid h.reads)
  primary_complete ts x us (inr (inr (inr (inl h)))) a = rw (literal_at (next_terminal ts) (literal_begins ts h.first h.mid h.reads)) (a_literal_decides.complete ts x us h a)
  primary_complete ts x us (inr (inr (inr (inr h)))) a = rw (value_terminal terminal.Variable ts h.mid h.first h.reads) ((leaf_decides e.Variable terminal.Variable).complete ts x us h refl)

  primary_begins : (ts : Lexemes) (x : Expression) (us : Lexemes) → g.PrimaryExpression Expression' ts x us → no_operator (next_terminal ts) ≡ true
  primary_begins ts x us (inl h) = rw (keyword_terminal terminal.Open InnerRest ts x us h) refl
  primary_begins ts x us (inr (inl h)) = call_no_operator (next_terminal ts) (call_begins ts x us h)
  primary_begins ts x us (inr (inr (inl h))) = iri_passes no_operator refl refl ts h.first h.mid h.reads
  primary_begins ts x us (inr (inr (inr (inl h)))) = literal_no_operator (next_terminal ts) (literal_begins ts h.first h.mid h.reads)
  primary_begins ts x us (inr (inr (inr (inr h)))) = rw (value_terminal terminal.Variable ts h.mid h.first h.reads) refl

  primary_strict : (ts : Lexemes) (x : Expression) (us : Lexemes) → g.PrimaryExpression Expression' ts x us → length us < length ts
  primary_strict ts x us (inl h) = bracketted_strict ts x us h
  primary_strict ts x us (inr (inl h)) = call_strict ts x us h
  primary_strict ts x us (inr (inr (inl h))) = let a = iri_strict ts h.first h.mid h.reads in omega (arith, ap length h.goes.1)
  primary_strict ts x us (inr (inr (inr (inl h)))) = let a = literal_strict ts h.first h.mid h.reads in omega (arith, ap length h.goes.1)
  primary_strict ts x us (inr (inr (inr (inr h)))) = omega (arith, ap length h.reads.3, ap length h.goes.1)

  primary_decides : Decides (read.primary expression) (g.PrimaryExpression Expression') (above 0)
  unfolding read.primary
  primary_decides = record {
    sound = λ ts x us h. primary_sound (next_terminal ts) ts x us h;
    complete = primary_complete;
    shorter = λ ts x us h. let a = primary_strict ts x us h in omega arith;
  }

  -- ---- unary expressions

  with_operator : (f : Expression → Expression) → Decides (steps.◌<$>◌ f (read.primary expression)) (f <$> g.PrimaryExpression Expression') (above 0)
  with_operator f = last f _ _ (above 0) primary_decides

  unary_sound : (k : Option Terminal) (ts : Lexemes) (x : Expression) (us : Lexemes) → next_terminal ts ≡ k → read.unary_by expression k ts ≡ Some (x, us) → g.UnaryExpression Expression' ts x us
  unary_sound (Some terminal.Not) ts x us q h = inl (behind_sound terminal.Not _ _ (above 0) (with_operator e.Not) ts x us q h)
  unary_sound (Some terminal.Plus) ts x us q h = inr (inl (behind_sound terminal.Plus _ _ (above 0) (with_operator (e.Signed Plus)) ts x us q h))
  unary_sound (Some terminal.Minus) ts x us q h = inr (inr (inl (behind_sound terminal.Minus _ _ (above 0) (with_operator (e.Signed Minus)) ts x us q h)))
  unary_sound _ ts x us q h = inr (inr (inr (primary_decides.sound ts x us h)))

  unary_at : (k : Option Terminal) → no_operator k ≡ true → read.unary_by expression k ≡ read.primary expression
  unary_at (Some terminal.Not) h = absurd (cc)
  unary_at (Some terminal.Plus) h = absurd (cc)
  unary_at (Some terminal.Minus) h = absurd (cc)
  unary_at _ h = refl

  unary_complete : (ts : Lexemes) (x : Expression) (us : Lexemes) → g.UnaryExpression Expression' ts x us → above 0 us ≡ true → read.unary_by expression (next_terminal ts) ts ≡ Some (x, us)
  unary_complete ts x us (inl h) a = let q = the_terminal terminal.Not ts h.mid h.first h.reads in rw q (behind_complete terminal.Not _ _ (above 0) (with_operator e.Not) ts x us q h a)
  unary_complete ts x us (inr (inl h)) a = let q = the_terminal terminal.Plus ts h.mid h.first h.reads in rw q (behind_complete terminal.Plus _ _ (above 0) (with_operator (e.Signed Plus)) ts x us q h a)
  unary_complete ts x us (inr (inr (inl h))) a = let q = the_terminal terminal.Minus ts h.mid h.first h.reads in rw q (behind_complete terminal.Minus _ _ (above 0) (with_operator (e.Signed Minus)) ts x us q h a)
  unary_complete ts x us (inr (inr (inr h))) a = rw (unary_at (next_terminal ts) (primary_begins ts x us h)) (primary_decides.complete ts x us h a)

  unary_strict : (ts : Lexemes) (x : Expression) (us : Lexemes) → g.UnaryExpression Expression' ts x us → length us < length ts
  unary_strict ts x us (inl h) = behind_strict terminal.Not _ _ (above 0) (with_operator e.Not) ts x us h
  unary_strict ts x us (inr (inl h)) = behind_strict terminal.Plus _ _ (above 0) (with_operator (e.Signed Plus)) ts x us h
  unary_strict ts x us (inr (inr (inl h))) = behind_strict terminal.Minus _ _ (above 0) (with_operator (e.Signed Minus)) ts x us h
  unary_strict ts x us (inr (inr (inr h))) = primary_strict ts x us h

  unary_decides : Decides (read.unary expression) (g.UnaryExpression Expression') (above 0)
  unfolding read.unary
  unary_decides = record {
    sound = λ ts x us h. unary_sound (next_terminal ts) ts x us refl h;
    complete = unary_complete;
    shorter = λ ts x us h. let a = unary_strict ts x us h in omega arith;
  }

  -- ---- products

  abbrev ProductRest : Expression → Derives Expression
  ProductRest first = g.Factors Expression' >>= (λ others. pure (chain e.Product first others))

  product_decides : (first : Expression) → Decides (read.product expression first) (ProductRest first) (above 1)
  unfolding read.product
  product_decides = rest_decides terminal.Star 0 (read.unary expression) (g.UnaryExpression Expression') (omega arith) unary_decides (chain e.Product)

  multiplicative_decides : Decides (read.multiplicative expression) (g.MultiplicativeExpression Expression') (above 1)
  unfolding read.multiplicative read.product
  multiplicative_decides = chained terminal.Star 0 (read.unary expression) (g.UnaryExpression Expression') (omega arith) unary_decides (chain e.Product)

  -- ---- sums

  abbrev with_sign : Sign → Expression → Sign × Expression
  with_sign sign x = (sign, x)

  behind_sign : (sign : Sign) → Decides (steps.◌<$>◌ (with_sign sign) (read.multiplicative expression)) (with_sign sign <$> g.MultiplicativeExpression Expression') (above 1)
  behind_sign sign = last (with_sign sign) _ _ (above 1) multiplicative_decides

  abbrev SignedRest : Derives Expression
  SignedRest = g.SignedNumber >>= (λ number. ProductRest (e.Literal number))

  signed_there : (ts : Lexemes) (x : Sign × Expression) (us : Lexemes) → (with_sign Plus <$> SignedRest) ts x us → g.SignedProduct Expression' ts x us
  signed_there ts x us h =
      let r = h.reads in
      let q = r.goes in
      record { first = r.first; mid = r.mid; reads = r.reads; goes = record { first = q.first; mid = q.mid; reads = q.reads; goes = (ap (with_sign Plus) q.goes.0 ∙ h.goes.0, q.goes.1 ∙ h.goes.1) } }

  signed_back : (ts : Lexemes) (x : Sign × Expression) (us : Lexemes) → g.SignedProduct Expression' ts x us → (with_sign Plus <$> SignedRest) ts x us
  signed_back ts x us h =
      let q = h.goes in
      record { first = chain e.Product (e.Literal h.first) q.first; mid = q.mid; reads = record { first = h.first; mid = h.mid; reads = h.reads; goes = record { first = q.first; mid = q.mid; reads = q.reads; goes = (refl, refl) } }; goes = q.goes }

  signed_product_decides : Decides (steps.◌<$>◌ (with_sign Plus) (read.signed_product expression)) (g.SignedProduct Expression') (above 1)
  unfolding read.signed_product
  signed_product_decides = also _ _ _ (above 1) (last (with_sign Plus) _ _ (above 1) (seq _ _ _ _ (above 1) signed_decides (λ number. product_decides (e.Literal number)))) signed_there signed_back

  abbrev Addend : Derives (Sign × Expression)
  Addend = g.SignAndProduct Expression' ∣ g.SignedProduct Expression'

  addend_sound : (o : Option Sign) (ts : Lexemes) (x : Sign × Expression) (us : Lexemes) → sign_by (next_terminal ts) ≡ o → read.addend_by expression o ts ≡ Some (x, us) → Addend ts x us
  addend_sound (Some sign) ts x us q h = inl (chosen_sound sign_by g.ASign sign_choice _ _ (above 1) behind_sign sign ts x us q h)
  addend_sound None ts x us q h = inr (signed_product_decides.sound ts x us h)

  addend_complete : (ts : Lexemes) (x : Sign × Expression) (us : Lexemes) → Addend ts x us → above 1 us ≡ true → read.addend_by expression (sign_by (next_terminal ts)) ts ≡ Some (x, us)
  addend_complete ts x us (inl h) a = rw (choice_is sign_by g.ASign sign_choice ts h.first h.mid h.reads) (chosen_complete sign_by g.ASign sign_choice _ _ (above 1) behind_sign ts x us h a)
  addend_complete ts x us (inr h) a = rw (signed_no_sign (next_terminal ts) (signed_begins ts h.first h.mid h.reads)) (signed_product_decides.complete ts x us h a)

  addend_strict : (ts : Lexemes) (x : Sign × Expression) (us : Lexemes) → Addend ts x us → length us < length ts
  addend_strict ts x us (inl h) = chosen_strict sign_by g.ASign sign_choice _ _ (above 1) behind_sign ts x us h
  addend_strict ts x us (inr h) =
      let a = signed_strict ts h.first h.mid h.reads in
      let b = (product_decides (e.Literal h.first)).shorter h.mid (chain e.Product (e.Literal h.first) h.goes.first) h.goes.mid (record { first = h.goes.first; mid = h.goes.mid; reads = h.goes.reads; goes = (refl, refl) }) in
      omega (arith, ap length h.goes.goes.1)

  addend_begins : (ts : Lexemes) (x : Sign × Expression) (us : Lexemes) → Addend ts x us → sees_addend ts ≡ true
  addend_begins ts x us (inl h) = sign_addend (next_terminal ts) h.first (choice_is sign_by g.ASign sign_choice ts h.first h.mid h.reads)
  addend_begins ts x us (inr h) = signed_addend (next_terminal ts) (signed_begins ts h.first h.mid h.reads)

  addend_decides : Decides (read.addend expression) Addend (above 1)
  unfolding read.addend
  addend_decides = record {
    sound = λ ts x us h. addend_sound (sign_by (next_terminal ts)) ts x us refl h;
    complete = addend_complete;
    shorter = λ ts x us h. let a = addend_strict ts x us h in omega arith;
  }

  addend_starts : (ts : Lexemes) (xs : List (Sign × Expression)) (us : Lexemes) → grammar.one Addend ts xs us → (sees_addend ts ≡ true) × (length us < length ts)
  addend_starts ts xs us h = let a = addend_strict ts h.first h.mid h.reads in (addend_begins ts h.first h.mid h.reads, omega (arith, ap length h.goes.1))

  addends_decide : Decides (reading.repeat sees_addend (reading.one (read.addend expression))) (Star (grammar.one Addend)) (above 2)
  addends_decide = repeat_decides sees_addend _ _ (above 1) (above 2) (one_decides _ _ (above 1) addend_decides) addend_starts no_addend (wider 1 2 (omega arith)) addend_above

  addends_begin : (ts : Lexemes) (xs : List (Sign × Expression)) (us : Lexemes) → Star (grammar.one Addend) ts xs us → above 2 us ≡ true → above 1 ts ≡ true
  addends_begin ts xs us stop h = wider 1 2 (omega arith) ts h
  addends_begin ts xs us (more {mid = mid} {x = x} r s) h = addend_above ts (addend_starts ts x mid r).0

  additive_decides : Decides (read.additive expression) (g.AdditiveExpression Expression') (above 2)
  unfolding read.additive
  additive_decides =
      then_decides _ _ _ _ (above 1) (above 2) multiplicative_decides
      (λ first. then_decides _ _ _ _ (above 2) (above 2) addends_decide (λ others. pure_decides (sum first others) (above 2)) (λ a mid b us h e. rw h.1 e))
      (λ a mid b us h e. addends_begin mid h.first h.mid h.reads (rw h.goes.1 e))

  -- ---- comparisons

  module _ (left : Expression) where
    right_decides : (operator : Comparison) → Decides (steps.◌<$>◌ (e.Compare operator left) (read.additive expression)) (e.Compare operator left <$> g.AdditiveExpression Expression') (above 2)
    right_decides operator = last (e.Compare operator left) _ _ (above 2) additive_decides

    abbrev ComparedOrNot : Derives Expression
    ComparedOrNot = g.Compared Expression' left ∣ pure left

    compared_sound : (o : Option Comparison) (ts : Lexemes) (x : Expression) (us : Lexemes) → comparison_by (next_terminal ts) ≡ o → read.compared expression left o ts ≡ Some (x, us) → ComparedOrNot ts x us
    compared_sound (Some operator) ts x us q h = inl (chosen_sound comparison_by g.AComparison comparison_choice _ _ (above 2) right_decides operator ts x us q h)
    compared_sound None ts x us q h = inr (some_pair left x ts us h)

    compared_complete : (ts : Lexemes) (x : Expression) (us : Lexemes) → ComparedOrNot ts x us → above 3 us ≡ true → read.compared expression left (comparison_by (next_terminal ts)) ts ≡ Some (x, us)
    compared_complete ts x us (inl h) a =
        rw (choice_is comparison_by g.AComparison comparison_choice ts h.first h.mid h.reads)
        (chosen_complete comparison_by g.AComparison comparison_choice _ _ (above 2) right_decides ts x us h (wider 2 3 (omega arith) us a))
    compared_complete ts x us (inr h) a = rw (h.1, no_comparison us a, h.0) refl

    compared_shorter : (ts : Lexemes) (x : Expression) (us : Lexemes) → ComparedOrNot ts x us → length us ≤ length ts
    compared_shorter ts x us (inl h) = let a = chosen_strict comparison_by g.AComparison comparison_choice _ _ (above 2) right_decides ts x us h in omega arith
    compared_shorter ts x us (inr h) = omega (arith, ap length h.1)

    compared_begins : (ts : Lexemes) (x : Expression) (us : Lexemes) → ComparedOrNot ts x us → above 3 us ≡ true → above 2 ts ≡ true
    compared_begins ts x us (inl h) a = comparison_above ts (next_terminal ts) refl h.first (choice_is comparison_by g.AComparison comparison_choice ts h.first h.mid h.reads)
    compared_begins ts x us (inr h) a = wider 2 3 (omega arith) ts (rw h.1 a)

    compared_decides : Decides (λ (ts : Lexemes). read.compared expression left (comparison_by (next_terminal ts)) ts) ComparedOrNot (above 3)
    compared_decides = record { sound = λ ts x us h. compared_sound (comparison_by (next_terminal ts)) ts x us refl h; complete = compared_complete; shorter = compared_shorter }

  relational_decides : Decides (read.relational expression) (g.RelationalExpression Expression') (above 3)
  unfolding read.relational
  relational_decides = then_decides _ _ _ _ (above 2) (above 3) additive_decides compared_decides (λ a mid b us h e. compared_begins a mid b us h e)

  -- ---- "&&" and "||"

  and_decides : Decides (read.conditional_and expression) (g.ConditionalAndExpression Expression') (above 4)
  unfolding read.conditional_and
  and_decides = chained terminal.And 3 (read.relational expression) (g.RelationalExpression Expression') (omega arith) relational_decides (chain e.And)

  pub or_decides : Decides (read.conditional_or expression) (g.ConditionalOrExpression Expression') (above 5)
  unfolding read.conditional_or
  or_decides = chained terminal.Or 4 (read.conditional_and expression) (g.ConditionalAndExpression Expression') (omega arith) and_decides (chain e.Or)

pub expression_decides : (depth : ℕ) → Decides (read.expression depth) (g.Expressions_at depth) (above 5)
unfolding read.expression
expression_decides zero = record { sound = λ ts x us h. absurd (cc); complete = λ ts x us h _. absurd h; shorter = λ ts x us h. absurd h }
expression_decides (suc depth) = or_decides (read.expression depth) (g.Expressions_at depth) (expression_decides depth)

-- what is read behind FILTER is what is derived
pub constraint_decides : (depth : ℕ) → Decides (read.constraint depth) (g.Constraint (g.Expressions_at depth)) always
constraint_decides depth = constraint_with_decides (read.expression depth) (g.Expressions_at depth) (expression_decides depth)

pub constraint_strict : (depth : ℕ) (ts : Lexemes) (x : Expression) (us : Lexemes) → g.Constraint (g.Expressions_at depth) ts x us → length us < length ts
constraint_strict depth = constraint_strict_with (read.expression depth) (g.Expressions_at depth) (expression_decides depth)
