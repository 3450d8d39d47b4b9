-- Words of one lexeme each, of which the next lexeme chooses one.
use Rattle.std.proofs.Common.{◌≡◌, ◌<◌, true, [], ◌∷◌, length, Option, Some, refl, ap, ◌∙◌, arith, inl, inr}
use Rattle.rdf_grammar.specs.Steps as steps
use Rattle.rdf_grammar.specs.Readings.{any}
use Rattle.rdf_grammar.specs.Terminals.{next_terminal}
use Rattle.rdf_grammar.specs.Derivations as grammar
use Rattle.rdf_grammar.specs.Derivations.{Then}
use Rattle.rdf_grammar.proofs.CallerLemmas.{Decides}
use Rattle.sparql_terminals.specs.declared.terminal.Terminal.{Terminal}
use Rattle.sparql_terminals.specs.declared.terminal.Terminal.TheVariants as terminal
use Rattle.sparql_terminals.specs.Lexemes.{Lexeme, Lexemes, Reading, Derives, Test}
use Rattle.sparql_trees.specs.declared.expression.Comparison.{Comparison}
use Rattle.sparql_trees.specs.declared.expression.Comparison.TheVariants as c
use Rattle.sparql_trees.specs.declared.expression.Function.{Function}
use Rattle.sparql_trees.specs.declared.expression.Function.TheVariants as f
use Rattle.sparql_trees.specs.declared.expression.Sign.{Sign}
use Rattle.sparql_trees.specs.declared.expression.Sign.TheVariants as s
use Rattle.sparql_expressions.specs.ExpressionGrammar as g
use Rattle.sparql_expressions.specs.ExpressionReading.{comparison_by, sign_by, function_by}

-- one lexeme, which stands for this
abbrev pub Picks : {A : Type 0} → (Option Terminal → Option A) → Derives A
Picks by ts x us = (t : Lexeme) × (by (Some t.terminal) ≡ Some x) × (ts ≡ t ∷ us)

pub record IsChoice {A : Type 0} (by : Option Terminal → Option A) (P : Derives A) : Type 0 where
  pub picks : (ts : Lexemes) (x : A) (us : Lexemes) → P ts x us → Picks by ts x us
  pub from : (t : Lexeme) (x : A) (us : Lexemes) → by (Some t.terminal) ≡ Some x → P (t ∷ us) x us

-- a lexeme of a terminal that stands for this
closed_picks : {A : Type 0} (by : Option Terminal → Option A) (k : Terminal) (a : A) → by (Some k) ≡ Some a
    → (ts : Lexemes) (x : A) (us : Lexemes) → grammar.◌>>◌ (grammar.the k) (grammar.pure a) ts x us → Picks by ts x us
closed_picks by k a e ts x us h = (h.reads.0, ap (λ j. by (Some j)) h.reads.1 ∙ e ∙ ap Some h.goes.0, h.reads.2 ∙ ap (λ vs. h.reads.0 ∷ vs) h.goes.1)

closed_from : {A : Type 0} (k : Terminal) (a x : A) (t : Lexeme) (us : Lexemes) → t.terminal ≡ k → Some a ≡ Some x → grammar.◌>>◌ (grammar.the k) (grammar.pure a) (t ∷ us) x us
closed_from k a x t us e h = record { first = tt; mid = us; reads = (t, e, refl); goes = (cc, refl) }

module _ {A : Type 0} (by : Option Terminal → Option A) (P : Derives A) (choice : IsChoice by P) where
  pub choice_strict : (ts : Lexemes) (x : A) (us : Lexemes) → P ts x us → length us < length ts
  choice_strict ts x us h = omega (arith, ap length (choice.picks ts x us h).2)

  pub choice_is : (ts : Lexemes) (x : A) (us : Lexemes) → P ts x us → by (next_terminal ts) ≡ Some x
  choice_is ts x us h = let p = choice.picks ts x us h in ap (λ l. by (next_terminal l)) p.2 ∙ p.1

  module _ {B : Type 0} (p : A → Reading B) (F : A → Derives B) (ends : Test) (d : (a : A) → Decides (p a) (F a) ends) where
    pub chosen_sound : (a : A) (ts : Lexemes) (b : B) (us : Lexemes) → by (next_terminal ts) ≡ Some a → steps.◌>>◌ any (p a) ts ≡ Some (b, us) → Then P F ts b us
    unfolding any
    chosen_sound a [] b us q h = absurd (cc)
    chosen_sound a (t ∷ ts) b us q h = record { first = a; mid = ts; reads = choice.from t a ts q; goes = (d a).sound ts b us h }

    passed : (a : A) (t : Lexeme) (mid : Lexemes) → steps.◌>>◌ any (p a) (t ∷ mid) ≡ p a mid
    unfolding any
    passed a t mid = refl

    pub chosen_complete : (ts : Lexemes) (b : B) (us : Lexemes) (h : Then P F ts b us) → ends us ≡ true → steps.◌>>◌ any (p h.first) ts ≡ Some (b, us)
    chosen_complete ts b us h e =
        let front = choice.picks ts h.first h.mid h.reads in
        ap (steps.◌>>◌ any (p h.first)) front.2 ∙ passed h.first front.0 h.mid ∙ (d h.first).complete h.mid b us h.goes e

    pub chosen_strict : (ts : Lexemes) (b : B) (us : Lexemes) → Then P F ts b us → length us < length ts
    chosen_strict ts b us h = let a = choice_strict ts h.first h.mid h.reads in let z = (d h.first).shorter h.mid b us h.goes in omega arith

-- ---- comparison

comparison_picks : (ts : Lexemes) (x : Comparison) (us : Lexemes) → g.AComparison ts x us → Picks comparison_by ts x us
comparison_picks ts x us (inl h) = closed_picks comparison_by terminal.Equal c.Equal refl ts x us h
comparison_picks ts x us (inr (inl h)) = closed_picks comparison_by terminal.NotEqual c.NotEqual refl ts x us h
comparison_picks ts x us (inr (inr (inl h))) = closed_picks comparison_by terminal.Less c.Less refl ts x us h
comparison_picks ts x us (inr (inr (inr (inl h)))) = closed_picks comparison_by terminal.Greater c.Greater refl ts x us h
comparison_picks ts x us (inr (inr (inr (inr (inl h))))) = closed_picks comparison_by terminal.LessOrEqual c.LessOrEqual refl ts x us h
comparison_picks ts x us (inr (inr (inr (inr (inr h))))) = closed_picks comparison_by terminal.GreaterOrEqual c.GreaterOrEqual refl ts x us h

comparison_from : (k : Terminal) (t : Lexeme) (x : Comparison) (us : Lexemes) → t.terminal ≡ k → comparison_by (Some k) ≡ Some x → g.AComparison (t ∷ us) x us
comparison_from terminal.Equal t x us e q = inl (closed_from terminal.Equal c.Equal x t us e q)
comparison_from terminal.NotEqual t x us e q = inr (inl (closed_from terminal.NotEqual c.NotEqual x t us e q))
comparison_from terminal.Less t x us e q = inr (inr (inl (closed_from terminal.Less c.Less x t us e q)))
comparison_from terminal.Greater t x us e q = inr (inr (inr (inl (closed_from terminal.Greater c.Greater x t us e q))))
comparison_from terminal.LessOrEqual t x us e q = inr (inr (inr (inr (inl (closed_from terminal.LessOrEqual c.LessOrEqual x t us e q)))))
comparison_from terminal.GreaterOrEqual t x us e q = inr (inr (inr (inr (inr (closed_from terminal.GreaterOrEqual c.GreaterOrEqual x t us e q)))))
comparison_from _ t x us e q = absurd (cc)

pub comparison_choice : IsChoice comparison_by g.AComparison
comparison_choice = record { picks = comparison_picks; from = λ t x us q. comparison_from t.terminal t x us refl q }

-- ---- sign

sign_picks : (ts : Lexemes) (x : Sign) (us : Lexemes) → g.ASign ts x us → Picks sign_by ts x us
sign_picks ts x us (inl h) = closed_picks sign_by terminal.Plus s.Plus refl ts x us h
sign_picks ts x us (inr h) = closed_picks sign_by terminal.Minus s.Minus refl ts x us h

sign_from : (k : Terminal) (t : Lexeme) (x : Sign) (us : Lexemes) → t.terminal ≡ k → sign_by (Some k) ≡ Some x → g.ASign (t ∷ us) x us
sign_from terminal.Plus t x us e q = inl (closed_from terminal.Plus s.Plus x t us e q)
sign_from terminal.Minus t x us e q = inr (closed_from terminal.Minus s.Minus x t us e q)
sign_from _ t x us e q = absurd (cc)

pub sign_choice : IsChoice sign_by g.ASign
sign_choice = record { picks = sign_picks; from = λ t x us q. sign_from t.terminal t x us refl q }

-- ---- function

function_picks : (ts : Lexemes) (x : Function) (us : Lexemes) → g.AFunction ts x us → Picks function_by ts x us
function_picks ts x us (inl h) = closed_picks function_by terminal.IsIri f.IsIri refl ts x us h
function_picks ts x us (inr (inl h)) = closed_picks function_by terminal.IsUri f.IsIri refl ts x us h
function_picks ts x us (inr (inr (inl h))) = closed_picks function_by terminal.IsBlank f.IsBlank refl ts x us h
function_picks ts x us (inr (inr (inr (inl h)))) = closed_picks function_by terminal.IsLiteral f.IsLiteral refl ts x us h
function_picks ts x us (inr (inr (inr (inr (inl h))))) = closed_picks function_by terminal.Str f.Str refl ts x us h
function_picks ts x us (inr (inr (inr (inr (inr (inl h)))))) = closed_picks function_by terminal.Lang f.Lang refl ts x us h
function_picks ts x us (inr (inr (inr (inr (inr (inr h)))))) = closed_picks function_by terminal.Datatype f.Datatype refl ts x us h

function_from : (k : Terminal) (t : Lexeme) (x : Function) (us : Lexemes) → t.terminal ≡ k → function_by (Some k) ≡ Some x → g.AFunction (t ∷ us) x us
function_from terminal.IsIri t x us e q = inl (closed_from terminal.IsIri f.IsIri x t us e q)
function_from terminal.IsUri t x us e q = inr (inl (closed_from terminal.IsUri f.IsIri x t us e q))
function_from terminal.IsBlank t x us e q = inr (inr (inl (closed_from terminal.IsBlank f.IsBlank x t us e q)))
function_from terminal.IsLiteral t x us e q = inr (inr (inr (inl (closed_from terminal.IsLiteral f.IsLiteral x t us e q))))
function_from terminal.Str t x us e q = inr (inr (inr (inr (inl (closed_from terminal.Str f.Str x t us e q)))))
function_from terminal.Lang t x us e q = inr (inr (inr (inr (inr (inl (closed_from terminal.Lang f.Lang x t us e q))))))
function_from terminal.Datatype t x us e q = inr (inr (inr (inr (inr (inr (closed_from terminal.Datatype f.Datatype x t us e q))))))
function_from _ t x us e q = absurd (cc)

pub function_choice : IsChoice function_by g.AFunction
function_choice = record { picks = function_picks; from = λ t x us q. function_from t.terminal t x us refl q }
