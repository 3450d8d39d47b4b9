-- What is read behind FILTER is what is derived, and nothing else is.
use Rattle.std.proofs.Common.{◌∙◌, sym, refl, ℕ, zero, suc, ◌+◌, ◌-◌, ◌≤◌, [], ◌∷◌, length, take, arith}
use Rattle.rdf_grammar.specs.declared.bracket.Bracket.{Bracket}
use Rattle.rdf_grammar.specs.declared.bracket.Bracket.TheVariants.{Opens, Closes, Neither}
use Rattle.rdf_grammar.specs.Nesting.{behind_bracket, open_behind, open_after}
use Rattle.rdf_grammar.proofs.CallerLemmas.{some_pair, Keeps}
use Rattle.sparql_terminals.specs.Lexemes.{Lexemes}
use Rattle.sparql_terminals.specs.Terminals.{bracket}
use Rattle.sparql_expressions.specs.declared.tree.Expression.{Expression}
use Rattle.sparql_expressions.specs.ExpressionGrammar.{Constraint, Expressions_at}
use Rattle.sparql_expressions.specs.ExpressionLaws.{ConstraintsAreRead, IsConstraint, OneConstraint}
use Rattle.sparql_expressions.proofs.Expressions.{constraint_decides}
use Rattle.sparql_expressions.proofs.ExpressionNests.{constraint_keeps}

pub constraints_are_read : ConstraintsAreRead
constraints_are_read depth ts x us = ((constraint_decides depth).sound ts x us, λ d. (constraint_decides depth).complete ts x us d refl)

-- no more brackets are open than there are lexemes

one_more : (n : ℕ) (b : Bracket) → behind_bracket n b ≤ n + 1
one_more n Opens = omega arith
one_more n Closes = omega arith
one_more n Neither = omega arith

open_few : (n : ℕ) (ts : Lexemes) (b : ℕ) → open_after bracket b (take n ts) ≤ b + length ts
open_few zero ts b = omega arith
open_few (suc n) [] b = omega arith
open_few (suc n) (t ∷ ts) b =
    let h = open_few n ts (open_behind bracket b t.terminal) in
    let k = one_more b (bracket t.terminal) in
    omega arith

-- what is derived at some depth is derived as deep as there are lexemes
deep_enough : (ts : Lexemes) (x : Expression) (us : Lexemes) → IsConstraint ts x us → Constraint (Expressions_at (length ts - 0)) ts x us
unfolding Keeps
deep_enough ts x us h = (constraint_keeps (length ts) h.0 0 ts x us h.1 (record { at = λ n. let few = open_few n ts 0 in omega arith })).0

pub one_constraint : OneConstraint
one_constraint ts x y us vs h j =
    let a = (constraint_decides (length ts - 0)).complete ts x us (deep_enough ts x us h) refl in
    let b = (constraint_decides (length ts - 0)).complete ts y vs (deep_enough ts y vs j) refl in
    some_pair x y us vs (sym a ∙ b)
