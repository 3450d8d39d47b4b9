-- What may stand behind each production of an expression: no lexeme that binds what stands before it more tightly.
use Rattle.std.proofs.Common.{◌≡◌, ℕ, ◌<◌, ◌≤◌, Bool, true, false, List, Option, Some, None, refl, arith}
use Rattle.std.specs.Prelude.{nat_lt}
use Rattle.std.proofs.lemmas.Bool.{ltb-true, lt-ltb}
use Rattle.rdf_grammar.specs.Steps as steps
use Rattle.rdf_grammar.specs.Terminals.{next_terminal}
use Rattle.rdf_grammar.specs.Derivations as grammar
use Rattle.rdf_grammar.specs.Derivations.{Then, Star, stop, more}
use Rattle.rdf_grammar.proofs.CallerLemmas.{Decides, then_decides, pure_decides, MayPart, each_behind_decides, each_behind_begins}
use Rattle.sparql_terminals.specs.declared.terminal.Terminal.{Terminal}
use Rattle.sparql_terminals.specs.declared.terminal.Terminal.TheVariants as terminal
use Rattle.sparql_terminals.specs.Lexemes as lexemes
use Rattle.sparql_terminals.specs.Lexemes.{Lexemes, Reading, Derives, Test, sees}
use Rattle.sparql_terminals.specs.Terminals.{same_terminal, apart}
use Rattle.sparql_terminals.proofs.CallerLemmas.{ends_node, after_node}
use Rattle.sparql_trees.specs.declared.expression.Comparison.{Comparison}
use Rattle.sparql_expressions.specs.ExpressionReading.{comparison_by, begins_addend, sees_addend}

-- how loosely a terminal binds what stands before it
abbrev pub binds : Option Terminal → ℕ
binds (Some terminal.AtWord) = 0
binds (Some terminal.Caret) = 0
binds (Some terminal.Star) = 1
binds (Some terminal.Plus) = 2
binds (Some terminal.Minus) = 2
binds (Some terminal.SignedInteger) = 2
binds (Some terminal.SignedDecimal) = 2
binds (Some terminal.SignedDouble) = 2
binds (Some terminal.Equal) = 3
binds (Some terminal.NotEqual) = 3
binds (Some terminal.Less) = 3
binds (Some terminal.Greater) = 3
binds (Some terminal.LessOrEqual) = 3
binds (Some terminal.GreaterOrEqual) = 3
binds (Some terminal.And) = 4
binds (Some terminal.Or) = 5
binds _ = 6

abbrev pub looser : ℕ → Option Terminal → Bool
looser n k = nat_lt n (binds k)

-- behind it stands what binds more loosely
abbrev pub above : ℕ → Test
above n us = looser n (next_terminal us)

below_no_more : (m n : ℕ) → m ≤ n → nat_lt n m ≡ true → ⊥
below_no_more m n l h = let x : n < m = ltb-true n m h in omega arith

lt_is : (m n : ℕ) → m < n → nat_lt m n ≡ true
lt_is m n h = lt-ltb m n h

-- a list of Bools has no third
not_looser : (n m : ℕ) → m ≤ n → nat_lt n m ≡ false
not_looser n m l = at (nat_lt n m) refl
  where
    at : (b : Bool) → nat_lt n m ≡ b → nat_lt n m ≡ false
    at false e = e
    at true e = absurd (below_no_more m n l e)

wider_at : (m n : ℕ) → m ≤ n → (k : Option Terminal) → looser n k ≡ true → looser m k ≡ true
wider_at m n l k h = let x : n < binds k = ltb-true n _ h in lt_is m _ (omega arith)

pub wider : (m n : ℕ) → m ≤ n → (us : Lexemes) → above n us ≡ true → above m us ≡ true
wider m n l us h = wider_at m n l (next_terminal us) h

-- ---- literals, operands of sums, comparisons

pub no_suffix : (us : Lexemes) → above 0 us ≡ true → after_node us ≡ true
no_suffix us h = at (next_terminal us) h
  where
    at : (k : Option Terminal) → looser 0 k ≡ true → ends_node k ≡ true
    at (Some terminal.AtWord) h = absurd (cc)
    at (Some terminal.Caret) h = absurd (cc)
    at _ h = refl

pub addend_above : (us : Lexemes) → sees_addend us ≡ true → above 1 us ≡ true
addend_above us h = at (next_terminal us) h
  where
    at : (k : Option Terminal) → begins_addend k ≡ true → looser 1 k ≡ true
    at (Some terminal.Plus) h = refl
    at (Some terminal.Minus) h = refl
    at (Some terminal.SignedInteger) h = refl
    at (Some terminal.SignedDecimal) h = refl
    at (Some terminal.SignedDouble) h = refl
    at _ h = absurd (cc)

pub no_addend : (us : Lexemes) → above 2 us ≡ true → sees_addend us ≡ false
no_addend us h = at (next_terminal us) h
  where
    at : (k : Option Terminal) → looser 2 k ≡ true → begins_addend k ≡ false
    at (Some terminal.Plus) h = absurd (cc)
    at (Some terminal.Minus) h = absurd (cc)
    at (Some terminal.SignedInteger) h = absurd (cc)
    at (Some terminal.SignedDecimal) h = absurd (cc)
    at (Some terminal.SignedDouble) h = absurd (cc)
    at _ h = refl

pub no_comparison : (us : Lexemes) → above 3 us ≡ true → comparison_by (next_terminal us) ≡ None
no_comparison us h = at (next_terminal us) h
  where
    at : (k : Option Terminal) → looser 3 k ≡ true → comparison_by k ≡ None
    at (Some terminal.Equal) h = absurd (cc)
    at (Some terminal.NotEqual) h = absurd (cc)
    at (Some terminal.Less) h = absurd (cc)
    at (Some terminal.Greater) h = absurd (cc)
    at (Some terminal.LessOrEqual) h = absurd (cc)
    at (Some terminal.GreaterOrEqual) h = absurd (cc)
    at _ h = refl

pub comparison_above : (us : Lexemes) (k : Option Terminal) → next_terminal us ≡ k → (operator : Comparison) → comparison_by k ≡ Some operator → above 2 us ≡ true
comparison_above us (Some terminal.Equal) q operator h = rw q refl
comparison_above us (Some terminal.NotEqual) q operator h = rw q refl
comparison_above us (Some terminal.Less) q operator h = rw q refl
comparison_above us (Some terminal.Greater) q operator h = rw q refl
comparison_above us (Some terminal.LessOrEqual) q operator h = rw q refl
comparison_above us (Some terminal.GreaterOrEqual) q operator h = rw q refl
comparison_above us _ q operator h = absurd (cc)

-- ---- a chain: ( k P )*

module _ {A : Type 0} (k : Terminal) (n : ℕ) (p : Reading A) (P : Derives A) (l : n < binds (Some k)) (d : Decides p P (above n)) where
  parts : MayPart k (looser n) (looser (binds (Some k)))
  parts = record { before = lt_is n (binds (Some k)) l; apart = not_looser (binds (Some k)) (binds (Some k)) (omega arith); goes = wider_at n (binds (Some k)) (omega arith) }

  pub others_decide : Decides (lexemes.each_behind k p) (grammar.EachBehind k P) (above (binds (Some k)))
  others_decide = each_behind_decides same_terminal apart k p P (looser n) (looser (binds (Some k))) parts d

  others_begin : (ts : Lexemes) (xs : List A) (us : Lexemes) → grammar.EachBehind k P ts xs us → above (binds (Some k)) us ≡ true → above n ts ≡ true
  others_begin = each_behind_begins same_terminal apart k p P (looser n) (looser (binds (Some k))) parts d

  module _ {B : Type 0} (f : A → List A → B) where
    pub rest_decides : (first : A) → Decides (steps.◌>>=◌ (lexemes.each_behind k p) (λ others. steps.pure (f first others)))
        (Then (grammar.EachBehind k P) (λ others. grammar.pure (f first others))) (above (binds (Some k)))
    rest_decides first = then_decides _ _ _ _ (above (binds (Some k))) (above (binds (Some k))) others_decide (λ others. pure_decides (f first others) (above (binds (Some k)))) (λ a mid b us h e. rw h.1 e)

    pub rest_begins : (first : A) (ts : Lexemes) (b : B) (us : Lexemes) → Then (grammar.EachBehind k P) (λ others. grammar.pure (f first others)) ts b us → above (binds (Some k)) us ≡ true → above n ts ≡ true
    rest_begins first ts b us h e = others_begin ts h.first h.mid h.reads (rw h.goes.1 e)

    -- first ( k first )*
    pub chained : Decides (steps.◌>>=◌ p (λ first. steps.◌>>=◌ (lexemes.each_behind k p) (λ others. steps.pure (f first others))))
        (Then P (λ first. Then (grammar.EachBehind k P) (λ others. grammar.pure (f first others)))) (above (binds (Some k)))
    chained = then_decides _ _ _ _ (above n) (above (binds (Some k))) d rest_decides (λ a mid b us h e. rest_begins a mid b us h e)
