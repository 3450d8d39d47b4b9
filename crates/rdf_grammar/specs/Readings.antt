-- Lists of lexemes of any type, and readings of their front.
use Rattle.std.specs.Prelude.{◌≡◌, ℕ, zero, suc, Bool, true, false, if◌then◌else◌, List, [], ◌∷◌, ◌++◌, length, drop}
use Rattle.std.specs.Prelude.{Option, Some, None, Result, Ok, Err}
use Rattle.rdf_grammar.specs.declared.fault.GrammarFault.{GrammarFault}
use Rattle.rdf_grammar.specs.declared.fault.GrammarFault.TheVariants.{Syntax, NoMemory}
use Rattle.rdf_grammar.specs.Steps as steps
use Rattle.rdf_grammar.specs.Steps.{◌>>=◌, ◌<$>◌, pure}

-- what is read at the front of the lexemes, and the lexemes left, or none
abbrev pub Outcome : Type 0 → Type 0 → Type 0
Outcome X A = steps.Outcome (List X) A

-- A reading: from lexemes to what their front is read as.
abbrev pub Reading : Type 0 → Type 0 → Type 0
Reading X A = steps.Step (List X) A

-- a look at the lexemes left
abbrev pub Test : Type 0 → Type 0
Test X = List X → Bool

abbrev pub is_nil : {A : Type 0} → List A → Bool
is_nil [] = true
is_nil (x ∷ xs) = false

abbrev pub is_more : {X : Type 0} → Test X
is_more [] = false
is_more (t ∷ ts) = true

abbrev pub next : {X : Type 0} → List X → List X
next ts = drop 1 ts

-- any lexeme
unfoldable pub any : {X : Type 0} → Reading X (Unit {0})
any [] = None
any (t ∷ ts) = Some (tt, ts)

-- the list of the one tree that p reads
abbrev pub one : {X A : Type 0} → Reading X A → Reading X (List A)
one p = (λ x. x ∷ []) <$> p

-- ( p )?, where the next lexemes pass the test
abbrev pub optional : {X A : Type 0} → Test X → Reading X A → Reading X (Option A)
optional test p = λ ts. if test ts then (Some <$> p) ts else Some (None, ts)

-- p where the next lexemes pass the test, and q where they don't
abbrev pub choose : {X A : Type 0} → Test X → Reading X A → Reading X A → Reading X A
choose test p q = λ ts. if test ts then p ts else q ts

abbrev pub repeat_within : {X A : Type 0} → ℕ → Test X → Reading X (List A) → Reading X (List A)
repeat_within zero test p = pure []
repeat_within (suc n) test p = λ ts.
    if test ts then (do first ← p; others ← repeat_within n test p; pure (first ++ others)) ts else Some ([], ts)

-- ( p )*, as long as the next lexemes pass the test. Each turn takes a lexeme, so that their number bounds the turns.
unfoldable pub repeat : {X A : Type 0} → Test X → Reading X (List A) → Reading X (List A)
repeat test p = λ ts. repeat_within (length ts) test p ts

-- what a fault says of the outcome of a reading; want of memory says nothing
abbrev pub Fails : {X A : Type 0} → Outcome X A → GrammarFault → Type 0
Fails outcome Syntax = outcome ≡ None
Fails outcome (NoMemory refusal) = Unit {0}

-- what a function that reads returns, and the lexemes that it leaves: the outcome of the reading, unless memory is wanting
abbrev pub Reads : {X A : Type 0} → Outcome X A → Result A GrammarFault → List X → Type 0
Reads outcome (Ok a) new = outcome ≡ Some (a, new)
Reads outcome (Err e) new = Fails outcome e
