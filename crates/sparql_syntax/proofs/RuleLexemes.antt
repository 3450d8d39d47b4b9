-- The lexemes that break a static rule: one does just where what the rule asks of is answered with no.
use Rattle.std.proofs.Common.{◌≡◌, ◌<◌, ◌+◌, ◌∙◌, ap, refl, sym, ℕ, suc, Bool, true, false, cond, ◌&&◌, ◌||◌, not, [], ◌∷◌, ◌++◌, length, Option, Some, None, arith, true≢false}
use Rattle.std.proofs.lemmas.Bool.{and_parts}
use Rattle.std.specs.List.{list_all, AllByRecursion}
use Rattle.rdf_grammar.specs.Terminals.{Slice, next_terminal}
use Rattle.rdf_grammar.specs.declared.tree.Name.{Name}
use Rattle.sparql_terminals.specs.declared.terminal.Terminal.{Terminal}
use Rattle.sparql_terminals.specs.declared.terminal.Terminal.TheVariants as terminal
use Rattle.sparql_terminals.specs.Lexemes.{Lexeme, Lexemes}
use Rattle.sparql_syntax.specs.declared.clause.Clause.{Clause}
use Rattle.sparql_syntax.specs.declared.clause.Clause.TheVariants as clause
use Rattle.sparql_syntax.specs.declared.fault.SyntaxFaultKind.{SyntaxFaultKind}
use Rattle.sparql_syntax.specs.BrokenRules.{breaks, breaking_from, subject_behind}
use Rattle.sparql_syntax.specs.Clauses.{behind_brace, clause_behind}
use Rattle.sparql_syntax.proofs.QuestionFronts.{Value, Front, start, opened, asked, asks_front, flag}
use Rattle.sparql_syntax.proofs.SharedLabels.{or_yes}
use Rattle.sparql_syntax.proofs.TripleQuestions.{Question}
use Rattle.sparql_syntax.proofs.TriplesSaid.{Sound}

-- some lexeme breaks the rule
abbrev pub broken : SyntaxFaultKind → Clause → Bool → Lexemes → Bool
broken kind c s [] = false
broken kind c s (t ∷ ts) = breaks kind c s t.terminal (next_terminal ts) || broken kind (clause_behind c t.terminal) (subject_behind t.terminal) ts

-- the search ends early just where one does
pub record Same (n size : ℕ) (b : Bool) : Type 0 where
  pub comes : n < size → b ≡ true
  pub goes : b ≡ true → n < size

one_more : (a b : Bool) (n size : ℕ) → Same n size b → Same (cond a 0 (n + 1)) (suc size) (a || b)
one_more true b n size h = record { comes = λ lt. refl; goes = λ e. omega arith }
one_more false b n size h = record { comes = λ lt. h.comes (omega (arith, lt)); goes = λ e. (let short = h.goes e in omega (arith, short)) }

pub searched : (kind : SyntaxFaultKind) (ts : Lexemes) (c : Clause) (s : Bool) → Same (breaking_from kind c s ts) (length ts) (broken kind c s ts)
searched kind [] c s = record { comes = λ lt. absurd (omega (arith, lt)); goes = λ e. absurd (true≢false (sym e)) }
searched kind (t ∷ ts) c s =
    one_more (breaks kind c s t.terminal (next_terminal ts)) (broken kind (clause_behind c t.terminal) (subject_behind t.terminal) ts) (breaking_from kind (clause_behind c t.terminal) (subject_behind t.terminal) ts) (length ts)
    (searched kind ts (clause_behind c t.terminal) (subject_behind t.terminal))

-- the clauses that a rule asks of, and what it asks
pub record Rule : Type 0 where
  pub kind : SyntaxFaultKind
  pub asks : Clause → Bool
  pub question : Question
  pub sound : Sound question
  pub lax : sound.strict ≡ false
  pub names : (name : Name) → question.name name ≡ true
  pub words : question.word ≡ true
  pub inserts : asks clause.Insert ≡ false
  pub patterns : asks clause.Pattern ≡ false
  pub deletes : asks clause.DeleteTemplate ≡ asks clause.DeleteWhere
  pub is : (c : Clause) (s : Bool) (k : Terminal) (text : Slice) (next : Option Terminal) → breaks kind c s k next ≡ (asks c && not (asked question s k text next))

-- ---- lexemes that leave a clause as it is

abbrev pub is_steady : Terminal → Bool
is_steady terminal.Base = false
is_steady terminal.Prefix = false
is_steady terminal.Insert = false
is_steady terminal.Delete = false
is_steady terminal.Data = false
is_steady terminal.Where = false
is_steady _ = true

abbrev pub all_steady : Lexemes → Bool
all_steady f = list_all (λ t. is_steady t.terminal) f

steady : (c : Clause) (k : Terminal) → behind_brace c ≡ c → is_steady k ≡ true → clause_behind c k ≡ c
steady c terminal.Insert brace e = absurd (true≢false (sym e))
steady c terminal.Delete brace e = absurd (true≢false (sym e))
steady c terminal.Data brace e = absurd (true≢false (sym e))
steady c terminal.Where brace e = absurd (true≢false (sym e))
steady c terminal.OpenBrace brace e = brace
steady c _ brace e = refl

-- none of them leads to another clause
abbrev pub Stays : Clause → Lexemes → Type 0
Stays c f = AllByRecursion (λ t. clause_behind c t.terminal ≡ c) f

pub all_stay : (c : Clause) → behind_brace c ≡ c → (f : Lexemes) → all_steady f ≡ true → Stays c f
all_stay c brace [] e = tt
all_stay c brace (t ∷ f) e = (let parts = and_parts (is_steady t.terminal) (all_steady f) e in (steady c t.terminal brace parts.0, all_stay c brace f parts.1))

-- all is answered with yes, but perhaps of words
abbrev yes : Bool → Question
yes b = record { name = λ _. true; variable = true; label = λ _. true; blank = true; literal = true; word = b }

pub opened_yes : (next : Option Terminal) → opened true next ≡ true
opened_yes None = refl
opened_yes (Some terminal.Close) = refl
opened_yes (Some _) = refl

yes_asked : (b s : Bool) (k : Terminal) (text : Slice) (next : Option Terminal) → asked (yes b) s k text next ≡ (is_steady k || b)
yes_asked b s terminal.Open text next = opened_yes next
yes_asked b s _ text next = refl

yes_asks : (b s : Bool) (f us : Lexemes) → asks_front (yes b) s f us ≡ list_all (λ t. is_steady t.terminal || b) f
yes_asks b s [] us = refl
yes_asks b s (t ∷ f) us =
    ap (λ (z : Bool). z && asks_front (yes b) (subject_behind t.terminal) f us) (yes_asked b s t.terminal t.text (next_terminal (f ++ us)))
    ∙ ap (λ (z : Bool). (is_steady t.terminal || b) && z) (yes_asks b (subject_behind t.terminal) f us)

all_yes : (f : Lexemes) → list_all (λ t. is_steady t.terminal || true) f ≡ true
all_yes [] = refl
all_yes (t ∷ f) = ap (λ (z : Bool). z && list_all (λ t. is_steady t.terminal || true) f) (or_yes (is_steady t.terminal)) ∙ all_yes f

all_still : (f : Lexemes) → list_all (λ t. is_steady t.terminal || false) f ≡ all_steady f
all_still [] = refl
all_still (t ∷ f) = ap (λ (z : Bool). z && list_all (λ t. is_steady t.terminal || false) f) (by (is_steady t.terminal)) ∙ ap (λ (z : Bool). is_steady t.terminal && z) (all_still f)
  where
    by : (b : Bool) → (b || false) ≡ b
    by true = refl
    by false = refl

-- in a tree in which no word is asked there is none
pub front_steady : {A : Type 0} (s e : Bool) (value : A → Value) (ts : Lexemes) (x : A) (us : Lexemes) (r : Front s e start value ts x us) → value x (yes false) ≡ value x (yes true) → all_steady r.front ≡ true
front_steady s e value ts x us r same =
    sym (all_still r.front) ∙ sym (yes_asks false s r.front us) ∙ r.says (yes false) ∙ same ∙ sym (r.says (yes true)) ∙ yes_asks true s r.front us ∙ all_yes r.front

-- ---- a rule, of lexemes in one clause

and_no : (b : Bool) → (b && false) ≡ false
and_no true = refl
and_no false = refl

joined : (a b c d : Bool) → ((a && not b) || ((a && not c) || d)) ≡ ((a && not (b && c)) || d)
joined true true c d = refl
joined true false c d = refl
joined false b c d = refl

module _ (r : Rule) where
  abbrev pub Broken : Clause → Bool → Lexemes → Bool
  Broken = broken r.kind

  -- behind a lexeme of which the rule asks nothing
  pub step_broken : (b c : Clause) (s : Bool) (k : Terminal) (t : Lexeme) (ts us : Lexemes) → clause_behind b k ≡ c → ((text : Slice) (next : Option Terminal) → asked r.question s k text next ≡ true) → t.terminal ≡ k → ts ≡ t ∷ us
      → Broken b s ts ≡ Broken c (subject_behind k) us
  step_broken b c s k t ts us behind none is at =
      ap (Broken b s) at
      ∙ ap (λ (j : Terminal). breaks r.kind b s j (next_terminal us) || Broken (clause_behind b j) (subject_behind j) us) is
      ∙ ap (λ (z : Bool). z || Broken (clause_behind b k) (subject_behind k) us) (r.is b s k t.text (next_terminal us) ∙ ap (λ (z : Bool). r.asks b && not z) (none t.text (next_terminal us)) ∙ and_no (r.asks b))
      ∙ ap (λ (z : Clause). Broken z (subject_behind k) us) behind

  pub front_broken : (c : Clause) (s : Bool) (f us : Lexemes) → Stays c f → Broken c s (f ++ us) ≡ ((r.asks c && not (asks_front r.question s f us)) || Broken c (flag s f) us)
  front_broken c s [] us stays = sym (ap (λ (z : Bool). z || Broken c s us) (and_no (r.asks c)))
  front_broken c s (t ∷ f) us stays =
      ap (λ (z : Bool). z || Broken (clause_behind c t.terminal) (subject_behind t.terminal) (f ++ us)) (r.is c s t.terminal t.text (next_terminal (f ++ us)))
      ∙ ap (λ (z : Clause). (r.asks c && not (asked r.question s t.terminal t.text (next_terminal (f ++ us)))) || Broken z (subject_behind t.terminal) (f ++ us)) stays.0
      ∙ ap (λ (z : Bool). (r.asks c && not (asked r.question s t.terminal t.text (next_terminal (f ++ us)))) || z) (front_broken c (subject_behind t.terminal) f us stays.1)
      ∙ joined (r.asks c) (asked r.question s t.terminal t.text (next_terminal (f ++ us))) (asks_front r.question (subject_behind t.terminal) f us) (Broken c (flag (subject_behind t.terminal) f) us)

  -- in a clause of which the rule doesn't ask
  pub quiet_front : (c : Clause) → r.asks c ≡ false → (s : Bool) (f us : Lexemes) → Stays c f → Broken c s (f ++ us) ≡ Broken c (flag s f) us
  quiet_front c none s f us stays = front_broken c s f us stays ∙ ap (λ (z : Bool). (z && not (asks_front r.question s f us)) || Broken c (flag s f) us) none
