-- A static rule is broken where a lexeme shows it, and nowhere else (SPARQL 1.1 Update, section 3.1; SPARQL 1.1 Query, sections 4.1.4, 19.6 and 19.8).
use Rattle.std.specs.Prelude.{◌≡◌, ◌<◌, ℕ, Bool, true, false, ◌&&◌, List, [], ◌∷◌, ◌++◌, length, Option, Some, Ok, Err}
use Rattle.std.specs.List.{list_any}
use Rattle.sparql_grammar.specs.OperationGrammar.{IsRequest}
use Rattle.sparql_grammar.specs.QueryGrammar.{IsQuery}
use Rattle.sparql_grammar.specs.declared.tree.Part.{Part}
use Rattle.sparql_grammar.specs.declared.tree.Query as written
use Rattle.rdf_grammar.specs.Keys.{key_of, same_key}
use Rattle.rdf_grammar.specs.Terminals.{Slice, next_terminal}
use Rattle.sparql_terminals.specs.Lexemes.{Lexeme, Lexemes}
use Rattle.sparql_terminals.specs.declared.terminal.Terminal.{Terminal}
use Rattle.sparql_terminals.specs.declared.terminal.Terminal.TheVariants as terminal
use Rattle.sparql_queries.specs.Groups.{Labels}
use Rattle.sparql_queries.specs.Queries.{query_in}
use Rattle.sparql_syntax.specs.declared.drafts.Draft.{Draft}
use Rattle.sparql_syntax.specs.declared.fault.SyntaxFaultKind.{SyntaxFaultKind}
use Rattle.sparql_syntax.specs.declared.fault.SyntaxFaultKind.TheVariants.{BlankInDelete, VariableInData, LiteralSubject, BlankReused}
use Rattle.sparql_syntax.specs.BrokenRules.{first_broken, is_blank, is_literal, is_variable}
use Rattle.sparql_syntax.specs.Labels.{repeats_label}
use Rattle.sparql_syntax.specs.Meaning.{answer}
use Rattle.sparql_syntax.specs.Phases.{HasTree}
use Rattle.sparql_syntax.specs.Query as query
use Rattle.sparql_syntax.specs.Rules.{has_blank_in_delete, has_literal_subject, has_variable_in_data, reuses_label}
use Rattle.sparql_syntax.specs.Update.{meaning}
use Rattle.sparql_trees.specs.declared.query.Query.{Query}

-- where a text is refused by this rule the search for a lexeme that breaks it doesn't come to the end
abbrev pub IsFound : SyntaxFaultKind → Type 0
IsFound rule =
    (base : Option (List ℕ)) (text : List ℕ) (tree : List Part) (has : HasTree IsRequest text tree)
    → meaning base tree ≡ Err rule → first_broken rule has.lexemes < length has.lexemes

abbrev pub BlankIsFound : Type 0
BlankIsFound = IsFound BlankInDelete

abbrev pub VariableIsFound : Type 0
VariableIsFound = IsFound VariableInData

abbrev pub LiteralIsFound : Type 0
LiteralIsFound = IsFound LiteralSubject

-- and the lexeme that it comes to is of this kind, by its terminal and the next one
abbrev pub IsOfKind : SyntaxFaultKind → (Terminal → Option Terminal → Bool) → Type 0
IsOfKind rule kind =
    (lexemes : Lexemes) → first_broken rule lexemes < length lexemes
    → (front : Lexemes) × (one : Lexeme) × (others : Lexemes)
    × (lexemes ≡ front ++ one ∷ others) × (length front ≡ first_broken rule lexemes) × (kind one.terminal (next_terminal others) ≡ true)

abbrev pub BlankIsOfKind : Type 0
BlankIsOfKind = IsOfKind BlankInDelete is_blank

abbrev pub VariableIsOfKind : Type 0
VariableIsOfKind = IsOfKind VariableInData (λ k _. is_variable k)

abbrev pub LiteralIsOfKind : Type 0
LiteralIsOfKind = IsOfKind LiteralSubject (λ k _. is_literal k)

-- ---- labels

abbrev pub is_blank_label : Terminal → Bool
is_blank_label terminal.BlankLabel = true
is_blank_label k = false

-- the label is among the lexemes
abbrev pub has_label : Slice → Lexemes → Bool
has_label label ts = list_any (λ t. is_blank_label t.terminal && same_key (key_of label) (key_of t.text)) ts

-- the lexeme that the search for a reused label comes to is a label, which stands before it too
abbrev pub LabelIsReused : Type 0
LabelIsReused =
    (lexemes : Lexemes) → first_broken BlankReused lexemes < length lexemes
    → (front : Lexemes) × (one : Lexeme) × (others : Lexemes)
    × (lexemes ≡ front ++ one ∷ others) × (length front ≡ first_broken BlankReused lexemes) × (is_blank_label one.terminal ≡ true) × (has_label one.text front ≡ true)

-- where a request is refused for a reused label the search for one doesn't come to the end
abbrev pub ReusedIsFound : Type 0
ReusedIsFound = IsFound BlankReused

-- nor where a query is
abbrev pub ReusedIsFoundInQueries : Type 0
ReusedIsFoundInQueries =
    (base : Option (List ℕ)) (text : List ℕ) (tree : written.Query) (has : HasTree IsQuery text tree)
    → query.meaning base tree ≡ Err BlankReused → first_broken BlankReused has.lexemes < length has.lexemes

-- ---- and the other way round

-- where the search doesn't come to the end of a request, what the request says breaks the rule
abbrev pub IsBroken : SyntaxFaultKind → (List Draft → Bool) → Type 0
IsBroken rule breaks =
    (base : Option (List ℕ)) (text : List ℕ) (tree : List Part) (has : HasTree IsRequest text tree) (drafts : List Draft)
    → answer base tree ≡ Ok drafts → first_broken rule has.lexemes < length has.lexemes → breaks drafts ≡ true

abbrev pub BlankIsBroken : Type 0
BlankIsBroken = IsBroken BlankInDelete (list_any has_blank_in_delete)

abbrev pub VariableIsBroken : Type 0
VariableIsBroken = IsBroken VariableInData (list_any has_variable_in_data)

abbrev pub LiteralIsBroken : Type 0
LiteralIsBroken = IsBroken LiteralSubject (list_any has_literal_subject)

abbrev pub ReusedIsBroken : Type 0
ReusedIsBroken = IsBroken BlankReused reuses_label

abbrev pub ReusedIsBrokenInQueries : Type 0
ReusedIsBrokenInQueries =
    (base : Option (List ℕ)) (text : List ℕ) (tree : written.Query) (has : HasTree IsQuery text tree) (said : Query) (labels : Labels)
    → query_in base tree ≡ Some (said, labels) → first_broken BlankReused has.lexemes < length has.lexemes → repeats_label [] labels ≡ true
