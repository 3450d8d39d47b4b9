-- Which lexeme of a request or a query is the first that breaks a static rule (SPARQL 1.1 Update, section 3.1; SPARQL 1.1 Query, sections 4.1.4,
-- 19.6 and 19.8).
use Rattle.std.specs.Prelude.{ℕ, ◌+◌, Bool, true, false, ◌&&◌, ◌||◌, if◌then◌else◌, [], ◌∷◌, Option, Some}
use Rattle.rdf_grammar.specs.Terminals.{Slice, next_terminal}
use Rattle.sparql_terminals.specs.Lexemes.{Lexemes}
use Rattle.sparql_terminals.specs.declared.terminal.Terminal.{Terminal}
use Rattle.sparql_terminals.specs.declared.terminal.Terminal.TheVariants as terminal
use Rattle.sparql_syntax.specs.declared.clause.Clause.{Clause}
use Rattle.sparql_syntax.specs.declared.clause.Clause.TheVariants as clause
use Rattle.sparql_syntax.specs.declared.fault.SyntaxFaultKind.{SyntaxFaultKind}
use Rattle.sparql_syntax.specs.declared.fault.SyntaxFaultKind.TheVariants.{BlankInDelete, VariableInData, LiteralSubject, BlankReused}
use Rattle.sparql_syntax.specs.Clauses.{clause_behind, is_data, is_deleted, is_same}
use Rattle.sparql_syntax.specs.Labels.{is_among}
use Rattle.sparql_syntax.specs.SeenLabels.{Seen, moved_on, none_seen, with_label}

-- ---- what may not stand in a clause

-- A blank node begins: a label, `[`, or the `(` of a list, of which the one without elements is none (SPARQL 1.1 Query, sections 4.1.4 and
-- 4.2.3). The second is the terminal of the lexeme behind it, if there is one.
abbrev pub is_blank : Terminal → Option Terminal → Bool
is_blank terminal.BlankLabel next = true
is_blank terminal.OpenBracket next = true
is_blank terminal.Open (Some terminal.Close) = false
is_blank terminal.Open next = true
is_blank k next = false

abbrev pub is_variable : Terminal → Bool
is_variable terminal.Variable = true
is_variable k = false

-- a literal begins (section 4.1.2)
abbrev pub is_literal : Terminal → Bool
is_literal terminal.Text = true
is_literal terminal.Integer = true
is_literal terminal.Decimal = true
is_literal terminal.Double = true
is_literal terminal.SignedInteger = true
is_literal terminal.SignedDecimal = true
is_literal terminal.SignedDouble = true
is_literal terminal.True = true
is_literal terminal.False = true
is_literal k = false

-- a subject may stand right behind it: behind a brace, and behind the dot of other triples (rules 50 to 52)
abbrev pub subject_behind : Terminal → Bool
subject_behind terminal.OpenBrace = true
subject_behind terminal.CloseBrace = true
subject_behind terminal.Dot = true
subject_behind k = false

-- In this clause, where a subject may stand or not, a lexeme of this terminal, with the next one behind it, breaks the rule.
abbrev pub breaks : SyntaxFaultKind → Clause → Bool → Terminal → Option Terminal → Bool
breaks BlankInDelete c subject k next = is_deleted c && is_blank k next
breaks VariableInData c subject k next = is_data c && is_variable k
breaks LiteralSubject c subject k next = is_data c && (subject && is_literal k)
breaks rule c subject k next = false

-- how many lexemes stand before the first such, or how many there are where none is
abbrev pub breaking_from : SyntaxFaultKind → Clause → Bool → Lexemes → ℕ
breaking_from rule c subject [] = 0
breaking_from rule c subject (t ∷ ts) =
    if breaks rule c subject t.terminal (next_terminal ts) then 0
    else breaking_from rule (clause_behind c t.terminal) (subject_behind t.terminal) ts + 1

abbrev pub first_breaking : SyntaxFaultKind → Lexemes → ℕ
first_breaking rule ts = breaking_from rule clause.Pattern false ts

-- ---- labels that stand in another place too

-- A label stands in such a place: in this clause, INSERT DATA or a pattern.
abbrev pub is_label : Clause → Clause → Terminal → Bool
is_label place c terminal.BlankLabel = is_same place c
is_label place c k = false

-- Another place begins: another INSERT DATA behind the word INSERT; another basic graph pattern behind a brace, since nothing but FILTERs stands
-- between the triples of one (SPARQL 1.1 Query, section 5.1.1).
abbrev pub ends : Clause → Terminal → Bool
ends clause.InsertData terminal.Insert = true
ends clause.Pattern terminal.OpenBrace = true
ends clause.Pattern terminal.CloseBrace = true
ends place k = false

-- it is a label of a place before the one at hand
abbrev pub is_shared : Clause → Clause → Seen → Terminal → Slice → Bool
is_shared place c seen k text = is_label place c k && is_among seen.before text

-- the labels behind a lexeme
abbrev pub seen_behind : Clause → Clause → Seen → Terminal → Slice → Seen
seen_behind place c seen k text = if ends place k then moved_on seen else if is_label place c k then with_label seen text else seen

-- of an INSERT DATA, or of a basic graph pattern
abbrev pub is_reused : Clause → Seen → Seen → Terminal → Slice → Bool
is_reused c inserted patterns k text = is_shared clause.InsertData c inserted k text || is_shared clause.Pattern c patterns k text

-- how many lexemes stand before the first label of an INSERT DATA or a basic graph pattern that stood in another, or how many there are where
-- none is
abbrev pub reused_from : Clause → Seen → Seen → Lexemes → ℕ
reused_from c inserted patterns [] = 0
reused_from c inserted patterns (t ∷ ts) =
    if is_reused c inserted patterns t.terminal t.text then 0
    else reused_from (clause_behind c t.terminal) (seen_behind clause.InsertData c inserted t.terminal t.text) (seen_behind clause.Pattern c patterns t.terminal t.text) ts + 1

abbrev pub first_reused : Lexemes → ℕ
first_reused ts = reused_from clause.Pattern none_seen none_seen ts

-- ---- each rule

abbrev pub first_broken : SyntaxFaultKind → Lexemes → ℕ
first_broken BlankReused = first_reused
first_broken rule = first_breaking rule
