-- Which lexeme of a request or a query is the first name without an IRI (SPARQL 1.1 Query, sections 4.1.1 and 19.5; SPARQL 1.1 Update, section 3):
-- a prefixed name whose prefix isn't declared before it, or a reference that has no scheme where no base is in force. What PREFIX and BASE declare
-- is in force behind them, in the operations that follow too.
use Rattle.std.specs.Prelude.{ℕ, ◌+◌, Bool, true, false, ◌&&◌, ◌||◌, not, if◌then◌else◌, List, [], ◌∷◌}
use Rattle.std.specs.List.{list_any}
use Rattle.indexmap.specs.IndexSet.{insert_key}
use Rattle.rdf_terms.specs.Iri.{has_scheme}
use Rattle.rdf_grammar.specs.Keys.{key_of, same_key}
use Rattle.rdf_grammar.specs.Terminals.{Slice}
use Rattle.rdf_tokens.specs.Values.{iri_value, prefix_part}
use Rattle.sparql_terminals.specs.Lexemes.{Lexemes}
use Rattle.sparql_terminals.specs.declared.terminal.Terminal.{Terminal}
use Rattle.sparql_terminals.specs.declared.terminal.Terminal.TheVariants as terminal

-- ---- prefixed names

-- behind the word PREFIX the next prefixed name is what it declares
abbrev pub declares_behind : Bool → Terminal → Bool
declares_behind declares terminal.Prefix = true
declares_behind declares terminal.Pname = false
declares_behind declares k = declares

-- a prefixed name is used whose prefix is none of these
abbrev pub is_unbound : Bool → List (List ℕ) → Terminal → Slice → Bool
is_unbound declares bound terminal.Pname name = not declares && not (list_any (same_key (key_of (prefix_part name))) bound)
is_unbound declares bound k name = false

-- the prefixes behind a lexeme
abbrev pub bound_behind : Bool → List (List ℕ) → Terminal → Slice → List (List ℕ)
bound_behind declares bound terminal.Pname name = if declares then insert_key same_key bound (key_of (prefix_part name)) else bound
bound_behind declares bound k name = bound

-- how many lexemes stand before the first such name, or how many there are where each prefix is one of these or declared before
abbrev pub unbound_from : Bool → List (List ℕ) → Lexemes → ℕ
unbound_from declares bound [] = 0
unbound_from declares bound (t ∷ ts) =
    if is_unbound declares bound t.terminal t.text then 0
    else unbound_from (declares_behind declares t.terminal) (bound_behind declares bound t.terminal t.text) ts + 1

abbrev pub first_unbound : Lexemes → ℕ
first_unbound ts = unbound_from false [] ts

-- ---- references

-- a reference without a scheme where no base is in force
abbrev pub lacks : Bool → List ℕ → Bool
lacks based reference = not based && not (has_scheme (iri_value reference))

-- behind the word BASE the next reference is the base
abbrev pub moves_behind : Bool → Terminal → Bool
moves_behind moves terminal.Base = true
moves_behind moves terminal.Iri = false
moves_behind moves k = moves

abbrev pub is_lacking : Bool → Terminal → Slice → Bool
is_lacking based terminal.Iri reference = lacks based reference
is_lacking based k reference = false

-- whether a base is in force behind a lexeme
abbrev pub base_behind : Bool → Bool → Terminal → Bool
base_behind moves based terminal.Iri = moves || based
base_behind moves based k = based

-- how many lexemes stand before the first such reference, or how many there are where none is
abbrev pub lacking_from : Bool → Bool → Lexemes → ℕ
lacking_from moves based [] = 0
lacking_from moves based (t ∷ ts) =
    if is_lacking based t.terminal t.text then 0
    else lacking_from (moves_behind moves t.terminal) (base_behind moves based t.terminal) ts + 1

-- against a base, or none
abbrev pub first_lacking : Bool → Lexemes → ℕ
first_lacking based ts = lacking_from false based ts
