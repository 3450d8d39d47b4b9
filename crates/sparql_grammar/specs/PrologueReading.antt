-- Prologues (SPARQL 1.1 Query, section 19.8), a definition for each production. The next lexeme chooses.
use Rattle.std.specs.Prelude.{Bool, true, false, List, Option, Some}
use Rattle.rdf_grammar.specs.Steps.{◌>>=◌, ◌>>◌, ◌<$>◌, none}
use Rattle.rdf_grammar.specs.Terminals.{Slice, peek, next_terminal}
use Rattle.rdf_grammar.specs.Readings.{any, one, repeat}
use Rattle.sparql_terminals.specs.declared.terminal.Terminal.{Terminal}
use Rattle.sparql_terminals.specs.declared.terminal.Terminal.TheVariants as terminal
use Rattle.sparql_grammar.specs.declared.tree.Declaration.{Declaration}
use Rattle.sparql_grammar.specs.declared.tree.Declaration.TheVariants as d
use Rattle.sparql_terminals.specs.Lexemes.{Reading, Test, value}
use Rattle.sparql_terminals.specs.WordReading.{binding}

-- IRIREF
unfoldable pub base : Reading Declaration
base = d.Base <$> value terminal.Iri

-- a prefix, and what it is bound to
abbrev pub bound : Slice × Slice → Declaration
bound b = d.Prefix b.0 b.1

-- PNAME_NS IRIREF
unfoldable pub prefix : Reading Declaration
prefix = bound <$> binding

-- what begins a declaration
abbrev pub begins_declaration : Option Terminal → Bool
begins_declaration (Some terminal.Base) = true
begins_declaration (Some terminal.Prefix) = true
begins_declaration _ = false

abbrev pub sees_declaration : Test
sees_declaration ts = begins_declaration (next_terminal ts)

-- BaseDecl | PrefixDecl
abbrev pub declaration_by : Option Terminal → Reading Declaration
declaration_by (Some terminal.Base) = any >> base
declaration_by (Some terminal.Prefix) = any >> prefix
declaration_by _ = none

unfoldable pub declaration : Reading Declaration
declaration = peek >>= declaration_by

-- Prologue = ( BaseDecl | PrefixDecl )*
unfoldable pub prologue : Reading (List Declaration)
prologue = repeat sees_declaration (one declaration)
