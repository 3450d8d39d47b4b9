-- Prologues as they are written (SPARQL 1.1 Query, section 19.8, by the numbers of its rules), with no look at the next lexeme.
use Rattle.std.specs.Prelude.{List}
use Rattle.rdf_grammar.specs.Derivations.{◌>>◌, ◌<$>◌, ◌∣◌, the, value, one, Star}
use Rattle.sparql_terminals.specs.declared.terminal.Terminal.TheVariants as terminal
use Rattle.sparql_grammar.specs.declared.tree.Declaration.{Declaration}
use Rattle.sparql_grammar.specs.declared.tree.Declaration.TheVariants as d
use Rattle.sparql_grammar.specs.PrologueReading.{bound}
use Rattle.sparql_terminals.specs.Lexemes.{Derives}
use Rattle.sparql_terminals.specs.WordGrammar.{Binding}

-- 5: BaseDecl = "BASE" IRIREF
abbrev pub BaseDecl : Derives Declaration
BaseDecl = the terminal.Base >> d.Base <$> value terminal.Iri

-- 6: PrefixDecl = "PREFIX" PNAME_NS IRIREF
abbrev pub PrefixDecl : Derives Declaration
PrefixDecl = the terminal.Prefix >> bound <$> Binding

-- 4: Prologue = ( BaseDecl | PrefixDecl )*
abbrev pub Prologue : Derives (List Declaration)
Prologue = Star (one (BaseDecl ∣ PrefixDecl))
