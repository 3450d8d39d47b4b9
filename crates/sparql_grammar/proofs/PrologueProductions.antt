-- Prologues are read just as they are derived.
use Rattle.std.proofs.Common.{◌≡◌, ℕ, ◌<◌, true, false, List, length, Option, Some, refl, ap, arith, inl, inr}
use Rattle.rdf_grammar.specs.Terminals.{next_terminal}
use Rattle.rdf_grammar.specs.Derivations as grammar
use Rattle.rdf_grammar.proofs.CallerLemmas.{one_decides, last, always, Decides, repeat_decides, Keeps, or_keeps, map_keeps, behind_keeps, leaf_keeps, star_keeps, one_keeps, value_decides}
use Rattle.rdf_grammar.proofs.CallerLemmas as shared
use Rattle.sparql_terminals.specs.declared.terminal.Terminal.{Terminal}
use Rattle.sparql_terminals.specs.declared.terminal.Terminal.TheVariants as terminal
use Rattle.sparql_grammar.specs.declared.tree.Declaration.{Declaration}
use Rattle.sparql_grammar.specs.declared.tree.Declaration.TheVariants as d
use Rattle.sparql_terminals.specs.Lexemes.{Lexemes, Derives, Test}
use Rattle.sparql_grammar.specs.PrologueGrammar.{BaseDecl, PrefixDecl, Prologue}
use Rattle.sparql_grammar.specs.PrologueReading as read
use Rattle.sparql_terminals.specs.Terminals.{same_terminal, apart, bracket, word}
use Rattle.sparql_terminals.specs.WordGrammar.{Binding}
use Rattle.sparql_terminals.proofs.CallerLemmas.{binding_decides, plain, Yields, Any, or_gives, value_gives, map_gives, behind_gives, binding_gives, keyword_sound, keyword_complete, keyword_terminal, keyword_strict}

-- ---- declarations

prefix_decides : Decides read.prefix (grammar.◌<$>◌ read.bound Binding) always
unfolding read.prefix
prefix_decides = last read.bound _ _ always binding_decides

base_decides : Decides read.base (grammar.◌<$>◌ d.Base (grammar.value terminal.Iri)) always
unfolding read.base
base_decides = last d.Base _ _ always (value_decides same_terminal apart terminal.Iri)

abbrev pub ADeclaration : Derives Declaration
ADeclaration = grammar.◌∣◌ BaseDecl PrefixDecl

declaration_sound : (k : Option Terminal) (ts : Lexemes) (x : Declaration) (us : Lexemes) → next_terminal ts ≡ k → read.declaration_by k ts ≡ Some (x, us) → ADeclaration ts x us
declaration_sound (Some terminal.Base) ts x us q h = inl (keyword_sound terminal.Base _ _ base_decides ts x us q h)
declaration_sound (Some terminal.Prefix) ts x us q h = inr (keyword_sound terminal.Prefix _ _ prefix_decides ts x us q h)
declaration_sound _ ts x us q h = absurd (cc)

declaration_complete : (ts : Lexemes) (x : Declaration) (us : Lexemes) → ADeclaration ts x us → read.declaration_by (next_terminal ts) ts ≡ Some (x, us)
declaration_complete ts x us (inl h) = let q = keyword_terminal terminal.Base _ ts x us h in rw q (keyword_complete terminal.Base _ _ base_decides ts x us q h)
declaration_complete ts x us (inr h) = let q = keyword_terminal terminal.Prefix _ ts x us h in rw q (keyword_complete terminal.Prefix _ _ prefix_decides ts x us q h)

pub declaration_strict : (ts : Lexemes) (x : Declaration) (us : Lexemes) → ADeclaration ts x us → length us < length ts
declaration_strict ts x us (inl h) = keyword_strict terminal.Base _ _ base_decides ts x us h
declaration_strict ts x us (inr h) = keyword_strict terminal.Prefix _ _ prefix_decides ts x us h

pub declaration_begins : (ts : Lexemes) (x : Declaration) (us : Lexemes) → ADeclaration ts x us → read.sees_declaration ts ≡ true
declaration_begins ts x us (inl h) = rw (keyword_terminal terminal.Base _ ts x us h) refl
declaration_begins ts x us (inr h) = rw (keyword_terminal terminal.Prefix _ ts x us h) refl

pub declaration_decides : Decides read.declaration ADeclaration always
unfolding read.declaration
declaration_decides = record {
  sound = λ ts x us h. declaration_sound (next_terminal ts) ts x us refl h;
  complete = λ ts x us h _. declaration_complete ts x us h;
  shorter = λ ts x us h. let e = declaration_strict ts x us h in omega arith;
}

-- ---- prologues, behind which stands no declaration

declarations_start : (ts : Lexemes) (xs : List Declaration) (us : Lexemes) → grammar.one ADeclaration ts xs us → (read.sees_declaration ts ≡ true) × (length us < length ts)
declarations_start ts xs us h = let a = declaration_strict ts h.first h.mid h.reads in (declaration_begins ts h.first h.mid h.reads, omega (arith, ap length h.goes.1))

pub prologue_decides : (ends : Test) → ((us : Lexemes) → ends us ≡ true → read.sees_declaration us ≡ false) → Decides read.prologue Prologue ends
unfolding read.prologue
prologue_decides ends stops = repeat_decides read.sees_declaration _ _ always ends (one_decides _ _ always declaration_decides) declarations_start stops (λ us h. refl) (λ us h. refl)

-- ---- they have no bracket

module _ (limit b : ℕ) where
  base_keeps : Keeps bracket limit b BaseDecl BaseDecl
  base_keeps = behind_keeps bracket limit b terminal.Base _ _ refl (leaf_keeps bracket limit b d.Base terminal.Iri refl)

  prefix_keeps : Keeps bracket limit b PrefixDecl PrefixDecl
  prefix_keeps = behind_keeps bracket limit b terminal.Prefix _ _ refl (map_keeps bracket limit b read.bound _ _ (shared.binding_keeps word bracket plain limit b))

  pub declaration_keeps : Keeps bracket limit b ADeclaration ADeclaration
  declaration_keeps = or_keeps bracket limit b _ _ _ _ base_keeps prefix_keeps

  pub prologue_keeps : Keeps bracket limit b Prologue Prologue
  prologue_keeps = star_keeps bracket limit b _ _ (one_keeps bracket limit b _ _ declaration_keeps)

-- ---- formed lexemes are left behind them

base_gives : Yields BaseDecl Any
base_gives = behind_gives terminal.Base _ Any (map_gives d.Base _ _ Any (value_gives terminal.Iri) (λ a h. tt))

prefix_gives : Yields PrefixDecl Any
prefix_gives = behind_gives terminal.Prefix _ Any (map_gives read.bound _ _ Any binding_gives (λ b h. tt))

pub declaration_gives : Yields ADeclaration Any
declaration_gives = or_gives _ _ Any base_gives prefix_gives
