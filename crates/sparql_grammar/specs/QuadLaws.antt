-- Quads in braces and groups of the same lexemes.
use Rattle.std.specs.Prelude.{◌≡◌, ℕ, suc, List}
use Rattle.sparql_grammar.specs.declared.tree.Block.{Block}
use Rattle.sparql_grammar.specs.declared.tree.Group.{Group}
use Rattle.sparql_grammar.specs.Grammar.{Nodes_at, TriplesTemplate}
use Rattle.sparql_grammar.specs.GroupGrammar.{GroupAt}
use Rattle.sparql_grammar.specs.OperationGrammar.{QuadPattern}
use Rattle.sparql_grammar.specs.QuadGroups.{quads_group}
use Rattle.sparql_terminals.specs.Lexemes.{Lexemes}

-- The lexemes up to those left are these quads in braces (48: QuadPattern), or this group (53: GroupGraphPattern). Their brackets may
-- nest as deep as they do.
abbrev pub AreQuads : Lexemes → List Block → Lexemes → Type 0
AreQuads ts blocks us =
    (depth : ℕ) × QuadPattern (TriplesTemplate (Nodes_at (suc depth))) (TriplesTemplate (Nodes_at depth)) ts blocks us

abbrev pub AreGroup : Lexemes → Group → Lexemes → Type 0
AreGroup ts group us = (depth : ℕ) × GroupAt depth ts group us

-- quads in braces are also a group
abbrev pub QuadsAreGroups : Type 0
QuadsAreGroups = (ts us : Lexemes) (blocks : List Block) → AreQuads ts blocks us → AreGroup ts (quads_group blocks) us

-- and no other one
abbrev pub QuadsAreOneGroup : Type 0
QuadsAreOneGroup =
    (ts us : Lexemes) (blocks : List Block) (group : Group) → AreQuads ts blocks us → AreGroup ts group us → group ≡ quads_group blocks
