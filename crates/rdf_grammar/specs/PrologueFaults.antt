-- Why a name has no IRI.
use Rattle.std.specs.Prelude.{◌≡◌, false}
use Rattle.rdf_terms.specs.Resolution.{LacksBase}
use Rattle.rdf_grammar.specs.declared.tree.Name.{Name}
use Rattle.rdf_grammar.specs.declared.tree.Name.TheVariants.{Full, Prefixed}
use Rattle.rdf_grammar.specs.declared.prologue.PrologueFault.{PrologueFault}
use Rattle.rdf_grammar.specs.declared.prologue.PrologueFault.TheVariants.{UnknownPrefix, Relative, NoMemory}
use Rattle.rdf_grammar.specs.Prologue.{Prologue, declared, knows}
use Rattle.rdf_tokens.specs.Values.{iri_value}

-- a prefix that isn't declared, or a reference without a scheme where no base is in force; want of memory tells nothing of a name
abbrev pub Explains : Prologue → Name → PrologueFault → Type 0
Explains p name (NoMemory e) = Unit {0}
Explains p name (UnknownPrefix start) = knows (declared p) name ≡ false
Explains p (Full reference) (Relative start) = LacksBase p.base (iri_value reference)
Explains p (Prefixed prefix local) (Relative start) = ⊥
