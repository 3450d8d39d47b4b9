-- The words that are printed for refusals, and the one value of a want of memory.
use Rattle.std.specs.Prelude.{ℕ, List, codes}
use Rattle.rdf_terms.specs.declared.fault.IriFault.{IriFault}
use Rattle.rdf_terms.specs.declared.fault.IriFault.TheVariants.{Relative, BadCharacter, NoMemory}
use Rattle.rdf_terms.specs.declared.fault.NoMemory.{NoMemory as Refusal}

abbrev pub iri_fault_name : IriFault → List ℕ
iri_fault_name Relative = codes "Relative"
iri_fault_name BadCharacter = codes "BadCharacter"
iri_fault_name (NoMemory _) = codes "NoMemory"

-- a refusal holds no more than that it was met, so this is each of them
abbrev pub refused : Refusal
refused = record { cause = record {} }

abbrev pub no_memory : IriFault
no_memory = NoMemory refused
