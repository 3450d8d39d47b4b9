-- Where a step fails, so do those that it is part of.
use Rattle.std.proofs.Common.{ap, Option}
use Rattle.std.specs.Option.{option_and_then, option_map}
use Rattle.sparql_drafts.specs.Kept.{Fails}
use Rattle.sparql_drafts.specs.declared.fault.DraftFault.{DraftFault}
use Rattle.sparql_drafts.specs.declared.fault.DraftFault.TheVariants.{NoIri, NoMemory}

pub then_fails : {A B : Type 0} (f : A → Option B) (o : Option A) (e : DraftFault) → Fails o e → Fails (option_and_then f o) e
then_fails f o (NoMemory refused) h = tt
then_fails f o NoIri h = ap (option_and_then f) h

pub map_fails : {A B : Type 0} (f : A → B) (o : Option A) (e : DraftFault) → Fails o e → Fails (option_map f o) e
map_fails f o (NoMemory refused) h = tt
map_fails f o NoIri h = ap (option_map f) h
