-- What prefixes stand for behind a declaration.
use Rattle.std.proofs.Common.{◌≡◌, ◌∙◌, ap, sym, ℕ, List}
use Rattle.std.specs.Map.{lookup}
use Rattle.indexmap.specs.IndexMap.{insert_entry}
use Rattle.rdf_grammar.specs.Keys.{same_key}
use Rattle.rdf_grammar.specs.Prologue.{Prologue, declares}
use Rattle.rdf_grammar.specs.PrologueLaws.{PrefixesAreReplaced}
use Rattle.rdf_grammar.proofs.KeyEntries.{found, kept}

abbrev Entries : Type 0
Entries = List (List ℕ × List ℕ)

pub prefixes_are_replaced : PrefixesAreReplaced
unfolding declares
prefixes_are_replaced s u declared iri e =
    let is : insert_entry same_key s.prefixes declared iri ≡ u.prefixes = ap (λ (p : Prologue). p.prefixes) e in (
      ap (λ (es : Entries). lookup (same_key declared) es) (sym is) ∙ found declared iri s.prefixes,
      λ other apart. ap (λ (es : Entries). lookup (same_key other) es) (sym is) ∙ kept declared iri other s.prefixes apart,
    )
