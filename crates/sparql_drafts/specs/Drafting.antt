-- How far what an operation says is drafted: the prologue, the graph around the triples, the numbering, and what is said so far.
use Rattle.std.specs.Prelude.{ℕ, List, [], ◌∷◌, ◌++◌, Option, Some, None}
use Rattle.std.specs.Map.{lookup}
use Rattle.std.specs.Option.{option_map}
use Rattle.rdf_terms.specs.declared.term.Term.TheVariants as t
use Rattle.rdf_grammar.specs.Keys.{key_of, same_key}
use Rattle.rdf_grammar.specs.Numbering as numbering
use Rattle.rdf_grammar.specs.Numbering.{Numbering}
use Rattle.rdf_grammar.specs.Prologue.{Prologue}
use Rattle.rdf_grammar.specs.Steps.{Step}
use Rattle.sparql_drafts.specs.declared.draft.QuadPattern.{QuadPattern}
use Rattle.sparql_drafts.specs.declared.draft.Quads.{Quads}
use Rattle.sparql_drafts.specs.declared.draft.VarOrIri.{VarOrIri}
use Rattle.sparql_drafts.specs.declared.draft.VarOrTerm.{VarOrTerm}
use Rattle.sparql_drafts.specs.declared.draft.VarOrTerm.TheVariants.{Term}

pub record Drafting : Type 0 where
  pub prologue : Prologue
  -- what GRAPH names around the triples; none in the default graph
  pub graph : Option VarOrIri
  pub numbering : Numbering
  pub patterns : List QuadPattern
  pub graphs : List VarOrIri
  pub labels : List (List ℕ)

abbrev pub Does : Type 0 → Type 0
Does A = Step Drafting A

-- nothing is said
abbrev pub start : Prologue → Drafting
start p = record { prologue = p; graph = None; numbering = numbering.start; patterns = []; graphs = []; labels = [] }

-- the data that was said
abbrev pub quads : Drafting → Quads
quads s = record {
  patterns = s.patterns;
  graphs = s.graphs;
  labels = s.labels;
  blanks = s.numbering.next;
}

-- what the prologue tells, if it does
abbrev pub told : {A : Type 0} → (Prologue → Option A) → Does A
told f s = option_map (λ a. (a, s)) (f s.prologue)

-- a new blank node
unfoldable pub fresh : Does VarOrTerm
fresh s = Some (Term (t.Blank (numbering.fresh s.numbering).0), record s { numbering = (numbering.fresh s.numbering).1 })

-- the labels behind one that has this number, or none yet
abbrev pub labels_behind : List ℕ → Option ℕ → List (List ℕ) → List (List ℕ)
labels_behind label (Some number) labels = labels
labels_behind label None labels = labels ++ label ∷ []

-- the blank node of a label, which is listed where it stands first
unfoldable pub labelled : List ℕ → Does VarOrTerm
labelled label s =
    let step = numbering.labelled (key_of label) s.numbering in
    Some (
      Term (t.Blank step.0),
      record s { numbering = step.1; labels = labels_behind label (lookup (same_key (key_of label)) s.numbering.labels) s.labels },
    )

-- the triples that follow stand in the default graph
unfoldable pub in_default : Does (Unit {0})
in_default s = Some (tt, record s { graph = None })

-- the triples that follow stand in the graph of this name
unfoldable pub in_graph : VarOrIri → Does (Unit {0})
in_graph name s = Some (tt, record s { graph = Some name; graphs = s.graphs ++ name ∷ [] })

-- says a triple in the graph where it stands
unfoldable pub says : VarOrTerm → VarOrIri → VarOrTerm → Does (Unit {0})
says subject predicate object s =
    Some (tt, record s { patterns = s.patterns ++ record { graph = s.graph; subject = subject; predicate = predicate; object = object } ∷ [] })
