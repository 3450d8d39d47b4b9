-- A label that takes a new number stands here for the first time.
use Rattle.std.proofs.Common.{◌≡◌, ◌≢◌, ℕ, List, [], ◌∷◌, ◌++◌, Option, Some, None, refl, arith}
use Rattle.std.specs.Map.{lookup}
use Rattle.rdf_grammar.specs.Keys.{key_of, same_key}
use Rattle.rdf_grammar.specs.Numbering.{Numbering, labelled, labelled_as}
use Rattle.sparql_drafts.specs.Drafting.{labels_behind}

known_as : (label : List ℕ) (o : Option ℕ) (n : Numbering) (labels : List (List ℕ)) → (labelled_as (key_of label) o n).1.next ≡ n.next → labels_behind label o labels ≡ labels
known_as label (Some number) n labels e = refl
known_as label None n labels e = absurd (omega (arith, e))

new_as : (label : List ℕ) (o : Option ℕ) (n : Numbering) (labels : List (List ℕ)) → (labelled_as (key_of label) o n).1.next ≢ n.next → labels_behind label o labels ≡ labels ++ label ∷ []
new_as label (Some number) n labels e = absurd (e refl)
new_as label None n labels e = refl

pub known_label : (label : List ℕ) (n : Numbering) (labels : List (List ℕ)) → (labelled (key_of label) n).1.next ≡ n.next
    → labels_behind label (lookup (same_key (key_of label)) n.labels) labels ≡ labels
known_label label n labels e = known_as label (lookup (same_key (key_of label)) n.labels) n labels e

pub new_label : (label : List ℕ) (n : Numbering) (labels : List (List ℕ)) → (labelled (key_of label) n).1.next ≢ n.next
    → labels_behind label (lookup (same_key (key_of label)) n.labels) labels ≡ labels ++ label ∷ []
new_label label n labels e = new_as label (lookup (same_key (key_of label)) n.labels) n labels e
