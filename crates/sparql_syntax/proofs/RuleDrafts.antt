-- The drafts of a request break a static rule just where a part of its tree does.
use Rattle.std.proofs.Common.{◌≡◌, ◌∙◌, ap, refl, subst, ℕ, Bool, false, ◌&&◌, ◌||◌, List, [], ◌∷◌, Option, Some, None}
use Rattle.std.specs.Prelude.{Ok}
use Rattle.std.proofs.lemmas.Option.{same_Some}
use Rattle.std.specs.List.{list_any}
use Rattle.std.specs.Option.{option_map}
use Rattle.rdf_grammar.specs.Prologue.{Prologue}
use Rattle.rdf_grammar.specs.declared.tree.Name.{Name}
use Rattle.sparql_grammar.specs.QuadGroups.{quads_group}
use Rattle.sparql_grammar.specs.declared.tree.Block.{Block}
use Rattle.sparql_grammar.specs.declared.tree.Group.{Group}
use Rattle.sparql_grammar.specs.declared.tree.Operation.{Operation}
use Rattle.sparql_grammar.specs.declared.tree.Operation.TheVariants as o
use Rattle.sparql_grammar.specs.declared.tree.Part.{Part}
use Rattle.sparql_grammar.specs.declared.tree.Part.TheVariants as w
use Rattle.sparql_drafts.specs.declared.draft.Quads.{Quads}
use Rattle.sparql_drafts.specs.Meaning.{quads_in}
use Rattle.sparql_syntax.specs.declared.clause.Clause.{Clause}
use Rattle.sparql_syntax.specs.declared.clause.Clause.TheVariants as clause
use Rattle.sparql_syntax.specs.declared.drafts.Draft.{Draft}
use Rattle.sparql_syntax.specs.declared.drafts.Draft.TheVariants as d
use Rattle.sparql_syntax.specs.Meaning.{answer, operation, modification}
use Rattle.sparql_syntax.proofs.DraftLists.{AreDrafted, drafts_are, modifies}

-- a rule asks of these clauses, and breaks says of blocks that they break it where they stand in one
module _ (asks : Clause → Bool) (breaks : List Block → Bool) where
  abbrev pub operation_breaks : Operation → Bool
  operation_breaks (o.InsertData blocks) = asks clause.InsertData && breaks blocks
  operation_breaks (o.DeleteData blocks) = asks clause.DeleteData && breaks blocks
  operation_breaks (o.DeleteWhere blocks) = asks clause.DeleteWhere && breaks blocks
  operation_breaks (o.Modify m) = asks clause.DeleteTemplate && breaks m.delete
  operation_breaks (o.Create silent graph) = false
  operation_breaks (o.Clear silent graphs) = false
  operation_breaks (o.Drop silent graphs) = false
  operation_breaks (o.Copy silent from to) = false
  operation_breaks (o.Move silent from to) = false
  operation_breaks (o.Add silent from to) = false

  abbrev pub part_breaks : Part → Bool
  part_breaks (w.Declaration declared) = false
  part_breaks (w.Operation written) = operation_breaks written

-- the test of a rule on drafts, by one on quads
abbrev pub test_by : (Clause → Bool) → (Quads → Bool) → Draft → Bool
test_by asks test (d.InsertData q) = asks clause.InsertData && test q
test_by asks test (d.DeleteData q) = asks clause.DeleteData && test q
test_by asks test (d.Modify m) = asks clause.DeleteTemplate && test m.delete
test_by asks test (d.Other operation) = false

module _ (asks : Clause → Bool) (alike : asks clause.DeleteTemplate ≡ asks clause.DeleteWhere) (breaks : List Block → Bool) (test : Quads → Bool)
    (tested : (bs : List Block) (p : Prologue) (q : Quads) → quads_in bs p ≡ Some q → test q ≡ breaks bs) where
  abbrev Test : Draft → Bool
  Test = test_by asks test

  abbrev Breaks : Operation → Bool
  Breaks = operation_breaks asks breaks

  abbrev Parts : Part → Bool
  Parts = part_breaks asks breaks

  other_tested : {A : Type 0} (f : A → Draft) (r : Option A) (draft : Draft) → ((y : A) → Test (f y) ≡ false) → option_map f r ≡ Some draft → Test draft ≡ false
  other_tested f None draft h e = absurd (cc e)
  other_tested f (Some y) draft h e = subst (λ (z : Draft). Test z ≡ false) (same_Some _ _ e) (h y)

  data_tested : (f : Quads → Draft) (asked : Bool) (blocks : List Block) (p : Prologue) (r : Option Quads) (draft : Draft) → ((q : Quads) → Test (f q) ≡ asked && test q) → quads_in blocks p ≡ r → option_map f r ≡ Some draft
      → Test draft ≡ asked && breaks blocks
  data_tested f asked blocks p None draft h is e = absurd (cc e)
  data_tested f asked blocks p (Some q) draft h is e = subst (λ (z : Draft). Test z ≡ asked && breaks blocks) (same_Some _ _ e) (h q ∙ ap (λ (b : Bool). asked && b) (tested blocks p q is))

  -- ---- templates

  modification_tested : (with : Option Name) (delete insert : List Block) (g : Group) (p : Prologue) (draft : Draft) → option_map d.Modify (modification with delete insert g p) ≡ Some draft
      → Test draft ≡ asks clause.DeleteTemplate && breaks delete
  modification_tested with delete insert g p draft e =
      let m = modifies with delete insert g p draft e in
      subst (λ (z : Draft). Test z ≡ asks clause.DeleteTemplate && breaks delete) m.is (ap (λ (b : Bool). asks clause.DeleteTemplate && b) (tested delete p m.change.delete m.deleted))

  operation_tested : (written : Operation) (p : Prologue) (draft : Draft) → operation written p ≡ Some draft → Test draft ≡ Breaks written
  unfolding operation
  operation_tested (o.InsertData blocks) p draft e = data_tested d.InsertData (asks clause.InsertData) blocks p (quads_in blocks p) draft (λ q. refl) refl e
  operation_tested (o.DeleteData blocks) p draft e = data_tested d.DeleteData (asks clause.DeleteData) blocks p (quads_in blocks p) draft (λ q. refl) refl e
  operation_tested (o.DeleteWhere blocks) p draft e = modification_tested None blocks [] (quads_group blocks) p draft e ∙ ap (λ (b : Bool). b && breaks blocks) alike
  operation_tested (o.Modify m) p draft e = modification_tested m.with m.delete m.insert m.group p draft e
  operation_tested (o.Create silent name) p draft e = other_tested _ _ draft (λ _. refl) e
  operation_tested (o.Clear silent graphs) p draft e = other_tested _ _ draft (λ _. refl) e
  operation_tested (o.Drop silent graphs) p draft e = other_tested _ _ draft (λ _. refl) e
  operation_tested (o.Copy silent from to) p draft e = other_tested _ _ draft (λ _. refl) e
  operation_tested (o.Move silent from to) p draft e = other_tested _ _ draft (λ _. refl) e
  operation_tested (o.Add silent from to) p draft e = other_tested _ _ draft (λ _. refl) e

  -- ---- parts

  all_tested : (ps : List Part) (ds : List Draft) → AreDrafted ps ds → list_any Test ds ≡ list_any Parts ps
  all_tested [] ds are = ap (list_any Test) are
  all_tested (w.Declaration it ∷ ps) ds are = all_tested ps ds are
  all_tested (w.Operation it ∷ ps) ds are =
      ap (list_any Test) are.4 ∙ ap (λ (b : Bool). b || list_any Test are.2) (operation_tested it are.0 are.1 are.3) ∙ ap (λ (b : Bool). Breaks it || b) (all_tested ps are.2 are.5)

  pub drafts_tested : (base : Option (List ℕ)) (ps : List Part) (ds : List Draft) → answer base ps ≡ Ok ds → list_any Test ds ≡ list_any Parts ps
  drafts_tested base ps ds e = all_tested ps ds (drafts_are base ps ds e)
