-- The numbers of blank nodes in the drafts of a request are just those below their count.
use Rattle.std.proofs.Common.{◌≡◌, refl, subst, List, [], Option, Some, None}
use Rattle.std.proofs.lemmas.Option.{same_Some}
use Rattle.std.specs.Option.{option_map}
use Rattle.rdf_grammar.specs.Prologue.{Prologue}
use Rattle.rdf_grammar.specs.declared.tree.Name.{Name}
use Rattle.sparql_grammar.specs.QuadGroups.{quads_group}
use Rattle.sparql_grammar.specs.declared.tree.Block.{Block}
use Rattle.sparql_grammar.specs.declared.tree.Group.{Group}
use Rattle.sparql_grammar.specs.declared.tree.Operation.{Operation}
use Rattle.sparql_grammar.specs.declared.tree.Operation.TheVariants as o
use Rattle.sparql_drafts.proofs.CallerLemmas.{data_numbered}
use Rattle.sparql_drafts.specs.declared.draft.Quads.{Quads}
use Rattle.sparql_drafts.specs.Meaning.{quads_in}
use Rattle.sparql_syntax.specs.Blanks.{IsDraftNumbered, BlankNumbersAreBelow}
use Rattle.sparql_syntax.specs.declared.drafts.Draft.{Draft}
use Rattle.sparql_syntax.specs.declared.drafts.Draft.TheVariants as d
use Rattle.sparql_syntax.specs.Meaning.{operation, modification}
use Rattle.sparql_syntax.proofs.DraftLists.{all_drafts, modifies}

-- an operation without data
other_numbered : {A : Type 0} (f : A → Draft) (r : Option A) (draft : Draft) → ((a : A) → IsDraftNumbered (f a)) → option_map f r ≡ Some draft → IsDraftNumbered draft
other_numbered f None draft h e = absurd (cc e)
other_numbered f (Some a) draft h e = subst IsDraftNumbered (same_Some _ _ e) (h a)

some_data : (f : Quads → Draft) (r : Option Quads) (draft : Draft) → ((q : Quads) → r ≡ Some q → IsDraftNumbered (f q)) → option_map f r ≡ Some draft → IsDraftNumbered draft
some_data f None draft h e = absurd (cc e)
some_data f (Some q) draft h e = subst IsDraftNumbered (same_Some _ _ e) (h q refl)

modification_numbered : (with : Option Name) (delete insert : List Block) (g : Group) (p : Prologue) (draft : Draft) → option_map d.Modify (modification with delete insert g p) ≡ Some draft
    → IsDraftNumbered draft
modification_numbered with delete insert g p draft e =
    let m = modifies with delete insert g p draft e in
    subst IsDraftNumbered m.is (data_numbered delete p m.change.delete m.deleted, data_numbered insert p m.change.insert m.inserted)

pub operation_numbered : (w : Operation) (p : Prologue) (draft : Draft) → operation w p ≡ Some draft → IsDraftNumbered draft
unfolding operation
operation_numbered (o.InsertData blocks) p draft e = some_data d.InsertData (quads_in blocks p) draft (λ q. data_numbered blocks p q) e
operation_numbered (o.DeleteData blocks) p draft e = some_data d.DeleteData (quads_in blocks p) draft (λ q. data_numbered blocks p q) e
operation_numbered (o.DeleteWhere blocks) p draft e = modification_numbered None blocks [] (quads_group blocks) p draft e
operation_numbered (o.Modify m) p draft e = modification_numbered m.with m.delete m.insert m.group p draft e
operation_numbered (o.Create silent name) p draft e = other_numbered _ _ draft (λ _. tt) e
operation_numbered (o.Clear silent graphs) p draft e = other_numbered _ _ draft (λ _. tt) e
operation_numbered (o.Drop silent graphs) p draft e = other_numbered _ _ draft (λ _. tt) e
operation_numbered (o.Copy silent from to) p draft e = other_numbered _ _ draft (λ _. tt) e
operation_numbered (o.Move silent from to) p draft e = other_numbered _ _ draft (λ _. tt) e
operation_numbered (o.Add silent from to) p draft e = other_numbered _ _ draft (λ _. tt) e

pub blank_numbers_are_below : BlankNumbersAreBelow
blank_numbers_are_below = all_drafts IsDraftNumbered operation_numbered
