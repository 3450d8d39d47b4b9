-- What DELETE/INSERT and DELETE WHERE say, part by part.
use Rattle.std.proofs.Common.{◌≡◌, ℕ, List, [], Option, Some, None, refl, sym, subst}
use Rattle.std.proofs.lemmas.Option.{same_Some}
use Rattle.std.specs.Option.{option_and_then, option_map}
use Rattle.rdf_grammar.specs.Prologue.{Prologue}
use Rattle.sparql_drafts.specs.declared.fault.DraftFault.{DraftFault}
use Rattle.rdf_grammar.specs.declared.tree.Name.{Name}
use Rattle.sparql_drafts.specs.Kept.{Fails}
use Rattle.sparql_drafts.specs.Meaning.{quads_in}
use Rattle.sparql_drafts.specs.declared.draft.Quads.{Quads}
use Rattle.sparql_grammar.specs.QuadGroups.{quads_group}
use Rattle.sparql_grammar.specs.declared.tree.Block.{Block}
use Rattle.sparql_grammar.specs.declared.tree.Group.{Group}
use Rattle.sparql_queries.specs.Groups.{Labels, group}
use Rattle.sparql_syntax.specs.Meaning.{modification, modification_of, operation, templates, with_graph}
use Rattle.sparql_syntax.specs.ModifyLaws.{DeleteWhereIsItsGroup, IsItsGroup}
use Rattle.sparql_syntax.specs.declared.drafts.Draft.{Draft}
use Rattle.sparql_syntax.specs.declared.drafts.Draft.TheVariants.{Modify}
use Rattle.sparql_syntax.specs.declared.drafts.Modification.{Modification}
use Rattle.sparql_trees.specs.declared.pattern.Pattern.{Pattern}
use Rattle.sparql_drafts.proofs.CallerLemmas.{map_fails}

-- ---- by its parts

abbrev joined : Option (Option (List ℕ)) → Option (Quads × Quads) → Option (Pattern × Labels) → Option Modification
joined graph quads said = option_and_then (λ g. option_and_then (λ q. option_map (modification_of g q) said) quads) graph

joined_told : (a : Option (Option (List ℕ))) (b : Option (Quads × Quads)) (c : Option (Pattern × Labels)) (graph : Option (List ℕ)) (quads : Quads × Quads) (said : Pattern × Labels)
    → a ≡ Some graph → b ≡ Some quads → c ≡ Some said → joined a b c ≡ Some (modification_of graph quads said)
joined_told a b c graph quads said e f h = rw (e, f, h) refl

joined_fails : (a : Option (Option (List ℕ))) (b : Option (Quads × Quads)) (c : Option (Pattern × Labels)) (graph : Option (List ℕ)) (quads : Quads × Quads) (fault : DraftFault)
    → a ≡ Some graph → b ≡ Some quads → Fails c fault → Fails (joined a b c) fault
joined_fails a b c graph quads fault e f h = rw (e, f) (map_fails (modification_of graph quads) c fault h)

pub templates_told : (delete insert d i : List Block) (p q : Prologue) (quads : Quads × Quads) → d ≡ delete → i ≡ insert → q ≡ p → templates d i q ≡ Some quads
    → templates delete insert p ≡ Some quads
templates_told delete insert d i p q quads e f g h =
    subst (λ (x : List Block). templates x insert p ≡ Some quads) e
    (subst (λ (x : List Block). templates d x p ≡ Some quads) f (subst (λ (x : Prologue). templates d i x ≡ Some quads) g h))

-- the group is said under the prologue and the labels that stand there
pub modification_told : (with : Option Name) (delete insert : List Block) (g : Group) (p q : Prologue) (l : Labels) (graph : Option (List ℕ)) (quads : Quads × Quads) (said : Pattern × Labels)
    → q ≡ p → l ≡ [] → with_graph with p ≡ Some graph → templates delete insert p ≡ Some quads → group q g l ≡ Some said → modification with delete insert g p ≡ Some (modification_of graph quads said)
unfolding modification
modification_told with delete insert g p q l graph quads said same none e f h =
    joined_told (with_graph with p) (templates delete insert p) (group p g []) graph quads said e f
    (subst (λ (x : Labels). group p g x ≡ Some said) none (subst (λ (x : Prologue). group x g l ≡ Some said) same h))

pub group_fails : (with : Option Name) (delete insert : List Block) (g : Group) (p q : Prologue) (l : Labels) (graph : Option (List ℕ)) (quads : Quads × Quads) (fault : DraftFault)
    → q ≡ p → l ≡ [] → with_graph with p ≡ Some graph → templates delete insert p ≡ Some quads → Fails (group q g l) fault → Fails (modification with delete insert g p) fault
unfolding modification
group_fails with delete insert g p q l graph quads fault same none e f h =
    joined_fails (with_graph with p) (templates delete insert p) (group p g []) graph quads fault e f
    (subst (λ (x : Labels). Fails (group p g x) fault) none (subst (λ (x : Prologue). Fails (group x g l) fault) same h))

-- ---- DELETE WHERE

by_parts : (blocks : List Block) (p : Prologue) (draft : Draft) (deleted inserted : Option Quads) (said : Option (Pattern × Labels))
    → quads_in blocks p ≡ deleted → quads_in [] p ≡ inserted → group p (quads_group blocks) [] ≡ said
    → option_map Modify (option_and_then (λ quads. option_map (modification_of None quads) said) (option_and_then (λ d. option_map {U = Quads × Quads} (λ i. (d, i)) inserted) deleted)) ≡ Some draft
    → (m : Modification) × (draft ≡ Modify m) × IsItsGroup blocks p m
by_parts blocks p draft None inserted said f g h e = absurd (cc e)
by_parts blocks p draft (Some d) None said f g h e = absurd (cc e)
by_parts blocks p draft (Some d) (Some i) None f g h e = absurd (cc e)
by_parts blocks p draft (Some d) (Some i) (Some s) f g h e =
    (modification_of None (d, i) s, sym (same_Some _ _ e), record { default = refl; deleted = f; inserted = g; asked = h })

pub delete_where_is_its_group : DeleteWhereIsItsGroup
unfolding operation modification
delete_where_is_its_group blocks p draft e = by_parts blocks p draft (quads_in blocks p) (quads_in [] p) (group p (quads_group blocks) []) refl refl refl e
