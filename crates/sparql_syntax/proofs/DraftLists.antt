-- The drafts of a request are those of its operations, in their order.
use Rattle.std.proofs.Common.{◌≡◌, ◌∙◌, ap, refl, sym, subst, ℕ, Bool, true, false, if◌then◌else◌, List, [], ◌∷◌, ◌++◌, append_assoc, append-nil, Option, Some, None}
use Rattle.std.specs.Prelude.{Result, Ok, Err, ok_or}
use Rattle.std.proofs.lemmas.Option.{same_Some}
use Rattle.std.specs.List.{AllByRecursion}
use Rattle.std.specs.Option.{option_and_then, option_map}
use Rattle.rdf_grammar.specs.Prologue as prologue
use Rattle.rdf_grammar.specs.Prologue.{Prologue}
use Rattle.rdf_grammar.specs.Steps.{Outcome}
use Rattle.rdf_grammar.specs.declared.tree.Name.{Name}
use Rattle.rdf_grammar.proofs.CallerLemmas.{then_parts}
use Rattle.sparql_grammar.specs.declared.tree.Block.{Block}
use Rattle.sparql_grammar.specs.declared.tree.Group.{Group}
use Rattle.sparql_grammar.specs.declared.tree.Operation.{Operation}
use Rattle.sparql_grammar.specs.declared.tree.Part.{Part}
use Rattle.sparql_grammar.specs.declared.tree.Part.TheVariants as w
use Rattle.sparql_drafts.specs.declared.draft.Quads.{Quads}
use Rattle.sparql_drafts.specs.Meaning.{quads_in, declaration}
use Rattle.sparql_queries.specs.Groups.{Labels, group}
use Rattle.sparql_syntax.specs.Known.{declares_first}
use Rattle.sparql_syntax.specs.Meaning.{answer, operation, part, listed, drafts, drafts_behind, drafts_of, modification, modification_of, templates, with_graph}
use Rattle.sparql_syntax.specs.declared.drafts.Draft.{Draft}
use Rattle.sparql_syntax.specs.declared.drafts.Draft.TheVariants as d
use Rattle.sparql_syntax.specs.declared.drafts.Modification.{Modification}
use Rattle.sparql_syntax.specs.declared.fault.SyntaxFaultKind.{SyntaxFaultKind}
use Rattle.sparql_syntax.specs.declared.fault.SyntaxFaultKind.TheVariants.{Relative, UnknownPrefix}
use Rattle.sparql_trees.specs.declared.pattern.Pattern.{Pattern}

-- ---- what a modification says: its templates, and its group

pub record Modifies (p : Prologue) (delete insert : List Block) (g : Group) (draft : Draft) : Type 0 where
  pub change : Modification
  pub is : d.Modify change ≡ draft
  pub deleted : quads_in delete p ≡ Some change.delete
  pub inserted : quads_in insert p ≡ Some change.insert
  pub asked : group p g [] ≡ Some (change.pattern, change.labels)

both_quads : (x y : Option Quads) (quads : Quads × Quads) → option_and_then (λ d. option_map {U = Quads × Quads} (λ i. (d, i)) y) x ≡ Some quads → (x ≡ Some quads.0) × (y ≡ Some quads.1)
both_quads None y quads e = absurd (cc e)
both_quads (Some d) None quads e = absurd (cc e)
both_quads (Some d) (Some i) quads e = (let same = same_Some _ _ e in (ap (λ (z : Quads × Quads). Some z.0) same, ap (λ (z : Quads × Quads). Some z.1) same))

modified_by : (p : Prologue) (delete insert : List Block) (g : Group) (draft : Draft) (graph : Option (Option (List ℕ))) (both : Option (Quads × Quads)) (said : Option (Pattern × Labels)) → templates delete insert p ≡ both → group p g [] ≡ said
    → option_map d.Modify (option_and_then (λ w. option_and_then (λ quads. option_map (modification_of w quads) said) both) graph) ≡ Some draft → Modifies p delete insert g draft
modified_by p delete insert g draft None both said t s e = absurd (cc e)
modified_by p delete insert g draft (Some w) None said t s e = absurd (cc e)
modified_by p delete insert g draft (Some w) (Some quads) None t s e = absurd (cc e)
modified_by p delete insert g draft (Some w) (Some quads) (Some said) t s e =
    let each = both_quads (quads_in delete p) (quads_in insert p) quads t in
    record { change = modification_of w quads said; is = same_Some _ _ e; deleted = each.0; inserted = each.1; asked = s }

pub modifies : (with : Option Name) (delete insert : List Block) (g : Group) (p : Prologue) (draft : Draft) → option_map d.Modify (modification with delete insert g p) ≡ Some draft → Modifies p delete insert g draft
unfolding modification
modifies with delete insert g p draft e = modified_by p delete insert g draft (with_graph with p) (templates delete insert p) (group p g []) refl refl e

-- ---- parts

-- an operation's draft, and then those of the others
abbrev pub AreDrafted : List Part → List Draft → Type 0
AreDrafted [] ds = ds ≡ []
AreDrafted (w.Declaration x ∷ ps) ds = AreDrafted ps ds
AreDrafted (w.Operation it ∷ ps) ds = (p : Prologue) × (one : Draft) × (others : List Draft) × (operation it p ≡ Some one) × (ds ≡ one ∷ others) × AreDrafted ps others

abbrev Behind : List Draft → List Part → List Draft → Type 0
Behind ds ps es = (others : List Draft) × (es ≡ ds ++ others) × AreDrafted ps others

drafted_behind : (ds : List Draft) (it : Operation) (ps : List Part) (p u : Prologue) (y : Option Draft) (es : List Draft) (r : Option Draft) → operation it p ≡ r → option_map {U = Option Draft × Prologue} (λ z. (Some z, p)) r ≡ Some (y, u)
    → Behind (ds ++ listed y) ps es → Behind ds (w.Operation it ∷ ps) es
drafted_behind ds it ps p u y es None is e h = absurd (cc e)
drafted_behind ds it ps p u y es (Some z) is e h =
    let some : Some z ≡ y = ap (λ (q : Option Draft × Prologue). q.0) (same_Some _ _ e) in
    (z ∷ h.0, h.1 ∙ ap (λ (t : Option Draft). (ds ++ listed t) ++ h.0) (sym some) ∙ append_assoc ds (z ∷ []) h.0, (p, z, h.0, is, refl, h.2))

part_behind : (ds : List Draft) (one : Part) (ps : List Part) (p u : Prologue) (y : Option Draft) (es : List Draft) → part one p ≡ Some (y, u) → Behind (ds ++ listed y) ps es → Behind ds (one ∷ ps) es
unfolding part
part_behind ds (w.Declaration x) ps p u y es e h =
    let parts = then_parts (declaration x p) _ (y, u) e in
    let none : None ≡ y = ap (λ (q : Option Draft × Prologue). q.0) (same_Some _ _ parts.3) in
    (h.0, h.1 ∙ ap (λ (t : Option Draft). (ds ++ listed t) ++ h.0) (sym none) ∙ ap (λ (z : List Draft). z ++ h.0) (append-nil ds), h.2)
part_behind ds (w.Operation it) ps p u y es e h = drafted_behind ds it ps p u y es (operation it p) refl e h

parts_behind : (ds : List Draft) (ps : List Part) (p u : Prologue) (es : List Draft) → drafts_behind ds ps p ≡ Some (es, u) → Behind ds ps es
parts_behind ds [] p u es e = ([], sym (ap (λ (q : List Draft × Prologue). q.0) (same_Some _ _ e)) ∙ sym (append-nil ds), refl)
parts_behind ds (one ∷ ps) p u es e =
    let y = then_parts (part one p) _ (es, u) e in
    part_behind ds one ps p y.1 y.0 es y.2 (parts_behind (ds ++ listed y.0) ps y.1 u es y.3)

request_drafted : (base : Option (List ℕ)) (ps : List Part) (ds : List Draft) → drafts_of base ps ≡ Some ds → AreDrafted ps ds
unfolding drafts_of
request_drafted base ps ds e = by (drafts ps (prologue.start base)) refl e
  where
    by : (r : Outcome Prologue (List Draft)) → drafts ps (prologue.start base) ≡ r → option_map (λ z. z.0) r ≡ Some ds → AreDrafted ps ds
    by None there e = absurd (cc e)
    by (Some z) there e = (let h = parts_behind [] ps (prologue.start base) z.1 z.0 there in subst (AreDrafted ps) (sym h.1 ∙ same_Some _ _ e) h.2)

answered : (ok : Bool) (r : Option (List Draft)) (ds : List Draft) → ◌≡◌ {A = Result (List Draft) SyntaxFaultKind} (if ok then ok_or r Relative else Err UnknownPrefix) (Ok ds) → r ≡ Some ds
answered true None ds e = absurd (cc e)
answered true (Some qs) ds e = (let same : qs ≡ ds = cc e in ap (λ z. Some z) same)
answered false r ds e = absurd (cc e)

pub drafts_are : (base : Option (List ℕ)) (ps : List Part) (ds : List Draft) → answer base ps ≡ Ok ds → AreDrafted ps ds
drafts_are base ps ds e = request_drafted base ps ds (answered (declares_first [] ps) (drafts_of base ps) ds e)

-- what holds of each operation's draft
module _ (P : Draft → Type 0) (h : (it : Operation) (p : Prologue) (one : Draft) → operation it p ≡ Some one → P one) where
  each_draft : (ps : List Part) (ds : List Draft) → AreDrafted ps ds → AllByRecursion P ds
  each_draft [] ds are = subst (AllByRecursion P) (sym are) tt
  each_draft (w.Declaration x ∷ ps) ds are = each_draft ps ds are
  each_draft (w.Operation it ∷ ps) ds are = subst (AllByRecursion P) (sym are.4) (h it are.0 are.1 are.3, each_draft ps are.2 are.5)

  pub all_drafts : (base : Option (List ℕ)) (ps : List Part) (ds : List Draft) → answer base ps ≡ Ok ds → AllByRecursion P ds
  all_drafts base ps ds e = each_draft ps ds (drafts_are base ps ds e)

  pub said_drafts : (base : Option (List ℕ)) (ps : List Part) (ds : List Draft) → drafts_of base ps ≡ Some ds → AllByRecursion P ds
  said_drafts base ps ds e = each_draft ps ds (request_drafted base ps ds e)
