-- A turn of each loop over groups and members, a group's FILTERs, and GRAPH's two parts.
use Rattle.std.proofs.Common.{◌≡◌, ◌∙◌, ap, sym, subst, ℕ, suc, ◌+◌, ◌<◌, List, [], ◌∷◌, ◌++◌, map, drop, length, get_or, add-one, Option, Some, None, Result, Ok, Err, refl}
use Rattle.std.specs.Option.{option_map}
use Rattle.rdf_grammar.specs.Prologue.{Prologue}
use Rattle.rdf_grammar.specs.Steps.{Outcome, Step, and_then, ◌>>=◌, pure}
use Rattle.sparql_drafts.specs.declared.fault.DraftFault.{DraftFault}
use Rattle.sparql_drafts.specs.declared.fault.DraftFault.TheVariants.{NoIri, NoMemory}
use Rattle.sparql_drafts.specs.Kept.{Fails, Gives, Tells}
use Rattle.rdf_grammar.proofs.CallerLemmas.{drop_is}
use Rattle.sparql_grammar.specs.declared.tree.Group.{Group}
use Rattle.sparql_grammar.specs.declared.tree.Member as written_member
use Rattle.sparql_grammar.specs.declared.tree.Member.TheFolds.{fold-roll-Member, fold_out-Group}
use Rattle.sparql_grammar.specs.declared.tree.Member.TheOpen.{Member-F}
use Rattle.sparql_grammar.specs.declared.tree.Member.TheVariants as written
use Rattle.sparql_grammar.specs.declared.tree.VarOrIri as written_name
use Rattle.sparql_queries.specs.Collected.{collected, collected_behind}
use Rattle.sparql_queries.specs.Expressions.{all, expression_in}
use Rattle.sparql_queries.specs.Groups.{Does, Labels, asked, graph_name, pattern_with, named, group, group_of, member_in, member_of}
use Rattle.sparql_trees.specs.declared.expression.Expression.{Expression}
use Rattle.sparql_trees.specs.declared.pattern.Member.{Member}
use Rattle.sparql_trees.specs.declared.pattern.Member.TheVariants as member
use Rattle.sparql_trees.specs.declared.pattern.Pattern.{Pattern}
use Rattle.sparql_trees.specs.declared.pattern.VarOrIri.{VarOrIri}

-- what the next item gives, and the items behind it
pub next_collected : {S A B : Type 0} (f : B → Step S A) (xs : List B) (i : ℕ) (x : B) (found : List A) (a : A) (s u : S) → i < length xs → x ≡ get_or xs i x → f x s ≡ Some (a, u)
    → collected_behind found (map f (drop i xs)) s ≡ collected_behind (found ++ a ∷ []) (map f (drop (i + 1) xs)) u
next_collected {A = A} {B = B} f xs i x found a s u l is h =
    rw add-one (ap (λ (ys : List B). collected_behind found (map f ys) s) (drop_is xs i x l is)
    ∙ ap (λ o. and_then o (λ b. collected_behind (found ++ b ∷ []) (map f (drop (suc i) xs)))) h)

none_next : {S A B : Type 0} (f : B → Step S A) (xs : List B) (i : ℕ) (x : B) (found : List A) (s : S) → i < length xs → x ≡ get_or xs i x → f x s ≡ None
    → collected_behind found (map f (drop i xs)) s ≡ None
none_next {A = A} {B = B} f xs i x found s l is h =
    ap (λ (ys : List B). collected_behind found (map f ys) s) (drop_is xs i x l is)
    ∙ ap (λ o. and_then o (λ b. collected_behind (found ++ b ∷ []) (map f (drop (suc i) xs)))) h

-- nothing is given where the next item fails
pub next_fails : {S A B : Type 0} (f : B → Step S A) (xs : List B) (i : ℕ) (x : B) (found : List A) (s : S) (whole : Outcome S (List A)) (e : DraftFault)
    → whole ≡ collected_behind found (map f (drop i xs)) s → i < length xs → x ≡ get_or xs i x → Fails (f x s) e → Fails whole e
next_fails f xs i x found s whole (NoMemory refused) w l is h = tt
next_fails f xs i x found s whole NoIri w l is h = w ∙ none_next f xs i x found s l is h

-- ---- a group's members and its FILTERs

said : Outcome Labels (List Member) → Option (List Expression) → Outcome Labels Pattern
said members filters = and_then members (λ ms labels. and_then (option_map (λ es. (es, labels)) filters) (λ es. pure (pattern_with ms es)))

none_asked : (members : Outcome Labels (List Member)) → said members None ≡ None
unfolding said
none_asked None = refl
none_asked (Some (ms, labels)) = refl

members_fail : (members : Outcome Labels (List Member)) (filters : Option (List Expression)) (e : DraftFault) → Fails members e → Fails (said members filters) e
unfolding said
members_fail members filters (NoMemory refused) h = tt
members_fail members filters NoIri h = ap (λ o. said o filters) h

none_some : {A : Type 0} (a : A) → ◌≡◌ {A = Option A} None (Some a) → ⊥
none_some a e = cc

filters_say : (members : Outcome Labels (List Member)) (filters : Option (List Expression)) (ms : List Member) (u : Labels) (r : Result Pattern DraftFault) → members ≡ Some (ms, u)
    → Tells (option_map (pattern_with ms) filters) r → Gives (said members filters) r u
unfolding said
filters_say members None ms u (Ok pattern) h k = absurd (none_some pattern k)
filters_say members (Some es) ms u (Ok pattern) h k = ap (λ o. said o (Some es)) h ∙ ap (λ (o : Option Pattern). option_map {U = Pattern × Labels} (λ made. (made, u)) o) k
filters_say members filters ms u (Err (NoMemory refused)) h k = tt
filters_say members None ms u (Err NoIri) h k = none_asked members
filters_say members (Some es) ms u (Err NoIri) h k = absurd (none_some (pattern_with ms es) (sym k))

group_is : (p : Prologue) (g : Group) (s : Labels) → group p g s ≡ said (collected (map (member_in p) g.members) s) (all (map (expression_in p) g.filters))
unfolding said asked
group_is p g s = ap (λ (does : Does Pattern). does s) (fold_out-Group (Does Member) (Does Pattern) (member_of p) (group_of p) g)

-- a group is said where its members and its FILTERs are
pub group_gives : (p q : Prologue) (g : Group) (s u : Labels) (ms : List Member) (r : Result Pattern DraftFault) → q ≡ p → collected (map (member_in p) g.members) s ≡ Some (ms, u)
    → Tells (option_map (pattern_with ms) (all (map (expression_in q) g.filters))) r → Gives (group p g s) r u
group_gives p q g s u ms r same h k =
    rw group_is (filters_say (collected (map (member_in p) g.members) s) (all (map (expression_in p) g.filters)) ms u r h
    (subst (λ (x : Prologue). Tells (option_map (pattern_with ms) (all (map (expression_in x) g.filters))) r) same k))

pub group_lacks : (p : Prologue) (g : Group) (s : Labels) (e : DraftFault) → Fails (collected (map (member_in p) g.members) s) e → Fails (group p g s) e
group_lacks p g s e h = rw group_is (members_fail (collected (map (member_in p) g.members) s) (all (map (expression_in p) g.filters)) e h)

-- a group without FILTERs is its members
pub filterless : (p : Prologue) (members : List written_member.Member) (s u : Labels) (ms : List Member) → collected (map (member_in p) members) s ≡ Some (ms, u)
    → group p (record { members = members; filters = [] }) s ≡ Some (pattern_with ms [], u)
unfolding said
filterless p members s u ms h =
    group_is p (record { members = members; filters = [] }) s ∙ ap (λ (o : Outcome Labels (List Member)). said o (Some [])) h

pub filterless_fails : (p : Prologue) (members : List written_member.Member) (s : Labels) (e : DraftFault) → Fails (collected (map (member_in p) members) s) e → Fails (group p (record { members = members; filters = [] }) s) e
filterless_fails p members s e h = rw group_is (members_fail (collected (map (member_in p) members) s) (Some []) e h)

-- ---- GRAPH

graph_is : (p : Prologue) (w : written_name.VarOrIri) (g : Group) → member_in p (written.Graph w g) ≡ member_of p (Member-F.Graph w (group p g))
graph_is p w g = ap (member_in p) (sym (written.rolls-Graph w g)) ∙ fold-roll-Member (Does Member) (Does Pattern) (member_of p) (group_of p) (Member-F.Graph w g)

at_start : {A : Type 0} (f g : Does A) (s : Labels) → f ≡ g → f s ≡ g s
at_start f g s e = ap (λ h. h s) e

named_is : (p : Prologue) (w : written_name.VarOrIri) (s : Labels) (name : VarOrIri) → graph_name p w ≡ Some name → named p w s ≡ Some (name, s)
unfolding named
named_is p w s name h = ap (λ (o : Option VarOrIri). option_map (λ n. (n, s)) o) h

named_as : (p : Prologue) (w : written_name.VarOrIri) (g : Group) (s : Labels) (name : VarOrIri) → graph_name p w ≡ Some name
    → member_in p (written.Graph w g) s ≡ and_then (group p g s) (λ t. pure (member.Graph name t))
named_as p w g s name h =
    at_start (member_in p (written.Graph w g)) (member_of p (Member-F.Graph w (group p g))) s (graph_is p w g)
    ∙ ap (λ (o : Outcome Labels VarOrIri). and_then o (λ n. group p g >>= (λ t. pure (member.Graph n t)))) (named_is p w s name h)

pub graph_said : (p q : Prologue) (w : written_name.VarOrIri) (g : Group) (s v : Labels) (name : VarOrIri) (pattern : Pattern) → q ≡ p → graph_name p w ≡ Some name → group q g s ≡ Some (pattern, v)
    → member_in p (written.Graph w g) s ≡ Some (member.Graph name pattern, v)
graph_said p q w g s v name pattern same h k =
    named_as p w g s name h ∙ ap (λ (o : Outcome Labels Pattern). and_then o (λ t. pure (member.Graph name t))) (subst (λ (x : Prologue). group x g s ≡ Some (pattern, v)) same k)

none_said : (p : Prologue) (w : written_name.VarOrIri) (g : Group) (s : Labels) (name : VarOrIri) → graph_name p w ≡ Some name → group p g s ≡ None → member_in p (written.Graph w g) s ≡ None
none_said p w g s name h k = named_as p w g s name h ∙ ap (λ (o : Outcome Labels Pattern). and_then o (λ t. pure (member.Graph name t))) k

pub graph_fails : (p q : Prologue) (w : written_name.VarOrIri) (g : Group) (s : Labels) (name : VarOrIri) (e : DraftFault) → q ≡ p → graph_name p w ≡ Some name → Fails (group q g s) e
    → Fails (member_in p (written.Graph w g) s) e
graph_fails p q w g s name (NoMemory refused) same h k = tt
graph_fails p q w g s name NoIri same h k = none_said p w g s name h (subst (λ (x : Prologue). group x g s ≡ None) same k)

named_none : (p : Prologue) (w : written_name.VarOrIri) (s : Labels) → graph_name p w ≡ None → named p w s ≡ None
unfolding named
named_none p w s h = ap (λ (o : Option VarOrIri). option_map (λ n. (n, s)) o) h

pub name_fails : (p : Prologue) (w : written_name.VarOrIri) (g : Group) (s : Labels) (e : DraftFault) → Fails (graph_name p w) e → Fails (member_in p (written.Graph w g) s) e
name_fails p w g s (NoMemory refused) h = tt
name_fails p w g s NoIri h =
    at_start (member_in p (written.Graph w g)) (member_of p (Member-F.Graph w (group p g))) s (graph_is p w g)
    ∙ ap (λ (o : Outcome Labels VarOrIri). and_then o (λ n. group p g >>= (λ t. pure (member.Graph n t)))) (named_none p w s h)
