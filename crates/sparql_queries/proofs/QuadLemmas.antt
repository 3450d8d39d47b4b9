-- What quads say as a group: block by block, triples together, and those of GRAPH in a group of their own.
use Rattle.std.proofs.Common.{◌≡◌, ◌∙◌, ap, sym, subst, ℕ, zero, suc, ◌+◌, ◌<◌, ◌≤◌, List, [], ◌∷◌, ◌++◌, map, drop, length, get_or, add-one, arith, Some, None, refl}
use Rattle.std.proofs.lemmas.List.{map-append}
use Rattle.std.specs.List.{flat_map}
use Rattle.rdf_grammar.specs.Prologue.{Prologue}
use Rattle.rdf_grammar.specs.Steps.{Outcome, Step, and_then, pure}
use Rattle.sparql_drafts.specs.declared.fault.DraftFault.{DraftFault}
use Rattle.sparql_drafts.specs.declared.fault.DraftFault.TheVariants.{NoIri, NoMemory}
use Rattle.sparql_drafts.specs.Kept.{Fails}
use Rattle.sparql_grammar.specs.GroupReading.{together}
use Rattle.sparql_grammar.specs.QuadGroups.{members_by, quads_group}
use Rattle.sparql_grammar.specs.declared.tree.Block.{Block}
use Rattle.sparql_grammar.specs.declared.tree.Group.{Group}
use Rattle.sparql_grammar.specs.declared.tree.Member as written_member
use Rattle.sparql_grammar.specs.declared.tree.Member.TheFolds.{fold-roll-Member}
use Rattle.sparql_grammar.specs.declared.tree.Member.TheOpen.{Member-F}
use Rattle.sparql_grammar.specs.declared.tree.Member.TheVariants as written
use Rattle.sparql_grammar.specs.declared.tree.Triples.{Triples}
use Rattle.sparql_grammar.specs.declared.tree.VarOrIri as written_name
use Rattle.sparql_queries.specs.Collected.{collected, collected_behind}
use Rattle.sparql_queries.specs.Groups.{Does, Labels, basic, graph_name, group, group_of, member_in, member_of, pattern_with}
use Rattle.rdf_grammar.proofs.CallerLemmas.{drop_is}
use Rattle.sparql_queries.proofs.GroupLemmas.{filterless, filterless_fails, graph_said, graph_fails, name_fails}
use Rattle.sparql_trees.specs.declared.pattern.BasicGraphPattern.{BasicGraphPattern}
use Rattle.sparql_trees.specs.declared.pattern.Member.{Member}
use Rattle.sparql_trees.specs.declared.pattern.Member.TheVariants as member
use Rattle.sparql_trees.specs.declared.pattern.Pattern.{Pattern}
use Rattle.sparql_trees.specs.declared.pattern.VarOrIri.{VarOrIri}

-- ---- steps

append_step : {S A : Type 0} (o : Outcome S A) (found : List A) (xs ys : List (Step S A))
    → ((a : A) (u : S) → collected_behind (found ++ a ∷ []) (xs ++ ys) u ≡ and_then (collected_behind (found ++ a ∷ []) xs u) (λ made. collected_behind made ys))
    → and_then o (λ a. collected_behind (found ++ a ∷ []) (xs ++ ys)) ≡ and_then (and_then o (λ a. collected_behind (found ++ a ∷ []) xs)) (λ made. collected_behind made ys)
append_step None found xs ys h = refl
append_step (Some p) found xs ys h = h p.0 p.1

append_collected : {S A : Type 0} (found : List A) (xs ys : List (Step S A)) (s : S) → collected_behind found (xs ++ ys) s ≡ and_then (collected_behind found xs s) (λ made. collected_behind made ys)
append_collected found [] ys s = refl
append_collected found (x ∷ xs) ys s = append_step (x s) found xs ys (λ a u. append_collected (found ++ a ∷ []) xs ys u)

-- one step alone
one_collected : {S A : Type 0} (found : List A) (x : Step S A) (s u : S) (a : A) → x s ≡ Some (a, u) → collected_behind found (x ∷ []) s ≡ Some (found ++ a ∷ [], u)
one_collected {S = S} {A = A} found x s u a h = ap (λ (o : Outcome S A). and_then o (λ b. pure (found ++ b ∷ []))) h

one_none : {S A : Type 0} (found : List A) (x : Step S A) (s : S) → x s ≡ None → collected_behind found (x ∷ []) s ≡ None
one_none {S = S} {A = A} found x s h = ap (λ (o : Outcome S A). and_then o (λ b. pure (found ++ b ∷ []))) h

one_fails : {S A : Type 0} (found : List A) (x : Step S A) (s : S) (e : DraftFault) → Fails (x s) e → Fails (collected_behind found (x ∷ []) s) e
one_fails found x s (NoMemory refused) h = tt
one_fails found x s NoIri h = one_none found x s h

-- ---- triples together

triples_are : (p : Prologue) (triples : List Triples) (s : Labels) → member_in p (written.Triples triples) s ≡ and_then (basic p triples s) (λ b. pure (member.Basic b))
triples_are p triples s =
    ap (λ (m : written_member.Member). member_in p m s) (sym (written.rolls-Triples triples))
    ∙ ap (λ (does : Does Member). does s) (fold-roll-Member (Does Member) (Does Pattern) (member_of p) (group_of p) (Member-F.Triples triples))

basic_said : (p : Prologue) (triples : List Triples) (s u : Labels) (b : BasicGraphPattern) → basic p triples s ≡ Some (b, u) → member_in p (written.Triples triples) s ≡ Some (member.Basic b, u)
basic_said p triples s u b h = triples_are p triples s ∙ ap (λ (o : Outcome Labels BasicGraphPattern). and_then o (λ c. pure (member.Basic c))) h

basic_fails : (p : Prologue) (triples : List Triples) (s : Labels) (e : DraftFault) → Fails (basic p triples s) e → Fails (member_in p (written.Triples triples) s) e
basic_fails p triples s (NoMemory refused) h = tt
basic_fails p triples s NoIri h = triples_are p triples s ∙ ap (λ (o : Outcome Labels BasicGraphPattern). and_then o (λ c. pure (member.Basic c))) h

pub none_together : (p : Prologue) (found : List Member) (triples : List Triples) (s : Labels) → length triples ≡ 0 → collected_behind found (map (member_in p) (together triples)) s ≡ Some (found, s)
none_together p found [] s h = refl
none_together p found (x ∷ xs) s h = absurd (omega (arith, h))

pub some_together : (p : Prologue) (found : List Member) (triples : List Triples) (s u : Labels) (b : BasicGraphPattern) → 0 < length triples → basic p triples s ≡ Some (b, u)
    → collected_behind found (map (member_in p) (together triples)) s ≡ Some (found ++ member.Basic b ∷ [], u)
some_together p found [] s u b l h = absurd (omega (arith, l))
some_together p found (x ∷ xs) s u b l h = one_collected found (member_in p (written.Triples (x ∷ xs))) s u (member.Basic b) (basic_said p (x ∷ xs) s u b h)

pub together_fails : (p : Prologue) (found : List Member) (triples : List Triples) (s : Labels) (e : DraftFault) → 0 < length triples → Fails (basic p triples s) e
    → Fails (collected_behind found (map (member_in p) (together triples)) s) e
together_fails p found [] s e l h = absurd (omega (arith, l))
together_fails p found (x ∷ xs) s e l h = one_fails found (member_in p (written.Triples (x ∷ xs))) s e (basic_fails p (x ∷ xs) s e h)

-- ---- GRAPH

abbrev pub inside : List Triples → Group
inside triples = record { members = together triples; filters = [] }

pub graph_block_said : (p q : Prologue) (found : List Member) (w : written_name.VarOrIri) (triples : List Triples) (s u : Labels) (name : VarOrIri) (ms none : List Member) → q ≡ p → none ≡ [] → graph_name p w ≡ Some name
    → collected_behind none (map (member_in q) (together triples)) s ≡ Some (ms, u)
    → collected_behind found (map (member_in p) (members_by (Some w) triples)) s ≡ Some (found ++ member.Graph name (pattern_with ms []) ∷ [], u)
graph_block_said p q found w triples s u name ms none same empty h k =
    let at_start : collected (map (member_in q) (inside triples).members) s ≡ Some (ms, u) = subst (λ (l : List Member). collected_behind l (map (member_in q) (together triples)) s ≡ Some (ms, u)) empty k in
    let said : group q (inside triples) s ≡ Some (pattern_with ms [], u) = filterless q (together triples) s u ms at_start in
    one_collected found (member_in p (written.Graph w (inside triples))) s u (member.Graph name (pattern_with ms []))
    (graph_said p q w (inside triples) s u name (pattern_with ms []) same h said)

pub graph_block_fails : (p q : Prologue) (found : List Member) (w : written_name.VarOrIri) (triples : List Triples) (s : Labels) (name : VarOrIri) (none : List Member) (e : DraftFault) → q ≡ p → none ≡ [] → graph_name p w ≡ Some name
    → Fails (collected_behind none (map (member_in q) (together triples)) s) e
    → Fails (collected_behind found (map (member_in p) (members_by (Some w) triples)) s) e
graph_block_fails p q found w triples s name none e same empty h k =
    let at_start : Fails (collected (map (member_in q) (inside triples).members) s) e = subst (λ (l : List Member). Fails (collected_behind l (map (member_in q) (together triples)) s) e) empty k in
    one_fails found (member_in p (written.Graph w (inside triples))) s e
    (graph_fails p q w (inside triples) s name e same h (filterless_fails q (together triples) s e at_start))

pub block_name_fails : (p : Prologue) (found : List Member) (w : written_name.VarOrIri) (triples : List Triples) (s : Labels) (e : DraftFault) → Fails (graph_name p w) e
    → Fails (collected_behind found (map (member_in p) (members_by (Some w) triples)) s) e
block_name_fails p found w triples s e h =
    one_fails found (member_in p (written.Graph w (inside triples))) s e (name_fails p w (inside triples) s e h)

-- ---- blocks, one after the other

abbrev pub members_in : Block → List written_member.Member
members_in b = members_by b.graph b.triples

abbrev pub blocks_behind : Prologue → List Member → List Block → Does (List Member)
blocks_behind p found blocks = collected_behind found (map (member_in p) (flat_map members_in blocks))

one_block : (p : Prologue) (found : List Member) (b : Block) (bs : List Block) (s : Labels)
    → blocks_behind p found (b ∷ bs) s ≡ and_then (collected_behind found (map (member_in p) (members_in b)) s) (λ made. blocks_behind p made bs)
one_block p found b bs s =
    ap (λ (steps : List (Does Member)). collected_behind found steps s) (map-append (member_in p) (members_in b) (flat_map members_in bs))
    ∙ append_collected found (map (member_in p) (members_in b)) (map (member_in p) (flat_map members_in bs)) s

-- what the next block gives, and those behind it
pub next_block : (p : Prologue) (blocks : List Block) (i : ℕ) (b : Block) (found made : List Member) (s u : Labels) → i < length blocks → b ≡ get_or blocks i b
    → collected_behind found (map (member_in p) (members_in b)) s ≡ Some (made, u) → blocks_behind p found (drop i blocks) s ≡ blocks_behind p made (drop (i + 1) blocks) u
next_block p blocks i b found made s u l is h =
    rw add-one (ap (λ (bs : List Block). blocks_behind p found bs s) (drop_is blocks i b l is)
    ∙ one_block p found b (drop (suc i) blocks) s
    ∙ ap (λ (o : Outcome Labels (List Member)). and_then o (λ ms. blocks_behind p ms (drop (suc i) blocks))) h)

none_behind : (p : Prologue) (blocks : List Block) (i : ℕ) (b : Block) (found : List Member) (s : Labels) → i < length blocks → b ≡ get_or blocks i b
    → collected_behind found (map (member_in p) (members_in b)) s ≡ None → blocks_behind p found (drop i blocks) s ≡ None
none_behind p blocks i b found s l is h =
    ap (λ (bs : List Block). blocks_behind p found bs s) (drop_is blocks i b l is)
    ∙ one_block p found b (drop (suc i) blocks) s
    ∙ ap (λ (o : Outcome Labels (List Member)). and_then o (λ ms. blocks_behind p ms (drop (suc i) blocks))) h

block_fails : (p : Prologue) (blocks : List Block) (i : ℕ) (b : Block) (found : List Member) (s : Labels) (e : DraftFault) → i < length blocks → b ≡ get_or blocks i b
    → Fails (collected_behind found (map (member_in p) (members_in b)) s) e → Fails (blocks_behind p found (drop i blocks) s) e
block_fails p blocks i b found s (NoMemory refused) l is h = tt
block_fails p blocks i b found s NoIri l is h = none_behind p blocks i b found s l is h

-- behind the last block
pub no_block : (p : Prologue) (blocks : List Block) (i : ℕ) (found : List Member) (s : Labels) → length blocks ≤ i → blocks_behind p found (drop i blocks) s ≡ Some (found, s)
no_block p [] zero found s l = refl
no_block p [] (suc i) found s l = refl
no_block p (b ∷ bs) zero found s l = absurd (omega (arith, l))
no_block p (b ∷ bs) (suc i) found s l = no_block p bs i found s (omega (arith, l))

pub quads_said : (p : Prologue) (blocks : List Block) (s u : Labels) (ms : List Member) → blocks_behind p [] blocks s ≡ Some (ms, u) → group p (quads_group blocks) s ≡ Some (pattern_with ms [], u)
quads_said p blocks s u ms h = filterless p (flat_map members_in blocks) s u ms h

pub quads_fail : (p : Prologue) (blocks : List Block) (i : ℕ) (b : Block) (found : List Member) (s u : Labels) (e : DraftFault) → blocks_behind p [] blocks s ≡ blocks_behind p found (drop i blocks) u → i < length blocks → b ≡ get_or blocks i b
    → Fails (collected_behind found (map (member_in p) (members_in b)) u) e → Fails (group p (quads_group blocks) s) e
quads_fail p blocks i b found s u e so_far l is h =
    filterless_fails p (flat_map members_in blocks) s e
    (subst (λ (o : Outcome Labels (List Member)). Fails o e) (sym so_far) (block_fails p blocks i b found u e l is h))
