-- Groups and templates, member by member.
use Rattle.std.proofs.Common.{◌≡◌, ◌∙◌, ap, sym, subst, refl, ℕ, List, [], ◌∷◌, ◌++◌, map, append-nil, append_assoc, Option, Some, None}
use Rattle.std.proofs.lemmas.List.{map-append}
use Rattle.std.proofs.lemmas.Option.{same_Some}
use Rattle.std.specs.List.{AllByRecursion}
use Rattle.std.specs.Option.{option_map}
use Rattle.rdf_grammar.proofs.CallerLemmas.{then_parts}
use Rattle.rdf_grammar.specs.Prologue.{Prologue, iri_of}
use Rattle.rdf_grammar.specs.Steps.{Step, and_then, pure, ◌>>=◌}
use Rattle.rdf_terms.specs.declared.term.Term.TheVariants as term
use Rattle.sparql_drafts.proofs.CallerLemmas.{data_stand}
use Rattle.sparql_drafts.specs.Meaning.{pattern_in}
use Rattle.sparql_drafts.specs.Stands as draft
use Rattle.sparql_drafts.specs.declared.draft.QuadPattern as read
use Rattle.sparql_drafts.specs.declared.draft.Quads.{Quads}
use Rattle.sparql_drafts.specs.declared.draft.VarOrIri as read_name
use Rattle.sparql_drafts.specs.declared.draft.VarOrIri.TheVariants as read_name_of
use Rattle.sparql_drafts.specs.declared.draft.VarOrTerm as read_place
use Rattle.sparql_drafts.specs.declared.draft.VarOrTerm.TheVariants as read_place_of
use Rattle.sparql_expressions.specs.declared.tree.Expression as written_expression
use Rattle.sparql_grammar.specs.declared.tree.Block.{Block}
use Rattle.sparql_grammar.specs.declared.tree.Group.{Group}
use Rattle.sparql_grammar.specs.declared.tree.Member.TheFolds.{fold-roll-Member, fold_out-Group}
use Rattle.sparql_grammar.specs.declared.tree.Member.TheOpen.{Member-F}
use Rattle.sparql_grammar.specs.declared.tree.Member.TheVariants as written
use Rattle.sparql_grammar.specs.declared.tree.Triples.{Triples}
use Rattle.sparql_grammar.specs.declared.tree.VarOrIri as written_name
use Rattle.sparql_grammar.specs.declared.tree.VarOrIri.TheVariants as n
use Rattle.sparql_queries.specs.Collected.{collected, collected_behind}
use Rattle.sparql_queries.specs.Expressions.{all, both, expression_in}
use Rattle.sparql_queries.specs.GroupLaws.{InOrder, IsPlace, IsPredicate, IsTriple, IsBasic, SaysGroup, SaysMember, SaysFilter, IsName, GroupsAreSaid, TriplesAreBasic, UnionsAreSaid, OptionalsAreSaid, MinusesAreSaid, GraphsAreSaid, IsGraph, AreOfBlocks, IsQuad, TemplatesStand}
use Rattle.sparql_queries.specs.Groups.{Does, Labels, asked, basic, basic_graph_pattern, graph_name, group, group_of, member_in, member_of, named, pattern_with, triple_pattern, var_or_iri, var_or_term}
use Rattle.sparql_queries.specs.Templates.{quad_pattern}
use Rattle.sparql_queries.specs.Variables.{variable_name}
use Rattle.sparql_trees.specs.declared.expression.Expression.{Expression}
use Rattle.sparql_trees.specs.declared.pattern.BasicGraphPattern.{BasicGraphPattern}
use Rattle.sparql_trees.specs.declared.pattern.Member.{Member}
use Rattle.sparql_trees.specs.declared.pattern.Member.TheVariants as member
use Rattle.sparql_trees.specs.declared.pattern.Pattern.{Pattern}
use Rattle.sparql_trees.specs.declared.pattern.VarOrIri.{VarOrIri}
use Rattle.sparql_trees.specs.declared.pattern.VarOrIri.TheVariants as name
use Rattle.sparql_trees.specs.declared.template.QuadPattern.{QuadPattern}

-- ---- lists of steps

-- the step gives this of it, wherever it stands
abbrev Gives : {S A B : Type 0} → (B → Step S A) → B → A → Type 0
Gives {S} f x a = (before after : S) × (f x before ≡ Some (a, after))

collected_in_order : {S A B : Type 0} (f : B → Step S A) (xs : List B) (found made : List A) (s u : S) → collected_behind found (map f xs) s ≡ Some (made, u)
    → (ys : List A) × (made ≡ found ++ ys) × InOrder (Gives f) xs ys
collected_in_order f [] found made s u e = ([], sym (ap (λ p. p.0) (same_Some _ _ e)) ∙ sym (append-nil found), tt)
collected_in_order {A = A} f (x ∷ xs) found made s u e =
    let p = then_parts (f x s) _ (made, u) e in
    let others = collected_in_order f xs (found ++ p.0 ∷ []) made p.1 u p.3 in
    (p.0 ∷ others.0, others.1 ∙ append_assoc found (p.0 ∷ []) others.0, ((s, p.1, p.2), others.2))

-- ---- groups

group_out : (p : Prologue) (g : Group) → group p g ≡ (collected (map (member_in p) g.members) >>= (λ members. asked p g.filters >>= (λ filters. pure (pattern_with members filters))))
group_out p g = fold_out-Group (Does Member) (Does Pattern) (member_of p) (group_of p) g

filters_in_order : (p : Prologue) (ws : List written_expression.Expression) (es : List Expression) → all (map (expression_in p) ws) ≡ Some es → InOrder (SaysFilter p) ws es
filters_in_order p [] es e = subst (InOrder (SaysFilter p) []) (same_Some _ _ e) tt
filters_in_order p (w ∷ ws) es e = by (filters_in_order p ws) (expression_in p w) (all (map (expression_in p) ws)) refl refl e
  where
    by : ((fs : List Expression) → all (map (expression_in p) ws) ≡ Some fs → InOrder (SaysFilter p) ws fs)
        → (one : Option Expression) (others : Option (List Expression)) → expression_in p w ≡ one → all (map (expression_in p) ws) ≡ others
        → both (λ a rest. a ∷ rest) one others ≡ Some es → InOrder (SaysFilter p) (w ∷ ws) es
    by more None others h k e = absurd (cc e)
    by more (Some one) None h k e = absurd (cc e)
    by more (Some one) (Some others) h k e = subst (InOrder (SaysFilter p) (w ∷ ws)) (same_Some _ _ e) (h, more others k)

asked_is : (p : Prologue) (ws : List written_expression.Expression) (es : List Expression) (s u : Labels) → asked p ws s ≡ Some (es, u) → InOrder (SaysFilter p) ws es
unfolding asked
asked_is p ws es s u e = by (all (map (expression_in p) ws)) refl e
  where
    by : (o : Option (List Expression)) → all (map (expression_in p) ws) ≡ o → option_map {U = List Expression × Labels} (λ found. (found, s)) o ≡ Some (es, u) → InOrder (SaysFilter p) ws es
    by None h e = absurd (cc e)
    by (Some found) h e = filters_in_order p ws es (h ∙ ap (λ (x : List Expression). Some x) (ap (λ q. q.0) (same_Some _ _ e)))

pub groups_are_said : GroupsAreSaid
groups_are_said p g pattern (s, u, e) =
    let whole : and_then (collected (map (member_in p) g.members) s) (λ members. asked p g.filters >>= (λ filters. pure (pattern_with members filters))) ≡ Some (pattern, u) =
    sym (ap (λ (does : Does Pattern). does s) (group_out p g)) ∙ e in
    let members = then_parts (collected (map (member_in p) g.members) s) (λ made. asked p g.filters >>= (λ filters. pure (pattern_with made filters))) (pattern, u) whole in
    let filters = then_parts (asked p g.filters members.1) (λ found. pure (pattern_with members.0 found)) (pattern, u) members.3 in
    let made : pattern_with members.0 filters.0 ≡ pattern = ap (λ q. q.0) (same_Some _ _ filters.3) in
    let in_order = collected_in_order (member_in p) g.members [] members.0 s members.1 members.2 in (
      subst (InOrder (SaysMember p) g.members) (sym in_order.1 ∙ ap (λ (x : Pattern). x.members) made) in_order.2,
      subst (InOrder (SaysFilter p) g.filters) (ap (λ (x : Pattern). x.filters) made) (asked_is p g.filters filters.0 members.1 filters.1 filters.2),
    )

-- ---- members

place_is : (x : read_place.VarOrTerm) → IsPlace x (var_or_term x)
place_is (read_place_of.Variable variable) = refl
place_is (read_place_of.Term (term.Blank number)) = refl
place_is (read_place_of.Term (term.Iri iri)) = refl
place_is (read_place_of.Term (term.Literal literal)) = refl

predicate_is : (x : read_name.VarOrIri) → IsPredicate x (var_or_iri x)
predicate_is (read_name_of.Variable variable) = refl
predicate_is (read_name_of.Iri iri) = refl

triple_is : (q : read.QuadPattern) → IsTriple q (triple_pattern q)
triple_is q = (place_is q.subject, predicate_is q.predicate, place_is q.object)

mapped_in_order : {A B : Type 0} (Is : A → B → Type 0) (f : A → B) → ((a : A) → Is a (f a)) → (xs : List A) → InOrder Is xs (map f xs)
mapped_in_order Is f h [] = tt
mapped_in_order Is f h (x ∷ xs) = (h x, mapped_in_order Is f h xs)

basic_is : (q : Quads) → IsBasic q (basic_graph_pattern q)
basic_is q = (mapped_in_order IsTriple triple_pattern triple_is q.patterns, refl)

triples_out : (p : Prologue) (triples : List Triples) → member_in p (written.Triples triples) ≡ member_of p (Member-F.Triples triples)
triples_out p triples = ap (member_in p) (sym (written.rolls-Triples triples)) ∙ fold-roll-Member (Does Member) (Does Pattern) (member_of p) (group_of p) (Member-F.Triples triples)

union_out : (p : Prologue) (gs : List Group) → member_in p (written.Union gs) ≡ member_of p (Member-F.Union (map (group p) gs))
union_out p gs = ap (member_in p) (sym (written.rolls-Union gs)) ∙ fold-roll-Member (Does Member) (Does Pattern) (member_of p) (group_of p) (Member-F.Union gs)

optional_out : (p : Prologue) (g : Group) → member_in p (written.Optional g) ≡ member_of p (Member-F.Optional (group p g))
optional_out p g = ap (member_in p) (sym (written.rolls-Optional g)) ∙ fold-roll-Member (Does Member) (Does Pattern) (member_of p) (group_of p) (Member-F.Optional g)

minus_out : (p : Prologue) (g : Group) → member_in p (written.Minus g) ≡ member_of p (Member-F.Minus (group p g))
minus_out p g = ap (member_in p) (sym (written.rolls-Minus g)) ∙ fold-roll-Member (Does Member) (Does Pattern) (member_of p) (group_of p) (Member-F.Minus g)

graph_out : (p : Prologue) (w : written_name.VarOrIri) (g : Group) → member_in p (written.Graph w g) ≡ member_of p (Member-F.Graph w (group p g))
graph_out p w g = ap (member_in p) (sym (written.rolls-Graph w g)) ∙ fold-roll-Member (Does Member) (Does Pattern) (member_of p) (group_of p) (Member-F.Graph w g)

basic_gives : (p : Prologue) (triples : List Triples) (b : BasicGraphPattern) (s u : Labels) → basic p triples s ≡ Some (b, u)
    → (q : Quads) × (pattern_in triples p ≡ Some q) × (basic_graph_pattern q ≡ b)
unfolding basic
basic_gives p triples b s u e = by (pattern_in triples p) refl e
  where
    by : (o : Option Quads) → pattern_in triples p ≡ o → option_map {U = BasicGraphPattern × Labels} (λ q. (basic_graph_pattern q, s ++ q.labels ∷ [])) o ≡ Some (b, u)
        → (q : Quads) × (pattern_in triples p ≡ Some q) × (basic_graph_pattern q ≡ b)
    by None h e = absurd (cc e)
    by (Some q) h e = (q, h, ap (λ r. r.0) (same_Some _ _ e))

pub triples_are_basic : TriplesAreBasic
triples_are_basic p triples said (s, u, e) =
    let whole : and_then (basic p triples s) (λ b. pure (member.Basic b)) ≡ Some (said, u) = sym (ap (λ (does : Does Member). does s) (triples_out p triples)) ∙ e in
    let b = then_parts (basic p triples s) (λ b. pure (member.Basic b)) (said, u) whole in
    let found = basic_gives p triples b.0 s b.1 b.2 in
    (found.0, b.0, found.1, subst (IsBasic found.0) found.2 (basic_is found.0), sym (ap (λ r. r.0) (same_Some _ _ b.3)))

pub unions_are_said : UnionsAreSaid
unions_are_said p gs said (s, u, e) =
    let whole : and_then (collected (map (group p) gs) s) (λ patterns. pure (member.Union patterns)) ≡ Some (said, u) = sym (ap (λ (does : Does Member). does s) (union_out p gs)) ∙ e in
    let made = then_parts (collected (map (group p) gs) s) (λ patterns. pure (member.Union patterns)) (said, u) whole in
    let in_order = collected_in_order (group p) gs [] made.0 s made.1 made.2 in
    (made.0, subst (InOrder (SaysGroup p) gs) (sym in_order.1) in_order.2, sym (ap (λ r. r.0) (same_Some _ _ made.3)))

pub optionals_are_said : OptionalsAreSaid
optionals_are_said p g said (s, u, e) =
    let whole : and_then (group p g s) (λ pattern. pure (member.Optional pattern)) ≡ Some (said, u) = sym (ap (λ (does : Does Member). does s) (optional_out p g)) ∙ e in
    let made = then_parts (group p g s) (λ pattern. pure (member.Optional pattern)) (said, u) whole in
    (made.0, (s, made.1, made.2), sym (ap (λ r. r.0) (same_Some _ _ made.3)))

pub minuses_are_said : MinusesAreSaid
minuses_are_said p g said (s, u, e) =
    let whole : and_then (group p g s) (λ pattern. pure (member.Minus pattern)) ≡ Some (said, u) = sym (ap (λ (does : Does Member). does s) (minus_out p g)) ∙ e in
    let made = then_parts (group p g s) (λ pattern. pure (member.Minus pattern)) (said, u) whole in
    (made.0, (s, made.1, made.2), sym (ap (λ r. r.0) (same_Some _ _ made.3)))

name_is : (p : Prologue) (w : written_name.VarOrIri) (x : VarOrIri) → graph_name p w ≡ Some x → IsName p w x
name_is p (n.Variable variable) x e = sym (same_Some _ _ e)
name_is p (n.Name written) x e = by (iri_of written p) refl e
  where
    by : (o : Option (List ℕ)) → iri_of written p ≡ o → option_map name.Iri o ≡ Some x → (iri : List ℕ) × (iri_of written p ≡ Some iri) × (x ≡ name.Iri iri)
    by None h e = absurd (cc e)
    by (Some iri) h e = (iri, h, sym (same_Some _ _ e))

named_gives : (p : Prologue) (w : written_name.VarOrIri) (x : VarOrIri) (s u : Labels) → named p w s ≡ Some (x, u) → IsName p w x
unfolding named
named_gives p w x s u e = by (graph_name p w) refl e
  where
    by : (o : Option VarOrIri) → graph_name p w ≡ o → option_map {U = VarOrIri × Labels} (λ y. (y, s)) o ≡ Some (x, u) → IsName p w x
    by None h e = absurd (cc e)
    by (Some y) h e = name_is p w x (h ∙ ap (λ (z : VarOrIri). Some z) (ap (λ r. r.0) (same_Some _ _ e)))

pub graphs_are_said : GraphsAreSaid
graphs_are_said p w g said (s, u, e) =
    let whole : and_then (named p w s) (λ x. group p g >>= (λ pattern. pure (member.Graph x pattern))) ≡ Some (said, u) = sym (ap (λ (does : Does Member). does s) (graph_out p w g)) ∙ e in
    let x = then_parts (named p w s) (λ x. group p g >>= (λ pattern. pure (member.Graph x pattern))) (said, u) whole in
    let made = then_parts (group p g x.1) (λ pattern. pure (member.Graph x.0 pattern)) (said, u) x.3 in
    (x.0, made.0, named_gives p w x.0 s x.1 x.2, (x.1, made.1, made.2), sym (ap (λ r. r.0) (same_Some _ _ made.3)))

-- ---- templates

graph_is : (p : Prologue) (w : Option written_name.VarOrIri) (graph : Option read_name.VarOrIri) → draft.IsGraph p w graph → IsGraph p w (option_map var_or_iri graph)
graph_is p None graph e = ap (option_map var_or_iri) e
graph_is p (Some (n.Variable variable)) graph e = (name.Variable (variable_name variable), refl, ap (option_map var_or_iri) e)
graph_is p (Some (n.Name written)) graph (iri, h, e) = (name.Iri iri, (iri, h, refl), ap (option_map var_or_iri) e)

mapped_stand : (graph : Option read_name.VarOrIri) (qs : List read.QuadPattern) → draft.StandIn graph qs → AllByRecursion (λ (q : QuadPattern). q.graph ≡ option_map var_or_iri graph) (map quad_pattern qs)
mapped_stand graph [] all = tt
mapped_stand graph (q ∷ qs) all = (ap (option_map var_or_iri) all.0, mapped_stand graph qs all.1)

of_blocks : (p : Prologue) (bs : List Block) (qs : List read.QuadPattern) (names : List read_name.VarOrIri) → draft.AreOfBlocks p bs qs names → AreOfBlocks p bs (map quad_pattern qs)
of_blocks p [] qs names h = ap (map quad_pattern) h.0
of_blocks p (b ∷ bs) qs names (graph, own, others, more, is, qs_are, stand, names_are, rest) = (
  option_map var_or_iri graph,
  map quad_pattern own,
  map quad_pattern others,
  graph_is p b.graph graph is,
  ap (map quad_pattern) qs_are ∙ map-append quad_pattern own others,
  mapped_stand graph own stand,
  of_blocks p bs others more rest,
)

pub templates_stand : TemplatesStand
templates_stand blocks p q e = (
  of_blocks p blocks q.patterns q.graphs (data_stand blocks p q e),
  mapped_in_order IsQuad quad_pattern (λ x. triple_is x) q.patterns,
  refl,
)
