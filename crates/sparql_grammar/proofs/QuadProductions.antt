-- Quads in braces are derived as a group.
use Rattle.std.proofs.Common.{◌≡◌, ℕ, suc, List, [], ◌∷◌, ◌++◌, length, Option, Some, None, refl, sym, ◌∙◌, ap, arith, inl, inr, subst, append_assoc}
use Rattle.std.proofs.lemmas.List.{append-nil}
use Rattle.std.proofs.lemmas.Grind.{flat_map-append}
use Rattle.std.specs.Prelude.{option_to_list}
use Rattle.std.specs.List.{flat_map}
use Rattle.rdf_grammar.specs.Derivations as grammar
use Rattle.rdf_grammar.specs.Derivations.{Star, stop, more}
use Rattle.rdf_grammar.proofs.CallerLemmas.{some_pair, never_more, Keeps}
use Rattle.sparql_expressions.specs.declared.tree.Expression.{Expression}
use Rattle.sparql_expressions.specs.ExpressionGrammar.{Constraint, Expressions_at}
use Rattle.sparql_grammar.specs.declared.tree.Block.{Block}
use Rattle.sparql_grammar.specs.declared.tree.Element.{Element}
use Rattle.sparql_grammar.specs.declared.tree.Element.TheVariants as e
use Rattle.sparql_grammar.specs.declared.tree.Group.{Group}
use Rattle.sparql_grammar.specs.declared.tree.Member.{Member}
use Rattle.sparql_grammar.specs.declared.tree.Member.TheVariants as m
use Rattle.sparql_grammar.specs.declared.tree.Triples.{Triples}
use Rattle.sparql_grammar.specs.declared.tree.VarOrIri.{VarOrIri}
use Rattle.sparql_grammar.specs.Grammar.{Nodes_at, TriplesTemplate}
use Rattle.sparql_grammar.specs.GroupGrammar as groups
use Rattle.sparql_grammar.specs.GroupReading.{filters_of, group_with, members_behind, together}
use Rattle.sparql_grammar.specs.OperationGrammar as quads
use Rattle.sparql_grammar.specs.OperationReading.{block}
use Rattle.sparql_grammar.specs.QuadGroups.{members_by, quads_group}
use Rattle.sparql_grammar.specs.QuadLaws.{AreGroup, QuadsAreGroups, QuadsAreOneGroup}
use Rattle.sparql_grammar.specs.Reading.{all_of}
use Rattle.sparql_terminals.specs.Lexemes.{Lexemes, Derives}
use Rattle.sparql_terminals.specs.Terminals.{bracket}
use Rattle.sparql_grammar.proofs.GroupNests.{block_keeps, braces_keep, filter_keeps, group_at_keeps}
use Rattle.sparql_grammar.proofs.GroupWhole.{group_at_rule}

-- ---- the elements that quads are written as

abbrev members_of : List Block → List Member
members_of blocks = flat_map (λ b. members_by b.graph b.triples) blocks

-- triples that may be missing
abbrev element_of : Option (List Triples) → Option Element
element_of None = None
element_of (Some triples) = Some (e.Block triples)

-- behind them, and whatever block stands before, these members come
abbrev Comes : List Element → List Member → Type 0
Comes elements members = (before : List Triples) → members_behind before elements ≡ together before ++ members

-- these elements say these blocks, whatever comes behind
record Says (blocks : List Block) (elements : List Element) : Type 0 where
  members : (rest : List Element) (behind : List Member) → Comes rest behind → Comes (elements ++ rest) (members_of blocks ++ behind)
  filters : (rest : List Element) → filters_of (elements ++ rest) ≡ filters_of rest

says_none : Says [] []
says_none = record { members = λ rest behind h. h; filters = λ rest. refl }

says_both : (xs ys : List Block) (es fs : List Element) → Says xs es → Says ys fs → Says (xs ++ ys) (es ++ fs)
says_both xs ys es fs s t = record {
  members = λ rest behind h before.
      ap (members_behind before) (append_assoc es fs rest) ∙ s.members (fs ++ rest) (members_of ys ++ behind) (t.members rest behind h) before
      ∙ ap (λ l. together before ++ l) (sym (append_assoc (members_of xs) (members_of ys) behind) ∙ ap (λ l. l ++ behind) (sym (flat_map-append (λ (b : Block). members_by b.graph b.triples) xs ys)));
  filters = λ rest. ap filters_of (append_assoc es fs rest) ∙ s.filters (fs ++ rest) ∙ t.filters rest;
}

some_members : (found : Option (List Triples)) (rest : List Element) (behind : List Member) → Comes rest behind
    → members_behind [] (option_to_list (element_of found) ++ rest) ≡ together (all_of found) ++ behind
unfolding members_behind
some_members None rest behind h = h []
some_members (Some triples) rest behind h = h triples

some_filters : (found : Option (List Triples)) (rest : List Element) → filters_of (option_to_list (element_of found) ++ rest) ≡ filters_of rest
unfolding filters_of
some_filters None rest = refl
some_filters (Some triples) rest = refl

abbrev alone : List Triples → Group
alone triples = record { members = together triples; filters = [] }

alone_is : (found : Option (List Triples)) → group_with (option_to_list (element_of found) ++ []) ≡ alone (all_of found)
unfolding members_behind filters_of
alone_is None = refl
alone_is (Some triples) = refl

-- a GRAPH block, and triples of the default graph
says_pair : (name : VarOrIri) (triples : List Triples) (found : Option (List Triples))
    → Says (block (Some name) triples ∷ block None (all_of found) ∷ []) (e.Pattern (m.Graph name (alone triples)) ∷ option_to_list (element_of found))
unfolding members_behind filters_of
says_pair name triples found = record {
  members = λ rest behind h before.
      ap (λ l. together before ++ m.Graph name (alone triples) ∷ l)
      (some_members found rest behind h ∙ ap (λ l. l ++ behind) (sym (append-nil (together (all_of found)))));
  filters = λ rest. some_filters found rest;
}

-- ---- over grammars of triples: in the braces, and in GRAPH's

module _ (Template Inner : Derives (List Triples)) (Constraint' : Derives Expression) (Group' : Derives Group) where
  abbrev InGraph : Derives Group
  InGraph = groups.GroupGraphPattern Inner Constraint' Group'

  maybe_block : (Block' : Derives (List Triples)) (found : Option (List Triples)) (ts us : Lexemes) → grammar.maybe Block' ts found us → groups.MaybeBlock Block' ts (element_of found) us
  maybe_block Block' None ts us d = d
  maybe_block Block' (Some triples) ts us d = record { first = triples; mid = us; reads = d; goes = (refl, refl) }

  -- triples that stand alone in a group
  alone_inside : (found : Option (List Triples)) (triples : List Triples) (ts mid us : Lexemes) → all_of found ≡ triples → mid ≡ us → grammar.maybe Inner ts found mid
      → groups.GroupGraphPatternSub Inner Constraint' Group' ts (alone triples) us
  alone_inside found triples ts mid us e f d =
      subst (λ g. groups.GroupGraphPatternSub Inner Constraint' Group' ts g us) (alone_is found ∙ ap alone e)
      (record { first = element_of found; mid = us; reads = rw f at (maybe_block Inner found ts mid d); goes = record { first = []; mid = us; reads = stop; goes = (refl, refl) } })

  named_pattern : (ts : Lexemes) (x : Block) (us : Lexemes) → quads.QuadsNotTriples Inner ts x us
      → (name : VarOrIri) × (triples : List Triples) × (block (Some name) triples ≡ x) × groups.GraphPatternNotTriples Constraint' InGraph ts (e.Pattern (m.Graph name (alone triples))) us
  named_pattern ts x us h =
      let name = h.goes in
      let brace = name.goes in
      let triples = brace.goes in
      let close = triples.goes in
      let inside = alone_inside triples.reads.first triples.first brace.mid triples.reads.mid triples.mid triples.reads.goes.0 triples.reads.goes.1 triples.reads.reads in
      let group : InGraph name.mid (alone triples.first) us = record {
        first = brace.first;
        mid = brace.mid;
        reads = brace.reads;
        goes = record { first = alone triples.first; mid = triples.mid; reads = inside; goes = record { first = close.first; mid = close.mid; reads = close.reads; goes = (refl, close.goes.1) } };
      } in
      let member : groups.GraphGraphPattern InGraph ts (m.Graph name.first (alone triples.first)) us = record {
        first = h.first;
        mid = h.mid;
        reads = h.reads;
        goes = record { first = name.first; mid = name.mid; reads = name.reads; goes = record { first = alone triples.first; mid = us; reads = group; goes = (refl, refl) } };
      } in
      (name.first, triples.first, close.goes.0, inl (record { first = m.Graph name.first (alone triples.first); mid = us; reads = inr (inr (inr member)); goes = (refl, refl) }))

  -- what blocks are written as
  record Written (P : Derives (List Element)) (blocks : List Block) (ts us : Lexemes) : Type 0 where
    elements : List Element
    derived : P ts elements us
    says : Says blocks elements

  pair_written : (ts : Lexemes) (xs : List Block) (us : Lexemes) → quads.NamedAndDefault Template Inner ts xs us → Written (groups.PatternAndBlock Template Constraint' InGraph) xs ts us
  pair_written ts xs us h =
      let named = named_pattern ts h.first h.mid h.reads in
      let dot = h.goes in
      let default = dot.goes in
      let triples = default.reads.reads in
      let found = triples.first in
      let same : block (Some named.0) named.1 ∷ block None (all_of found) ∷ [] ≡ xs =
      ap (λ b. b ∷ block None (all_of found) ∷ []) named.2 ∙ ap (λ b. h.first ∷ b ∷ []) (ap (block None) triples.goes.0 ∙ default.reads.goes.0) ∙ default.goes.0 in
      let ends : triples.mid ≡ us = triples.goes.1 ∙ default.reads.goes.1 ∙ default.goes.1 in
      record {
        elements = e.Pattern (m.Graph named.0 (alone named.1)) ∷ option_to_list (element_of found);
        derived = record {
          first = e.Pattern (m.Graph named.0 (alone named.1));
          mid = h.mid;
          reads = named.3;
          goes = record {
            first = dot.first;
            mid = dot.mid;
            reads = dot.reads;
            goes = record { first = element_of found; mid = us; reads = rw ends at (maybe_block Template found dot.mid triples.mid triples.reads); goes = (refl, refl) };
          };
        };
        says = rw same at (says_pair named.0 named.1 found);
      }

  others_written : (ts : Lexemes) (xs : List Block) (us : Lexemes) → Star (quads.NamedAndDefault Template Inner) ts xs us → Written (Star (groups.PatternAndBlock Template Constraint' InGraph)) xs ts us
  others_written ts xs us stop = record { elements = []; derived = stop; says = says_none }
  others_written ts xs us (more {mid = mid} {x = x} {xs = ys} q s) =
      let w = pair_written ts x mid q in
      let v = others_written mid ys us s in
      record { elements = w.elements ++ v.elements; derived = more w.derived v.derived; says = says_both x ys w.elements v.elements w.says v.says }

  others_up_to : (ts : Lexemes) (xs : List Block) (mid us : Lexemes) → mid ≡ us → Star (quads.NamedAndDefault Template Inner) ts xs mid → Written (Star (groups.PatternAndBlock Template Constraint' InGraph)) xs ts us
  others_up_to ts xs mid us ends d = others_written ts xs us (rw ends at d)

  group_is : (found : Option (List Triples)) (blocks : List Block) (elements : List Element) → Says blocks elements
      → group_with (option_to_list (element_of found) ++ elements) ≡ quads_group (block None (all_of found) ∷ blocks)
  unfolding members_behind filters_of
  group_is found blocks elements s =
      let comes : Comes elements (members_of blocks) = λ before.
      ap (members_behind before) (sym (append-nil elements)) ∙ s.members [] [] (λ b. sym (append-nil (together b))) before ∙ ap (λ l. together before ++ l) (append-nil (members_of blocks)) in
      let filters : filters_of (option_to_list (element_of found) ++ elements) ≡ [] = some_filters found elements ∙ ap filters_of (sym (append-nil elements)) ∙ s.filters [] in
      rw (some_members found elements (members_of blocks) comes, filters) refl

  quads_written : (ts : Lexemes) (blocks : List Block) (us : Lexemes) → quads.Quads Template Inner ts blocks us → groups.GroupGraphPatternSub Template Constraint' InGraph ts (quads_group blocks) us
  quads_written ts blocks us h =
      let triples = h.reads.reads in
      let found = triples.first in
      let others = h.goes in
      let w = others_up_to h.mid others.first others.mid us others.goes.1 others.reads in
      let starts : triples.mid ≡ h.mid = triples.goes.1 ∙ h.reads.goes.1 in
      let same : block None (all_of found) ∷ others.first ≡ blocks = ap (λ b. b ∷ others.first) (ap (block None) triples.goes.0 ∙ h.reads.goes.0) ∙ others.goes.0 in
      subst (λ g. groups.GroupGraphPatternSub Template Constraint' InGraph ts g us) (group_is found others.first w.elements w.says ∙ ap quads_group same)
      (record {
        first = element_of found;
        mid = h.mid;
        reads = rw starts at (maybe_block Template found ts triples.mid triples.reads);
        goes = record { first = w.elements; mid = us; reads = w.derived; goes = (refl, refl) };
      })

  pattern_written : (ts : Lexemes) (blocks : List Block) (us : Lexemes) → quads.QuadPattern Template Inner ts blocks us → groups.GroupGraphPattern Template Constraint' InGraph ts (quads_group blocks) us
  pattern_written ts blocks us h =
      let inside = h.goes in
      let close = inside.goes in
      record {
        first = h.first;
        mid = h.mid;
        reads = h.reads;
        goes = record {
          first = quads_group inside.first;
          mid = inside.mid;
          reads = quads_written h.mid inside.first inside.mid inside.reads;
          goes = record { first = close.first; mid = close.mid; reads = close.reads; goes = (ap quads_group close.goes.0, close.goes.1) };
        };
      }

-- ---- at a depth that the lexemes determine

-- no group inside
abbrev NoGroup : Derives Group
NoGroup ts x us = ⊥

no_group_keeps : (limit b : ℕ) (J : Derives Group) → Keeps bracket limit b NoGroup J
unfolding Keeps
no_group_keeps limit b J ts x us d h = absurd d

-- A group with groups of triples alone in it, derived at any depth, is derived at the limit.
deep : (d depth : ℕ) → Keeps bracket (suc (suc depth)) 0
    (groups.GroupGraphPattern (TriplesTemplate (Nodes_at (suc d))) (Constraint (Expressions_at d))
    (groups.GroupGraphPattern (TriplesTemplate (Nodes_at d)) (Constraint (Expressions_at d)) NoGroup)) (groups.GroupAt (suc depth))
deep d depth =
    let limit = suc (suc depth) in
    let Block' = TriplesTemplate (Nodes_at (suc depth)) in
    let Constraint' = Constraint (Expressions_at (suc depth)) in
    let inside : Keeps bracket limit 1 (groups.GroupGraphPattern (TriplesTemplate (Nodes_at d)) (Constraint (Expressions_at d)) NoGroup) (groups.Groups_at Block' Constraint' (suc depth)) =
    braces_keep limit 1 (TriplesTemplate (Nodes_at d)) Block' (Constraint (Expressions_at d)) Constraint' NoGroup (groups.Groups_at Block' Constraint' depth)
    (block_keeps (suc depth) d 1) (filter_keeps (suc depth) d 1) (no_group_keeps limit 2 (groups.Groups_at Block' Constraint' depth)) in
    braces_keep limit 0 (TriplesTemplate (Nodes_at (suc d))) Block' (Constraint (Expressions_at d)) Constraint'
    (groups.GroupGraphPattern (TriplesTemplate (Nodes_at d)) (Constraint (Expressions_at d)) NoGroup) (groups.Groups_at Block' Constraint' (suc depth))
    (block_keeps (suc depth) (suc d) 0) (filter_keeps (suc depth) d 0) inside

pub quads_are_groups : QuadsAreGroups
unfolding Keeps
quads_are_groups ts us blocks d =
    let written = pattern_written (TriplesTemplate (Nodes_at (suc d.0))) (TriplesTemplate (Nodes_at d.0)) (Constraint (Expressions_at d.0)) NoGroup ts blocks us d.1 in
    (suc (length ts), (deep d.0 (length ts) ts (quads_group blocks) us written (record { at = λ n. let h = never_more bracket ts 0 n in omega arith })).0)

-- each group is one at a depth that its lexemes determine
group_there : (ts : Lexemes) (group : Group) (us : Lexemes) → AreGroup ts group us → groups.GroupAt (length ts) ts group us
unfolding Keeps
group_there ts group us d = (group_at_keeps (length ts) d.0 ts group us d.1 (record { at = λ n. let h = never_more bracket ts 0 n in omega arith })).0

one_group : (ts : Lexemes) (one other : Group) (us : Lexemes) → AreGroup ts one us → AreGroup ts other us → one ≡ other
one_group ts one other us d e =
    let decides = (group_at_rule (length ts)).decides in
    (some_pair one other us us (sym (decides.complete ts one us (group_there ts one us d) refl) ∙ decides.complete ts other us (group_there ts other us e) refl)).0

pub quads_are_one_group : QuadsAreOneGroup
quads_are_one_group ts us blocks group d e = one_group ts group (quads_group blocks) us e (quads_are_groups ts us blocks d)
