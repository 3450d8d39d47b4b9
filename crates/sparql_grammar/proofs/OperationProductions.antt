-- Operations on whole graphs are read just as they are derived.
use Rattle.std.proofs.Common.{◌≡◌, ◌<◌, ◌≤◌, Bool, true, false, length, Option, Some, None, refl, arith, inl, inr, ◌⊎◌}
use Rattle.std.specs.Prelude.{is_some}
use Rattle.rdf_grammar.specs.declared.tree.Name.{Name}
use Rattle.rdf_grammar.specs.Steps as steps
use Rattle.rdf_grammar.specs.Readings as reading
use Rattle.rdf_grammar.specs.Readings.{next}
use Rattle.rdf_grammar.specs.Terminals as front
use Rattle.rdf_grammar.specs.Terminals.{next_terminal}
use Rattle.rdf_grammar.specs.Derivations as grammar
use Rattle.rdf_grammar.specs.Derivations.{Then}
use Rattle.rdf_grammar.proofs.CallerLemmas.{seq, last, maybe_decides, always, Decides, then_decides, pure_decides, the_decides, after_terminal, the_terminal, terminal_seen, unseen, word_sound, word_complete, word_strict}
use Rattle.sparql_terminals.specs.declared.terminal.Terminal.{Terminal}
use Rattle.sparql_terminals.specs.declared.terminal.Terminal.TheVariants as terminal
use Rattle.sparql_grammar.specs.declared.tree.GraphOrDefault.{GraphOrDefault}
use Rattle.sparql_grammar.specs.declared.tree.GraphOrDefault.TheVariants as place
use Rattle.sparql_grammar.specs.declared.tree.GraphRefAll.{GraphRefAll}
use Rattle.sparql_grammar.specs.declared.tree.GraphRefAll.TheVariants as graphs
use Rattle.sparql_grammar.specs.declared.tree.Operation.{Operation}
use Rattle.sparql_grammar.specs.declared.tree.Operation.TheVariants as o
use Rattle.sparql_terminals.specs.Lexemes as lexemes
use Rattle.sparql_terminals.specs.Lexemes.{Lexemes, Reading, sees, Derives, Test}
use Rattle.sparql_grammar.specs.OperationGrammar as g
use Rattle.sparql_grammar.specs.OperationReading as read
use Rattle.sparql_grammar.specs.Grammar.{Perhaps}
use Rattle.sparql_grammar.specs.Reading.{perhaps}
use Rattle.sparql_terminals.specs.Terminals.{same_terminal, apart}
use Rattle.sparql_terminals.specs.WordGrammar.{Iri}
use Rattle.sparql_terminals.specs.WordReading.{iri}
use Rattle.sparql_terminals.proofs.CallerLemmas.{keyword_sound, keyword_complete, keyword_terminal, keyword_strict, iri_terminal, iri_decides}

-- ---- a lexeme that may be missing

module _ (k : Terminal) where
  perhaps_as : (b : Bool) (ts : Lexemes) → sees k ts ≡ b → perhaps k ts ≡ steps.◌<$>◌ is_some (reading.optional (sees k) (lexemes.the k)) ts
  unfolding front.the
  perhaps_as true ts h = rw h refl
  perhaps_as false ts h = rw h refl

  the_seen : (ts : Lexemes) (x : Unit {0}) (us : Lexemes) → grammar.the k ts x us → sees k ts ≡ true
  the_seen ts x us h = terminal_seen same_terminal apart k ts (the_terminal k ts us x h)

  module _ (ends : Test) (stops : (us : Lexemes) → ends us ≡ true → sees k us ≡ false) where
    optional_decides : Decides (steps.◌<$>◌ is_some (reading.optional (sees k) (lexemes.the k))) (Perhaps k) ends
    optional_decides = last is_some _ _ ends (maybe_decides (sees k) (lexemes.the k) (grammar.the k) always ends (the_decides same_terminal apart k) the_seen stops (λ us h. refl))

    -- behind it stands what passes the test, and so no such lexeme
    pub perhaps_decides : Decides (perhaps k) (Perhaps k) ends
    perhaps_decides = record {
      sound = λ ts x us h. optional_decides.sound ts x us (rw (perhaps_as (sees k ts) ts refl) at h);
      complete = λ ts x us h e. rw (perhaps_as (sees k ts) ts refl) (optional_decides.complete ts x us h e);
      shorter = optional_decides.shorter;
    }

  -- it is there, or nothing is
  pub perhaps_terminal : (ts : Lexemes) (x : Bool) (us : Lexemes) → Perhaps k ts x us → (next_terminal ts ≡ Some k) ⊎ (ts ≡ us)
  perhaps_terminal ts x us h = at h.first h.reads
    where
      at : (found : Option (Unit {0})) → grammar.maybe (grammar.the k) ts found h.mid → (next_terminal ts ≡ Some k) ⊎ (ts ≡ us)
      at None d = inr (rw d h.goes.1)
      at (Some u) d = inl (the_terminal k ts h.mid u d)

-- ---- graphs

pub graph_ref_decides : Decides read.graph_ref g.GraphRef always
unfolding read.graph_ref
graph_ref_decides = after_terminal same_terminal apart terminal.Graph iri Iri always iri_decides

the_graph : Decides (steps.◌<$>◌ graphs.Graph read.graph_ref) (grammar.◌<$>◌ graphs.Graph g.GraphRef) always
the_graph = last graphs.Graph _ _ always graph_ref_decides

graph_ref_all_sound : (k : Option Terminal) (ts : Lexemes) (x : GraphRefAll) (us : Lexemes) → next_terminal ts ≡ k → read.graph_ref_all_by k ts ≡ Some (x, us) → g.AGraphRefAll ts x us
graph_ref_all_sound (Some terminal.Default) ts x us q h = inr (inl (word_sound same_terminal apart terminal.Default graphs.Default x ts us q h))
graph_ref_all_sound (Some terminal.Named) ts x us q h = inr (inr (inl (word_sound same_terminal apart terminal.Named graphs.Named x ts us q h)))
graph_ref_all_sound (Some terminal.All) ts x us q h = inr (inr (inr (word_sound same_terminal apart terminal.All graphs.All x ts us q h)))
graph_ref_all_sound _ ts x us q h = inl (the_graph.sound ts x us h)

-- what is there behind "SILENT"?
abbrev behind_silent : Option Terminal → Bool
behind_silent (Some terminal.Graph) = true
behind_silent (Some terminal.Default) = true
behind_silent (Some terminal.Named) = true
behind_silent (Some terminal.All) = true
behind_silent (Some terminal.Iri) = true
behind_silent (Some terminal.Pname) = true
behind_silent _ = false

abbrev ends_silent : Test
ends_silent us = behind_silent (next_terminal us)

silent_decides : Decides (perhaps terminal.Silent) (Perhaps terminal.Silent) ends_silent
silent_decides = perhaps_decides terminal.Silent ends_silent (unseen same_terminal apart behind_silent terminal.Silent refl)

graph_ref_terminal : (ts : Lexemes) (x : Name) (us : Lexemes) → g.GraphRef ts x us → next_terminal ts ≡ Some terminal.Graph
graph_ref_terminal ts x us h = the_terminal terminal.Graph ts h.mid h.first h.reads

graph_ref_all_complete : (ts : Lexemes) (x : GraphRefAll) (us : Lexemes) → g.AGraphRefAll ts x us → read.graph_ref_all_by (next_terminal ts) ts ≡ Some (x, us)
graph_ref_all_complete ts x us (inl h) = rw (graph_ref_terminal ts h.first h.mid h.reads) (the_graph.complete ts x us h refl)
graph_ref_all_complete ts x us (inr (inl h)) = let q = the_terminal terminal.Default ts h.mid h.first h.reads in rw q (word_complete same_terminal apart terminal.Default graphs.Default x ts us q h)
graph_ref_all_complete ts x us (inr (inr (inl h))) = let q = the_terminal terminal.Named ts h.mid h.first h.reads in rw q (word_complete same_terminal apart terminal.Named graphs.Named x ts us q h)
graph_ref_all_complete ts x us (inr (inr (inr h))) = let q = the_terminal terminal.All ts h.mid h.first h.reads in rw q (word_complete same_terminal apart terminal.All graphs.All x ts us q h)

graph_ref_all_begins : (ts : Lexemes) (x : GraphRefAll) (us : Lexemes) → g.AGraphRefAll ts x us → ends_silent ts ≡ true
graph_ref_all_begins ts x us (inl h) = rw (graph_ref_terminal ts h.first h.mid h.reads) refl
graph_ref_all_begins ts x us (inr (inl h)) = rw (the_terminal terminal.Default ts h.mid h.first h.reads) refl
graph_ref_all_begins ts x us (inr (inr (inl h))) = rw (the_terminal terminal.Named ts h.mid h.first h.reads) refl
graph_ref_all_begins ts x us (inr (inr (inr h))) = rw (the_terminal terminal.All ts h.mid h.first h.reads) refl

word_shorter : {A : Type 0} (k : Terminal) (a x : A) (ts us : Lexemes) → grammar.◌>>◌ (grammar.the k) (grammar.pure a) ts x us → length us ≤ length ts
word_shorter k a x ts us h = let l = word_strict k a x ts us h in omega arith

graph_ref_all_shorter : (ts : Lexemes) (x : GraphRefAll) (us : Lexemes) → g.AGraphRefAll ts x us → length us ≤ length ts
graph_ref_all_shorter ts x us (inl h) = the_graph.shorter ts x us h
graph_ref_all_shorter ts x us (inr (inl h)) = word_shorter terminal.Default graphs.Default x ts us h
graph_ref_all_shorter ts x us (inr (inr (inl h))) = word_shorter terminal.Named graphs.Named x ts us h
graph_ref_all_shorter ts x us (inr (inr (inr h))) = word_shorter terminal.All graphs.All x ts us h

graph_ref_all_decides : Decides read.graph_ref_all g.AGraphRefAll always
unfolding read.graph_ref_all
graph_ref_all_decides = record {
  sound = λ ts x us h. graph_ref_all_sound (next_terminal ts) ts x us refl h;
  complete = λ ts x us h _. graph_ref_all_complete ts x us h;
  shorter = graph_ref_all_shorter;
}

-- ---- places

abbrev begins_iri : Option Terminal → Bool
begins_iri (Some terminal.Iri) = true
begins_iri (Some terminal.Pname) = true
begins_iri _ = false

abbrev sees_iri : Test
sees_iri us = begins_iri (next_terminal us)

iri_begins : (ts : Lexemes) (x : Name) (us : Lexemes) → Iri ts x us → sees_iri ts ≡ true
iri_begins ts x us h = at (iri_terminal ts x us h)
  where
    at : (next_terminal ts ≡ Some terminal.Iri) ⊎ (next_terminal ts ≡ Some terminal.Pname) → sees_iri ts ≡ true
    at (inl q) = rw q refl
    at (inr q) = rw q refl

abbrev NamedPlace : Derives GraphOrDefault
NamedPlace = grammar.◌>>◌ (Perhaps terminal.Graph) (grammar.◌<$>◌ place.Graph Iri)

named_place_decides : Decides (steps.◌>>◌ (perhaps terminal.Graph) (steps.◌<$>◌ place.Graph iri)) NamedPlace always
named_place_decides =
    then_decides _ _ _ _ sees_iri always (perhaps_decides terminal.Graph sees_iri (unseen same_terminal apart begins_iri terminal.Graph refl))
    (λ _. last place.Graph _ _ always iri_decides) (λ a mid b us h e. iri_begins mid h.first h.mid h.reads)

abbrev begins_named : Option Terminal → Bool
begins_named (Some terminal.Graph) = true
begins_named (Some terminal.Iri) = true
begins_named (Some terminal.Pname) = true
begins_named _ = false

iri_named : (k : Option Terminal) → begins_iri k ≡ true → begins_named k ≡ true
iri_named (Some terminal.Iri) h = refl
iri_named (Some terminal.Pname) h = refl
iri_named _ h = absurd (cc)

named_place_begins : (ts : Lexemes) (x : GraphOrDefault) (us : Lexemes) → NamedPlace ts x us → begins_named (next_terminal ts) ≡ true
named_place_begins ts x us h = at (perhaps_terminal terminal.Graph ts h.first h.mid h.reads)
  where
    at : (next_terminal ts ≡ Some terminal.Graph) ⊎ (ts ≡ h.mid) → begins_named (next_terminal ts) ≡ true
    at (inl q) = rw q refl
    at (inr e) = rw e (iri_named (next_terminal h.mid) (iri_begins h.mid h.goes.first h.goes.mid h.goes.reads))

by_name : (k : Option Terminal) → begins_named k ≡ true → read.graph_or_default_by k ≡ steps.◌>>◌ (perhaps terminal.Graph) (steps.◌<$>◌ place.Graph iri)
by_name (Some terminal.Default) h = absurd (cc)
by_name _ h = refl

named_silent : (k : Option Terminal) → begins_named k ≡ true → behind_silent k ≡ true
named_silent (Some terminal.Graph) h = refl
named_silent (Some terminal.Iri) h = refl
named_silent (Some terminal.Pname) h = refl
named_silent _ h = absurd (cc)

graph_or_default_sound : (k : Option Terminal) (ts : Lexemes) (x : GraphOrDefault) (us : Lexemes) → next_terminal ts ≡ k → read.graph_or_default_by k ts ≡ Some (x, us) → g.AGraphOrDefault ts x us
graph_or_default_sound (Some terminal.Default) ts x us q h = inl (word_sound same_terminal apart terminal.Default place.Default x ts us q h)
graph_or_default_sound _ ts x us q h = inr (named_place_decides.sound ts x us h)

graph_or_default_complete : (ts : Lexemes) (x : GraphOrDefault) (us : Lexemes) → g.AGraphOrDefault ts x us → read.graph_or_default_by (next_terminal ts) ts ≡ Some (x, us)
graph_or_default_complete ts x us (inl h) = let q = the_terminal terminal.Default ts h.mid h.first h.reads in rw q (word_complete same_terminal apart terminal.Default place.Default x ts us q h)
graph_or_default_complete ts x us (inr h) = rw (by_name (next_terminal ts) (named_place_begins ts x us h)) (named_place_decides.complete ts x us h refl)

graph_or_default_begins : (ts : Lexemes) (x : GraphOrDefault) (us : Lexemes) → g.AGraphOrDefault ts x us → ends_silent ts ≡ true
graph_or_default_begins ts x us (inl h) = rw (the_terminal terminal.Default ts h.mid h.first h.reads) refl
graph_or_default_begins ts x us (inr h) = named_silent (next_terminal ts) (named_place_begins ts x us h)

graph_or_default_shorter : (ts : Lexemes) (x : GraphOrDefault) (us : Lexemes) → g.AGraphOrDefault ts x us → length us ≤ length ts
graph_or_default_shorter ts x us (inl h) = word_shorter terminal.Default place.Default x ts us h
graph_or_default_shorter ts x us (inr h) = named_place_decides.shorter ts x us h

graph_or_default_decides : Decides read.graph_or_default g.AGraphOrDefault always
unfolding read.graph_or_default
graph_or_default_decides = record {
  sound = λ ts x us h. graph_or_default_sound (next_terminal ts) ts x us refl h;
  complete = λ ts x us h _. graph_or_default_complete ts x us h;
  shorter = graph_or_default_shorter;
}

-- ---- operations

abbrev CreateRest : Derives Operation
CreateRest = grammar.◌>>=◌ (Perhaps terminal.Silent) (λ silent. grammar.◌>>=◌ g.GraphRef (λ graph. grammar.pure (o.Create silent graph)))

create_decides : Decides read.create CreateRest always
unfolding read.create
create_decides =
    then_decides _ _ _ _ ends_silent always silent_decides
    (λ silent. seq _ _ _ _ always graph_ref_decides (λ graph. pure_decides (o.Create silent graph) always))
    (λ a mid b us h e. rw (graph_ref_terminal mid h.first h.mid h.reads) refl)

on_graphs_decides : Decides read.on_graphs g.OnGraphs always
unfolding read.on_graphs
on_graphs_decides =
    then_decides _ _ _ _ ends_silent always silent_decides
    (λ silent. seq _ _ _ _ always graph_ref_all_decides (λ graphs. pure_decides (silent, graphs) always))
    (λ a mid b us h e. graph_ref_all_begins mid h.first h.mid h.reads)

between_decides : Decides read.between g.Between always
unfolding read.between
between_decides =
    then_decides _ _ _ _ ends_silent always silent_decides
    (λ silent. seq _ _ _ _ always graph_or_default_decides (λ from. seq _ _ _ _ always (the_decides same_terminal apart terminal.To)
    (λ _. seq _ _ _ _ always graph_or_default_decides (λ to. pure_decides (silent, from, to) always))))
    (λ a mid b us h e. graph_or_default_begins mid h.first h.mid h.reads)

module _ (operation : Bool → GraphRefAll → Operation) where
  abbrev read_on : Reading Operation
  read_on = steps.◌<$>◌ (read.on_graphs_by operation) read.on_graphs

  abbrev OnThem : Derives Operation
  OnThem = grammar.◌<$>◌ (read.on_graphs_by operation) g.OnGraphs

  on_decides : Decides read_on OnThem always
  on_decides = last (read.on_graphs_by operation) _ _ always on_graphs_decides

module _ (operation : Bool → GraphOrDefault → GraphOrDefault → Operation) where
  abbrev read_from_to : Reading Operation
  read_from_to = steps.◌<$>◌ (read.between_by operation) read.between

  abbrev FromTo : Derives Operation
  FromTo = grammar.◌<$>◌ (read.between_by operation) g.Between

  from_to_decides : Decides read_from_to FromTo always
  from_to_decides = last (read.between_by operation) _ _ always between_decides

-- what begins them
abbrev pub begins_graph_operation : Option Terminal → Bool
begins_graph_operation (Some terminal.Create) = true
begins_graph_operation (Some terminal.Clear) = true
begins_graph_operation (Some terminal.Drop) = true
begins_graph_operation (Some terminal.Copy) = true
begins_graph_operation (Some terminal.Move) = true
begins_graph_operation (Some terminal.Add) = true
begins_graph_operation _ = false

graph_operation_sound : (k : Option Terminal) (ts : Lexemes) (x : Operation) (us : Lexemes) → next_terminal ts ≡ k → read.graph_operation_by k ts ≡ Some (x, us) → g.GraphOperation ts x us
graph_operation_sound (Some terminal.Clear) ts x us q h = inl (keyword_sound terminal.Clear _ _ (on_decides o.Clear) ts x us q h)
graph_operation_sound (Some terminal.Drop) ts x us q h = inr (inl (keyword_sound terminal.Drop _ _ (on_decides o.Drop) ts x us q h))
graph_operation_sound (Some terminal.Add) ts x us q h = inr (inr (inl (keyword_sound terminal.Add _ _ (from_to_decides o.Add) ts x us q h)))
graph_operation_sound (Some terminal.Move) ts x us q h = inr (inr (inr (inl (keyword_sound terminal.Move _ _ (from_to_decides o.Move) ts x us q h))))
graph_operation_sound (Some terminal.Copy) ts x us q h = inr (inr (inr (inr (inl (keyword_sound terminal.Copy _ _ (from_to_decides o.Copy) ts x us q h)))))
graph_operation_sound (Some terminal.Create) ts x us q h = inr (inr (inr (inr (inr (keyword_sound terminal.Create _ _ create_decides ts x us q h)))))
graph_operation_sound _ ts x us q h = absurd (cc)

graph_operation_complete : (ts : Lexemes) (x : Operation) (us : Lexemes) → g.GraphOperation ts x us → read.graph_operation_by (next_terminal ts) ts ≡ Some (x, us)
graph_operation_complete ts x us (inl h) = let q = keyword_terminal terminal.Clear _ ts x us h in rw q (keyword_complete terminal.Clear _ _ (on_decides o.Clear) ts x us q h)
graph_operation_complete ts x us (inr (inl h)) = let q = keyword_terminal terminal.Drop _ ts x us h in rw q (keyword_complete terminal.Drop _ _ (on_decides o.Drop) ts x us q h)
graph_operation_complete ts x us (inr (inr (inl h))) = let q = keyword_terminal terminal.Add _ ts x us h in rw q (keyword_complete terminal.Add _ _ (from_to_decides o.Add) ts x us q h)
graph_operation_complete ts x us (inr (inr (inr (inl h)))) = let q = keyword_terminal terminal.Move _ ts x us h in rw q (keyword_complete terminal.Move _ _ (from_to_decides o.Move) ts x us q h)
graph_operation_complete ts x us (inr (inr (inr (inr (inl h))))) = let q = keyword_terminal terminal.Copy _ ts x us h in rw q (keyword_complete terminal.Copy _ _ (from_to_decides o.Copy) ts x us q h)
graph_operation_complete ts x us (inr (inr (inr (inr (inr h))))) = let q = keyword_terminal terminal.Create _ ts x us h in rw q (keyword_complete terminal.Create _ _ create_decides ts x us q h)

pub graph_operation_strict : (ts : Lexemes) (x : Operation) (us : Lexemes) → g.GraphOperation ts x us → length us < length ts
graph_operation_strict ts x us (inl h) = keyword_strict terminal.Clear _ _ (on_decides o.Clear) ts x us h
graph_operation_strict ts x us (inr (inl h)) = keyword_strict terminal.Drop _ _ (on_decides o.Drop) ts x us h
graph_operation_strict ts x us (inr (inr (inl h))) = keyword_strict terminal.Add _ _ (from_to_decides o.Add) ts x us h
graph_operation_strict ts x us (inr (inr (inr (inl h)))) = keyword_strict terminal.Move _ _ (from_to_decides o.Move) ts x us h
graph_operation_strict ts x us (inr (inr (inr (inr (inl h))))) = keyword_strict terminal.Copy _ _ (from_to_decides o.Copy) ts x us h
graph_operation_strict ts x us (inr (inr (inr (inr (inr h))))) = keyword_strict terminal.Create _ _ create_decides ts x us h

pub graph_operation_begins : (ts : Lexemes) (x : Operation) (us : Lexemes) → g.GraphOperation ts x us → begins_graph_operation (next_terminal ts) ≡ true
graph_operation_begins ts x us (inl h) = rw (keyword_terminal terminal.Clear _ ts x us h) refl
graph_operation_begins ts x us (inr (inl h)) = rw (keyword_terminal terminal.Drop _ ts x us h) refl
graph_operation_begins ts x us (inr (inr (inl h))) = rw (keyword_terminal terminal.Add _ ts x us h) refl
graph_operation_begins ts x us (inr (inr (inr (inl h)))) = rw (keyword_terminal terminal.Move _ ts x us h) refl
graph_operation_begins ts x us (inr (inr (inr (inr (inl h))))) = rw (keyword_terminal terminal.Copy _ ts x us h) refl
graph_operation_begins ts x us (inr (inr (inr (inr (inr h))))) = rw (keyword_terminal terminal.Create _ ts x us h) refl

pub graph_operation_decides : Decides read.graph_operation g.GraphOperation always
unfolding read.graph_operation
graph_operation_decides = record {
  sound = λ ts x us h. graph_operation_sound (next_terminal ts) ts x us refl h;
  complete = λ ts x us h _. graph_operation_complete ts x us h;
  shorter = λ ts x us h. let e = graph_operation_strict ts x us h in omega arith;
}
