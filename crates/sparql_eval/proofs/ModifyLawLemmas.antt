-- Laws of DELETE/INSERT.
use Rattle.std.proofs.Common.{◌≡◌, ℕ, suc, ◌+◌, ◌*◌, ◌/◌, ◌<◌, Bool, true, false, ◌||◌, ◌&&◌, not, ltb, List, [], ◌∷◌, ◌++◌, length, map, refl, sym, ap, ◌∙◌, arith, Option, None, Some, Result, if◌then◌else◌}
use Rattle.std.specs.FinSet.{contains, contains-difference, contains-from_list, contains-union, difference, from_list}
use Rattle.std.specs.List.{cons_option, flat_map, list_any}
use Rattle.std.specs.Option.{option_map}
use Rattle.std.specs.Ordering.{eq_by_cmp}
use Rattle.std.proofs.Math.Nat.{suc-mul}
use Rattle.std.proofs.Math.Numerals.{suc-eq-add-one}
use Rattle.std.proofs.lemmas.Nat.{div-mul-add}
use Rattle.std.proofs.lemmas.Bool.{lt-ltb}
use Rattle.rdf_terms.specs.Order.{term_cmp}
use Rattle.rdf_terms.specs.OrderLaws.{quad_cmp_total, term_cmp_total}
use Rattle.rdf_terms.specs.Quad.{QuadParts, has_right_kinds, may_name_graph}
use Rattle.rdf_terms.specs.Term.{is_iri_term, is_literal_term}
use Rattle.rdf_terms.specs.declared.quad.GraphName.{GraphName}
use Rattle.rdf_terms.specs.declared.quad.GraphName.TheVariants.{Default, Named}
use Rattle.rdf_terms.specs.declared.term.Term.{Term}
use Rattle.rdf_terms.specs.declared.term.Term.TheVariants.{Blank, Iri, Literal}
use Rattle.rdf_dataset.specs.Insertion.{graph_from, graph_names, names_in, quad_from, term_from, with_all}
use Rattle.rdf_dataset.specs.State.{State, last_number, with_blanks}
use Rattle.sparql_algebra.specs.Listing.{listing_of}
use Rattle.sparql_algebra.specs.Results.{projected}
use Rattle.sparql_algebra.specs.Solutions.{solutions}
use Rattle.sparql_algebra.specs.Sorted.{sort, sorted_solutions}
use Rattle.sparql_algebra.proofs.CallerLemmas.{translation-is}
use Rattle.sparql_eval.specs.Graphs.{same_graph}
use Rattle.sparql_eval.specs.Laws.{EachSolutionHasItsOwnBlankNodes, InsertDataIsModify, IsModified, ModifyDeletesThenInserts, data_of, empty_pattern, first_of, is_among}
use Rattle.sparql_eval.specs.Operations.{answer, deletions, insertions, modified, unless, without_all}
use Rattle.sparql_eval.specs.Templates.{all_instances, graph_under, instance, instances, name_under, term_under}
use Rattle.sparql_trees.specs.Quads.{quad_by}
use Rattle.sparql_eval.specs.declared.fault.ApplyFault.{ApplyFault}
use Rattle.sparql_eval.specs.declared.fault.ApplyFault.TheVariants.{BlankNumbers}
use Rattle.sparql_eval.proofs.LawLemmas.{any_join, not_silent}
use Rattle.sparql_eval.proofs.QuadLemmas.{without_all-nothing}
use Rattle.sparql_eval.proofs.SetLemmas.{or_false}
use Rattle.sparql_trees.specs.Visible.{Names, named, names_of_member, names_of_pattern, names_where, visible, with_names}
use Rattle.sparql_trees.specs.declared.pattern.Member.TheFolds.{fold-roll-Pattern}
use Rattle.sparql_trees.specs.declared.pattern.VarOrIri.{VarOrIri}
use Rattle.sparql_trees.specs.declared.pattern.VarOrIri.TheVariants as name
use Rattle.sparql_trees.specs.declared.pattern.VarOrTerm.{VarOrTerm}
use Rattle.sparql_trees.specs.declared.pattern.VarOrTerm.TheVariants as place
use Rattle.sparql_trees.specs.declared.template.Modify.{Modify as Modification}
use Rattle.sparql_trees.specs.declared.template.QuadPattern.{QuadPattern}
use Rattle.sparql_trees.specs.declared.template.Template.{Template}
use Rattle.sparql_values.specs.Mapping.{Mapping, Variables}

-- ---- what is left

or_turned : (a b : Bool) → (a || b) ≡ (b || a)
or_turned true true = refl
or_turned true false = refl
or_turned false true = refl
or_turned false false = refl

-- a name comes with the quads of its graph
pub names_listed : (qs : List QuadParts) (n : Term) → list_any (eq_by_cmp term_cmp n) (flat_map names_in qs) ≡ list_any (λ q. same_graph (Named n) q.graph) qs
names_listed [] n = refl
names_listed (q ∷ qs) n =
    any_join (eq_by_cmp term_cmp n) (graph_names q.graph) (flat_map names_in qs) ∙ (λ i. of_graph q.graph i || names_listed qs n i)
  where
    of_graph : (g : GraphName) → list_any (eq_by_cmp term_cmp n) (graph_names g) ≡ same_graph (Named n) g
    of_graph Default = refl
    of_graph (Named m) = or_false (eq_by_cmp term_cmp n m)

is_modified : (s : State) (m : Modification) → IsModified s (modified s m) m
is_modified s m = record {
  quads = λ q.
      contains-union quad_cmp_total (difference s.quads (from_list (deletions s m))) (from_list (insertions s m)) q
      ∙ (λ i. (contains-difference quad_cmp_total s.quads (from_list (deletions s m)) q ∙ ap (λ b. contains s.quads q && not b) (contains-from_list quad_cmp_total (deletions s m) q)) i
      || contains-from_list quad_cmp_total (insertions s m) q i)
      ∙ or_turned (contains s.quads q && not (is_among (deletions s m) q)) (is_among (insertions s m) q);
  names = λ n.
      contains-union term_cmp_total s.names (from_list (flat_map names_in (insertions s m))) n
      ∙ ap (λ b. contains s.names n || b) (contains-from_list term_cmp_total (flat_map names_in (insertions s m)) n ∙ names_listed (insertions s m) n);
  next = refl;
}

pub modify_deletes_then_inserts : ModifyDeletesThenInserts
modify_deletes_then_inserts s t m leads =
    let led : modified s m ≡ t = not_silent s (modified s m) t _ leads in
    let whole = is_modified s m in
    record {
      quads = λ q. ap (λ (z : State). contains z.quads q) (sym led) ∙ whole.quads q;
      names = λ n. ap (λ (z : State). contains z.names n) (sym led) ∙ whole.names n;
      next = ap (λ (z : State). z.next) (sym led);
    }

-- ---- solutions apart

append_more : (xs ys zs : List QuadParts) → (xs ++ ys) ++ zs ≡ xs ++ (ys ++ zs)
append_more [] ys zs = refl
append_more (x ∷ xs) ys zs = ap (λ l. x ∷ l) (append_more xs ys zs)

module _ (variables : Variables) (home : GraphName) (blanks : ℕ) (quads : List QuadPattern) (m : Mapping) (behind : List Mapping) where
  -- what comes from that solution on, whose numbers begin there, and from the next one on
  abbrev from_on : ℕ → ℕ → List QuadParts
  from_on here next = instances variables home blanks quads here m ++ all_instances variables home blanks quads next behind

  from_there : (first : ℕ) (before : List Mapping) → all_instances variables home blanks quads first (before ++ m ∷ behind)
      ≡ all_instances variables home blanks quads first before ++ from_on (first_of first blanks (length before)) (first_of first blanks (length before + 1))
  from_there first [] =
      let here : first ≡ first + 0 * blanks = omega arith in
      let next : first + blanks ≡ first + (0 + 1) * blanks = omega arith in
      λ i. from_on (here i) (next i)
  from_there first (a ∷ before) =
      let here : first + blanks + length before * blanks ≡ first + suc (length before) * blanks = omega (arith, suc-mul (length before) blanks) in
      let next : first + blanks + (length before + 1) * blanks ≡ first + (suc (length before) + 1) * blanks =
      omega (arith, suc-mul (length before) blanks, suc-mul (suc (length before)) blanks, suc-eq-add-one (length before), suc-eq-add-one (suc (length before))) in
      ap (λ l. instances variables home blanks quads first a ++ l) (from_there (first + blanks) before)
      ∙ sym (append_more (instances variables home blanks quads first a) (all_instances variables home blanks quads (first + blanks) before)
      (from_on (first_of (first + blanks) blanks (length before)) (first_of (first + blanks) blanks (length before + 1))))
      ∙ (λ i. all_instances variables home blanks quads first (a ∷ before) ++ from_on (here i) (next i))

-- the place of a solution, and of a blank node, from its number
number_tells : (first blanks i j k l : ℕ) → j < blanks → l < blanks → first + i * blanks + j ≡ first + k * blanks + l → (i ≡ k) × (j ≡ l)
number_tells first blanks i j k l h g e =
    let rest : i * blanks + j ≡ k * blanks + l = omega (arith, e) in
    let place : i ≡ k = sym (div-mul-add i blanks j h) ∙ ap (λ n. n / blanks) rest ∙ div-mul-add k blanks l g in
    (place, omega (arith, rest, ap (λ n. n * blanks) place))

own_blank : (variables : Variables) (blanks first : ℕ) (m : Mapping) (j : ℕ) → j < blanks → term_under variables blanks first m (place.Hidden j) ≡ Some (Blank (first + j))
own_blank variables blanks first m j h = ap (λ b. if b then Some (Blank (first + j)) else None) (lt-ltb j blanks h)

pub each_solution_has_its_own_blank_nodes : EachSolutionHasItsOwnBlankNodes
each_solution_has_its_own_blank_nodes variables home blanks first quads before m behind = record {
  instances_are = from_there variables home blanks quads m behind first before;
  blanks_are = λ j h. own_blank variables blanks (first + length before * blanks) m j h;
  apart = λ i j k h g e. number_tells first blanks (length before) j i k h g e;
}

-- ---- INSERT DATA

no_names : (minus : Bool) → names_where minus empty_pattern ≡ []
no_names minus = fold-roll-Pattern Names Names (names_of_member minus) names_of_pattern (record { members = []; filters = [] })

none_visible : visible empty_pattern ≡ []
unfolding visible
none_visible = ap (with_names []) (no_names false)

none_named : named empty_pattern ≡ []
unfolding named
none_named = ap (with_names []) (no_names true)

-- the one solution of the empty pattern is the empty one
empty_once : (s : State) → sorted_solutions empty_pattern Default s ≡ [] ∷ []
unfolding sorted_solutions
empty_once s = λ i.
    sort (map (projected (none_named i) (none_visible i)) (solutions (none_named i) (listing_of s) Default (translation-is empty_pattern i)))

-- ---- with other numbers

module _ (n : ℕ) where
  literal : (t : Term) → is_literal_term (term_from n t) ≡ is_literal_term t
  literal (Blank number) = refl
  literal (Iri iri) = refl
  literal (Literal l) = refl

  iri_term : (t : Term) → is_iri_term (term_from n t) ≡ is_iri_term t
  iri_term (Blank number) = refl
  iri_term (Iri iri) = refl
  iri_term (Literal l) = refl

  names_graph : (g : GraphName) → may_name_graph (graph_from n g) ≡ may_name_graph g
  names_graph Default = refl
  names_graph (Named t) = ap not (literal t)

  term_moves : (blanks : ℕ) (x : VarOrTerm) → option_map (term_from n) (term_under [] blanks 0 [] x) ≡ term_under [] blanks n [] x
  term_moves blanks (place.Variable variable) = refl
  term_moves blanks (place.Hidden number) =
      elim (ltb number blanks) as (λ b. option_map (term_from n) (if b then Some (Blank (0 + number)) else None) ≡ (if b then Some (Blank (n + number)) else None)) [
        | true ↦ let same : n + (0 + number) ≡ n + number = omega arith in ap (λ k. Some (Blank k)) same
        | false ↦ refl
      ]
  term_moves blanks (place.Term (Blank number)) = refl
  term_moves blanks (place.Term (Iri iri)) = refl
  term_moves blanks (place.Term (Literal l)) = refl

  name_moves : (x : VarOrIri) → option_map (term_from n) (name_under [] [] x) ≡ name_under [] [] x
  name_moves (name.Variable variable) = refl
  name_moves (name.Iri iri) = refl

  graph_moves : (g : Option VarOrIri) → option_map (graph_from n) (graph_under [] Default [] g) ≡ graph_under [] Default [] g
  graph_moves None = refl
  graph_moves (Some (name.Variable variable)) = refl
  graph_moves (Some (name.Iri iri)) = refl

  quad_moves : (g : Option GraphName) (s p o : Option Term)
      → option_map (quad_from n) (quad_by g s p o) ≡ quad_by (option_map (graph_from n) g) (option_map (term_from n) s) (option_map (term_from n) p) (option_map (term_from n) o)
  quad_moves None s p o = refl
  quad_moves (Some g) None p o = refl
  quad_moves (Some g) (Some s) None o = refl
  quad_moves (Some g) (Some s) (Some p) None = refl
  quad_moves (Some g) (Some s) (Some p) (Some o) =
      let parts : QuadParts = record { graph = g; subject = s; predicate = p; object = o } in
      either (has_right_kinds parts) parts
      ∙ sym (λ i. if names_graph g i && (not (literal s i) && iri_term p i) then Some (quad_from n parts) else None)
    where
      either : (b : Bool) (q : QuadParts) → option_map (quad_from n) (if b then Some q else None) ≡ (if b then Some (quad_from n q) else None)
      either true q = refl
      either false q = refl

  instance_moves : (blanks : ℕ) (q : QuadPattern) → option_map (quad_from n) (instance [] Default blanks 0 [] q) ≡ instance [] Default blanks n [] q
  instance_moves blanks q =
      quad_moves (graph_under [] Default [] q.graph) (term_under [] blanks 0 [] q.triple.subject) (name_under [] [] q.triple.predicate) (term_under [] blanks 0 [] q.triple.object)
      ∙ (λ i. quad_by (graph_moves q.graph i) (term_moves blanks q.triple.subject i) (name_moves q.triple.predicate i) (term_moves blanks q.triple.object i))

  instances_move : (blanks : ℕ) (quads : List QuadPattern) → map (quad_from n) (instances [] Default blanks quads 0 []) ≡ instances [] Default blanks quads n []
  instances_move blanks [] = refl
  instances_move blanks (q ∷ quads) =
      in_front (instance [] Default blanks 0 [] q) (instances [] Default blanks quads 0 [])
      ∙ (λ i. cons_option (instance_moves blanks q i) (instances_move blanks quads i))
    where
      in_front : (x : Option QuadParts) (qs : List QuadParts) → map (quad_from n) (cons_option x qs) ≡ cons_option (option_map (quad_from n) x) (map (quad_from n) qs)
      in_front None qs = refl
      in_front (Some x) qs = refl

no_more : (qs : List QuadParts) → qs ++ [] ≡ qs
no_more [] = refl
no_more (q ∷ qs) = ap (λ l. q ∷ l) (no_more qs)

-- what INSERT of a template leads to under these solutions
abbrev inserted_under : State → Template → Variables → List Mapping → Result State ApplyFault
inserted_under s t variables rows =
    answer s (with_all (with_blanks (without_all s (all_instances variables Default 0 [] s.next rows)) (length rows * t.blanks)) (all_instances variables Default t.blanks t.quads s.next rows))
    false (unless (not (ltb last_number (s.next + length rows * t.blanks))) BlankNumbers)

pub insert_data_is_modify : InsertDataIsModify
insert_data_is_modify s t =
    let once : t.blanks ≡ 1 * t.blanks = omega arith in
    let quads : map (quad_from s.next) (data_of t).quads ≡ instances [] Default t.blanks t.quads s.next [] ++ [] =
    instances_move s.next t.blanks t.quads ∙ sym (no_more (instances [] Default t.blanks t.quads s.next [])) in
    (λ i. answer s (with_all (with_blanks s (once i)) (quads i)) false (unless (not (ltb last_number (s.next + once i))) BlankNumbers))
    ∙ sym (λ i. answer s (with_all (with_blanks (without_all-nothing s i) (1 * t.blanks)) (instances [] Default t.blanks t.quads s.next [] ++ [])) false
    (unless (not (ltb last_number (s.next + 1 * t.blanks))) BlankNumbers))
    ∙ sym (λ i. inserted_under s t (none_visible i) (empty_once s i))
