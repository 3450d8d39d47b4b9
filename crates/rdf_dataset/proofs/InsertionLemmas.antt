-- Data that comes in, one quad after another. Crates above cite this file.
use Rattle.std.proofs.Common.{◌≡◌, ℕ, ◌+◌, ◌-◌, ◌≤◌, Bool, true, false, ◌||◌, ◌&&◌, not, List, [], ◌∷◌, ◌++◌, length, map, refl, sym, ap, ◌∙◌, subst, arith, Option, Some, None, if◌then◌else◌}
use Rattle.std.specs.declared.cmp.Ordering.{Ordering}
use Rattle.std.specs.Cmp.{IsTotalOrder}
use Rattle.std.specs.FinSet as set
use Rattle.std.specs.FinSet.{IsAntisymmetric, contains, contains-from_list, contains-insert, contains-union, from_list, insert, same_set, union}
use Rattle.std.specs.List.{flat_map, list_any}
use Rattle.std.specs.Ordering.{eq_by_cmp}
use Rattle.rdf_terms.specs.OrderLaws.{term_cmp_total, term_cmp-IsAntisymmetric, quad_cmp_total, quad_cmp-IsAntisymmetric}
use Rattle.rdf_terms.specs.Quad.{QuadParts, is_quad, may_name_graph, has_right_kinds}
use Rattle.rdf_terms.specs.Term.{is_literal_term, is_iri_term}
use Rattle.rdf_terms.specs.declared.quad.GraphName.{GraphName}
use Rattle.rdf_terms.specs.declared.quad.GraphName.TheVariants.{Default, Named}
use Rattle.rdf_terms.specs.declared.term.Term.{Term}
use Rattle.rdf_terms.specs.declared.term.Term.TheVariants.{Blank, Iri, Literal}
use Rattle.rdf_terms.specs.Below.{AreBelow}
use Rattle.rdf_dataset.specs.Insertion.{graph_from, graph_names, names_in, quad_from, term_from, with_all, with_data}
use Rattle.rdf_dataset.specs.Staging.{Staging, staged}
use Rattle.rdf_dataset.specs.State.{State, Names, IsGraphBelow, IsQuadBelow, IsTermBelow, last_number, with_blanks, with_graph, with_quad}

-- ---- other numbers keep the kind of each term

literal : (first : ℕ) (t : Term) → is_literal_term (term_from first t) ≡ is_literal_term t
literal first (Blank number) = refl
literal first (Iri iri) = refl
literal first (Literal l) = refl

iri : (first : ℕ) (t : Term) → is_iri_term (term_from first t) ≡ is_iri_term t
iri first (Blank number) = refl
iri first (Iri text) = refl
iri first (Literal l) = refl

name : (first : ℕ) (g : GraphName) → may_name_graph (graph_from first g) ≡ may_name_graph g
name first Default = refl
name first (Named t) = ap not (literal first t)

right_kinds : (first : ℕ) (q : QuadParts) → has_right_kinds (quad_from first q) ≡ has_right_kinds q
right_kinds first q = λ i. name first q.graph i && (not (literal first q.subject i) && iri first q.predicate i)

first_true : (a b : Bool) → (a && b) ≡ true → a ≡ true
first_true true b h = refl
first_true false b h = h

-- what `Quad::new` answers of a quad's parts with other numbers
pub quad_from-made : (first : ℕ) (q : QuadParts) (g : GraphName) (s p o : Term) (r : Option QuadParts) → g ≡ graph_from first q.graph → s ≡ term_from first q.subject → p ≡ term_from first q.predicate → o ≡ term_from first q.object
    → r ≡ (let parts : QuadParts = record { graph = g; subject = s; predicate = p; object = o } in if has_right_kinds parts then Some parts else None)
    → is_quad q ≡ true → r ≡ Some (quad_from first q)
quad_from-made first q g s p o r eg es ep eo e sound =
    e ∙ (λ i. let parts : QuadParts = record { graph = eg i; subject = es i; predicate = ep i; object = eo i } in if has_right_kinds parts then Some parts else None)
    ∙ ap (λ b. if b then Some (quad_from first q) else None) (right_kinds first q ∙ first_true (has_right_kinds q) _ sound)

-- ---- the numbers of a quad that comes in lie below the counter

term_below : (first blanks next : ℕ) (t : Term) → IsTermBelow blanks t → first + blanks ≤ next → IsTermBelow next (term_from first t)
term_below first blanks next (Blank number) b h = omega (arith, b, h)
term_below first blanks next (Iri iri) b h = tt
term_below first blanks next (Literal l) b h = tt

graph_below : (first blanks next : ℕ) (g : GraphName) → IsGraphBelow blanks g → first + blanks ≤ next → IsGraphBelow next (graph_from first g)
graph_below first blanks next Default b h = tt
graph_below first blanks next (Named t) b h = term_below first blanks next t b h

pub quad_below : (first blanks next : ℕ) (q : QuadParts) → IsQuadBelow blanks q → first + blanks ≤ next → IsQuadBelow next (quad_from first q)
quad_below first blanks next q b h = record {
  graph = graph_below first blanks next q.graph b.graph h;
  subject = term_below first blanks next q.subject b.subject h;
  predicate = term_below first blanks next q.predicate b.predicate h;
  object = term_below first blanks next q.object b.object h;
}

term_sooner : (a b : ℕ) (t : Term) → IsTermBelow a t → a ≤ b → IsTermBelow b t
term_sooner a b (Blank number) h l = omega (arith, h, l)
term_sooner a b (Iri iri) h l = tt
term_sooner a b (Literal literal) h l = tt

graph_sooner : (a b : ℕ) (g : GraphName) → IsGraphBelow a g → a ≤ b → IsGraphBelow b g
graph_sooner a b Default h l = tt
graph_sooner a b (Named t) h l = term_sooner a b t h l

pub quad_sooner : (a b : ℕ) (q : QuadParts) → IsQuadBelow a q → a ≤ b → IsQuadBelow b q
quad_sooner a b q h l = record {
  graph = graph_sooner a b q.graph h.graph l;
  subject = term_sooner a b q.subject h.subject l;
  predicate = term_sooner a b q.predicate h.predicate l;
  object = term_sooner a b q.object h.object l;
}

-- ---- sets

or_nothing : (a : Bool) → (a || false) ≡ a
or_nothing true = refl
or_nothing false = refl

or_moved : (t a b : Bool) → ((t || a) || b) ≡ (a || (t || b))
or_moved true true b = refl
or_moved true false b = refl
or_moved false true b = refl
or_moved false false b = refl

module _ {K : Type 0} {R : K → K → Ordering} (o : IsTotalOrder R) (apart : IsAntisymmetric R) where
  union-nothing : (s : set.FinSet R) → union s (from_list []) ≡ s
  union-nothing s = same_set o apart _ _ (λ x. contains-union o s (from_list []) x ∙ ap (λ b. contains s x || b) (contains-from_list o [] x) ∙ or_nothing (contains s x))

  union-one_more : (s : set.FinSet R) (k : K) (ks : List K) → union (insert s k) (from_list ks) ≡ union s (from_list (k ∷ ks))
  union-one_more s k ks = same_set o apart _ _ (λ x.
      contains-union o (insert s k) (from_list ks) x
      ∙ (λ i. contains-insert o s k x i || contains-from_list o ks x i)
      ∙ or_moved (eq_by_cmp R x k) (contains s x) (list_any (eq_by_cmp R x) ks)
      ∙ sym (contains-union o s (from_list (k ∷ ks)) x ∙ ap (λ b. contains s x || b) (contains-from_list o (k ∷ ks) x)))

names_more : (names : Names) (g : GraphName) (more : List Term) → union (with_graph names g) (from_list more) ≡ union names (from_list (graph_names g ++ more))
names_more names Default more = refl
names_more names (Named n) more = union-one_more term_cmp_total term_cmp-IsAntisymmetric names n more

-- nothing comes in
pub with_all-nothing : (s : State) → with_all s [] ≡ s
with_all-nothing s = λ i. record {
  quads = union-nothing quad_cmp_total quad_cmp-IsAntisymmetric s.quads i;
  names = union-nothing term_cmp_total term_cmp-IsAntisymmetric s.names i;
  next = s.next;
}

-- the first quad comes in, then the others
pub with_all-more : (s : State) (q : QuadParts) (qs : List QuadParts) → with_all (with_quad s q) qs ≡ with_all s (q ∷ qs)
with_all-more s q qs = λ i. record {
  quads = union-one_more quad_cmp_total quad_cmp-IsAntisymmetric s.quads q qs i;
  names = names_more s.names q.graph (flat_map names_in qs) i;
  next = s.next;
}

-- ---- staging

-- some of the quads have come in, and the rest are to come
pub record IsInserting (old : Staging) (quads : List QuadParts) (blanks : ℕ) (s : Staging) (first : ℕ) (rest : List QuadParts) : Type 0 where
  pub beneath : s.under ≡ old.under
  pub from : first ≡ old.now.next
  pub all : with_all s.now (map (quad_from first) rest) ≡ with_data old.now quads blanks
  pub below : AreBelow blanks rest
  pub counter : s.now.next ≡ old.now.next + blanks
  pub limit : old.now.next + blanks ≤ last_number

pub inserting_begins : (old new : Staging) (quads rest : List QuadParts) (blanks first : ℕ) → AreBelow blanks quads → old.now.next + blanks ≤ last_number → first ≡ old.now.next → new ≡ staged old (with_blanks old.now blanks) → rest ≡ quads → IsInserting old quads blanks new first rest
inserting_begins old new quads rest blanks first b h f n r = record {
  beneath = ap (λ (s : Staging). s.under) n;
  from = f;
  all = λ i. with_all (n i).now (map (quad_from (f i)) (r i));
  below = subst (AreBelow blanks) (sym r) b;
  counter = ap (λ (s : Staging). s.now.next) n;
  limit = h;
}

pub next_below : (blanks : ℕ) (rest more : List QuadParts) (q : QuadParts) → AreBelow blanks rest → rest ≡ q ∷ more → IsQuadBelow blanks q × AreBelow blanks more
next_below blanks rest more q b e = subst (AreBelow blanks) e b

pub inserting_goes_on : (old now new : Staging) (quads rest more : List QuadParts) (blanks first : ℕ) (q moved : QuadParts) → IsInserting old quads blanks now first rest → rest ≡ q ∷ more → moved ≡ quad_from first q → new ≡ staged now (with_quad now.now moved) → IsInserting old quads blanks new first more
inserting_goes_on old now new quads rest more blanks first q moved h e m n =
    let is : new ≡ staged now (with_quad now.now (quad_from first q)) = n ∙ ap (λ x. staged now (with_quad now.now x)) m in
    record {
      beneath = ap (λ (s : Staging). s.under) is ∙ h.beneath;
      from = h.from;
      all = ap (λ (s : Staging). with_all s.now (map (quad_from first) more)) is ∙ with_all-more now.now (quad_from first q) (map (quad_from first) more)
          ∙ ap (λ xs. with_all now.now (map (quad_from first) xs)) (sym e) ∙ h.all;
      below = (next_below blanks rest more q h.below e).1;
      counter = ap (λ (s : Staging). s.now.next) is ∙ h.counter;
      limit = h.limit;
    }

pub inserting_ends : (old now : Staging) (quads rest : List QuadParts) (blanks first : ℕ) → IsInserting old quads blanks now first rest → rest ≡ [] → now ≡ staged old (with_data old.now quads blanks)
inserting_ends old now quads rest blanks first h e =
    let all : now.now ≡ with_data old.now quads blanks = sym (with_all-nothing now.now) ∙ ap (λ xs. with_all now.now (map (quad_from first) xs)) (sym e) ∙ h.all in
    λ i. record { under = h.beneath i; now = all i }

pub none_left : {X : Type 0} (xs : List X) (n : ℕ) → n ≡ length xs → n ≡ 0 → xs ≡ []
none_left [] n e h = refl
none_left (x ∷ xs) n e h = absurd (omega (arith, e, h))

-- the next quad's numbers, before it is numbered on and after
pub room_before : (old now : Staging) (quads rest more : List QuadParts) (blanks first : ℕ) (q : QuadParts) → IsInserting old quads blanks now first rest → rest ≡ q ∷ more → IsQuadBelow (last_number - first) q
room_before old now quads rest more blanks first q h e = quad_sooner blanks (last_number - first) q (next_below blanks rest more q h.below e).0 (omega (arith, h.limit, h.from))

pub room_after : (old now : Staging) (quads rest more : List QuadParts) (blanks first : ℕ) (q : QuadParts) → IsInserting old quads blanks now first rest → rest ≡ q ∷ more → IsQuadBelow now.now.next (quad_from first q)
room_after old now quads rest more blanks first q h e = quad_below first blanks now.now.next q (next_below blanks rest more q h.below e).0 (omega (arith, h.counter, h.from))
