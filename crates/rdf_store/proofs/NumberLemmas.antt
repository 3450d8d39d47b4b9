-- Numbers of terms and quads in a table that grows.
use Rattle.std.proofs.Common.{◌≡◌, ℕ, zero, suc, ◌+◌, leb, not, arith, true, false, cond, List, [], ◌∷◌, ◌++◌, refl, sym, ap, subst, ◌∙◌, add-one}
use Rattle.std.specs.Prelude.{Option, None, Some, unwrap_or, IsTrue}
use mathlib.Core.Bool.{true≢false}
use Rattle.std.proofs.lemmas.Bool.{le-leb}
use Rattle.std.specs.Ordering.{eq_by_cmp}
use Rattle.rdf_terms.specs.declared.term.Term.{Term}
use Rattle.rdf_terms.specs.declared.term.Term.TheVariants.{Blank}
use Rattle.rdf_terms.specs.declared.quad.GraphName.{GraphName}
use Rattle.rdf_terms.specs.declared.quad.GraphName.TheVariants.{Default, Named}
use Rattle.rdf_terms.specs.Quad.{QuadParts, is_quad, has_right_kinds}
use Rattle.rdf_terms.specs.Order.{term_cmp}
use Rattle.rdf_terms.specs.OrderLaws.{term_cmp_total, term_cmp-IsAntisymmetric}
use Rattle.rdf_terms.specs.Table.{IsIdOf, AreHeldOnce, is_held, with_term}
use Rattle.rdf_orders.specs.Quads.{IdQuad, is_from}
use Rattle.rdf_orders.proofs.CallerLemmas.{first_of_both, either_first, either_second}
use Rattle.rdf_store.specs.Stored.{in_named, is_default}
use Rattle.rdf_store.specs.Inside.Numbers.{IsGraphNumber, AreNumbersOf, IsGrown, HasTerms, term_at, graph_at, parts_at}
use Rattle.rdf_store.proofs.ImageLemmas.{eq_of_same}

-- ---- held terms

pub held_from_id : (table : List Term) (id : ℕ) (t : Term) → IsIdOf table id t → is_held table t ≡ true
held_from_id [] id t e = cc
held_from_id (x ∷ xs) zero t e = let same : t ≡ x = cc in either_first _ _ (eq_of_same term_cmp_total term_cmp-IsAntisymmetric t x same)
held_from_id (x ∷ xs) (suc id) t e = either_second (eq_by_cmp term_cmp t x) _ (held_from_id xs id t e)

pub lacks_from_absent : (table : List Term) (t : Term) → is_held table t ≡ false → (id : ℕ) → ¬ IsIdOf table id t
lacks_from_absent table t none id e = true≢false (sym (held_from_id table id t e) ∙ none)

-- ---- growth

pub grown_itself : (table : List Term) → IsGrown table table
grown_itself table = record { keeps = λ id t e. e }

pub grown_same : (old new : List Term) → new ≡ old → IsGrown old new
grown_same old new e = subst (IsGrown old) (sym e) (grown_itself old)

pub grown_then : (a b c : List Term) → IsGrown a b → IsGrown b c → IsGrown a c
grown_then a b c g h = record { keeps = λ id t e. h.keeps id t (g.keeps id t e) }

get_more : (table : List Term) (x : Term) (id : ℕ) (t : Term) → IsIdOf table id t → IsIdOf (table ++ x ∷ []) id t
get_more [] x id t e = cc
get_more (y ∷ ys) x zero t e = e
get_more (y ∷ ys) x (suc id) t e = get_more ys x id t e

pub grown_with : (table : List Term) (x : Term) → IsGrown table (with_term table x)
grown_with table x = elim (is_held table x) as (λ b. IsGrown table (cond b table (table ++ x ∷ []))) [
  | true ↦ grown_itself table
  | false ↦ record { keeps = get_more table x }
]

-- ---- graphs

pub graph_grown : (old new : List Term) → IsGrown old new → (id : ℕ) (g : GraphName) → IsGraphNumber old id g → IsGraphNumber new id g
graph_grown old new grown zero Default e = tt
graph_grown old new grown zero (Named t) e = absurd e
graph_grown old new grown (suc id) Default e = absurd e
graph_grown old new grown (suc id) (Named t) e = grown.keeps id t e

-- the graphs with names have the numbers from 1 on
pub named_from : (table : List Term) (id : ℕ) (g : GraphName) → IsGraphNumber table id g → leb 1 id ≡ not (is_default g)
named_from table zero Default e = refl
named_from table zero (Named t) e = absurd e
named_from table (suc id) Default e = absurd e
named_from table (suc id) (Named t) e = le-leb 1 (suc id) (omega arith)

pub quad_named_from : (table : List Term) (k : IdQuad) (q : QuadParts) → AreNumbersOf table k q → is_from 1 k ≡ in_named q
quad_named_from table k q n = named_from table k.graph q.graph n.graph

pub term_is : (table : List Term) (id : ℕ) (t : Term) → IsIdOf table id t → term_at table id ≡ t
term_is table id t e = ap (λ o. unwrap_or o (Blank 0)) e

pub graph_is : (table : List Term) (id : ℕ) (g : GraphName) → IsGraphNumber table id g → graph_at table id ≡ g
graph_is table zero Default e = refl
graph_is table zero (Named t) e = absurd e
graph_is table (suc id) Default e = absurd e
graph_is table (suc id) (Named t) e = ap Named (term_is table id t e)

pub graph_once : (table : List Term) → AreHeldOnce table → (i j : ℕ) (g : GraphName) → IsGraphNumber table i g → IsGraphNumber table j g → i ≡ j
graph_once table once zero zero g e f = refl
graph_once table once zero (suc j) Default e f = absurd f
graph_once table once zero (suc j) (Named t) e f = absurd e
graph_once table once (suc i) zero Default e f = absurd e
graph_once table once (suc i) zero (Named t) e f = absurd f
graph_once table once (suc i) (suc j) Default e f = absurd e
graph_once table once (suc i) (suc j) (Named t) e f = ap suc (once i j t e f)

-- a number that isn't 0 is that of a graph with a name
pub name_is : (table : List Term) (number id : ℕ) → number ≡ id + 1 → Named (term_at table id) ≡ graph_at table number
name_is table number id e = sym (ap (graph_at table) (e ∙ add-one id))

-- ---- quads

pub numbered_grown : (old new : List Term) → IsGrown old new → (k : IdQuad) (q : QuadParts) → AreNumbersOf old k q → AreNumbersOf new k q
numbered_grown old new grown k q n = record {
  sound = n.sound;
  graph = graph_grown old new grown k.graph q.graph n.graph;
  subject = grown.keeps k.subject q.subject n.subject;
  predicate = grown.keeps k.predicate q.predicate n.predicate;
  object = grown.keeps k.object q.object n.object;
}

pub numbered_is : (table : List Term) (k : IdQuad) (q : QuadParts) → AreNumbersOf table k q → parts_at table k ≡ q
numbered_is table k q n = λ i. record {
  graph = graph_is table k.graph q.graph n.graph i;
  subject = term_is table k.subject q.subject n.subject i;
  predicate = term_is table k.predicate q.predicate n.predicate i;
  object = term_is table k.object q.object n.object i;
}

pub numbered_kept : (table : List Term) (k : IdQuad) (q : QuadParts) → AreNumbersOf table k q → HasTerms table k
numbered_kept table k q n = subst (AreNumbersOf table k) (sym (numbered_is table k q n)) n

pub numbered_once : (table : List Term) → AreHeldOnce table → (k l : IdQuad) (q : QuadParts) → AreNumbersOf table k q → AreNumbersOf table l q → k ≡ l
numbered_once table once k l q n m = λ i. record {
  graph = graph_once table once k.graph l.graph q.graph n.graph m.graph i;
  subject = once k.subject l.subject q.subject n.subject m.subject i;
  predicate = once k.predicate l.predicate q.predicate n.predicate m.predicate i;
  object = once k.object l.object q.object n.object m.object i;
}

pub id_kept : (table : List Term) (id : ℕ) (t : Term) → IsIdOf table id t → IsIdOf table id (term_at table id)
id_kept table id t e = subst (IsIdOf table id) (sym (term_is table id t e)) e

pub id_later : (old new : List Term) (id : ℕ) → IsGrown old new → IsIdOf old id (term_at old id) → IsIdOf new id (term_at new id)
id_later old new id grown e = id_kept new id (term_at old id) (grown.keeps id (term_at old id) e)

-- the table grows from one number to the next
pub numbered_in_steps : (a b c d : List Term) (q : QuadParts) (g : GraphName) (s p o : Term) (gn sn pn on : ℕ) → IsTrue (is_quad q) → g ≡ q.graph → s ≡ q.subject → p ≡ q.predicate → o ≡ q.object
    → IsGrown a b → IsGrown b c → IsGrown c d → IsGraphNumber a gn g → IsIdOf b sn s → IsIdOf c pn p → IsIdOf d on o
    → AreNumbersOf d (record { graph = gn; subject = sn; predicate = pn; object = on }) q
numbered_in_steps a b c d q g s p o gn sn pn on sound ge se pe oe ab bc cd gi si pi oi = record {
  sound = sound;
  graph = subst (IsGraphNumber d gn) ge (graph_grown a d (grown_then a c d (grown_then a b c ab bc) cd) gn g gi);
  subject = subst (IsIdOf d sn) se (cd.keeps sn s (bc.keeps sn s si));
  predicate = subst (IsIdOf d pn) pe (cd.keeps pn p pi);
  object = subst (IsIdOf d on) oe oi;
}

-- what is made of the four places of a kept quad
pub made : (table : List Term) (k : IdQuad) (g : GraphName) (s p o : Term) (r : Option QuadParts) → HasTerms table k → g ≡ graph_at table k.graph
    → s ≡ term_at table k.subject → p ≡ term_at table k.predicate → o ≡ term_at table k.object
    → r ≡ cond (has_right_kinds (record { graph = g; subject = s; predicate = p; object = o })) (Some (record { graph = g; subject = s; predicate = p; object = o })) None
    → r ≡ Some (parts_at table k)
made table k g s p o r kept eg es ep eo e =
    let same : record { graph = g; subject = s; predicate = p; object = o } ≡ parts_at table k = λ i. record {
      graph = eg i;
      subject = es i;
      predicate = ep i;
      object = eo i;
    } in
    e ∙ ap (λ (q : QuadParts). cond (has_right_kinds q) (Some q) None) same
    ∙ ap (λ b. cond b (Some (parts_at table k)) None) (first_of_both (has_right_kinds (parts_at table k)) _ kept.sound)
