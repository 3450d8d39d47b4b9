-- Quads by the ranks of their terms. Terms that are sorted are a table too: the rank of one is its number there.
use Rattle.std.specs.Prelude.{◌≡◌, ◌<◌, ◌≤◌, ℕ, List, All, map, length, slice_get, Some, IsTrue}
use Rattle.std.specs.List.Sorted.{IsStrictlySortedBy}
use Rattle.rdf_terms.specs.declared.term.Term.{Term}
use Rattle.rdf_terms.specs.Quad.{QuadParts, is_quad}
use Rattle.rdf_terms.specs.Order.{term_cmp}
use Rattle.rdf_terms.specs.Table.{IsIdOf}
use Rattle.rdf_store.specs.Inside.Numbers.{graph_at, term_at}
use Rattle.rdf_store.specs.declared.ranks.Numbered.{Numbered}
use Rattle.rdf_store.specs.declared.ranks.Ranked.{Ranked}

-- each term has its number in the table
abbrev pub AreNumbered : List Term → List Numbered → Type 0
AreNumbered table terms = All (λ n. IsIdOf table n.number n.term.now) terms

abbrev pub terms_in : List Numbered → List Term
terms_in terms = map (λ n. n.term.now) terms

-- the term of the number stands at the place
abbrev pub StandsAt : List Numbered → ℕ → ℕ → Type 0
StandsAt terms place number = (n : Numbered) × (slice_get terms place ≡ Some n) × (n.number ≡ number)

-- the terms are those of the table, each once, and rise
pub record AreRanked (table : List Term) (terms : List Numbered) : Type 0 where
  pub numbered : AreNumbered table terms
  pub rises : IsStrictlySortedBy term_cmp (terms_in terms)

-- ---- what ranks stand for

abbrev pub parts_ranked : List Term → Ranked → QuadParts
parts_ranked ranks r = record {
  graph = graph_at ranks r.graph;
  subject = term_at ranks r.subject;
  predicate = term_at ranks r.predicate;
  object = r.object.now;
}

-- the ranks are those of terms, and make a quad
pub record HasRanks (ranks : List Term) (r : Ranked) : Type 0 where
  pub graph : r.graph ≤ length ranks
  pub subject : r.subject < length ranks
  pub predicate : r.predicate < length ranks
  pub sound : IsTrue (is_quad (parts_ranked ranks r))
