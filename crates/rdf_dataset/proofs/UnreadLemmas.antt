-- Changes that nobody reads before they are a net.
use Rattle.std.proofs.Common.{◌≡◌, ℕ, ◌+◌, ◌≤◌, List, IsTrue, refl}
use Rattle.std.specs.FinSet.{insert, remove}
use Rattle.rdf_sets.specs.Delta.{IsDelta}
use Rattle.rdf_terms.specs.Quad.{QuadParts, is_quad}
use Rattle.rdf_terms.specs.declared.term.Term.{Term}
use Rattle.rdf_dataset.specs.Inside.Unread.{change_of}
use Rattle.rdf_dataset.specs.State.{State, Change, IsSound, IsQuadBelow, applied, last_number, with_blanks, with_graph, with_quad, without_quad}
use Rattle.rdf_dataset.proofs.StateLemmas.{Keeps, leads_of, net_of, net_with_quad, over, restaged, sound_with_blanks, sound_with_quad, sound_without_quad}

-- the change leads from s to t, and its own view says so
abbrev pub Outcome : State → Change → State → Type 0
Outcome s n t = Keeps s n × (over s (applied n s) ≡ over s t)

-- nothing has changed
pub nothing_changed : (s : State) (a r : List QuadParts) (na nr : List Term) (after : ℕ) → IsSound s → IsDelta s.quads s.quads a r → IsDelta s.names s.names na nr → after ≡ s.next → Outcome s (change_of a r na nr s.next after) s
nothing_changed s a r na nr after sound d f e = restaged s s (change_of a r na nr s.next after) (net_of s s a r na nr s.next after (record { quads = d; names = f; next = e }) refl) sound

module _ (s : State) (a r : List QuadParts) (na nr : List Term) (after : ℕ) (h : Keeps s (change_of a r na nr s.next after)) where
  abbrev pub now : State
  now = applied (change_of a r na nr s.next after) s

  pub quads_led : IsDelta s.quads now.quads a r
  quads_led = (leads_of s now a r na nr s.next after h.0).quads

  pub names_led : IsDelta s.names now.names na nr
  names_led = (leads_of s now a r na nr s.next after h.0).names

  pub quad_comes : (q : QuadParts) (a' r' : List QuadParts) (na' nr' : List Term) → IsDelta s.quads (insert now.quads q) a' r' → IsDelta s.names (with_graph now.names q.graph) na' nr' → IsTrue (is_quad q) → IsQuadBelow after q
      → Outcome s (change_of a' r' na' nr' s.next after) (with_quad now q)
  quad_comes q a' r' na' nr' d f right below =
      restaged s (with_quad now q) (change_of a' r' na' nr' s.next after) (net_with_quad s now q a r a' r' na nr na' nr' s.next after h.0 d f) (sound_with_quad now q h.1 right below)

  pub quad_goes : (q : QuadParts) (a' r' : List QuadParts) → IsDelta s.quads (remove now.quads q) a' r' → Outcome s (change_of a' r' na nr s.next after) (without_quad now q)
  quad_goes q a' r' d =
      restaged s (without_quad now q) (change_of a' r' na nr s.next after) (net_of s (without_quad now q) a' r' na nr s.next after (record { quads = d; names = names_led; next = refl }) refl) (sound_without_quad now q h.1)

  pub blanks_taken : (count : ℕ) → after + count ≤ last_number → Outcome s (change_of a r na nr s.next (after + count)) (with_blanks now count)
  blanks_taken count room =
      restaged s (with_blanks now count) (change_of a r na nr s.next (after + count)) (net_of s (with_blanks now count) a r na nr s.next (after + count) (record { quads = quads_led; names = names_led; next = refl }) refl)
      (sound_with_blanks now count h.1 room)
