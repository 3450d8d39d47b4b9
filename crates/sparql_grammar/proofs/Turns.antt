-- Turns of the readers of lists.
use Rattle.std.proofs.Common.{◌≡◌, ◌<◌, Bool, true, false, if◌then◌else◌, List, [], ◌∷◌, length, Some, None, refl, sym, ◌∙◌, ap, arith}
use Rattle.std.proofs.lemmas.Bool.{and_parts}
use Rattle.sparql_terminals.specs.declared.terminal.Terminal.TheVariants as terminal
use Rattle.sparql_grammar.specs.declared.tree.Node.{Node}
use Rattle.sparql_grammar.specs.declared.tree.Triples.{Triples}
use Rattle.sparql_terminals.specs.Lexemes.{Lexemes, Reading, sees, the}
use Rattle.rdf_grammar.specs.Readings.{next, one, optional, repeat}
use Rattle.rdf_grammar.specs.Steps.{and_then, ◌>>◌, pure}
use Rattle.rdf_grammar.specs.Terminals as front
use Rattle.rdf_grammar.specs.Terminals.{next_terminal}
use Rattle.sparql_grammar.specs.Reading.{sees_node, sees_another, same_subject, triples_template}

-- ---- a dot, and triples behind it

pub dot_seen : (ts : Lexemes) → sees_another ts ≡ true → sees terminal.Dot ts ≡ true
dot_seen ts h = (and_parts (sees terminal.Dot ts) (sees_node (next ts)) h).0

pub another_some : (ts : Lexemes) → sees_another ts ≡ true → length (next ts) < length ts
another_some [] h = absurd (cc)
another_some (t ∷ ts) h = omega arith

dot_ends : (now new : Lexemes) (b : Bool) (xs : List Triples) → b ≡ sees terminal.Dot now → new ≡ (if b then next now else now)
    → and_then (optional (sees terminal.Dot) (the terminal.Dot) now) (λ _. pure xs) ≡ Some (xs, new)
unfolding front.the
dot_ends now new true xs s m = rw (sym s) (ap (λ l. Some (xs, l)) (sym m))
dot_ends now new false xs s m = rw (sym s) (ap (λ l. Some (xs, l)) (sym m))

module _ (node : Reading Node) where
  pub another_reads : (now mid behind : Lexemes) (x : Triples) → sees_another now ≡ true → mid ≡ next now → same_subject node mid ≡ Some (x, behind)
      → one (the terminal.Dot >> same_subject node) now ≡ Some (x ∷ [], behind)
  unfolding front.the
  another_reads now mid behind x s m h = let e : same_subject node (next now) ≡ Some (x, behind) = ap (same_subject node) (sym m) ∙ h in rw (dot_seen now s, e) refl

  pub another_fails : (now mid : Lexemes) → sees_another now ≡ true → mid ≡ next now → same_subject node mid ≡ None → one (the terminal.Dot >> same_subject node) now ≡ None
  unfolding front.the
  another_fails now mid s m h = let e : same_subject node (next now) ≡ None = ap (same_subject node) (sym m) ∙ h in rw (dot_seen now s, e) refl

  pub template_reads : (ts : Lexemes) {mid now : Lexemes} {x : Triples} {others : List Triples} (new : Lexemes) (all : List Triples) (b : Bool)
      → same_subject node ts ≡ Some (x, mid) → repeat sees_another (one (the terminal.Dot >> same_subject node)) mid ≡ Some (others, now)
      → b ≡ sees terminal.Dot now → new ≡ (if b then next now else now) → all ≡ x ∷ others → triples_template node ts ≡ Some (all, new)
  unfolding triples_template
  template_reads ts {now = now} {x = x} {others = others} new all b first rest s m e = rw (first, rest) (dot_ends now new b (x ∷ others) s m ∙ ap (λ xs. Some (xs, new)) (sym e))
