-- A statement is read, and its IRIs looked at, in two steps.
use Rattle.std.proofs.Common.{◌≡◌, ℕ, Bool, true, false, cond, List, refl, sym, ap, ◌∙◌, Option, Some, None}
use Rattle.rdf_terms.specs.Reading.{◌>>=◌, iri_at}
use Rattle.rdf_lines.specs.declared.format.LineFormat.{LineFormat}
use Rattle.rdf_lines.specs.declared.statement.Node.{Node}
use Rattle.rdf_lines.specs.declared.statement.Object.{Object}
use Rattle.rdf_lines.specs.declared.statement.Statement.{Statement}
use Rattle.rdf_lines.specs.declared.written.WrittenNode.{WrittenNode}
use Rattle.rdf_lines.specs.declared.written.WrittenObject.{WrittenObject}
use Rattle.rdf_lines.specs.declared.written.WrittenStatement.{WrittenStatement}
use Rattle.rdf_lines.specs.Reading.{skip_white, node_at, object_at, graph_at, stops_at, statement_at, front_at, back_at}
use Rattle.rdf_lines.specs.Written.{absolute_iri, absolute_node, absolute_object, absolute_graph, absolute_front, absolute_back, absolute_statement}

-- ---- reading

abbrev whole : WrittenNode → List ℕ → WrittenObject → Option WrittenNode → WrittenStatement
whole s p o g = record { subject = s; predicate = p; object = o; graph = g }

abbrev completed : WrittenNode → List ℕ → WrittenObject × Option WrittenNode → Option WrittenStatement
completed s p t = Some (whole s p t.0 t.1)

abbrev fronted : WrittenNode → List ℕ × List ℕ → Option (WrittenNode × List ℕ × List ℕ)
fronted s p = Some (s, p.0, p.1)

abbrev ended : WrittenObject → Option WrittenNode → Bool → Option (WrittenObject × Option WrittenNode)
ended o g stop = cond stop (Some (o, g)) None

abbrev behind_graph : WrittenObject → Option WrittenNode × List ℕ → Option (WrittenObject × Option WrittenNode)
behind_graph o g = ended o g.0 (stops_at (skip_white g.1))

module _ (format : LineFormat) where
  abbrev from_graph : WrittenNode → List ℕ → WrittenObject → Option (Option WrittenNode × List ℕ) → Option WrittenStatement
  from_graph s p o read = read >>= (λ g. cond (stops_at (skip_white g.1)) (Some (whole s p o g.0)) None)

  abbrev from_object : WrittenNode → List ℕ → Option (WrittenObject × List ℕ) → Option WrittenStatement
  from_object s p read = read >>= (λ o. from_graph s p o.0 (graph_at format (skip_white o.1)))

  abbrev back_from : Option (WrittenObject × List ℕ) → Option (WrittenObject × Option WrittenNode)
  back_from read = read >>= (λ o. graph_at format (skip_white o.1) >>= behind_graph o.0)

  at_end : (s : WrittenNode) (p : List ℕ) (o : WrittenObject) (g : Option WrittenNode) (b : Bool) → cond b (Some (whole s p o g)) None ≡ (ended o g b >>= completed s p)
  at_end s p o g true = refl
  at_end s p o g false = refl

  at_graph : (s : WrittenNode) (p : List ℕ) (o : WrittenObject) (read : Option (Option WrittenNode × List ℕ))
      → from_graph s p o read ≡ ((read >>= behind_graph o) >>= completed s p)
  at_graph s p o None = refl
  at_graph s p o (Some g) = at_end s p o g.0 (stops_at (skip_white g.1))

  at_object : (s : WrittenNode) (p : List ℕ) (read : Option (WrittenObject × List ℕ)) → from_object s p read ≡ (back_from read >>= completed s p)
  at_object s p None = refl
  at_object s p (Some o) = at_graph s p o.0 (graph_at format (skip_white o.1))

  abbrev behind : WrittenNode × List ℕ × List ℕ → Option WrittenStatement
  behind f = back_from (object_at (skip_white f.2)) >>= completed f.0 f.1

  at_predicate : (s : WrittenNode) (read : Option (List ℕ × List ℕ))
      → (read >>= (λ p. from_object s p.0 (object_at (skip_white p.1)))) ≡ ((read >>= fronted s) >>= behind)
  at_predicate s None = refl
  at_predicate s (Some p) = at_object s p.0 (object_at (skip_white p.1))

  at_subject : (read : Option (WrittenNode × List ℕ))
      → (read >>= (λ s. iri_at (skip_white s.1) >>= (λ p. from_object s.0 p.0 (object_at (skip_white p.1)))))
      ≡ ((read >>= (λ s. iri_at (skip_white s.1) >>= fronted s.0)) >>= behind)
  at_subject None = refl
  at_subject (Some s) = at_predicate s.0 (iri_at (skip_white s.1))

-- what the two steps make of a statement
statement_steps : (format : LineFormat) (cs : List ℕ) → statement_at format cs ≡ (front_at cs >>= (λ f. back_at format f.2 >>= (λ b. Some (whole f.0 f.1 b.0 b.1))))
unfolding statement_at front_at back_at
statement_steps format cs = at_subject format (node_at (skip_white cs))

pub front_fails : (format : LineFormat) (cs : List ℕ) → None ≡ front_at cs → None ≡ statement_at format cs
front_fails format cs e = ap (λ read. read >>= (λ f. back_at format f.2 >>= (λ b. Some (whole f.0 f.1 b.0 b.1)))) e ∙ sym (statement_steps format cs)

pub back_fails : (format : LineFormat) (cs : List ℕ) (s : WrittenNode) (p rest : List ℕ) → Some (s, p, rest) ≡ front_at cs → None ≡ back_at format rest → None ≡ statement_at format cs
back_fails format cs s p rest e h =
    ap (λ read. read >>= (λ b. Some (whole s p b.0 b.1))) h
    ∙ ap (λ read. read >>= (λ f. back_at format f.2 >>= (λ b. Some (whole f.0 f.1 b.0 b.1)))) e ∙ sym (statement_steps format cs)

pub both_read : (format : LineFormat) (cs : List ℕ) (s : WrittenNode) (p rest : List ℕ) (o : WrittenObject) (g : Option WrittenNode) → Some (s, p, rest) ≡ front_at cs → Some (o, g) ≡ back_at format rest
    → Some (record { subject = s; predicate = p; object = o; graph = g }) ≡ statement_at format cs
both_read format cs s p rest o g e h =
    ap (λ read. read >>= (λ b. Some (whole s p b.0 b.1))) h
    ∙ ap (λ read. read >>= (λ f. back_at format f.2 >>= (λ b. Some (whole f.0 f.1 b.0 b.1)))) e ∙ sym (statement_steps format cs)

-- ---- IRIs

abbrev two : {A B : Type 0} → A → B → Option (A × B)
two x y = Some (x, y)

regrouped : {A B C D : Type 0} (a : Option A) (b : Option B) (c : Option C) (d : Option D) (make : A → B → C → D → Statement)
    → (a >>= (λ x. b >>= (λ y. c >>= (λ z. d >>= (λ w. Some (make x y z w))))))
    ≡ ((a >>= (λ x. b >>= (λ y. two x y))) >>= (λ f. (c >>= (λ z. d >>= (λ w. two z w))) >>= (λ g. Some (make f.0 f.1 g.0 g.1))))
regrouped None b c d make = refl
regrouped (Some x) None c d make = refl
regrouped (Some x) (Some y) None d make = refl
regrouped (Some x) (Some y) (Some z) None make = refl
regrouped (Some x) (Some y) (Some z) (Some w) make = refl

absolute_steps : (w : WrittenStatement)
    → absolute_statement w ≡ (absolute_front w.subject w.predicate >>= (λ f. absolute_back w.object w.graph >>= (λ b. Some (record { subject = f.0; predicate = f.1; object = b.0; graph = b.1 }))))
absolute_steps w = regrouped (absolute_node w.subject) (absolute_iri w.predicate) (absolute_object w.object) (absolute_graph w.graph) (λ s p o g. record { subject = s; predicate = p; object = o; graph = g })

abbrev both : Node × List ℕ → Object × Option Node → Statement
both f b = record { subject = f.0; predicate = f.1; object = b.0; graph = b.1 }

pub front_relative : (w : WrittenStatement) → None ≡ absolute_front w.subject w.predicate → None ≡ absolute_statement w
front_relative w e = ap (λ front. front >>= (λ f. absolute_back w.object w.graph >>= (λ b. Some (both f b)))) e ∙ sym (absolute_steps w)

pub back_relative : (w : WrittenStatement) (s : Node) (p : List ℕ) → Some (s, p) ≡ absolute_front w.subject w.predicate → None ≡ absolute_back w.object w.graph → None ≡ absolute_statement w
back_relative w s p e h =
    ap (λ back. back >>= (λ b. Some (both (s, p) b))) h
    ∙ ap (λ front. front >>= (λ f. absolute_back w.object w.graph >>= (λ b. Some (both f b)))) e ∙ sym (absolute_steps w)

pub both_absolute : (w : WrittenStatement) (s : Node) (p : List ℕ) (o : Object) (g : Option Node) → Some (s, p) ≡ absolute_front w.subject w.predicate → Some (o, g) ≡ absolute_back w.object w.graph
    → Some (record { subject = s; predicate = p; object = o; graph = g }) ≡ absolute_statement w
both_absolute w s p o g e h =
    ap (λ back. back >>= (λ b. Some (both (s, p) b))) h
    ∙ ap (λ front. front >>= (λ f. absolute_back w.object w.graph >>= (λ b. Some (both f b)))) e ∙ sym (absolute_steps w)
