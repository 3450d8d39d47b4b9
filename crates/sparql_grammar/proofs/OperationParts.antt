-- The parts of a request are read just as they are derived.
use Rattle.std.proofs.Common.{◌≡◌, ◌<◌, ◌≤◌, true, false, List, [], ◌∷◌, ◌++◌, length, map, Some, refl, sym, ◌∙◌, ap, arith, inl, inr, append_assoc}
use Rattle.std.proofs.lemmas.List.{map-append}
use Rattle.rdf_grammar.specs.Steps as steps
use Rattle.rdf_grammar.specs.Readings as reading
use Rattle.rdf_grammar.specs.Readings.{any, is_more}
use Rattle.rdf_grammar.specs.Derivations as grammar
use Rattle.rdf_grammar.specs.Derivations.{Then, Star, stop, more}
use Rattle.rdf_grammar.proofs.CallerLemmas.{one_decides, seq, last, choose_decides, always, Decides, some_pair, pure_decides, repeat_decides, the_decides}
use Rattle.sparql_terminals.specs.declared.terminal.Terminal.TheVariants as terminal
use Rattle.sparql_grammar.specs.declared.tree.Declaration.{Declaration}
use Rattle.sparql_grammar.specs.declared.tree.Group.{Group}
use Rattle.sparql_grammar.specs.declared.tree.Operation.{Operation}
use Rattle.sparql_grammar.specs.declared.tree.Part.{Part}
use Rattle.sparql_grammar.specs.declared.tree.Part.TheVariants as p
use Rattle.sparql_grammar.specs.declared.tree.Triples.{Triples}
use Rattle.sparql_terminals.specs.Lexemes as lexemes
use Rattle.sparql_terminals.specs.Lexemes.{Lexeme, Lexemes, Reading, Outcome, sees, Derives, Test}
use Rattle.sparql_grammar.specs.OperationGrammar as g
use Rattle.sparql_grammar.specs.OperationReading as read
use Rattle.sparql_terminals.specs.Terminals.{same_terminal, apart}
use Rattle.sparql_grammar.specs.PrologueGrammar.{Prologue}
use Rattle.sparql_grammar.specs.PrologueReading.{declaration, sees_declaration}
use Rattle.sparql_grammar.proofs.PrologueProductions.{ADeclaration, declaration_begins, declaration_decides, declaration_strict}
use Rattle.sparql_grammar.proofs.GroupProductions.{IsGroupRule}
use Rattle.sparql_grammar.proofs.OperationData.{IsTemplateRule}
use Rattle.sparql_grammar.proofs.OperationTemplates.{operation_begins, operation_decides, operation_strict}

-- ---- the end of an operation: ";" or no more lexemes

abbrev pub Nothing : Derives (Unit {0})
Nothing ts x us = (ts ≡ us) × (us ≡ [])

abbrev pub Ended : Derives (Unit {0})
Ended = grammar.◌∣◌ (grammar.the terminal.Semicolon) Nothing

abbrev read_end : Reading (Unit {0})
read_end = reading.choose is_more (lexemes.the terminal.Semicolon) (steps.pure tt)

end_sound : (ts : Lexemes) (x : Unit {0}) (us : Lexemes) → read_end ts ≡ Some (x, us) → Ended ts x us
end_sound [] x us h = let e = (some_pair tt x [] us h).1 in inr (e, sym e)
end_sound (t ∷ ts) x us h = inl ((the_decides same_terminal apart terminal.Semicolon).sound (t ∷ ts) x us h)

end_complete : (ts : Lexemes) (x : Unit {0}) (us : Lexemes) → Ended ts x us → read_end ts ≡ Some (x, us)
end_complete [] x us (inl d) = absurd (let e = ap length d.2 in omega arith)
end_complete (t ∷ ts) x us (inl d) = (the_decides same_terminal apart terminal.Semicolon).complete (t ∷ ts) x us d refl
end_complete [] x us (inr d) = ap (λ l. Some (x, l)) d.0
end_complete (t ∷ ts) x us (inr d) = absurd (let e = ap length (d.0 ∙ d.1) in omega arith)

end_shorter : (ts : Lexemes) (x : Unit {0}) (us : Lexemes) → Ended ts x us → length us ≤ length ts
end_shorter ts x us (inl d) = omega (arith, ap length d.2)
end_shorter ts x us (inr d) = omega (arith, ap length d.0)

end_decides : Decides read_end Ended always
end_decides = record { sound = end_sound; complete = λ ts x us h _. end_complete ts x us h; shorter = end_shorter }

-- ---- parts: a declaration, or an operation and its end

abbrev pub EndedOperation : Derives Operation → Derives Part
EndedOperation Op = grammar.◌>>=◌ Op (λ operation. grammar.◌>>=◌ Ended (λ _. grammar.pure (p.Operation operation)))

abbrev pub APart : Derives Operation → Derives Part
APart Op = grammar.◌∣◌ (grammar.◌<$>◌ p.Declaration ADeclaration) (EndedOperation Op)

module _ (template inner : Reading (List Triples)) (group : Reading Group) (Template Inner : Derives (List Triples)) (Group' : Derives Group)
    (r : IsTemplateRule template Template) (i : IsTemplateRule inner Inner) (s : IsGroupRule group Group') where
  ended_operation_decides : Decides (read.ended_operation template inner group) (EndedOperation (g.Update1 Template Inner Group')) always
  unfolding read.ended_operation
  ended_operation_decides = seq _ _ _ _ always (operation_decides template inner group Template Inner Group' r i s) (λ operation. seq _ _ _ _ always end_decides (λ _. pure_decides (p.Operation operation) always))

  declared_decides : Decides (steps.◌<$>◌ p.Declaration declaration) (grammar.◌<$>◌ p.Declaration ADeclaration) always
  declared_decides = last p.Declaration _ _ always declaration_decides

  part_decides : Decides (read.part template inner group) (APart (g.Update1 Template Inner Group')) always
  unfolding read.part
  part_decides = choose_decides sees_declaration _ _ _ _ always declared_decides ended_operation_decides
      (λ ts x us h _. declaration_begins ts h.first h.mid h.reads)
      (λ ts x us h _. operation_begins template inner group Template Inner Group' r i s ts h.first h.mid h.reads)

  part_strict : (ts : Lexemes) (x : Part) (us : Lexemes) → APart (g.Update1 Template Inner Group') ts x us → length us < length ts
  part_strict ts x us (inl h) = let a = declaration_strict ts h.first h.mid h.reads in omega (arith, ap length h.goes.1)
  part_strict ts x us (inr h) =
      let a = operation_strict template inner group Template Inner Group' r i s ts h.first h.mid h.reads in
      let b = end_shorter h.mid h.goes.first h.goes.mid h.goes.reads in
      omega (arith, ap length h.goes.goes.1)

  -- ---- all of the parts

  some_more : (ts us : Lexemes) → length us < length ts → is_more ts ≡ true
  some_more [] us h = absurd (omega arith)
  some_more (t ∷ ts) us h = refl

  parts_start : (ts : Lexemes) (x : List Part) (us : Lexemes) → grammar.one (APart (g.Update1 Template Inner Group')) ts x us → (is_more ts ≡ true) × (length us < length ts)
  parts_start ts x us h = let l = part_strict ts h.first h.mid h.reads in (some_more ts h.mid l, omega (arith, ap length h.goes.1))

  abbrev ended : Test
  ended [] = true
  ended (t ∷ ts) = false

  ended_stops : (us : Lexemes) → ended us ≡ true → is_more us ≡ false
  ended_stops [] h = refl
  ended_stops (t ∷ ts) h = absurd (cc)

  parts_decide : Decides (read.update template inner group) (Star (grammar.one (APart (g.Update1 Template Inner Group')))) ended
  unfolding read.update
  parts_decide = repeat_decides is_more _ _ always ended (one_decides _ _ always part_decides) parts_start ended_stops (λ us h. refl) (λ us h. refl)

  pub parts_sound : (ts : Lexemes) (parts : List Part) (us : Lexemes) → read.update template inner group ts ≡ Some (parts, us) → Star (grammar.one (APart (g.Update1 Template Inner Group'))) ts parts us
  parts_sound = parts_decide.sound

  pub parts_complete : (ts : Lexemes) (parts : List Part) → Star (grammar.one (APart (g.Update1 Template Inner Group'))) ts parts [] → read.update template inner group ts ≡ Some (parts, [])
  parts_complete ts parts h = parts_decide.complete ts parts [] h refl

-- ---- the parts of an update, one behind the other

module _ (Op : Derives Operation) (strict : (ts : Lexemes) (x : Operation) (us : Lexemes) → Op ts x us → length us < length ts) where
  Parts : Derives (List Part)
  Parts = Star (grammar.one (APart Op))

  behind : (ts mid us : Lexemes) (xs ys : List Part) → Star (grammar.one (APart Op)) ts xs mid → Star (grammar.one (APart Op)) mid ys us → Star (grammar.one (APart Op)) ts (xs ++ ys) us
  behind ts mid us xs ys stop t = t
  behind ts mid us xs ys (more {mid = m} {x = x} {xs = zs} q s) t = rw (append_assoc x zs ys) (more q (behind m mid us zs ys s t))

  declared_part : (ts mid : Lexemes) (x : Declaration) → ADeclaration ts x mid → grammar.one (APart Op) ts (p.Declaration x ∷ []) mid
  declared_part ts mid x d = record {
    first = p.Declaration x;
    mid = mid;
    reads = inl (record { first = x; mid = mid; reads = d; goes = (refl, refl) });
    goes = (refl, refl);
  }

  -- the list of one declaration
  one_declared : (ts mid : Lexemes) (xs : List Declaration) → grammar.one ADeclaration ts xs mid → grammar.one (APart Op) ts (map p.Declaration xs) mid
  one_declared ts mid xs q = rw (← q.goes.0, ← q.goes.1) (declared_part ts q.mid q.first q.reads)

  declared_parts : (ts us : Lexemes) (xs : List Declaration) → Prologue ts xs us → Star (grammar.one (APart Op)) ts (map p.Declaration xs) us
  declared_parts ts us xs stop = stop
  declared_parts ts us xs (more {mid = m} {x = x} {xs = zs} q s) = rw (map-append p.Declaration x zs) (more (one_declared ts m x q) (declared_parts m us zs s))

  operation_part : (ts mid us : Lexemes) (x : Operation) → Op ts x mid → Ended mid tt us → grammar.one (APart Op) ts (p.Operation x ∷ []) us
  operation_part ts mid us x d e = record {
    first = p.Operation x;
    mid = us;
    reads = inr (record { first = x; mid = mid; reads = d; goes = record { first = tt; mid = us; reads = e; goes = (refl, refl) } });
    goes = (refl, refl);
  }

  pub parts_of : (ts us : Lexemes) (parts : List Part) → us ≡ [] → g.Update Op ts parts us → Star (grammar.one (APart Op)) ts parts us
  parts_of ts us parts e (g.declared {prologue = first} d) = declared_parts ts us first d
  parts_of ts us parts e (g.last {mid = mid} {prologue = first} {operation = x} d q) =
      behind ts mid us (map p.Declaration first) (p.Operation x ∷ []) (declared_parts ts mid first d) (more (operation_part mid us us x q (inr (refl, e))) stop)
  parts_of ts us parts e (g.more {mid = mid} {behind = end} {next = next} {prologue = first} {others = others} {operation = x} d q c u) =
      behind ts mid us (map p.Declaration first) (p.Operation x ∷ others) (declared_parts ts mid first d) (more (operation_part mid end next x q (inl c)) (parts_of next us others e u))

  -- a declaration before an update
  with_declaration : (ts mid us : Lexemes) (x : Declaration) (parts : List Part) → ADeclaration ts x mid → g.Update Op mid parts us → g.Update Op ts (p.Declaration x ∷ parts) us
  with_declaration ts mid us x parts d (g.declared {prologue = first} q) = g.declared {prologue = x ∷ first} (more (record { first = x; mid = mid; reads = d; goes = (refl, refl) }) q)
  with_declaration ts mid us x parts d (g.last {prologue = first} {operation = y} q a) = g.last {prologue = x ∷ first} {operation = y} (more (record { first = x; mid = mid; reads = d; goes = (refl, refl) }) q) a
  with_declaration ts mid us x parts d (g.more {prologue = first} {others = others} {operation = y} q a c u) =
      g.more {prologue = x ∷ first} {others = others} {operation = y} (more (record { first = x; mid = mid; reads = d; goes = (refl, refl) }) q) a c u

  part_shrinks : (ts : Lexemes) (x : List Part) (us : Lexemes) → grammar.one (APart Op) ts x us → length us < length ts
  part_shrinks ts x us h = at h.reads
    where
      at : APart Op ts h.first h.mid → length us < length ts
      at (inl d) = let a = declaration_strict ts d.first d.mid d.reads in omega (arith, ap length d.goes.1, ap length h.goes.1)
      at (inr d) =
          let a = strict ts d.first d.mid d.reads in
          let b = end_shorter d.mid d.goes.first d.goes.mid d.goes.reads in
          omega (arith, ap length d.goes.goes.1, ap length h.goes.1)

  none_left : (ts us : Lexemes) (parts : List Part) → ts ≡ [] → Star (grammar.one (APart Op)) ts parts us → parts ≡ []
  none_left ts us parts e stop = refl
  none_left ts us parts e (more {mid = m} {x = x} q s) = absurd (let a = part_shrinks ts x m q in omega (arith, ap length e))

  one_more : (ts mid us : Lexemes) (x : Part) (others : List Part) → APart Op ts x mid → us ≡ [] → Star (grammar.one (APart Op)) mid others us → g.Update Op mid others us → g.Update Op ts (x ∷ others) us
  one_more ts mid us x others (inl d) e s u = rw (← d.goes.0) (with_declaration ts mid us d.first others (rw d.goes.1 at d.reads) u)
  one_more ts mid us x others (inr d) e s u = at d.goes.reads
    where
      pair : (p.Operation d.first ≡ x) × (d.goes.mid ≡ mid)
      pair = d.goes.goes

      at : Ended d.mid d.goes.first d.goes.mid → g.Update Op ts (x ∷ others) us
      at (inl c) = rw (← pair.0) (g.more {prologue = []} {others = others} {operation = d.first} stop d.reads (rw pair.1 at c) u)
      at (inr c) =
          let gone : mid ≡ [] = sym pair.1 ∙ c.1 in
          let none = none_left mid us others gone s in
          rw (← pair.0, none) (g.last {prologue = []} {operation = d.first} stop (rw (c.0 ∙ c.1 ∙ sym e) at d.reads))

  pub update_of : (ts us : Lexemes) (parts : List Part) → us ≡ [] → Star (grammar.one (APart Op)) ts parts us → g.Update Op ts parts us
  update_of ts us parts e stop = g.declared stop
  update_of ts us parts e (more {mid = m} {x = x} {xs = others} q s) =
      let u = one_more ts q.mid us q.first others q.reads e (rw (← q.goes.1) at s) (rw (← q.goes.1) at (update_of m us others e s)) in
      rw (← q.goes.0) u
