-- A turn of the loop over the elements of a group.
use Rattle.std.proofs.Common.{◌≡◌, ◌<◌, Bool, true, false, cond, List, [], ◌∷◌, ◌++◌, length, Option, Some, None, refl, sym, ◌∙◌, ap, arith}
use Rattle.std.specs.Prelude.{option_to_list}
use Rattle.rdf_grammar.specs.Readings.{next, repeat}
use Rattle.rdf_grammar.proofs.CallerLemmas.{Going, going_starts, going_on, going_done}
use Rattle.sparql_expressions.specs.declared.tree.Expression.{Expression}
use Rattle.sparql_terminals.specs.declared.terminal.Terminal.TheVariants as terminal
use Rattle.sparql_grammar.specs.Bodies.{IsEmpty, put, put_some, group_of}
use Rattle.sparql_grammar.specs.declared.body.Body.{Body}
use Rattle.sparql_grammar.specs.declared.tree.Element.{Element}
use Rattle.sparql_grammar.specs.declared.tree.Group.{Group}
use Rattle.sparql_grammar.specs.declared.tree.Triples.{Triples}
use Rattle.sparql_grammar.specs.GroupReading.{contents, maybe_block, pattern_or_filter, pattern_and_block, sees_pattern, group_with}
use Rattle.sparql_terminals.specs.Lexemes.{Lexemes, Reading, sees}
use Rattle.sparql_grammar.proofs.BodyLemmas.{put_all, put_joined, put_option, group_of_all}

pub pattern_some : (ts : Lexemes) → sees_pattern ts ≡ true → 0 < length ts
pattern_some [] h = absurd (cc)
pattern_some (t ∷ ts) h = omega arith

module _ (block : Reading (List Triples)) (constraint : Reading Expression) (group : Reading Group) where
  -- what is read behind a dot that may be missing
  behind_dot : (mid behind : Lexemes) (dot : Bool) {o : Option (Option Element × Lexemes)} → dot ≡ sees terminal.Dot mid → behind ≡ cond dot (next mid) mid → maybe_block block behind ≡ o
      → maybe_block block (cond (sees terminal.Dot mid) (next mid) mid) ≡ o
  behind_dot mid behind dot d e h = rw (← d, ← e) h

  pub turn_reads : (now mid behind then : Lexemes) (dot : Bool) (x : Element) (o : Option Element) → pattern_or_filter constraint group now ≡ Some (x, mid) → dot ≡ sees terminal.Dot mid → behind ≡ cond dot (next mid) mid
      → maybe_block block behind ≡ Some (o, then) → pattern_and_block block constraint group now ≡ Some (x ∷ option_to_list o, then)
  unfolding pattern_and_block
  turn_reads now mid behind then dot x o a d e h = rw (a, behind_dot mid behind dot d e h) refl

  pub pattern_fails : (now : Lexemes) → pattern_or_filter constraint group now ≡ None → pattern_and_block block constraint group now ≡ None
  unfolding pattern_and_block
  pattern_fails now h = rw h refl

  pub block_fails : (now mid behind : Lexemes) (dot : Bool) (x : Element) → pattern_or_filter constraint group now ≡ Some (x, mid) → dot ≡ sees terminal.Dot mid → behind ≡ cond dot (next mid) mid
      → maybe_block block behind ≡ None → pattern_and_block block constraint group now ≡ None
  unfolding pattern_and_block
  block_fails now mid behind dot x a d e h = rw (a, behind_dot mid behind dot d e h) refl

  -- ---- what has been read from these lexemes on, where so much was read before

  pub record Filled (from : Lexemes) (before body : Body) (now : Lexemes) : Type 0 where
    pub found : List Element
    pub is : body ≡ put_all found before
    pub going : Going sees_pattern (pattern_and_block block constraint group) (repeat sees_pattern (pattern_and_block block constraint group) from) found now

  pub filled_starts : (from : Lexemes) (body : Body) → Filled from body body from
  filled_starts from body = record { found = []; is = refl; going = going_starts _ _ from }

  pub filled_on : {from now : Lexemes} {before body : Body} (x : Element) (o : Option Element) (mid last : Body) (then : Lexemes) → Filled from before body now → sees_pattern now ≡ true
      → pattern_and_block block constraint group now ≡ Some (x ∷ option_to_list o, then) → length then < length now → mid ≡ put x body → last ≡ put_some o mid → Filled from before last then
  filled_on {from = from} {before = before} {body = body} x o mid last then f seen reads less a b = record {
    found = f.found ++ x ∷ option_to_list o;
    is = b ∙ sym (put_option o mid) ∙ ap (put_all (option_to_list o)) (a ∙ ap (put x) f.is) ∙ sym (put_joined f.found (x ∷ option_to_list o) before);
    going = going_on _ then f.going seen reads less;
  }

  pub contents_read : (ts mid now : Lexemes) (o : Option Element) (fresh before body : Body) (x : Group) → maybe_block block ts ≡ Some (o, mid) → IsEmpty fresh → before ≡ put_some o fresh → Filled mid before body now
      → sees_pattern now ≡ false → x ≡ group_of body → contents block constraint group ts ≡ Some (x, now)
  unfolding contents
  contents_read ts mid now o fresh before body x first none b f stops is =
      let e : group_of body ≡ group_with (option_to_list o ++ f.found) =
      ap group_of (f.is ∙ ap (put_all f.found) (b ∙ sym (put_option o fresh)) ∙ sym (put_joined (option_to_list o) f.found fresh)) ∙ group_of_all (option_to_list o ++ f.found) fresh none in
      rw (first, going_done f.going stops) (ap (λ g. Some (g, now)) (sym (is ∙ e)))
