-- What is derived inside so many brackets opens no more, and takes no lexeme that Turtle has no use for.
use Rattle.std.proofs.Common.{◌≡◌, ◌≤◌, ◌+◌, ℕ, zero, suc, Bool, true, false, List, [], ◌∷◌, ◌++◌, take, Some, None, Ok, Err, refl, sym, ap, subst, ◌∙◌, inl, inr, arith}
use Rattle.std.specs.Prelude.{option_to_list}
use Rattle.std.specs.List.{AllByRecursion}
use Rattle.std.specs.Str.{chars, IsUtf8}
use Rattle.rdf_grammar.specs.Derivations as grammar
use Rattle.rdf_grammar.specs.Derivations.{Then, Star, stop, more}
use Rattle.rdf_grammar.specs.Lexemes.{AreReadOf, unread}
use Rattle.rdf_grammar.specs.Productions as productions
use Rattle.rdf_grammar.specs.Terminals.{Slice}
use Rattle.rdf_grammar.specs.declared.tree.Name.TheVariants.{Full}
use Rattle.rdf_grammar.specs.declared.tree.Literal.TheVariants as l
use Rattle.rdf_grammar.specs.declared.word.Word.{Word}
use Rattle.rdf_grammar.specs.declared.word.Word.TheVariants as w
use Rattle.rdf_tokens.specs.declared.token.Token.{Token}
use Rattle.rdf_turtle.specs.Document.{HasTokens}
use Rattle.rdf_turtle.specs.Grammar as g
use Rattle.rdf_turtle.specs.Lexemes.{Lexeme, Lexemes, Derives}
use Rattle.rdf_turtle.specs.Nesting.{open_behind, open_after, IsTooDeep}
use Rattle.rdf_turtle.specs.Terminals.{terminal_by, word}
use Rattle.rdf_turtle.specs.declared.terminal.Terminal.{Terminal}
use Rattle.rdf_turtle.specs.declared.terminal.Terminal.TheVariants as terminal
use Rattle.rdf_turtle.specs.declared.tree.Node.{Node}
use Rattle.rdf_turtle.specs.declared.tree.Node.TheVariants as n
use Rattle.rdf_turtle.specs.declared.tree.Statement.{Statement}
use Rattle.rdf_turtle.specs.declared.tree.Statement.TheVariants as s
use Rattle.rdf_turtle.specs.declared.tree.Verb.TheVariants as v
use Rattle.rdf_turtle.proofs.GrammarWords.{plain}

abbrev is_other : Terminal → Bool
is_other terminal.Other = true
is_other _ = false

useful_word : (k : Terminal) (u : Word) → word k ≡ Some u → is_other k ≡ false
useful_word terminal.Other u h = absurd (cc)
useful_word _ u h = refl

-- with b open before them, the lexemes never open more than the limit, and Turtle has a use for each
pub record Shallow (limit b : ℕ) (ts : Lexemes) : Type 0 where
  pub at : (n : ℕ) → open_after b (take n ts) ≤ limit
  pub useful : AllByRecursion (λ (t : Lexeme). is_other t.terminal ≡ false) ts

-- before what is shallow, from where b are open to where b are open, what P derives is shallow
unfoldable Leads : {A : Type 0} → ℕ → ℕ → Derives A → Type 0
Leads {A} limit b P = (ts : Lexemes) (x : A) (us : Lexemes) → P ts x us → Shallow limit b us → Shallow limit b ts

at_front : (limit b : ℕ) (t : Lexeme) (us : Lexemes) → b ≤ limit → ((n : ℕ) → open_after (open_behind b t.terminal) (take n us) ≤ limit) → (n : ℕ) → open_after b (take n (t ∷ us)) ≤ limit
at_front limit b t us low h zero = low
at_front limit b t us low h (suc n) = h n

front : (limit b : ℕ) (t : Lexeme) (us : Lexemes) → b ≤ limit → is_other t.terminal ≡ false → Shallow limit (open_behind b t.terminal) us → Shallow limit b (t ∷ us)
front limit b t us low used h = record { at = at_front limit b t us low h.at; useful = (used, h.useful) }

plain_front : (limit b : ℕ) (t : Lexeme) (us : Lexemes) → open_behind b t.terminal ≡ b → is_other t.terminal ≡ false → Shallow limit b us → Shallow limit b (t ∷ us)
plain_front limit b t us same used h = front limit b t us (h.at 0) used (subst (λ (m : ℕ). Shallow limit m us) (sym same) h)

module _ (limit b : ℕ) where
  then_leads : {A B : Type 0} (P : Derives A) (F : A → Derives B) → Leads limit b P → ((a : A) → Leads limit b (F a)) → Leads limit b (Then P F)
  unfolding Leads
  then_leads P F p f ts x us d h = p ts d.first d.mid d.reads (f d.first d.mid x us d.goes h)

  pure_leads : {A : Type 0} (a : A) → Leads limit b (grammar.pure a)
  unfolding Leads
  pure_leads a ts x us d h = subst (Shallow limit b) (sym d.1) h

  or_leads : {A : Type 0} (P Q : Derives A) → Leads limit b P → Leads limit b Q → Leads limit b (grammar.◌∣◌ P Q)
  unfolding Leads
  or_leads P Q p q ts x us (inl d) h = p ts x us d h
  or_leads P Q p q ts x us (inr d) h = q ts x us d h

  the_leads : (k : Terminal) → open_behind b k ≡ b → is_other k ≡ false → Leads limit b (grammar.the k)
  unfolding Leads
  the_leads k same used ts x us d h = subst (Shallow limit b) (sym d.2) (plain_front limit b d.0 us (ap (open_behind b) d.1 ∙ same) (ap is_other d.1 ∙ used) h)

  value_leads : (k : Terminal) → open_behind b k ≡ b → is_other k ≡ false → Leads limit b (grammar.value k)
  unfolding Leads
  value_leads k same used ts x us d h = subst (Shallow limit b) (sym d.3) (plain_front limit b d.0 us (ap (open_behind b) d.1 ∙ same) (ap is_other d.1 ∙ used) h)

  word_front : (t : Lexeme) (u : Word) (us : Lexemes) → word t.terminal ≡ Some u → Shallow limit b us → Shallow limit b (t ∷ us)
  word_front t u us e h = plain_front limit b t us (rw (plain t.terminal u e) refl) (useful_word t.terminal u e) h

  a_word_leads : (u : Word) → Leads limit b (productions.the word u)
  unfolding Leads
  a_word_leads u ts x us d h = subst (Shallow limit b) (sym d.2) (word_front d.0 u us d.1 h)

  word_value_leads : (u : Word) → Leads limit b (productions.value word u)
  unfolding Leads
  word_value_leads u ts x us d h = subst (Shallow limit b) (sym d.3) (word_front d.0 u us d.1 h)

  namespace_leads : Leads limit b (productions.namespace word)
  unfolding Leads
  namespace_leads ts x us d h = subst (Shallow limit b) (sym d.4) (word_front d.0 w.Pname us d.1 h)

  map_leads : {A B : Type 0} (f : A → B) (P : Derives A) → Leads limit b P → Leads limit b (grammar.◌<$>◌ f P)
  map_leads f P p = then_leads P _ p (λ a. pure_leads (f a))

  behind_leads : {A : Type 0} (k : Terminal) (P : Derives A) → open_behind b k ≡ b → is_other k ≡ false → Leads limit b P → Leads limit b (grammar.◌>>◌ (grammar.the k) P)
  behind_leads k P same used p = then_leads _ _ (the_leads k same used) (λ _. p)

  leaf_leads : {A : Type 0} (f : Slice → A) (k : Terminal) → open_behind b k ≡ b → is_other k ≡ false → Leads limit b (grammar.◌<$>◌ f (grammar.value k))
  leaf_leads f k same used = map_leads f _ (value_leads k same used)

  word_leaf_leads : {A : Type 0} (f : Slice → A) (u : Word) → Leads limit b (grammar.◌<$>◌ f (productions.value word u))
  word_leaf_leads f u = map_leads f _ (word_value_leads u)

  maybe_leads : {A : Type 0} (P : Derives A) → Leads limit b P → Leads limit b (grammar.maybe P)
  unfolding Leads
  maybe_leads P p ts None us d h = subst (Shallow limit b) (sym d) h
  maybe_leads P p ts (Some x) us d h = p ts x us d h

  star_leads : {A : Type 0} (P : Derives (List A)) → Leads limit b P → Leads limit b (Star P)
  unfolding Leads
  star_leads P p ts xs us stop h = h
  star_leads P p ts xs us (more {mid = mid} {x = x} {xs = ys} r s) h = p ts x mid r (star_leads P p mid ys us s h)

  one_leads : {A : Type 0} (P : Derives A) → Leads limit b P → Leads limit b (grammar.one P)
  one_leads P p = map_leads (λ x. x ∷ []) P p

  -- ---- productions without brackets

  iri_leads : Leads limit b g.Iri
  iri_leads = or_leads _ _ (word_leaf_leads Full w.Iri) (word_leaf_leads productions.prefixed w.Pname)

  verb_leads : Leads limit b g.AVerb
  verb_leads = or_leads _ _ (map_leads v.Name _ iri_leads) (behind_leads terminal.A _ refl refl (pure_leads v.Type))

  suffix_leads : (form : Slice) → Leads limit b (productions.Suffix word form)
  suffix_leads form =
      or_leads _ _ (word_leaf_leads (l.Tagged form) w.Tag)
      (or_leads _ _ (then_leads _ _ (a_word_leads w.Caret) (λ _. map_leads (l.Typed form) _ iri_leads)) (pure_leads (l.Plain form)))

  literal_leads : Leads limit b g.ALiteral
  literal_leads =
      or_leads _ _ (then_leads _ _ (word_value_leads w.Text) suffix_leads)
      (or_leads _ _ (or_leads _ _ (word_leaf_leads l.Integer w.Integer) (or_leads _ _ (word_leaf_leads l.Decimal w.Decimal) (word_leaf_leads l.Double w.Double)))
      (or_leads _ _ (word_leaf_leads (l.Boolean true) w.True) (word_leaf_leads (l.Boolean false) w.False)))

  module _ (P : Derives Node) (p : Leads limit b P) where
    objects_lead : Leads limit b (g.Objects P)
    objects_lead = then_leads _ _ p (λ first. then_leads _ _ (star_leads _ (one_leads _ (behind_leads terminal.Comma P refl refl p))) (λ others. pure_leads (first ∷ others)))

    verb_objects_lead : Leads limit b (g.VerbObjects P)
    verb_objects_lead = then_leads _ _ verb_leads (λ verb. then_leads _ _ objects_lead (λ objects. pure_leads (g.property_with verb objects)))

    predicate_object_list_leads : Leads limit b (g.PredicateObjectList P)
    predicate_object_list_leads = then_leads _ _ verb_objects_lead (λ first. then_leads _ _
        (star_leads _ (behind_leads terminal.Semicolon _ refl refl (map_leads option_to_list _ (maybe_leads _ verb_objects_lead)))) (λ others. pure_leads (first ∷ others)))

-- ---- brackets

-- an opener, what stands inside, and its closer
enclosed : {A B : Type 0} (limit b : ℕ) (o c : Terminal) (P : Derives A) (F : A → Derives B) → open_behind b o ≡ b + 1 → open_behind (b + 1) c ≡ b → is_other o ≡ false → is_other c ≡ false → b + 1 ≤ limit
    → Leads limit (b + 1) P → ((a : A) (ts : Lexemes) (x : B) (us : Lexemes) → F a ts x us → ts ≡ us)
    → Leads limit b (Then (grammar.the o) (λ _. Then P (λ a. Then (grammar.the c) (λ _. F a))))
unfolding Leads
enclosed limit b o c P F opens closes uses_o uses_c low p ends ts x us d h =
    let t = d.reads in
    let u = d.goes.goes.reads in
    let outside : Shallow limit b d.goes.goes.mid = subst (Shallow limit b) (sym (ends d.goes.first d.goes.goes.mid x us d.goes.goes.goes)) h in
    let behind : Shallow limit (open_behind (b + 1) u.0.terminal) d.goes.goes.mid = subst (λ (m : ℕ). Shallow limit m d.goes.goes.mid) (sym (ap (open_behind (b + 1)) u.1 ∙ closes)) outside in
    let closer : Shallow limit (b + 1) d.goes.mid = subst (Shallow limit (b + 1)) (sym u.2) (front limit (b + 1) u.0 d.goes.goes.mid low (ap is_other u.1 ∙ uses_c) behind) in
    let inside : Shallow limit (b + 1) d.mid = p d.mid d.goes.first d.goes.mid d.goes.reads closer in
    let within : Shallow limit (open_behind b t.0.terminal) d.mid = subst (λ (m : ℕ). Shallow limit m d.mid) (sym (ap (open_behind b) t.1 ∙ opens)) inside in
    subst (Shallow limit b) (sym t.2) (front limit b t.0 d.mid (omega (arith, low)) (ap is_other t.1 ∙ uses_o) within)

-- an opener and its closer
pair_leads : {B : Type 0} (limit b : ℕ) (o c : Terminal) (y : B) → open_behind b o ≡ b + 1 → open_behind (b + 1) c ≡ b → is_other o ≡ false → is_other c ≡ false → b + 1 ≤ limit
    → Leads limit b (Then (grammar.the o) (λ _. Then (grammar.the c) (λ _. grammar.pure y)))
unfolding Leads
pair_leads limit b o c y opens closes uses_o uses_c low ts x us d h =
    let t = d.reads in
    let u = d.goes.reads in
    let outside : Shallow limit b d.goes.mid = subst (Shallow limit b) (sym d.goes.goes.1) h in
    let behind : Shallow limit (open_behind (b + 1) u.0.terminal) d.goes.mid = subst (λ (m : ℕ). Shallow limit m d.goes.mid) (sym (ap (open_behind (b + 1)) u.1 ∙ closes)) outside in
    let closer : Shallow limit (b + 1) d.mid = subst (Shallow limit (b + 1)) (sym u.2) (front limit (b + 1) u.0 d.goes.mid low (ap is_other u.1 ∙ uses_c) behind) in
    let within : Shallow limit (open_behind b t.0.terminal) d.mid = subst (λ (m : ℕ). Shallow limit m d.mid) (sym (ap (open_behind b) t.1 ∙ opens)) closer in
    subst (Shallow limit b) (sym t.2) (front limit b t.0 d.mid (omega (arith, low)) (ap is_other t.1 ∙ uses_o) within)

module _ (limit b : ℕ) (low : b + 1 ≤ limit) (P : Derives Node) (p : Leads limit (b + 1) P) where
  blank_node_property_list_leads : Leads limit b (g.BlankNodePropertyList P)
  blank_node_property_list_leads = enclosed limit b terminal.OpenBracket terminal.CloseBracket _ grammar.pure refl (omega arith) refl refl low (predicate_object_list_leads limit (b + 1) P p) (λ a ts x us d. d.1)

  blank_leads : Leads limit b (g.Blank P)
  blank_leads = or_leads limit b _ _ (leaf_leads limit b n.Label terminal.BlankLabel refl refl)
      (map_leads limit b n.Blank _ (pair_leads limit b terminal.OpenBracket terminal.CloseBracket [] refl (omega arith) refl refl low))

  collection_leads : Leads limit b (g.Collection P)
  collection_leads = enclosed limit b terminal.Open terminal.Close _ grammar.pure refl (omega arith) refl refl low (star_leads limit (b + 1) _ (one_leads limit (b + 1) P p)) (λ a ts x us d. d.1)

  subject_leads : Leads limit b (g.Subject P)
  subject_leads = or_leads limit b _ _ (map_leads limit b n.Name _ (iri_leads limit b)) (or_leads limit b _ _ blank_leads (map_leads limit b n.Collection _ collection_leads))

  object_leads : Leads limit b (g.Object P)
  object_leads = or_leads limit b _ _ (map_leads limit b n.Name _ (iri_leads limit b)) (or_leads limit b _ _ blank_leads (or_leads limit b _ _ (map_leads limit b n.Collection _ collection_leads)
      (or_leads limit b _ _ (map_leads limit b n.Blank _ blank_node_property_list_leads) (map_leads limit b n.Literal _ (literal_leads limit b)))))

objects_at : (limit d b : ℕ) → d + b ≤ limit → Leads limit b (g.Objects_at d)
unfolding Leads
objects_at limit zero b room ts x us h low = absurd h
objects_at limit (suc d) b room ts x us h low = object_leads limit b (omega (arith, room)) (g.Objects_at d) (objects_at limit d (b + 1) (omega (arith, room))) ts x us h low

-- ---- statements, which stand where no bracket is open

module _ (limit : ℕ) where
  binding_leads : Leads limit 0 g.Binding
  binding_leads = map_leads limit 0 g.bound _ (then_leads limit 0 _ _ (namespace_leads limit 0) (λ prefix. then_leads limit 0 _ _ (word_value_leads limit 0 w.Iri) (λ reference. pure_leads limit 0 (prefix, reference))))

  base_leads : Leads limit 0 g.Base
  base_leads = leaf_leads limit 0 s.Base terminal.Iri refl refl

  dotted_leads : {A : Type 0} (P : Derives A) → Leads limit 0 P → Leads limit 0 (g.Dotted P)
  dotted_leads P p = then_leads limit 0 _ _ p (λ x. behind_leads limit 0 terminal.Dot _ refl refl (pure_leads limit 0 x))

  directive_leads : Leads limit 0 g.Directive
  directive_leads =
      or_leads limit 0 _ _ (behind_leads limit 0 terminal.AtPrefix _ refl refl (dotted_leads _ binding_leads))
      (or_leads limit 0 _ _ (behind_leads limit 0 terminal.AtBase _ refl refl (dotted_leads _ base_leads))
      (or_leads limit 0 _ _ (behind_leads limit 0 terminal.Prefix _ refl refl binding_leads) (behind_leads limit 0 terminal.Base _ refl refl base_leads)))

  module _ (low : 1 ≤ limit) (I P : Derives Node) (i : Leads limit 1 I) (p : Leads limit 0 P) where
    about_leads : Leads limit 0 (g.About I P)
    about_leads = then_leads limit 0 _ _ (subject_leads limit 0 low I i) (λ subject. then_leads limit 0 _ _ (predicate_object_list_leads limit 0 P p) (λ ps. pure_leads limit 0 (s.Triples subject ps)))

    about_blank_leads : Leads limit 0 (g.AboutBlank I P)
    about_blank_leads = then_leads limit 0 _ _ (blank_node_property_list_leads limit 0 low I i) (λ inside. then_leads limit 0 _ _ (maybe_leads limit 0 _ (predicate_object_list_leads limit 0 P p)) (λ ps. pure_leads limit 0 (s.Triples (n.Blank inside) (g.all_of ps))))

    statements_lead : Leads limit 0 (Star (grammar.one (g.AStatement I P)))
    statements_lead = star_leads limit 0 _ (one_leads limit 0 _ (or_leads limit 0 _ _ directive_leads (dotted_leads _ (or_leads limit 0 _ _ about_leads about_blank_leads))))

none_open : (limit n : ℕ) → open_after 0 (take n []) ≤ limit
none_open limit zero = omega arith
none_open limit (suc n) = omega arith

pub document_shallow : (depth : ℕ) (ts : Lexemes) (ss : List Statement) → g.Document depth ts ss [] → Shallow (suc depth) 0 ts
unfolding Leads
document_shallow depth ts ss h =
    statements_lead (suc depth) (omega arith) (g.Objects_at depth) (g.Objects_at (suc depth)) (objects_at (suc depth) depth 1 (omega arith)) (objects_at (suc depth) (suc depth) 0 (omega arith))
    ts ss [] h (record { at = none_open (suc depth); useful = tt })

pub not_too_deep : (ts : Lexemes) → Shallow 100 0 ts → IsTooDeep ts → ⊥
not_too_deep ts h deep = omega (arith, h.at deep.0, deep.1)

last_useful : (ts : Lexemes) (t : Lexeme) → AllByRecursion (λ (u : Lexeme). is_other u.terminal ≡ false) (ts ++ t ∷ []) → is_other t.terminal ≡ false
last_useful [] t all = all.0
last_useful (u ∷ us) t all = last_useful us t all.1

-- where Turtle has a use for each lexeme that is read of a text, they are those of its tokens
pub all_read : (text : List ℕ) (ts : Lexemes) → IsUtf8 text → AreReadOf terminal_by (chars text) ts → Shallow 100 0 ts → (tokens : List Token) × HasTokens text tokens ts
all_read text ts u (Ok tokens, says, are) h = (tokens, record { utf8 = u; list = says; slices = are })
all_read text ts u (Err place, says, are) h =
    let last : is_other (unread terminal_by).terminal ≡ false =
    last_useful are.3 (unread terminal_by) (subst (AllByRecursion (λ (t : Lexeme). is_other t.terminal ≡ false)) are.9 h.useful) in
    absurd (cc)
