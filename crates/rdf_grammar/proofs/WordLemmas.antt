-- Lexemes of a word: they are read as they are derived.
use Rattle.std.proofs.Common.{◌≡◌, ◌<◌, Bool, true, false, [], ◌∷◌, length, Option, Some, None, refl, ◌∙◌, ap, arith, cond}
use Rattle.std.specs.Prelude.{◌&&◌}
use Rattle.rdf_tokens.specs.Values.{prefix_part, local_part}
use Rattle.rdf_grammar.specs.declared.lexeme.Lexeme.{Lexeme}
use Rattle.rdf_grammar.specs.declared.word.Word.{Word}
use Rattle.rdf_grammar.specs.declared.word.Word.TheVariants as w
use Rattle.rdf_grammar.specs.Steps as steps
use Rattle.rdf_grammar.specs.Steps.{and_then}
use Rattle.rdf_grammar.specs.Readings.{Reading, Test, any, is_nil}
use Rattle.rdf_grammar.specs.Terminals.{Slice, Lexemes}
use Rattle.rdf_grammar.specs.Productions as g
use Rattle.rdf_grammar.specs.Words as read
use Rattle.rdf_grammar.specs.Words.{apart, is_word, next_word}
use Rattle.rdf_grammar.specs.Derivations as grammar
use Rattle.rdf_grammar.proofs.Decides.{always, Decides, and_then_some, got, some_pair}
use Rattle.rdf_grammar.proofs.Terminals.{is_nil_is}

word_is : (w : Word) (o : Option Word) → is_word w o ≡ true → o ≡ Some w
word_is w None h = absurd (cc)
word_is w (Some v) h = ap Some (apart.is v w h)

is_that_word : (w : Word) (o : Option Word) → o ≡ Some w → is_word w o ≡ true
is_that_word w o e = rw e (apart.alike w)

module _ {T : Type 0} (word : T → Option Word) where
  pub the_word : (w : Word) (ts us : Lexemes T) (a : Unit {0}) → g.the word w ts a us → next_word word ts ≡ Some w
  the_word w ts us a h = ap (next_word word) h.2 ∙ h.1

  pub value_word : (w : Word) (ts us : Lexemes T) (v : Slice) → g.value word w ts v us → next_word word ts ≡ Some w
  value_word w ts us v h = ap (next_word word) h.3 ∙ h.1

  value_at : (w : Word) (t : Lexeme T) (ts : Lexemes T) (b : Bool) (v : Slice) (us : Lexemes T) → is_word w (word t.terminal) ≡ b
      → cond b (got t.text ts) None ≡ got v us → (word t.terminal ≡ Some w) × (t.text ≡ v) × (ts ≡ us)
  value_at w t ts true v us s h = let x = some_pair t.text v ts us h in (word_is w (word t.terminal) s, x.0, x.1)
  value_at w t ts false v us s h = absurd (cc)

  value_sound : (w : Word) (ts : Lexemes T) (v : Slice) (us : Lexemes T) → read.value word w ts ≡ Some (v, us) → g.value word w ts v us
  unfolding read.value
  value_sound w [] v us h = absurd (cc)
  value_sound w (t ∷ ts) v us h = let x = value_at w t ts (is_word w (word t.terminal)) v us refl h in (t, x.0, x.1, ap (λ l. t ∷ l) x.2)

  value_front : (w : Word) (t : Lexeme T) (us : Lexemes T) → word t.terminal ≡ Some w → read.value word w (t ∷ us) ≡ Some (t.text, us)
  unfolding read.value
  value_front w t us e = rw (is_that_word w (word t.terminal) e) refl

  pub value_decides : (w : Word) → Decides (read.value word w) (g.value word w) always
  value_decides w = record {
    sound = value_sound w;
    complete = λ ts v us d h. ap (read.value word w) d.3 ∙ value_front w d.0 us d.1 ∙ ap (λ n. Some (n, us)) d.2;
    shorter = λ ts v us d. omega (arith, ap length d.3);
  }

  -- ---- prefixed names without a local part

  namespace_at : (t : Lexeme T) (ts : Lexemes T) (a b : Bool) (v : Slice) (us : Lexemes T) → is_word w.Pname (word t.terminal) ≡ a → is_nil (local_part t.text) ≡ b
      → cond (a && b) (got (prefix_part t.text) ts) None ≡ got v us → (word t.terminal ≡ Some w.Pname) × (local_part t.text ≡ []) × (prefix_part t.text ≡ v) × (ts ≡ us)
  namespace_at t ts true true v us p q h = let x = some_pair (prefix_part t.text) v ts us h in (word_is w.Pname (word t.terminal) p, is_nil_is (local_part t.text) q, x.0, x.1)
  namespace_at t ts true false v us p q h = absurd (cc)
  namespace_at t ts false b v us p q h = absurd (cc)

  namespace_sound : (ts : Lexemes T) (v : Slice) (us : Lexemes T) → read.namespace word ts ≡ Some (v, us) → g.namespace word ts v us
  unfolding read.namespace
  namespace_sound [] v us h = absurd (cc)
  namespace_sound (t ∷ ts) v us h =
      let x = namespace_at t ts (is_word w.Pname (word t.terminal)) (is_nil (local_part t.text)) v us refl refl h in
      (t, x.0, x.1, x.2, ap (λ l. t ∷ l) x.3)

  namespace_front : (t : Lexeme T) (us : Lexemes T) → word t.terminal ≡ Some w.Pname → local_part t.text ≡ [] → read.namespace word (t ∷ us) ≡ Some (prefix_part t.text, us)
  unfolding read.namespace
  namespace_front t us e f = rw (is_that_word w.Pname (word t.terminal) e, f) refl

  pub namespace_decides : Decides (read.namespace word) (g.namespace word) always
  namespace_decides = record {
    sound = namespace_sound;
    complete = λ ts v us d h. ap (read.namespace word) d.4 ∙ namespace_front d.0 us d.1 d.2 ∙ ap (λ n. Some (n, us)) d.3;
    shorter = λ ts v us d. omega (arith, ap length d.4);
  }

  -- ---- a word that is seen

  -- behind a word that is seen, what is derived behind the word
  abbrev pub Behind : {A : Type 0} → Word → grammar.Derives (Lexeme T) A → grammar.Derives (Lexeme T) A
  Behind w P = grammar.◌>>◌ (g.the word w) P

  any_sound : (w : Word) (ts us : Lexemes T) (a : Unit {0}) → next_word word ts ≡ Some w → any ts ≡ Some (a, us) → g.the word w ts a us
  unfolding any
  any_sound w [] us a q h = absurd (cc)
  any_sound w (t ∷ ts) us a q h = (t, q, ap (λ l. t ∷ l) (some_pair tt a ts us h).1)

  any_complete : (w : Word) (ts us : Lexemes T) (a : Unit {0}) → g.the word w ts a us → any ts ≡ Some (a, us)
  unfolding any
  any_complete w ts us a d = rw d.2 refl

  pub behind_sound : {A : Type 0} (w : Word) (p : Reading (Lexeme T) A) (P : grammar.Derives (Lexeme T) A) (ends : Test (Lexeme T)) → Decides p P ends
      → (ts : Lexemes T) (x : A) (us : Lexemes T) → next_word word ts ≡ Some w → steps.◌>>◌ any p ts ≡ Some (x, us) → Behind w P ts x us
  behind_sound w p P ends d ts x us q h =
      let a = and_then_some (any ts) (λ _. p) x us h in
      record { first = a.0; mid = a.1; reads = any_sound w ts a.1 a.0 q a.2; goes = d.sound a.1 x us a.3 }

  pub behind_complete : {A : Type 0} (w : Word) (p : Reading (Lexeme T) A) (P : grammar.Derives (Lexeme T) A) (ends : Test (Lexeme T)) → Decides p P ends
      → (ts : Lexemes T) (x : A) (us : Lexemes T) → Behind w P ts x us → ends us ≡ true → steps.◌>>◌ any p ts ≡ Some (x, us)
  behind_complete w p P ends d ts x us h e = ap (λ o. and_then o (λ _. p)) (any_complete w ts h.mid h.first h.reads) ∙ d.complete h.mid x us h.goes e

  pub behind_strict : {A : Type 0} (w : Word) (p : Reading (Lexeme T) A) (P : grammar.Derives (Lexeme T) A) (ends : Test (Lexeme T)) → Decides p P ends
      → (ts : Lexemes T) (x : A) (us : Lexemes T) → Behind w P ts x us → length us < length ts
  behind_strict w p P ends d ts x us h = let m = d.shorter h.mid x us h.goes in omega (arith, ap length h.reads.2)
