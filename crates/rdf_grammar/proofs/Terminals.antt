-- Lexemes of a terminal: they are read as they are derived, and a loop may wait for one.
use Rattle.std.proofs.Common.{◌≡◌, ◌<◌, ◌≤◌, Bool, true, false, List, [], ◌∷◌, ◌++◌, length, Option, Some, None, refl, sym, ◌∙◌, ap, arith, cond}
use Rattle.std.specs.Prelude.{option_to_list}
use Rattle.rdf_grammar.specs.declared.fault.GrammarFault.{GrammarFault}
use Rattle.rdf_grammar.specs.declared.lexeme.Lexeme.{Lexeme}
use Rattle.rdf_grammar.specs.Steps as steps
use Rattle.rdf_grammar.specs.Steps.{and_then, ◌>>◌}
use Rattle.rdf_grammar.specs.Readings.{Outcome, Reading, Test, Fails, is_nil, next, any, one, optional}
use Rattle.rdf_grammar.specs.Terminals as terminal
use Rattle.rdf_grammar.specs.Terminals.{Slice, Lexemes, TellsApart, next_terminal}
use Rattle.rdf_grammar.specs.Derivations as grammar
use Rattle.rdf_grammar.specs.Derivations.{Derives, Then}
use Rattle.rdf_grammar.proofs.Decides.{always, Decides, then_decides, pure_decides, got, some_pair}
use Rattle.rdf_grammar.proofs.Combinators.{seq}
use Rattle.rdf_grammar.proofs.Repeats.{Going, Grown, going_on, going_fails, grown_on, fails_on}

pub is_nil_is : {A : Type 0} (xs : List A) → is_nil xs ≡ true → xs ≡ []
is_nil_is [] h = refl
is_nil_is (x ∷ xs) h = absurd (cc)

pub the_terminal : {T : Type 0} (k : T) (ts us : Lexemes T) (a : Unit {0}) → grammar.the k ts a us → next_terminal ts ≡ Some k
the_terminal k ts us a h = ap next_terminal h.2 ∙ ap Some h.1

pub value_terminal : {T : Type 0} (k : T) (ts us : Lexemes T) (v : Slice) → grammar.value k ts v us → next_terminal ts ≡ Some k
value_terminal k ts us v h = ap next_terminal h.3 ∙ ap Some h.1

-- what a look at the next terminal tells
pub looked : {T : Type 0} (test : Option T → Bool) (ts : Lexemes T) {k : Option T} → k ≡ next_terminal ts → true ≡ test k → test (next_terminal ts) ≡ true
looked test ts p q = ap test (sym p) ∙ sym q

module _ {T : Type 0} (same : T → T → Bool) where
  abbrev sees : T → Lexemes T → Bool
  sees = terminal.sees same

  abbrev the : T → Reading (Lexeme T) (Unit {0})
  the = terminal.the same

  pub sees_some : (k : T) (ts : Lexemes T) → sees k ts ≡ true → length (next ts) < length ts
  sees_some k [] h = absurd (cc)
  sees_some k (t ∷ ts) h = omega arith

  pub sees_shorter : (k : T) (now mid : Lexemes T) → sees k now ≡ true → mid ≡ next now → length mid < length now
  sees_shorter k now mid s m = let less = sees_some k now s in omega (arith, ap length m)

  pub seen_more : (k : T) (ts : Lexemes T) → sees k ts ≡ true → 0 < length ts
  seen_more k [] h = absurd (cc)
  seen_more k (t ∷ ts) h = omega arith

  -- ---- a turn behind a lexeme of terminal k, which may read nothing more

  module _ {A : Type 0} (k : T) (test : Test (Lexeme T)) (p : Reading (Lexeme T) A) where
    pub maybe_reads : (now mid then : Lexemes T) (o : Option A) → sees k now ≡ true → mid ≡ next now → optional test p mid ≡ Some (o, then)
        → terminal.maybe_behind same k test p now ≡ Some (option_to_list o, then)
    unfolding terminal.the
    maybe_reads now mid then o s m h = let e : optional test p (next now) ≡ Some (o, then) = ap (optional test p) (sym m) ∙ h in rw (s, e) refl

    pub maybe_fails : (now mid : Lexemes T) → sees k now ≡ true → mid ≡ next now → optional test p mid ≡ None → terminal.maybe_behind same k test p now ≡ None
    unfolding terminal.the
    maybe_fails now mid s m h = let e : optional test p (next now) ≡ None = ap (optional test p) (sym m) ∙ h in rw (s, e) refl

  -- ---- a chain: the members after the first, each behind a lexeme of terminal k

  passed : {A : Type 0} (k : T) (p : Reading (Lexeme T) A) (ts : Lexemes T) → sees k ts ≡ true → one (the k >> p) ts ≡ one p (next ts)
  unfolding terminal.the
  passed k p ts h = rw h refl

  pub chain_goes : {A : Type 0} (k : T) (p : Reading (Lexeme T) A) {whole : Outcome (Lexeme T) (List A)} {found : List A} {now : Lexemes T} (mid : Lexemes T) (x : A) (then : Lexemes T)
      → Going (sees k) (one (the k >> p)) whole found now → sees k now ≡ true → mid ≡ next now → p mid ≡ Some (x, then) → length then ≤ length mid
      → Going (sees k) (one (the k >> p)) whole (found ++ x ∷ []) then
  chain_goes k p {now = now} mid x then g h m e shorter =
      let less = sees_some k now h in
      going_on (x ∷ []) then g h (passed k p now h ∙ ap (one p) (sym m) ∙ ap (λ o. and_then o (λ y. λ us. Some (y ∷ [], us))) e) (omega (arith, ap length m))

  pub chain_fails : {A : Type 0} (k : T) (p : Reading (Lexeme T) A) {whole : Outcome (Lexeme T) (List A)} {found : List A} {now : Lexemes T} (mid : Lexemes T) (e : GrammarFault)
      → Going (sees k) (one (the k >> p)) whole found now → sees k now ≡ true → mid ≡ next now → Fails (p mid) e → Fails whole e
  chain_fails k p {now = now} mid e g h m f =
      let less = sees_some k now h in
      fails_on e f (λ none. going_fails g (omega arith) h (passed k p now h ∙ ap (one p) (sym m) ∙ ap (λ o. and_then o (λ y. λ us. Some (y ∷ [], us))) none))

  -- a grown list, where each turn begins with a lexeme of terminal k
  pub grown_behind : {A : Type 0} (test : Test (Lexeme T)) (k : T) (p : Reading (Lexeme T) A) {whole : Outcome (Lexeme T) (List A)} {front all : List A} {now : Lexemes T} (mid : Lexemes T) (x : A) (all' : List A) (then : Lexemes T)
      → Grown test (one (the k >> p)) whole front all now → test now ≡ true → sees k now ≡ true → mid ≡ next now → p mid ≡ Some (x, then) → length then ≤ length mid
      → all' ≡ all ++ x ∷ [] → Grown test (one (the k >> p)) whole front all' then
  grown_behind test k p {now = now} mid x all' then g h s m e shorter more =
      let less = sees_some k now s in
      grown_on (x ∷ []) all' then g h (passed k p now s ∙ ap (one p) (sym m) ∙ ap (λ o. and_then o (λ y. λ us. Some (y ∷ [], us))) e) (omega (arith, ap length m)) more

  pub grown_fails_behind : {A : Type 0} (test : Test (Lexeme T)) (k : T) (p : Reading (Lexeme T) A) {whole : Outcome (Lexeme T) (List A)} {front all : List A} {now : Lexemes T} (mid : Lexemes T) (e : GrammarFault)
      → Grown test (one (the k >> p)) whole front all now → test now ≡ true → sees k now ≡ true → mid ≡ next now → Fails (p mid) e → Fails whole e
  grown_fails_behind test k p {now = now} mid e g h s m f =
      let less = sees_some k now s in
      fails_on e f (λ none. going_fails g.going (omega arith) h (passed k p now s ∙ ap (one p) (sym m) ∙ ap (λ o. and_then o (λ y. λ us. Some (y ∷ [], us))) none))

module _ {T : Type 0} (same : T → T → Bool) (apart : TellsApart same) where
  sees_at : (k : T) (t : Lexeme T) (ts : Lexemes T) → t.terminal ≡ k → terminal.sees same k (t ∷ ts) ≡ true
  sees_at k t ts e = rw e (apart.alike k)

  the_at : (k : T) (t : Lexeme T) (ts : Lexemes T) (b : Bool) (a : Unit {0}) (us : Lexemes T) → same t.terminal k ≡ b
      → cond b (got tt ts) None ≡ got a us → (t.terminal ≡ k) × (ts ≡ us)
  the_at k t ts true a us s h = (apart.is t.terminal k s, (some_pair tt a ts us h).1)
  the_at k t ts false a us s h = absurd (cc)

  the_sound : (k : T) (ts : Lexemes T) (a : Unit {0}) (us : Lexemes T) → terminal.the same k ts ≡ Some (a, us) → grammar.the k ts a us
  unfolding terminal.the
  the_sound k [] a us h = absurd (cc)
  the_sound k (t ∷ ts) a us h = let x = the_at k t ts (same t.terminal k) a us refl h in (t, x.0, ap (λ l. t ∷ l) x.1)

  the_front : (k : T) (t : Lexeme T) (us : Lexemes T) → t.terminal ≡ k → terminal.the same k (t ∷ us) ≡ Some (tt, us)
  unfolding terminal.the
  the_front k t us e = rw (sees_at k t us e) refl

  pub the_decides : (k : T) → Decides (terminal.the same k) (grammar.the k) always
  the_decides k = record {
    sound = the_sound k;
    complete = λ ts a us d h. ap (terminal.the same k) d.2 ∙ the_front k d.0 us d.1;
    shorter = λ ts a us d. omega (arith, ap length d.2);
  }

  value_at : (k : T) (t : Lexeme T) (ts : Lexemes T) (b : Bool) (v : Slice) (us : Lexemes T) → same t.terminal k ≡ b
      → cond b (got t.text ts) None ≡ got v us → (t.terminal ≡ k) × (t.text ≡ v) × (ts ≡ us)
  value_at k t ts true v us s h = let x = some_pair t.text v ts us h in (apart.is t.terminal k s, x.0, x.1)
  value_at k t ts false v us s h = absurd (cc)

  value_sound : (k : T) (ts : Lexemes T) (v : Slice) (us : Lexemes T) → terminal.value same k ts ≡ Some (v, us) → grammar.value k ts v us
  unfolding terminal.value
  value_sound k [] v us h = absurd (cc)
  value_sound k (t ∷ ts) v us h = let x = value_at k t ts (same t.terminal k) v us refl h in (t, x.0, x.1, ap (λ l. t ∷ l) x.2)

  value_front : (k : T) (t : Lexeme T) (us : Lexemes T) → t.terminal ≡ k → terminal.value same k (t ∷ us) ≡ Some (t.text, us)
  unfolding terminal.value
  value_front k t us e = rw (sees_at k t us e) refl

  pub value_decides : (k : T) → Decides (terminal.value same k) (grammar.value k) always
  value_decides k = record {
    sound = value_sound k;
    complete = λ ts v us d h. ap (terminal.value same k) d.3 ∙ value_front k d.0 us d.1 ∙ ap (λ n. Some (n, us)) d.2;
    shorter = λ ts v us d. omega (arith, ap length d.3);
  }

  -- ---- behind a terminal

  pub after_terminal : {A : Type 0} (k : T) (p : Reading (Lexeme T) A) (P : Derives (Lexeme T) A) (ends : Test (Lexeme T)) → Decides p P ends
      → Decides (steps.◌>>◌ (terminal.the same k) p) (grammar.◌>>◌ (grammar.the k) P) ends
  after_terminal k p P ends d = then_decides _ _ _ _ always ends (the_decides k) (λ _. d) (λ a mid b us h e. refl)

  pub starts_with : {A : Type 0} (k : T) (P : Derives (Lexeme T) A) (p : Reading (Lexeme T) A) (ends : Test (Lexeme T)) → Decides p P ends → (ts : Lexemes T) (x : A) (us : Lexemes T)
      → grammar.◌>>◌ (grammar.the k) P ts x us → (terminal.sees same k ts ≡ true) × (length us < length ts)
  starts_with k P p ends d ts x us h =
      let t = h.reads in
      let less = d.shorter h.mid x us h.goes in
      (rw (t.2, t.1) (apart.alike k), let l = ap length t.2 in omega arith)

  -- ---- a terminal that is seen

  pub any_the : (k : T) (ts : Lexemes T) → next_terminal ts ≡ Some k → any ts ≡ terminal.the same k ts
  unfolding any terminal.the
  any_the k [] h = absurd (cc)
  any_the k (t ∷ ts) h = let e : t.terminal ≡ k = cc in rw (e, apart.alike k) refl

  pub terminal_seen : (k : T) (ts : Lexemes T) → next_terminal ts ≡ Some k → terminal.sees same k ts ≡ true
  terminal_seen k [] h = absurd (cc)
  terminal_seen k (t ∷ ts) h = let e : t.terminal ≡ k = cc in rw e (apart.alike k)

  pub seen_terminal : (k : T) (ts : Lexemes T) → terminal.sees same k ts ≡ true → next_terminal ts ≡ Some k
  seen_terminal k [] h = absurd (cc)
  seen_terminal k (t ∷ ts) h = ap Some (apart.is t.terminal k h)

  -- a terminal that no follow set has isn't seen behind
  pub unseen : (closes : Option T → Bool) (k : T) → closes (Some k) ≡ false → (us : Lexemes T) → closes (next_terminal us) ≡ true → terminal.sees same k us ≡ false
  unseen closes k c [] h = refl
  unseen closes k c (t ∷ us) h = at (same t.terminal k) refl
    where
      at : (b : Bool) → same t.terminal k ≡ b → b ≡ false
      at false s = refl
      at true s = let e = apart.is t.terminal k s in absurd (let x : closes (Some k) ≡ true = rw e at h in cc)

  -- ---- a lexeme that stands for a value

  word_decides : {A : Type 0} (k : T) (a : A) → Decides (steps.◌>>◌ (terminal.the same k) (steps.pure a)) (grammar.◌>>◌ (grammar.the k) (grammar.pure a)) always
  word_decides k a = seq _ _ _ _ always (the_decides k) (λ _. pure_decides a always)

  pub word_sound : {A : Type 0} (k : T) (a x : A) (ts us : Lexemes T) → next_terminal ts ≡ Some k → steps.◌>>◌ any (steps.pure a) ts ≡ Some (x, us)
      → grammar.◌>>◌ (grammar.the k) (grammar.pure a) ts x us
  word_sound k a x ts us q h = (word_decides k a).sound ts x us (rw (any_the k ts q) at h)

  pub word_complete : {A : Type 0} (k : T) (a x : A) (ts us : Lexemes T) → next_terminal ts ≡ Some k → grammar.◌>>◌ (grammar.the k) (grammar.pure a) ts x us
      → steps.◌>>◌ any (steps.pure a) ts ≡ Some (x, us)
  word_complete k a x ts us q h = rw (any_the k ts q) ((word_decides k a).complete ts x us h refl)

pub word_strict : {T A : Type 0} (k : T) (a x : A) (ts us : Lexemes T) → grammar.◌>>◌ (grammar.the k) (grammar.pure a) ts x us → length us < length ts
word_strict k a x ts us h = omega (arith, ap length h.reads.2, ap length h.goes.1)
