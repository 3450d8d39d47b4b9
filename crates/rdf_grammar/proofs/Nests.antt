-- Where no more than so many brackets are open at once, no derivation nests deeper.
use Rattle.std.proofs.Common.{◌≡◌, ℕ, suc, ◌+◌, ◌≤◌, List, [], ◌∷◌, take, Some, None, ◌∙◌, ap, inl, inr}
use Rattle.rdf_grammar.specs.declared.bracket.Bracket.{Bracket}
use Rattle.rdf_grammar.specs.declared.lexeme.Lexeme.{Lexeme}
use Rattle.rdf_grammar.specs.Terminals.{Slice, Lexemes}
use Rattle.rdf_grammar.specs.Nesting as nesting
use Rattle.rdf_grammar.specs.Derivations as grammar
use Rattle.rdf_grammar.specs.Derivations.{Derives, Then, Star, stop, more}

module _ {T : Type 0} (bracket : T → Bracket) where
  abbrev open_behind : ℕ → T → ℕ
  open_behind = nesting.open_behind bracket

  abbrev open_after : ℕ → Lexemes T → ℕ
  open_after = nesting.open_after bracket

  -- with b open before them, the lexemes never open more than the limit
  pub record Below (limit b : ℕ) (ts : Lexemes T) : Type 0 where
    pub at : (n : ℕ) → open_after b (take n ts) ≤ limit

  -- from where b are open to where b are open, what P derives Q derives
  unfoldable pub Keeps : {A : Type 0} → ℕ → ℕ → Derives (Lexeme T) A → Derives (Lexeme T) A → Type 0
  Keeps {A} limit b P Q = (ts : Lexemes T) (x : A) (us : Lexemes T) → P ts x us → Below limit b ts → Q ts x us × Below limit b us

  pub after : (limit b : ℕ) (t : Lexeme T) (us : Lexemes T) → Below limit b (t ∷ us) → Below limit (open_behind b t.terminal) us
  after limit b t us h = record { at = λ n. h.at (suc n) }

  module _ (limit b : ℕ) where
    pub then_keeps : {A B : Type 0} (P Q : Derives (Lexeme T) A) (F G : A → Derives (Lexeme T) B) → Keeps limit b P Q → ((a : A) → Keeps limit b (F a) (G a)) → Keeps limit b (Then P F) (Then Q G)
    unfolding Keeps
    then_keeps P Q F G p f ts x us d h =
        let r = p ts d.first d.mid d.reads h in
        let q = f d.first d.mid x us d.goes r.1 in
        (record { first = d.first; mid = d.mid; reads = r.0; goes = q.0 }, q.1)

    pub pure_keeps : {A : Type 0} (a : A) → Keeps limit b (grammar.pure a) (grammar.pure a)
    unfolding Keeps
    pure_keeps a ts x us d h = (d, rw (← d.1) h)

    pub or_keeps : {A : Type 0} (P Q R S : Derives (Lexeme T) A) → Keeps limit b P Q → Keeps limit b R S → Keeps limit b (grammar.◌∣◌ P R) (grammar.◌∣◌ Q S)
    unfolding Keeps
    or_keeps P Q R S p r ts x us (inl d) h = let q = p ts x us d h in (inl q.0, q.1)
    or_keeps P Q R S p r ts x us (inr d) h = let q = r ts x us d h in (inr q.0, q.1)

    -- a lexeme that is no bracket
    pub the_keeps : (k : T) → open_behind b k ≡ b → Keeps limit b (grammar.the k) (grammar.the k)
    unfolding Keeps
    the_keeps k plain ts x us d h = (d, let a = after limit b d.0 us (rw d.2 at h) in rw (ap (open_behind b) d.1 ∙ plain) at a)

    pub value_keeps : (k : T) → open_behind b k ≡ b → Keeps limit b (grammar.value k) (grammar.value k)
    unfolding Keeps
    value_keeps k plain ts x us d h = (d, let a = after limit b d.0 us (rw d.3 at h) in rw (ap (open_behind b) d.1 ∙ plain) at a)

    pub map_keeps : {A B : Type 0} (f : A → B) (P Q : Derives (Lexeme T) A) → Keeps limit b P Q → Keeps limit b (grammar.◌<$>◌ f P) (grammar.◌<$>◌ f Q)
    map_keeps f P Q p = then_keeps P Q _ _ p (λ a. pure_keeps (f a))

    pub behind_keeps : {A : Type 0} (k : T) (P Q : Derives (Lexeme T) A) → open_behind b k ≡ b → Keeps limit b P Q → Keeps limit b (grammar.◌>>◌ (grammar.the k) P) (grammar.◌>>◌ (grammar.the k) Q)
    behind_keeps k P Q plain p = then_keeps _ _ _ _ (the_keeps k plain) (λ _. p)

    pub word_keeps : {A : Type 0} (k : T) (a : A) → open_behind b k ≡ b → Keeps limit b (grammar.◌>>◌ (grammar.the k) (grammar.pure a)) (grammar.◌>>◌ (grammar.the k) (grammar.pure a))
    word_keeps k a plain = behind_keeps k _ _ plain (pure_keeps a)

    pub leaf_keeps : {A : Type 0} (f : Slice → A) (k : T) → open_behind b k ≡ b → Keeps limit b (grammar.◌<$>◌ f (grammar.value k)) (grammar.◌<$>◌ f (grammar.value k))
    leaf_keeps f k plain = map_keeps f _ _ (value_keeps k plain)

    pub maybe_keeps : {A : Type 0} (P Q : Derives (Lexeme T) A) → Keeps limit b P Q → Keeps limit b (grammar.maybe P) (grammar.maybe Q)
    unfolding Keeps
    maybe_keeps P Q p ts None us d h = (d, rw (← d) h)
    maybe_keeps P Q p ts (Some x) us d h = p ts x us d h

    pub star_keeps : {A : Type 0} (P Q : Derives (Lexeme T) (List A)) → Keeps limit b P Q → Keeps limit b (Star P) (Star Q)
    unfolding Keeps
    star_keeps P Q p ts xs us stop h = (stop, h)
    star_keeps P Q p ts xs us (more {mid = mid} {x = x} {xs = ys} r s) h =
        let a = p ts x mid r h in
        let c = star_keeps P Q p mid ys us s a.1 in
        (more a.0 c.0, c.1)

    pub one_keeps : {A : Type 0} (P Q : Derives (Lexeme T) A) → Keeps limit b P Q → Keeps limit b (grammar.one P) (grammar.one Q)
    one_keeps P Q p = map_keeps (λ x. x ∷ []) P Q p

  -- an opener, what stands inside, and its closer
  pub enclosed : {A B : Type 0} (limit b : ℕ) (o c : T) (P Q : Derives (Lexeme T) A) (F : A → Derives (Lexeme T) B) → open_behind b o ≡ b + 1 → open_behind (b + 1) c ≡ b → Keeps limit (b + 1) P Q
      → ((a : A) (ts : Lexemes T) (x : B) (us : Lexemes T) → F a ts x us → ts ≡ us)
      → Keeps limit b (Then (grammar.the o) (λ _. Then P (λ a. Then (grammar.the c) (λ _. F a)))) (Then (grammar.the o) (λ _. Then Q (λ a. Then (grammar.the c) (λ _. F a))))
  unfolding Keeps
  enclosed limit b o c P Q F opens closes p ends ts x us d h =
      let t = d.reads in
      let a = after limit b t.0 d.mid (rw t.2 at h) in
      let inside : Below limit (b + 1) d.mid = rw (ap (open_behind b) t.1 ∙ opens) at a in
      let r = p d.mid d.goes.first d.goes.mid d.goes.reads inside in
      let u = d.goes.goes.reads in
      let z = after limit (b + 1) u.0 d.goes.goes.mid (rw u.2 at r.1) in
      let outside : Below limit b d.goes.goes.mid = rw (ap (open_behind (b + 1)) u.1 ∙ closes) at z in
      let same = ends d.goes.first d.goes.goes.mid x us d.goes.goes.goes in
      (record { first = d.first; mid = d.mid; reads = d.reads; goes = record { first = d.goes.first; mid = d.goes.mid; reads = r.0; goes = d.goes.goes } }, rw same at outside)

  -- an opener and its closer
  pub pair_keeps : {B : Type 0} (limit b : ℕ) (o c : T) (x : B) → open_behind b o ≡ b + 1 → open_behind (b + 1) c ≡ b
      → Keeps limit b (Then (grammar.the o) (λ _. Then (grammar.the c) (λ _. grammar.pure x))) (Then (grammar.the o) (λ _. Then (grammar.the c) (λ _. grammar.pure x)))
  unfolding Keeps
  pair_keeps limit b o c y opens closes ts x us d h =
      let t = d.reads in
      let a = after limit b t.0 d.mid (rw t.2 at h) in
      let inside : Below limit (b + 1) d.mid = rw (ap (open_behind b) t.1 ∙ opens) at a in
      let u = d.goes.reads in
      let z = after limit (b + 1) u.0 d.goes.mid (rw u.2 at inside) in
      let outside : Below limit b d.goes.mid = rw (ap (open_behind (b + 1)) u.1 ∙ closes) at z in
      (d, rw d.goes.goes.1 at outside)
