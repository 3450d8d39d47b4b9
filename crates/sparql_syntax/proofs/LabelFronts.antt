-- What a grammar derives, and the blank node labels that its lexemes carry, as they stand.
use Rattle.std.proofs.Common.{◌≡◌, ◌∙◌, ap, refl, sym, subst, ℕ, Bool, true, false, cond, ◌&&◌, ◌||◌, List, [], ◌∷◌, ◌++◌, map, append_assoc, append-nil, Option, Some, None, inl, inr, true≢false}
use Rattle.std.proofs.lemmas.List.Folds.{list_any-append}
use Rattle.std.specs.Prelude.{is_some}
use Rattle.std.specs.List.{list_any}
use Rattle.rdf_grammar.specs.Derivations as grammar
use Rattle.rdf_grammar.specs.Derivations.{Then, Star, stop, more}
use Rattle.rdf_grammar.specs.Keys.{key_of, same_key}
use Rattle.rdf_grammar.specs.Productions as productions
use Rattle.rdf_grammar.specs.Terminals.{Slice}
use Rattle.rdf_grammar.specs.declared.word.Word.{Word}
use Rattle.sparql_terminals.specs.declared.terminal.Terminal.{Terminal}
use Rattle.sparql_terminals.specs.declared.terminal.Terminal.TheVariants as terminal
use Rattle.sparql_terminals.specs.Lexemes.{Lexeme, Lexemes, Derives}
use Rattle.sparql_terminals.specs.Terminals.{word}
use Rattle.sparql_syntax.specs.declared.clause.Clause.{Clause}
use Rattle.sparql_syntax.specs.declared.clause.Clause.TheVariants as clause
use Rattle.sparql_syntax.specs.BrokenRules.{ends, is_label}
use Rattle.sparql_syntax.specs.Clauses.{clause_behind, is_same}
use Rattle.sparql_syntax.proofs.ReusedLists.{once, run}
use Rattle.sparql_syntax.proofs.SharedLabels.{or_no, or_assoc}

abbrev pub Slices : Type 0
Slices = List Slice

-- ---- lists of lists

abbrev pub joined : List Slices → Slices
joined [] = []
joined (xs ∷ all) = xs ++ joined all

abbrev pub lists : {A : Type 0} → (A → Slices) → List A → Slices
lists value xs = joined (map value xs)

pub lists-append : {A : Type 0} (value : A → Slices) (xs ys : List A) → lists value (xs ++ ys) ≡ lists value xs ++ lists value ys
lists-append value [] ys = refl
lists-append value (x ∷ xs) ys = ap (λ (z : Slices). value x ++ z) (lists-append value xs ys) ∙ sym (append_assoc (value x) (lists value xs) (lists value ys))

-- ---- lexemes that neither are labels nor end a place or a clause

abbrev pub is_plain : Terminal → Bool
is_plain terminal.Insert = false
is_plain terminal.Delete = false
is_plain terminal.Data = false
is_plain terminal.Where = false
is_plain terminal.OpenBrace = false
is_plain terminal.CloseBrace = false
is_plain terminal.BlankLabel = false
is_plain _ = true

never_ends : (place : Clause) (k : Terminal) → is_plain k ≡ true → ends place k ≡ false
never_ends clause.InsertData terminal.Insert e = absurd (true≢false (sym e))
never_ends clause.Pattern terminal.OpenBrace e = absurd (true≢false (sym e))
never_ends clause.Pattern terminal.CloseBrace e = absurd (true≢false (sym e))
never_ends _ _ e = refl

steady : (c : Clause) (k : Terminal) → is_plain k ≡ true → clause_behind c k ≡ c
steady c terminal.Insert e = absurd (true≢false (sym e))
steady c terminal.Delete e = absurd (true≢false (sym e))
steady c terminal.Data e = absurd (true≢false (sym e))
steady c terminal.Where e = absurd (true≢false (sym e))
steady c terminal.OpenBrace e = absurd (true≢false (sym e))
steady c _ e = refl

pub no_label : (place c : Clause) (k : Terminal) → is_plain k ≡ true → is_label place c k ≡ false
no_label place c terminal.BlankLabel e = absurd (true≢false (sym e))
no_label place c _ e = refl

label_stays : (place : Clause) → ends place terminal.BlankLabel ≡ false
label_stays clause.InsertData = refl
label_stays clause.Pattern = refl
label_stays _ = refl

word_plain : (j : Terminal) (k : Word) → word j ≡ Some k → is_plain j ≡ true
word_plain terminal.Insert k e = absurd (cc)
word_plain terminal.Delete k e = absurd (cc)
word_plain terminal.Data k e = absurd (cc)
word_plain terminal.Where k e = absurd (cc)
word_plain terminal.OpenBrace k e = absurd (cc)
word_plain terminal.CloseBrace k e = absurd (cc)
word_plain terminal.BlankLabel k e = absurd (cc)
word_plain _ k e = refl

module _ (place : Clause) (label : List ℕ) where
  abbrev pub hits : Slice → Bool
  hits text = same_key (key_of label) (key_of text)

  -- ---- in one clause

  module _ (c : Clause) where
    -- the label is among these, which stand in the clause
    abbrev pub has : Slices → Bool
    has xs = is_same place c && list_any hits xs

    pub has-append : (xs ys : Slices) → has (xs ++ ys) ≡ (has xs || has ys)
    has-append xs ys = by (is_same place c)
      where
        by : (b : Bool) → (b && list_any hits (xs ++ ys)) ≡ ((b && list_any hits xs) || (b && list_any hits ys))
        by true = list_any-append hits xs ys
        by false = refl

    pub has_none : has [] ≡ false
    has_none = by (is_same place c)
      where
        by : (b : Bool) → (b && false) ≡ false
        by true = refl
        by false = refl

    -- From here on the label stands in so many places, besides the one at hand, where it stands among these and what came before.
    unfoldable pub At : Slices → ℕ → Lexemes → Type 0
    At ys n ts = (h : Bool) → run place label c h ts ≡ once (h || has ys) n

    pub at_same : (ys : Slices) (n : ℕ) (ts us : Lexemes) → ts ≡ us → At ys n us → At ys n ts
    at_same ys n ts us e at = subst (At ys n) (sym e) at

    stepped : (k : Terminal) (t : Lexeme) (us : Lexemes) (h b : Bool) (d : Clause) → t.terminal ≡ k → ends place k ≡ false → clause_behind c k ≡ d → (is_label place c k && hits t.text) ≡ b
        → run place label c h (t ∷ us) ≡ run place label d (h || b) us
    stepped k t us h b d is stays behind same =
        ap (λ (j : Terminal). cond (ends place j) (once h (run place label (clause_behind c j) false us)) (run place label (clause_behind c j) (h || (is_label place c j && hits t.text)) us)) is
        ∙ ap (λ (e : Bool). cond e (once h (run place label (clause_behind c k) false us)) (run place label (clause_behind c k) (h || (is_label place c k && hits t.text)) us)) stays
        ∙ ap (λ (e : Clause). run place label e (h || (is_label place c k && hits t.text)) us) behind
        ∙ ap (λ (e : Bool). run place label d (h || e) us) same

    pub at_plain : (k : Terminal) (t : Lexeme) (us : Lexemes) (ys : Slices) (n : ℕ) → is_plain k ≡ true → t.terminal ≡ k → At ys n us → At ys n (t ∷ us)
    unfolding At
    at_plain k t us ys n plain is at = λ h.
        stepped k t us h false c is (never_ends place k plain) (steady c k plain) (ap (λ (b : Bool). b && hits t.text) (no_label place c k plain))
        ∙ ap (λ (b : Bool). run place label c b us) (or_no h) ∙ at h

    pub at_label : (t : Lexeme) (us : Lexemes) (ys : Slices) (n : ℕ) → t.terminal ≡ terminal.BlankLabel → At ys n us → At (t.text ∷ ys) n (t ∷ us)
    unfolding At
    at_label t us ys n is at = λ h.
        stepped terminal.BlankLabel t us h (is_same place c && hits t.text) c is (label_stays place) refl refl
        ∙ at (h || (is_same place c && hits t.text))
        ∙ ap (λ (b : Bool). once b n) (or_assoc h (is_same place c && hits t.text) (has ys))
        ∙ ap (λ (b : Bool). once (h || b) n) (by (is_same place c))
      where
        by : (b : Bool) → ((b && hits t.text) || (b && list_any hits ys)) ≡ (b && (hits t.text || list_any hits ys))
        by true = refl
        by false = refl

    -- ---- what is derived

    -- the labels before the lexemes of a tree, and behind them
    pub record Front {A : Type 0} (before : Slices) (after : A → Slices) (ts : Lexemes) (x : A) (us : Lexemes) : Type 0 where
      pub labels : Slices
      pub is : before ++ labels ≡ after x
      pub goes : (ys : Slices) (n : ℕ) → At ys n us → At (labels ++ ys) n ts

    unfoldable pub Gives : {A : Type 0} → Slices → Derives A → (A → Slices) → Type 0
    Gives {A} before P after = (ts : Lexemes) (x : A) (us : Lexemes) → P ts x us → Front before after ts x us

    -- and the tree has no labels
    abbrev pub Silent : {A : Type 0} → Derives A → Type 0
    Silent P = Gives [] P (λ _. [])

-- ---- trees, one behind the other

module _ (place : Clause) (label : List ℕ) (c : Clause) where
  pub then_gives : {A B : Type 0} (P : Derives A) (F : A → Derives B) (before : Slices) (mid : A → Slices) (after : B → Slices) → Gives place label c before P mid → ((a : A) → Gives place label c (mid a) (F a) after)
      → Gives place label c before (Then P F) after
  unfolding Gives
  then_gives P F before mid after p f ts x us d =
      let r = p ts d.first d.mid d.reads in
      let s = f d.first d.mid x us d.goes in
      record {
        labels = r.labels ++ s.labels;
        is = sym (append_assoc before r.labels s.labels) ∙ ap (λ (z : Slices). z ++ s.labels) r.is ∙ s.is;
        goes = λ ys n at. subst (λ (z : Slices). At place label c z n ts) (sym (append_assoc r.labels s.labels ys)) (r.goes (s.labels ++ ys) n (s.goes ys n at));
      }

  pub pure_gives : {A : Type 0} (a : A) (before : Slices) (after : A → Slices) → before ≡ after a → Gives place label c before (grammar.pure a) after
  unfolding Gives
  pure_gives a before after h ts x us d = record {
    labels = [];
    is = append-nil before ∙ h ∙ ap after d.0;
    goes = λ ys n at. at_same place label c ys n ts us d.1 at;
  }

  pub or_gives : {A : Type 0} (P Q : Derives A) (before : Slices) (after : A → Slices) → Gives place label c before P after → Gives place label c before Q after → Gives place label c before (grammar.◌∣◌ P Q) after
  unfolding Gives
  or_gives P Q before after p q ts x us (inl d) = p ts x us d
  or_gives P Q before after p q ts x us (inr d) = q ts x us d

  pub the_gives : (k : Terminal) (before : Slices) → is_plain k ≡ true → Gives place label c before (grammar.the k) (λ _. before)
  unfolding Gives
  the_gives k before plain ts x us d = record {
    labels = [];
    is = append-nil before;
    goes = λ ys n at. at_same place label c ys n ts (d.0 ∷ us) d.2 (at_plain place label c k d.0 us ys n plain d.1 at);
  }

  pub sign_gives : (k : Terminal) (before : Slices) → is_plain k ≡ true → Gives place label c before (grammar.value k) (λ _. before)
  unfolding Gives
  sign_gives k before plain ts x us d = record {
    labels = [];
    is = append-nil before;
    goes = λ ys n at. at_same place label c ys n ts (d.0 ∷ us) d.3 (at_plain place label c k d.0 us ys n plain d.1 at);
  }

  -- a label
  pub label_gives : Gives place label c [] (grammar.value terminal.BlankLabel) (λ text. text ∷ [])
  unfolding Gives
  label_gives ts x us d = record {
    labels = d.0.text ∷ [];
    is = ap (λ (z : Slice). z ∷ []) d.2;
    goes = λ ys n at. at_same place label c (d.0.text ∷ ys) n ts (d.0 ∷ us) d.3 (at_label place label c d.0 us ys n d.1 at);
  }

  pub word_gives : (k : Word) (before : Slices) → Gives place label c before (productions.value word k) (λ _. before)
  unfolding Gives
  word_gives k before ts x us d = record {
    labels = [];
    is = append-nil before;
    goes = λ ys n at. at_same place label c ys n ts (d.0 ∷ us) d.3 (at_plain place label c d.0.terminal d.0 us ys n (word_plain d.0.terminal k d.1) refl at);
  }

  pub the_word_gives : (k : Word) (before : Slices) → Gives place label c before (productions.the word k) (λ _. before)
  unfolding Gives
  the_word_gives k before ts x us d = record {
    labels = [];
    is = append-nil before;
    goes = λ ys n at. at_same place label c ys n ts (d.0 ∷ us) d.2 (at_plain place label c d.0.terminal d.0 us ys n (word_plain d.0.terminal k d.1) refl at);
  }

  pub namespace_gives : (before : Slices) → Gives place label c before (productions.namespace word) (λ _. before)
  unfolding Gives
  namespace_gives before ts x us d = record {
    labels = [];
    is = append-nil before;
    goes = λ ys n at. at_same place label c ys n ts (d.0 ∷ us) d.4 (at_plain place label c d.0.terminal d.0 us ys n (word_plain d.0.terminal _ d.1) refl at);
  }

  pub map_gives : {A B : Type 0} (f : A → B) (P : Derives A) (before : Slices) (mid : A → Slices) (after : B → Slices) → Gives place label c before P mid → ((a : A) → mid a ≡ after (f a))
      → Gives place label c before (grammar.◌<$>◌ f P) after
  map_gives f P before mid after p h = then_gives P _ before mid after p (λ a. pure_gives (f a) (mid a) after (h a))

  pub behind_gives : {A : Type 0} (k : Terminal) (P : Derives A) (before : Slices) (after : A → Slices) → is_plain k ≡ true → Gives place label c before P after → Gives place label c before (grammar.◌>>◌ (grammar.the k) P) after
  behind_gives k P before after plain p = then_gives (grammar.the k) _ before (λ _. before) after (the_gives k before plain) (λ _. p)

  pub closed_gives : {A : Type 0} (k : Terminal) (x : A) (before : Slices) (after : A → Slices) → is_plain k ≡ true → before ≡ after x → Gives place label c before (grammar.◌>>◌ (grammar.the k) (grammar.pure x)) after
  closed_gives k x before after plain h = behind_gives k _ before after plain (pure_gives x before after h)

  pub maybe_gives : {A : Type 0} (P : Derives A) (before : Slices) (mid : A → Slices) (after : Option A → Slices) → Gives place label c before P mid → before ≡ after None → ((x : A) → mid x ≡ after (Some x))
      → Gives place label c before (grammar.maybe P) after
  unfolding Gives
  maybe_gives P before mid after p none some ts None us d = record { labels = []; is = append-nil before ∙ none; goes = λ ys n at. at_same place label c ys n ts us d at }
  maybe_gives P before mid after p none some ts (Some x) us d = (let r = p ts x us d in record { labels = r.labels; is = r.is ∙ some x; goes = r.goes })

  pub perhaps_gives : (k : Terminal) (before : Slices) → is_plain k ≡ true → Gives place label c before (grammar.◌<$>◌ is_some (grammar.maybe (grammar.the k))) (λ _. before)
  perhaps_gives k before plain =
      map_gives is_some _ before (λ _. before) (λ _. before) (maybe_gives _ before (λ _. before) (λ _. before) (the_gives k before plain) refl (λ x. refl)) (λ a. refl)

  -- what is derived behind something else
  pub later_gives : {A : Type 0} (P : Derives A) (before : Slices) (value : A → Slices) → Gives place label c [] P value → Gives place label c before P (λ x. before ++ value x)
  unfolding Gives
  later_gives P before value p ts x us d = (let r = p ts x us d in record { labels = r.labels; is = ap (λ (z : Slices). before ++ z) r.is; goes = r.goes })

  -- ---- lists

  pub star_gives : {A : Type 0} (P : Derives (List A)) (value : A → Slices) → Gives place label c [] P (lists value) → Gives place label c [] (Star P) (lists value)
  unfolding Gives
  star_gives P value p ts xs us stop = record { labels = []; is = refl; goes = λ ys n at. at }
  star_gives P value p ts xs us (more {mid = mid} {x = x} {xs = zs} r s) =
      let a = p ts x mid r in
      let b = star_gives P value p mid zs us s in
      record {
        labels = a.labels ++ b.labels;
        is = ap (λ (z : Slices). z ++ b.labels) a.is ∙ ap (λ (z : Slices). lists value x ++ z) b.is ∙ sym (lists-append value x zs);
        goes = λ ys n at. subst (λ (z : Slices). At place label c z n ts) (sym (append_assoc a.labels b.labels ys)) (a.goes (b.labels ++ ys) n (b.goes ys n at));
      }

  pub one_gives : {A : Type 0} (P : Derives A) (value : A → Slices) → Gives place label c [] P value → Gives place label c [] (grammar.one P) (lists value)
  one_gives P value p = map_gives (λ x. x ∷ []) P [] value (lists value) p (λ a. sym (append-nil (value a)))

  -- ( k P )*
  pub each_gives : {A : Type 0} (k : Terminal) (P : Derives A) (value : A → Slices) → is_plain k ≡ true → Gives place label c [] P value → Gives place label c [] (grammar.EachBehind k P) (lists value)
  each_gives k P value plain p = star_gives _ value (one_gives _ value (behind_gives k P [] value plain p))

  -- a tree, and a list of such behind it
  pub first_gives : {A : Type 0} (P : Derives A) (Q : Derives (List A)) (value : A → Slices) → Gives place label c [] P value → Gives place label c [] Q (lists value)
      → Gives place label c [] (grammar.◌>>=◌ P (λ first. grammar.◌>>=◌ Q (λ others. grammar.pure (first ∷ others)))) (lists value)
  first_gives P Q value p others =
      then_gives P _ [] value (lists value) p
      (λ first. then_gives Q _ (value first) (λ xs. value first ++ lists value xs) (lists value) (later_gives Q (value first) (lists value) others) (λ xs. pure_gives (first ∷ xs) _ (lists value) refl))

  -- ---- trees without labels

  pub star_silent : {A : Type 0} (P : Derives (List A)) → Silent place label c P → Silent place label c (Star P)
  unfolding Gives
  star_silent P p ts xs us stop = record { labels = []; is = refl; goes = λ ys n at. at }
  star_silent P p ts xs us (more {mid = mid} {x = x} {xs = zs} r s) =
      let a = p ts x mid r in
      let b = star_silent P p mid zs us s in
      record {
        labels = a.labels ++ b.labels;
        is = ap (λ (z : Slices). z ++ b.labels) a.is ∙ b.is;
        goes = λ ys n at. subst (λ (z : Slices). At place label c z n ts) (sym (append_assoc a.labels b.labels ys)) (a.goes (b.labels ++ ys) n (b.goes ys n at));
      }

  pub one_silent : {A : Type 0} (P : Derives A) → Silent place label c P → Silent place label c (grammar.one P)
  one_silent P p = map_gives (λ x. x ∷ []) P [] (λ _. []) (λ _. []) p (λ a. refl)

  pub each_silent : {A : Type 0} (k : Terminal) (P : Derives A) → is_plain k ≡ true → Silent place label c P → Silent place label c (grammar.EachBehind k P)
  each_silent k P plain p = star_silent _ (one_silent _ (behind_gives k P [] (λ _. []) plain p))

  pub map_silent : {A B : Type 0} (f : A → B) (P : Derives A) → Silent place label c P → Silent place label c (grammar.◌<$>◌ f P)
  map_silent f P p = map_gives f P [] (λ _. []) (λ _. []) p (λ a. refl)

  pub then_silent : {A B : Type 0} (P : Derives A) (F : A → Derives B) → Silent place label c P → ((a : A) → Silent place label c (F a)) → Silent place label c (Then P F)
  then_silent P F p f = then_gives P F [] (λ _. []) (λ _. []) p f

  pub or_silent : {A : Type 0} (P Q : Derives A) → Silent place label c P → Silent place label c Q → Silent place label c (grammar.◌∣◌ P Q)
  or_silent P Q p q = or_gives P Q [] (λ _. []) p q

  pub pure_silent : {A : Type 0} (x : A) → Silent place label c (grammar.pure x)
  pure_silent x = pure_gives x [] (λ _. []) refl

  pub behind_silent : {A : Type 0} (k : Terminal) (P : Derives A) → is_plain k ≡ true → Silent place label c P → Silent place label c (grammar.◌>>◌ (grammar.the k) P)
  behind_silent k P plain p = behind_gives k P [] (λ _. []) plain p

  pub closed_silent : {A : Type 0} (k : Terminal) (x : A) → is_plain k ≡ true → Silent place label c (grammar.◌>>◌ (grammar.the k) (grammar.pure x))
  closed_silent k x plain = closed_gives k x [] (λ _. []) plain refl

  pub perhaps_silent : (k : Terminal) → is_plain k ≡ true → Silent place label c (grammar.◌<$>◌ is_some (grammar.maybe (grammar.the k)))
  perhaps_silent k plain = perhaps_gives k [] plain
