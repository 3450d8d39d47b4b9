-- What a grammar derives, and the names that its lexemes carry: a question asked of each name in a tree, and of each name among its lexemes.
use Rattle.std.proofs.Common.{◌≡◌, ◌∙◌, ap, refl, sym, Bool, true, false, ◌&&◌, List, [], ◌∷◌, ◌++◌, map, append_assoc, Option, Some, None, inl, inr, true≢false}
use Rattle.std.proofs.Math.Bool.{and_assoc}
use Rattle.std.proofs.lemmas.Bool.{and_parts, and_from}
use Rattle.std.specs.Prelude.{is_some}
use Rattle.std.specs.List.{list_all}
use Rattle.rdf_grammar.specs.Derivations as grammar
use Rattle.rdf_grammar.specs.Derivations.{Then, Star, stop, more}
use Rattle.rdf_grammar.specs.Holds.{holds}
use Rattle.rdf_grammar.specs.Productions as productions
use Rattle.rdf_grammar.specs.Terminals.{Slice}
use Rattle.rdf_grammar.specs.declared.tree.Name.{Name}
use Rattle.rdf_grammar.specs.declared.tree.Name.TheVariants.{Full}
use Rattle.rdf_grammar.specs.declared.word.Word.{Word}
use Rattle.rdf_grammar.specs.declared.word.Word.TheVariants as w
use Rattle.sparql_terminals.specs.declared.terminal.Terminal.{Terminal}
use Rattle.sparql_terminals.specs.declared.terminal.Terminal.TheVariants as terminal
use Rattle.sparql_terminals.specs.Lexemes.{Lexeme, Lexemes, Derives}
use Rattle.sparql_terminals.specs.Terminals.{word}
use Rattle.sparql_syntax.proofs.TripleQuestions.{Question}

-- a question that is asked of names, and of the words INSERT and DELETE
abbrev pub Ask : Type 0
Ask = Question

-- of names alone
abbrev pub of_names : (Name → Bool) → Ask
of_names n = record { name = n; variable = true; label = λ _. true; blank = true; literal = true; word = true }

-- the answer to each question
abbrev pub Value : Type 0
Value = Ask → Bool

-- ---- lexemes

-- what is answered of a lexeme's name or word; of another nothing is asked
abbrev pub names : Ask → Terminal → Slice → Bool
names q terminal.Iri text = q.name (Full text)
names q terminal.Pname text = q.name (productions.prefixed text)
names q terminal.Insert text = q.word
names q terminal.Delete text = q.word
names q _ text = true

-- of each name among the lexemes
abbrev pub all_named : Ask → Lexemes → Bool
all_named q [] = true
all_named q (t ∷ ts) = names q t.terminal t.text && all_named q ts

-- no word of a declaration
abbrev pub is_plain : Terminal → Bool
is_plain terminal.Base = false
is_plain terminal.Prefix = false
is_plain _ = true

abbrev pub all_plain : Lexemes → Bool
all_plain [] = true
all_plain (t ∷ ts) = is_plain t.terminal && all_plain ts

pub and_true : (b : Bool) → b && true ≡ b
and_true true = refl
and_true false = refl

pub all_named-append : (q : Ask) (f h : Lexemes) → all_named q (f ++ h) ≡ all_named q f && all_named q h
all_named-append q [] h = refl
all_named-append q (t ∷ f) h =
    ap (λ (b : Bool). names q t.terminal t.text && b) (all_named-append q f h) ∙ sym (and_assoc (names q t.terminal t.text) (all_named q f) (all_named q h))

all_plain-append : (f h : Lexemes) → all_plain f ≡ true → all_plain h ≡ true → all_plain (f ++ h) ≡ true
all_plain-append [] h a b = b
all_plain-append (t ∷ f) h a b =
    let parts = and_parts (is_plain t.terminal) (all_plain f) a in
    and_from (is_plain t.terminal) (all_plain (f ++ h)) parts.0 (all_plain-append f h parts.1 b)

-- ---- what is derived

-- the answers before the lexemes, and behind them
pub record Adds (before after : Value) (f : Lexemes) : Type 0 where
  pub plain : all_plain f ≡ true
  pub says : (q : Ask) → before q && all_named q f ≡ after q

pub both_add : (before mid after : Value) (f h : Lexemes) → Adds before mid f → Adds mid after h → Adds before after (f ++ h)
both_add before mid after f h a b = record {
  plain = all_plain-append f h a.plain b.plain;
  says = λ q. ap (λ (c : Bool). before q && c) (all_named-append q f h) ∙ sym (and_assoc (before q) (all_named q f) (all_named q h))
      ∙ ap (λ (c : Bool). c && all_named q h) (a.says q) ∙ b.says q;
}

-- the lexemes of a tree, before the rest
pub record Front {A : Type 0} (before : Value) (after : A → Value) (ts : Lexemes) (x : A) (us : Lexemes) : Type 0 where
  pub front : Lexemes
  pub is : ts ≡ front ++ us
  pub adds : Adds before (after x) front

unfoldable pub Gives : {A : Type 0} → Value → Derives A → (A → Value) → Type 0
Gives {A} before P after = (ts : Lexemes) (x : A) (us : Lexemes) → P ts x us → Front before after ts x us

-- nothing is asked yet
abbrev pub start : Value
start q = true

pub then_gives : {A B : Type 0} (P : Derives A) (F : A → Derives B) (before : Value) (mid : A → Value) (after : B → Value) → Gives before P mid → ((a : A) → Gives (mid a) (F a) after)
    → Gives before (Then P F) after
unfolding Gives
then_gives P F before mid after p f ts x us d =
    let r = p ts d.first d.mid d.reads in
    let s = f d.first d.mid x us d.goes in
    record {
      front = r.front ++ s.front;
      is = r.is ∙ ap (λ (z : Lexemes). r.front ++ z) s.is ∙ sym (append_assoc r.front s.front us);
      adds = both_add before (mid d.first) (after x) r.front s.front r.adds s.adds;
    }

pub pure_gives : {A : Type 0} (a : A) (before : Value) (after : A → Value) → ((q : Ask) → before q ≡ after a q) → Gives before (grammar.pure a) after
unfolding Gives
pure_gives a before after h ts x us d = record {
  front = [];
  is = d.1;
  adds = record { plain = refl; says = λ q. and_true (before q) ∙ h q ∙ ap (λ y. after y q) d.0 };
}

pub or_gives : {A : Type 0} (P Q : Derives A) (before : Value) (after : A → Value) → Gives before P after → Gives before Q after → Gives before (grammar.◌∣◌ P Q) after
unfolding Gives
or_gives P Q before after p q ts x us (inl d) = p ts x us d
or_gives P Q before after p q ts x us (inr d) = q ts x us d

-- a terminal that is no name, and no word of a declaration
abbrev pub Sign : Terminal → Type 0
Sign k = (is_plain k ≡ true) × ((q : Ask) (text : Slice) → names q k text ≡ true)

pub one_sign : (t : Lexeme) (k : Terminal) (before : Value) → Sign k → t.terminal ≡ k → Adds before before (t ∷ [])
one_sign t k before sign is = record {
  plain = ap (λ (j : Terminal). is_plain j && true) is ∙ ap (λ (b : Bool). b && true) sign.0;
  says = λ q. ap (λ (j : Terminal). before q && (names q j t.text && true)) is ∙ ap (λ (b : Bool). before q && (b && true)) (sign.1 q t.text) ∙ and_true (before q);
}

pub the_gives : (k : Terminal) (before : Value) → Sign k → Gives before (grammar.the k) (λ _. before)
unfolding Gives
the_gives k before sign ts x us d = record { front = d.0 ∷ []; is = d.2; adds = one_sign d.0 k before sign d.1 }

pub sign_gives : (k : Terminal) (before : Value) → Sign k → Gives before (grammar.value k) (λ _. before)
unfolding Gives
sign_gives k before sign ts x us d = record { front = d.0 ∷ []; is = d.3; adds = one_sign d.0 k before sign d.1 }

-- the name of a lexeme
pub name_gives : (k : Terminal) → is_plain k ≡ true → Gives start (grammar.value k) (λ text q. names q k text)
unfolding Gives
name_gives k plain ts x us d = record {
  front = d.0 ∷ [];
  is = d.3;
  adds = record {
    plain = ap (λ (j : Terminal). is_plain j && true) d.1 ∙ ap (λ (b : Bool). b && true) plain;
    says = λ q. and_true (names q d.0.terminal d.0.text) ∙ ap (λ (j : Terminal). names q j d.0.text) d.1 ∙ ap (λ (s : Slice). names q k s) d.2;
  };
}

pub map_gives : {A B : Type 0} (f : A → B) (P : Derives A) (before : Value) (mid : A → Value) (after : B → Value) → Gives before P mid → ((a : A) (q : Ask) → mid a q ≡ after (f a) q)
    → Gives before (grammar.◌<$>◌ f P) after
map_gives f P before mid after p h = then_gives P _ before mid after p (λ a. pure_gives (f a) (mid a) after (h a))

pub behind_gives : {A : Type 0} (k : Terminal) (P : Derives A) (before : Value) (after : A → Value) → Sign k → Gives before P after → Gives before (grammar.◌>>◌ (grammar.the k) P) after
behind_gives k P before after sign p = then_gives (grammar.the k) _ before (λ _. before) after (the_gives k before sign) (λ _. p)

-- a word that begins a clause, and a tree behind it
opens_gives : (k : Terminal) → is_plain k ≡ true → ((q : Ask) (text : Slice) → names q k text ≡ q.word) → Gives start (grammar.the k) (λ _ q. q.word)
unfolding Gives
opens_gives k plain is ts x us d = record {
  front = d.0 ∷ [];
  is = d.2;
  adds = record {
    plain = ap (λ (j : Terminal). is_plain j && true) d.1 ∙ ap (λ (b : Bool). b && true) plain;
    says = λ q. and_true (names q d.0.terminal d.0.text) ∙ ap (λ (j : Terminal). names q j d.0.text) d.1 ∙ is q d.0.text;
  };
}

pub opening_gives : {A : Type 0} (k : Terminal) (P : Derives A) (after : A → Value) → is_plain k ≡ true → ((q : Ask) (text : Slice) → names q k text ≡ q.word) → Gives (λ q. q.word) P after → Gives start (grammar.◌>>◌ (grammar.the k) P) after
opening_gives k P after plain is p = then_gives (grammar.the k) _ start (λ _ q. q.word) after (opens_gives k plain is) (λ _. p)

-- a lexeme, and a tree behind it
pub closed_gives : {A : Type 0} (k : Terminal) (x : A) (before : Value) (after : A → Value) → Sign k → ((q : Ask) → before q ≡ after x q)
    → Gives before (grammar.◌>>◌ (grammar.the k) (grammar.pure x)) after
closed_gives k x before after sign h = behind_gives k _ before after sign (pure_gives x before after h)

-- the same answers
pub same_gives : {A : Type 0} (P : Derives A) (before : Value) (after other : A → Value) → Gives before P after → ((x : A) (q : Ask) → after x q ≡ other x q) → Gives before P other
unfolding Gives
same_gives P before after other p h ts x us d =
    let r = p ts x us d in
    record { front = r.front; is = r.is; adds = record { plain = r.adds.plain; says = λ q. r.adds.says q ∙ h x q } }

pub maybe_gives : {A : Type 0} (P : Derives A) (before : Value) (mid : A → Value) (after : Option A → Value) → Gives before P mid → ((q : Ask) → before q ≡ after None q)
    → ((x : A) (q : Ask) → mid x q ≡ after (Some x) q) → Gives before (grammar.maybe P) after
unfolding Gives
maybe_gives P before mid after p none some ts None us d = record { front = []; is = d; adds = record { plain = refl; says = λ q. and_true (before q) ∙ none q } }
maybe_gives P before mid after p none some ts (Some x) us d =
    let r = p ts x us d in
    record { front = r.front; is = r.is; adds = record { plain = r.adds.plain; says = λ q. r.adds.says q ∙ some x q } }

pub perhaps_gives : (k : Terminal) (before : Value) → Sign k → Gives before (grammar.◌<$>◌ is_some (grammar.maybe (grammar.the k))) (λ _. before)
perhaps_gives k before sign =
    map_gives is_some _ before (λ _. before) (λ _. before) (maybe_gives _ before (λ _. before) (λ _. before) (the_gives k before sign) (λ q. refl) (λ x q. refl)) (λ a q. refl)

-- what is derived behind something else
pub later_gives : {A : Type 0} (P : Derives A) (before : Value) (value : A → Value) → Gives start P value → Gives before P (λ x q. before q && value x q)
unfolding Gives
later_gives P before value p ts x us d =
    let r = p ts x us d in
    record { front = r.front; is = r.is; adds = record { plain = r.adds.plain; says = λ q. ap (λ (b : Bool). before q && b) (r.adds.says q) } }

-- ---- lists

-- of each member
abbrev pub lists : {A : Type 0} → (A → Value) → List A → Value
lists value xs q = list_all holds (map (λ x. value x q) xs)

pub lists-append : {A : Type 0} (value : A → Value) (xs ys : List A) (q : Ask) → lists value (xs ++ ys) q ≡ lists value xs q && lists value ys q
lists-append value [] ys q = refl
lists-append value (x ∷ xs) ys q =
    ap (λ (b : Bool). value x q && b) (lists-append value xs ys q) ∙ sym (and_assoc (value x q) (lists value xs q) (lists value ys q))

both_lists : {A : Type 0} (value : A → Value) (xs ys : List A) (f h : Lexemes) → Adds start (lists value xs) f → Adds start (lists value ys) h → Adds start (lists value (xs ++ ys)) (f ++ h)
both_lists value xs ys f h a b = record {
  plain = all_plain-append f h a.plain b.plain;
  says = λ q. all_named-append q f h ∙ ap (λ (c : Bool). c && all_named q h) (a.says q) ∙ ap (λ (c : Bool). lists value xs q && c) (b.says q) ∙ sym (lists-append value xs ys q);
}

pub star_gives : {A : Type 0} (P : Derives (List A)) (value : A → Value) → Gives start P (lists value) → Gives start (Star P) (lists value)
unfolding Gives
star_gives P value p ts xs us stop = record { front = []; is = refl; adds = record { plain = refl; says = λ q. refl } }
star_gives P value p ts xs us (more {mid = mid} {x = x} {xs = ys} r s) =
    let a = p ts x mid r in
    let b = star_gives P value p mid ys us s in
    record {
      front = a.front ++ b.front;
      is = a.is ∙ ap (λ (z : Lexemes). a.front ++ z) b.is ∙ sym (append_assoc a.front b.front us);
      adds = both_lists value x ys a.front b.front a.adds b.adds;
    }

pub one_gives : {A : Type 0} (P : Derives A) (value : A → Value) → Gives start P value → Gives start (grammar.one P) (lists value)
one_gives P value p = map_gives (λ x. x ∷ []) P start value (lists value) p (λ a q. sym (and_true (value a q)))

-- ( k P )*
pub each_gives : {A : Type 0} (k : Terminal) (P : Derives A) (value : A → Value) → Sign k → Gives start P value → Gives start (grammar.EachBehind k P) (lists value)
each_gives k P value sign p = star_gives _ value (one_gives _ value (behind_gives k P start value sign p))

-- a tree, and a list of such behind it
pub first_gives : {A : Type 0} (P : Derives A) (Q : Derives (List A)) (value : A → Value) → Gives start P value → Gives start Q (lists value)
    → Gives start (grammar.◌>>=◌ P (λ first. grammar.◌>>=◌ Q (λ others. grammar.pure (first ∷ others)))) (lists value)
first_gives P Q value p others =
    then_gives P _ start value (lists value) p
    (λ first. then_gives Q _ (value first) (λ xs q. value first q && lists value xs q) (lists value) (later_gives Q (value first) (lists value) others) (λ xs. pure_gives (first ∷ xs) _ (lists value) (λ q. refl)))

-- ---- words

abbrev pub is_name : Word → Bool
is_name w.Iri = true
is_name w.Pname = true
is_name _ = false

word_sign : (j : Terminal) (k : Word) → word j ≡ Some k → is_name k ≡ false → Sign j
word_sign terminal.Iri k e h = absurd (true≢false (ap (λ (o : Option Word). by o) e ∙ h))
  where
    by : Option Word → Bool
    by None = true
    by (Some x) = is_name x
word_sign terminal.Pname k e h = absurd (true≢false (ap (λ (o : Option Word). by o) e ∙ h))
  where
    by : Option Word → Bool
    by None = true
    by (Some x) = is_name x
word_sign terminal.Base k e h = absurd (cc)
word_sign terminal.Insert k e h = absurd (cc)
word_sign terminal.Delete k e h = absurd (cc)
word_sign terminal.Prefix k e h = absurd (cc)
word_sign _ k e h = (refl, λ q text. refl)

pub word_gives : (k : Word) (before : Value) → is_name k ≡ false → Gives before (productions.value word k) (λ _. before)
unfolding Gives
word_gives k before none ts x us d = record { front = d.0 ∷ []; is = d.3; adds = one_sign d.0 d.0.terminal before (word_sign d.0.terminal k d.1 none) refl }

pub the_word_gives : (k : Word) (before : Value) → is_name k ≡ false → Gives before (productions.the word k) (λ _. before)
unfolding Gives
the_word_gives k before none ts x us d = record { front = d.0 ∷ []; is = d.2; adds = one_sign d.0 d.0.terminal before (word_sign d.0.terminal k d.1 none) refl }

pub iri_only : (j : Terminal) → word j ≡ Some w.Iri → j ≡ terminal.Iri
iri_only terminal.Iri h = refl
iri_only _ h = absurd (cc)

pub pname_only : (j : Terminal) → word j ≡ Some w.Pname → j ≡ terminal.Pname
pname_only terminal.Pname h = refl
pname_only _ h = absurd (cc)

by_gives : {A : Type 0} (P Q : Derives A) (before : Value) (after : A → Value) → ((ts : Lexemes) (x : A) (us : Lexemes) → P ts x us → Q ts x us) → Gives before Q after → Gives before P after
unfolding Gives
by_gives P Q before after there q ts x us d = q ts x us (there ts x us d)

pub reference_gives : Gives start (productions.value word w.Iri) (λ text q. q.name (Full text))
reference_gives = by_gives _ (grammar.value terminal.Iri) start _ (λ ts x us d. (d.0, iri_only d.0.terminal d.1, d.2, d.3)) (name_gives terminal.Iri refl)

pub pname_gives : Gives start (productions.value word w.Pname) (λ text q. q.name (productions.prefixed text))
pname_gives = by_gives _ (grammar.value terminal.Pname) start _ (λ ts x us d. (d.0, pname_only d.0.terminal d.1, d.2, d.3)) (name_gives terminal.Pname refl)
