-- What a grammar derives, and what is asked of its lexemes: of a literal where a subject may stand, of `(` by the lexeme behind it.
use Rattle.std.proofs.Common.{◌≡◌, ◌∙◌, ap, refl, sym, Bool, true, false, ◌&&◌, ◌||◌, not, List, [], ◌∷◌, ◌++◌, map, append_assoc, Option, Some, None, inl, inr, true≢false}
use Rattle.std.proofs.Math.Bool.{and_assoc}
use Rattle.std.specs.List.{list_all}
use Rattle.rdf_grammar.specs.Derivations as grammar
use Rattle.rdf_grammar.specs.Derivations.{Then, Star, stop, more}
use Rattle.rdf_grammar.specs.Holds.{holds}
use Rattle.rdf_grammar.specs.Productions as productions
use Rattle.rdf_grammar.specs.Terminals.{Slice, next_terminal}
use Rattle.rdf_grammar.specs.declared.tree.Name.TheVariants.{Full}
use Rattle.rdf_grammar.specs.declared.word.Word.{Word}
use Rattle.rdf_grammar.specs.declared.word.Word.TheVariants as w
use Rattle.sparql_terminals.specs.declared.terminal.Terminal.{Terminal}
use Rattle.sparql_terminals.specs.declared.terminal.Terminal.TheVariants as terminal
use Rattle.sparql_terminals.specs.Lexemes.{Lexeme, Lexemes, Derives}
use Rattle.sparql_terminals.specs.Terminals.{word}
use Rattle.sparql_syntax.specs.BrokenRules.{subject_behind}
use Rattle.sparql_syntax.proofs.NameFronts.{and_true}
use Rattle.sparql_syntax.proofs.TripleQuestions.{Question}

-- the answer to each question
abbrev pub Value : Type 0
Value = Question → Bool

-- nothing is asked yet
abbrev pub start : Value
start q = true

-- ---- lexemes

-- a list that goes on isn't empty
abbrev pub opened : Bool → Option Terminal → Bool
opened b (Some terminal.Close) = true
opened b _ = b

-- where a subject may stand or not, with the next terminal behind it
abbrev pub asked : Question → Bool → Terminal → Slice → Option Terminal → Bool
asked q s terminal.Iri text next = q.name (Full text)
asked q s terminal.Pname text next = q.name (productions.prefixed text)
asked q s terminal.Variable text next = q.variable
asked q s terminal.BlankLabel text next = q.label text
asked q s terminal.OpenBracket text next = q.blank
asked q s terminal.Open text next = opened q.blank next
asked q s terminal.Text text next = q.literal || not s
asked q s terminal.Integer text next = q.literal || not s
asked q s terminal.Decimal text next = q.literal || not s
asked q s terminal.Double text next = q.literal || not s
asked q s terminal.SignedInteger text next = q.literal || not s
asked q s terminal.SignedDecimal text next = q.literal || not s
asked q s terminal.SignedDouble text next = q.literal || not s
asked q s terminal.True text next = q.literal || not s
asked q s terminal.False text next = q.literal || not s
asked q s terminal.Base text next = q.word
asked q s terminal.Prefix text next = q.word
asked q s terminal.Insert text next = q.word
asked q s terminal.Delete text next = q.word
asked q s terminal.Data text next = q.word
asked q s terminal.Where text next = q.word
asked q s _ text next = true

-- of lexemes with others behind them
abbrev pub asks_front : Question → Bool → Lexemes → Lexemes → Bool
asks_front q s [] us = true
asks_front q s (t ∷ f) us = asked q s t.terminal t.text (next_terminal (f ++ us)) && asks_front q (subject_behind t.terminal) f us

-- whether a subject may stand behind them
abbrev pub flag : Bool → Lexemes → Bool
flag s [] = s
flag s (t ∷ f) = flag (subject_behind t.terminal) f

flag-append : (s : Bool) (f g : Lexemes) → flag s (f ++ g) ≡ flag (flag s f) g
flag-append s [] g = refl
flag-append s (t ∷ f) g = flag-append (subject_behind t.terminal) f g

asks-append : (q : Question) (s : Bool) (f g us : Lexemes) → asks_front q s (f ++ g) us ≡ asks_front q s f (g ++ us) && asks_front q (flag s f) g us
asks-append q s [] g us = refl
asks-append q s (t ∷ f) g us =
    ap (λ (z : Lexemes). asked q s t.terminal t.text (next_terminal z) && asks_front q (subject_behind t.terminal) (f ++ g) us) (append_assoc f g us)
    ∙ ap (λ (b : Bool). asked q s t.terminal t.text (next_terminal (f ++ (g ++ us))) && b) (asks-append q (subject_behind t.terminal) f g us)
    ∙ sym (and_assoc (asked q s t.terminal t.text (next_terminal (f ++ (g ++ us)))) (asks_front q (subject_behind t.terminal) f (g ++ us)) (asks_front q (flag (subject_behind t.terminal) f) g us))

-- ---- what is derived

-- the answers before the lexemes of a tree, and behind them
pub record Front {A : Type 0} (s e : Bool) (before : Value) (after : A → Value) (ts : Lexemes) (x : A) (us : Lexemes) : Type 0 where
  pub front : Lexemes
  pub is : ts ≡ front ++ us
  pub ends : flag s front ≡ e
  pub says : (q : Question) → before q && asks_front q s front us ≡ after x q

pub then_front : {A B : Type 0} (s m e : Bool) (before : Value) (mid : A → Value) (after : B → Value) (ts ms us : Lexemes) (a : A) (x : B) → Front s m before mid ts a ms → Front m e (mid a) after ms x us
    → Front s e before after ts x us
then_front s m e before mid after ts ms us a x r t = record {
  front = r.front ++ t.front;
  is = r.is ∙ ap (λ (z : Lexemes). r.front ++ z) t.is ∙ sym (append_assoc r.front t.front us);
  ends = flag-append s r.front t.front ∙ ap (λ (b : Bool). flag b t.front) r.ends ∙ t.ends;
  says = λ q. ap (λ (b : Bool). before q && b) (asks-append q s r.front t.front us)
      ∙ ap (λ (z : Lexemes). before q && (asks_front q s r.front z && asks_front q (flag s r.front) t.front us)) (sym t.is)
      ∙ ap (λ (b : Bool). before q && (asks_front q s r.front ms && asks_front q b t.front us)) r.ends
      ∙ sym (and_assoc (before q) (asks_front q s r.front ms) (asks_front q m t.front us)) ∙ ap (λ (b : Bool). b && asks_front q m t.front us) (r.says q) ∙ t.says q;
}

pub lexeme_front : {A : Type 0} (s e : Bool) (k : Terminal) (before : Value) (after : A → Value) (t : Lexeme) (ts us : Lexemes) (x : A) → subject_behind k ≡ e → t.terminal ≡ k → ts ≡ t ∷ us
    → ((q : Question) → before q && asked q s k t.text (next_terminal us) ≡ after x q) → Front s e before after ts x us
lexeme_front s e k before after t ts us x behind is at says = record {
  front = t ∷ [];
  is = at;
  ends = ap subject_behind is ∙ behind;
  says = λ q. ap (λ (j : Terminal). before q && (asked q s j t.text (next_terminal us) && true)) is ∙ ap (λ (b : Bool). before q && b) (and_true (asked q s k t.text (next_terminal us))) ∙ says q;
}

pub empty_front : {A : Type 0} (s : Bool) (before : Value) (after : A → Value) (ts us : Lexemes) (x : A) → ts ≡ us → ((q : Question) → before q ≡ after x q) → Front s s before after ts x us
empty_front s before after ts us x at h = record { front = []; is = at; ends = refl; says = λ q. and_true (before q) ∙ h q }

-- From where a subject may stand or not to where one may or not, and to where either is so.
unfoldable pub Gives : {A : Type 0} → Bool → Bool → Value → Derives A → (A → Value) → Type 0
Gives {A} s e before P after = (ts : Lexemes) (x : A) (us : Lexemes) → P ts x us → Front s e before after ts x us

unfoldable pub Ends : {A : Type 0} → Bool → Value → Derives A → (A → Value) → Type 0
Ends {A} s before P after = (ts : Lexemes) (x : A) (us : Lexemes) → P ts x us → (e : Bool) × Front s e before after ts x us

pub then_gives : {A B : Type 0} (s m e : Bool) (P : Derives A) (F : A → Derives B) (before : Value) (mid : A → Value) (after : B → Value) → Gives s m before P mid → ((a : A) → Gives m e (mid a) (F a) after)
    → Gives s e before (Then P F) after
unfolding Gives
then_gives s m e P F before mid after p f ts x us d = then_front s m e before mid after ts d.mid us d.first x (p ts d.first d.mid d.reads) (f d.first d.mid x us d.goes)

pub then_ends : {A B : Type 0} (s m : Bool) (P : Derives A) (F : A → Derives B) (before : Value) (mid : A → Value) (after : B → Value) → Gives s m before P mid → ((a : A) → Ends m (mid a) (F a) after)
    → Ends s before (Then P F) after
unfolding Gives Ends
then_ends s m P F before mid after p f ts x us d = (let r = f d.first d.mid x us d.goes in (r.0, then_front s m r.0 before mid after ts d.mid us d.first x (p ts d.first d.mid d.reads) r.1))

pub any_gives : {A B : Type 0} (s e : Bool) (P : Derives A) (F : A → Derives B) (before : Value) (mid : A → Value) (after : B → Value) → Ends s before P mid → ((a : A) (m : Bool) → Gives m e (mid a) (F a) after)
    → Gives s e before (Then P F) after
unfolding Gives Ends
any_gives s e P F before mid after p f ts x us d = (let r = p ts d.first d.mid d.reads in then_front s r.0 e before mid after ts d.mid us d.first x r.1 (f d.first r.0 d.mid x us d.goes))

pub any_ends : {A B : Type 0} (s : Bool) (P : Derives A) (F : A → Derives B) (before : Value) (mid : A → Value) (after : B → Value) → Ends s before P mid → ((a : A) (m : Bool) → Ends m (mid a) (F a) after)
    → Ends s before (Then P F) after
unfolding Ends
any_ends s P F before mid after p f ts x us d =
    let r = p ts d.first d.mid d.reads in
    let u = f d.first r.0 d.mid x us d.goes in
    (u.0, then_front s r.0 u.0 before mid after ts d.mid us d.first x r.1 u.1)

pub pure_gives : {A : Type 0} (s : Bool) (a : A) (before : Value) (after : A → Value) → ((q : Question) → before q ≡ after a q) → Gives s s before (grammar.pure a) after
unfolding Gives
pure_gives s a before after h ts x us d = empty_front s before after ts us x d.1 (λ q. h q ∙ ap (λ y. after y q) d.0)

pub pure_ends : {A : Type 0} (s : Bool) (a : A) (before : Value) (after : A → Value) → ((q : Question) → before q ≡ after a q) → Ends s before (grammar.pure a) after
unfolding Ends
pure_ends s a before after h ts x us d = (s, empty_front s before after ts us x d.1 (λ q. h q ∙ ap (λ y. after y q) d.0))

pub or_gives : {A : Type 0} (s e : Bool) (P Q : Derives A) (before : Value) (after : A → Value) → Gives s e before P after → Gives s e before Q after → Gives s e before (grammar.◌∣◌ P Q) after
unfolding Gives
or_gives s e P Q before after p q ts x us (inl d) = p ts x us d
or_gives s e P Q before after p q ts x us (inr d) = q ts x us d

pub map_gives : {A B : Type 0} (s e : Bool) (f : A → B) (P : Derives A) (before : Value) (mid : A → Value) (after : B → Value) → Gives s e before P mid → ((a : A) (q : Question) → mid a q ≡ after (f a) q)
    → Gives s e before (grammar.◌<$>◌ f P) after
map_gives s e f P before mid after p h = then_gives s e e P _ before mid after p (λ a. pure_gives e (f a) (mid a) after (h a))

pub map_ends : {A B : Type 0} (s : Bool) (f : A → B) (P : Derives A) (before : Value) (mid : A → Value) (after : B → Value) → Ends s before P mid → ((a : A) (q : Question) → mid a q ≡ after (f a) q)
    → Ends s before (grammar.◌<$>◌ f P) after
map_ends s f P before mid after p h = any_ends s P _ before mid after p (λ a m. pure_ends m (f a) (mid a) after (h a))

-- a terminal of which nothing is asked
abbrev pub Sign : Terminal → Type 0
Sign k = (q : Question) (s : Bool) (text : Slice) (next : Option Terminal) → asked q s k text next ≡ true

pub the_gives : (s e : Bool) (k : Terminal) (before : Value) → subject_behind k ≡ e → Sign k → Gives s e before (grammar.the k) (λ _. before)
unfolding Gives
the_gives s e k before behind sign ts x us d = lexeme_front s e k before (λ _. before) d.0 ts us x behind d.1 d.2 (λ q. ap (λ (b : Bool). before q && b) (sign q s d.0.text (next_terminal us)) ∙ and_true (before q))

pub value_gives : (s e : Bool) (k : Terminal) (own : Slice → Value) → subject_behind k ≡ e → ((q : Question) (text : Slice) (next : Option Terminal) → asked q s k text next ≡ own text q) → Gives s e start (grammar.value k) own
unfolding Gives
value_gives s e k own behind says ts x us d = lexeme_front s e k start own d.0 ts us x behind d.1 d.3 (λ q. says q d.0.text (next_terminal us) ∙ ap (λ (z : Slice). own z q) d.2)

pub behind_gives : {A : Type 0} (s m e : Bool) (k : Terminal) (P : Derives A) (before : Value) (after : A → Value) → subject_behind k ≡ m → Sign k → Gives m e before P after → Gives s e before (grammar.◌>>◌ (grammar.the k) P) after
behind_gives s m e k P before after behind sign p = then_gives s m e (grammar.the k) _ before (λ _. before) after (the_gives s m k before behind sign) (λ _. p)

pub closed_gives : {A : Type 0} (s e : Bool) (k : Terminal) (x : A) (before : Value) (after : A → Value) → subject_behind k ≡ e → Sign k → ((q : Question) → before q ≡ after x q)
    → Gives s e before (grammar.◌>>◌ (grammar.the k) (grammar.pure x)) after
closed_gives s e k x before after behind sign h = behind_gives s e e k _ before after behind sign (pure_gives e x before after h)

pub maybe_gives : {A : Type 0} (s : Bool) (P : Derives A) (before : Value) (mid : A → Value) (after : Option A → Value) → Gives s s before P mid → ((q : Question) → before q ≡ after None q)
    → ((x : A) (q : Question) → mid x q ≡ after (Some x) q) → Gives s s before (grammar.maybe P) after
unfolding Gives
maybe_gives s P before mid after p none some ts None us d = empty_front s before after ts us None d none
maybe_gives s P before mid after p none some ts (Some x) us d = (let r = p ts x us d in record { front = r.front; is = r.is; ends = r.ends; says = λ q. r.says q ∙ some x q })

pub maybe_ends : {A : Type 0} (s : Bool) (P : Derives A) (before : Value) (mid : A → Value) (after : Option A → Value) → Ends s before P mid → ((q : Question) → before q ≡ after None q)
    → ((x : A) (q : Question) → mid x q ≡ after (Some x) q) → Ends s before (grammar.maybe P) after
unfolding Ends
maybe_ends s P before mid after p none some ts None us d = (s, empty_front s before after ts us None d none)
maybe_ends s P before mid after p none some ts (Some x) us d = (let r = p ts x us d in (r.0, record { front = r.1.front; is = r.1.is; ends = r.1.ends; says = λ q. r.1.says q ∙ some x q }))

pub ends_there : {A : Type 0} (s e : Bool) (P : Derives A) (before : Value) (after : A → Value) → Gives s e before P after → Ends s before P after
unfolding Gives Ends
ends_there s e P before after p ts x us d = (e, p ts x us d)

-- what is derived behind something else
later_front : {A : Type 0} (s e : Bool) (before : Value) (value : A → Value) (ts : Lexemes) (x : A) (us : Lexemes) → Front s e start value ts x us → Front s e before (λ y q. before q && value y q) ts x us
later_front s e before value ts x us r = record { front = r.front; is = r.is; ends = r.ends; says = λ q. ap (λ (b : Bool). before q && b) (r.says q) }

pub later_gives : {A : Type 0} (s e : Bool) (P : Derives A) (before : Value) (value : A → Value) → Gives s e start P value → Gives s e before P (λ x q. before q && value x q)
unfolding Gives
later_gives s e P before value p ts x us d = later_front s e before value ts x us (p ts x us d)

pub later_ends : {A : Type 0} (s : Bool) (P : Derives A) (before : Value) (value : A → Value) → Ends s start P value → Ends s before P (λ x q. before q && value x q)
unfolding Ends
later_ends s P before value p ts x us d = (let r = p ts x us d in (r.0, later_front s r.0 before value ts x us r.1))

-- ---- lists

-- of each member
abbrev pub lists : {A : Type 0} → (A → Value) → List A → Value
lists value xs q = list_all holds (map (λ x. value x q) xs)

pub lists-append : {A : Type 0} (value : A → Value) (xs ys : List A) (q : Question) → lists value (xs ++ ys) q ≡ lists value xs q && lists value ys q
lists-append value [] ys q = refl
lists-append value (x ∷ xs) ys q = ap (λ (b : Bool). value x q && b) (lists-append value xs ys q) ∙ sym (and_assoc (value x q) (lists value xs q) (lists value ys q))

both_front : {A : Type 0} (s m e : Bool) (value : A → Value) (ts ms us : Lexemes) (xs ys : List A) → Front s m start (lists value) ts xs ms → Front m e start (lists value) ms ys us → Front s e start (lists value) ts (xs ++ ys) us
both_front s m e value ts ms us xs ys r t = (
    let u = later_front m e (lists value xs) (lists value) ms ys us t in
    then_front s m e start (lists value) (lists value) ts ms us xs (xs ++ ys) r (record { front = u.front; is = u.is; ends = u.ends; says = λ q. u.says q ∙ sym (lists-append value xs ys q) })
    )

pub star_gives : {A : Type 0} (s : Bool) (P : Derives (List A)) (value : A → Value) → Gives s s start P (lists value) → Gives s s start (Star P) (lists value)
unfolding Gives
star_gives s P value p ts xs us stop = empty_front s start (lists value) ts ts [] refl (λ q. refl)
star_gives s P value p ts xs us (more {mid = mid} {x = x} {xs = ys} r t) = both_front s s s value ts mid us x ys (p ts x mid r) (star_gives s P value p mid ys us t)

pub star_ends : {A : Type 0} (P : Derives (List A)) (value : A → Value) → ((s : Bool) → Ends s start P (lists value)) → (s : Bool) → Ends s start (Star P) (lists value)
unfolding Ends
star_ends P value p s ts xs us stop = (s, empty_front s start (lists value) ts ts [] refl (λ q. refl))
star_ends P value p s ts xs us (more {mid = mid} {x = x} {xs = ys} r t) =
    let a = p s ts x mid r in
    let b = star_ends P value p a.0 mid ys us t in
    (b.0, both_front s a.0 b.0 value ts mid us x ys a.1 b.1)

pub one_gives : {A : Type 0} (s e : Bool) (P : Derives A) (value : A → Value) → Gives s e start P value → Gives s e start (grammar.one P) (lists value)
one_gives s e P value p = map_gives s e (λ x. x ∷ []) P start value (lists value) p (λ a q. sym (and_true (value a q)))

-- a tree, and a list of such behind it
pub first_gives : {A : Type 0} (s e : Bool) (P : Derives A) (Q : Derives (List A)) (value : A → Value) → Gives s e start P value → Gives e e start Q (lists value)
    → Gives s e start (grammar.◌>>=◌ P (λ first. grammar.◌>>=◌ Q (λ others. grammar.pure (first ∷ others)))) (lists value)
first_gives s e P Q value p others =
    then_gives s e e P _ start value (lists value) p
    (λ first. then_gives e e e Q _ (value first) (λ xs q. value first q && lists value xs q) (lists value) (later_gives e e Q (value first) (lists value) others) (λ xs. pure_gives e (first ∷ xs) _ (lists value) (λ q. refl)))

-- ---- words

abbrev pub is_literal_word : Word → Bool
is_literal_word w.Text = true
is_literal_word w.Integer = true
is_literal_word w.Decimal = true
is_literal_word w.Double = true
is_literal_word w.True = true
is_literal_word w.False = true
is_literal_word _ = false

abbrev pub is_sign_word : Word → Bool
is_sign_word w.Tag = true
is_sign_word w.Caret = true
is_sign_word _ = false

literal_asked : (q : Question) (s : Bool) (text : Slice) (next : Option Terminal) (j : Terminal) (k : Word) → word j ≡ Some k → is_literal_word k ≡ true → asked q s j text next ≡ (q.literal || not s)
literal_asked q s text next terminal.Text k e h = refl
literal_asked q s text next terminal.Integer k e h = refl
literal_asked q s text next terminal.Decimal k e h = refl
literal_asked q s text next terminal.Double k e h = refl
literal_asked q s text next terminal.SignedInteger k e h = refl
literal_asked q s text next terminal.SignedDecimal k e h = refl
literal_asked q s text next terminal.SignedDouble k e h = refl
literal_asked q s text next terminal.True k e h = refl
literal_asked q s text next terminal.False k e h = refl
literal_asked q s text next _ k e h = absurd (true≢false (sym h ∙ sym (ap (λ (o : Option Word). by o) e)))
  where
    by : Option Word → Bool
    by None = false
    by (Some x) = is_literal_word x

sign_asked : (q : Question) (s : Bool) (text : Slice) (next : Option Terminal) (j : Terminal) (k : Word) → word j ≡ Some k → is_sign_word k ≡ true → asked q s j text next ≡ true
sign_asked q s text next terminal.AtWord k e h = refl
sign_asked q s text next terminal.Caret k e h = refl
sign_asked q s text next _ k e h = absurd (true≢false (sym h ∙ sym (ap (λ (o : Option Word). by o) e)))
  where
    by : Option Word → Bool
    by None = false
    by (Some x) = is_sign_word x

word_ends : (j : Terminal) (k : Word) → word j ≡ Some k → subject_behind j ≡ false
word_ends terminal.OpenBrace k e = absurd (cc)
word_ends terminal.CloseBrace k e = absurd (cc)
word_ends terminal.Dot k e = absurd (cc)
word_ends _ k e = refl

pub word_gives : (s : Bool) (k : Word) (own : Slice → Value) → ((j : Terminal) → word j ≡ Some k → (q : Question) (text : Slice) (next : Option Terminal) → asked q s j text next ≡ own text q) → Gives s false start (productions.value word k) own
unfolding Gives
word_gives s k own says ts x us d =
    lexeme_front s false d.0.terminal start own d.0 ts us x (word_ends d.0.terminal k d.1) refl d.3 (λ q. says d.0.terminal d.1 q d.0.text (next_terminal us) ∙ ap (λ (z : Slice). own z q) d.2)

pub sign_word_gives : (s : Bool) (k : Word) → is_sign_word k ≡ true → Gives s false start (productions.value word k) (λ _. start)
sign_word_gives s k h = word_gives s k (λ _. start) (λ j e q text next. sign_asked q s text next j k e h)

pub the_word_gives : (s : Bool) (k : Word) → is_sign_word k ≡ true → Gives s false start (productions.the word k) (λ _. start)
unfolding Gives
the_word_gives s k h ts x us d = lexeme_front s false d.0.terminal start (λ _. start) d.0 ts us x (word_ends d.0.terminal k d.1) refl d.2 (λ q. sign_asked q s d.0.text (next_terminal us) d.0.terminal k d.1 h)

-- where a subject may stand, a literal may be one
pub literal_word_gives : (s : Bool) (k : Word) → is_literal_word k ≡ true → Gives s false start (productions.value word k) (λ _ q. q.literal || not s)
literal_word_gives s k h = word_gives s k (λ _ q. q.literal || not s) (λ j e q text next. literal_asked q s text next j k e h)
