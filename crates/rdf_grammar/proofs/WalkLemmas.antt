-- What a walk over the tokens of a text comes to among its lexemes.
use Rattle.std.proofs.Common.{◌≡◌, ◌<◌, ◌≤◌, cond, ℕ, zero, suc, Bool, true, false, List, [], ◌∷◌, ◌++◌, length, take, Some, None, Result, Ok, Err, refl, sym, ap, subst, ◌∙◌, inl, inr, add-one, arith}
use Rattle.std.specs.Prelude.{nat_lt}
use Rattle.std.proofs.lemmas.Bool.{cases_lt, lt-ltb, le-ltb}
use Rattle.std.specs.List.{slice_get}
use Rattle.std.specs.Str.{chars, encode_utf8_all}
use Rattle.rdf_terms.proofs.CallerLemmas.{some_is, none_is}
use Rattle.rdf_tokens.specs.declared.token.Kind.{Kind}
use Rattle.rdf_tokens.specs.declared.token.Token.{Token}
use Rattle.rdf_tokens.specs.declared.walk.Found.{Found}
use Rattle.rdf_tokens.specs.declared.walk.Found.TheVariants.{Token as Read, NoToken}
use Rattle.rdf_tokens.specs.Tokens.{Tokenizes}
use Rattle.rdf_tokens.specs.Walks.{AreFound, AreFoundIn}
use Rattle.rdf_tokens.proofs.CallerLemmas.{one_token_list}
use Rattle.rdf_grammar.specs.declared.bracket.Bracket.{Bracket}
use Rattle.rdf_grammar.specs.declared.depth.Depth.TheVariants.{Open, TooDeep}
use Rattle.rdf_grammar.specs.declared.lexeme.Lexeme.{Lexeme}
use Rattle.rdf_grammar.specs.Lexemes.{AreLexemes}
use Rattle.rdf_grammar.specs.Nesting.{open_after, open_behind, IsTooDeep, IsTooDeepAt}
use Rattle.rdf_grammar.specs.Terminals.{Lexemes}
use Rattle.rdf_grammar.specs.Walks.{StartsAt, depth_behind, first_fault, lexemes_found, start_behind, start_of}
use Rattle.rdf_grammar.proofs.Depths.{one_behind}

ok_same : {A E : Type 0} (a b : A) → ◌≡◌ {A = Result A E} (Ok a) (Ok b) → a ≡ b
ok_same a b e = cc

ok_err : {A E : Type 0} {P : Type 0} (a : A) (b : E) → ◌≡◌ {A = Result A E} (Ok a) (Err b) → P
ok_err a b e = absurd (cc)

pub all_found : (text : List ℕ) (tokens : List Token) (all : List Found) → AreFoundIn text all → Tokenizes text (Ok tokens) → AreFound text tokens all
all_found text tokens all (Ok us, says, are) list = subst (λ (ts : List Token). AreFound text ts all) (ok_same us tokens (one_token_list text (Ok us) (Ok tokens) says list)) are
all_found text tokens all (Err place, says, are) list = ok_err tokens place (one_token_list text (Ok tokens) (Err place) list says)

-- ---- where tokens start

numbered : (text : List ℕ) (n : ℕ) (tokens : List Token) (all : List Found) → AreFound (chars text) tokens all → start_behind (length text) n all ≡ start_of text tokens n
numbered text n [] [] h = refl
numbered text n [] (f ∷ fs) h = absurd h
numbered text n (t ∷ ts) [] h = absurd h
numbered text n (t ∷ ts) (NoToken start ∷ fs) h = absurd h.0
numbered text zero (t ∷ ts) (Read start kind slice ∷ fs) h = h.0.0
numbered text (suc n) (t ∷ ts) (Read start kind slice ∷ fs) h = numbered text n ts fs h.1

pub number_starts : (text : List ℕ) (all : List Found) (n place : ℕ) → AreFoundIn (chars text) all → start_behind (length text) n all ≡ place → StartsAt text n place
number_starts text all n place walk e tokens list = sym e ∙ numbered text n tokens all (all_found (chars text) tokens all walk list)

-- ---- where no token begins

no_fault : (text : List ℕ) (tokens : List Token) (all : List Found) → AreFound text tokens all → first_fault all ≡ None
no_fault text [] [] h = refl
no_fault text [] (f ∷ fs) h = absurd h
no_fault text (t ∷ ts) [] h = absurd h
no_fault text (t ∷ ts) (NoToken start ∷ fs) h = absurd h.0
no_fault text (t ∷ ts) (Read start kind slice ∷ fs) h = no_fault text ts fs h.1

fault_behind : (text : List ℕ) (place : ℕ) (tokens : List Token) (front : List Found) → AreFound text tokens front → first_fault (front ++ NoToken place ∷ []) ≡ Some place
fault_behind text place [] [] h = refl
fault_behind text place [] (f ∷ fs) h = absurd h
fault_behind text place (t ∷ ts) [] h = absurd h
fault_behind text place (t ∷ ts) (NoToken start ∷ fs) h = absurd h.0
fault_behind text place (t ∷ ts) (Read start kind slice ∷ fs) h = fault_behind text place ts fs h.1

pub fault_said : (text : List ℕ) (all : List Found) (place : ℕ) → AreFoundIn text all → first_fault all ≡ Some place → Tokenizes text (Err place)
fault_said text all place (Ok tokens, says, are) e = none_is place (sym (no_fault text tokens all are) ∙ e)
fault_said text all place (Err there, says, are) e =
    let same : there ≡ place = some_is there place (sym (ap first_fault are.3 ∙ fault_behind text there are.0 are.1 are.2) ∙ e) in
    subst (λ (n : ℕ). Tokenizes text (Err n)) same says

pub tokens_said : (text : List ℕ) (all : List Found) → AreFoundIn text all → first_fault all ≡ None → (tokens : List Token) × Tokenizes text (Ok tokens) × AreFound text tokens all
tokens_said text all (Ok tokens, says, are) e = (tokens, says, are)
tokens_said text all (Err there, says, are) e = none_is there (sym e ∙ ap first_fault are.3 ∙ fault_behind text there are.0 are.1 are.2)

-- ---- lexemes and brackets

module _ {T : Type 0} (terminal : Kind → List ℕ → T) where
  pub are_lexemes : (text : List ℕ) (tokens : List Token) (all : List Found) → AreFound text tokens all → AreLexemes terminal text tokens (lexemes_found terminal all)
  are_lexemes text [] [] h = tt
  are_lexemes text [] (f ∷ fs) h = absurd h
  are_lexemes text (t ∷ ts) [] h = absurd h
  are_lexemes text (t ∷ ts) (NoToken start ∷ fs) h = absurd h.0
  are_lexemes text (t ∷ ts) (Read start kind slice ∷ fs) h = ((h.0.2, ap (λ (k : Kind). terminal k (encode_utf8_all slice)) h.0.1), are_lexemes text ts fs h.1)

  module _ (bracket : T → Bracket) where
    abbrev after : ℕ → Lexemes T → ℕ
    after = open_after bracket

    stays : (start : ℕ) (all : List Found) → depth_behind terminal bracket (TooDeep start) all ≡ TooDeep start
    stays start [] = refl
    stays start (NoToken place ∷ fs) = refl
    stays start (Read place kind slice ∷ fs) = stays start fs

    over : (b : Bool) (start n : ℕ) (all : List Found) → b ≡ true → depth_behind terminal bracket (cond b (TooDeep start) (Open n)) all ≡ TooDeep start
    over b start n all e = rw e (stays start all)

    under : (b : Bool) (start n : ℕ) (all : List Found) → b ≡ false → depth_behind terminal bracket (cond b (TooDeep start) (Open n)) all ≡ depth_behind terminal bracket (Open n) all
    under b start n all e = rw e refl

    not_open : {P : Type 0} (m start : ℕ) → Open m ≡ TooDeep start → P
    not_open m start e = absurd (cc)

    same_start : (a b : ℕ) → TooDeep a ≡ TooDeep b → a ≡ b
    same_start a b e = cc

    -- where more than 100 are open behind none of them
    low : (text : List ℕ) (count m : ℕ) (tokens : List Token) (all : List Found) → count ≤ 100 → AreFound text tokens all → depth_behind terminal bracket (Open count) all ≡ Open m
        → (n : ℕ) → after count (take n (lexemes_found terminal all)) ≤ 100
    low text count m [] [] few h e zero = few
    low text count m [] [] few h e (suc n) = few
    low text count m [] (f ∷ fs) few h e n = absurd h
    low text count m (t ∷ ts) [] few h e n = absurd h
    low text count m (t ∷ ts) (NoToken start ∷ fs) few h e n = absurd h.0
    low text count m (t ∷ ts) (Read start kind slice ∷ fs) few h e zero = few
    low text count m (t ∷ ts) (Read start kind slice ∷ fs) few h e (suc n) =
        let then = open_behind bracket count (terminal kind (encode_utf8_all slice)) in
        elim (cases_lt 100 then) [
          | inl more ↦ not_open m start (sym e ∙ over (nat_lt 100 then) start then fs (lt-ltb 100 then more))
          | inr less ↦ low text then m ts fs less h.1 (sym (under (nat_lt 100 then) start then fs (le-ltb 100 then less)) ∙ e) n
        ]

    -- the first behind which more are open, where so many were open before
    record Deep (count : ℕ) (tokens : List Token) (lexemes : Lexemes T) (start : ℕ) : Type 0 where
      pub place : ℕ
      pub opener : Token
      pub is : slice_get tokens place ≡ Some opener
      pub starts : start ≡ opener.start
      pub within : place < length lexemes
      pub over : after count (take (suc place) lexemes) ≡ 101
      pub first : (n : ℕ) → n ≤ place → after count (take n lexemes) ≤ 100

    first_here : (count : ℕ) (l : Lexeme T) (ls : Lexemes T) (n : ℕ) → count ≤ 100 → n ≤ 0 → after count (take n (l ∷ ls)) ≤ 100
    first_here count l ls zero few h = few
    first_here count l ls (suc n) few h = absurd (omega (arith, h))

    first_later : (count : ℕ) (l : Lexeme T) (ls : Lexemes T) (place n : ℕ) → count ≤ 100
        → ((m : ℕ) → m ≤ place → after (open_behind bracket count l.terminal) (take m ls) ≤ 100) → n ≤ suc place → after count (take n (l ∷ ls)) ≤ 100
    first_later count l ls place zero few h e = few
    first_later count l ls place (suc n) few h e = h n (omega (arith, e))

    deep : (text : List ℕ) (count start : ℕ) (tokens : List Token) (all : List Found) → count ≤ 100 → AreFound text tokens all → depth_behind terminal bracket (Open count) all ≡ TooDeep start
        → Deep count tokens (lexemes_found terminal all) start
    deep text count start [] [] few h e = not_open count start e
    deep text count start [] (f ∷ fs) few h e = absurd h
    deep text count start (t ∷ ts) [] few h e = absurd h
    deep text count start (t ∷ ts) (NoToken place ∷ fs) few h e = absurd h.0
    deep text count start (t ∷ ts) (Read place kind slice ∷ fs) few h e =
        let k = terminal kind (encode_utf8_all slice) in
        let then = open_behind bracket count k in
        elim (cases_lt 100 then) [
          | inl more ↦ record {
            place = 0;
            opener = t;
            is = refl;
            starts = sym (same_start place start (sym (over (nat_lt 100 then) place then fs (lt-ltb 100 then more)) ∙ e)) ∙ h.0.0;
            within = omega arith;
            over = omega (arith, more, few, one_behind bracket count k);
            first = λ n. first_here count (record { terminal = k; text = slice }) (lexemes_found terminal fs) n few;
          }
          | inr less ↦ (
              let found = deep text then start ts fs less h.1 (sym (under (nat_lt 100 then) place then fs (le-ltb 100 then less)) ∙ e) in
              record {
                place = suc found.place;
                opener = found.opener;
                is = found.is;
                starts = found.starts;
                within = omega (arith, found.within);
                over = found.over;
                first = λ n. first_later count (record { terminal = k; text = slice }) (lexemes_found terminal fs) found.place n few found.first;
              })
        ]

    -- the bracket that is inside 100 open ones
    abbrev pub Opener : List Token → Lexemes T → ℕ → Type 0
    Opener tokens lexemes start = (opener : Token) × (place : ℕ) × IsTooDeepAt bracket lexemes place × (slice_get tokens place ≡ Some opener) × (start ≡ opener.start)

    pub deep_found : (text : List ℕ) (start : ℕ) (tokens : List Token) (all : List Found) → AreFound text tokens all → depth_behind terminal bracket (Open 0) all ≡ TooDeep start
        → Opener tokens (lexemes_found terminal all) start
    deep_found text start tokens all h e =
        let found = deep text 0 start tokens all (omega arith) h e in
        (found.opener, found.place, record { within = found.within; over = rw add-one found.over; first = found.first }, found.is, found.starts)

    pub never_deep : (text : List ℕ) (count : ℕ) (tokens : List Token) (all : List Found) → AreFound text tokens all → depth_behind terminal bracket (Open 0) all ≡ Open count
        → IsTooDeep bracket (lexemes_found terminal all) → ⊥
    never_deep text count tokens all h e d = omega (arith, low text 0 count tokens all (omega arith) h e d.0, d.1)
