-- What a look over the tokens of a text comes to is what the text says.
use Rattle.std.proofs.Common.{◌≡◌, cond, ℕ, suc, Bool, true, false, List, [], ◌∷◌, Option, Some, None, Ok, refl, sym, ap, ◌∙◌, inl, inr}
use Rattle.std.proofs.lemmas.Bool.{cases_Bool}
use Rattle.std.specs.List.{slice_get}
use Rattle.std.specs.Str.{chars, IsUtf8}
use Rattle.rdf_terms.proofs.CallerLemmas.{some_is, none_is}
use Rattle.rdf_grammar.specs.declared.depth.Depth.TheVariants.{Open, TooDeep}
use Rattle.rdf_grammar.specs.Walks.{depth_behind, first_fault, lexemes_found}
use Rattle.rdf_grammar.proofs.CallerLemmas.{are_lexemes, deep_found, fault_said, never_deep, tokens_said}
use Rattle.rdf_tokens.specs.declared.token.Kind.{Kind}
use Rattle.rdf_tokens.specs.declared.token.Token.{Token}
use Rattle.rdf_tokens.specs.declared.walk.Found.{Found}
use Rattle.rdf_tokens.specs.declared.walk.Found.TheVariants.{Token as Read, NoToken}
use Rattle.rdf_tokens.specs.Tokens.{Stands, Tokenizes}
use Rattle.rdf_tokens.specs.Walks.{AreFound, AreFoundIn}
use Rattle.sparql_terminals.specs.Lexemes.{Lexemes}
use Rattle.sparql_terminals.specs.Profile.{AreInside, IsFirstOutside, IsOutside, is_left_out}
use Rattle.sparql_terminals.specs.Terminals.{bracket, terminal_by}
use Rattle.sparql_terminals.proofs.CallerLemmas.{kept_is, left_out_is}
use Rattle.sparql_syntax.specs.declared.fault.SyntaxFault.{SyntaxFault}
use Rattle.sparql_syntax.specs.declared.fault.SyntaxFaultKind.TheVariants as fault
use Rattle.sparql_syntax.specs.Phases.{HasTokens, TellsEarly}
use Rattle.sparql_syntax.specs.Survey.{IsReadable, left_out_behind}
use Rattle.sparql_syntax.specs.Told.{fault_at}
use Rattle.sparql_syntax.proofs.TellLemmas.{no_token, out_of_profile, too_deep}

-- ---- words that the profile leaves out

stays : (first : ℕ) (all : List Found) → left_out_behind (Some first) all ≡ Some first
stays first [] = refl
stays first (NoToken start ∷ fs) = refl
stays first (Read start kind slice ∷ fs) = stays first fs

here : (b : Bool) (start : ℕ) (fs : List Found) → b ≡ true → left_out_behind (cond b (Some start) None) fs ≡ Some start
here b start fs e = rw e (stays start fs)

later : (b : Bool) (start : ℕ) (fs : List Found) → b ≡ false → left_out_behind (cond b (Some start) None) fs ≡ left_out_behind None fs
later b start fs e = rw e refl

out_there : (text : List ℕ) (t : Token) (kind : Kind) (slice : List ℕ) → kind ≡ t.kind → Stands text t.start t.stop slice → is_left_out kind slice ≡ true → IsOutside text t
out_there text t kind slice k s out = left_out_is text t slice s (ap (λ (x : Kind). is_left_out x slice) (sym k) ∙ out)

kept_there : (text : List ℕ) (t : Token) (kind : Kind) (slice : List ℕ) → kind ≡ t.kind → Stands text t.start t.stop slice → is_left_out kind slice ≡ false → ¬ (IsOutside text t)
kept_there text t kind slice k s kept = kept_is text t slice s (ap (λ (x : Kind). is_left_out x slice) (sym k) ∙ kept)

pub not_some : (o : Option ℕ) → ((start : ℕ) → o ≡ Some start → ⊥) → o ≡ None
not_some None h = refl
not_some (Some start) h = absurd (h start refl)

inside_found : (text : List ℕ) (tokens : List Token) (all : List Found) → AreFound text tokens all → left_out_behind None all ≡ None → AreInside text tokens
inside_found text [] [] h e = tt
inside_found text [] (f ∷ fs) h e = absurd h
inside_found text (t ∷ ts) [] h e = absurd h
inside_found text (t ∷ ts) (NoToken start ∷ fs) h e = absurd h.0
inside_found text (t ∷ ts) (Read start kind slice ∷ fs) h e = elim (cases_Bool (is_left_out kind slice)) [
  | inl out ↦ none_is start (sym e ∙ here (is_left_out kind slice) start fs out)
  | inr kept ↦ (kept_there text t kind slice h.0.1 h.0.2 kept, inside_found text ts fs h.1 (sym (later (is_left_out kind slice) start fs kept) ∙ e))
]

-- the first of them, where it starts
record Out (text : List ℕ) (tokens : List Token) (start : ℕ) : Type 0 where
  pub place : ℕ
  pub word : Token
  pub is : slice_get tokens place ≡ Some word
  pub starts : start ≡ word.start
  pub first : IsFirstOutside text tokens place

out_found : (text : List ℕ) (tokens : List Token) (all : List Found) (place : ℕ) → AreFound text tokens all → left_out_behind None all ≡ Some place → Out text tokens place
out_found text [] [] place h e = none_is place e
out_found text [] (f ∷ fs) place h e = absurd h
out_found text (t ∷ ts) [] place h e = absurd h
out_found text (t ∷ ts) (NoToken start ∷ fs) place h e = absurd h.0
out_found text (t ∷ ts) (Read start kind slice ∷ fs) place h e = elim (cases_Bool (is_left_out kind slice)) [
  | inl out ↦ record {
    place = 0;
    word = t;
    is = refl;
    starts = some_is place start (sym e ∙ here (is_left_out kind slice) start fs out) ∙ h.0.0;
    first = ((t, refl, out_there text t kind slice h.0.1 h.0.2 out), tt);
  }
  | inr kept ↦ (
      let found = out_found text ts fs place h.1 (sym (later (is_left_out kind slice) start fs kept) ∙ e) in
      record {
        place = suc found.place;
        word = found.word;
        is = found.is;
        starts = found.starts;
        first = ((found.first.0.0, found.first.0.1, found.first.0.2), (kept_there text t kind slice h.0.1 h.0.2 kept, found.first.1));
      })
]

-- ---- what is told

abbrev found_by : List Found → Lexemes
found_by = lexemes_found terminal_by

held : (text : List ℕ) (tokens : List Token) (all : List Found) → IsUtf8 text → Tokenizes (chars text) (Ok tokens) → AreFound (chars text) tokens all → HasTokens text tokens (found_by all)
held text tokens all u says are = record { utf8 = u; list = says; slices = are_lexemes terminal_by (chars text) tokens all are }

pub token_fault : (text : List ℕ) (all : List Found) (place : ℕ) (f : SyntaxFault) → IsUtf8 text → AreFoundIn (chars text) all → first_fault all ≡ Some place → f ≡ fault_at text fault.Token place
    → TellsEarly text f f.kind
token_fault text all place f u walk e is = no_token text place f u (fault_said (chars text) all place walk e) is

pub word_fault : (text : List ℕ) (all : List Found) (place : ℕ) (f : SyntaxFault) → IsUtf8 text → AreFoundIn (chars text) all → first_fault all ≡ None → left_out_behind None all ≡ Some place
    → f ≡ fault_at text fault.NotInProfile place → TellsEarly text f f.kind
word_fault text all place f u walk e out is =
    let said = tokens_said (chars text) all walk e in
    let found = out_found (chars text) said.0 all place said.2 out in
    out_of_profile text said.0 (found_by all) found.word found.place f (held text said.0 all u said.1 said.2) found.first found.is (is ∙ ap (fault_at text fault.NotInProfile) found.starts)

pub depth_fault : (text : List ℕ) (all : List Found) (place : ℕ) (f : SyntaxFault) → IsUtf8 text → AreFoundIn (chars text) all → first_fault all ≡ None → left_out_behind None all ≡ None
    → depth_behind terminal_by bracket (Open 0) all ≡ TooDeep place → f ≡ fault_at text fault.TooDeep place → TellsEarly text f f.kind
depth_fault text all place f u walk e none d is =
    let said = tokens_said (chars text) all walk e in
    let found = deep_found terminal_by bracket (chars text) place said.0 all said.2 d in
    too_deep text said.0 (found_by all) found.0 found.1 f (held text said.0 all u said.1 said.2) (inside_found (chars text) said.0 all said.2 none) found.2 found.3
    (is ∙ ap (fault_at text fault.TooDeep) found.4)

pub no_fault : (text : List ℕ) (all : List Found) (count : ℕ) → IsUtf8 text → AreFoundIn (chars text) all → first_fault all ≡ None → left_out_behind None all ≡ None
    → depth_behind terminal_by bracket (Open 0) all ≡ Open count → IsReadable text
no_fault text all count u walk e none d =
    let said = tokens_said (chars text) all walk e in
    record {
      tokens = said.0;
      lexemes = found_by all;
      list = held text said.0 all u said.1 said.2;
      inside = inside_found (chars text) said.0 all said.2 none;
      shallow = never_deep terminal_by bracket (chars text) count said.0 all said.2 d;
    }
