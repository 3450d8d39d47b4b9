-- What a walk over the tokens of a text finds among its lexemes.
use Rattle.std.proofs.Common.{◌≡◌, ◌+◌, cond, ℕ, Bool, true, false, List, [], ◌∷◌, length, Option, Some, None, Ok, refl, sym, ap, subst, ◌∙◌, add-one}
use Rattle.std.specs.Str.{chars, IsUtf8}
use Rattle.rdf_grammar.specs.declared.depth.Depth.TheVariants.{Open, TooDeep}
use Rattle.rdf_grammar.specs.Walks.{depth_behind, first_fault, lexemes_found}
use Rattle.rdf_grammar.proofs.CallerLemmas.{all_found, are_lexemes, deep_found, fault_said, never_deep, one_lexemes, tokens_said}
use Rattle.rdf_tokens.specs.declared.token.Token.{Token}
use Rattle.rdf_tokens.specs.declared.walk.Found.{Found}
use Rattle.rdf_tokens.specs.declared.walk.Found.TheVariants.{Token as Read, NoToken}
use Rattle.rdf_tokens.specs.Lines.{line_of}
use Rattle.rdf_tokens.specs.Tokens.{Tokenizes}
use Rattle.rdf_tokens.specs.Walks.{AreFound, AreFoundIn}
use Rattle.rdf_turtle.specs.declared.fault.TurtleFault.{TurtleFault}
use Rattle.rdf_turtle.specs.declared.fault.TurtleFaultKind.{TurtleFaultKind}
use Rattle.rdf_turtle.specs.declared.fault.TurtleFaultKind.TheVariants as fault
use Rattle.rdf_turtle.specs.Document.{HasTokens, start_of, FaultIs, IsFaulty}
use Rattle.rdf_turtle.specs.FaultyNames.{taken, declares_behind, is_unbound, bound_behind, unbound_from, first_unbound, moves_behind, is_lacking, base_behind, lacking_from, first_lacking}
use Rattle.rdf_turtle.specs.Inside.NamePlaces.{StartsAt}
use Rattle.rdf_turtle.specs.Inside.Walks.{IsShallow, unbound_start, lacking_start}
use Rattle.rdf_turtle.specs.Leaves.{takes_tag}
use Rattle.rdf_turtle.specs.Lexemes.{Lexemes, AreLexemes}
use Rattle.rdf_turtle.specs.Terminals.{terminal_of, terminal_by, bracket}

-- the lexemes of what is found
abbrev slices : List Found → Lexemes
slices = lexemes_found terminal_by

slices_are : (text : List ℕ) (tokens : List Token) (all : List Found) → AreFound text tokens all → AreLexemes text tokens (slices all)
slices_are = are_lexemes terminal_by

-- ---- where tokens start

-- one token more, at which something is found or not
one_more : (text : List ℕ) (t : Token) (ts : List Token) (test : Bool) (start n m : ℕ) → start ≡ t.start → m ≡ start_of text ts n
    → cond test start m ≡ start_of text (t ∷ ts) (cond test 0 (n + 1))
one_more text t ts true start n m e h = e
one_more text t ts false start n m e h = h ∙ ap (start_of text (t ∷ ts)) (sym (add-one n))

unbound : (text : List ℕ) (behind declares : Bool) (bound : List (List ℕ)) (tokens : List Token) (all : List Found) → AreFound (chars text) tokens all
    → unbound_start (length text) behind declares bound all ≡ start_of text tokens (unbound_from behind declares bound (slices all))
unbound text behind declares bound [] [] h = refl
unbound text behind declares bound [] (f ∷ fs) h = absurd h
unbound text behind declares bound (t ∷ ts) [] h = absurd h
unbound text behind declares bound (t ∷ ts) (NoToken start ∷ fs) h = absurd h.0
unbound text behind declares bound (t ∷ ts) (Read start kind slice ∷ fs) h =
    let k = taken behind (terminal_of kind slice) in
    one_more text t ts (is_unbound declares bound k slice) start _ _ h.0.0
    (unbound text (takes_tag (terminal_of kind slice)) (declares_behind declares k) (bound_behind declares bound k slice) ts fs h.1)

lacking : (text : List ℕ) (behind moves based : Bool) (tokens : List Token) (all : List Found) → AreFound (chars text) tokens all
    → lacking_start (length text) behind moves based all ≡ start_of text tokens (lacking_from behind moves based (slices all))
lacking text behind moves based [] [] h = refl
lacking text behind moves based [] (f ∷ fs) h = absurd h
lacking text behind moves based (t ∷ ts) [] h = absurd h
lacking text behind moves based (t ∷ ts) (NoToken start ∷ fs) h = absurd h.0
lacking text behind moves based (t ∷ ts) (Read start kind slice ∷ fs) h =
    let k = taken behind (terminal_of kind slice) in
    one_more text t ts (is_lacking based k slice) start _ _ h.0.0
    (lacking text (takes_tag (terminal_of kind slice)) (moves_behind moves k) (base_behind moves based k) ts fs h.1)

starts_by : (text : List ℕ) (all : List Found) (place : ℕ) (number : Lexemes → ℕ) → AreFoundIn (chars text) all
    → ((tokens : List Token) → AreFound (chars text) tokens all → place ≡ start_of text tokens (number (slices all))) → StartsAt text number place
starts_by text all place number walk at tokens lexemes h =
    let are = all_found (chars text) tokens all walk h.list in
    at tokens are ∙ ap (λ (ls : Lexemes). start_of text tokens (number ls)) (one_lexemes terminal_by (chars text) tokens (slices all) lexemes (slices_are (chars text) tokens all are) h.slices)

pub unbound_starts : (text : List ℕ) (all : List Found) (place : ℕ) → AreFoundIn (chars text) all → unbound_start (length text) false false [] all ≡ place → StartsAt text first_unbound place
unbound_starts text all place walk e = starts_by text all place first_unbound walk (λ tokens are. sym e ∙ unbound text false false [] tokens all are)

pub lacking_starts : (text : List ℕ) (based : Bool) (all : List Found) (place : ℕ) → AreFoundIn (chars text) all → lacking_start (length text) false false based all ≡ place
    → StartsAt text (first_lacking based) place
lacking_starts text based all place walk e = starts_by text all place (first_lacking based) walk (λ tokens are. sym e ∙ lacking text false false based tokens all are)

-- ---- where no token begins

kind_is : (base : Option (List ℕ)) (text : List ℕ) (f : TurtleFault) (k : TurtleFaultKind) → f.kind ≡ k → FaultIs base text k f.line → IsFaulty base text f
kind_is base text f k e h = subst (λ (x : TurtleFaultKind). FaultIs base text x f.line) (sym e) h

pub token_fault : (base : Option (List ℕ)) (text : List ℕ) (all : List Found) (place : ℕ) (f : TurtleFault) → IsUtf8 text → AreFoundIn (chars text) all → first_fault all ≡ Some place
    → f.kind ≡ fault.Token → f.line ≡ line_of text place → IsFaulty base text f
token_fault base text all place f u walk e k l = kind_is base text f fault.Token k (u, (place, fault_said (chars text) all place walk e, l))

-- ---- brackets

has_tokens : (text : List ℕ) (tokens : List Token) (all : List Found) → IsUtf8 text → Tokenizes (chars text) (Ok tokens) → AreFound (chars text) tokens all → HasTokens text tokens (slices all)
has_tokens text tokens all u says are = record { utf8 = u; list = says; slices = slices_are (chars text) tokens all are }

pub deep_fault : (base : Option (List ℕ)) (text : List ℕ) (all : List Found) (place : ℕ) (f : TurtleFault) → IsUtf8 text → AreFoundIn (chars text) all → first_fault all ≡ None
    → depth_behind terminal_by bracket (Open 0) all ≡ TooDeep place → f.kind ≡ fault.TooDeep → f.line ≡ line_of text place → IsFaulty base text f
deep_fault base text all place f u walk e d k l =
    let said = tokens_said (chars text) all walk e in
    let found = deep_found terminal_by bracket (chars text) place said.0 all said.2 d in
    kind_is base text f fault.TooDeep k
    (said.0, slices all, found.0, found.1, has_tokens text said.0 all u said.1 said.2, found.2, found.3, l ∙ ap (line_of text) found.4)

pub no_deep_fault : (text : List ℕ) (all : List Found) (count : ℕ) → IsUtf8 text → AreFoundIn (chars text) all → first_fault all ≡ None
    → depth_behind terminal_by bracket (Open 0) all ≡ Open count → IsShallow text
no_deep_fault text all count u walk e d =
    let said = tokens_said (chars text) all walk e in
    (said.0, slices all, has_tokens text said.0 all u said.1 said.2, never_deep terminal_by bracket (chars text) count said.0 all said.2 d)

-- ---- what a test lets through

pub here : (test : Bool) (start later : ℕ) → test ≡ true → cond test start later ≡ start
here test start later e = rw e refl
