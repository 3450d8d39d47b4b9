-- What a walk over the tokens of a text finds of its names.
use Rattle.std.proofs.Common.{◌≡◌, ◌+◌, cond, ℕ, Bool, true, false, List, [], ◌∷◌, length, Option, refl, sym, ap, ◌∙◌, add-one, Bor, is_some, Some, None}
use Rattle.std.specs.Option.{option_copied}
use Rattle.std.specs.Str.{chars}
use Rattle.rdf_grammar.specs.Walks.{lexemes_found, start_of}
use Rattle.rdf_grammar.proofs.CallerLemmas.{all_found, are_lexemes, one_lexemes}
use Rattle.rdf_tokens.specs.declared.token.Token.{Token}
use Rattle.rdf_tokens.specs.declared.walk.Found.{Found}
use Rattle.rdf_tokens.specs.declared.walk.Found.TheVariants.{Token as Read, NoToken}
use Rattle.rdf_tokens.specs.Walks.{AreFound, AreFoundIn}
use Rattle.sparql_terminals.specs.Lexemes.{Lexemes}
use Rattle.sparql_terminals.specs.Terminals.{terminal_by, terminal_of}
use Rattle.sparql_syntax.specs.FaultyNames.{declares_behind, is_unbound, bound_behind, unbound_from, first_unbound, moves_behind, is_lacking, base_behind, lacking_from, first_lacking}
use Rattle.sparql_syntax.specs.NamePlaces.{StartsAt}

-- ---- where tokens start, in a text of so many bytes

module _ (size : ℕ) where
  -- of the first name with a prefix that isn't declared before it
  abbrev pub unbound_start : Bool → List (List ℕ) → List Found → ℕ
  unbound_start declares bound [] = size
  unbound_start declares bound (NoToken start ∷ all) = size
  unbound_start declares bound (Read start kind slice ∷ all) =
      cond (is_unbound declares bound (terminal_of kind slice) slice) start
      (unbound_start (declares_behind declares (terminal_of kind slice)) (bound_behind declares bound (terminal_of kind slice) slice) all)

  -- of the first reference that has no scheme where no base is in force
  abbrev pub lacking_start : Bool → Bool → List Found → ℕ
  lacking_start moves based [] = size
  lacking_start moves based (NoToken start ∷ all) = size
  lacking_start moves based (Read start kind slice ∷ all) =
      cond (is_lacking based (terminal_of kind slice) slice) start
      (lacking_start (moves_behind moves (terminal_of kind slice)) (base_behind moves based (terminal_of kind slice)) all)

-- the lexemes of what is found
abbrev pub slices : List Found → Lexemes
slices = lexemes_found terminal_by

-- one token more, at which something is found or not
pub one_more : (text : List ℕ) (t : Token) (ts : List Token) (test : Bool) (start n m : ℕ) → start ≡ t.start → m ≡ start_of text ts n
    → cond test start m ≡ start_of text (t ∷ ts) (cond test 0 (n + 1))
one_more text t ts true start n m e h = e
one_more text t ts false start n m e h = h ∙ ap (start_of text (t ∷ ts)) (sym (add-one n))

unbound : (text : List ℕ) (declares : Bool) (bound : List (List ℕ)) (tokens : List Token) (all : List Found) → AreFound (chars text) tokens all
    → unbound_start (length text) declares bound all ≡ start_of text tokens (unbound_from declares bound (slices all))
unbound text declares bound [] [] h = refl
unbound text declares bound [] (f ∷ fs) h = absurd h
unbound text declares bound (t ∷ ts) [] h = absurd h
unbound text declares bound (t ∷ ts) (NoToken start ∷ fs) h = absurd h.0
unbound text declares bound (t ∷ ts) (Read start kind slice ∷ fs) h =
    let k = terminal_of kind slice in
    one_more text t ts (is_unbound declares bound k slice) start _ _ h.0.0 (unbound text (declares_behind declares k) (bound_behind declares bound k slice) ts fs h.1)

lacking : (text : List ℕ) (moves based : Bool) (tokens : List Token) (all : List Found) → AreFound (chars text) tokens all
    → lacking_start (length text) moves based all ≡ start_of text tokens (lacking_from moves based (slices all))
lacking text moves based [] [] h = refl
lacking text moves based [] (f ∷ fs) h = absurd h
lacking text moves based (t ∷ ts) [] h = absurd h
lacking text moves based (t ∷ ts) (NoToken start ∷ fs) h = absurd h.0
lacking text moves based (t ∷ ts) (Read start kind slice ∷ fs) h =
    let k = terminal_of kind slice in
    one_more text t ts (is_lacking based k slice) start _ _ h.0.0 (lacking text (moves_behind moves k) (base_behind moves based k) ts fs h.1)

pub starts_by : (text : List ℕ) (all : List Found) (place : ℕ) (number : Lexemes → ℕ) → AreFoundIn (chars text) all
    → ((tokens : List Token) → AreFound (chars text) tokens all → place ≡ start_of text tokens (number (slices all))) → StartsAt text number place
starts_by text all place number walk at tokens lexemes h =
    let are = all_found (chars text) tokens all walk h.list in
    at tokens are
    ∙ ap (λ (ls : Lexemes). start_of text tokens (number ls)) (one_lexemes terminal_by (chars text) tokens (slices all) lexemes (are_lexemes terminal_by (chars text) tokens all are) h.slices)

pub unbound_starts : (text : List ℕ) (all : List Found) (place : ℕ) → AreFoundIn (chars text) all → unbound_start (length text) false [] all ≡ place → StartsAt text first_unbound place
unbound_starts text all place walk e = starts_by text all place first_unbound walk (λ tokens are. sym e ∙ unbound text false [] tokens all are)

pub lacking_starts : (text : List ℕ) (based : Bool) (all : List Found) (place : ℕ) → AreFoundIn (chars text) all → lacking_start (length text) false based all ≡ place
    → StartsAt text (first_lacking based) place
lacking_starts text based all place walk e = starts_by text all place (first_lacking based) walk (λ tokens are. sym e ∙ lacking text false based tokens all are)

-- what a test lets through
pub here : (test : Bool) (start later : ℕ) → test ≡ true → cond test start later ≡ start
here test start later e = rw e refl

-- a base that is copied is there just where it was
pub some_copied : {T : Type 0} (o : Option (Bor T)) (b : Bool) → b ≡ is_some o → is_some (option_copied o) ≡ b
some_copied None b e = sym e
some_copied (Some x) b e = sym e
