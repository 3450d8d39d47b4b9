-- A walk comes to the tokens of its text.
use Rattle.std.proofs.Common.{◌≡◌, ◌-◌, ℕ, false, List, [], ◌∷◌, ◌++◌, length, Option, Some, None, Result, Ok, Err, refl, sym, ap, subst, ◌∙◌, arith, append_assoc}
use Rattle.std.specs.Prelude.{MatchOption}
use Rattle.std.proofs.lemmas.List.{append-nil}
use Rattle.std.proofs.lemmas.Str.{encodes-chars}
use Rattle.std.specs.Str.{chars, IsUtf8}
use Rattle.rdf_terms.proofs.CallerLemmas.{between_is}
use Rattle.rdf_terms.specs.Reading.{between, byte_count}
use Rattle.rdf_tokens.specs.declared.token.Kind.{Kind}
use Rattle.rdf_tokens.specs.declared.token.Token.{Token}
use Rattle.rdf_tokens.specs.declared.walk.Found.{Found}
use Rattle.rdf_tokens.specs.declared.walk.Found.TheVariants as found
use Rattle.rdf_tokens.specs.Tokens.{IsToken, HasGap, Ends, NoToken, At, AreTokens, Tokenizes}
use Rattle.rdf_tokens.specs.Walks.{IsFound, AreFound, AreFoundFrom, AreFoundIn}
use Rattle.rdf_tokens.specs.Inside.TokenReading.{skip_gap}
use Rattle.rdf_tokens.specs.Inside.WalkReading.{byte_of, found_of}
use Rattle.rdf_tokens.proofs.EachTokenLemmas.{each_nil, each_end, each_token, none_told}
use Rattle.rdf_tokens.proofs.TokenLaws.{some_token_list}
use Rattle.rdf_tokens.proofs.TokenLists.{at_place, fault_read, next_read, same_place}

module _ (size : ℕ) where
  found_nil : found_of size [] ≡ []
  unfolding found_of
  found_nil = each_nil _ _

  found_end : (cs : List ℕ) → Ends cs → found_of size cs ≡ []
  unfolding found_of
  found_end cs h = each_end _ _ cs h

  found_token : (cs start : List ℕ) (k : Kind) (after : List ℕ) → HasGap cs start → IsToken start k after
      → found_of size cs ≡ found.Token (byte_of size start) k (between start after) ∷ found_of size after
  unfolding found_of
  found_token cs start k after gap is = each_token _ _ cs start k after gap is

  found_none : (cs start : List ℕ) → HasGap cs start → NoToken start → found_of size cs ≡ found.NoToken (byte_of size start) ∷ []
  unfolding found_of
  found_none cs start gap none = none_told _ _ cs start gap none

  -- ---- a step

  pub step_token : (cs left slice : List ℕ) (k : Kind) (place : ℕ) → ((start : List ℕ) × HasGap cs start × IsToken start k left × (start ≡ slice ++ left))
      → place ≡ size - byte_count (skip_gap false cs) → found_of size cs ≡ found.Token place k slice ∷ found_of size left
  step_token cs left slice k place next at =
      let same : between next.0 left ≡ slice = between_is next.0 left slice next.3 in
      let there : byte_of size next.0 ≡ place = ap (byte_of size) (sym (next_read cs next.0 k left next.1 next.2).0) ∙ sym at in
      found_token cs next.0 k left next.1 next.2
      ∙ ap (λ (n : ℕ). found.Token n k (between next.0 left) ∷ found_of size left) there ∙ ap (λ (s : List ℕ). found.Token place k s ∷ found_of size left) same

  pub step_none : (cs left : List ℕ) (place : ℕ) → ((start : List ℕ) × HasGap cs start × NoToken start × (left ≡ [])) → place ≡ size - byte_count (skip_gap false cs)
      → found_of size cs ≡ found.NoToken place ∷ found_of size left
  step_none cs left place next at =
      let there : byte_of size next.0 ≡ place = ap (byte_of size) (sym (fault_read cs next.0 next.1 next.2).0) ∙ sym at in
      found_none cs next.0 next.1 next.2 ∙ ap (λ (n : ℕ). found.NoToken n ∷ []) there
      ∙ ap (λ (fs : List Found). found.NoToken place ∷ fs) (sym (ap (found_of size) next.3 ∙ found_nil))

  pub step_end : (cs left : List ℕ) → Ends cs × (left ≡ []) → (found_of size cs ≡ []) × (found_of size left ≡ [])
  step_end cs left h = (found_end cs h.0, ap (found_of size) h.1 ∙ found_nil)

-- ---- they are the text's

byte_is : (text : List ℕ) (place : ℕ) (start : List ℕ) → At text place start → byte_of (byte_count text) start ≡ place
byte_is text place start h = omega (arith, at_place text place start h)

token_found : (text : List ℕ) (token : Token) (start after : List ℕ) → IsToken start token.kind after → At text token.start start → At text token.stop after
    → IsFound text token (found.Token (byte_of (byte_count text) start) token.kind (between start after))
token_found text token start after is p q =
    let same : between start after ≡ is.slice = between_is start after is.slice is.parts in
    let whole : text ≡ p.0 ++ (is.slice ++ after) = p.1 ∙ ap (λ (t : List ℕ). p.0 ++ t) is.parts in
    let stop : At text (byte_count (p.0 ++ is.slice)) after = (p.0 ++ is.slice, whole ∙ sym (append_assoc p.0 is.slice after), refl) in
    subst (λ (s : List ℕ). IsFound text token (found.Token (byte_of (byte_count text) start) token.kind s)) (sym same)
    (byte_is text token.start start p, refl, (p.0, after, whole, p.2, same_place text token.stop (byte_count (p.0 ++ is.slice)) after q stop))

abbrev Front : List ℕ → List ℕ → List Token → List ℕ → Type 0
Front text from tokens rest = (front : List Found) × AreFound text tokens front × (found_of (byte_count text) from ≡ front ++ found_of (byte_count text) rest)

front_found : (text from : List ℕ) (tokens : List Token) (rest : List ℕ) → AreTokens text from tokens rest → Front text from tokens rest
front_found text from [] rest r = ([], tt, ap (found_of (byte_count text)) r)
front_found text from (token ∷ tokens) rest r =
    let later = front_found text r.1 tokens rest r.6 in
    let first = found.Token (byte_of (byte_count text) r.0) token.kind (between r.0 r.1) in
    (first ∷ later.0, (token_found text token r.0 r.1 r.3 r.4 r.5, later.1), found_token (byte_count text) from r.0 token.kind r.1 r.2 r.3 ∙ ap (λ (fs : List Found). first ∷ fs) later.2)

found_from : (text : List ℕ) (answer : Result (List Token) ℕ) → Tokenizes text answer → AreFoundFrom text answer (found_of (byte_count text) text)
found_from text (Ok tokens) h =
    let f = front_found text text tokens h.0 h.1 in
    subst (AreFound text tokens) (sym (f.2 ∙ ap (λ (fs : List Found). f.0 ++ fs) (found_end (byte_count text) h.0 h.2) ∙ append-nil f.0)) f.1
found_from text (Err place) h =
    let f = front_found text text h.0 h.1 h.3 in
    (h.0, f.0, f.1, f.2 ∙ ap (λ (fs : List Found). f.0 ++ fs) (found_none (byte_count text) h.1 h.2 h.4 h.5 ∙ ap (λ (n : ℕ). found.NoToken n ∷ []) (byte_is text place h.2 h.6)))

pub found_in : (bytes rest : List ℕ) (size : ℕ) → IsUtf8 bytes → rest ≡ chars bytes → size ≡ length bytes → AreFoundIn (chars bytes) (found_of size rest)
found_in bytes rest size u e s =
    let said = some_token_list (chars bytes) in
    let same : size ≡ byte_count (chars bytes) = s ∙ ap length (sym (encodes-chars bytes u)) in
    subst (λ (r : List ℕ). AreFoundIn (chars bytes) (found_of size r)) (sym e)
    (subst (λ (n : ℕ). AreFoundIn (chars bytes) (found_of n (chars bytes))) (sym same) (said.0, said.1, found_from (chars bytes) said.0 said.1))

-- ---- what is answered

abbrev Goes : List Found → Option Found → List Found → Type 0
Goes before answer behind = MatchOption answer ((before ≡ []) × (behind ≡ [])) (λ f. before ≡ f ∷ behind)

pub goes_on : (before read behind : List Found) (answer : Option Found) (f : Found) → read ≡ before → answer ≡ Some f → read ≡ f ∷ behind → Goes before answer behind
goes_on before read behind answer f v e h = subst (λ (o : Option Found). Goes before o behind) (sym e) (sym v ∙ h)

pub goes_no_more : (before read behind : List Found) (answer : Option Found) → read ≡ before → answer ≡ None → (read ≡ []) × (behind ≡ []) → Goes before answer behind
goes_no_more before read behind answer v e h = subst (λ (o : Option Found). Goes before o behind) (sym e) (sym v ∙ h.0, h.1)
