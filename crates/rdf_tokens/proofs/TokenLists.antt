-- The list of tokens: what the loop builds, and that a text has one answer.
use Rattle.std.proofs.Common.{◌≡◌, ◌<◌, ◌≤◌, ◌+◌, ◌-◌, ℕ, true, false, List, [], ◌∷◌, ◌++◌, length, Option, Some, None, Result, Ok, Err, refl, sym, ap, subst, ◌∙◌, inl, inr, length-append, append_assoc, arith}
use Rattle.std.proofs.lemmas.Bool.{cases_Bool, eqb-true, or_cases}
use Rattle.std.proofs.lemmas.Str.{encodes-append}
use Rattle.std.specs.Str.{encode_utf8_all}
use Rattle.rdf_tokens.specs.declared.token.Kind.{Kind}
use Rattle.rdf_tokens.specs.declared.token.Kind.TheVariants as kind
use Rattle.rdf_tokens.specs.declared.token.Token.{Token}
use Rattle.rdf_tokens.specs.Characters.{is_white}
use Rattle.rdf_terms.specs.Reading.{byte_count}
use Rattle.rdf_tokens.specs.Forms.{HasForm, IsOneOf, symbols}
use Rattle.rdf_tokens.specs.Tokens.{IsToken, Gap, HasGap, Ends, At, AreTokens, NoToken, Tokenizes}
use Rattle.rdf_tokens.specs.Inside.TokenReading.{skip_gap, token_at}
use Rattle.rdf_terms.proofs.CallerLemmas.{some_is, some_pair, none_is}
use Rattle.rdf_tokens.proofs.TokenClaims.{Beats}
use Rattle.rdf_tokens.proofs.TokenGaps.{Stops, skip_ends, skip_starts, gap_skipped, end_skipped}
use Rattle.rdf_tokens.proofs.TokenDispatch.{token_sound, token_claims, white_begins_none}

-- ---- one token

longer_or_not : (k other : Kind) (slice rest longer after : List ℕ) → slice ++ rest ≡ longer ++ after → Beats other after (Some (k, rest)) → length longer ≤ length slice
longer_or_not k other slice rest longer after e (inl same) =
    omega (arith, ap length e, length-append slice rest, length-append longer after, ap (λ (t : Kind × List ℕ). length t.1) same)
longer_or_not k other slice rest longer after e (inr less) =
    omega (arith, ap length e, length-append slice rest, length-append longer after, less)

pub token_is : (text : List ℕ) (k : Kind) (rest : List ℕ) → token_at text ≡ Some (k, rest) → IsToken text k rest
token_is text k rest e =
    let s = token_sound text (k, rest) e in
    record {
      slice = s.0;
      parts = s.1;
      form = s.2;
      longest = λ other longer after form whole.
          let claim = token_claims other longer after form in
          longer_or_not k other s.0 rest longer after (sym s.1 ∙ whole)
          (subst (Beats other after) (ap token_at (sym whole) ∙ e) claim);
    }

reads_by : (text : List ℕ) (k : Kind) (rest : List ℕ) (read : Option (Kind × List ℕ)) → token_at text ≡ read → IsToken text k rest → Beats k rest read → token_at text ≡ Some (k, rest)
reads_by text k rest None e is h = absurd h
reads_by text k rest (Some t) e is (inl same) = e ∙ ap (λ (x : Kind × List ℕ). Some x) same
reads_by text k rest (Some t) e is (inr less) =
    let s = token_sound text t e in
    let short = is.longest t.0 s.0 t.1 s.2 s.1 in
    absurd (omega (arith, less, short, ap length s.1, ap length is.parts, length-append s.0 t.1, length-append is.slice rest))

pub token_reads : (text : List ℕ) (k : Kind) (rest : List ℕ) → IsToken text k rest → token_at text ≡ Some (k, rest)
token_reads text k rest is =
    reads_by text k rest (token_at text) refl is (subst (λ (t : List ℕ). Beats k rest (token_at t)) (sym is.parts) (token_claims k is.slice rest is.form))

solid : (c : ℕ) (cs : List ℕ) (t : Kind × List ℕ) → token_at (c ∷ cs) ≡ Some t → Stops (c ∷ cs)
solid c cs t e =
    let none = white_begins_none cs in
    let at = λ (d : ℕ) (same : c ≡ d) (no_token : token_at (d ∷ cs) ≡ None). none_is {P = ⊥} t (sym no_token ∙ ap (λ (x : ℕ). token_at (x ∷ cs)) (sym same) ∙ e) in
    let solid_white : is_white c ≡ false =
    elim (cases_Bool (is_white c)) [
      | inr f ↦ f
      | inl white ↦ absurd (white_none c cs t white e)
    ] in
    (solid_white, λ same. at 35 same none.4)
  where
    white_none : (c : ℕ) (cs : List ℕ) (t : Kind × List ℕ) → is_white c ≡ true → token_at (c ∷ cs) ≡ Some t → ⊥
    white_none c cs t white e =
        let none = white_begins_none cs in
        let at = λ (d : ℕ) (same : c ≡ d) (no_token : token_at (d ∷ cs) ≡ None). none_is {P = ⊥} t (sym no_token ∙ ap (λ (x : ℕ). token_at (x ∷ cs)) (sym same) ∙ e) in
        elim (or_cases _ _ white) [
          | inr d ↦ at 10 (eqb-true c 10 d) none.3
          | inl more ↦
              elim (or_cases _ _ more) [
                | inr d ↦ at 13 (eqb-true c 13 d) none.2
                | inl others ↦
                    elim (or_cases _ _ others) [
                      | inr d ↦ at 9 (eqb-true c 9 d) none.1
                      | inl d ↦ at 32 (eqb-true c 32 d) none.0
                    ]
              ]
        ]

solid_start : (start : List ℕ) (t : Kind × List ℕ) → token_at start ≡ Some t → Stops start
solid_start [] t e = tt
solid_start (c ∷ cs) t e = solid c cs t e

pub token_nil : token_at [] ≡ None
unfolding token_at
token_nil = refl

-- what a gap and a token are in the reading
pub next_read : (from start : List ℕ) (k : Kind) (after : List ℕ) → HasGap from start → IsToken start k after
    → (skip_gap false from ≡ start) × (token_at start ≡ Some (k, after))
next_read from start k after g is =
    let r = token_reads start k after is in
    (gap_skipped from start g (solid_start start (k, after) r), r)

-- ---- places

pub at_place : (text : List ℕ) (place : ℕ) (rest : List ℕ) → At text place rest → place + byte_count rest ≡ byte_count text
at_place text place rest h =
    omega (arith, h.2, ap byte_count h.1, ap length (encodes-append h.0 rest), length-append (encode_utf8_all h.0) (encode_utf8_all rest))

pub same_place : (text : List ℕ) (p q : ℕ) (rest : List ℕ) → At text p rest → At text q rest → p ≡ q
same_place text p q rest h k = omega (arith, at_place text p rest h, at_place text q rest k)

-- a place in a text, whatever its number
abbrev pub Within : List ℕ → List ℕ → Type 0
Within text rest = (before : List ℕ) × (text ≡ before ++ rest)

pub within_bytes : (text rest : List ℕ) → Within text rest → byte_count rest ≤ byte_count text
within_bytes text rest w = omega (arith, at_place text (byte_count w.0) rest (w.0, w.1, refl))

pub at_from : (text rest : List ℕ) (size place : ℕ) → Within text rest → size ≡ byte_count text → place ≡ size - byte_count rest → At text place rest
at_from text rest size place w s e = (w.0, w.1, omega (arith, at_place text (byte_count w.0) rest (w.0, w.1, refl), s, e))

within_gap : (blanks : List (List ℕ)) (text from start : List ℕ) → Within text from → Gap blanks from start → Within text start
within_gap [] text from start w g = (w.0, w.1 ∙ ap (λ (t : List ℕ). w.0 ++ t) g)
within_gap (blank ∷ blanks) text from start w g =
    within_gap blanks text g.0 start (w.0 ++ blank, w.1 ∙ ap (λ (t : List ℕ). w.0 ++ t) g.1 ∙ sym (append_assoc w.0 blank g.0)) g.3

pub within_start : (text from start : List ℕ) → Within text from → HasGap from start → Within text start
within_start text from start w g = within_gap g.0 text from start w g.1

pub within_after : (text start : List ℕ) (k : Kind) (after : List ℕ) → Within text start → IsToken start k after → Within text after
within_after text start k after w is = (w.0 ++ is.slice, w.1 ∙ ap (λ (t : List ℕ). w.0 ++ t) is.parts ∙ sym (append_assoc w.0 is.slice after))

-- ---- what the loop builds

pub runs_push : (text from : List ℕ) (tokens : List Token) (rest start after : List ℕ) (t : Token) → AreTokens text from tokens rest → HasGap rest start → IsToken start t.kind after
    → At text t.start start → At text t.stop after → AreTokens text from (tokens ++ t ∷ []) after
runs_push text from [] rest start after t r g is p q = (start, after, subst (λ (x : List ℕ). HasGap x start) (sym r) g, is, p, q, refl)
runs_push text from (u ∷ us) rest start after t r g is p q =
    (r.0, r.1, r.2, r.3, r.4, r.5, runs_push text r.1 us rest start after t r.6 g is p q)

pub no_token : (c : ℕ) (cs : List ℕ) → Stops (c ∷ cs) → token_at (c ∷ cs) ≡ None → NoToken (c ∷ cs)
no_token c cs s e =
    (s.0, s.1, λ k slice rest form parts. subst (Beats k rest) (ap token_at (sym parts) ∙ e) (token_claims k slice rest form))

-- ---- a text has one answer

-- how a text ends: with its end, or at a place where no token begins
abbrev Finish : List ℕ → List ℕ → Option ℕ → Type 0
Finish text rest None = Ends rest
Finish text rest (Some place) = (start : List ℕ) × HasGap rest start × NoToken start × At text place start

none_there : (c : ℕ) (cs : List ℕ) (read : Option (Kind × List ℕ)) → NoToken (c ∷ cs) → token_at (c ∷ cs) ≡ read → read ≡ None
none_there c cs None n e = refl
none_there c cs (Some t) n e = let s = token_sound (c ∷ cs) t e in absurd (n.2 t.0 s.0 t.1 s.2 s.1)

pub fault_read : (rest start : List ℕ) → HasGap rest start → NoToken start → (skip_gap false rest ≡ start) × (token_at start ≡ None)
fault_read rest [] g n = absurd n
fault_read rest (c ∷ cs) g n = (gap_skipped rest (c ∷ cs) g (n.0, n.1), none_there c cs (token_at (c ∷ cs)) n refl)

finish_read : (text rest : List ℕ) (a : Option ℕ) → Finish text rest a → token_at (skip_gap false rest) ≡ None
finish_read text rest None h = ap token_at (end_skipped rest h) ∙ token_nil
finish_read text rest (Some place) h = let f = fault_read rest h.0 h.1 h.2 in ap token_at f.0 ∙ f.1

not_end : (text rest : List ℕ) (place : ℕ) → Ends rest → Finish text rest (Some place) → ⊥
not_end text rest place e h =
    let f = fault_read rest h.0 h.1 h.2 in
    subst NoToken (sym f.0 ∙ end_skipped rest e) h.2

finish_one : (text rest : List ℕ) (a b : Option ℕ) → Finish text rest a → Finish text rest b → a ≡ b
finish_one text rest None None h k = refl
finish_one text rest None (Some q) h k = absurd (not_end text rest q h k)
finish_one text rest (Some p) None h k = absurd (not_end text rest p k h)
finish_one text rest (Some p) (Some q) h k =
    let starts : h.0 ≡ k.0 = sym (fault_read rest h.0 h.1 h.2).0 ∙ (fault_read rest k.0 k.1 k.2).0 in
    ap (λ (x : ℕ). Some x) (same_place text p q k.0 (subst (At text p) starts h.3) k.3)

same_token : (t u : Token) → t.kind ≡ u.kind → t.start ≡ u.start → t.stop ≡ u.stop → t ≡ u
same_token t u k p q = λ i. record { kind = k i; start = p i; stop = q i }

abbrev Same : List Token → List Token → Option ℕ → Option ℕ → Type 0
Same ts us a b = (ts ≡ us) × (a ≡ b)

one : (text from : List ℕ) (ts us : List Token) (x y : List ℕ) (a b : Option ℕ)
    → AreTokens text from ts x → Finish text x a → AreTokens text from us y → Finish text y b → Same ts us a b
one text from [] [] x y a b r f s g =
    (refl, finish_one text from a b (subst (λ (t : List ℕ). Finish text t a) (sym r) f) (subst (λ (t : List ℕ). Finish text t b) (sym s) g))
one text from [] (u ∷ us) x y a b r f s g =
    let n = next_read from s.0 u.kind s.1 s.2 s.3 in
    none_is (u.kind, s.1) (sym (finish_read text x a f) ∙ ap (λ (t : List ℕ). token_at (skip_gap false t)) (sym r) ∙ ap token_at n.0 ∙ n.1)
one text from (t ∷ ts) [] x y a b r f s g =
    let n = next_read from r.0 t.kind r.1 r.2 r.3 in
    none_is (t.kind, r.1) (sym (finish_read text y b g) ∙ ap (λ (t : List ℕ). token_at (skip_gap false t)) (sym s) ∙ ap token_at n.0 ∙ n.1)
one text from (t ∷ ts) (u ∷ us) x y a b r f s g =
    let n = next_read from r.0 t.kind r.1 r.2 r.3 in
    let m = next_read from s.0 u.kind s.1 s.2 s.3 in
    let starts : r.0 ≡ s.0 = sym n.0 ∙ m.0 in
    let pair = some_pair t.kind u.kind r.1 s.1 (sym n.1 ∙ ap token_at starts ∙ m.1) in
    let token : t ≡ u = same_token t u pair.0
    (same_place text t.start u.start s.0 (subst (At text t.start) starts r.4) s.4)
    (same_place text t.stop u.stop s.1 (subst (At text t.stop) pair.1 r.5) s.5) in
    let more = one text s.1 ts us x y a b (subst (λ (z : List ℕ). AreTokens text z ts x) pair.1 r.6) f s.6 g in
    (ap (λ (z : Token). z ∷ ts) token ∙ ap (λ (z : List Token). u ∷ z) more.0, more.1)

abbrev answer : List Token → Option ℕ → Result (List Token) ℕ
answer ts None = Ok ts
answer ts (Some place) = Err place

some_places : (p q : ℕ) → Some p ≡ Some q → p ≡ q
some_places p q e = some_is p q e

pub one_token_list : (text : List ℕ) (a b : Result (List Token) ℕ) → Tokenizes text a → Tokenizes text b → a ≡ b
one_token_list text (Ok ts) (Ok us) h k = ap (λ (z : List Token). Ok z) (one text text ts us h.0 k.0 None None h.1 h.2 k.1 k.2).0
one_token_list text (Ok ts) (Err q) h k =
    none_is q (one text text ts k.0 h.0 k.1 None (Some q) h.1 h.2 k.3 (k.2, k.4, k.5, k.6)).1
one_token_list text (Err p) (Ok us) h k =
    none_is p (sym (one text text h.0 us h.1 k.0 (Some p) None h.3 (h.2, h.4, h.5, h.6) k.1 k.2).1)
one_token_list text (Err p) (Err q) h k =
    ap (λ (z : ℕ). Err z) (some_places p q (one text text h.0 k.0 h.1 k.1 (Some p) (Some q) h.3 (h.2, h.4, h.5, h.6) k.3 (k.2, k.4, k.5, k.6)).1)

-- ---- the loop goes on with less

pub gap_less : (blanks : List (List ℕ)) (from start : List ℕ) → Gap blanks from start → length start ≤ length from
gap_less [] from start g = omega (arith, ap length g)
gap_less (blank ∷ blanks) from start g = omega (arith, gap_less blanks g.0 start g.3, ap length g.1, length-append blank g.0)

abbrev Positive : List (List ℕ) → Type 0
Positive [] = Unit {0}
Positive (s ∷ ss) = (0 < length s) × Positive ss

symbol_positive : (ss : List (List ℕ)) → Positive ss → (slice : List ℕ) → IsOneOf ss slice → 0 < length slice
symbol_positive [] all slice h = absurd h
symbol_positive (s ∷ ss) all slice (inl e) = omega (arith, ap length e, all.0)
symbol_positive (s ∷ ss) all slice (inr h) = symbol_positive ss all.1 slice h

form_positive : (k : Kind) (slice : List ℕ) → HasForm k slice → 0 < length slice
form_positive kind.Pname slice h = omega (arith, ap length h.2, length-append h.0 (58 ∷ h.1))
form_positive kind.BlankLabel slice h = omega (arith, ap length h.3)
form_positive kind.AtWord slice h = omega (arith, ap length h.1)
form_positive kind.Iri slice h = omega (arith, ap length h.1.2)
form_positive kind.Text slice (cs, inl (inl h)) = omega (arith, ap length h.1)
form_positive kind.Text slice (cs, inl (inr h)) = omega (arith, ap length h.1)
form_positive kind.Text slice (cs, inr (inl h)) = omega (arith, ap length h.1)
form_positive kind.Text slice (cs, inr (inr h)) = omega (arith, ap length h.1)
form_positive kind.Integer slice h = omega (arith, ap length h.2, length-append h.0 h.1, h.4.0)
form_positive kind.Decimal slice h = omega (arith, ap length h.2, length-append h.0 h.1, ap length h.4.2, length-append h.4.0 (46 ∷ h.4.1))
form_positive kind.Double slice h =
    omega (arith, ap length h.2, length-append h.0 h.1, ap length h.4.2, length-append h.4.0 h.4.1, ap length h.4.4.3)
form_positive kind.Var slice h = omega (arith, ap length h.3)
form_positive kind.Word slice h = omega (arith, ap length h.2)
form_positive kind.Symbol slice h = symbol_positive symbols (omega arith, (omega arith, (omega arith, (omega arith, (omega arith, (omega arith, (omega arith, (omega arith, (omega arith, (omega arith, (omega arith, (omega arith, (omega arith, (omega arith, (omega arith, (omega arith, (omega arith, (omega arith, (omega arith, (omega arith, (omega arith, (omega arith, (omega arith, tt))))))))))))))))))))))) slice h

pub token_less : (from start : List ℕ) (k : Kind) (after : List ℕ) → HasGap from start → IsToken start k after → length after < length from
token_less from start k after g is =
    omega (arith, gap_less g.0 from start g.1, ap length is.parts, length-append is.slice after, form_positive k is.slice is.form)

-- ---- what the loop sees

pub record IsStart (text from start : List ℕ) : Type 0 where
  pub gap : HasGap from start
  pub stops : Stops start
  pub within : Within text start

pub at_start : (text from start : List ℕ) (c : ℕ) (others : List ℕ) → Within text from → start ≡ skip_gap false from → start ≡ c ∷ others → IsStart text from start
at_start text from start c others w e is =
    let s = skip_starts from c others (sym e ∙ is) in
    let g = subst (HasGap from) (sym is) s.0 in
    record { gap = g; stops = subst Stops (sym is) s.1; within = within_start text from start w g }

pub says_fault : (text : List ℕ) (tokens : List Token) (from start : List ℕ) (c : ℕ) (others : List ℕ) (size place : ℕ) → AreTokens text text tokens from → IsStart text from start → start ≡ c ∷ others
    → token_at start ≡ None → size ≡ byte_count text → place ≡ size - byte_count start → Tokenizes text (Err place)
says_fault text tokens from start c others size place r s is none e p =
    (tokens, from, start, r, s.gap, subst NoToken (sym is) (no_token c others (subst Stops is s.stops) (ap token_at (sym is) ∙ none)), at_from text start size place s.within e p)

pub says_end : (text : List ℕ) (tokens : List Token) (from start : List ℕ) → AreTokens text text tokens from → start ≡ skip_gap false from → start ≡ [] → Tokenizes text (Ok tokens)
says_end text tokens from start r e is = (from, r, skip_ends from (sym e ∙ is))

pub start_bytes : (text from start : List ℕ) (size : ℕ) → IsStart text from start → size ≡ byte_count text → byte_count start ≤ size
start_bytes text from start size s e = omega (arith, within_bytes text start s.within, e)

pub after_bytes : (text from start : List ℕ) (k : Kind) (after : List ℕ) (size : ℕ) → IsStart text from start → token_at start ≡ Some (k, after) → size ≡ byte_count text → byte_count after ≤ size
after_bytes text from start k after size s t e = omega (arith, within_bytes text after (within_after text start k after s.within (token_is start k after t)), e)

pub goes_on : (text : List ℕ) (tokens now : List Token) (from start : List ℕ) (k : Kind) (after : List ℕ) (size : ℕ) (t : Token) → AreTokens text text tokens from → IsStart text from start
    → token_at start ≡ Some (k, after) → size ≡ byte_count text → t ≡ record { kind = k; start = size - byte_count start; stop = size - byte_count after } → now ≡ tokens ++ t ∷ []
    → AreTokens text text now after × Within text after
goes_on text tokens now from start k after size t r s read e is list =
    let it = token_is start k after read in
    let w = within_after text start k after s.within it in
    let made : Token = record { kind = k; start = size - byte_count start; stop = size - byte_count after } in
    let pushed : AreTokens text text (tokens ++ made ∷ []) after =
    runs_push text text tokens from start after made r s.gap it
    (at_from text start size (size - byte_count start) s.within e refl) (at_from text after size (size - byte_count after) w e refl) in
    (subst (λ (x : List Token). AreTokens text text x after) (sym (list ∙ ap (λ (x : Token). tokens ++ x ∷ []) is)) pushed, w)

pub gets_less : (text from start : List ℕ) (k : Kind) (after : List ℕ) → IsStart text from start → token_at start ≡ Some (k, after) → length after < length from
gets_less text from start k after s read = token_less from start k after s.gap (token_is start k after read)
