-- A reader of a part, its form, and the parts of a line.
use Rattle.std.proofs.Common.{◌≡◌, ◌≢◌, ℕ, ◌≤◌, true, false, eqb, List, [], ◌∷◌, ◌++◌, length, Option, Some, refl, sym, ap, subst, ◌∙◌, inl, inr, length-append, arith}
use Rattle.std.proofs.lemmas.Bool.{cases_Bool, eq-eqb, ne_eqb, true≢false}
use Rattle.rdf_terms.specs.Reading.{iri_at, quoted_at}
use Rattle.rdf_terms.specs.Quoted.{IsIriRef}
use Rattle.rdf_terms.proofs.CallerLemmas.{some_pair, iri_sound, iri_complete, quoted_sound, quoted_complete, skip_over, skip_front, skip_stop, skip_end, tag_greedy}
use Rattle.rdf_terms.specs.Skips.{skip}
use Rattle.rdf_terms.specs.Tags.{tag_end_at}
use Rattle.rdf_lines.specs.Reading.{first_is, skip_white, label_at, label_end_at, tag_at}
use Rattle.rdf_lines.specs.Grammar.{is_white, IsString, IsBlankLabel, IsTag, Takes, Gap, Next}
use Rattle.rdf_lines.proofs.GreedyLemmas.{greedy_sound, greedy_complete}
use Rattle.rdf_lines.proofs.BlankLabelLemmas.{label_greedy}

abbrev pub NotWhite : List ℕ → Type 0
NotWhite [] = Unit {0}
NotWhite (c ∷ _) = is_white c ≡ false

-- the list begins with the character
abbrev pub Begins : ℕ → List ℕ → Type 0
Begins c cs = (others : List ℕ) × (cs ≡ c ∷ others)

-- What a reader answers is the longest part of the form, and that part is what it answers; parts begin with one character.
pub record IsReader {V : Type 0} (first : ℕ) (Form : List ℕ → V → Type 0) (read : List ℕ → Option (V × List ℕ)) : Type 0 where
  pub sound : (cs : List ℕ) (v : V) (rest : List ℕ) → read cs ≡ Some (v, rest) → Takes Form cs v rest
  pub complete : (cs : List ℕ) (v : V) (rest : List ℕ) → Takes Form cs v rest → read cs ≡ Some (v, rest)
  pub begins : (cs : List ℕ) (v : V) (rest : List ℕ) → Takes Form cs v rest → Begins first cs
  pub black : is_white first ≡ false

-- ---- parts of which no longer one exists, whatever follows

same_front : (a b x y : List ℕ) → a ++ x ≡ b ++ y → x ≡ y → length b ≤ length a
same_front a b x y e f = omega (arith, ap length e, ap length f, length-append a x, length-append b y)

exact_sound : {V : Type 0} (Form : List ℕ → V → Type 0) (read : List ℕ → Option (V × List ℕ))
    → ((slice : List ℕ) (v : V) (rest : List ℕ) → Form slice v → read (slice ++ rest) ≡ Some (v, rest))
    → (cs : List ℕ) (v : V) (rest : List ℕ) → (slice : List ℕ) × (cs ≡ slice ++ rest) × Form slice v → Takes Form cs v rest
exact_sound {V} Form read complete cs v rest s = record {
  slice = s.0;
  form = s.2;
  parts = s.1;
  longest = λ longer after other form e.
      let here : read cs ≡ Some (v, rest) = ap read s.1 ∙ complete s.0 v rest s.2 in
      let there : read cs ≡ Some (other, after) = ap read e ∙ complete longer other after form in
      same_front s.0 longer rest after (sym s.1 ∙ e) (some_pair v other rest after (sym here ∙ there)).1;
}

-- ---- the readers

pub iri_reader : IsReader 60 IsIriRef iri_at
iri_reader = record {
  sound = λ cs text rest e. exact_sound IsIriRef iri_at iri_complete cs text rest (iri_sound cs text rest e);
  complete = λ cs text rest t. ap iri_at t.parts ∙ iri_complete t.slice text rest t.form;
  begins = λ cs text rest t. ((t.form.0 ++ 62 ∷ []) ++ rest, t.parts ∙ ap (λ (s : List ℕ). s ++ rest) t.form.2);
  black = refl;
}

-- a test tells two characters apart
pub differs : (c d : ℕ) → eqb c d ≡ false → c ≢ d
differs c d e same = true≢false (sym (eq-eqb c d same) ∙ e)

pub string_reader : IsReader 34 IsString (quoted_at 34)
string_reader = record {
  sound = λ cs text rest e. exact_sound IsString (quoted_at 34) (quoted_complete 34 (differs 92 34 refl)) cs text rest (quoted_sound 34 (differs 92 34 refl) cs text rest e);
  complete = λ cs text rest t. ap (quoted_at 34) t.parts ∙ quoted_complete 34 (differs 92 34 refl) t.slice text rest t.form;
  begins = λ cs text rest t. ((t.form.0 ++ 34 ∷ []) ++ rest, t.parts ∙ ap (λ (s : List ℕ). s ++ rest) t.form.2);
  black = refl;
}

label_sound : (cs text rest : List ℕ) → label_at cs ≡ Some (text, rest) → Takes IsBlankLabel cs text rest
unfolding label_at
label_sound cs text rest e = greedy_sound label_end_at label_greedy (95 ∷ 58 ∷ []) cs text rest e

label_complete : (cs text rest : List ℕ) → Takes IsBlankLabel cs text rest → label_at cs ≡ Some (text, rest)
unfolding label_at
label_complete cs text rest t = greedy_complete label_end_at label_greedy (95 ∷ 58 ∷ []) cs text rest t

pub label_reader : IsReader 95 IsBlankLabel label_at
label_reader = record {
  sound = label_sound;
  complete = label_complete;
  begins = λ cs text rest t. (58 ∷ (t.form.0 ++ rest), t.parts ∙ ap (λ (s : List ℕ). s ++ rest) t.form.1);
  black = refl;
}

tag_sound : (cs text rest : List ℕ) → tag_at cs ≡ Some (text, rest) → Takes IsTag cs text rest
unfolding tag_at
tag_sound cs text rest e = greedy_sound tag_end_at tag_greedy (64 ∷ []) cs text rest e

tag_complete : (cs text rest : List ℕ) → Takes IsTag cs text rest → tag_at cs ≡ Some (text, rest)
unfolding tag_at
tag_complete cs text rest t = greedy_complete tag_end_at tag_greedy (64 ∷ []) cs text rest t

pub tag_reader : IsReader 64 IsTag tag_at
tag_reader = record {
  sound = tag_sound;
  complete = tag_complete;
  begins = λ cs text rest t. (t.form.0 ++ rest, t.parts ∙ ap (λ (s : List ℕ). s ++ rest) t.form.1);
  black = refl;
}

-- ---- gaps

pub gap_skip : (cs : List ℕ) → Gap cs (skip_white cs)
gap_skip cs = let f = skip_front is_white cs in (f.0, f.2, f.1)

skip_none : (start : List ℕ) → NotWhite start → skip_white start ≡ start
skip_none [] h = skip_end is_white
skip_none (c ∷ cs) h = skip_stop is_white c cs h

pub skip_gap : (cs start : List ℕ) → Gap cs start → NotWhite start → skip_white cs ≡ start
skip_gap cs start g h = ap skip_white g.2 ∙ skip_over is_white g.0 start g.1 ∙ skip_none start h

skipped_black : (cs : List ℕ) → NotWhite (skip_white cs)
unfolding skip
skipped_black [] = tt
skipped_black (c ∷ cs) =
    elim (cases_Bool (is_white c)) [
      | inl is ↦ rw is (skipped_black cs)
      | inr not ↦ rw not not
    ]

pub skip_twice : (cs : List ℕ) → skip_white (skip_white cs) ≡ skip_white cs
skip_twice cs = skip_none (skip_white cs) (skipped_black cs)

pub black_begins : (c : ℕ) (cs : List ℕ) → is_white c ≡ false → Begins c cs → NotWhite cs
black_begins c cs h b = subst NotWhite (sym b.1) h

-- ---- a gap and a part

pub next_sound : {V : Type 0} {first : ℕ} (Form : List ℕ → V → Type 0) (read : List ℕ → Option (V × List ℕ)) → IsReader first Form read
    → (cs : List ℕ) (v : V) (rest : List ℕ) → read (skip_white cs) ≡ Some (v, rest) → Next Form cs v rest
next_sound Form read is cs v rest e = (skip_white cs, gap_skip cs, is.sound (skip_white cs) v rest e)

next_start : {V : Type 0} (first : ℕ) (Form : List ℕ → V → Type 0) (read : List ℕ → Option (V × List ℕ)) → IsReader first Form read
    → (cs : List ℕ) (v : V) (rest : List ℕ) (n : Next Form cs v rest) → skip_white cs ≡ n.0
next_start first Form read is cs v rest n = skip_gap cs n.0 n.1 (black_begins first n.0 is.black (is.begins n.0 v rest n.2))

pub next_complete : {V : Type 0} {first : ℕ} (Form : List ℕ → V → Type 0) (read : List ℕ → Option (V × List ℕ)) → IsReader first Form read
    → (cs : List ℕ) (v : V) (rest : List ℕ) → Next Form cs v rest → read (skip_white cs) ≡ Some (v, rest)
next_complete {V} {first} Form read is cs v rest n = ap read (next_start first Form read is cs v rest n) ∙ is.complete n.0 v rest n.2

pub next_begins : {V : Type 0} {first : ℕ} (Form : List ℕ → V → Type 0) (read : List ℕ → Option (V × List ℕ)) → IsReader first Form read
    → (cs : List ℕ) (v : V) (rest : List ℕ) → Next Form cs v rest → Begins first (skip_white cs)
next_begins {V} {first} Form read is cs v rest n =
    let b = is.begins n.0 v rest n.2 in
    (b.0, next_start first Form read is cs v rest n ∙ b.1)

-- ---- the first character

first_here : (c : ℕ) (cs : List ℕ) → first_is c (c ∷ cs) ≡ true
unfolding first_is
first_here c cs = eq-eqb c c refl

first_apart : (c d : ℕ) (cs : List ℕ) → d ≢ c → first_is c (d ∷ cs) ≡ false
unfolding first_is
first_apart c d cs ne = ne_eqb d c ne

pub first_begins : (c : ℕ) (cs : List ℕ) → Begins c cs → first_is c cs ≡ true
first_begins c cs b = ap (first_is c) b.1 ∙ first_here c b.0

pub first_other : (c d : ℕ) (cs : List ℕ) → d ≢ c → Begins d cs → first_is c cs ≡ false
first_other c d cs ne b = ap (first_is c) b.1 ∙ first_apart c d b.0 ne
