-- What is held of lines: parts behind others, predicates behind others.
use Rattle.std.proofs.Common.{◌≡◌, ◌∙◌, ◌≤◌, ◌<◌, ap, refl, sym, subst, arith, ℕ, zero, suc, ◌+◌, true, false, cond, List, [], ◌∷◌, ◌++◌, codes, drop, take, length, length-append, length-drop, append_assoc, append-nil, Option, Some, None}
use Rattle.std.specs.Prelude.{IfSome, OnErr, OnOk, Result, Ok, Err, slice_get}
use Rattle.std.proofs.Math.Seq.{take-length}
use Rattle.std.proofs.lemmas.List.{take-append-drop, take-append-le, drop-append-le}
use Rattle.rdf_lines.specs.QuadText.{quad_text}
use Rattle.rdf_terms.specs.Quad.{QuadParts}
use Rattle.rdf_terms.specs.Table.{IsIdOf, is_held, with_term}
use Rattle.rdf_terms.specs.TermText.{term_text}
use Rattle.rdf_terms.specs.declared.term.Term.{Term}
use Rattle.rdf_terms.specs.declared.term.Term.TheVariants as term
use Rattle.rdf_turtle.specs.ParserState.{triple}
use Rattle.rdf_streams.specs.Inside.Parts.{AreAllTexts, AreLine, AreTexts, HasPredicate, HavePredicates, Holds, HoldsOn, IsGrown, Keeps, bytes_of, next_subject, part_text, predicate_text, rest_text, said, size, subject_behind, text_at, text_of}
use Rattle.rdf_streams.specs.declared.conversion.held.Held.{Held}
use Rattle.rdf_streams.specs.declared.conversion.parts.Part.{Part}
use Rattle.rdf_streams.specs.declared.conversion.parts.Part.TheVariants.{Subject, Line, Text}

-- ---- texts of which some bytes are taken

taken : (n m : ℕ) (texts : List ℕ) → n + m ≡ length texts → n ≤ length texts
taken n m texts h = omega (arith, h)

left : (n m : ℕ) (texts : List ℕ) → n + m ≡ length texts → m ≡ length (drop n texts)
left n m texts h = omega (arith, h, length-drop n texts)

none_left : (x : ℕ) (texts : List ℕ) → 0 ≡ length (x ∷ texts) → ⊥
none_left x texts h = omega (arith, h)

-- ---- texts that go on behind a part's own

part_text-append : (known : List Term) (s : List ℕ) (p : Part) (t u : List ℕ) → size p ≤ length t → part_text known s p (t ++ u) ≡ part_text known s p t
part_text-append known s (Subject n) t u h = refl
part_text-append known s (Line k n) t u h = ap (λ (x : List ℕ). s ++ codes " " ++ predicate_text known k ++ codes " " ++ x) (take-append-le n t u h)
part_text-append known s (Text n) t u h = take-append-le n t u h

next-append : (s : List ℕ) (p : Part) (t u : List ℕ) → size p ≤ length t → next_subject s p (t ++ u) ≡ next_subject s p t
next-append s (Subject n) t u h = take-append-le n t u h
next-append s (Line k n) t u h = refl
next-append s (Text n) t u h = refl

-- ---- parts behind others

pub bytes-append : (ps qs : List Part) → bytes_of (ps ++ qs) ≡ bytes_of ps + bytes_of qs
bytes-append [] qs = omega arith
bytes-append (p ∷ ps) qs = omega (arith, bytes-append ps qs)

pub have-append : (known : List Term) (ps qs : List Part) → HavePredicates known ps → HavePredicates known qs → HavePredicates known (ps ++ qs)
have-append known [] qs h k = k
have-append known (p ∷ ps) qs h k = (h.0, have-append known ps qs h.1 k)

module _ (known : List Term) (qs : List Part) (u : List ℕ) where
  pub said-append : (s : List ℕ) (ps : List Part) (t : List ℕ) → bytes_of ps ≡ length t → said known s (ps ++ qs) (t ++ u) ≡ said known s ps t ++ said known (subject_behind s ps t) qs u
  said-append s [] [] h = refl
  said-append s [] (x ∷ t) h = absurd (none_left x t h)
  said-append s (p ∷ ps) t h =
      let less : size p ≤ length t = taken (size p) (bytes_of ps) t h in
      let more = said-append (next_subject s p t) ps (drop (size p) t) (left (size p) (bytes_of ps) t h) in
      rw (part_text-append known s p t u less, next-append s p t u less, drop-append-le (size p) t u less)
      (ap (λ (x : List ℕ). part_text known s p t ++ x) more ∙ sym (append_assoc (part_text known s p t) _ _))

  pub behind-append : (s : List ℕ) (ps : List Part) (t : List ℕ) → bytes_of ps ≡ length t → subject_behind s (ps ++ qs) (t ++ u) ≡ subject_behind (subject_behind s ps t) qs u
  behind-append s [] [] h = refl
  behind-append s [] (x ∷ t) h = absurd (none_left x t h)
  behind-append s (p ∷ ps) t h =
      let less : size p ≤ length t = taken (size p) (bytes_of ps) t h in
      ap (λ (x : List ℕ). subject_behind x (ps ++ qs) (drop (size p) (t ++ u))) (next-append s p t u less)
      ∙ ap (λ (x : List ℕ). subject_behind (next_subject s p t) (ps ++ qs) x) (drop-append-le (size p) t u less)
      ∙ behind-append (next_subject s p t) ps (drop (size p) t) (left (size p) (bytes_of ps) t h)

-- ---- parts that are texts

pub one_text_more : (ps : List Part) (n : ℕ) → AreAllTexts ps → AreAllTexts (ps ++ Text n ∷ [])
one_text_more [] n a = tt
one_text_more (Text m ∷ ps) n a = one_text_more ps n a
one_text_more (Subject m ∷ ps) n a = absurd a
one_text_more (Line k m ∷ ps) n a = absurd a

pub bytes_more : (ps : List Part) (n : ℕ) → bytes_of (ps ++ Text n ∷ []) ≡ bytes_of ps + n
bytes_more ps n = omega (arith, bytes-append ps (Text n ∷ []))

all_taken : (n : ℕ) (t : List ℕ) → n ≡ length t → take n t ≡ t
all_taken n t h = ap (λ k. take k t) h ∙ take-length t

pub texts_say : (known : List Term) (s : List ℕ) (ps : List Part) (t : List ℕ) → AreAllTexts ps → bytes_of ps ≡ length t → said known s ps t ≡ t
texts_say known s [] [] a h = refl
texts_say known s [] (x ∷ t) a h = absurd (none_left x t h)
texts_say known s (Text n ∷ ps) t a h = ap (λ (x : List ℕ). take n t ++ x) (texts_say known s ps (drop n t) a (left n (bytes_of ps) t h)) ∙ take-append-drop n t
texts_say known s (Subject n ∷ ps) t a h = absurd a
texts_say known s (Line k n ∷ ps) t a h = absurd a

pub texts_behind : (s : List ℕ) (ps : List Part) (t : List ℕ) → AreAllTexts ps → subject_behind s ps t ≡ s
texts_behind s [] t a = refl
texts_behind s (Text n ∷ ps) t a = texts_behind s ps (drop n t) a
texts_behind s (Subject n ∷ ps) t a = absurd a
texts_behind s (Line k n ∷ ps) t a = absurd a

pub texts_have : (known : List Term) (ps : List Part) → AreAllTexts ps → HavePredicates known ps
texts_have known [] a = tt
texts_have known (Text n ∷ ps) a = (tt, texts_have known ps a)
texts_have known (Subject n ∷ ps) a = absurd a
texts_have known (Line k n ∷ ps) a = absurd a

-- ---- more predicates

kept_behind : (xs ys : List Term) (k : ℕ) (x : Term) → slice_get xs k ≡ Some x → slice_get (xs ++ ys) k ≡ Some x
kept_behind [] ys k x h = absurd cc
kept_behind (y ∷ xs) ys zero x h = h
kept_behind (y ∷ xs) ys (suc k) x h = kept_behind xs ys k x h

pub grown_with : (known : List Term) (x : Term) → IsGrown known (with_term known x)
grown_with known x = elim (is_held known x) as (λ b. IsGrown known (cond b known (known ++ x ∷ []))) [
  | true ↦ record { kept = λ k y h. h }
  | false ↦ record { kept = λ k y h. kept_behind known (x ∷ []) k y h }
]

pub grown_from : (known more : List Term) (x : Term) → more ≡ with_term known x → IsGrown known more
grown_from known more x is = subst (IsGrown known) (sym is) (grown_with known x)

pub grown_same : (known more : List Term) → more ≡ known → IsGrown known more
grown_same known more is = record { kept = λ k x h. ap (λ (l : List Term). slice_get l k) is ∙ h }

module _ (known more : List Term) (grown : IsGrown known more) where
  has_more : (p : Part) → HasPredicate known p → HasPredicate more p
  has_more (Subject n) h = tt
  has_more (Line k n) h = (h.0, grown.kept k (term.Iri h.0) h.1)
  has_more (Text n) h = tt

  part_more : (s : List ℕ) (p : Part) (t : List ℕ) → HasPredicate known p → part_text more s p t ≡ part_text known s p t
  part_more s (Subject n) t h = refl
  part_more s (Line k n) t h = ap (λ (o : Option Term). s ++ codes " " ++ text_at o ++ codes " " ++ take n t) (grown.kept k (term.Iri h.0) h.1 ∙ sym h.1)
  part_more s (Text n) t h = refl

  pub have_more : (ps : List Part) → HavePredicates known ps → HavePredicates more ps
  have_more [] h = tt
  have_more (p ∷ ps) h = (has_more p h.0, have_more ps h.1)

  pub say_more : (s : List ℕ) (ps : List Part) (t : List ℕ) → HavePredicates known ps → said more s ps t ≡ said known s ps t
  say_more s [] t h = refl
  say_more s (p ∷ ps) t h =
      ap (λ (x : List ℕ). x ++ said more (next_subject s p t) ps (drop (size p) t)) (part_more s p t h.0)
      ∙ ap (λ (x : List ℕ). part_text known s p t ++ x) (say_more (next_subject s p t) ps (drop (size p) t) h.1)

-- ---- what is held

line_end : (front o : List ℕ) → front ++ (o ++ codes " .\n") ≡ front ++ o ++ codes " " ++ [] ++ codes ".\n"
line_end front o = simp append_assoc

some_bytes : (front : List ℕ) → 1 ≤ length (front ++ codes ".\n")
some_bytes front = omega (arith, length-append front (codes ".\n"))

pub line_is_long : (q : QuadParts) → 1 ≤ length (quad_text q)
line_is_long q = some_bytes _

-- nothing is held
pub nothing_held : (held : Held) → held.texts.items ≡ [] → held.parts.items ≡ [] → held.subject ≡ None → Holds held
nothing_held held t p s = record {
  all = rw (t, p) refl;
  subject = rw (s) tt;
  predicates = rw (p) tt;
}

pub keeps_then : (a b c : Held) → Keeps a b → Keeps b c → Keeps a c
keeps_then a b c k l = record {
  holds = λ h. l.holds (k.holds h);
  text = λ h. l.text (k.holds h) ∙ k.text h;
  parts = (let x = k.parts in let y = l.parts in omega (arith, x, y));
}

pub holds_then : (a b c : Held) (line : List ℕ) → Keeps a b → HoldsOn b c line → HoldsOn a c line
holds_then a b c line k l = record {
  holds = λ h. l.holds (k.holds h);
  text = λ h. l.text (k.holds h) ∙ ap (λ (x : List ℕ). x ++ line) (k.text h);
  parts = (let x = k.parts in let y = l.parts in omega (arith, x, y));
}

-- of an answer
pub where_ok : {E A B : Type 0} (r : Result (Unit {0}) E) → OnOk r A → (A → B) → OnOk r B
where_ok (Ok u) a f = f a
where_ok (Err e) a f = tt

pub where_err : {E A B : Type 0} (r : Result (Unit {0}) E) → OnErr r A → (A → B) → OnErr r B
where_err (Ok u) a f = tt
where_err (Err e) a f = f a

module _ (old new : Held) where
  -- the parts stand for what they did
  pub keeps_with : new.texts.items ≡ old.texts.items → new.parts.items ≡ old.parts.items → new.subject ≡ old.subject → IsGrown old.predicates new.predicates → Keeps old new
  keeps_with t p s grown = record {
    holds = λ h. record {
      all = rw (t, p) h.all;
      subject = rw (s, t, p) h.subject;
      predicates = rw (p) (have_more old.predicates new.predicates grown old.parts.items h.predicates);
    };
    text = λ h. rw (t, p) (say_more old.predicates new.predicates grown [] old.parts.items old.texts.items h.predicates);
    parts = rw (p) (omega arith);
  }

  pub keeps_all : new.texts.items ≡ old.texts.items → new.parts.items ≡ old.parts.items → new.subject ≡ old.subject → new.predicates ≡ old.predicates → Keeps old new
  keeps_all t p s same = keeps_with t p s (grown_same old.predicates new.predicates same)

  module _ (qs : List Part) (u : List ℕ) (t : new.texts.items ≡ old.texts.items ++ u) (p : new.parts.items ≡ old.parts.items ++ qs) (same : new.predicates ≡ old.predicates)
      (fits : bytes_of qs ≡ length u) (have : HavePredicates old.predicates qs) (h : Holds old) where
    all_more : bytes_of new.parts.items ≡ length new.texts.items
    all_more = rw (t, p) (omega (arith, h.all, fits, bytes-append old.parts.items qs, length-append old.texts.items u))

    predicates_more : HavePredicates new.predicates new.parts.items
    predicates_more = rw (same, p) (have-append old.predicates old.parts.items qs h.predicates have)

    text_more : text_of new ≡ text_of old ++ said old.predicates (subject_behind [] old.parts.items old.texts.items) qs u
    text_more = rw (same, t, p) (said-append old.predicates qs u [] old.parts.items old.texts.items h.all)

    behind_more : subject_behind [] new.parts.items new.texts.items ≡ subject_behind (subject_behind [] old.parts.items old.texts.items) qs u
    behind_more = rw (t, p) (behind-append old.predicates qs u [] old.parts.items old.texts.items h.all)

  -- a subject that is noted
  pub keeps_noted : (x : Term) (n : ℕ) → new.texts.items ≡ old.texts.items ++ term_text x → new.parts.items ≡ old.parts.items ++ Subject n ∷ [] → n ≡ length (term_text x) → new.subject ≡ Some x
      → new.predicates ≡ old.predicates → Keeps old new
  keeps_noted x n t p is s same =
      let fits : bytes_of (Subject n ∷ []) ≡ length (term_text x) = omega (arith, is) in
      let qs = Subject n ∷ [] in
      let u = term_text x in
      record {
        holds = λ h. record {
          all = all_more qs u t p same fits (tt, tt) h;
          subject = rw (s) (behind_more qs u t p same fits (tt, tt) h ∙ all_taken n u is);
          predicates = predicates_more qs u t p same fits (tt, tt) h;
        };
        text = λ h. text_more qs u t p same fits (tt, tt) h ∙ append-nil (text_of old);
        parts = rw (p) (omega (arith, length-append old.parts.items qs));
      }

  -- a line as it is
  pub holds_whole : (line : List ℕ) (count : ℕ) → new.texts.items ≡ old.texts.items ++ line → AreTexts count old.parts.items new.parts.items → count ≡ length line → 0 < count
      → new.subject ≡ old.subject → new.predicates ≡ old.predicates → HoldsOn old new line
  holds_whole line count t (qs, p, texts, bytes) is some s same =
      let fits : bytes_of qs ≡ length line = omega (arith, is, bytes) in
      let have = texts_have old.predicates qs texts in
      record {
        holds = λ h. record {
          all = all_more qs line t p same fits have h;
          subject = rw (s, behind_more qs line t p same fits have h, texts_behind (subject_behind [] old.parts.items old.texts.items) qs line texts) h.subject;
          predicates = predicates_more qs line t p same fits have h;
        };
        text = λ h. text_more qs line t p same fits have h ∙ ap (λ (x : List ℕ). text_of old ++ x) (texts_say old.predicates (subject_behind [] old.parts.items old.texts.items) qs line texts fits);
        parts = rw (p) (omega (arith, length-append old.parts.items qs, some_parts qs bytes some));
      }
    where
      some_parts : (ps : List Part) → bytes_of ps ≡ count → 0 < count → 0 < length ps
      some_parts [] b k = omega (arith, b, k)
      some_parts (q ∷ ps) b k = omega arith

  -- a line by its parts
  pub holds_line : (subject object : Term) (predicate : List ℕ) (number count : ℕ) → new.texts.items ≡ old.texts.items ++ rest_text object → AreLine number count old.parts.items new.parts.items
      → count ≡ length (rest_text object) → new.subject ≡ old.subject → new.predicates ≡ old.predicates → old.subject ≡ Some subject → IsIdOf old.predicates number (term.Iri predicate)
      → HoldsOn old new (quad_text (triple subject predicate object))
  holds_line subject object predicate number count t (first, more, p, texts, bytes) is s same noted id =
      let u = rest_text object in
      let qs = Line number first ∷ more in
      let fits : bytes_of qs ≡ length u = omega (arith, is, bytes) in
      let have : HavePredicates old.predicates qs = ((predicate, id), texts_have old.predicates more texts) in
      let s0 = subject_behind [] old.parts.items old.texts.items in
      record {
        holds = λ h. record {
          all = all_more qs u t p same fits have h;
          subject = rw (s, behind_more qs u t p same fits have h, texts_behind s0 more (drop first u) texts) h.subject;
          predicates = predicates_more qs u t p same fits have h;
        };
        text = λ h. text_more qs u t p same fits have h ∙ ap (λ (x : List ℕ). text_of old ++ x) (line_said s0 u first more texts fits (is_subject h) (ap text_at id) ∙ line_end (term_text subject ++ codes " " ++ term_text (term.Iri predicate) ++ codes " ") (term_text object));
        parts = rw (p) (omega (arith, length-append old.parts.items qs));
      }
    where
      is_subject : Holds old → subject_behind [] old.parts.items old.texts.items ≡ term_text subject
      is_subject h = subst (λ (o : Option Term). IfSome o (λ x. subject_behind [] old.parts.items old.texts.items ≡ term_text x)) noted h.subject

      line_said : (s0 u : List ℕ) (first : ℕ) (more : List Part) → AreAllTexts more → first + bytes_of more ≡ length u → s0 ≡ term_text subject → predicate_text old.predicates number ≡ term_text (term.Iri predicate)
          → said old.predicates s0 (Line number first ∷ more) u ≡ term_text subject ++ codes " " ++ term_text (term.Iri predicate) ++ codes " " ++ u
      line_said s0 u first more texts fits e k =
          let front = s0 ++ codes " " ++ predicate_text old.predicates number ++ codes " " in
          ap (λ (x : List ℕ). (front ++ take first u) ++ x) (texts_say old.predicates s0 more (drop first u) texts (left first (bytes_of more) u fits))
          ∙ append_assoc front (take first u) (drop first u) ∙ ap (λ (x : List ℕ). front ++ x) (take-append-drop first u)
          ∙ ap (λ (x : List ℕ). x ++ codes " " ++ predicate_text old.predicates number ++ codes " " ++ u) e
          ∙ ap (λ (x : List ℕ). term_text subject ++ codes " " ++ x ++ codes " " ++ u) k
