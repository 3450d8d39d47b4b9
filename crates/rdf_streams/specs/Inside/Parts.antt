-- Lines of triples that are held without what repeats, and the text that they are.
use Rattle.std.specs.Prelude.{◌≡◌, ◌≤◌, ◌<◌, ℕ, ◌+◌, List, [], ◌∷◌, ◌++◌, codes, drop, length, take, slice_get, Option, Some, None, IfSome}
use Rattle.rdf_terms.specs.TermText.{term_text}
use Rattle.rdf_terms.specs.declared.term.Term.{Term}
use Rattle.rdf_terms.specs.declared.term.Term.TheVariants as term
use Rattle.rdf_streams.specs.declared.conversion.held.Held.{Held}
use Rattle.rdf_streams.specs.declared.conversion.parts.Part.{Part}
use Rattle.rdf_streams.specs.declared.conversion.parts.Part.TheVariants.{Subject, Line, Text}

-- the text of the predicate that has a number
abbrev pub text_at : Option Term → List ℕ
text_at (Some t) = term_text t
text_at None = []

abbrev pub predicate_text : List Term → ℕ → List ℕ
predicate_text predicates number = text_at (slice_get predicates number)

-- ---- one part, which takes bytes from the front of texts

-- how many
abbrev pub size : Part → ℕ
size (Subject n) = n
size (Line number n) = n
size (Text n) = n

-- the text that it is, by the subject before it
abbrev pub part_text : List Term → List ℕ → Part → List ℕ → List ℕ
part_text predicates subject (Subject n) texts = []
part_text predicates subject (Line number n) texts = subject ++ codes " " ++ predicate_text predicates number ++ codes " " ++ take n texts
part_text predicates subject (Text n) texts = take n texts

-- the subject behind it
abbrev pub next_subject : List ℕ → Part → List ℕ → List ℕ
next_subject subject (Subject n) texts = take n texts
next_subject subject (Line number n) texts = subject
next_subject subject (Text n) texts = subject

-- its number, if it has one, is that of an IRI
abbrev pub HasPredicate : List Term → Part → Type 0
HasPredicate predicates (Subject n) = Unit {0}
HasPredicate predicates (Line number n) = (iri : List ℕ) × (slice_get predicates number ≡ Some (term.Iri iri))
HasPredicate predicates (Text n) = Unit {0}

-- ---- parts, one behind another

abbrev pub bytes_of : List Part → ℕ
bytes_of [] = 0
bytes_of (part ∷ parts) = size part + bytes_of parts

abbrev pub said : List Term → List ℕ → List Part → List ℕ → List ℕ
said predicates subject [] texts = []
said predicates subject (part ∷ parts) texts =
    part_text predicates subject part texts ++ said predicates (next_subject subject part texts) parts (drop (size part) texts)

abbrev pub subject_behind : List ℕ → List Part → List ℕ → List ℕ
subject_behind subject [] texts = subject
subject_behind subject (part ∷ parts) texts = subject_behind (next_subject subject part texts) parts (drop (size part) texts)

abbrev pub HavePredicates : List Term → List Part → Type 0
HavePredicates predicates [] = Unit {0}
HavePredicates predicates (part ∷ parts) = HasPredicate predicates part × HavePredicates predicates parts

-- parts that are texts, so many bytes of them, behind others
abbrev pub AreAllTexts : List Part → Type 0
AreAllTexts [] = Unit {0}
AreAllTexts (Subject n ∷ parts) = ⊥
AreAllTexts (Line number n ∷ parts) = ⊥
AreAllTexts (Text n ∷ parts) = AreAllTexts parts

abbrev pub AreTexts : ℕ → List Part → List Part → Type 0
AreTexts count old new = (more : List Part) × (new ≡ old ++ more) × AreAllTexts more × (bytes_of more ≡ count)

-- the parts of a line, which take so many bytes, behind others
abbrev pub AreLine : ℕ → ℕ → List Part → List Part → Type 0
AreLine number count old new = (first : ℕ) × (more : List Part) × (new ≡ old ++ Line number first ∷ more) × AreAllTexts more × (first + bytes_of more ≡ count)

-- what stands behind the predicate of a line
abbrev pub rest_text : Term → List ℕ
rest_text object = term_text object ++ codes " .\n"

-- each predicate keeps its number
pub record IsGrown (old new : List Term) : Type 0 where
  pub kept : (number : ℕ) (t : Term) → slice_get old number ≡ Some t → slice_get new number ≡ Some t

-- The parts take all of the texts, the last subject is the one that is noted, and each number is that of a predicate.
pub record Holds (held : Held) : Type 0 where
  pub all : bytes_of held.parts.items ≡ length held.texts.items
  pub subject : IfSome held.subject (λ subject. subject_behind [] held.parts.items held.texts.items ≡ term_text subject)
  pub predicates : HavePredicates held.predicates held.parts.items

abbrev pub text_of : Held → List ℕ
text_of held = said held.predicates [] held.parts.items held.texts.items

-- The same text is held.
pub record Keeps (old new : Held) : Type 0 where
  pub holds : Holds old → Holds new
  pub text : Holds old → text_of new ≡ text_of old
  pub parts : length old.parts.items ≤ length new.parts.items

-- This text is held behind what was held.
pub record HoldsOn (old new : Held) (more : List ℕ) : Type 0 where
  pub holds : Holds old → Holds new
  pub text : Holds old → text_of new ≡ text_of old ++ more
  pub parts : length old.parts.items < length new.parts.items
