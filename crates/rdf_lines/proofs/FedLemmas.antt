-- A reader that is fed its text a piece at a time.
use Rattle.std.proofs.Common.{◌≡◌, ◌≢◌, ◌∙◌, inl, inr, ap, refl, sym, subst, ℕ, ◌+◌, ◌≤◌, ◌<◌, arith, Bool, true, false, List, [], ◌∷◌, ◌++◌, length, take, drop, slice_range, append_assoc, append-nil, length-append, length-drop, ◌==◌, take-append-drop, Option, Some, None}
use Rattle.std.proofs.lemmas.Bool.Decides.{Decides-eqb}
use Rattle.std.specs.Prelude.{Ok, Err}
use Rattle.rdf_lines.specs.Document.{HasSaid, IsDocument, ReadsAll, ReadsFront}
use Rattle.rdf_lines.specs.FaultName.{no_memory}
use Rattle.rdf_lines.specs.Fed.{Ends, Faults, Fed, FedBegins, HasBeenFed, StopsFed, and_then, behind_front, with_front}
use Rattle.rdf_lines.specs.Labels.{all_noted, labels_of, quad_in}
use Rattle.rdf_lines.specs.Line.{LineSays}
use Rattle.rdf_lines.specs.Lines.{lines, lines_behind}
use Rattle.rdf_lines.specs.Pieces.{HasLine, HasNoLine, Hold, feed_len, onto}
use Rattle.rdf_lines.specs.Reader.{Answer, FaultOf, ReadsLine, fault}
use Rattle.rdf_lines.specs.declared.cut.Place.{Place}
use Rattle.rdf_lines.specs.declared.fault.FaultKind.{FaultKind}
use Rattle.rdf_lines.specs.declared.fault.FaultKind.TheVariants.{NotUtf8, Syntax, Relative, Read, NoMemory, Failed}
use Rattle.rdf_lines.specs.declared.fault.LineFault.{LineFault}
use Rattle.rdf_lines.specs.declared.format.LineFormat.{LineFormat}
use Rattle.rdf_terms.specs.declared.quad.Quad.{Quad}
use Rattle.rdf_lines.proofs.FrontLemmas.{said_all, said_document, said_nothing, said_silent, said_statement}
use Rattle.rdf_lines.proofs.LawLemmas.{quads_of, same_fault, some_reading}
use Rattle.rdf_lines.proofs.PieceLemmas.{onto-append, onto-cons, onto-none}

-- ---- the bytes

-- the end of the line, and what may come then
line_holds : (read xs line part : List ℕ) (front : List (List ℕ)) (b c : Bool) → Hold false read front line b → Hold b xs (part ∷ []) [] c → Hold false (read ++ xs) (front ++ (line ++ part) ∷ []) [] c
line_holds read xs line part front b c h k tail =
    ap lines (append_assoc read xs tail) ∙ h (xs ++ tail) ∙ ap (λ ls. front ++ onto line ls) (k tail) ∙ ap (λ ls. front ++ ls) (onto-cons line part (lines_behind c tail))
    ∙ sym (append_assoc front ((line ++ part) ∷ []) (lines_behind c tail))

-- more of its front
front_holds : (read xs line part : List ℕ) (front : List (List ℕ)) (b c : Bool) → Hold false read front line b → Hold b xs [] part c → Hold false (read ++ xs) front (line ++ part) c
front_holds read xs line part front b c h k tail =
    ap lines (append_assoc read xs tail) ∙ h (xs ++ tail) ∙ ap (λ ls. front ++ onto line ls) (k tail) ∙ ap (λ ls. front ++ ls) (sym (onto-append line part (lines_behind c tail)))

part_holds : (b : Bool) (xs : List ℕ) → HasNoLine b xs → Hold b xs [] (drop (feed_len b xs) xs) (behind_front b xs)
part_holds b [] none = λ tail. refl
part_holds b (x ∷ xs) none = none (omega arith)

-- ---- what a line says behind others

module _ (format : LineFormat) (front : List (List ℕ)) (n m : ℕ) (labels now : List (List ℕ)) (quads : List Quad) (line : List ℕ) (said : HasSaid format front n labels quads) where
  silence_said : ReadsLine format line n labels (Ok None) m now → HasSaid format (front ++ line ∷ []) m now quads
  silence_said r =
      subst (λ k. HasSaid format (front ++ line ∷ []) m k quads) (sym r.2) (subst (λ k. HasSaid format (front ++ line ∷ []) k labels quads) (sym r.1) (said_silent format front n labels quads said (line ∷ []) (r.0, tt)))

  quad_said : (q : Quad) → ReadsLine format line n labels (Ok (Some q)) m now → HasSaid format (front ++ line ∷ []) m now (quads ++ q ∷ [])
  quad_said q (s, says, is_now, is_quad, is_number) =
      let at = front ++ line ∷ [] in
      subst (λ x. HasSaid format at m now (quads ++ x ∷ [])) (sym is_quad)
      (subst (λ k. HasSaid format at m k (quads ++ quad_in k s ∷ [])) (sym is_now)
      (subst (λ k. HasSaid format at k (all_noted labels (labels_of s)) (quads ++ quad_in (all_noted labels (labels_of s)) s ∷ [])) (sym is_number)
      (said_statement format front n labels quads said line s says)))

  reached : (text : List ℕ) (f : LineFault) (behind : List (List ℕ)) → lines text ≡ front ++ behind → f.line ≡ n → ReadsFront format text f.line quads behind
  reached text f behind e is = (front, labels, e, subst (λ k. HasSaid format front k labels quads) (sym is) said)

  faulty : (text : List ℕ) (f : LineFault) (kind : FaultKind) (behind : List (List ℕ)) → lines text ≡ front ++ line ∷ behind → f ≡ fault n kind → LineSays format line (Err kind) → IsDocument format text quads (Some f)
  faulty text f kind behind e is says =
      subst (λ g. IsDocument format text quads (Some g)) (sym is) (said_all format front n labels quads said text (line ∷ behind) (Some (fault n kind)) e (inr (inr (kind, says, refl, refl))))

  fault_said : (text : List ℕ) (f : LineFault) (behind : List (List ℕ)) → lines text ≡ front ++ line ∷ behind → ReadsLine format line n labels (Err f) m now → StopsFed format text quads f f.kind
  fault_said text f behind e r = elim r.2 [
    | inl own ↦ by f.kind own (sym (same_fault f n r.0))
    | inr memory ↦ subst (StopsFed format text quads f) (sym memory) (line ∷ behind, reached text f (line ∷ behind) e r.0)
  ]
    where
      by : (kind : FaultKind) → FaultOf format line kind → f ≡ fault n kind → StopsFed format text quads f kind
      by NotUtf8 own is = faulty text f NotUtf8 behind e is own
      by Syntax own is = faulty text f Syntax behind e is own
      by Relative own is = faulty text f Relative behind e is own
      by Read own is = absurd own
      by (NoMemory _) own is = absurd own
      by Failed own is = absurd own

-- ---- a reader

pub fed_nothing : (f : Fed) → f.line ≡ [] → f.behind_return ≡ false → f.number ≡ 1 → f.labels ≡ [] → HasBeenFed [] [] f
fed_nothing f l b n k = (
  [],
  subst (λ v. Hold false [] [] v f.behind_return) (sym l) (subst (λ v. Hold false [] [] [] v) (sym b) (λ tail. refl)),
  subst (λ v. HasSaid f.format [] v f.labels []) (sym n) (subst (λ v. HasSaid f.format [] 1 v []) (sym k) (said_nothing f.format)),
)

module _ (old : Fed) (xs : List ℕ) (p : Place) (whole : HasLine old.behind_return xs p) where
  abbrev part : List ℕ
  part = slice_range xs p.start p.end

  abbrev eaten : List ℕ
  eaten = take (p.end + 1) xs

  pub line_fed : (new : Fed) (read : List ℕ) (quads : List Quad) (q : Option Quad) → ReadsLine old.format (old.line ++ part) old.number old.labels (Ok q) new.number new.labels
      → new.line ≡ [] → new.format ≡ old.format → new.behind_return ≡ p.by_return → HasBeenFed read quads old → HasBeenFed (read ++ eaten) (and_then quads q) new
  line_fed new read quads q reads is_line is_format is_behind (front, holds, said) = (
    front ++ (old.line ++ part) ∷ [],
    subst (λ v. Hold false (read ++ eaten) (front ++ (old.line ++ part) ∷ []) v new.behind_return) (sym is_line)
        (subst (λ v. Hold false (read ++ eaten) (front ++ (old.line ++ part) ∷ []) [] v) (sym is_behind) (line_holds read eaten old.line part front old.behind_return p.by_return holds whole.2)),
    subst (λ v. HasSaid v (front ++ (old.line ++ part) ∷ []) new.number new.labels (and_then quads q)) (sym is_format) (by q reads),
  )
    where
      by : (q : Option Quad) → ReadsLine old.format (old.line ++ part) old.number old.labels (Ok q) new.number new.labels → HasSaid old.format (front ++ (old.line ++ part) ∷ []) new.number new.labels (and_then quads q)
      by None reads = silence_said old.format front old.number new.number old.labels new.labels quads (old.line ++ part) said reads
      by (Some quad) reads = quad_said old.format front old.number new.number old.labels new.labels quads (old.line ++ part) said quad reads

  pub line_faults : (new : Fed) (f : LineFault) → ReadsLine old.format (old.line ++ part) old.number old.labels (Err f) new.number new.labels → Faults old xs f
  line_faults new f reads read quads beyond (front, holds, said) =
      let rest = drop (p.end + 1) xs ++ beyond in
      let text : read ++ (xs ++ beyond) ≡ (read ++ eaten) ++ rest =
      ap (λ l. read ++ (l ++ beyond)) (sym (take-append-drop (p.end + 1) xs)) ∙ ap (λ l. read ++ l) (append_assoc eaten (drop (p.end + 1) xs) beyond) ∙ sym (append_assoc read eaten rest) in
      fault_said old.format front old.number new.number old.labels new.labels quads (old.line ++ part) said (read ++ (xs ++ beyond)) f (lines_behind p.by_return rest)
      (ap lines text ∙ line_holds read eaten old.line part front old.behind_return p.by_return holds whole.2 rest ∙ append_assoc front ((old.line ++ part) ∷ []) (lines_behind p.by_return rest)) reads

pub front_fed : (old : Fed) (xs read : List ℕ) (quads : List Quad) → HasNoLine old.behind_return xs → HasBeenFed read quads old → HasBeenFed (read ++ xs) quads (with_front old xs)
front_fed old xs read quads none (front, holds, said) =
    (front, front_holds read xs old.line (drop (feed_len old.behind_return xs) xs) front old.behind_return (behind_front old.behind_return xs) holds (part_holds old.behind_return xs none), said)

pub front_faults : (old : Fed) (xs : List ℕ) (f : LineFault) → f.line ≡ old.number → f.kind ≡ no_memory → Faults old xs f
front_faults old xs f is_line is_kind read quads beyond (front, holds, said) =
    subst (StopsFed old.format (read ++ (xs ++ beyond)) quads f) (sym is_kind)
    (onto old.line (lines_behind old.behind_return (xs ++ beyond)), (front, old.labels, holds (xs ++ beyond), subst (λ k. HasSaid old.format front k old.labels quads) (sym is_line) said))

-- behind a front of the piece
pub faults_on : (old mid : Fed) (front xs : List ℕ) (f : LineFault) → ((read : List ℕ) (quads : List Quad) → HasBeenFed read quads old → HasBeenFed (read ++ front) quads mid) → mid.format ≡ old.format → Faults mid xs f → Faults old (front ++ xs) f
faults_on old mid front xs f on format faults read quads beyond fed =
    let text : (read ++ front) ++ (xs ++ beyond) ≡ read ++ ((front ++ xs) ++ beyond) = append_assoc read front (xs ++ beyond) ∙ ap (λ l. read ++ l) (sym (append_assoc front xs beyond)) in
    subst (λ t. StopsFed old.format t quads f f.kind) text (subst (λ v. StopsFed v ((read ++ front) ++ (xs ++ beyond)) quads f f.kind) format (faults (read ++ front) quads beyond (on read quads fed)))

-- ---- step by step

-- what this front of a piece made of the reader
abbrev pub On : Fed → List ℕ → Fed → Type 0
On start front mid = (read : List ℕ) (quads : List Quad) → HasBeenFed read quads start → HasBeenFed (read ++ front) quads mid

pub on_none : (start : Fed) → On start [] start
on_none start read quads fed = subst (λ t. HasBeenFed t quads start) (sym (append-nil read)) fed

-- an open reader with this line read
module _ (start mid new : Fed) (piece front xs after : List ℕ) (p : Place) (on : On start front mid) (parts : piece ≡ front ++ xs) (format : mid.format ≡ start.format) (below : mid.number + length xs ≤ start.number + length piece)
    (whole : HasLine mid.behind_return xs p) (is_after : after ≡ drop (p.end + 1) xs) (q : Option Quad) (reads : ReadsLine mid.format (mid.line ++ slice_range xs p.start p.end) mid.number mid.labels (Ok q) new.number new.labels)
    (is_line : new.line ≡ []) (is_format : new.format ≡ mid.format) (is_behind : new.behind_return ≡ p.by_return) where
  abbrev taken : List ℕ
  taken = front ++ take (p.end + 1) xs

  pub step_parts : piece ≡ taken ++ after
  step_parts = parts ∙ ap (λ l. front ++ l) (sym (take-append-drop (p.end + 1) xs) ∙ ap (λ l. take (p.end + 1) xs ++ l) (sym is_after)) ∙ sym (append_assoc front (take (p.end + 1) xs) after)

  pub step_falls : length after < length xs
  step_falls = let l = ap length is_after ∙ length-drop (p.end + 1) xs in let w = whole.1 in omega (arith, l, w)

  pub step_number : new.number + length after ≤ start.number + length piece
  step_number = let f = step_falls in let n = one_more q reads in omega (arith, f, n, below)
    where
      one_more : (q : Option Quad) → ReadsLine mid.format (mid.line ++ slice_range xs p.start p.end) mid.number mid.labels (Ok q) new.number new.labels → new.number ≡ mid.number + 1
      one_more None r = r.1
      one_more (Some quad) r = r.4

  pub step_fed : (read : List ℕ) (quads : List Quad) → HasBeenFed read quads start → HasBeenFed (read ++ taken) (and_then quads q) new
  step_fed read quads fed =
      subst (λ t. HasBeenFed t (and_then quads q) new) (append_assoc read front (take (p.end + 1) xs)) (line_fed mid xs p whole new (read ++ front) quads q reads is_line is_format is_behind (on read quads fed))

  pub step_left : length after < length piece
  step_left = let f = step_falls in let l = ap length parts in omega (arith, f, l, length-append front xs)

-- ---- the end

no_lines : (b : Bool) → lines_behind b [] ≡ []
no_lines true = refl
no_lines false = refl

pub ends_open : (old : Fed) → old.line ≡ [] → Ends old (Ok None)
ends_open old none read quads (front, holds, said) =
    let text : lines read ≡ front ++ [] = ap lines (sym (append-nil read)) ∙ holds [] ∙ ap (λ l. front ++ onto old.line l) (no_lines old.behind_return) ∙ ap (λ l. front ++ onto l []) none in
    said_all old.format front old.number old.labels quads said read [] None text (refl, refl)

module _ (old : Fed) (m : ℕ) (now : List (List ℕ)) (some : old.line ≢ []) where
  last_line : (read : List ℕ) (front : List (List ℕ)) → Hold false read front old.line old.behind_return → lines read ≡ front ++ old.line ∷ []
  last_line read front holds = ap lines (sym (append-nil read)) ∙ holds [] ∙ ap (λ l. front ++ onto old.line l) (no_lines old.behind_return) ∙ ap (λ l. front ++ l) (onto-none old.line some)

  whole : (read : List ℕ) (front : List (List ℕ)) (all : List Quad) → Hold false read front old.line old.behind_return → HasSaid old.format (front ++ old.line ∷ []) m now all → IsDocument old.format read all None
  whole read front all holds h = said_all old.format (front ++ old.line ∷ []) m now all h read [] None (last_line read front holds ∙ sym (append-nil (front ++ old.line ∷ []))) (refl, refl)

  pub ends_line : (answer : Answer) → ReadsLine old.format old.line old.number old.labels answer m now → Ends old answer
  ends_line (Ok None) reads = λ read quads fed. whole read fed.0 quads fed.1 (silence_said old.format fed.0 old.number m old.labels now quads old.line fed.2 reads)
  ends_line (Ok (Some quad)) reads = λ read quads fed. whole read fed.0 (quads ++ quad ∷ []) fed.1 (quad_said old.format fed.0 old.number m old.labels now quads old.line fed.2 quad reads)
  ends_line (Err f) reads = λ read quads fed. fault_said old.format fed.0 old.number m old.labels now quads old.line fed.2 read f [] (last_line read fed.0 fed.1) reads

-- ---- the law

pub fed_begins : FedBegins
fed_begins read quads f beyond (front, holds, said) =
    let behind = onto f.line (lines_behind f.behind_return beyond) in
    let some = some_reading f.format f.number behind in
    (quads_of f.labels some.0, some.1, said_document f.format front f.number f.labels quads said (read ++ beyond) behind some.0 some.1 (holds beyond) some.2)

pub is_none : (n : ℕ) (xs : List ℕ) → (n == 0) ≡ true → n ≡ length xs → xs ≡ []
is_none n [] h e = refl
is_none n (x ∷ xs) h e = let z = (Decides-eqb n 0).0 h in absurd (omega (arith, z, e))

pub is_some : (n : ℕ) (xs : List ℕ) → (n == 0) ≡ false → n ≡ length xs → xs ≢ []
is_some n xs h e none = let l = ap length none in let z : n ≡ 0 = omega (arith, e, l) in true_false (sym ((Decides-eqb n 0).1 z) ∙ h)
  where
    true_false : true ≡ false → ⊥
    true_false h = cc
