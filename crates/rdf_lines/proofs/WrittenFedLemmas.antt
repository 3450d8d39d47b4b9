-- A reader that is fed its text a piece at a time, and writes what its lines say.
use Rattle.std.proofs.Common.{◌≡◌, ◌∙◌, ◌≢◌, ap, refl, sym, subst, ℕ, List, [], ◌∷◌, ◌++◌, ◌+◌, ◌≤◌, arith, length, take, drop, slice_range, take-append-drop, length-drop, append_assoc, append-nil, Option, Some, None}
use Rattle.std.specs.List.{flat_map}
use Rattle.std.specs.Prelude.{Result, Ok, Err}
use Rattle.std.proofs.lemmas.List.Concat.{flat_map-append}
use Rattle.rdf_lines.specs.Document.{IsDocument}
use Rattle.rdf_lines.specs.Fed.{BeginsWith, EndsBehind, Faults, FaultsBehind, Fed, HasBeenFed, StopsFed, and_then}
use Rattle.rdf_lines.specs.Inside.Slices.{WritesLine, line_of}
use Rattle.rdf_lines.specs.Pieces.{HasLine}
use Rattle.rdf_lines.specs.QuadText.{quad_text}
use Rattle.rdf_lines.specs.Reader.{ReadsLine}
use Rattle.rdf_lines.specs.declared.cut.Place.{Place}
use Rattle.rdf_lines.specs.declared.fault.LineFault.{LineFault}
use Rattle.rdf_lines.specs.declared.format.LineFormat.{LineFormat}
use Rattle.rdf_terms.specs.declared.quad.Quad.{Quad}
use Rattle.rdf_lines.proofs.FedLemmas.{ends_line, ends_open, fed_begins, line_fed}

-- the lines of quads
abbrev pub lines_of : List Quad → List ℕ
lines_of quads = flat_map quad_text quads

-- what this front of a piece made of the reader, and what its lines say
abbrev pub Behind : Fed → List ℕ → List Quad → Fed → Type 0
Behind start front more mid = (read : List ℕ) (quads : List Quad) → HasBeenFed read quads start → HasBeenFed (read ++ front) (quads ++ more) mid

pub behind_none : (start : Fed) → Behind start [] [] start
behind_none start read quads fed = subst (λ t. HasBeenFed t (quads ++ []) start) (sym (append-nil read)) (subst (λ q. HasBeenFed read q start) (sym (append-nil quads)) fed)

and_then-append : (quads more : List Quad) (q : Option Quad) → and_then (quads ++ more) q ≡ quads ++ and_then more q
and_then-append quads more None = refl
and_then-append quads more (Some q) = append_assoc quads more (q ∷ [])

-- with one line more
pub behind_line : (start mid new : Fed) (front xs : List ℕ) (more : List Quad) (p : Place) (q : Option Quad) → Behind start front more mid → HasLine mid.behind_return xs p
    → ReadsLine mid.format (mid.line ++ slice_range xs p.start p.end) mid.number mid.labels (Ok q) new.number new.labels → new.line ≡ [] → new.format ≡ mid.format → new.behind_return ≡ p.by_return
    → Behind start (front ++ take (p.end + 1) xs) (and_then more q) new
behind_line start mid new front xs more p q on whole reads is_line is_format is_behind read quads fed =
    subst (λ t. HasBeenFed t (quads ++ and_then more q) new) (append_assoc read front (take (p.end + 1) xs))
    (subst (λ all. HasBeenFed ((read ++ front) ++ take (p.end + 1) xs) all new) (and_then-append quads more q)
    (line_fed mid xs p whole new (read ++ front) (quads ++ more) q reads is_line is_format is_behind (on read quads fed)))

pub taken_parts : (piece front xs after : List ℕ) (n : ℕ) → piece ≡ front ++ xs → after ≡ drop n xs → piece ≡ (front ++ take n xs) ++ after
taken_parts piece front xs after n parts is =
    parts ∙ ap (λ l. front ++ l) (sym (take-append-drop n xs) ∙ ap (λ l. take n xs ++ l) (sym is)) ∙ sym (append_assoc front (take n xs) after)

pub line_number : (start mid new : Fed) (piece xs after line : List ℕ) (p : Place) → mid.number + length xs ≤ start.number + length piece → HasLine mid.behind_return xs p → after ≡ drop (p.end + 1) xs
    → (q : Option Quad) → ReadsLine mid.format line mid.number mid.labels (Ok q) new.number new.labels → new.number + length after ≤ start.number + length piece
line_number start mid new piece xs after line p below whole is q reads =
    let l = ap length is ∙ length-drop (p.end + 1) xs in let w = whole.1 in let n = one_more q reads in omega (arith, n, below, l, w)
  where
    one_more : (q : Option Quad) → ReadsLine mid.format line mid.number mid.labels (Ok q) new.number new.labels → new.number ≡ mid.number + 1
    one_more None r = r.1
    one_more (Some quad) r = r.4

pub lines_grow : (start grown new : List ℕ) (more : List Quad) (q : Option Quad) → grown ≡ start ++ lines_of more → new ≡ grown ++ line_of q → new ≡ start ++ lines_of (and_then more q)
lines_grow start grown new more None e h = h ∙ append-nil grown ∙ e
lines_grow start grown new more (Some q) e h =
    h ∙ ap (λ (t : List ℕ). t ++ quad_text q) e ∙ append_assoc start (lines_of more) (quad_text q)
    ∙ ap (λ (t : List ℕ). start ++ t) (ap (λ (t : List ℕ). lines_of more ++ t) (sym (append-nil (quad_text q))) ∙ sym (flat_map-append quad_text more (q ∷ [])))

-- a fault behind a front of the piece
pub faults_behind : (start mid : Fed) (front xs : List ℕ) (more : List Quad) (f : LineFault) → Behind start front more mid → mid.format ≡ start.format → Faults mid xs f → FaultsBehind start (front ++ xs) more f
faults_behind start mid front xs more f on format faults read quads beyond fed =
    let text : (read ++ front) ++ (xs ++ beyond) ≡ read ++ ((front ++ xs) ++ beyond) = append_assoc read front (xs ++ beyond) ∙ ap (λ l. read ++ l) (sym (append_assoc front xs beyond)) in
    let had = on read quads fed in (
      subst (λ t. StopsFed start.format t (quads ++ more) f f.kind) text (subst (λ v. StopsFed v ((read ++ front) ++ (xs ++ beyond)) (quads ++ more) f f.kind) format (faults (read ++ front) (quads ++ more) beyond had)),
      subst (λ t. BeginsWith start.format t (quads ++ more)) text
          (subst (λ v. BeginsWith v ((read ++ front) ++ (xs ++ beyond)) (quads ++ more)) format (fed_begins (read ++ front) (quads ++ more) mid (xs ++ beyond) had)),
    )

-- what reading and writing a line gives, without what is written
pub as_read : (format : LineFormat) (line : List ℕ) (n : ℕ) (labels : List (List ℕ)) (text : List ℕ) (f : LineFault) (m : ℕ) (now : List (List ℕ)) (grown : List ℕ)
    → WritesLine format line n labels text (Err f) m now grown → ReadsLine format line n labels (Err f) n labels
as_read format line n labels text f m now grown w = (w.0, refl, w.1)

-- ---- the end

pub ended_open : (old : Fed) → old.line ≡ [] → EndsBehind old [] (Ok tt)
ended_open old none read quads fed = subst (λ all. IsDocument old.format read all None) (sym (append-nil quads)) (ends_open old none read quads fed)

and_then-nothing : (quads : List Quad) (q : Option Quad) → and_then quads q ≡ quads ++ and_then [] q
and_then-nothing quads None = sym (append-nil quads)
and_then-nothing quads (Some q) = refl

pub ended_line : (old : Fed) (m : ℕ) (now : List (List ℕ)) → old.line ≢ [] → (q : Option Quad) → ReadsLine old.format old.line old.number old.labels (Ok q) m now → EndsBehind old (and_then [] q) (Ok tt)
ended_line old m now some q reads read quads fed =
    subst (λ all. IsDocument old.format read all None) (and_then-nothing quads q) (by q reads)
  where
    by : (q : Option Quad) → ReadsLine old.format old.line old.number old.labels (Ok q) m now → IsDocument old.format read (and_then quads q) None
    by q reads = ends_line old m now some (Ok q) reads read quads fed

pub ended_faulty : (old : Fed) → old.line ≢ [] → (f : LineFault) → ReadsLine old.format old.line old.number old.labels (Err f) old.number old.labels → EndsBehind old [] (Err f)
ended_faulty old some f reads read quads fed =
    let begins = subst (λ t. BeginsWith old.format t quads) (append-nil read) (fed_begins read quads old [] fed) in
    subst (λ all. StopsFed old.format read all f f.kind × BeginsWith old.format read all) (sym (append-nil quads))
    (ends_line old old.number old.labels some (Err f) reads read quads fed, begins)

pub ended_wrote : (old : Fed) (lines : List ℕ) (m : ℕ) (now : List (List ℕ)) (grown : List ℕ) → old.line ≢ [] → (answer : Result (Unit {0}) LineFault)
    → WritesLine old.format old.line old.number old.labels lines answer m now grown → (more : List Quad) × (grown ≡ lines ++ lines_of more) × EndsBehind old more answer
ended_wrote old lines m now grown some (Ok u) w = (and_then [] w.0, lines_grow lines lines grown [] w.0 (sym (append-nil lines)) w.2, ended_line old m now some w.0 w.1)
ended_wrote old lines m now grown some (Err f) w =
    ([], w.2 ∙ sym (append-nil lines), ended_faulty old some f (as_read old.format old.line old.number old.labels lines f m now grown w))
