-- The commands of a script that comes a piece at a time.
use Rattle.std.proofs.Common.{◌≡◌, ◌≢◌, ℕ, Bool, true, false, cond, ◌||◌, not, List, [], ◌∷◌, ◌++◌, Option, Some, None, refl, sym, ap, ◌∙◌, subst, append_assoc, append-nil, nat_eq, take, drop}
use Rattle.std.specs.List.{concat}
use Rattle.rdf_keeper.specs.Script.Commands.{Asked, act, commands, unended}
use Rattle.rdf_session.specs.Request.{Load}
use Rattle.rdf_session.specs.Session as session
use Rattle.rdf_session.specs.declared.format.Format.{Format}
use Rattle.rdf_keeper.specs.Script.LineLaws.{HasNoEnd}
use Rattle.rdf_keeper.specs.Script.Lines.{is_empty, raw_lines, upto_last_end}
use Rattle.rdf_keeper.specs.Script.Pieces.{GivesCommands, Leaves, Pending, PiecesAreTheText, commands_behind, nothing_pending, whole_commands}
use Rattle.rdf_keeper.specs.declared.script.command.Body.{Body}
use Rattle.rdf_keeper.specs.Inside.Says.{IsInPlace, IsWholeLine, IsTextOf, asked_at_end, asked_by, body_behind, body_so_far, grown, load_of_body}
use Rattle.rdf_keeper.specs.declared.script.gathered.Says.{Says}
use Rattle.rdf_keeper.specs.declared.script.gathered.Says.TheVariants.{Asks, Inside, Loads, Nothing, Opens}
use Rattle.rdf_keeper.proofs.ScriptLemmas.Cuts.{cut_front, raw_open}
use Rattle.rdf_keeper.proofs.ScriptLemmas.Lines.{or_true, upto-end}

-- ---- texts up to their last LF

pub upto-none : (a b : List ℕ) → upto_last_end b ≡ [] → upto_last_end (a ++ b) ≡ upto_last_end a
upto-none [] b e = e
upto-none (x ∷ xs) b e = ap (λ r. cond (nat_eq x 10 || not (is_empty r)) (x ∷ r) []) (upto-none xs b e)

more_is_some : (xs : List ℕ) (y : ℕ) (ys : List ℕ) → is_empty (xs ++ y ∷ ys) ≡ false
more_is_some [] y ys = refl
more_is_some (x ∷ xs) y ys = refl

pub upto-some : (a b : List ℕ) (y : ℕ) (ys : List ℕ) → upto_last_end b ≡ y ∷ ys → upto_last_end (a ++ b) ≡ a ++ y ∷ ys
upto-some [] b y ys e = e
upto-some (x ∷ xs) b y ys e =
    ap (λ r. cond (nat_eq x 10 || not (is_empty r)) (x ∷ r) []) (upto-some xs b y ys e)
    ∙ ap (λ v. cond (nat_eq x 10 || not v) (x ∷ (xs ++ y ∷ ys)) []) (more_is_some xs y ys)
    ∙ ap (λ v. cond v (x ∷ (xs ++ y ∷ ys)) []) (or_true (nat_eq x 10))

-- the parts of a text without an LF
open_parts : (b : ℕ) (bs : List ℕ) → upto_last_end (b ∷ bs) ≡ [] → (b ≢ 10) × (upto_last_end bs ≡ [])
open_parts b bs e = (λ is. ends is e, later (nat_eq b 10) (upto_last_end bs) e)
  where
    ends : b ≡ 10 → upto_last_end (b ∷ bs) ≡ [] → {A : Type 0} → A
    ends is e = ended (upto_last_end bs) (ap (λ c. cond (nat_eq c 10 || not (is_empty (upto_last_end bs))) (b ∷ upto_last_end bs) []) (sym is) ∙ e)
      where
        ended : (r : List ℕ) → b ∷ r ≡ [] → {A : Type 0} → A
        ended r e = cc

    later : (v : Bool) (r : List ℕ) → cond (v || not (is_empty r)) (b ∷ r) [] ≡ [] → r ≡ []
    later v [] e = refl
    later true (c ∷ cs) e = cc
    later false (c ∷ cs) e = cc

pub no_end : (xs : List ℕ) → upto_last_end xs ≡ [] → HasNoEnd xs
no_end [] e = tt
no_end (b ∷ bs) e = let p = open_parts b bs e in (p.0, no_end bs p.1)

pub open_append : (a b : List ℕ) → upto_last_end a ≡ [] → upto_last_end b ≡ [] → upto_last_end (a ++ b) ≡ []
open_append a b e f = upto-none a b f ∙ e

-- a line that has its end is the first of what begins with it
pub line_first : (a line text : List ℕ) → upto_last_end a ≡ [] → IsWholeLine line → raw_lines (a ++ (line ++ text)) ≡ (a ++ line) ∷ raw_lines text
line_first a line text e w =
    ap raw_lines (sym (append_assoc a line text))
    ∙ cut_front (a ++ line) text (a ++ w.0, ap (λ l. a ++ l) w.1 ∙ sym (append_assoc a w.0 (10 ∷ [])), no_end (a ++ w.0) (open_append a w.0 e w.2))

pub line_whole : (a line : List ℕ) → IsWholeLine line → upto_last_end (a ++ line) ≡ a ++ line
line_whole a line w =
    ap (λ l. upto_last_end (a ++ l)) w.1 ∙ ap upto_last_end (sym (append_assoc a w.0 (10 ∷ []))) ∙ upto-end (a ++ w.0)
    ∙ append_assoc a w.0 (10 ∷ []) ∙ ap (λ l. a ++ l) (sym w.1)

-- ---- pieces

pub no_more : (body : Option (Body × List ℕ)) → commands false body [] ≡ []
no_more None = refl
no_more (Some b) = refl

-- the commands that come wholly with two pieces
pub whole-append : (p : Pending) (a b : List ℕ) (q : Pending) → Leaves p a q → whole_commands p (a ++ b) ≡ whole_commands p a ++ whole_commands q b
whole-append p a b q l = by (upto_last_end b) refl
  where
    by : (v : List ℕ) → upto_last_end b ≡ v → whole_commands p (a ++ b) ≡ whole_commands p a ++ whole_commands q b
    by [] e =
        ap (λ t. commands false p.body (raw_lines t)) (ap upto_last_end (sym (append_assoc p.line a b)) ∙ upto-none (p.line ++ a) b e)
        ∙ sym (append-nil (whole_commands p a))
        ∙ ap (λ cs. whole_commands p a ++ cs) (sym (ap (λ t. commands false q.body (raw_lines t)) (upto-none q.line b e ∙ l.open_line) ∙ no_more q.body))
    by (y ∷ ys) e =
        ap (λ t. commands false p.body (raw_lines t)) (ap upto_last_end (sym (append_assoc p.line a b)) ∙ upto-some (p.line ++ a) b y ys e ∙ append_assoc p.line a (y ∷ ys))
        ∙ l.behind false (y ∷ ys)
        ∙ ap (λ cs. whole_commands p a ++ cs) (ap (λ t. commands false q.body (raw_lines t)) (sym (upto-some q.line b y ys e)))

pub leaves_append : (p : Pending) (a b : List ℕ) (q r : Pending) → Leaves p a q → Leaves q b r → Leaves p (a ++ b) r
leaves_append p a b q r l m = record {
  open_line = m.open_line;
  behind = λ ended text.
      ap (commands_behind ended p) (append_assoc a b text) ∙ l.behind ended (b ++ text) ∙ ap (λ cs. whole_commands p a ++ cs) (m.behind ended text)
      ∙ sym (append_assoc (whole_commands p a) (whole_commands q b) (commands_behind ended r text)) ∙ ap (λ cs. cs ++ commands_behind ended r text) (sym (whole-append p a b q l));
}

-- no piece at all
pub leaves_none : (p : Pending) → upto_last_end p.line ≡ [] → Leaves p [] p
leaves_none p e = record {
  open_line = e;
  behind = λ ended text. ap (λ cs. cs ++ commands_behind ended p text) (sym (nothing_whole p e));
}
  where
    nothing_whole : (p : Pending) → upto_last_end p.line ≡ [] → whole_commands p [] ≡ []
    nothing_whole p e = ap (λ t. commands false p.body (raw_lines t)) (ap upto_last_end (append-nil p.line) ∙ e) ∙ no_more p.body

-- the front of a line
pub leaves_front : (p : Pending) (front : List ℕ) → upto_last_end p.line ≡ [] → upto_last_end front ≡ [] → Leaves p front (record { body = p.body; line = p.line ++ front })
leaves_front p front e f = record {
  open_line = open_append p.line front e f;
  behind = λ ended text.
      ap (λ t. commands ended p.body (raw_lines t)) (sym (append_assoc p.line front text))
      ∙ ap (λ cs. cs ++ commands ended p.body (raw_lines ((p.line ++ front) ++ text))) (sym (no_whole p front e f));
}
  where
    no_whole : (p : Pending) (front : List ℕ) → upto_last_end p.line ≡ [] → upto_last_end front ≡ [] → whole_commands p front ≡ []
    no_whole p front e f = ap (λ t. commands false p.body (raw_lines t)) (open_append p.line front e f) ∙ no_more p.body

pub no_whole : (p : Pending) (front : List ℕ) → upto_last_end p.line ≡ [] → upto_last_end front ≡ [] → whole_commands p front ≡ []
no_whole p front e f = ap (λ t. commands false p.body (raw_lines t)) (open_append p.line front e f) ∙ no_more p.body

-- the end of a line, which asks for these commands and leaves this body open
module _ (p : Pending) (line : List ℕ) (open_line : upto_last_end p.line ≡ []) (whole : IsWholeLine line) (asked : List Asked) (body : Option (Body × List ℕ))
    (says : (ended : Bool) (lines : List (List ℕ)) → commands ended p.body ((p.line ++ line) ∷ lines) ≡ asked ++ commands ended body lines) where
  pub line_commands : whole_commands p line ≡ asked
  line_commands =
      ap (λ t. commands false p.body (raw_lines t)) (line_whole p.line line whole ∙ ap (λ l. p.line ++ l) (sym (append-nil line)))
      ∙ ap (commands false p.body) (line_first p.line line [] open_line whole) ∙ says false [] ∙ ap (λ cs. asked ++ cs) (no_more body) ∙ append-nil asked

  pub leaves_line : Leaves p line (record { body = body; line = [] })
  leaves_line = record {
    open_line = refl;
    behind = λ ended text.
        ap (commands ended p.body) (line_first p.line line text open_line whole) ∙ says ended (raw_lines text)
        ∙ ap (λ cs. cs ++ commands ended body (raw_lines text)) (sym line_commands);
  }

-- ---- whatever the pieces are

gives : (p : Pending) (pieces : List (List ℕ)) (cs : List Asked) (q : Pending) → upto_last_end p.line ≡ [] → GivesCommands p pieces cs q → Leaves p (concat pieces) q × (cs ≡ whole_commands p (concat pieces))
gives p [] cs q e g = (subst (Leaves p []) (sym g.1) (leaves_none p e), g.0 ∙ sym (no_whole p [] e refl))
gives p (piece ∷ pieces) cs q e g =
    let later = gives g.0 pieces g.1 q g.2.open_line g.4 in
    (leaves_append p piece (concat pieces) g.0 q g.2 later.0, g.3 ∙ ap (λ ds. whole_commands p piece ++ ds) later.1 ∙ sym (whole-append p piece (concat pieces) g.0 g.2))

pub pieces_are_the_text : PiecesAreTheText
pieces_are_the_text pieces cs p g =
    let all = gives nothing_pending pieces cs p refl g in
    (all.1, ap (λ ds. ds ++ commands_behind true p []) all.1 ∙ sym (all.0.behind true []) ∙ ap (λ t. commands true None (raw_lines t)) (append-nil (concat pieces)))

-- ---- a line, by the parts of what is gathered

pub said_of_parts : (p : Pending) (body : Option Body) (front back : List ℕ) (q : Pending) (says : Says) → q ≡ record { body = body_so_far body front; line = back } → q ≡ p
    → ((ended : Bool) (lines : List (List ℕ)) → commands ended (body_so_far body front) (back ∷ lines) ≡ asked_by (body_so_far body front) says ++ commands ended (body_behind (body_so_far body front) back says) lines)
    → (ended : Bool) (lines : List (List ℕ)) → commands ended p.body (p.line ∷ lines) ≡ asked_by p.body says ++ commands ended (body_behind p.body p.line says) lines
said_of_parts p body front back q says parts same said =
    subst (λ r. (ended : Bool) (lines : List (List ℕ)) → commands ended r.body (r.line ∷ lines) ≡ asked_by r.body says ++ commands ended (body_behind r.body r.line says) lines) same
    (subst (λ r. (ended : Bool) (lines : List (List ℕ)) → commands ended r.body (r.line ∷ lines) ≡ asked_by r.body says ++ commands ended (body_behind r.body r.line says) lines) (sym parts) said)

last_command : (p : Pending) (says : Says) → upto_last_end p.line ≡ [] → ((ended : Bool) (lines : List (List ℕ)) → commands ended p.body (p.line ∷ lines) ≡ asked_by p.body says ++ commands ended (body_behind p.body p.line says) lines)
    → commands true p.body (raw_lines p.line) ≡ asked_by p.body says ++ commands true (body_behind p.body p.line says) []
last_command p says e said = by p.line refl
  where
    none_left : (body : Option (Body × List ℕ)) → commands true body [] ≡ commands true body ([] ∷ [])
    none_left None = refl
    none_left (Some b) = refl

    by : (l : List ℕ) → p.line ≡ l → commands true p.body (raw_lines p.line) ≡ asked_by p.body says ++ commands true (body_behind p.body p.line says) []
    by [] is = ap (λ l. commands true p.body (raw_lines l)) is ∙ none_left p.body ∙ ap (λ l. commands true p.body (l ∷ [])) (sym is) ∙ said true []
    by (b ∷ bs) is =
        ap (commands true p.body) (raw_open p.line (λ none. not_none b bs (sym is ∙ none)) (no_end p.line e)) ∙ said true []
      where
        not_none : (x : ℕ) (xs : List ℕ) → x ∷ xs ≡ [] → ⊥
        not_none x xs e = cc

last_inside : (body : Option (Body × List ℕ)) (line : List ℕ) → IsInPlace body Inside → commands true (grown body line) [] ≡ unended ∷ []
last_inside None line i = absurd i
last_inside (Some b) line i = refl

pub last_asked : (p : Pending) (says : Says) → upto_last_end p.line ≡ [] → IsInPlace p.body says → ((ended : Bool) (lines : List (List ℕ)) → commands ended p.body (p.line ∷ lines) ≡ asked_by p.body says ++ commands ended (body_behind p.body p.line says) lines)
    → commands true p.body (raw_lines p.line) ≡ asked_at_end p.body says
last_asked p Nothing e i said = last_command p Nothing e said
last_asked p (Opens body) e i said = last_command p (Opens body) e said
last_asked p Inside e i said = last_command p Inside e said ∙ last_inside p.body p.line i
last_asked p (Loads format) e i said = last_command p (Loads format) e said ∙ append-nil (load_of_body format p.body)
last_asked p (Asks command) e i said = last_command p (Asks command) e said

pub in_place : (p : Pending) (body : Option Body) (front back : List ℕ) (q : Pending) (says : Says) → q ≡ record { body = body_so_far body front; line = back } → q ≡ p → IsInPlace (body_so_far body front) says → IsInPlace p.body says
in_place p body front back q says parts same place = subst (λ r. IsInPlace r.body says) same (subst (λ r. IsInPlace r.body says) (sym parts) place)

pub two_parts : (body : Option Body) (n : ℕ) (all bytes front back : List ℕ) → all ≡ bytes → front ≡ take n all → back ≡ drop n all → ◌≡◌ {A = Pending} (record { body = body_so_far body (take n bytes); line = drop n bytes }) (record { body = body_so_far body front; line = back })
two_parts body n all bytes front back e f b =
    let left : take n bytes ≡ front = ap (λ xs. take n xs) (sym e) ∙ sym f in
    let right : drop n bytes ≡ back = ap (λ xs. drop n xs) (sym e) ∙ sym b in
    λ i. record { body = body_so_far body (left i); line = right i }

-- the load of the body that is open, by its text
pub loads_text : (body : Option (Body × List ℕ)) (format : Format) (text : List ℕ) → IsInPlace body (Loads format) → IsTextOf body text → act (session.Do (Load format text)) ∷ [] ≡ load_of_body format body
loads_text None format text place is = absurd place
loads_text (Some body) format text place is = ap (λ t. act (session.Do (Load format t)) ∷ []) is
