-- The answers of the worked examples.
use Rattle.std.proofs.Common.{◌≡◌, ◌≢◌, inl, inr, ℕ, ◌+◌, ◌<◌, ◌≤◌, Bool, true, false, not, ◌&&◌, ◌||◌, cond, List, [], ◌∷◌, ◌++◌, get_or, drop, nat_eq, Some, None, Contains, refl, sym, ap, ◌∙◌, subst, arith, IsTrue}
use mathlib.Core.Bool.{true≢false}
use Rattle.std.specs.Prelude.{codes}
use Rattle.std.specs.Fmt.{digits}
use Rattle.std.specs.Cmp.{IsTotalOrder}
use Rattle.std.specs.declared.cmp.Ordering.{Ordering}
use Rattle.std.specs.FinMap as map
use Rattle.std.specs.FinSet as set
use Rattle.std.specs.FinSet.{IsAntisymmetric, same_set, contains, contains-empty, contains-union, contains-difference, difference, union, len, len-insert, len-empty}
use Rattle.std.specs.List.Sorted.{IsStrictlySortedBy}
use Rattle.std.proofs.lemmas.Bool.{and_from}
use Rattle.std.proofs.lemmas.Bool.Decides.{Decides-eqb}
use Rattle.rdf_terms.specs.Iri.{is_iri}
use Rattle.rdf_terms.specs.Order.{quad_cmp, term_cmp}
use Rattle.rdf_terms.specs.OrderLaws.{term_cmp_total, term_cmp-IsAntisymmetric, quad_cmp_total, quad_cmp-IsAntisymmetric}
use Rattle.rdf_terms.specs.Quad.{is_quad}
use Rattle.rdf_terms.proofs.CallerLemmas.{ascii_iri}
use Rattle.rdf_lines.specs.Document as lines
use Rattle.rdf_lines.specs.declared.format.LineFormat.TheVariants as line
use Rattle.rdf_lines.proofs.CallerLemmas.{numbered_documents_are_read_back}
use Rattle.rdf_session.specs.declared.fault.KeeperFault.{KeeperFault}
use Rattle.rdf_dataset.specs.Sorted.{ListsSorted}
use Rattle.rdf_dataset.specs.State.{State, empty_state, last_number, net_between}
use Rattle.rdf_keeper.specs.Script.Answers.{Answers, reply_line}
use Rattle.rdf_keeper.specs.Script.Commands.{Asked, act, show, unended}
use Rattle.rdf_keeper.specs.Examples.{MustAnswer, MayAnswer, NothingAnswered, LoadUndone, LoadTwice, LoadRedone, MarkReached, Committed, GraphShown, GraphCommitted, OpenLoad, RefusedFirst, StoppedAtOnce, HistoryCut, begin, document, graph_name, named_document, named_quad, one_named, one_quad, quad, script}
use Rattle.rdf_keeper.specs.Script.OneOutput.{FirmAnswers, IsFree, IsWhole, OneText}
use Rattle.rdf_session.specs.Request.{Load, loaded}
use Rattle.rdf_keeper.specs.Script.Show.{ListsChange}
use Rattle.rdf_keeper.specs.Script.Runs.{Serves, to_end, final}
use Rattle.rdf_session.proofs.CallerLemmas.{place_kept, place_lost, place_marked, place_nowhere, place_other, place_past}
use Rattle.rdf_session.specs.History.{marks_upto, place_of}
use Rattle.rdf_session.specs.Session.{Session, Do, Undo, Redo, Mark, Rollback, Commit, Changed, Done, Refused as RefusedReply, accepted, at_place, counts_between, fresh, now, with_mark}
use Rattle.rdf_session.specs.declared.fault.Counts.{Counts}
use Rattle.rdf_session.specs.declared.fault.KeeperFault.TheVariants.{NoSuchMark, NothingToUndo, NothingToRedo}
use Rattle.rdf_session.specs.declared.format.Format.TheVariants.{NQuads}
use Rattle.rdf_keeper.specs.declared.script.command.Topic.TheVariants.{Changes, Graphs, Quads}
use Rattle.rdf_keeper.specs.declared.script.status.Status.{Status}
use Rattle.rdf_keeper.specs.declared.script.status.Status.TheVariants.{Accepted, Refused}
use Rattle.rdf_keeper.proofs.ScriptLemmas.OneOutputOfBytes.{run_of_bytes}
use Rattle.rdf_session.specs.Faults.{no_memory}

-- ---- sets of one member or none

not_itself : (b : Bool) → (b && not b) ≡ false
not_itself true = refl
not_itself false = refl

and_true : (b : Bool) → (b && true) ≡ b
and_true true = refl
and_true false = refl

or_false : (b : Bool) → (b || false) ≡ b
or_false true = refl
or_false false = refl

or_itself : (b : Bool) → (b || b) ≡ b
or_itself true = refl
or_itself false = refl

module _ {K : Type 0} {R : K → K → Ordering} (o : IsTotalOrder R) (apart : IsAntisymmetric R) where
  none_more : (s : set.FinSet R) → difference s s ≡ set.empty
  none_more s = same_set o apart _ _ (λ q. contains-difference o s s q ∙ not_itself (contains s q) ∙ sym (contains-empty R q))

  all_more : (s : set.FinSet R) → difference s set.empty ≡ s
  all_more s = same_set o apart _ _ (λ q. contains-difference o s set.empty q ∙ ap (λ b. contains s q && not b) (contains-empty R q) ∙ and_true (contains s q))

  nothing_more : (s : set.FinSet R) → difference set.empty s ≡ set.empty
  nothing_more s = same_set o apart _ _ (λ q. contains-difference o set.empty s q ∙ ap (λ b. b && not (contains s q)) (contains-empty R q) ∙ sym (contains-empty R q))

  only_these : (s : set.FinSet R) → union set.empty s ≡ s
  only_these s = same_set o apart _ _ (λ q. contains-union o set.empty s q ∙ ap (λ b. b || contains s q) (contains-empty R q))

  none_new : (s : set.FinSet R) → union s s ≡ s
  none_new s = same_set o apart _ _ (λ q. contains-union o s s q ∙ or_itself (contains s q))

  one_member : (k : K) → len (set.from_list {R = R} (k ∷ [])) ≡ 1
  one_member k = len-insert o set.empty k ∙ ap (λ b. cond b (len (set.empty {R = R})) (len (set.empty {R = R}) + 1)) (contains-empty R k) ∙ ap (λ n. n + 1) (len-empty R)

  lists_none : ListsSorted {R = R} set.empty []
  unfolding IsStrictlySortedBy
  lists_none = record { lists = record { all = refl; once = sym (len-empty R) }; rises = tt }

  pub lists_one : (k : K) → ListsSorted {R = R} (set.from_list (k ∷ [])) (k ∷ [])
  unfolding IsStrictlySortedBy
  lists_one k = record { lists = record { all = refl; once = sym (one_member k) }; rises = (tt, tt) }

-- ---- the two states

abbrev no_quads : State
no_quads = empty_state 0

first_load : one_quad ≡ loaded no_quads (quad ∷ [])
first_load = λ i. record {
  quads = sym (only_these quad_cmp_total quad_cmp-IsAntisymmetric (set.from_list (quad ∷ []))) i;
  names = sym (only_these term_cmp_total term_cmp-IsAntisymmetric set.empty) i;
  next = 0;
}

second_load : one_quad ≡ loaded one_quad (quad ∷ [])
second_load = λ i. record {
  quads = sym (none_new quad_cmp_total quad_cmp-IsAntisymmetric (set.from_list (quad ∷ []))) i;
  names = sym (only_these term_cmp_total term_cmp-IsAntisymmetric set.empty) i;
  next = 0;
}

abbrev count_of : ℕ → ℕ → Counts
count_of a r = record { added = a; removed = r }

some_added : 1 ≡ len (difference one_quad.quads set.empty)
some_added = sym (ap len (all_more quad_cmp_total quad_cmp-IsAntisymmetric one_quad.quads) ∙ one_member quad_cmp_total quad_cmp-IsAntisymmetric quad)

none_removed : 0 ≡ len (difference set.empty one_quad.quads)
none_removed = sym (ap len (nothing_more quad_cmp_total quad_cmp-IsAntisymmetric one_quad.quads) ∙ len-empty _)

none_changed : 0 ≡ len (difference one_quad.quads one_quad.quads)
none_changed = sym (ap len (none_more quad_cmp_total quad_cmp-IsAntisymmetric one_quad.quads) ∙ len-empty _)

counts_up : count_of 1 0 ≡ counts_between no_quads one_quad
counts_up = λ i. record { added = some_added i; removed = none_removed i }

counts_down : count_of 0 1 ≡ counts_between one_quad no_quads
counts_down = λ i. record { added = none_removed i; removed = some_added i }

counts_still : count_of 0 0 ≡ counts_between one_quad one_quad
counts_still = λ i. record { added = none_changed i; removed = none_changed i }

-- ---- a session, answer by answer

record Entry : Type 0 where
  asked : Asked
  text : List ℕ
  refused : Bool
  after : Session

abbrev wanting : List ℕ
wanting = reply_line (RefusedReply no_memory)

abbrev IsSession : Session → List Entry → Type 0
IsSession s [] = Unit {0}
IsSession s (e ∷ es) = Answers e.asked s e.text e.refused e.after × (e.text ≢ wanting) × ((fault : KeeperFault) → ¬ IsFree e.asked fault e.text) × IsSession e.after es

abbrev all_asked : List Entry → List Asked
all_asked [] = []
all_asked (e ∷ es) = e.asked ∷ all_asked es

abbrev all_texts : List Entry → List (List ℕ)
all_texts [] = []
all_texts (e ∷ es) = e.text ∷ all_texts es

abbrev end_of : Session → List Entry → Session
end_of s [] = s
end_of s (e ∷ es) = end_of e.after es

abbrev status_of : Bool → List Entry → Status
status_of refused [] = final Accepted refused
status_of refused (e ∷ es) = status_of (refused || e.refused) es

runs : (refused : Bool) (s : Session) (es : List Entry) → IsSession s es → Serves (to_end FirmAnswers false Accepted) refused (all_asked es) s (all_texts es) (end_of s es) (status_of refused es)
runs refused s [] h = (refl, refl, inl refl)
runs refused s (e ∷ es) h = inr (e.text, e.refused, e.after, ((h.0, h.1), h.2), inr (inr (refl, all_texts es, refl, runs (refused || e.refused) e.after es h.3)))

same_byte : (b : ℕ) → nat_eq b b ≡ true
same_byte b = (Decides-eqb b b).1 refl

-- another byte at some place
pub differs : (text : List ℕ) (k : ℕ) → nat_eq (get_or text k 0) (get_or wanting k 0) ≡ false → text ≢ wanting
differs text k n e = true≢false (sym (same_byte (get_or wanting k 0)) ∙ sym (ap (λ t. nat_eq (get_or t k 0) (get_or wanting k 0)) e) ∙ n)

-- the answers of one are those of all
answered : OneText → (text : List ℕ) (answers : List (List ℕ)) (status : Status) (state : State) → IsWhole status → MayAnswer text answers status state → MustAnswer text answers status state
answered one text answers status state w may = (
  may,
  λ after others end otherwise run whole full.
      let same = one false (script text) begin may.0 end answers others status otherwise may.1 w (run_of_bytes false text after begin end others otherwise run whole full) whole in
      (sym same.0, sym same.2, ap now (sym same.1) ∙ may.2),
)

-- ---- the document

quad_is_quad : IsTrue (is_quad quad)
quad_is_quad =
    and_from (is_iri (codes "e:s")) (is_iri (codes "e:p") && is_iri (codes "e:o")) (ascii_iri (codes "e:s") refl refl refl)
    (and_from (is_iri (codes "e:p")) (is_iri (codes "e:o")) (ascii_iri (codes "e:p") refl refl refl) (ascii_iri (codes "e:o") refl refl refl))

nothing_there : {A : Type 0} (front back : List ℕ) (n : ℕ) → [] ≡ front ++ n ∷ back → A
nothing_there [] back n e = cc
nothing_there (x ∷ xs) back n e = cc

says_quad : lines.IsDocument line.NQuads document (quad ∷ []) None
says_quad = numbered_documents_are_read_back (quad ∷ []) (quad_is_quad, tt) (λ front back number smaller e h. nothing_there front back number e)

-- ---- answers

abbrev load : Asked
load = act (Do (Load NQuads document))

abbrev entry : Asked → List ℕ → Bool → Session → Entry
entry asked text refused after = record { asked = asked; text = text; refused = refused; after = after }

no_more : (state : State) → state.next ≡ 0 → state.next + 0 ≤ last_number
no_more state e = omega (arith, e)

load_first : (s : Session) → now s ≡ no_quads → Answers load s (codes "ok +1 -0\n") false (accepted one_quad s)
unfolding digits
load_first s e = (
  Changed (count_of 1 0),
  (
    one_quad,
    (quad ∷ [], says_quad, no_more (now s) (ap (λ (x : State). x.next) e), first_load ∙ ap (λ x. loaded x (quad ∷ [])) (sym e)),
    refl,
    counts_up ∙ ap (λ x. counts_between x one_quad) (sym e),
  ),
  refl,
  refl,
)

load_again : (s : Session) → now s ≡ one_quad → Answers load s (codes "ok +0 -0\n") false (accepted one_quad s)
unfolding digits
load_again s e = (
  Changed (count_of 0 0),
  (
    one_quad,
    (quad ∷ [], says_quad, no_more (now s) (ap (λ (x : State). x.next) e), second_load ∙ ap (λ x. loaded x (quad ∷ [])) (sym e)),
    refl,
    counts_still ∙ ap (λ x. counts_between x one_quad) (sym e),
  ),
  refl,
  refl,
)

print_none : (s : Session) → now s ≡ no_quads → Answers (show Quads) s (codes "ok 0\n") false s
unfolding digits
print_none s e = (refl, inl ([], ([], subst (λ (x : State). ListsSorted x.quads []) (sym e) (lists_none quad_cmp_total quad_cmp-IsAntisymmetric), refl), refl, refl))

print_one : (s : Session) → now s ≡ one_quad → Answers (show Quads) s (codes "<e:s> <e:p> <e:o> .\nok 1\n") false s
unfolding digits
print_one s e =
    (refl, inl (document ∷ [], (quad ∷ [], subst (λ (x : State). ListsSorted x.quads (quad ∷ [])) (sym e) (lists_one quad_cmp_total quad_cmp-IsAntisymmetric quad), refl), refl, refl))

-- the counts of a step between the two states
went_up : codes "ok +1 -0\n" ≡ reply_line (Changed (count_of 1 0))
unfolding digits
went_up = refl

went_down : codes "ok +0 -1\n" ≡ reply_line (Changed (count_of 0 1))
unfolding digits
went_down = refl

stayed : codes "ok +0 -0\n" ≡ reply_line (Changed (count_of 0 0))
unfolding digits
stayed = refl

abbrev once : Session
once = accepted one_quad begin

abbrev twice : Session
twice = accepted one_quad once

abbrev marked : Session
marked = with_mark (codes "a") begin

pub nothing_answered : OneText → NothingAnswered
nothing_answered one = answered one [] [] Accepted no_quads tt (begin, runs false begin [] tt, refl)

abbrev undone_session : List Entry
undone_session =
    entry load (codes "ok +1 -0\n") false once ∷ entry (show Quads) (codes "<e:s> <e:p> <e:o> .\nok 1\n") false once
    ∷ entry (act Undo) (codes "ok +0 -1\n") false (at_place 0 once) ∷ entry (show Quads) (codes "ok 0\n") false (at_place 0 once) ∷ []

is_undone : IsSession begin undone_session
is_undone = (
  load_first begin refl,
  differs _ 0 refl,
  λ fault x. x.0,
  (
    print_one once refl,
    differs _ 0 refl,
    λ fault x. x,
    (
      (Changed (count_of 0 1), (omega arith, refl, counts_down), went_down, refl),
      differs _ 0 refl,
      λ fault x. x.0,
      (print_none (at_place 0 once) refl, differs _ 0 refl, λ fault x. x, tt),
    ),
  ),
)

pub load_undone : OneText → LoadUndone
load_undone one = answered one _ _ Accepted no_quads tt (end_of begin undone_session, runs false begin undone_session is_undone, refl)

abbrev twice_session : List Entry
twice_session =
    entry load (codes "ok +1 -0\n") false once ∷ entry load (codes "ok +0 -0\n") false twice
    ∷ entry (act Undo) (codes "ok +0 -0\n") false (at_place 1 twice) ∷ entry (show Quads) (codes "<e:s> <e:p> <e:o> .\nok 1\n") false (at_place 1 twice) ∷ []

is_twice : IsSession begin twice_session
is_twice = (
  load_first begin refl,
  differs _ 0 refl,
  λ fault x. x.0,
  (
    load_again once refl,
    differs _ 0 refl,
    λ fault x. x.0,
    (
      (Changed (count_of 0 0), (omega arith, refl, counts_still), stayed, refl),
      differs _ 0 refl,
      λ fault x. x.0,
      (print_one (at_place 1 twice) refl, differs _ 0 refl, λ fault x. x, tt),
    ),
  ),
)

pub load_twice : OneText → LoadTwice
load_twice one = answered one _ _ Accepted one_quad tt (end_of begin twice_session, runs false begin twice_session is_twice, refl)

abbrev redone_session : List Entry
redone_session =
    entry load (codes "ok +1 -0\n") false once ∷ entry (act Undo) (codes "ok +0 -1\n") false (at_place 0 once)
    ∷ entry (act Redo) (codes "ok +1 -0\n") false once ∷ entry (act Redo) (codes "refused: NothingToRedo\n") true once ∷ []

is_redone : IsSession begin redone_session
is_redone = (
  load_first begin refl,
  differs _ 0 refl,
  λ fault x. x.0,
  (
    (Changed (count_of 0 1), (omega arith, refl, counts_down), went_down, refl),
    differs _ 0 refl,
    λ fault x. x.0,
    (
      (Changed (count_of 1 0), (omega arith, refl, counts_up), went_up, refl),
      differs _ 0 refl,
      λ fault x. x.0,
      ((RefusedReply NothingToRedo, (refl, refl), refl, refl), differs _ 11 refl, λ fault x. x.0, tt),
    ),
  ),
)

pub load_redone : OneText → LoadRedone
load_redone one = answered one _ _ Refused one_quad tt (end_of begin redone_session, runs false begin redone_session is_redone, refl)

abbrev marked_session : List Entry
marked_session =
    entry (act (Mark (codes "a"))) (codes "ok\n") false marked ∷ entry load (codes "ok +1 -0\n") false (accepted one_quad marked)
    ∷ entry (act (Rollback (codes "a"))) (codes "ok +0 -1\n") false (at_place 0 (accepted one_quad marked))
    ∷ entry (act (Rollback (codes "b"))) (codes "refused: NoSuchMark\n") true (at_place 0 (accepted one_quad marked)) ∷ []

mark_there : place_of (codes "a") (accepted one_quad marked).states ≡ Some 0
mark_there = place_kept (codes "a") marked.states.marks 0 0 (place_marked (codes "a") map.empty 0) (omega arith)

no_mark_there : place_of (codes "b") (accepted one_quad marked).states ≡ None
no_mark_there = place_lost (codes "b") marked.states.marks 0 (place_other (codes "a") (codes "b") map.empty 0 refl ∙ place_nowhere (codes "b"))

is_marked : IsSession begin marked_session
is_marked = (
  (Done, refl, refl, refl),
  differs _ 0 refl,
  λ fault x. x.0,
  (
    load_first marked refl,
    differs _ 0 refl,
    λ fault x. x.0,
    (
      (Changed (count_of 0 1), (0, mark_there, omega arith, refl, counts_down), went_down, refl),
      differs _ 0 refl,
      λ fault x. x.0,
      ((RefusedReply NoSuchMark, (no_mark_there, refl), refl, refl), differs _ 11 refl, λ fault x. x.0, tt),
    ),
  ),
)

pub mark_reached : OneText → MarkReached
mark_reached one = answered one _ _ Refused no_quads tt (end_of begin marked_session, runs false begin marked_session is_marked, refl)

abbrev committed_session : List Entry
committed_session =
    entry load (codes "ok +1 -0\n") false once ∷ entry (act Commit) (codes "ok\n") false (fresh None one_quad)
    ∷ entry (act Undo) (codes "refused: NothingToUndo\n") true (fresh None one_quad) ∷ []

is_committed : IsSession begin committed_session
is_committed = (
  load_first begin refl,
  differs _ 0 refl,
  λ fault x. x.0,
  (
    (Done, refl, refl, refl),
    differs _ 0 refl,
    λ fault x. x.0,
    ((RefusedReply NothingToUndo, (refl, refl), refl, refl), differs _ 11 refl, λ fault x. x.0, tt),
  ),
)

pub committed : OneText → Committed
committed one = answered one _ _ Refused one_quad tt (end_of begin committed_session, runs false begin committed_session is_committed, refl)

-- ---- a refusal first

abbrev refused_session : List Entry
refused_session = entry (act Undo) (codes "refused: NothingToUndo\n") true begin ∷ entry (show Quads) (codes "ok 0\n") false begin ∷ []

nothing_to_undo : Answers (act Undo) begin (codes "refused: NothingToUndo\n") true begin
nothing_to_undo = (RefusedReply NothingToUndo, (refl, refl), refl, refl)

is_refused : IsSession begin refused_session
is_refused = (nothing_to_undo, differs _ 11 refl, λ fault x. x.0, (print_none begin refl, differs _ 0 refl, λ fault x. x, tt))

pub refused_first : OneText → RefusedFirst
refused_first one = answered one _ _ Refused no_quads tt (end_of begin refused_session, runs false begin refused_session is_refused, refl)

pub stopped_at_once : StoppedAtOnce
stopped_at_once = inr (codes "refused: NothingToUndo\n", true, begin, ((nothing_to_undo, differs _ 11 refl), λ fault x. x.0), inr (inl (refl, refl, refl, refl)))

-- ---- a named graph with a blank node

abbrev all_named : set.FinSet quad_cmp
all_named = set.from_list (named_quad ∷ [])

abbrev all_names : set.FinSet term_cmp
all_names = set.from_list (graph_name ∷ [])

named_is_quad : IsTrue (is_quad named_quad)
named_is_quad =
    and_from (is_iri (codes "e:g")) (is_iri (codes "e:p") && is_iri (codes "e:o")) (ascii_iri (codes "e:g") refl refl refl)
    (and_from (is_iri (codes "e:p")) (is_iri (codes "e:o")) (ascii_iri (codes "e:p") refl refl refl) (ascii_iri (codes "e:o") refl refl refl))

only_zero : (front back : List ℕ) (number smaller : ℕ) → 0 ∷ [] ≡ front ++ number ∷ back → smaller < number → Contains front smaller
only_zero [] back number smaller e lt = let first : 0 ≡ number = ap (λ ns. get_or ns 0 0) e in absurd (omega (arith, first, lt))
only_zero (n ∷ ns) back number smaller e lt = nothing_there ns back number (ap (drop 1) e)

says_named : lines.IsDocument line.NQuads named_document (named_quad ∷ []) None
unfolding digits
says_named = numbered_documents_are_read_back (named_quad ∷ []) (named_is_quad, tt) only_zero

first_named : one_named ≡ loaded no_quads (named_quad ∷ [])
first_named = λ i. record {
  quads = sym (only_these quad_cmp_total quad_cmp-IsAntisymmetric all_named) i;
  names = sym (only_these term_cmp_total term_cmp-IsAntisymmetric all_names) i;
  next = 1;
}

named_added : 1 ≡ len (difference all_named set.empty)
named_added = sym (ap len (all_more quad_cmp_total quad_cmp-IsAntisymmetric all_named) ∙ one_member quad_cmp_total quad_cmp-IsAntisymmetric named_quad)

named_removed : 0 ≡ len (difference set.empty all_named)
named_removed = sym (ap len (nothing_more quad_cmp_total quad_cmp-IsAntisymmetric all_named) ∙ len-empty _)

named_up : count_of 1 0 ≡ counts_between no_quads one_named
named_up = λ i. record { added = named_added i; removed = named_removed i }

named_down : count_of 0 1 ≡ counts_between one_named no_quads
named_down = λ i. record { added = named_removed i; removed = named_added i }

abbrev load_named : Asked
load_named = act (Do (Load NQuads named_document))

load_graph : Answers load_named begin (codes "ok +1 -0\n") false (accepted one_named begin)
load_graph = (Changed (count_of 1 0), (one_named, (named_quad ∷ [], says_named, omega arith, first_named), refl, named_up), went_up, refl)

graphs_one : (s : Session) → now s ≡ one_named → Answers (show Graphs) s (codes "<e:g>\nok 1\n") false s
unfolding digits
graphs_one s e =
    (refl, inl (codes "<e:g>\n" ∷ [], (graph_name ∷ [], subst (λ (x : State). ListsSorted x.names (graph_name ∷ [])) (sym e) (lists_one term_cmp_total term_cmp-IsAntisymmetric graph_name), refl), refl, refl))

graphs_none : (s : Session) → now s ≡ no_quads → Answers (show Graphs) s (codes "ok 0\n") false s
unfolding digits
graphs_none s e = (refl, inl ([], ([], subst (λ (x : State). ListsSorted x.names []) (sym e) (lists_none term_cmp_total term_cmp-IsAntisymmetric), refl), refl, refl))

print_named : (s : Session) → now s ≡ one_named → Answers (show Quads) s (codes "_:b0 <e:p> <e:o> <e:g> .\nok 1\n") false s
unfolding digits
print_named s e =
    (refl, inl (named_document ∷ [], (named_quad ∷ [], subst (λ (x : State). ListsSorted x.quads (named_quad ∷ [])) (sym e) (lists_one quad_cmp_total quad_cmp-IsAntisymmetric named_quad), refl), refl, refl))

abbrev named_lines : List (List ℕ)
named_lines = codes "+ graph <e:g>\n" ∷ codes "+ _:b0 <e:p> <e:o> <e:g> .\n" ∷ []

lists_named : ListsChange (net_between no_quads one_named) named_lines
unfolding digits
lists_named = (
  [],
  [],
  graph_name ∷ [],
  named_quad ∷ [],
  subst (λ names. ListsSorted names []) (sym (nothing_more term_cmp_total term_cmp-IsAntisymmetric all_names)) (lists_none term_cmp_total term_cmp-IsAntisymmetric),
  subst (λ quads. ListsSorted quads []) (sym (nothing_more quad_cmp_total quad_cmp-IsAntisymmetric all_named)) (lists_none quad_cmp_total quad_cmp-IsAntisymmetric),
  subst (λ names. ListsSorted names (graph_name ∷ [])) (sym (all_more term_cmp_total term_cmp-IsAntisymmetric all_names)) (lists_one term_cmp_total term_cmp-IsAntisymmetric graph_name),
  subst (λ quads. ListsSorted quads (named_quad ∷ [])) (sym (all_more quad_cmp_total quad_cmp-IsAntisymmetric all_named)) (lists_one quad_cmp_total quad_cmp-IsAntisymmetric named_quad),
  refl,
)

changes_named : Answers (show Changes) (accepted one_named begin) (codes "+ graph <e:g>\n+ _:b0 <e:p> <e:o> <e:g> .\nok 2\n") false (accepted one_named begin)
unfolding digits
changes_named = (refl, inl (named_lines, lists_named, refl, refl))

lists_unchanged : (t : State) → ListsChange (net_between t t) []
lists_unchanged t =
    let names = subst (λ x. ListsSorted x []) (sym (none_more term_cmp_total term_cmp-IsAntisymmetric t.names)) (lists_none term_cmp_total term_cmp-IsAntisymmetric) in
    let quads = subst (λ x. ListsSorted x []) (sym (none_more quad_cmp_total quad_cmp-IsAntisymmetric t.quads)) (lists_none quad_cmp_total quad_cmp-IsAntisymmetric) in
    ([], [], [], [], names, quads, names, quads, refl)

changes_none : (s : Session) → now s ≡ s.base → Answers (show Changes) s (codes "ok 0\n") false s
unfolding digits
changes_none s e = (refl, inl ([], subst (λ t. ListsChange (net_between s.base t) []) (sym e) (lists_unchanged s.base), refl, refl))

abbrev named_once : Session
named_once = accepted one_named begin

abbrev shown_session : List Entry
shown_session =
    entry load_named (codes "ok +1 -0\n") false named_once ∷ entry (show Graphs) (codes "<e:g>\nok 1\n") false named_once
    ∷ entry (show Changes) (codes "+ graph <e:g>\n+ _:b0 <e:p> <e:o> <e:g> .\nok 2\n") false named_once
    ∷ entry (act Undo) (codes "ok +0 -1\n") false (at_place 0 named_once) ∷ entry (show Graphs) (codes "ok 0\n") false (at_place 0 named_once)
    ∷ entry (show Changes) (codes "ok 0\n") false (at_place 0 named_once) ∷ []

is_shown : IsSession begin shown_session
is_shown = (
  load_graph,
  differs _ 0 refl,
  λ fault x. x.0,
  (
    graphs_one named_once refl,
    differs _ 0 refl,
    λ fault x. x,
    (
      changes_named,
      differs _ 0 refl,
      λ fault x. x,
      (
        (Changed (count_of 0 1), (omega arith, refl, named_down), went_down, refl),
        differs _ 0 refl,
        λ fault x. x.0,
        (
          graphs_none (at_place 0 named_once) refl,
          differs _ 0 refl,
          λ fault x. x,
          (changes_none (at_place 0 named_once) refl, differs _ 0 refl, λ fault x. x, tt),
        ),
      ),
    ),
  ),
)

pub graph_shown : OneText → GraphShown
graph_shown one = answered one _ _ Accepted no_quads tt (end_of begin shown_session, runs false begin shown_session is_shown, refl)

abbrev named_base : Session
named_base = fresh None one_named

abbrev kept_session : List Entry
kept_session =
    entry load_named (codes "ok +1 -0\n") false named_once ∷ entry (act Commit) (codes "ok\n") false named_base
    ∷ entry (show Changes) (codes "ok 0\n") false named_base ∷ entry (show Graphs) (codes "<e:g>\nok 1\n") false named_base
    ∷ entry (show Quads) (codes "_:b0 <e:p> <e:o> <e:g> .\nok 1\n") false named_base ∷ []

is_kept : IsSession begin kept_session
is_kept = (
  load_graph,
  differs _ 0 refl,
  λ fault x. x.0,
  (
    (Done, refl, refl, refl),
    differs _ 0 refl,
    λ fault x. x.0,
    (
      changes_none named_base refl,
      differs _ 0 refl,
      λ fault x. x,
      (graphs_one named_base refl, differs _ 0 refl, λ fault x. x, (print_named named_base refl, differs _ 0 refl, λ fault x. x, tt)),
    ),
  ),
)

pub graph_committed : OneText → GraphCommitted
graph_committed one = answered one _ _ Accepted one_named tt (end_of begin kept_session, runs false begin kept_session is_kept, refl)

-- ---- marks of a history

pub history_cut : HistoryCut
history_cut =
    let before = marks_upto 0 map.empty in
    let first = map.insert before (codes "a") 1 in
    let second = map.insert (marks_upto 1 first) (codes "b") 2 in (
      refl,
      refl,
      place_kept (codes "a") second 1 1
          (place_other (codes "b") (codes "a") (marks_upto 1 first) 2 refl ∙ place_kept (codes "a") first 1 1 (place_marked (codes "a") before 1) (omega arith))
          (omega arith),
      place_past (codes "b") second 2 1 (place_marked (codes "b") (marks_upto 1 first) 2) (omega arith),
    )

abbrev open_session : List Entry
open_session = entry (show Quads) (codes "ok 0\n") false begin ∷ entry unended (codes "refused: NoEnd\n") true begin ∷ []

is_open : IsSession begin open_session
is_open = (print_none begin refl, differs _ 0 refl, λ fault x. x, ((refl, refl, refl), differs _ 11 refl, λ fault x. x, tt))

pub open_load : OneText → OpenLoad
open_load one = answered one _ _ Refused no_quads tt (end_of begin open_session, runs false begin open_session is_open, refl)
