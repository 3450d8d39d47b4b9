-- A label is repeated just where it stands in two lists, and reused just where it is shared.
use Rattle.std.proofs.Common.{◌≡◌, ◌≤◌, ◌+◌, ℕ, Bool, true, false, cond, ◌||◌, List, [], ◌∷◌, ◌++◌, ◌⊎◌, inl, inr, refl, sym, ap, ◌∙◌, arith}
use Rattle.std.specs.List.{count_by, flat_map, list_any, sum_by}
use Rattle.std.proofs.lemmas.Cmp.{nat_list_eq_equiv}
use Rattle.std.proofs.lemmas.List.Folds.{list_any-append}
use Rattle.std.proofs.lemmas.List.Recursion.{is_count_by}
use Rattle.std.proofs.lemmas.List.Sums.{sum_by-append, sum_by-cons}
use Rattle.std.proofs.lemmas.Map.Steps.{list_any_congr}
use Rattle.indexmap.specs.IndexSet.{insert_key}
use Rattle.rdf_grammar.specs.Keys.{key_of, same_key}
use Rattle.sparql_syntax.specs.declared.drafts.Draft.{Draft}
use Rattle.sparql_syntax.specs.declared.drafts.Draft.TheVariants as draft
use Rattle.sparql_queries.specs.Groups.{Labels}
use Rattle.sparql_syntax.specs.Labels.{is_among, known_behind, repeats_label}
use Rattle.sparql_syntax.specs.RuleLaws.{brings_label, patterns_with, stands_in, HasSharedLabel, LabelsAreShared}
use Rattle.sparql_syntax.specs.Rules.{inserted_labels, pattern_labels, reuses_label}

abbrev pub Keys : Type 0
Keys = List (List ℕ)

-- one of the labels has this key
abbrev pub stands : List ℕ → Keys → Bool
stands key labels = list_any (λ l. same_key key (key_of l)) labels

pub or_no : (b : Bool) → (b || false) ≡ b
or_no true = refl
or_no false = refl

pub or_yes : (b : Bool) → (b || true) ≡ true
or_yes true = refl
or_yes false = refl

pub same_self : (key : List ℕ) → same_key key key ≡ true
same_self key = nat_list_eq_equiv.refl key

-- ---- keys that are known

found_behind : (key k : List ℕ) (known : Keys) (b c : Bool) → list_any (same_key k) known ≡ b → same_key key k ≡ c
    → list_any (same_key key) (cond b known (known ++ k ∷ [])) ≡ (list_any (same_key key) known || same_key key k)
found_behind key k known true true e f = rw (f, list_any_congr nat_list_eq_equiv key k known f, e) refl
found_behind key k known true false e f = rw f (sym (or_no _))
found_behind key k known false c e f = list_any-append (same_key key) known (k ∷ []) ∙ ap (λ b. list_any (same_key key) known || b) (or_no (same_key key k))

inserted : (key k : List ℕ) (known : Keys) → list_any (same_key key) (insert_key same_key known k) ≡ (list_any (same_key key) known || same_key key k)
inserted key k known = found_behind key k known (list_any (same_key k) known) (same_key key k) refl refl

pub or_assoc : (a b c : Bool) → ((a || b) || c) ≡ (a || (b || c))
or_assoc true b c = refl
or_assoc false b c = refl

pub known_grows : (key : List ℕ) (labels known : Keys) → list_any (same_key key) (known_behind known labels) ≡ (list_any (same_key key) known || stands key labels)
known_grows key [] known = sym (or_no _)
known_grows key (label ∷ labels) known =
    known_grows key labels (insert_key same_key known (key_of label))
    ∙ (ap (λ b. b || stands key labels) (inserted key (key_of label) known) ∙ or_assoc (list_any (same_key key) known) (same_key key (key_of label)) (stands key labels))

-- ---- a label that is known, in one operation

-- a label that is known, among the labels
record Met (known labels : Keys) : Type 0 where
  label : List ℕ
  among : is_among known label ≡ true
  stood : stands (key_of label) labels ≡ true

met_later : (known labels : Keys) (label : List ℕ) → Met known labels → Met known (label ∷ labels)
met_later known labels label m = record { label = m.label; among = m.among; stood = rw m.stood (or_yes _) }

met_by : (known labels : Keys) (label : List ℕ) (b : Bool) → is_among known label ≡ b → (b || list_any (is_among known) labels) ≡ true
    → (list_any (is_among known) labels ≡ true → Met known labels) → Met known (label ∷ labels)
met_by known labels label true e f rest = record { label = label; among = e; stood = rw (same_self (key_of label)) refl }
met_by known labels label false e f rest = met_later known labels label (rest f)

met : (known labels : Keys) → list_any (is_among known) labels ≡ true → Met known labels
met known [] e = absurd cc
met known (label ∷ labels) e = met_by known labels label (is_among known label) refl e (met known labels)

meets_by : (key : List ℕ) (known labels : Keys) (label : List ℕ) (b : Bool) → same_key key (key_of label) ≡ b → list_any (same_key key) known ≡ true → (b || stands key labels) ≡ true
    → (stands key labels ≡ true → list_any (is_among known) labels ≡ true) → (is_among known label || list_any (is_among known) labels) ≡ true
meets_by key known labels label true e among f rest = rw (sym (list_any_congr nat_list_eq_equiv key (key_of label) known e), among) refl
meets_by key known labels label false e among f rest = rw (rest f) (or_yes _)

meets : (key : List ℕ) (known labels : Keys) → list_any (same_key key) known ≡ true → stands key labels ≡ true → list_any (is_among known) labels ≡ true
meets key known [] among e = absurd cc
meets key known (label ∷ labels) among e = meets_by key known labels label (same_key key (key_of label)) refl among e (meets key known labels among)

-- ---- what is repeated stands in two

-- in how many lists a label stands
unfoldable pub times : List ℕ → Labels → ℕ
times label [] = 0
times label (labels ∷ lists) = cond (stands_in label labels) (1 + times label lists) (times label lists)

-- a label stands in one list and is known, or in two
abbrev Often : Keys → Labels → List ℕ → Type 0
Often known lists label = ((is_among known label ≡ true) × (1 ≤ times label lists)) ⊎ (2 ≤ times label lists)

record Shared (known : Keys) (lists : Labels) : Type 0 where
  label : List ℕ
  often : Often known lists label

from_first : (known labels : Keys) (lists : Labels) → Met known labels → Shared known (labels ∷ lists)
unfolding times
from_first known labels lists m = record { label = m.label; often = inl (m.among, rw m.stood (omega arith)) }

from_rest_by : (known labels : Keys) (lists : Labels) (label : List ℕ) (a b : Bool) → is_among known label ≡ a → stands_in label labels ≡ b → (a || b) ≡ true → 1 ≤ times label lists
    → Often known (labels ∷ lists) label
unfolding times
from_rest_by known labels lists label true true e f h one = inr (rw f (omega (arith, one)))
from_rest_by known labels lists label true false e f h one = inl (e, rw f one)
from_rest_by known labels lists label false true e f h one = inr (rw f (omega (arith, one)))
from_rest_by known labels lists label false false e f h one = absurd cc

more : (label : List ℕ) (labels : Keys) (lists : Labels) (b : Bool) → stands_in label labels ≡ b → times label lists ≤ times label (labels ∷ lists)
unfolding times
more label labels lists true e = rw e (omega arith)
more label labels lists false e = rw e (omega arith)

from_rest : (known labels : Keys) (lists : Labels) (label : List ℕ) → Often (known_behind known labels) lists label → Often known (labels ∷ lists) label
from_rest known labels lists label (inl h) =
    from_rest_by known labels lists label (is_among known label) (stands_in label labels) refl refl (sym (known_grows (key_of label) labels known) ∙ h.0) h.1
from_rest known labels lists label (inr two) = let e = more label labels lists (stands_in label labels) refl in inr (omega (arith, e, two))

by_parts : (known labels : Keys) (lists : Labels) (b : Bool) → list_any (is_among known) labels ≡ b → (b || repeats_label (known_behind known labels) lists) ≡ true
    → (repeats_label (known_behind known labels) lists ≡ true → Shared (known_behind known labels) lists) → Shared known (labels ∷ lists)
by_parts known labels lists true e f rest = from_first known labels lists (met known labels e)
by_parts known labels lists false e f rest = let m = rest f in record { label = m.label; often = from_rest known labels lists m.label m.often }

shared : (known : Keys) (lists : Labels) → repeats_label known lists ≡ true → Shared known lists
shared known [] e = absurd cc
shared known (labels ∷ lists) e = by_parts known labels lists (list_any (is_among known) labels) refl e (shared (known_behind known labels) lists)

-- ---- what stands in two is repeated

-- where the label is known one list is enough
record Repeated (label : List ℕ) (known : Keys) (lists : Labels) : Type 0 where
  once : is_among known label ≡ true → 1 ≤ times label lists → repeats_label known lists ≡ true
  twice : 2 ≤ times label lists → repeats_label known lists ≡ true

once_by : (label : List ℕ) (known labels : Keys) (lists : Labels) (b : Bool) → stands (key_of label) labels ≡ b → is_among known label ≡ true
    → 1 ≤ cond b (1 + times label lists) (times label lists) → Repeated label (known_behind known labels) lists
    → (list_any (is_among known) labels || repeats_label (known_behind known labels) lists) ≡ true
once_by label known labels lists true e among one rest = rw (meets (key_of label) known labels among e) refl
once_by label known labels lists false e among one rest = rw (rest.once (rw (known_grows (key_of label) labels known, among) refl) one) (or_yes _)

twice_by : (label : List ℕ) (known labels : Keys) (lists : Labels) (b : Bool) → stands (key_of label) labels ≡ b → 2 ≤ cond b (1 + times label lists) (times label lists)
    → Repeated label (known_behind known labels) lists → (list_any (is_among known) labels || repeats_label (known_behind known labels) lists) ≡ true
twice_by label known labels lists true e two rest =
    let one : (1 ≤ times label lists) = omega (arith, two) in
    rw (rest.once (rw (known_grows (key_of label) labels known, e) (or_yes _)) one) (or_yes _)
twice_by label known labels lists false e two rest = rw (rest.twice two) (or_yes _)

repeated : (label : List ℕ) (known : Keys) (lists : Labels) → Repeated label known lists
unfolding times
repeated label known [] = record { once = λ among one. absurd (omega (arith, one)); twice = λ two. absurd (omega (arith, two)) }
repeated label known (labels ∷ lists) =
    let rest = repeated label (known_behind known labels) lists in
    let b = stands (key_of label) labels in
    record {
      once = λ among one. once_by label known labels lists b refl among one rest;
      twice = λ two. twice_by label known labels lists b refl two rest;
    }

-- ---- lists that begin with none known

unknown : (lists : Labels) (label : List ℕ) → Often [] lists label → 2 ≤ times label lists
unknown lists label (inl h) = absurd (cc h.0)
unknown lists label (inr two) = two

-- a label stands in two of the lists
abbrev pub InTwo : Labels → Type 0
InTwo lists = (label : List ℕ) × (2 ≤ times label lists)

pub in_two : (lists : Labels) → repeats_label [] lists ≡ true → InTwo lists
in_two lists e = let m = shared [] lists e in (m.label, unknown lists m.label m.often)

pub from_two : (lists : Labels) (label : List ℕ) → 2 ≤ times label lists → repeats_label [] lists ≡ true
from_two lists label two = (repeated label [] lists).twice two

-- ---- the lists of a request

pub counted : (label : List ℕ) (lists : Labels) → times label lists ≡ count_by (stands_in label) lists
unfolding times
counted label lists = is_count_by (times label) (stands_in label) refl (λ labels rest. refl) lists

pub times-append : (label : List ℕ) (lists others : Labels) → times label (lists ++ others) ≡ times label lists + times label others
times-append label lists others =
    let e : times label lists + times label others ≡ count_by (stands_in label) lists + count_by (stands_in label) others = rw (counted label lists, counted label others) refl in
    counted label (lists ++ others) ∙ (sum_by-append (λ labels. cond (stands_in label labels) 1 0) lists others ∙ sym e)

one_list : (label : List ℕ) (labels : Keys) (b : Bool) → stands_in label labels ≡ b → times label (labels ∷ []) ≡ cond b 1 0
unfolding times
one_list label labels true e = rw e refl
one_list label labels false e = rw e refl

in_data : (label : List ℕ) (d : Draft) → times label (inserted_labels d) ≡ cond (brings_label label d) 1 0
unfolding times
in_data label (draft.InsertData quads) = one_list label quads.labels (stands_in label quads.labels) refl
in_data label (draft.DeleteData quads) = refl
in_data label (draft.Modify m) = refl
in_data label (draft.Other other) = refl

in_patterns : (label : List ℕ) (d : Draft) → times label (pattern_labels d) ≡ patterns_with label d
unfolding times
in_patterns label (draft.InsertData quads) = refl
in_patterns label (draft.DeleteData quads) = refl
in_patterns label (draft.Modify m) = counted label m.labels
in_patterns label (draft.Other other) = refl

-- in the lists of all operations, as often as in those of each
summed : (label : List ℕ) (f : Draft → Labels) (g : Draft → ℕ) → ((d : Draft) → times label (f d) ≡ g d) → (ds : List Draft) → times label (flat_map f ds) ≡ sum_by g ds
unfolding times
summed label f g is [] = refl
summed label f g is (d ∷ ds) =
    let e : times label (f d) + times label (flat_map f ds) ≡ g d + sum_by g ds = rw (is d, summed label f g is ds) refl in
    times-append label (f d) (flat_map f ds) ∙ (e ∙ sym (sum_by-cons g d ds))

data_times : (label : List ℕ) (ds : List Draft) → times label (flat_map inserted_labels ds) ≡ count_by (brings_label label) ds
data_times label ds = summed label inserted_labels (λ d. cond (brings_label label d) 1 0) (in_data label) ds

pattern_times : (label : List ℕ) (ds : List Draft) → times label (flat_map pattern_labels ds) ≡ sum_by (patterns_with label) ds
pattern_times label ds = summed label pattern_labels (patterns_with label) (in_patterns label) ds

-- ---- the law

data_shared : (ds : List Draft) → InTwo (flat_map inserted_labels ds) → HasSharedLabel ds
data_shared ds m = (m.0, inl (rw (sym (data_times m.0 ds)) m.1))

patterns_shared : (ds : List Draft) → InTwo (flat_map pattern_labels ds) → HasSharedLabel ds
patterns_shared ds m = (m.0, inr (rw (sym (pattern_times m.0 ds)) m.1))

reused_by : (ds : List Draft) (a : Bool) → repeats_label [] (flat_map inserted_labels ds) ≡ a → (a || repeats_label [] (flat_map pattern_labels ds)) ≡ true → HasSharedLabel ds
reused_by ds true e f = data_shared ds (in_two (flat_map inserted_labels ds) e)
reused_by ds false e f = patterns_shared ds (in_two (flat_map pattern_labels ds) f)

shared_by : (ds : List Draft) (label : List ℕ) → (2 ≤ count_by (brings_label label) ds) ⊎ (2 ≤ sum_by (patterns_with label) ds) → reuses_label ds ≡ true
shared_by ds label (inl two) = rw (from_two (flat_map inserted_labels ds) label (rw (data_times label ds) two)) refl
shared_by ds label (inr two) = rw (from_two (flat_map pattern_labels ds) label (rw (pattern_times label ds) two)) (or_yes _)

pub labels_are_shared : LabelsAreShared
labels_are_shared ds = (reused_by ds (repeats_label [] (flat_map inserted_labels ds)) refl, λ h. shared_by ds h.0 h.1)
