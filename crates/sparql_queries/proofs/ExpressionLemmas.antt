-- A turn of each loop over expressions, and expressions of two parts.
use Rattle.std.proofs.Common.{◌≡◌, ◌∙◌, ap, sym, ℕ, ◌+◌, ◌<◌, List, [], ◌∷◌, ◌++◌, map, drop, length, get_or, suc, add-one, append_assoc, Option, Some, None, refl}
use Rattle.std.specs.Prelude.{option_map}
use Rattle.sparql_drafts.specs.declared.fault.DraftFault.{DraftFault}
use Rattle.sparql_drafts.specs.declared.fault.DraftFault.TheVariants.{NoIri, NoMemory}
use Rattle.sparql_drafts.specs.Kept.{Fails}
use Rattle.rdf_grammar.specs.Prologue.{Prologue}
use Rattle.sparql_expressions.specs.declared.tree.Expression as written
use Rattle.sparql_expressions.specs.declared.tree.Expression.TheFolds.{fold-roll-Expression}
use Rattle.sparql_expressions.specs.declared.tree.Expression.TheOpen.{Expression-F}
use Rattle.sparql_expressions.specs.declared.tree.Expression.TheVariants as w
use Rattle.sparql_queries.specs.Addends.{addend_in}
use Rattle.sparql_queries.specs.Expressions.{both, all, addend, expression_in, expression_of}
use Rattle.sparql_trees.specs.declared.expression.Comparison.{Comparison}
use Rattle.sparql_trees.specs.declared.expression.Expression.TheVariants as e
use Rattle.sparql_trees.specs.declared.expression.Expression.{Expression}
use Rattle.sparql_trees.specs.declared.expression.Sign.{Sign}
use Rattle.rdf_grammar.proofs.CallerLemmas.{drop_is}

-- these, and behind them the parts, where all are there
abbrev pub all_behind : {A : Type 0} → List A → List (Option A) → Option (List A)
all_behind found parts = option_map (λ others. found ++ others) (all parts)

one_more : {A : Type 0} (found : List A) (a : A) (others : Option (List A)) → option_map (λ xs. found ++ xs) (option_map (λ xs. a ∷ xs) others) ≡ option_map (λ xs. (found ++ a ∷ []) ++ xs) others
one_more found a None = refl
one_more found a (Some xs) = ap Some (sym (append_assoc found (a ∷ []) xs))

-- what the next part gives, and the parts behind it
pub next_part : {A B : Type 0} (f : B → Option A) (xs : List B) (i : ℕ) (x : B) (found : List A) (a : A) → i < length xs → x ≡ get_or xs i x → f x ≡ Some a
    → all_behind found (map f (drop i xs)) ≡ all_behind (found ++ a ∷ []) (map f (drop (i + 1) xs))
next_part {A = A} {B = B} f xs i x found a l is h =
    rw add-one (ap (λ (ys : List B). all_behind found (map f ys)) (drop_is xs i x l is)
    ∙ ap (λ (o : Option A). option_map (λ others. found ++ others) (both (λ y others. y ∷ others) o (all (map f (drop (suc i) xs))))) h
    ∙ one_more found a (all (map f (drop (suc i) xs))))

none_next : {A B : Type 0} (f : B → Option A) (xs : List B) (i : ℕ) (x : B) (found : List A) → i < length xs → x ≡ get_or xs i x → f x ≡ None → all_behind found (map f (drop i xs)) ≡ None
none_next {A = A} {B = B} f xs i x found l is h =
    ap (λ (ys : List B). all_behind found (map f ys)) (drop_is xs i x l is)
    ∙ ap (λ (o : Option A). option_map (λ others. found ++ others) (both (λ y others. y ∷ others) o (all (map f (drop (suc i) xs))))) h

-- nothing is given where the next part fails
pub part_fails : {A B : Type 0} (f : B → Option A) (xs : List B) (i : ℕ) (x : B) (found : List A) (whole : Option (List A)) (e : DraftFault) → whole ≡ all_behind found (map f (drop i xs)) → i < length xs → x ≡ get_or xs i x → Fails (f x) e
    → Fails whole e
part_fails f xs i x found whole (NoMemory refused) w l is h = tt
part_fails f xs i x found whole NoIri w l is h = w ∙ none_next f xs i x found l is h

-- ---- two parts

pub left_fails : {A B C : Type 0} (make : A → B → C) (left : Option A) (right : Option B) (e : DraftFault) → Fails left e → Fails (both make left right) e
left_fails make left right (NoMemory refused) h = tt
left_fails make left right NoIri h = ap (λ o. both make o right) h

none_behind : {A B C : Type 0} (make : A → B → C) (left : Option A) → both {B = B} make left None ≡ None
none_behind make None = refl
none_behind make (Some a) = refl

pub right_fails : {A B C : Type 0} (make : A → B → C) (left : Option A) (right : Option B) (e : DraftFault) → Fails right e → Fails (both make left right) e
right_fails make left right (NoMemory refused) h = tt
right_fails make left right NoIri h = ap (λ o. both make left o) h ∙ none_behind make left

pub both_there : {A B C : Type 0} (make : A → B → C) (left : Option A) (right : Option B) (a : A) (b : B) → left ≡ Some a → right ≡ Some b → both make left right ≡ Some (make a b)
both_there make left right a b h k = ap (λ o. both make o right) h ∙ ap (λ o. both make (Some a) o) k

-- ---- operands of a sum

pub addend_fails : (sign : Sign) (value : Option Expression) (e : DraftFault) → Fails value e → Fails (addend (sign, value)) e
addend_fails sign value (NoMemory refused) h = tt
addend_fails sign value NoIri h = ap (λ o. addend (sign, o)) h

-- ---- expressions by their parts

pub compare_is : (p : Prologue) (operator : Comparison) (left right : written.Expression) → expression_in p (w.Compare operator left right) ≡ both (e.Compare operator) (expression_in p left) (expression_in p right)
compare_is p operator left right = ap (expression_in p) (sym (w.rolls-Compare operator left right)) ∙ fold-roll-Expression (Option Expression) (expression_of p) (Expression-F.Compare operator left right)

pub same_term_is : (p : Prologue) (left right : written.Expression) → expression_in p (w.SameTerm left right) ≡ both e.SameTerm (expression_in p left) (expression_in p right)
same_term_is p left right = ap (expression_in p) (sym (w.rolls-SameTerm left right)) ∙ fold-roll-Expression (Option Expression) (expression_of p) (Expression-F.SameTerm left right)

addends_are : (p : Prologue) (parts : List (Sign × written.Expression)) → map addend (map (λ part. (part.0, expression_in p part.1)) parts) ≡ map (addend_in p) parts
addends_are p [] = refl
addends_are p (part ∷ parts) = ap (λ xs. addend_in p part ∷ xs) (addends_are p parts)

pub sum_is : (p : Prologue) (first : written.Expression) (parts : List (Sign × written.Expression)) → expression_in p (w.Sum first parts) ≡ both e.Sum (expression_in p first) (all (map (addend_in p) parts))
sum_is p first parts =
    ap (expression_in p) (sym (w.rolls-Sum first parts)) ∙ fold-roll-Expression (Option Expression) (expression_of p) (Expression-F.Sum first parts)
    ∙ ap (λ xs. both e.Sum (expression_in p first) (all xs)) (addends_are p parts)

-- ---- the loops' starts

none_yet : {A : Type 0} (parts : Option (List A)) → parts ≡ option_map (λ others. [] ++ others) parts
none_yet None = refl
none_yet (Some others) = refl

pub all_at_start : {A B : Type 0} (f : B → Option A) (xs : List B) (made : List A) → made ≡ [] → all (map f xs) ≡ all_behind made (map f xs)
all_at_start {A = A} f xs made h = none_yet (all (map f xs)) ∙ ap (λ (found : List A). all_behind found (map f xs)) (sym h)
