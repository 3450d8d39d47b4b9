-- A turn of each loop of the reading.
use Rattle.std.proofs.Common.{◌≡◌, ◌∙◌, ◌≤◌, ap, sym, ℕ, suc, ◌+◌, ◌<◌, List, [], ◌∷◌, map, drop, length, get_or, add-one, arith, Some, Bool, true, true≢false}
use Rattle.std.proofs.lemmas.Bool.{and_parts}
use Rattle.std.specs.List.{list_all}
use Rattle.rdf_grammar.specs.Steps.{and_then}
use Rattle.rdf_grammar.proofs.CallerLemmas.{drop_is}
use Rattle.sparql_grammar.specs.Proper.{holds, is_filled}
use Rattle.sparql_grammar.specs.declared.tree.Node.{Node}
use Rattle.sparql_drafts.specs.declared.draft.VarOrTerm.{VarOrTerm}
use Rattle.sparql_drafts.specs.Meaning.{meaning, next_cell, behind}
use Rattle.sparql_drafts.specs.Drafting.{Drafting}

pub filled_count : {A B : Type 0} (f : A → B) (xs : List A) → is_filled (map f xs) ≡ true → 1 ≤ length xs
filled_count f [] h = absurd (true≢false (sym h))
filled_count f (x ∷ xs) h = omega arith

-- the members behind the first
pub rest_all : {A : Type 0} (f : A → Bool) (xs : List A) → list_all holds (map f xs) ≡ true → list_all holds (map f (drop 1 xs)) ≡ true
rest_all f [] h = h
rest_all f (x ∷ xs) h = (and_parts (f x) (list_all holds (map f xs)) h).1

-- the next cell of a list
pub next_in_list : (cell next : VarOrTerm) (items : List Node) (i : ℕ) (x : Node) (s u : Drafting) → i < length items → x ≡ get_or items i x → next_cell cell (meaning x) s ≡ Some (next, u)
    → behind cell (map meaning (drop i items)) s ≡ behind next (map meaning (drop (i + 1) items)) u
next_in_list cell next items i x s u l is h =
    rw add-one (ap (λ (ys : List Node). behind cell (map meaning ys) s) (drop_is items i x l is) ∙ ap (λ o. and_then o (λ n. behind n (map meaning (drop (suc i) items)))) h)
