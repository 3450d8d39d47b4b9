-- Which patterns read the active graph.
use Rattle.std.proofs.Common.{◌≡◌, ℕ, ◌+◌, ◌<◌, ◌≤◌, Bool, true, false, not, ◌||◌, List, [], ◌∷◌, map, refl, sym, ap, ◌∙◌, length, drop, get_or, arith, nat_eq}
use Rattle.std.specs.List.{fold, list_any}
use Rattle.std.proofs.lemmas.Bool.{eqb-true}
use Rattle.std.proofs.lemmas.List.{drop_all, drop_more}
use Rattle.sparql_trees.specs.declared.expression.Expression.{Expression}
use Rattle.sparql_trees.specs.declared.pattern.BasicGraphPattern.{BasicGraphPattern}
use Rattle.sparql_trees.specs.declared.pattern.Member.{Member}
use Rattle.sparql_trees.specs.declared.pattern.Member.TheVariants as m
use Rattle.sparql_trees.specs.declared.pattern.Pattern.{Pattern}
use Rattle.sparql_trees.specs.declared.pattern.TriplePattern.{TriplePattern}
use Rattle.sparql_algebra.specs.Algebra.{Algebra, empty_pattern, union, extended, Element, joined, optional, removed, filtered, element, group_of, translation, union_of}
use Rattle.sparql_algebra.specs.Under.{stands_any, is_positive, reads}
use Rattle.sparql_algebra.proofs.CallerLemmas.{translation-is, element-Basic, element-Union, element-Optional, element-Minus}
use Rattle.sparql_solve.specs.Members.{part}

both_false : (a b : Bool) → a ≡ false → b ≡ false → (a || b) ≡ false
both_false a b h k = ap (λ t. t || b) h ∙ k

-- ---- lists of which none passes

module _ {X : Type 0} (q : X → Bool) where
  pub none_more : (xs : List X) (i : ℕ) (x : X) → i < length xs → x ≡ get_or xs i x → q x ≡ false →
      (list_any q (drop i xs) ≡ false → list_any q xs ≡ false) → list_any q (drop (i + 1) xs) ≡ false → list_any q xs ≡ false
  none_more xs i x lt here h k r =
      let next : drop i xs ≡ x ∷ drop (i + 1) xs = drop_more xs i x lt ∙ ap (λ (y : X). y ∷ drop (i + 1) xs) (sym here) in
      k (ap (list_any q) next ∙ both_false (q x) (list_any q (drop (i + 1) xs)) h r)

  pub none_all : (xs : List X) (i : ℕ) → length xs ≤ i → (list_any q (drop i xs) ≡ false → list_any q xs ≡ false) → list_any q xs ≡ false
  none_all xs i le k = k (ap (list_any q) (drop_all i xs le))

-- ---- groups and members

abbrev pub reads_member : Member → Bool
reads_member x = reads (part (element x))

abbrev pub reads_group : Pattern → Bool
reads_group p = reads (translation p)

extended_unread : (G : Algebra) (k : Element) → reads G ≡ false → reads (part k) ≡ false → reads (extended G k) ≡ false
extended_unread G (joined A) h k = both_false (reads G) (reads A) h k
extended_unread G (optional F A) h k = both_false (reads G) (reads A) h k
extended_unread G (removed A) h k = both_false (reads G) (reads A) h k

first_false : (a b : Bool) → (a || b) ≡ false → a ≡ false
first_false true b h = h
first_false false b h = refl

last_false : (a b : Bool) → (a || b) ≡ false → b ≡ false
last_false true b h = cc
last_false false b h = h

members_unread : (G : Algebra) (ms : List Member) → reads G ≡ false → list_any reads_member ms ≡ false → reads (fold extended G (map element ms)) ≡ false
members_unread G [] h k = h
members_unread G (x ∷ ms) h k =
    members_unread (extended G (element x)) ms (extended_unread G (element x) h (first_false (reads_member x) (list_any reads_member ms) k))
    (last_false (reads_member x) (list_any reads_member ms) k)

filtered_unread : (F : List Expression) (G : Algebra) → reads (filtered F G) ≡ reads G
filtered_unread [] G = refl
filtered_unread (x ∷ F) G = refl

pub group_unread : (p : Pattern) (ms : List Member) → ms ≡ p.members → list_any reads_member ms ≡ false → reads (translation p) ≡ false
group_unread p ms e h =
    ap reads (translation-is p) ∙ filtered_unread p.filters (group_of (map element p.members))
    ∙ members_unread empty_pattern p.members refl (ap (list_any reads_member) (sym e) ∙ h)

groups_joined : (A : Algebra) (ps : List Pattern) → reads A ≡ false → list_any reads_group ps ≡ false → reads (fold union A (map translation ps)) ≡ false
groups_joined A [] h k = h
groups_joined A (p ∷ ps) h k =
    groups_joined (union A (translation p)) ps (both_false (reads A) (reads_group p) h (first_false (reads_group p) (list_any reads_group ps) k))
    (last_false (reads_group p) (list_any reads_group ps) k)

pub groups_unread : (ps : List Pattern) → list_any reads_group ps ≡ false → reads (union_of (map translation ps)) ≡ false
groups_unread [] h = refl
groups_unread (p ∷ ps) h =
    groups_joined (translation p) ps (first_false (reads_group p) (list_any reads_group ps) h) (last_false (reads_group p) (list_any reads_group ps) h)

pub no_triples : (ts : List TriplePattern) (n : ℕ) (b : Bool) → b ≡ nat_eq (length ts) 0 → not b ≡ false → n ≡ 0 → (stands_any ts || is_positive n) ≡ false
no_triples [] n b e h k = ap is_positive k
no_triples (t ∷ ts) n true e h k = absurd (omega (arith, eqb-true (length (t ∷ ts)) 0 (sym e)))
no_triples (t ∷ ts) n false e h k = cc

pub basic_unread : (member : Member) (b : BasicGraphPattern) → member ≡ m.Basic b → (stands_any b.triples || is_positive b.hidden) ≡ false → reads_member member ≡ false
basic_unread member b e h = ap (λ (x : Element). reads (part x)) (ap element e ∙ element-Basic b) ∙ h

pub union_unread : (member : Member) (ps given : List Pattern) → member ≡ m.Union ps → given ≡ ps → reads (union_of (map translation given)) ≡ false →
    reads_member member ≡ false
union_unread member ps given e eg h =
    ap (λ (x : Element). reads (part x)) (ap element e ∙ element-Union ps) ∙ ap (λ (qs : List Pattern). reads (union_of (map translation qs))) (sym eg) ∙ h

pub optional_unread : (member : Member) (p : Pattern) → member ≡ m.Optional p → reads (translation p) ≡ false → reads_member member ≡ false
optional_unread member p e h =
    ap (λ (x : Element). reads (part x)) (ap element e ∙ element-Optional p)
    ∙ sym (filtered_unread p.filters (group_of (map element p.members))) ∙ sym (ap reads (translation-is p)) ∙ h

pub minus_unread : (member : Member) (p : Pattern) → member ≡ m.Minus p → reads (translation p) ≡ false → reads_member member ≡ false
minus_unread member p e h = ap (λ (x : Element). reads (part x)) (ap element e ∙ element-Minus p) ∙ h
