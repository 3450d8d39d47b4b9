-- Where no MINUS stands in a pattern, the names outside MINUS are all names.
use Rattle.std.proofs.Common.{◌≡◌, ℕ, ◌+◌, ◌<◌, ◌≤◌, Bool, true, false, List, ◌∷◌, ◌++◌, map, sym, ap, ◌∙◌, length, drop, get_or}
use Rattle.std.specs.List.{flat_map}
use Rattle.std.proofs.lemmas.List.{drop_all, drop_more}
use Rattle.sparql_trees.specs.Visible.{Names, joined, member_names, names_of_member, names_of_pattern, names_where, triple_names}
use Rattle.sparql_trees.specs.declared.pattern.BasicGraphPattern.{BasicGraphPattern}
use Rattle.sparql_trees.specs.declared.pattern.Member.{Member}
use Rattle.sparql_trees.specs.declared.pattern.Member.TheFolds.{fold-roll-Member, fold-roll-Pattern}
use Rattle.sparql_trees.specs.declared.pattern.Member.TheOpen.{Member-F}
use Rattle.sparql_trees.specs.declared.pattern.Member.TheVariants as m
use Rattle.sparql_trees.specs.declared.pattern.Pattern.{Pattern}

module _ {X : Type 0} (f g : X → Names) (xs : List X) where
  abbrev Same : List X → Type 0
  Same ys = joined (map f ys) ≡ joined (map g ys)

  pub same_more : {W : Type 0} (i : ℕ) (x : X) → i < length xs → x ≡ get_or xs i x → f x ≡ g x → (Same (drop i xs) → W) → Same (drop (i + 1) xs) → W
  same_more i x lt here e k r =
      let next : drop i xs ≡ x ∷ drop (i + 1) xs = drop_more xs i x lt ∙ ap (λ (y : X). y ∷ drop (i + 1) xs) (sym here) in
      k (ap (λ (ys : List X). joined (map f ys)) next ∙ ap (λ (ns : Names). ns ++ joined (map f (drop (i + 1) xs))) e
      ∙ ap (λ (ns : Names). g x ++ ns) r ∙ sym (ap (λ (ys : List X). joined (map g ys)) next))

  pub same_all : {W : Type 0} (i : ℕ) → length xs ≤ i → (Same (drop i xs) → W) → W
  same_all i le k = k (ap (λ (ys : List X). joined (map f ys)) (drop_all i xs le) ∙ sym (ap (λ (ys : List X). joined (map g ys)) (drop_all i xs le)))

group_names : (b : Bool) (p : Pattern) → names_where b p ≡ joined (map (member_names b) p.members)
group_names b p = fold-roll-Pattern Names Names (names_of_member b) names_of_pattern (record { members = p.members; filters = p.filters })

pub group_alike : (p : Pattern) (ms : List Member) → ms ≡ p.members → joined (map (member_names true) ms) ≡ joined (map (member_names false) ms) →
    names_where true p ≡ names_where false p
group_alike p ms e h =
    group_names true p ∙ ap (λ (xs : List Member). joined (map (member_names true) xs)) (sym e) ∙ h
    ∙ ap (λ (xs : List Member). joined (map (member_names false) xs)) e ∙ sym (group_names false p)

basic_names : (bool : Bool) (b : BasicGraphPattern) → member_names bool (m.Basic b) ≡ flat_map triple_names b.triples
basic_names bool b = ap (member_names bool) (sym (m.rolls-Basic b)) ∙ fold-roll-Member Names Names (names_of_member bool) names_of_pattern (Member-F.Basic b)

union_names : (b : Bool) (ps : List Pattern) → member_names b (m.Union ps) ≡ joined (map (names_where b) ps)
union_names b ps = ap (member_names b) (sym (m.rolls-Union ps)) ∙ fold-roll-Member Names Names (names_of_member b) names_of_pattern (Member-F.Union ps)

pub basic_alike : (member : Member) (b : BasicGraphPattern) → member ≡ m.Basic b → member_names true member ≡ member_names false member
basic_alike member b e = ap (member_names true) e ∙ basic_names true b ∙ sym (basic_names false b) ∙ sym (ap (member_names false) e)

pub union_alike : (member : Member) (ps given : List Pattern) → member ≡ m.Union ps → given ≡ ps →
    joined (map (names_where true) given) ≡ joined (map (names_where false) given) → member_names true member ≡ member_names false member
union_alike member ps given e eg h =
    ap (member_names true) e ∙ union_names true ps ∙ ap (λ (qs : List Pattern). joined (map (names_where true) qs)) (sym eg) ∙ h
    ∙ ap (λ (qs : List Pattern). joined (map (names_where false) qs)) eg ∙ sym (union_names false ps) ∙ sym (ap (member_names false) e)
