-- Search trees against the set of quads that they hold.
use Rattle.std.proofs.Common.{◌≡◌, ℕ, ◌==◌, Bool, true, false, ◌&&◌, ◌||◌, not, List, [], ◌∷◌, ◌++◌, map, length, refl, sym, ap, subst, ◌∙◌, arith, inl, inr, IsTrue}
use Rattle.std.specs.Prelude.{Result, Ok, Err, OnOk, OnErr}
use Rattle.std.specs.declared.cmp.Ordering.TheVariants.{Less}
use mathlib.Core.Bool.{true≢false}
use borrow.Author.Tests.{eqb-true}
use Rattle.std.proofs.lemmas.List.{map-append}
use Rattle.std.specs.Bool.{OnFalse}
use Rattle.std.specs.BTreeMap.{is_at}
use Rattle.std.specs.BTreeSet.{BTreeSet, contains}
use Rattle.std.specs.List.{AllByRecursion, list_any}
use Rattle.std.specs.List.Sorted.{IsStrictlySortedBy}
use Rattle.std.specs.Ordering.{is_eq, eq_by_cmp}
use Rattle.std.specs.Cmp.{both_ways, Equal-is, tied_itself}
use Rattle.std.specs.FinSet as set
use Rattle.std.specs.FinSet.{contains-insert, contains-remove, contains-empty, contains-from_list, same_set, slice_cmp-IsAntisymmetric, nat_cmp-IsAntisymmetric}
use Rattle.rdf_orders.specs.declared.order.Order.{Order}
use Rattle.rdf_orders.specs.declared.order.Order.TheVariants.{Spo, Pos, Osp}
use Rattle.rdf_orders.specs.declared.trees.Trees.{Trees}
use Rattle.rdf_orders.specs.Quads.{IdQuad, IdQuads, key_in, quad_at, quad_of, quads_of, key_cmp, id_quad_cmp}
use Rattle.rdf_orders.specs.Inside.Mirror.{is_key_of, has_key, quads_in, Mirrors, AreBuiltOn, GainsSome, LosesKey}
use Rattle.rdf_orders.specs.Inside.Widths.{GainsOne, LosesOne}
use Rattle.rdf_orders.specs.Contents.{ListsKeys}
use Rattle.rdf_terms.specs.Lists.{ListsSorted}
use Rattle.rdf_orders.proofs.KeyLemmas.{key_cmp_total, id_quad_cmp_total, id_quad_cmp-IsAntisymmetric, quad_at-key_in, same_from_eq, eq_from_same}
use Rattle.rdf_orders.proofs.SetLemmas.{joined, lists_sorted, tie_turned}
use Rattle.rdf_orders.proofs.TestLemmas.{both, first_of_both, second_of_both, is_either, either_first, either_second, false_of_absurd, not_both, and_false, spread}

-- ---- keys and quads

-- four numbers are the key of their quad
pub key_in-quad_at : (order : Order) (k : List ℕ) → length k ≡ 4 → key_in order (quad_at order k) ≡ k
key_in-quad_at Spo (a ∷ b ∷ c ∷ d ∷ []) e = refl
key_in-quad_at Pos (a ∷ b ∷ c ∷ d ∷ []) e = refl
key_in-quad_at Osp (a ∷ b ∷ c ∷ d ∷ []) e = refl
key_in-quad_at order [] e = absurd (omega arith)
key_in-quad_at order (a ∷ []) e = absurd (omega arith)
key_in-quad_at order (a ∷ b ∷ []) e = absurd (omega arith)
key_in-quad_at order (a ∷ b ∷ c ∷ []) e = absurd (omega arith)
key_in-quad_at order (a ∷ b ∷ c ∷ d ∷ x ∷ xs) e = absurd (omega arith)

pub length-key_in : (order : Order) (q : IdQuad) → (length (key_in order q) == 4) ≡ true
length-key_in Spo q = refl
length-key_in Pos q = refl
length-key_in Osp q = refl

pub same_key : (x y : List ℕ) → is_eq (key_cmp x y) ≡ true → x ≡ y
same_key x y e = slice_cmp-IsAntisymmetric nat_cmp-IsAntisymmetric x y ((Equal-is (key_cmp x y)).0 e)

-- a quad's key ties with the numbers that are its key, and with no other
key_tie : (order : Order) (q : IdQuad) (k : List ℕ) → is_eq (key_cmp (key_in order q) k) ≡ ((length k == 4) && eq_by_cmp id_quad_cmp (quad_at order k) q)
key_tie order q k = both_ways _ _
    (λ e. subst (λ x. ((length x == 4) && eq_by_cmp id_quad_cmp (quad_at order x) q) ≡ true) (same_key _ _ e)
    (both (length-key_in order q) (eq_from_same _ q (quad_at-key_in order q))))
    (λ e.
    let four : length k ≡ 4 = eqb-true (length k) 4 (first_of_both (length k == 4) _ e) in
    let same = same_from_eq (quad_at order k) q (second_of_both (length k == 4) _ e) in
    let is : key_in order q ≡ k = ap (key_in order) (sym same) ∙ key_in-quad_at order k four in
    ap (λ x. is_eq (key_cmp (key_in order q) x)) (sym is) ∙ ap is_eq (tied_itself key_cmp_total (key_in order q)))

-- ---- what one quad more or less makes of the keys

is_key_of-insert : (quads : IdQuads) (q : IdQuad) (order : Order) (k : List ℕ) → is_key_of (set.insert quads q) order k ≡ (is_eq (key_cmp (key_in order q) k) || is_key_of quads order k)
is_key_of-insert quads q order k =
    ap (λ b. (length k == 4) && b) (contains-insert id_quad_cmp_total quads q (quad_at order k))
    ∙ spread (length k == 4) _ _
    ∙ ap (λ b. b || is_key_of quads order k) (sym (key_tie order q k))

without : (l e c : Bool) → (l && (not e && c)) ≡ (not (l && e) && (l && c))
without true e c = refl
without false e c = refl

is_key_of-remove : (quads : IdQuads) (q : IdQuad) (order : Order) (k : List ℕ) → is_key_of (set.remove quads q) order k ≡ (not (is_eq (key_cmp (key_in order q) k)) && is_key_of quads order k)
is_key_of-remove quads q order k =
    ap (λ b. (length k == 4) && b) (contains-remove id_quad_cmp_total quads q (quad_at order k))
    ∙ without (length k == 4) _ _
    ∙ ap (λ b. not b && is_key_of quads order k) (sym (key_tie order q k))

pub is_key_of-empty : (order : Order) (k : List ℕ) → is_key_of set.empty order k ≡ false
is_key_of-empty order k = ap (λ b. (length k == 4) && b) (contains-empty id_quad_cmp (quad_at order k)) ∙ and_false (length k == 4)

-- a quad is in the set where its key is in one of the trees
pub key_in_tree : (trees : Trees) (quads : IdQuads) → Mirrors trees quads → (order : Order) (q : IdQuad) → has_key order trees (key_in order q) ≡ set.contains quads q
key_in_tree trees quads m order q =
    m.keys order (key_in order q)
    ∙ ap (λ b. b && set.contains quads (quad_at order (key_in order q))) (length-key_in order q)
    ∙ ap (set.contains quads) (quad_at-key_in order q)

-- ---- the set that three trees hold

holds_itself : (k : List ℕ) (ks : List (List ℕ)) → list_any (is_at (key_cmp k)) (k ∷ ks) ≡ true
holds_itself k ks = either_first _ _ (ap is_eq (tied_itself key_cmp_total k))

pub members_by_key : (ks : List (List ℕ)) → ((k : List ℕ) → list_any (is_at (key_cmp k)) ks ≡ true → length k ≡ 4) → (q : IdQuad)
    → list_any (eq_by_cmp id_quad_cmp q) (map (quad_at Spo) ks) ≡ list_any (is_at (key_cmp (key_in Spo q))) ks
members_by_key [] four q = refl
members_by_key (k ∷ ks) four q = λ i.
    is_eq (key_cmp (key_in Spo q) (key_in-quad_at Spo k (four k (holds_itself k ks)) i))
    || members_by_key ks (λ x e. four x (either_second (is_eq (key_cmp x k)) _ e)) q i

-- each key of the first tree has four numbers
pub four_numbers_in : (trees : Trees) (quads : IdQuads) → Mirrors trees quads → (k : List ℕ) → has_key Spo trees k ≡ true → length k ≡ 4
four_numbers_in trees quads m k e = eqb-true (length k) 4 (first_of_both (length k == 4) _ (sym (m.keys Spo k) ∙ e))

-- the set that the trees are seen as is the one that they hold
pub quads_held : (trees : Trees) (quads : IdQuads) → Mirrors trees quads → quads_in trees ≡ quads
quads_held trees quads m =
    same_set id_quad_cmp_total id_quad_cmp-IsAntisymmetric _ _ (λ q.
    contains-from_list id_quad_cmp_total (map (quad_at Spo) trees.spo.keys) q
    ∙ members_by_key trees.spo.keys (four_numbers_in trees quads m) q
    ∙ key_in_tree trees quads m Spo q)

-- trees that hold a set hold the one that they are seen as
pub mirrors_itself : (trees : Trees) (quads : IdQuads) → Mirrors trees quads → Mirrors trees (quads_in trees)
mirrors_itself trees quads m = subst (Mirrors trees) (sym (quads_held trees quads m)) m

-- ---- trees that are built at once

-- the quads of two lists of keys
quads_joined : (xs ys : List (List ℕ)) → quads_of (xs ++ ys) ≡ set.union (quads_of xs) (quads_of ys)
quads_joined xs ys = ap set.from_list (map-append quad_of xs ys) ∙ joined id_quad_cmp_total id_quad_cmp-IsAntisymmetric (map quad_of xs) (map quad_of ys)

-- a list of keys has the key of each of its quads
pub keys_of_quads : (order : Order) (ks : List (List ℕ)) (k : List ℕ) → list_any (eq_by_cmp key_cmp k) (map (λ x. key_in order (quad_of x)) ks) ≡ is_key_of (quads_of ks) order k
keys_of_quads order ks k = each ks ∙ ap (λ b. (length k == 4) && b) (sym (contains-from_list id_quad_cmp_total (map quad_of ks) (quad_at order k)))
  where
    each : (ks : List (List ℕ)) → list_any (eq_by_cmp key_cmp k) (map (λ x. key_in order (quad_of x)) ks) ≡ ((length k == 4) && list_any (eq_by_cmp id_quad_cmp (quad_at order k)) (map quad_of ks))
    each [] = sym (and_false (length k == 4))
    each (x ∷ ks) =
        (λ i. (tie_turned key_cmp_total (slice_cmp-IsAntisymmetric nat_cmp-IsAntisymmetric) k (key_in order (quad_of x)) ∙ key_tie order (quad_of x) k) i || each ks i)
        ∙ sym (spread (length k == 4) _ _)

-- the first tree is built of a list, and the quads that it holds are those of the list
first_tree_holds : (trees : Trees) (quads : IdQuads) → ((k : List ℕ) → has_key Spo trees k ≡ is_key_of quads Spo k) → quads_in trees ≡ quads
first_tree_holds trees quads f =
    same_set id_quad_cmp_total id_quad_cmp-IsAntisymmetric _ _ (λ q.
    contains-from_list id_quad_cmp_total (map (quad_at Spo) trees.spo.keys) q
    ∙ members_by_key trees.spo.keys (λ k e. eqb-true (length k) 4 (first_of_both (length k == 4) _ (sym (f k) ∙ e))) q
    ∙ f (key_in Spo q)
    ∙ ap (λ b. b && set.contains quads (quad_at Spo (key_in Spo q))) (length-key_in Spo q)
    ∙ ap (set.contains quads) (quad_at-key_in Spo q))

-- and the other two are built of the first
mirrors_of_first : (trees : Trees) (ks : List (List ℕ))
    → ((k : List ℕ) → has_key Spo trees k ≡ list_any (eq_by_cmp key_cmp k) (map (λ x. key_in Spo (quad_of x)) ks))
    → AreBuiltOn trees.spo trees → Mirrors trees (quads_of ks)
mirrors_of_first trees ks spo others = record { keys = held }
  where
    first : (k : List ℕ) → has_key Spo trees k ≡ is_key_of (quads_of ks) Spo k
    first k = spo k ∙ keys_of_quads Spo ks k

    same : quads_of trees.spo.keys ≡ quads_of ks
    same = first_tree_holds trees (quads_of ks) first

    held : (order : Order) (k : List ℕ) → has_key order trees k ≡ is_key_of (quads_of ks) order k
    held Spo k = first k
    held Pos k = others.pos k ∙ keys_of_quads Pos trees.spo.keys k ∙ ap (λ s. is_key_of s Pos k) same
    held Osp k = others.osp k ∙ keys_of_quads Osp trees.spo.keys k ∙ ap (λ s. is_key_of s Osp k) same

-- new trees: the first is built of the old one and a list
pub mirrors_of_both : (old trees : Trees) (spo : BTreeSet (List ℕ)) (ks : List (List ℕ))
    → ((k : List ℕ) → contains key_cmp spo k ≡ list_any (eq_by_cmp key_cmp k) (map (λ x. key_in Spo (quad_of x)) (old.spo.keys ++ ks)))
    → AreBuiltOn spo trees → (quads : IdQuads) → Mirrors old quads → Mirrors trees (set.union quads (quads_of ks))
mirrors_of_both old trees spo ks built others quads m =
    subst (Mirrors trees) (quads_joined old.spo.keys ks ∙ ap (λ s. set.union s (quads_of ks)) (quads_held old quads m))
    (mirrors_of_first trees (old.spo.keys ++ ks) (λ k. ap (λ s. contains key_cmp s k) others.first ∙ built k)
    (subst (λ s. AreBuiltOn s trees) (sym others.first) others))

-- ---- what the calls leave

pub mirrors_nothing : (trees : Trees) → trees.spo.keys ≡ [] → trees.pos.keys ≡ [] → trees.osp.keys ≡ [] → Mirrors trees set.empty
mirrors_nothing trees spo pos osp = record { keys = λ order k. has_none order k ∙ sym (is_key_of-empty order k) }
  where
    has_none : (order : Order) (k : List ℕ) → has_key order trees k ≡ false
    has_none Spo k = ap (list_any (is_at (key_cmp k))) spo
    has_none Pos k = ap (list_any (is_at (key_cmp k))) pos
    has_none Osp k = ap (list_any (is_at (key_cmp k))) osp

-- a tree that a key came into, or went out of
pub gains_key : (old new : BTreeSet (List ℕ)) (key x : List ℕ) → key ≡ x → GainsOne old new key → (k : List ℕ) → contains key_cmp new k ≡ (is_eq (key_cmp x k) || contains key_cmp old k)
gains_key old new key x is u k = u k ∙ ap (λ y. is_eq (key_cmp y k) || contains key_cmp old k) is

pub loses_key : (old new : BTreeSet (List ℕ)) (key x : List ℕ) → key ≡ x → LosesOne old new key → (k : List ℕ) → contains key_cmp new k ≡ (not (is_eq (key_cmp x k)) && contains key_cmp old k)
loses_key old new key x is u k = u k ∙ ap (λ y. not (is_eq (key_cmp y k)) && contains key_cmp old k) is

module _ (old new : Trees) (q : IdQuad) where
  -- trees that gained the quad's key in each order
  pub mirrors_gain : ((k : List ℕ) → has_key Spo new k ≡ (is_eq (key_cmp (key_in Spo q) k) || has_key Spo old k))
      → ((k : List ℕ) → has_key Pos new k ≡ (is_eq (key_cmp (key_in Pos q) k) || has_key Pos old k))
      → ((k : List ℕ) → has_key Osp new k ≡ (is_eq (key_cmp (key_in Osp q) k) || has_key Osp old k))
      → (quads : IdQuads) → Mirrors old quads → Mirrors new (set.insert quads q)
  mirrors_gain spo pos osp quads m = record {
    keys = λ order k.
        gain order k ∙ ap (λ b. is_eq (key_cmp (key_in order q) k) || b) (m.keys order k) ∙ sym (is_key_of-insert quads q order k);
  }
    where
      gain : (order : Order) (k : List ℕ) → has_key order new k ≡ (is_eq (key_cmp (key_in order q) k) || has_key order old k)
      gain Spo = spo
      gain Pos = pos
      gain Osp = osp

  -- trees that lost it
  pub mirrors_loss : LosesKey old new q → (quads : IdQuads) → Mirrors old quads → Mirrors new (set.remove quads q)
  mirrors_loss loss quads m = record {
    keys = λ order k.
        loss.keys order k ∙ ap (λ b. not (is_eq (key_cmp (key_in order q) k)) && b) (m.keys order k) ∙ sym (is_key_of-remove quads q order k);
  }

  pub loses_of : ((k : List ℕ) → has_key Spo new k ≡ (not (is_eq (key_cmp (key_in Spo q) k)) && has_key Spo old k))
      → ((k : List ℕ) → has_key Pos new k ≡ (not (is_eq (key_cmp (key_in Pos q) k)) && has_key Pos old k))
      → ((k : List ℕ) → has_key Osp new k ≡ (not (is_eq (key_cmp (key_in Osp q) k)) && has_key Osp old k))
      → LosesKey old new q
  loses_of spo pos osp = record { keys = loss }
    where
      loss : (order : Order) (k : List ℕ) → has_key order new k ≡ (not (is_eq (key_cmp (key_in order q) k)) && has_key order old k)
      loss Spo = spo
      loss Pos = pos
      loss Osp = osp

  -- the first of the other two trees gained the key, and the second was refused
  pub gains_first : new.spo ≡ old.spo → ((k : List ℕ) → has_key Pos new k ≡ (is_eq (key_cmp (key_in Pos q) k) || has_key Pos old k)) → new.osp.keys ≡ old.osp.keys → GainsSome old new q
  gains_first first pos osp = record { first = first; stay = stay; come = come }
    where
      stay : (order : Order) (k : List ℕ) → IsTrue (has_key order old k) → IsTrue (has_key order new k)
      stay Spo k e = ap (λ s. contains key_cmp s k) first ∙ e
      stay Pos k e = pos k ∙ either_second (is_eq (key_cmp (key_in Pos q) k)) _ e
      stay Osp k e = ap (list_any (is_at (key_cmp k))) osp ∙ e

      come : (order : Order) (k : List ℕ) → IsTrue (has_key order new k) → IsTrue (is_eq (key_cmp (key_in order q) k) || has_key order old k)
      come Spo k e = either_second (is_eq (key_cmp (key_in Spo q) k)) _ (sym (ap (λ s. contains key_cmp s k) first) ∙ e)
      come Pos k e = sym (pos k) ∙ e
      come Osp k e = either_second (is_eq (key_cmp (key_in Osp q) k)) _ (sym (ap (list_any (is_at (key_cmp k))) osp) ∙ e)

-- ---- an insertion in all three orders

again : (e a : Bool) → (e || (e || a)) ≡ (e || a)
again true a = refl
again false a = refl

there : (e a : Bool) → (e ≡ true → a ≡ true) → (e || a) ≡ a
there true a h = sym (h refl)
there false a h = refl

module _ (old : Trees) (q : IdQuad) where
  -- the key of a quad that is there comes into no tree
  pub mirrors_same : (quads : IdQuads) → Mirrors old quads → has_key Spo old (key_in Spo q) ≡ true → (new : Trees) → new.spo.keys ≡ old.spo.keys → new.pos ≡ old.pos → new.osp ≡ old.osp → Mirrors new (set.insert quads q)
  mirrors_same quads m is new spo pos osp = record {
    keys = λ order k.
        same order k ∙ sym (there (is_eq (key_cmp (key_in order q) k)) (has_key order old k) (λ e.
        ap (has_key order old) (sym (same_key (key_in order q) k e)) ∙ key_in_tree old quads m order q ∙ sym (key_in_tree old quads m Spo q) ∙ is))
        ∙ ap (λ b. is_eq (key_cmp (key_in order q) k) || b) (m.keys order k) ∙ sym (is_key_of-insert quads q order k);
  }
    where
      same : (order : Order) (k : List ℕ) → has_key order new k ≡ has_key order old k
      same Spo k = ap (list_any (is_at (key_cmp k))) spo
      same Pos k = ap (λ s. contains key_cmp s k) pos
      same Osp k = ap (λ s. contains key_cmp s k) osp

  -- a key that came into some of the trees alone is taken out again
  pub mirrors_back : (first mid new : Trees) → has_key Spo old (key_in Spo q) ≡ false
      → ((k : List ℕ) → has_key Spo first k ≡ (is_eq (key_cmp (key_in Spo q) k) || has_key Spo old k)) → first.pos ≡ old.pos → first.osp ≡ old.osp
      → GainsSome first mid q → LosesKey mid new q → (quads : IdQuads) → Mirrors old quads → Mirrors new quads
  mirrors_back first mid new absent spo pos osp some loss quads m = record {
    keys = λ order k.
        loss.keys order k ∙ both_ways _ _
        (λ e. elim (is_either (is_eq (key_cmp (key_in order q) k)) (has_key order old k) (come order k (some.come order k (second_of_both (not (is_eq (key_cmp (key_in order q) k))) _ e)))) [
          | inl it ↦ absurd (not_both (is_eq (key_cmp (key_in order q) k)) it (first_of_both (not (is_eq (key_cmp (key_in order q) k))) _ e))
          | inr was ↦ was
        ])
        (λ e. both (false_of_absurd _ (λ it. true≢false (sym e ∙ ap (has_key order old) (sym (same_key (key_in order q) k it)) ∙ lacks order))) (some.stay order k (stay order k e)))
        ∙ m.keys order k;
  }
    where
      lacks : (order : Order) → has_key order old (key_in order q) ≡ false
      lacks order = key_in_tree old quads m order q ∙ sym (key_in_tree old quads m Spo q) ∙ absent

      stay : (order : Order) (k : List ℕ) → has_key order old k ≡ true → has_key order first k ≡ true
      stay Spo k e = spo k ∙ either_second (is_eq (key_cmp (key_in Spo q) k)) _ e
      stay Pos k e = ap (λ s. contains key_cmp s k) pos ∙ e
      stay Osp k e = ap (λ s. contains key_cmp s k) osp ∙ e

      come : (order : Order) (k : List ℕ) → (is_eq (key_cmp (key_in order q) k) || has_key order first k) ≡ true → (is_eq (key_cmp (key_in order q) k) || has_key order old k) ≡ true
      come Spo k e = sym (again (is_eq (key_cmp (key_in Spo q) k)) (has_key Spo old k)) ∙ ap (λ b. is_eq (key_cmp (key_in Spo q) k) || b) (sym (spo k)) ∙ e
      come Pos k e = ap (λ s. is_eq (key_cmp (key_in Pos q) k) || contains key_cmp s k) (sym pos) ∙ e
      come Osp k e = ap (λ s. is_eq (key_cmp (key_in Osp q) k) || contains key_cmp s k) (sym osp) ∙ e

-- ---- lists

pub four_in : (ks : List (List ℕ)) → ((k : List ℕ) → list_any (is_at (key_cmp k)) ks ≡ true → length k ≡ 4) → map (key_in Spo) (map quad_of ks) ≡ ks
four_in [] four = refl
four_in (k ∷ ks) four = λ i. key_in-quad_at Spo k (four k (holds_itself k ks)) i ∷ four_in ks (λ x e. four x (either_second (is_eq (key_cmp x k)) _ e)) i

-- quads rise where their keys do
below_by_keys : (q : IdQuad) (qs : List IdQuad) → AllByRecursion (λ k. key_cmp (key_in Spo q) k ≡ Less) (map (key_in Spo) qs) → AllByRecursion (λ x. id_quad_cmp q x ≡ Less) qs
below_by_keys q [] a = tt
below_by_keys q (x ∷ qs) a = (a.0, below_by_keys q qs a.1)

pub rising_by_keys : (qs : List IdQuad) → IsStrictlySortedBy key_cmp (map (key_in Spo) qs) → IsStrictlySortedBy id_quad_cmp qs
unfolding IsStrictlySortedBy
rising_by_keys [] s = tt
rising_by_keys (q ∷ qs) s = (below_by_keys q qs s.0, rising_by_keys qs s.1)

pub keys_listed : (trees : Trees) (quads : IdQuads) → Mirrors trees quads → IsStrictlySortedBy key_cmp trees.spo.keys → ListsKeys quads trees.spo.keys
keys_listed trees quads m rises =
    let are : map (key_in Spo) (map quad_of trees.spo.keys) ≡ trees.spo.keys = four_in trees.spo.keys (four_numbers_in trees quads m) in
    record {
      found = map quad_of trees.spo.keys;
      are_keys = sym are;
      sorted = subst (λ s. ListsSorted s (map quad_of trees.spo.keys)) (quads_held trees quads m)
          (lists_sorted id_quad_cmp_total id_quad_cmp-IsAntisymmetric (map quad_of trees.spo.keys) (rising_by_keys (map quad_of trees.spo.keys) (subst (IsStrictlySortedBy key_cmp) (sym are) rises)));
    }

-- ---- results

pub on_err_of : {T E P : Type 0} (r : Result T E) → P → OnErr r P
on_err_of (Ok x) p = tt
on_err_of (Err e) p = p

pub on_false_of : {P : Type 0} (b : Bool) → OnFalse b P → b ≡ false → P
on_false_of true p e = absurd (true≢false e)
on_false_of false p e = p

pub true_of_not : (b : Bool) → false ≡ not b → b ≡ true
true_of_not true e = refl
true_of_not false e = absurd (true≢false (sym e))

pub false_of_not : (b : Bool) → true ≡ not b → b ≡ false
false_of_not true e = absurd (true≢false e)
false_of_not false e = refl

pub holds_either_way : {T E : Type 0} (r : Result T E) (P : Type 0) → OnOk r P → OnErr r P → P
holds_either_way (Ok x) P ok err = ok
holds_either_way (Err e) P ok err = err
