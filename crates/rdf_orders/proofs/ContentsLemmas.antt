-- What insertions and removals one after another leave.
use Rattle.std.proofs.Common.{◌≡◌, ℕ, List, [], ◌∷◌, ◌++◌, map, take, drop, refl, sym, ap, subst, ◌∙◌, append-nil}
use Rattle.std.proofs.lemmas.List.{map-append, take-append-drop}
use Rattle.std.specs.Cmp.{nat_cmp_total}
use Rattle.std.specs.FinSet as set
use Rattle.std.specs.FinSet.{nat_cmp-IsAntisymmetric}
use Rattle.rdf_orders.specs.Quads.{IdQuads, quad_of, quads_of}
use Rattle.rdf_orders.specs.Contents.{Contents, Ids, ids_of, IsDisjoint, with_quad, without_quad, with_name, without_name, with_all, without_all}
use Rattle.rdf_orders.specs.Inside.Gains.{GainsSomeOf}
use Rattle.rdf_orders.proofs.KeyLemmas.{id_quad_cmp_total, id_quad_cmp-IsAntisymmetric}
use Rattle.rdf_orders.proofs.SetLemmas.{union_none, union_push, difference_none, difference_push, taken_back}

-- ---- one more

pub with_none : (c : Contents) → with_all c [] [] ≡ c
with_none c = λ i. record {
  quads = union_none id_quad_cmp_total id_quad_cmp-IsAntisymmetric c.quads i;
  names = union_none nat_cmp_total nat_cmp-IsAntisymmetric c.names i;
}

pub with_one_quad : (c : Contents) (keys : List (List ℕ)) (names : List ℕ) (key : List ℕ) → with_quad (with_all c keys names) (quad_of key) ≡ with_all c (keys ++ key ∷ []) names
with_one_quad c keys names key = λ i. record {
  quads = sym (ap (λ l. set.union c.quads (set.from_list l)) (map-append quad_of keys (key ∷ [])) ∙ union_push id_quad_cmp_total id_quad_cmp-IsAntisymmetric c.quads (map quad_of keys) (quad_of key)) i;
  names = set.union c.names (ids_of names);
}

pub with_one_name : (c : Contents) (keys : List (List ℕ)) (names : List ℕ) (name : ℕ) → with_name (with_all c keys names) name ≡ with_all c keys (names ++ name ∷ [])
with_one_name c keys names name = λ i. record {
  quads = set.union c.quads (quads_of keys);
  names = sym (union_push nat_cmp_total nat_cmp-IsAntisymmetric c.names names name) i;
}

pub without_none : (c : Contents) → without_all c [] [] ≡ c
without_none c = λ i. record {
  quads = difference_none id_quad_cmp_total id_quad_cmp-IsAntisymmetric c.quads i;
  names = difference_none nat_cmp_total nat_cmp-IsAntisymmetric c.names i;
}

pub without_one_quad : (c : Contents) (keys : List (List ℕ)) (names : List ℕ) (key : List ℕ) → without_quad (without_all c keys names) (quad_of key) ≡ without_all c (keys ++ key ∷ []) names
without_one_quad c keys names key = λ i. record {
  quads = sym (ap (λ l. set.difference c.quads (set.from_list l)) (map-append quad_of keys (key ∷ [])) ∙ difference_push id_quad_cmp_total id_quad_cmp-IsAntisymmetric c.quads (map quad_of keys) (quad_of key)) i;
  names = set.difference c.names (ids_of names);
}

pub without_one_name : (c : Contents) (keys : List (List ℕ)) (names : List ℕ) (name : ℕ) → without_name (without_all c keys names) name ≡ without_all c keys (names ++ name ∷ [])
without_one_name c keys names name = λ i. record {
  quads = set.difference c.quads (quads_of keys);
  names = sym (difference_push nat_cmp_total nat_cmp-IsAntisymmetric c.names names name) i;
}

-- new trees of the quads that were there and of those of the keys
pub with_new_trees : (old : Contents) (mine quads : IdQuads) (names : Ids) (keys : List (List ℕ)) → mine ≡ old.quads → quads ≡ set.union mine (quads_of keys) → names ≡ old.names → record { quads = quads; names = names } ≡ with_all old keys []
with_new_trees old mine quads names keys same e kept = λ i. record {
  quads = (e ∙ ap (λ s. set.union s (quads_of keys)) same) i;
  names = (kept ∙ sym (union_none nat_cmp_total nat_cmp-IsAntisymmetric old.names)) i;
}

-- and names beside them
pub with_new_trees_and_names : (old : Contents) (mine quads : IdQuads) (names : Ids) (keys : List (List ℕ)) (more : List ℕ) → mine ≡ old.quads → quads ≡ set.union mine (quads_of keys) → names ≡ set.union old.names (ids_of more)
    → record { quads = quads; names = names } ≡ with_all old keys more
with_new_trees_and_names old mine quads names keys more same e came = λ i. record {
  quads = (e ∙ ap (λ s. set.union s (quads_of keys)) same) i;
  names = came i;
}

-- ---- taken back

nothing_in_front : (xs ys : List ℕ) → [] ≡ xs ++ ys → xs ≡ []
nothing_in_front [] ys e = refl
nothing_in_front (x ∷ xs) ys e = cc

pub refused_at_quad : (old new : Contents) (keys : List (List ℕ)) (names : List ℕ) (i : ℕ) → new ≡ with_all old (take i keys) [] → GainsSomeOf old new keys names
refused_at_quad old new keys names i e = record {
  keys_in = take i keys;
  keys_out = drop i keys;
  names_in = [];
  names_out = names;
  keys_are = sym (take-append-drop i keys);
  names_are = refl;
  is = e;
}

-- no name came in where a quad was refused
pub refused_before_names : (old new : Contents) (keys : List (List ℕ)) (names : List ℕ) → GainsSomeOf old new keys [] → GainsSomeOf old new keys names
refused_before_names old new keys names g = record {
  keys_in = g.keys_in;
  keys_out = g.keys_out;
  names_in = [];
  names_out = names;
  keys_are = g.keys_are;
  names_are = refl;
  is = g.is ∙ ap (with_all old g.keys_in) (nothing_in_front g.names_in g.names_out g.names_are);
}

pub nothing_came : (old new : Contents) (keys : List (List ℕ)) → new ≡ old → GainsSomeOf old new keys []
nothing_came old new keys e = refused_at_quad old new keys [] 0 (e ∙ sym (with_none old))

pub refused_at_name : (old new : Contents) (keys : List (List ℕ)) (names : List ℕ) (i : ℕ) → new ≡ with_all old keys (take i names) → GainsSomeOf old new keys names
refused_at_name old new keys names i e = record {
  keys_in = keys;
  keys_out = [];
  names_in = take i names;
  names_out = drop i names;
  keys_are = sym (append-nil keys);
  names_are = sym (take-append-drop i names);
  is = e;
}

quads_taken_back : (c : Contents) (keys_in keys_out : List (List ℕ)) → IsDisjoint c.quads (quads_of (keys_in ++ keys_out)) → set.difference (set.union c.quads (quads_of keys_in)) (quads_of (keys_in ++ keys_out)) ≡ c.quads
quads_taken_back c keys_in keys_out none =
    let joined = map-append quad_of keys_in keys_out in
    ap (λ l. set.difference (set.union c.quads (quads_of keys_in)) (set.from_list l)) joined
    ∙ taken_back id_quad_cmp_total id_quad_cmp-IsAntisymmetric c.quads (map quad_of keys_in) (map quad_of keys_out) (subst (λ l. IsDisjoint c.quads (set.from_list l)) joined none)

pub all_taken_back : (old mid new : Contents) (keys : List (List ℕ)) (names : List ℕ) → IsDisjoint old.quads (quads_of keys) → IsDisjoint old.names (ids_of names)
    → GainsSomeOf old mid keys names → new ≡ without_all mid keys names → new ≡ old
all_taken_back old mid new keys names no_quad no_name g e =
    e
    ∙ ap (λ c. without_all c keys names) g.is
    ∙ (λ i. without_all (with_all old g.keys_in g.names_in) (g.keys_are i) (g.names_are i))
    ∙ (λ i. record {
      quads = quads_taken_back old g.keys_in g.keys_out (subst (λ ks. IsDisjoint old.quads (quads_of ks)) g.keys_are no_quad) i;
      names = taken_back nat_cmp_total nat_cmp-IsAntisymmetric old.names g.names_in g.names_out (subst (λ ns. IsDisjoint old.names (ids_of ns)) g.names_are no_name) i;
    })
