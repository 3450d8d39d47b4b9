-- The prefixes that are declared, as a list and as they are looked up.
use Rattle.std.proofs.Common.{◌≡◌, ℕ, Bool, true, false, cond, ◌||◌, List, [], ◌∷◌, ◌++◌, map, Some, None, refl, ap}
use Rattle.std.specs.List.{list_any}
use Rattle.std.specs.Map.{lookup}
use Rattle.indexmap.specs.IndexMap.{insert_entry}
use Rattle.indexmap.specs.IndexSet.{insert_key}
use Rattle.rdf_grammar.specs.Keys.{same_key}
use Rattle.rdf_grammar.specs.Prologue.{Prologue, declares, declared}

abbrev Entries : Type 0
Entries = List (List ℕ × List ℕ)

abbrev keys : Entries → List (List ℕ)
keys es = map (λ e. e.0) es

keys_inserted : (key iri : List ℕ) (es : Entries) → keys (insert_entry same_key es key iri) ≡ insert_key same_key (keys es) key
keys_inserted key iri [] = refl
keys_inserted key iri (e ∷ es) = by (same_key key e.0) (list_any (same_key key) (keys es)) (keys_inserted key iri es)
  where
    by : (t u : Bool) → keys (insert_entry same_key es key iri) ≡ cond u (keys es) (keys es ++ key ∷ [])
        → keys (cond t ((e.0, iri) ∷ es) (e ∷ insert_entry same_key es key iri)) ≡ cond (t || u) (e.0 ∷ keys es) ((e.0 ∷ keys es) ++ key ∷ [])
    by true u rest = refl
    by false true rest = ap (λ ks. e.0 ∷ ks) rest
    by false false rest = ap (λ ks. e.0 ∷ ks) rest

-- behind a declaration
pub declares_key : (key iri : List ℕ) (p : Prologue) → declared (declares key iri p) ≡ insert_key same_key (declared p) key
unfolding declares
declares_key key iri p = keys_inserted key iri p.prefixes

missing : (test : List ℕ → Bool) (es : Entries) → lookup test es ≡ None → list_any test (keys es) ≡ false
missing test [] e = refl
missing test (x ∷ es) e = by (test x.0) e (missing test es)
  where
    by : (t : Bool) → cond t (Some x.1) (lookup test es) ≡ None → (lookup test es ≡ None → list_any test (keys es) ≡ false) → (t || list_any test (keys es)) ≡ false
    by true e rest = absurd (cc)
    by false e rest = rest e

-- a prefix that isn't found isn't declared
pub not_declared : (key : List ℕ) (p : Prologue) → lookup (same_key key) p.prefixes ≡ None → list_any (same_key key) (declared p) ≡ false
not_declared key p e = missing (same_key key) p.prefixes e
