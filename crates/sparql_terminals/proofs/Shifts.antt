-- What is derived between an opener and its closer: as many brackets are open behind it as its lexemes say, and never more than the limit.
use Rattle.std.proofs.Common.{◌≡◌, ℕ, ◌+◌, ◌∙◌, ap}
use Rattle.rdf_grammar.specs.Nesting.{open_behind}
use Rattle.rdf_grammar.specs.Derivations as grammar
use Rattle.rdf_grammar.specs.Derivations.{Then}
use Rattle.rdf_grammar.proofs.CallerLemmas.{Keeps, Below, after, pure_keeps}
use Rattle.sparql_terminals.specs.Lexemes.{Lexemes, Derives}
use Rattle.sparql_terminals.specs.Terminals.{bracket}
use Rattle.sparql_terminals.specs.declared.terminal.Terminal.{Terminal}

-- from where b are open to where c are open, what P derives Q derives
unfoldable pub Shifts : {A : Type 0} → ℕ → ℕ → ℕ → Derives A → Derives A → Type 0
Shifts {A} limit b c P Q = (ts : Lexemes) (x : A) (us : Lexemes) → P ts x us → Below bracket limit b ts → Q ts x us × Below bracket limit c us

pub kept : {A : Type 0} (limit b : ℕ) (P Q : Derives A) → Keeps bracket limit b P Q → Shifts limit b b P Q
unfolding Keeps Shifts
kept limit b P Q p ts x us d h = p ts x us d h

pub keeps : {A : Type 0} (limit b : ℕ) (P Q : Derives A) → Shifts limit b b P Q → Keeps bracket limit b P Q
unfolding Keeps Shifts
keeps limit b P Q p ts x us d h = p ts x us d h

pub then_shifts : {A B : Type 0} (limit b c e : ℕ) (P Q : Derives A) (F G : A → Derives B) → Shifts limit b c P Q → ((a : A) → Shifts limit c e (F a) (G a)) → Shifts limit b e (Then P F) (Then Q G)
unfolding Shifts
then_shifts limit b c e P Q F G p f ts x us d h =
    let r = p ts d.first d.mid d.reads h in
    let q = f d.first d.mid x us d.goes r.1 in
    (record { first = d.first; mid = d.mid; reads = r.0; goes = q.0 }, q.1)

-- a lexeme
pub the_shifts : (limit b c : ℕ) (k : Terminal) → open_behind bracket b k ≡ c → Shifts limit b c (grammar.the k) (grammar.the k)
unfolding Shifts
the_shifts limit b c k e ts x us d h = (d, let a = after bracket limit b d.0 us (rw d.2 at h) in rw (ap (open_behind bracket b) d.1 ∙ e) at a)

-- and its characters
pub value_shifts : (limit b c : ℕ) (k : Terminal) → open_behind bracket b k ≡ c → Shifts limit b c (grammar.value k) (grammar.value k)
unfolding Shifts
value_shifts limit b c k e ts x us d h = (d, let a = after bracket limit b d.0 us (rw d.3 at h) in rw (ap (open_behind bracket b) d.1 ∙ e) at a)

-- the closer, and the tree behind it
pub closed : {A : Type 0} (limit b : ℕ) (k : Terminal) (x : A) → open_behind bracket (b + 1) k ≡ b
    → Shifts limit (b + 1) b (Then (grammar.the k) (λ _. grammar.pure x)) (Then (grammar.the k) (λ _. grammar.pure x))
closed limit b k x e = then_shifts limit (b + 1) b b _ _ _ _ (the_shifts limit (b + 1) b k e) (λ _. kept limit b _ _ (pure_keeps bracket limit b x))
