-- A keyword, and what it begins.
use Rattle.std.proofs.Common.{◌≡◌, ◌<◌, length, Some, refl, ap, arith}
use Rattle.rdf_grammar.specs.Steps as steps
use Rattle.rdf_grammar.specs.Readings.{any}
use Rattle.rdf_grammar.specs.Terminals.{next_terminal}
use Rattle.rdf_grammar.specs.Derivations as grammar
use Rattle.rdf_grammar.proofs.CallerLemmas.{always, Decides, after_terminal, the_terminal, any_the}
use Rattle.sparql_terminals.specs.declared.terminal.Terminal.{Terminal}
use Rattle.sparql_terminals.specs.Lexemes.{Lexemes, Reading, Derives}
use Rattle.sparql_terminals.specs.Terminals.{same_terminal, apart}

pub keyword_sound : {A : Type 0} (k : Terminal) (r : Reading A) (R : Derives A) → Decides r R always → (ts : Lexemes) (x : A) (us : Lexemes) → next_terminal ts ≡ Some k
    → steps.◌>>◌ any r ts ≡ Some (x, us) → grammar.◌>>◌ (grammar.the k) R ts x us
keyword_sound k r R d ts x us q h = (after_terminal same_terminal apart k r R always d).sound ts x us (rw (any_the same_terminal apart k ts q) at h)

pub keyword_complete : {A : Type 0} (k : Terminal) (r : Reading A) (R : Derives A) → Decides r R always → (ts : Lexemes) (x : A) (us : Lexemes) → next_terminal ts ≡ Some k
    → grammar.◌>>◌ (grammar.the k) R ts x us → steps.◌>>◌ any r ts ≡ Some (x, us)
keyword_complete k r R d ts x us q h = rw (any_the same_terminal apart k ts q) ((after_terminal same_terminal apart k r R always d).complete ts x us h refl)

pub keyword_terminal : {A : Type 0} (k : Terminal) (R : Derives A) (ts : Lexemes) (x : A) (us : Lexemes) → grammar.◌>>◌ (grammar.the k) R ts x us → next_terminal ts ≡ Some k
keyword_terminal k R ts x us h = the_terminal k ts h.mid h.first h.reads

pub keyword_strict : {A : Type 0} (k : Terminal) (r : Reading A) (R : Derives A) → Decides r R always → (ts : Lexemes) (x : A) (us : Lexemes) → grammar.◌>>◌ (grammar.the k) R ts x us → length us < length ts
keyword_strict k r R d ts x us h = let a = d.shorter h.mid x us h.goes in omega (arith, ap length h.reads.2)
