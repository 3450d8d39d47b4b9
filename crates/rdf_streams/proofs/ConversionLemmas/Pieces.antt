-- Texts that are put one behind another.
use Rattle.std.proofs.Common.{◌≡◌, ◌∙◌, ap, refl, sym, subst, arith, ℕ, ◌≤◌, false, List, [], ◌∷◌, ◌++◌, drop, length, length-drop, append_assoc, append-nil, Option}
use Rattle.std.specs.Prelude.{Result, Ok, Err, IsErr, is_err}
use Rattle.std.specs.Io.KnownBytes.{Appends}
use Rattle.rdf_terms.specs.declared.term.Term.{Term}
use Rattle.rdf_streams.specs.Inside.Held.{WritesLines}
use Rattle.rdf_streams.specs.Inside.Parts.{HasPredicate, HavePredicates, bytes_of, next_subject, part_text, said, size}
use Rattle.rdf_streams.specs.Inside.Pieces.{Puts}
use Rattle.rdf_streams.specs.Streams.{WritesTo}
use Rattle.rdf_streams.specs.declared.conversion.fault.ConvertFault.TheVariants.{Write}
use Rattle.rdf_streams.specs.declared.conversion.parts.Part.{Part}
use Rattle.rdf_streams.specs.declared.streams.writing.WriteFault.{WriteFault}
use Rattle.rdf_streams.proofs.ConversionLemmas.Converts.{Appends-none, more_left}
use Rattle.rdf_streams.proofs.StreamLemmas.{Appends-chain}

-- nothing is put
pub puts_none : (a : Option (List ℕ)) (g : List ℕ) → Puts a g [] (Ok tt) a g
puts_none a g = ([], Appends-none a, append-nil g)

-- one text behind another
pub puts_then : (a b c : Option (List ℕ)) (g h k t u : List ℕ) (r : Result (Unit {0}) WriteFault) → Puts a g t (Ok tt) b h → Puts b h u r c k → Puts a g (t ++ u) r c k
puts_then a b c g h k t u (Ok x) (out, w, is) (next, v, e) =
    (out ++ next, Appends-chain a b c out next w v, sym (append_assoc g t u) ∙ ap (λ (x : List ℕ). x ++ u) is ∙ append_assoc out h u ∙ ap (λ (x : List ℕ). out ++ x) e ∙ sym (append_assoc out next k))
puts_then a b c g h k t u (Err x) (out, w, is) (next, more, v, e, some) =
    (out ++ next, more, Appends-chain a b c out next w v, sym (append_assoc g t u) ∙ ap (λ (x : List ℕ). x ++ u) is ∙ append_assoc out h u ∙ ap (λ (x : List ℕ). out ++ x) e ∙ sym (append_assoc out next more), some)

-- a call failed before the last
pub puts_not : (a b : Option (List ℕ)) (g h t u : List ℕ) (e : WriteFault) → Puts a g t (Err e) b h → Puts a g (t ++ u) (Err e) b h
puts_not a b g h t u e (out, more, w, is, some) =
    (out, more ++ u, w, sym (append_assoc g t u) ∙ ap (λ (x : List ℕ). x ++ u) is ∙ append_assoc out more u, more_left more u some)

-- an answer that is a fault
pub by_fault : (a b : Option (List ℕ)) (g h t : List ℕ) (e : WriteFault) (r : Result (Unit {0}) WriteFault) → IsErr r → Puts a g t (Err e) b h → Puts a g t r b h
by_fault a b g h t e (Ok x) is p = absurd cc
by_fault a b g h t e (Err f) is p = p

-- the same, by such an answer
pub puts_fails : (a b : Option (List ℕ)) (g h t u : List ℕ) (e : WriteFault) (r : Result (Unit {0}) WriteFault) → IsErr r → Puts a g t (Err e) b h → Puts a g (t ++ u) r b h
puts_fails a b g h t u e (Ok x) is p = absurd cc
puts_fails a b g h t u e (Err f) is p = puts_not a b g h t u e p

-- what is gathered is written
pub written_all : (a b : Option (List ℕ)) (g h : List ℕ) (r : Result (Unit {0}) WriteFault) → WritesTo a g r b → h ≡ [] → Puts a g [] r b h
written_all a b g h (Ok u) w e = (g, w, ap (λ (x : List ℕ). g ++ x) (sym e))
written_all a b g h (Err f) (front, more, is, some, w) e = (front, more, w, append-nil g ∙ is, some)

-- a text is written by itself, behind all that was gathered
pub written_alone : (a b c : Option (List ℕ)) (g h k text : List ℕ) (r : Result (Unit {0}) WriteFault) → Puts a g [] (Ok tt) b h → h ≡ [] → k ≡ [] → WritesTo b text r c → Puts a g text r c k
written_alone a b c g h k text r p e none w = subst (λ (l : List ℕ). Puts a g text r c l) (e ∙ sym none) (alone r w)
  where
    alone : (r : Result (Unit {0}) WriteFault) → WritesTo b text r c → Puts a g text r c h
    alone (Ok u) w = puts_then a b c g h h [] text (Ok u) p (text, w, rw (e) (sym (append-nil text)))
    alone (Err f) (front, more, is, some, w) = puts_then a b c g h h [] text (Err f) p (front, more, w, rw (e) is, some)

-- the last piece is not written
pub last_failed : (a b c : Option (List ℕ)) (g h k text : List ℕ) (r : Result (Unit {0}) WriteFault) (e : WriteFault) → g ≡ [] → is_err r ≡ false → Puts a g text r b h → Puts b h [] (Err e) c k → WritesLines a text (Err Write) c
last_failed a b c g h k text (Err f) e none ok p q = absurd cc
last_failed a b c g h k text (Ok u) e none ok p q =
    let all : Puts a g (text ++ []) (Err e) c k = puts_then a b c g h k text [] (Err e) p q in
    (all.0, all.1, all.2, sym (append-nil text) ∙ ap (λ (x : List ℕ). x ++ (text ++ [])) (sym none) ∙ all.3, all.4)

-- and where it is
pub last_written : (a b c : Option (List ℕ)) (g h k text : List ℕ) (r : Result (Unit {0}) WriteFault) → g ≡ [] → is_err r ≡ false → Puts a g text r b h → Puts b h [] (Ok tt) c k → k ≡ [] → Appends a c text
last_written a b c g h k text (Err f) none ok p q end = absurd cc
last_written a b c g h k text (Ok u) none ok p q end =
    let all : Puts a g (text ++ []) (Ok tt) c k = puts_then a b c g h k text [] (Ok tt) p q in
    subst (Appends a c) (sym (append-nil all.0) ∙ ap (λ (x : List ℕ). all.0 ++ x) (sym end) ∙ sym all.2 ∙ ap (λ (x : List ℕ). x ++ (text ++ [])) none ∙ append-nil text) all.1

-- ---- what is left of held lines

-- A text was put, and the parts that are left are the rest of the whole.
pub record IsLeft (a : Option (List ℕ)) (g : List ℕ) (b : Option (List ℕ)) (h : List ℕ) (whole : List ℕ) (known : List Term) (subject texts : List ℕ) (parts : List Part) : Type 0 where
  pub before : List ℕ
  pub put : Puts a g before (Ok tt) b h
  pub is : whole ≡ before ++ said known subject parts texts
  pub fits : bytes_of parts ≡ length texts
  pub have : HavePredicates known parts

pub left_first : (a : Option (List ℕ)) (g : List ℕ) (known : List Term) (subject texts : List ℕ) (parts : List Part) → bytes_of parts ≡ length texts → HavePredicates known parts
    → IsLeft a g a g (said known subject parts texts) known subject texts parts
left_first a g known subject texts parts fits have = record { before = []; put = puts_none a g; is = refl; fits = fits; have = have }

module _ (a : Option (List ℕ)) (g : List ℕ) (b : Option (List ℕ)) (h whole : List ℕ) (known : List Term) (subject texts : List ℕ) where
  pub left_flushed : (parts : List Part) (c : Option (List ℕ)) (k : List ℕ) → IsLeft a g b h whole known subject texts parts → Puts b h [] (Ok tt) c k → IsLeft a g c k whole known subject texts parts
  left_flushed parts c k l p = record {
    before = l.before;
    put = subst (λ (t : List ℕ). Puts a g t (Ok tt) c k) (append-nil l.before) (puts_then a b c g h k l.before [] (Ok tt) l.put p);
    is = l.is;
    fits = l.fits;
    have = l.have;
  }

  pub left_none : IsLeft a g b h whole known subject texts [] → Puts a g whole (Ok tt) b h
  left_none l = subst (λ (t : List ℕ). Puts a g t (Ok tt) b h) (sym (l.is ∙ append-nil l.before)) l.put

  -- a call failed that was to put this
  pub left_failed : (parts : List Part) (c : Option (List ℕ)) (k text more : List ℕ) (e : WriteFault) → IsLeft a g b h whole known subject texts parts → Puts b h text (Err e) c k → said known subject parts texts ≡ text ++ more
      → Puts a g whole (Err e) c k
  left_failed parts c k text more e l p is =
      subst (λ (t : List ℕ). Puts a g t (Err e) c k) (append_assoc l.before text more ∙ ap (λ (x : List ℕ). l.before ++ x) (sym is) ∙ sym l.is)
      (puts_not a c g k (l.before ++ text) more e (puts_then a b c g h k l.before text (Err e) l.put p))

  module _ (part : Part) (parts : List Part) (l : IsLeft a g b h whole known subject texts (part ∷ parts)) where
    pub part_fits : size part ≤ length texts
    part_fits = let f = l.fits in omega (arith, f)

    pub part_has : HasPredicate known part
    part_has = l.have.0

    pub left_next : (c : Option (List ℕ)) (k next behind : List ℕ) → Puts b h (part_text known subject part texts) (Ok tt) c k → next ≡ next_subject subject part texts → behind ≡ drop (size part) texts
        → IsLeft a g c k whole known next behind parts
    left_next c k next behind p n d = record {
      before = l.before ++ part_text known subject part texts;
      put = puts_then a b c g h k l.before (part_text known subject part texts) (Ok tt) l.put p;
      is = rw (n, d) (l.is ∙ sym (append_assoc l.before (part_text known subject part texts) _));
      fits = rw (d) (let f = l.fits in omega (arith, f, length-drop (size part) texts));
      have = l.have.1;
    }
