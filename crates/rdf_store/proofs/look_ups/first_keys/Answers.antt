use Rattle.std.proofs.Common.{◌≡◌, ◌+◌, ◌++◌, ◌∷◌, [], ℕ, suc, List, take, set, ap, sym, ◌∙◌, arith, append_assoc}
use Rattle.std.proofs.Math.Seq.{take-suc-set}
use Rattle.std.proofs.lemmas.Grind.{common_steps}
use Rattle.std.proofs.lemmas.List.{length-set}
use Rattle.rdf_store.proofs.look_ups.first_keys.Goals as goal

pub loop-many-preserved : goal.loop-many-preserved
loop-many-preserved c =
    let many : ℕ = c.loop-many.many in
    let keys : List (List ℕ) = c.loop-many.keys in
    let left : List (List ℕ) = c.next_key.new.self.left in
    let more : many + 1 ≡ suc many = omega arith in
    record {
      long = length-set keys many c.in-Some.key ∙ c.loop-many.invariant.long;
      few = omega (arith, c.loop-many-test.true);
      most = omega (arith, c.if-many-most.true);
      parted = c.loop-many.invariant.parted ∙ ap (λ (ks : List (List ℕ)). take many keys ++ ks) c.in-Some.ensures.next
          ∙ sym (append_assoc (take many keys) (c.in-Some.key ∷ []) left)
          ∙ ap (λ (ks : List (List ℕ)). ks ++ left) (sym (take-suc-set keys many c.in-Some.key (omega (arith, c.loop-many.invariant.long, c.loop-many-test.true))))
          ∙ ap (λ (n : ℕ). take n (set keys many c.in-Some.key) ++ left) (sym more);
      counted = grind (arith, common_steps);
    }
