-- The order of mappings is total, and only equal mappings tie.
use Rattle.std.proofs.Common.{◌≡◌, Some, None, ap, refl, Bool, false}
use Rattle.std.specs.FinSet.{IsAntisymmetric, slice_cmp-IsAntisymmetric}
use Rattle.std.specs.Option.{option_cmp}
use Rattle.std.specs.Ordering.{is_lt, ordering_reverse}
use Rattle.std.specs.Cmp.{IsTotalOrder, IsStrictWeakOrder}
use Rattle.std.specs.Cmp.Lexicographic.{lists_total, options_total}
use Rattle.std.specs.declared.cmp.Ordering.{Ordering}
use Rattle.std.specs.declared.cmp.Ordering.TheVariants.{Less, Equal, Greater}
use Rattle.std.proofs.lemmas.List.Sorted.{ranks_by}
use Rattle.rdf_terms.specs.Order.{term_cmp}
use Rattle.rdf_terms.specs.OrderLaws.{term_cmp_total, term_cmp-IsAntisymmetric}
use Rattle.sparql_values.specs.Mapping.{Mapping}
use Rattle.sparql_algebra.specs.Order.{mapping_cmp}

value_cmp-IsAntisymmetric : IsAntisymmetric (option_cmp term_cmp)
value_cmp-IsAntisymmetric None None e = refl
value_cmp-IsAntisymmetric None (Some t) e = cc
value_cmp-IsAntisymmetric (Some s) None e = cc
value_cmp-IsAntisymmetric (Some s) (Some t) e = ap Some (term_cmp-IsAntisymmetric s t e)

pub mapping_cmp-IsAntisymmetric : IsAntisymmetric mapping_cmp
mapping_cmp-IsAntisymmetric = slice_cmp-IsAntisymmetric value_cmp-IsAntisymmetric

pub mapping_total : IsTotalOrder mapping_cmp
mapping_total = lists_total (options_total term_cmp_total)

abbrev pub less : Mapping → Mapping → Bool
less a b = is_lt (mapping_cmp a b)

pub mapping_ranks : IsStrictWeakOrder (λ (a b : Mapping). is_lt (mapping_cmp a b))
mapping_ranks = ranks_by mapping_total (λ (a : Mapping). a)

tied : (r s : Ordering) → r ≡ ordering_reverse s → is_lt r ≡ false → is_lt s ≡ false → r ≡ Equal
tied Less s e h k = cc
tied Equal s e h k = refl
tied Greater Less e h k = cc
tied Greater Equal e h k = cc
tied Greater Greater e h k = cc

-- neither is less than the other: they are one mapping
pub neither_less : (a b : Mapping) → less a b ≡ false → less b a ≡ false → a ≡ b
neither_less a b h k = mapping_cmp-IsAntisymmetric a b (tied (mapping_cmp a b) (mapping_cmp b a) (mapping_total.antisymm a b) h k)
