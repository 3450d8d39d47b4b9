use Rattle.sparql_values.proofs.TableLemmas.{bounds, equals, kinds, lesses, no_order_turned, one_of_three, orders}
use Rattle.sparql_values.proofs.laws.comparison_tables_hold.Goals as goal

pub returns : goal.returns
returns c =
    record { kinds = kinds; bounds = bounds; equal = equals; less = lesses; turned = no_order_turned; three = one_of_three; orders = orders }
