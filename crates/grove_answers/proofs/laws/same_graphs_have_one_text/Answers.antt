use Rattle.grove_answers.proofs.SameGraph.{canonical_along, printed_along, checked_along, counts_along, one_canonical_text, one_print_text, one_check_text, one_counts}
use Rattle.grove_answers.proofs.laws.same_graphs_have_one_text.Goals as goal

pub returns : goal.returns
returns c = record {
  canonical = λ g h x y same of_g of_h. one_canonical_text h x y (canonical_along g h x same of_g) of_h;
  print = λ g h x y same of_g of_h. one_print_text h x y (printed_along g h x same of_g) of_h;
  check = λ g h x y same of_g of_h. one_check_text h x y (checked_along g h x same of_g) of_h;
  counts = λ g h x y same of_g of_h. one_counts h x y (counts_along g h x same of_g) of_h;
}
