use Rattle.type_infer.proofs.positions.places_of.Goals as goal

pub returns-clause-within : goal.returns-clause-within
returns-clause-within c = λ variables some all. record {
  first = c.from_last.ensures.within variables some all;
  second = c.from_last-2.ensures.within variables some all;
  third = c.from_last-3.ensures.within variables some all;
  fourth = c.from_last-4.ensures.within variables some all;
  fifth = c.from_last-5.ensures.within variables some all;
}
