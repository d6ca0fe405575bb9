-- Rules where a fact is known. A method of a form is told its rules and no more of its types, so the rules hand on what else its answer rests on.
use Rattle.grove_calls.specs.Rules.{Rules}

module _ {C H : Type 0} where
  -- the words are those of a command of these rules, and the fact holds
  abbrev pub where_known : Rules C H → Type 0 → Rules C H
  where_known rules fact = record {
    are_of = λ command words. rules.are_of command words × fact;
    reads = rules.reads;
    has_reading = rules.has_reading;
    is_answer = rules.is_answer;
    is_first_fault = rules.is_first_fault;
    is_unfit = rules.is_unfit;
    nothing = rules.nothing;
    usage = rules.usage;
  }
