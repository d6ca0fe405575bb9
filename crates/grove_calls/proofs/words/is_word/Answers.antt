use Rattle.grove_calls.proofs.WordsAre.{one_word}
use Rattle.grove_calls.proofs.words.is_word.Goals as goal

pub returns-in-len1 : goal.returns-in-len1
returns-in-len1 c = one_word c.args.words.now c.only-item.result c.as_str.result.now _ c.eq.result c.in-len1.len_at_least c.in-len1.len_below c.only-item.is c.as_str.ensures.value c.eq.ensures
