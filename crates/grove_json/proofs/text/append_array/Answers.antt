use Rattle.grove_json.proofs.Texts.{array_written}
use Rattle.grove_json.proofs.text.append_array.Goals as goal

pub returns : goal.returns
returns c = λ trees are.
    array_written c.args.out.now.items c.push.new.self.items c.extend_from_slice.new.self.items c.push-2.new.self.items c.behind_comma.result.now trees
    c.in_ok-push.ensures.items c.in_ok-extend_from_slice.ensures.items c.in_ok-push-2.ensures.items (c.behind_comma.ensures trees are)
