use Rattle.grove_editor.proofs.OwnBlocks.{own_block}
use Rattle.grove_editor.proofs.laws.an_action_is_in_a_block_of_its_own.Goals as goal

pub returns : goal.returns
returns c = own_block
