use Rattle.grove_editor.proofs.EditTexts.{text_is_read}
use Rattle.grove_editor.proofs.laws.a_text_of_edits_is_read.Goals as goal

pub returns : goal.returns
returns c = text_is_read
