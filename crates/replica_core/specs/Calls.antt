-- Calls of a replica, one after the other.
use Rattle.std.specs.Prelude.{List, [], ◌∷◌, ◌++◌}
use Rattle.grove_edits.specs.declared.edit.Edit.{Edit}
use Rattle.grove_edits.specs.declared.answer.Answer.{Answer}
use Rattle.grove_edits.specs.declared.command.Command.{Command}
use Rattle.shared_replica.specs.declared.journal.Entry.{Entry}
use Rattle.replica_core.specs.Content.{Content, with_taken, with_block}

-- what a call does: it opens a block, or it takes edits, those of an action or those handed in
pub data Call : Type 0 where
  Opens : Call
  Takes : List Edit → Call

abbrev pub after_call : Call → Content → Content
after_call Opens content = with_block content
after_call (Takes edits) content = with_taken edits content

abbrev pub after_calls : List Call → Content → Content
after_calls [] content = content
after_calls (call ∷ calls) content = after_calls calls (after_call call content)

abbrev pub edits_of_call : Call → List Edit
edits_of_call Opens = []
edits_of_call (Takes edits) = edits

-- all edits that the calls take, in order
abbrev pub edits_of_calls : List Call → List Edit
edits_of_calls [] = []
edits_of_calls (call ∷ calls) = edits_of_call call ++ edits_of_calls calls

-- all edits of the entries of a journal, in order
abbrev pub edits_of_entries : List (Entry Content Command (List Edit) Answer) → List Edit
edits_of_entries [] = []
edits_of_entries (entry ∷ entries) = entry.effect ++ edits_of_entries entries
