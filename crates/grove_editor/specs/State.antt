-- What contracts see of an editor.
use Rattle.std.specs.Prelude.{ℕ, List, []}
use Rattle.grove_edits.specs.declared.vertex.Vertex.{Vertex}
use Rattle.grove_edits.specs.declared.edit.Edit.{Edit}
use Rattle.grove_editor.specs.declared.deed.Deed.{Deed}
use Rattle.grove_editor.specs.declared.reply.Reply.{Reply}
use Rattle.grove_editor.specs.declared.reply.Reply.TheVariants.{Unasked}

pub record State : Type 0 where
  -- the canonical list of the graph
  pub edits : List Edit
  -- the bytes that were fed and are not taken
  pub fed : List ℕ
  -- the actions that were done and not undone, the newest last
  pub done : List Deed
  -- what undid others and was not undone in its turn, the newest last
  pub undone : List Deed
  -- of the last call that takes edits, acts, undoes or redoes: its reply, the edits that it made itself, and the vertices that marking judges otherwise since
  pub reply : Reply
  pub made : List Edit
  pub changed : List Vertex

-- before any call
abbrev pub at_start : State
at_start = record { edits = []; fed = []; done = []; undone = []; reply = Unasked; made = []; changed = [] }

abbrev pub with_fed : List ℕ → State → State
with_fed bytes state = record state { fed = bytes }

abbrev pub without_fed : State → State
without_fed state = with_fed [] state

-- a call replied, and made no edits
abbrev pub replied : Reply → State → State
replied reply state = record state { reply = reply; made = []; changed = [] }
