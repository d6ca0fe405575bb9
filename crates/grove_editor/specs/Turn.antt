-- Inner model, which no public contract cites: the replies of undoing and of redoing.
use Rattle.std.specs.Prelude.{ℕ}
use Rattle.grove_editor.specs.declared.reply.Reply.{Reply}
use Rattle.grove_editor.specs.declared.reply.Reply.TheVariants.{Undone, Redone}
use Rattle.grove_editor.specs.declared.turn.Turn.{Turn}
use Rattle.grove_editor.specs.declared.turn.Turn.TheVariants.{Undo, Redo}

abbrev pub turn_reply : Turn → ℕ → Reply
turn_reply Undo edits = Undone edits
turn_reply Redo edits = Redone edits
