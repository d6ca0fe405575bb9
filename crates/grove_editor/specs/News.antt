-- Inner model, which no public contract cites: what is told of undoing and of redoing.
use Rattle.std.specs.Prelude.{◌≡◌, [], length}
use Rattle.grove_editor.specs.declared.news.News.{News}
use Rattle.grove_editor.specs.declared.reply.Reply.TheVariants.{NothingToTurn, NotTurned}
use Rattle.grove_editor.specs.declared.turn.Turn.{Turn}
use Rattle.grove_editor.specs.declared.turning.Turned.{Turned}
use Rattle.grove_editor.specs.declared.turning.Turned.TheVariants.{Nothing, Refused, Made}
use Rattle.grove_editor.specs.Turn.{turn_reply}

abbrev pub IsNewsOf : Turn → Turned → News → Type 0
IsNewsOf turn Nothing news = (news.reply ≡ NothingToTurn) × (news.made ≡ []) × (news.changed.items ≡ [])
IsNewsOf turn (Refused fault) news = (news.reply ≡ NotTurned fault) × (news.made ≡ []) × (news.changed.items ≡ [])
IsNewsOf turn (Made edits changed) news = (news.reply ≡ turn_reply turn (length edits)) × (news.made ≡ edits) × (news.changed.items ≡ changed.items)
