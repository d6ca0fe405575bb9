-- The sessions in which actions can be undone.
use Rattle.std.specs.Prelude.{◌≡◌, Bool, true, false, ◌&&◌, not, ◌==◌, length}
use Rattle.std.specs.List.{list_any}
use Rattle.session_script.specs.declared.item.Item.{Item}
use Rattle.session_script.specs.declared.item.Item.TheVariants as item
use Rattle.session_script.specs.declared.session.Session.{Session}
use Rattle.session_script.specs.Session.{is_send}

abbrev pub has_send : Item → Bool
has_send (item.Block block) = list_any is_send block.lines
has_send _ = false

-- the session has one replica, and no `send` line
abbrev pub is_fit : Session → Bool
is_fit session = (length session.replicas == 1) && not (list_any has_send session.items)

abbrev pub IsFit : Session → Type 0
IsFit session = is_fit session ≡ true
