-- The parts of a generated session.
use Rattle.std.specs.Prelude.{◌≡◌, ℕ, false, true, List, [], ◌∷◌, ◌++◌}
use Rattle.session_script.specs.declared.item.Item.{Item}
use Rattle.session_script.specs.declared.item.Item.TheVariants.{Block}
use Rattle.session_script.specs.declared.session.Session.{Session}
use Rattle.session_gen.specs.Items.{AreNamed, AreLoads, declared, acting, sending}

-- the three blocks
abbrev pub blocks : List Item
blocks = Block (record { lines = acting }) ∷ Block (record { lines = sending false false }) ∷ Block (record { lines = sending true true }) ∷ []

-- three replicas with an author each; so many loads, and the blocks
pub record HasParts (count : ℕ) (session : Session) : Type 0 where
  pub loads : List Item
  pub named : AreNamed session.replicas
  pub authors : session.authors ≡ declared
  pub are_loads : AreLoads count loads
  pub items : session.items ≡ loads ++ blocks
