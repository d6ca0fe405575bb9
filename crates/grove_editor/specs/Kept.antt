-- How an editor is kept.
use Rattle.std.specs.Prelude.{◌≡◌, ℕ, List, []}
use Rattle.std.specs.List.{All}
use Rattle.replica_core.specs.Content.{Content, IsContent}
use Rattle.grove_editor.specs.declared.deed.Deed.{Deed}
use Rattle.grove_editor.specs.declared.news.News.{News}
use Rattle.grove_editor.specs.Deeds.{IsKnown}
use Rattle.grove_editor.specs.State.{State}

abbrev pub state_of : Content → List ℕ → List Deed → List Deed → News → State
state_of content fed done undone news = record {
  edits = content.edits;
  fed = fed;
  done = done;
  undone = undone;
  reply = news.reply;
  made = news.made;
  changed = news.changed.items;
}

-- the block opened with no edges, and what deeds are kept by is what some edits changed
pub record IsKept (content : Content) (done undone : List Deed) : Type 0 where
  pub is_content : IsContent content
  pub no_opening : content.opening ≡ []
  pub done_known : All IsKnown done
  pub undone_known : All IsKnown undone
