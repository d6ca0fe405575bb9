-- How often the calls of a replica count at most.
use Rattle.std.specs.Prelude.{ℕ, ◌+◌, ◌*◌, List, [], ◌∷◌}
use Rattle.grove_edits.specs.declared.edit.Edit.{Edit}
use Rattle.kept_records.proofs.OneSize.{some_size}
use Rattle.replica_core.specs.Content.{Content, with_taken}
use Rattle.replica_core.specs.Calls.{Call, Opens, Takes, after_call}

-- the size of an edit on the graph of some edits, of which it has exactly one
unfoldable pub edit_size : List Edit → Edit → ℕ
edit_size edits edit = (some_size edits edit).0

-- taking one edit and marking again: 64 for each unit of its size, and 64 more
abbrev pub edit_cost : Content → Edit → ℕ
edit_cost content edit = 64 * edit_size content.edits edit + 64

-- taking edits in turn
abbrev pub edits_cost : Content → List Edit → ℕ
edits_cost content [] = 0
edits_cost content (edit ∷ edits) = edit_cost content edit + edits_cost (with_taken (edit ∷ []) content) edits

-- one call: a block that opens counts nothing
abbrev pub call_cost : Content → Call → ℕ
call_cost content Opens = 0
call_cost content (Takes edits) = edits_cost content edits

-- and calls in turn
abbrev pub calls_cost : Content → List Call → ℕ
calls_cost content [] = 0
calls_cost content (call ∷ calls) = call_cost content call + calls_cost (after_call call content) calls
