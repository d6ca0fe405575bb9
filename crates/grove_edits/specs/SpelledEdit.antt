-- The edits that are spelled, and not whole.
use Rattle.grove_edits.specs.declared.edit.Edit.{Edit}
use Rattle.grove_edits.specs.declared.spelled.SpelledEdit.{SpelledEdit}
use Rattle.grove_edits.specs.SpelledEdge.{spelled_vertex}

-- the edit that is spelled
abbrev pub spelled_edit : SpelledEdit → Edit
spelled_edit s = record {
  name = s.name;
  source = s.source;
  branch = s.branch;
  position = s.position;
  target = spelled_vertex s.target;
  kind = s.kind;
  well_formed = s.well_formed;
  in_range = s.in_range;
}
