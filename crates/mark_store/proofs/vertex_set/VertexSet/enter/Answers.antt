use Rattle.std.proofs.Common.{◌++◌, ap, ◌∙◌}
use Rattle.std.specs.Prelude.{◌||◌}
use Rattle.grove_edits.specs.Vertex.{is_same_vertex}
use Rattle.mark_store.specs.Places.{holds, listed_places}
use Rattle.mark_store.proofs.Sets.{holds_push, holds_more, holds_put}
use Rattle.mark_store.proofs.vertex_set.VertexSet.enter.Goals as goal

pub returns-then-len-lt-MOST_LISTED : goal.returns-then-len-lt-MOST_LISTED
returns-then-len-lt-MOST_LISTED c v =
    ap (λ vs. holds (listed_places vs ++ c.self.inside.others) v) c.in_ok-push.ensures.items
    ∙ holds_push v c.self.inside.listed.items c.self.inside.others c.args.vertex.now
    ∙ ap (λ set. is_same_vertex c.args.vertex.now v || holds set v) c.self.view_is

pub returns : goal.returns
returns c v =
    holds_more v c.self.inside.listed.items c.self.inside.others c.insert.new.self c.args.vertex.now (holds_put v c.self.inside.others c.insert.new.self c.args.vertex.now (c.in_ok-insert.ensures.put v))
    ∙ ap (λ set. is_same_vertex c.args.vertex.now v || holds set v) c.self.view_is
