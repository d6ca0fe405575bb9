use Rattle.std.proofs.Common.{◌≤◌, length, set, ap, ◌∙◌, arith}
use Rattle.std.proofs.lemmas.List.{take-set}
use Rattle.grove_sorts.specs.Ctor.{positions}
use Rattle.judging.specs.declared.frame.Frame.TheVariants.{Open, Several}
use Rattle.judging.specs.Frames.{given_at, IsOpenOf}
use Rattle.judging.proofs.Kept.{types-itself}
use Rattle.marking.specs.Added.{marked_nodes}
use Rattle.marking.specs.Reading.{meant_nodes}
use Rattle.mark_rules.proofs.Walks.{still_added}
use Rattle.mark_rules.proofs.Innermost.{last_of, open_is, filled_is, filled_stands, filled_are, vertex_off, fewer_stand, fewer_are, conflict_off, rest_kept}
use Rattle.mark_rules.proofs.taking.pass.Goals as goal

pub fill-requires : goal.fill-requires
fill-requires c =
    let last = last_of c.args.walk.now c.in-Some.last c.index_mut.result.now c.requires.walk (omega arith) c.index_mut.ensures.value in
    (open_is last c.in-Open.vertex c.in-Open.is).1

pub returns-then-vertex-position_count-clause-state : goal.returns-then-vertex-position_count-clause-state
returns-then-vertex-position_count-clause-state c = λ nodes.
    let last = last_of c.args.walk.now c.in-Some.last c.index_mut.result.now c.requires.walk (omega arith) c.index_mut.ensures.value in
    filled_stands last c.in-Open.vertex c.fill.new.vertex c.args.given (meant_nodes c.args.types.now (marked_nodes nodes c.args.walk.now.added.items)) c.in-Open.is c.fill.ensures (omega arith)

pub returns-then-vertex-position_count-clause-walk : goal.returns-then-vertex-position_count-clause-walk
returns-then-vertex-position_count-clause-walk c =
    let last = last_of c.args.walk.now c.in-Some.last c.index_mut.result.now c.requires.walk (omega arith) c.index_mut.ensures.value in
    record {
      frames = filled_are last c.in-Open.vertex c.fill.new.vertex c.args.given c.in-Open.is c.fill.ensures c.requires.given (omega arith);
      added = c.requires.walk.added;
    }

pub close-requires-clause-vertex : goal.close-requires-clause-vertex
close-requires-clause-vertex c =
    let last = last_of c.args.walk.now c.in-Some.last c.index_mut.result.now c.requires.walk (omega arith) c.index_mut.ensures.value in
    filled_is last c.in-Open.vertex c.fill.new.vertex c.args.given c.in-Open.is c.fill.ensures c.requires.given

pub close-requires-clause-whole : goal.close-requires-clause-whole
close-requires-clause-whole c =
    let last = last_of c.args.walk.now c.in-Some.last c.index_mut.result.now c.requires.walk (omega arith) c.index_mut.ensures.value in
    let filled : IsOpenOf c.args.types.now c.args.ctxs.now c.fill.new.vertex = filled_is last c.in-Open.vertex c.fill.new.vertex c.args.given c.in-Open.is c.fill.ensures c.requires.given in
    let within : c.fill.new.vertex.next ≤ length (positions c.fill.new.vertex.ctor.now) = filled.filled.within in
    omega arith

pub returns-in_ok-closed-in-Open-clause-state : goal.returns-in_ok-closed-in-Open-clause-state
returns-in_ok-closed-in-Open-clause-state c = λ nodes.
    let last = last_of c.args.walk.now c.in-Some.last c.index_mut.result.now c.requires.walk (omega arith) c.index_mut.ensures.value in
    vertex_off last c.close.new.types c.in-Open.vertex c.fill.new.vertex c.args.given c.in_ok-closed-in-Open.closed
    c.truncate.new.self.items nodes c.args.walk.now.added.items c.settle.new.added.items c.in-Open.is c.fill.ensures c.in_ok-closed-in-Open.ensures.kept c.requires.walk.added (omega arith)
    c.in_ok-closed-in-Open.ensures.added c.in_ok-closed-in-Open.ensures.given (c.settle.ensures ∙ ap (set c.args.walk.now.added.items c.index_mut.result.now.0) c.added_by.ensures)
    (c.truncate.ensures.items ∙ take-set c.args.walk.now.frames.items c.in-Some.last (c.index_mut.result.now.0, Open c.fill.new.vertex))

pub returns-in_ok-closed-in-Open-clause-walk : goal.returns-in_ok-closed-in-Open-clause-walk
returns-in_ok-closed-in-Open-clause-walk c =
    let last = last_of c.args.walk.now c.in-Some.last c.index_mut.result.now c.requires.walk (omega arith) c.index_mut.ensures.value in
    record {
      frames = rest_kept last c.close.new.types c.truncate.new.self.items c.in_ok-closed-in-Open.ensures.kept
          (c.truncate.ensures.items ∙ take-set c.args.walk.now.frames.items c.in-Some.last (c.index_mut.result.now.0, Open c.fill.new.vertex));
      added = still_added c.args.types.now c.close.new.types c.index_mut.result.now.0 c.in_ok-closed-in-Open.closed c.args.walk.now.added.items c.settle.new.added.items c.in_ok-closed-in-Open.ensures.kept c.requires.walk.added
          c.in_ok-closed-in-Open.ensures.numbers (c.settle.ensures ∙ ap (set c.args.walk.now.added.items c.index_mut.result.now.0) c.added_by.ensures);
    }

pub returns-then-left-gt1-clause-state : goal.returns-then-left-gt1-clause-state
returns-then-left-gt1-clause-state c = λ nodes.
    let last = last_of c.args.walk.now c.in-Some.last c.index_mut.result.now c.requires.walk (omega arith) c.index_mut.ensures.value in
    fewer_stand last c.in-Several.field-0 c.in-Several.left (given_at c.args.types.now c.args.given) (meant_nodes c.args.types.now (marked_nodes nodes c.args.walk.now.added.items)) c.in-Several.is (omega arith)

pub returns-then-left-gt1-clause-walk : goal.returns-then-left-gt1-clause-walk
returns-then-left-gt1-clause-walk c =
    let last = last_of c.args.walk.now c.in-Some.last c.index_mut.result.now c.requires.walk (omega arith) c.index_mut.ensures.value in
    record {
      frames = fewer_are last c.in-Several.field-0 c.in-Several.left c.in-Several.is;
      added = c.requires.walk.added;
    }

pub returns-else-left-gt1-clause-state : goal.returns-else-left-gt1-clause-state
returns-else-left-gt1-clause-state c = λ nodes.
    let last = last_of c.args.walk.now c.in-Some.last c.index_mut.result.now c.requires.walk (omega arith) c.index_mut.ensures.value in
    conflict_off last c.in-Several.field-0 c.in-Several.left (given_at c.args.types.now c.args.given)
    (given_at c.args.types.now c.nothing.result) c.truncate-in-Several.new.self.items (meant_nodes c.args.types.now (marked_nodes nodes c.args.walk.now.added.items)) c.in-Several.is (omega arith) c.nothing.ensures.given
    (c.truncate-in-Several.ensures.items ∙ take-set c.args.walk.now.frames.items c.in-Some.last (c.index_mut.result.now.0, Several c.in-Several.field-0 c.in-Several.left))

pub returns-else-left-gt1-clause-walk : goal.returns-else-left-gt1-clause-walk
returns-else-left-gt1-clause-walk c =
    let last = last_of c.args.walk.now c.in-Some.last c.index_mut.result.now c.requires.walk (omega arith) c.index_mut.ensures.value in
    record {
      frames = rest_kept last c.args.types.now c.truncate-in-Several.new.self.items (types-itself c.args.types.now)
          (c.truncate-in-Several.ensures.items ∙ take-set c.args.walk.now.frames.items c.in-Some.last (c.index_mut.result.now.0, Several c.in-Several.field-0 c.in-Several.left));
      added = c.requires.walk.added;
    }
