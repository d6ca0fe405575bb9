use Rattle.std.proofs.Common.{◌≡◌, List, Option, length, map, sym, ap, subst, ◌∙◌, arith}
use Rattle.std.specs.List.{AllByRecursion}
use Rattle.std.specs.Option.{option_map}
use Rattle.std.proofs.lemmas.List.{length-map}
use Rattle.grove_edits.specs.declared.edit.Edit.{Edit}
use Rattle.edge_board.specs.Seats.{BoardOf, first_board_seat}
use Rattle.session_script.specs.declared.line.Line.{Line}
use Rattle.session_script.specs.declared.item.Block.{Block}
use Rattle.session_script.specs.declared.session.Session.{Session}
use Rattle.session_run.specs.Run.{IsPlaced, CanRun}
use Rattle.session_run.proofs.OfSessions.{all_placed, sends_counted}
use Rattle.replica_core.specs.Content.{Content}
use Rattle.session_answers.specs.Boards.{AreBoards, all_cut_from, board_of, states_in}
use Rattle.session_answers.specs.Opened.{all_listed}
use Rattle.session_answers.specs.Running.{stage_of}
use Rattle.session_answers.proofs.Listed.{length-all_listed}
use Rattle.session_answers.proofs.OnBoards.{can_cut, all_whole_among, all_are_held}
use Rattle.session_answers.proofs.Steps.{have_run}
use Rattle.session_answers.proofs.block.run_on_boards.Goals as goal

as_many : (session : Session) (block : Block) (lists : List (List Edit)) (replicas : List Content) → lists ≡ all_listed session.authors block.lines 0 replicas → length lists ≡ length replicas
as_many session block lists replicas are = ap (λ (ls : List (List Edit)). length ls) are ∙ length-all_listed session.authors block.lines 0 replicas

pub cuts_on-requires-clause-boards : goal.cuts_on-requires-clause-boards
cuts_on-requires-clause-boards g c = ap (λ (bs : List (Option BoardOf)). length bs) c.deref.ensures.value ∙ c.in_ok-boards.ensures.boards.as_many

pub cuts_on-requires-clause-seats : goal.cuts_on-requires-clause-seats
cuts_on-requires-clause-seats g c = c.in_ok-boards.ensures.seats ∙ ap (map (option_map first_board_seat)) (sym c.deref.ensures.value)

pub run_block-requires-clause-sources : goal.run_block-requires-clause-sources
run_block-requires-clause-sources g c κs within = as_many c.args.session.now c.args.block.now c.args.lists.now c.args.replicas.items c.requires.lists

pub run_block-requires-clause-authors : goal.run_block-requires-clause-authors
run_block-requires-clause-authors g c κs within = subst (λ n. AllByRecursion (IsPlaced n) c.args.session.now.authors) (sym c.requires.replicas) (all_placed c.args.session.now c.requires.session)

pub run_block-requires-clause-lines : goal.run_block-requires-clause-lines
run_block-requires-clause-lines g c κs within = subst (λ n. AllByRecursion (CanRun c.args.session.now.authors n) c.args.block.now.lines) (sym c.requires.replicas) c.requires.lines

pub run_block-requires-clause-cuts : goal.run_block-requires-clause-cuts
run_block-requires-clause-cuts g c κs within =
    sym (length-map c.in_ok-cuts.cuts.items board_of) ∙ ap (λ (bs : List (Option BoardOf)). length bs) (c.in_ok-cuts.ensures.boards ∙ c.deref.ensures.value) ∙ c.in_ok-boards.ensures.boards.as_many
    ∙ as_many c.args.session.now c.args.block.now c.args.lists.now c.args.replicas.items c.requires.lists

pub run_block-requires-clause-numbers : goal.run_block-requires-clause-numbers
run_block-requires-clause-numbers g c κs within = let few = c.requires.sends in let counted = sends_counted c.args.block.now.lines in omega arith

pub run_block-requires-clause-boards : goal.run_block-requires-clause-boards
run_block-requires-clause-boards g c κs within = λ replica own is.
    can_cut (stage_of c.args.session.now c.args.block.now c.args.first_send c.args.lists.now replica) c.in_ok-boards.boards.items c.in_ok-cuts.cuts.items
    c.requires.ascend
    (subst (λ (lines : List Line). AreBoards c.args.session.now.authors lines c.args.lists.now c.in_ok-boards.boards.items) c.as_slice.ensures c.in_ok-boards.ensures.boards)
    (c.in_ok-cuts.ensures.opening ∙ ap (all_cut_from c.args.lists.now) c.deref.ensures.value) (c.in_ok-cuts.ensures.boards ∙ c.deref.ensures.value) (c.in_ok-cuts.ensures.seats ∙ c.in_ok-boards.ensures.seats) own is

pub close_all-requires : goal.close_all-requires
close_all-requires g c =
    let boards = c.in_ok-cuts.ensures.boards ∙ c.deref.ensures.value in
    let firsts = c.in_ok-cuts.ensures.seats ∙ c.in_ok-boards.ensures.seats ∙ ap (map (option_map first_board_seat)) (sym boards) in
    all_whole_among c.in_ok-cuts.cuts.items c.run_block.new.cuts.items c.in_ok-boards.boards.items c.in_ok-whole.whole.items boards c.in_ok-whole.ensures firsts c.run_block.ensures.cuts c.run_block.ensures.seats

pub returns-clause-ran : goal.returns-clause-ran
returns-clause-ran g c =
    have_run c.args.session.now c.args.block.now c.args.first_send c.args.replicas.items c.in_ok-replicas.replicas.items c.in_ok-replicas.journals.items c.args.lists.now
    c.requires.lists c.in_ok-replicas.ensures.machines c.in_ok-replicas.ensures.journals c.in_ok-replicas.ensures.each

pub returns-clause-closed : goal.returns-clause-closed
returns-clause-closed g c =
    all_are_held c.args.session.now c.args.block.now c.args.first_send c.args.replicas.items c.args.lists.now c.in_ok-cuts.cuts.items c.run_block.new.cuts.items c.in_ok-boards.boards.items c.in_ok-whole.whole.items
    (map states_in c.in_ok-held.held.items) c.requires.lists
    (subst (λ (lines : List Line). AreBoards c.args.session.now.authors lines c.args.lists.now c.in_ok-boards.boards.items) c.as_slice.ensures c.in_ok-boards.ensures.boards)
    (c.in_ok-cuts.ensures.opening ∙ ap (all_cut_from c.args.lists.now) c.deref.ensures.value) (c.in_ok-cuts.ensures.boards ∙ c.deref.ensures.value) (c.in_ok-cuts.ensures.seats ∙ c.in_ok-boards.ensures.seats) c.in_ok-whole.ensures c.run_block.ensures.cuts
    c.in_ok-replicas.ensures.raised c.in_ok-held.ensures
