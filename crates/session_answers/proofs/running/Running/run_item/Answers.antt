use Rattle.std.proofs.Common.{ℕ, ◌+◌, List, length, take, Some, refl, ap, ◌∙◌}
use Rattle.std.proofs.lemmas.List.{length-map}
use Rattle.session_script.specs.declared.author.Declared.{Declared}
use Rattle.session_script.specs.declared.item.Item.{Item}
use Rattle.session_script.specs.declared.item.Item.TheVariants as item
use Rattle.session_answers.specs.Numbers.{next_number}
use Rattle.session_answers.specs.Running.{IsBehind, HasLoaded, HasRunBlock, HasShown}
use Rattle.session_answers.proofs.Behind.{show_behind}
use Rattle.session_answers.proofs.Items.{if_ok, load_within, block_within, show_within, lines_can_run, few_sends, block_numbers, after_item, after_load, after_block}
use Rattle.session_answers.proofs.running.Running.run_item.Goals as goal

pub load-requires : goal.load-requires
load-requires g c =
    load_within c.args.session.now c.args.index c.args.self c.requires.session c.requires.behind c.in-Load.replica c.in-Load.edit (c.requires.item ∙ ap (λ (x : Item). Some x) c.in-Load.is)

pub run_block-requires-clause-lines : goal.run_block-requires-clause-lines
run_block-requires-clause-lines g c κs within =
    lines_can_run c.args.session.now c.args.index c.args.self c.requires.session c.requires.behind c.in-Block.block (c.requires.item ∙ ap (λ (x : Item). Some x) c.in-Block.is)

pub run_block-requires-clause-calls : goal.run_block-requires-clause-calls
run_block-requires-clause-calls g c κs within =
    ap (λ (ns : List ℕ). length ns) c.requires.behind.calls ∙ length-map c.args.session.now.authors (λ (declared : Declared). next_number (take c.args.index c.args.session.now.items) declared.author)

pub run_block-requires-clause-few_blocks : goal.run_block-requires-clause-few_blocks
run_block-requires-clause-few_blocks g c κs within =
    block_within c.args.session.now c.args.index c.args.self c.requires.session c.requires.behind c.in-Block.block (c.requires.item ∙ ap (λ (x : Item). Some x) c.in-Block.is)

pub run_block-requires-clause-few_sends : goal.run_block-requires-clause-few_sends
run_block-requires-clause-few_sends g c κs within =
    few_sends c.args.session.now c.args.index c.args.self c.requires.session c.requires.behind c.in-Block.block (c.requires.item ∙ ap (λ (x : Item). Some x) c.in-Block.is)

pub run_block-requires-clause-asked : goal.run_block-requires-clause-asked
run_block-requires-clause-asked g c κs within = λ author number is.
    c.requires.asked author number
    (block_numbers c.args.session.now c.args.index c.args.self c.requires.session c.requires.behind c.in-Block.block (c.requires.item ∙ ap (λ (x : Item). Some x) c.in-Block.is) author number is)

pub show-requires : goal.show-requires
show-requires g c = show_within c.args.session.now c.args.index c.args.self c.requires.session c.requires.behind item.Show refl (c.requires.item ∙ ap (λ (x : Item). Some x) c.in-Show.is)

pub returns-in-Load : goal.returns-in-Load
returns-in-Load g c =
    if_ok (HasLoaded c.in-Load.replica c.in-Load.edit c.args.self) (IsBehind c.args.session.now (take (c.args.index + 1) c.args.session.now.items)) c.load.result
    (λ new has. after_load c.args.session.now c.args.index c.args.self c.requires.session c.requires.behind c.in-Load.replica c.in-Load.edit new (c.requires.item ∙ ap (λ (x : Item). Some x) c.in-Load.is) has)
    c.load.ensures

pub returns-in-Block : goal.returns-in-Block
returns-in-Block g c =
    if_ok (HasRunBlock c.args.session.now c.in-Block.block c.args.self) (IsBehind c.args.session.now (take (c.args.index + 1) c.args.session.now.items)) c.run_block.result
    (λ new has. after_block c.args.session.now c.args.index c.args.self c.requires.session c.requires.behind c.in-Block.block new (c.requires.item ∙ ap (λ (x : Item). Some x) c.in-Block.is) has)
    c.run_block.ensures

pub returns-in-Show : goal.returns-in-Show
returns-in-Show g c =
    if_ok (HasShown c.args.session.now c.args.self) (IsBehind c.args.session.now (take (c.args.index + 1) c.args.session.now.items)) c.show.result
    (λ new has.
    after_item c.args.session.now c.args.index c.args.self c.requires.session c.requires.behind item.Show new (c.requires.item ∙ ap (λ (x : Item). Some x) c.in-Show.is)
    (show_behind c.args.session.now (take c.args.index c.args.session.now.items) c.args.self new c.requires.behind has))
    c.show.ensures
