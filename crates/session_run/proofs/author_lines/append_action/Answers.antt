use Rattle.std.proofs.Common.{List, sym, ap, ◌∙◌, arith}
use Rattle.std.specs.List.{position_from}
use Rattle.std.proofs.Math.Seq.{map-set_same}
use Rattle.grove_edits.specs.declared.action.Action.{Action}
use Rattle.session_run.specs.declared.author_lines.AuthorLines.{AuthorLines}
use Rattle.session_run.proofs.Grouped.{is_of, action_added, no_action_added, place_within}
use Rattle.session_run.proofs.author_lines.append_action.Goals as goal

pub returns-in_default-clause-added : goal.returns-in_default-clause-added
returns-in_default-clause-added c =
    no_action_added c.args.author c.args.action c.args.all.now.items
    (ap (λ (ls : List AuthorLines). position_from (is_of c.args.author) 0 ls) (sym c.deref.ensures.value) ∙ sym c.index_of.ensures ∙ c.in_default.is)

pub index_mut-requires : goal.index_mut-requires
index_mut-requires c =
    let within = place_within c.args.author c.in-Some.index c.deref.result.now (sym c.index_of.ensures ∙ c.in-Some.is) in
    let len = c.deref.ensures.len in
    omega arith

pub returns-clause-added : goal.returns-clause-added
returns-clause-added c =
    let old = c.index_mut.result.now in
    action_added c.args.author c.args.action c.args.all.now.items c.in-Some.index old _ c.requires
    (ap (λ (ls : List AuthorLines). position_from (is_of c.args.author) 0 ls) (sym c.deref.ensures.value) ∙ sym c.index_of.ensures ∙ c.in-Some.is) c.index_mut.ensures.value
    (ap (λ (done : List Action). (old.declared, done)) c.in_ok-push.ensures.items)

pub returns-clause-first_calls : goal.returns-clause-first_calls
returns-clause-first_calls c =
    map-set_same (λ (l : AuthorLines). l.first_call) c.args.all.now.items c.in-Some.index _ c.index_mut.result.now (ap (λ (l : AuthorLines). l.first_call) c.index_mut.ensures.value)
