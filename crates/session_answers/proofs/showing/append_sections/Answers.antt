use Rattle.std.proofs.Common.{◌≡◌, ◌++◌, Some, ap, ◌∙◌, append_assoc}
use Rattle.std.specs.List.{zip}
use Rattle.std.specs.Iterator.Adapters.{zip_first, zip_second}
use Rattle.std.specs.Slice.Iter.{iter_rest}
use Rattle.std.proofs.lemmas.Slice.Zip.{Zip-more, either_empty_from_Zip}
use Rattle.session_answers.proofs.Steps.{shown_more, all_shown}
use Rattle.session_answers.proofs.showing.append_sections.Goals as goal

pub loop-name-preserved : goal.loop-name-preserved
loop-name-preserved c =
    let left = c.loop-name.name-iterator in
    let next = c.next.new.self in
    let before = c.loop-name.invariant in
    let own = c.in_ok-append_section.ensures in
    let is : c.next.result ≡ Some (c.in-Some.name, c.in-Some.replica) = c.in-Some.is in
    let more = Zip-more left next c.next.result (c.in-Some.name, c.in-Some.replica) is c.next.ensures.steps in (
      before.0 ++ own.0,
      own.2 ∙ ap (λ t. t ++ own.0) before.1 ∙ append_assoc c.args.out.now.items before.0 own.0,
      shown_more (zip c.args.names.now c.args.replicas.now) (iter_rest (zip_first left)) (iter_rest (zip_first next)) (iter_rest (zip_second left)) (iter_rest (zip_second next))
          c.in-Some.name.now c.in-Some.replica.now before.0 own.0 more.0 more.1 before.2 own.1,
    )

pub returns : goal.returns
returns c =
    let left = c.loop-name.name-iterator in
    let before = c.loop-name.invariant in
    let none = either_empty_from_Zip left c.next.new.self c.next.result c.in-None.is c.next.ensures.steps in (
      before.0,
      all_shown (zip c.args.names.now c.args.replicas.now) (iter_rest (zip_first left)) (iter_rest (zip_second left)) before.0 none before.2,
      before.1,
    )
