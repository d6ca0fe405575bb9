use Rattle.std.proofs.Common.{◌≡◌, ◌+◌, [], ◌∷◌, ◌++◌, Some, slice_get, ◌∙◌, arith}
use Rattle.grove_edits.specs.declared.command.Command.TheVariants.{Take}
use Rattle.session_run.proofs.Made.{one_made}
use Rattle.session_run.proofs.Taken.{next_is_good, one_taken_more, all_taken}
use Rattle.session_run.proofs.working.run_pieces.Goals as goal

pub take_good-requires : goal.take_good-requires
take_good-requires g c =
    let pieces = c.args.pieces.now in
    let here : slice_get pieces c.loop-index.index ≡ Some c.as_slice-bytes.result.now = cc (c.in-Some.ensures, c.as_slice-bytes.ensures) in
    λ edits stream fed.
    next_is_good pieces c.requires.edits.0 c.loop-index.index c.loop-index.taker.stream stream c.loop-index.invariant.0 c.as_slice-bytes.result.now edits c.requires.edits.1
    c.loop-index.invariant.1 here fed

pub loop-index-preserved : goal.loop-index-preserved
loop-index-preserved g c =
    let pieces = c.args.pieces.now in
    let commands = c.loop-index.invariant.0 in
    let here : slice_get pieces c.loop-index.index ≡ Some c.as_slice-bytes.result.now = cc (c.in-Some.ensures, c.as_slice-bytes.ensures) in
    let bytes : c.of.result ≡ c.as_slice-bytes.result.now = cc (c.of.ensures, c.in_ok-from_slice.ensures.items) in (
      commands ++ Take (c.loop-index.index + 1) c.of.result c.in_ok-edits.edits ∷ [],
      one_taken_more pieces c.loop-index.index c.loop-index.taker.stream c.take_good.new.taker.stream commands c.as_slice-bytes.result.now c.of.result c.in_ok-edits.edits
          c.loop-index.invariant.1 here bytes c.in_ok-edits.ensures,
      one_made c.args.pass.now c.loop-index.pass c.act.new.pass commands (Take (c.loop-index.index + 1) c.of.result c.in_ok-edits.edits) c.in_ok-act.field-0 c.loop-index.invariant.2
          c.in_ok-act.ensures.entered,
    )

pub returns : goal.returns
returns g c =
    let h = c.loop-index.invariant in
    (h.2.calls, h.2.makes, λ edits whole. h.2.are ∙ all_taken c.args.pieces.now edits c.loop-index.index c.loop-index.taker.stream h.0 whole (let end = c.loop-index-test.false in let len = c.len-index-end.ensures in omega arith) h.1)
