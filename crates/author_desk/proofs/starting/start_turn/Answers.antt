use Rattle.std.proofs.Common.{◌≡◌, ◌+◌, length, take, true, false, refl, sym, ap, ◌∙◌, subst, arith}
use Rattle.author_desk.specs.Lines.{slots_cut, is_opening_cut}
use Rattle.author_desk.specs.Cuts.{opening_edits, Raises}
use Rattle.author_desk.proofs.FirstTurn.{turn_at, one_turn, cuts_more}
use Rattle.author_desk.proofs.Raising.{still, raises_line}
use Rattle.author_desk.proofs.UnderWay.{starts}
use Rattle.author_desk.proofs.starting.start_turn.Goals as goal

pub loop-index-preserved : goal.loop-index-preserved
loop-index-preserved g c =
    let cuts = c.args.cuts.now in
    let lines = c.args.lines.now in
    let index = c.loop-index.index in
    let line = c.index-lines-index.result in
    let i = c.loop-index.invariant in
    let at = sym c.index-lines-index.is in
    let same = (still cuts c.loop-index.cuts (slots_cut (opening_edits cuts) (take index lines)) c.requires.cuts i.1).1 in
    let yes : c.raise_edges.result ≡ true = c.if-not-raise_edges.false in
    let cut = ap (λ es. is_opening_cut es line) (sym same) ∙ (sym c.raise_edges.ensures.is_cut ∙ yes) in (
      cuts_more (opening_edits cuts) lines index (index + 1) line c.loop-index-test.true refl at i.0 cut,
      raises_line cuts c.loop-index.cuts c.raise_edges.new.cuts lines index line c.requires.cuts c.loop-index-test.true at i.1 c.raise_edges.ensures.raised,
    )

pub returns-then-not-raise_edges-clause-started : goal.returns-then-not-raise_edges-clause-started
returns-then-not-raise_edges-clause-started g c =
    let cuts = c.args.cuts.now in
    let lines = c.args.lines.now in
    let index = c.loop-index.index in
    let line = c.index-lines-index.result in
    let i = c.loop-index.invariant in
    let at = sym c.index-lines-index.is in
    let same = (still cuts c.loop-index.cuts (slots_cut (opening_edits cuts) (take index lines)) c.requires.cuts i.1).1 in
    let no : c.raise_edges.result ≡ false = c.if-not-raise_edges.true in
    let other = ap (λ es. is_opening_cut es line) (sym same) ∙ (sym c.raise_edges.ensures.is_cut ∙ no) in
    starts cuts c.raise_edges.new.cuts lines c.split_at.result.0.now c.split_at.result.1.now (index + 1) c.split_at.ensures.front c.split_at.ensures.back
    (turn_at (opening_edits cuts) lines index (index + 1) line c.loop-index-test.true refl at i.0 other)
    (raises_line cuts c.loop-index.cuts c.raise_edges.new.cuts lines index line c.requires.cuts c.loop-index-test.true at i.1 c.raise_edges.ensures.raised)

pub returns-clause-started : goal.returns-clause-started
returns-clause-started g c =
    let cuts = c.args.cuts.now in
    let lines = c.args.lines.now in
    let i = c.loop-index.invariant in
    let all : c.loop-index.index ≡ length lines = omega arith in
    starts cuts c.loop-index.cuts lines c.split_at-2.result.0.now c.split_at-2.result.1.now (length lines) c.split_at-2.ensures.front c.split_at-2.ensures.back
    (one_turn (opening_edits cuts) lines c.loop-index.index c.requires.some_line c.loop-index-test.false i.0)
    (subst (λ n. Raises cuts c.loop-index.cuts (slots_cut (opening_edits cuts) (take n lines))) all i.1)
