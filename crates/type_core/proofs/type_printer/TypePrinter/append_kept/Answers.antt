use Rattle.std.proofs.Common.{◌≤◌, length, sym, ap, arith, rules}
use Rattle.type_core.specs.TypeTexts.{HasTextOf}
use Rattle.type_core.proofs.type_printer.TypePrinter.append_kept.Goals as goal

kept : (c : goal.After-deref) → HasTextOf c.self.inside.types.now c.self.inside.texts.items c.args.t c.in-Some.place.now
kept c = c.self.invariant c.args.t c.in-Some.place.now (sym c.in-Some.ensures.value)

pub slice_bounds-extend_from_slice-count : goal.slice_bounds-extend_from_slice-count
slice_bounds-extend_from_slice-count c = (kept c).ordered

pub slice_bounds-extend_from_slice-start : goal.slice_bounds-extend_from_slice-start
slice_bounds-extend_from_slice-start c = let ordered = (kept c).ordered in search rules

pub slice_bounds-extend_from_slice-end : goal.slice_bounds-extend_from_slice-end
slice_bounds-extend_from_slice-end c =
    let within = (kept c).within in
    let inside : c.in-Some.place.now.end ≤ length c.deref.result.now = omega (arith, within, ap length c.deref.ensures.value) in
    search rules
