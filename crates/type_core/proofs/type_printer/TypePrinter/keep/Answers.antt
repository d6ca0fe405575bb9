use Rattle.std.proofs.Common.{subst, sym, ap, ◌∙◌, arith, ◌≡◌, length}
use Rattle.type_core.specs.declared.type_printer.TheConstants.{KEPT_LEVELS}
use Rattle.type_core.specs.TypeTexts.{AreKept}
use Rattle.type_core.specs.Typ.{type_text}
use Rattle.type_core.specs.TypeTable.{type_at}
use Rattle.type_core.proofs.TypeTextLemmas.{AreKept-longer, AreKept-put}
use Rattle.type_core.proofs.type_printer.TypePrinter.keep.Goals as goal

pub invariant_of-self : goal.invariant_of-self
invariant_of-self c =
    subst (AreKept c.self.inside.types.now c.self.inside.places.entries) (sym c.in_err-extend_from_slice.ensures.items) c.self.invariant

pub invariant_of-self-in_err-insert : goal.invariant_of-self-in_err-insert
invariant_of-self-in_err-insert c =
    AreKept-longer c.self.inside.types.now c.self.inside.texts.items c.extend_from_slice.new.self.items c.args.text.now c.in_ok-extend_from_slice.ensures.items c.self.inside.places.entries
    c.insert.new.self.entries c.in_err-insert.ensures.err c.self.invariant

pub invariant_of-self-2 : goal.invariant_of-self-2
invariant_of-self-2 c =
    let starts : c.len-start.result ≡ length c.self.inside.texts.items = omega (arith, c.len-start.ensures, c.self.inside.texts.ok.0) in
    let ends : c.len-end.result ≡ length c.extend_from_slice.new.self.items = omega (arith, c.len-end.ensures, c.extend_from_slice.new.self.ok.0) in
    AreKept-put c.self.inside.types.now c.self.inside.texts.items c.extend_from_slice.new.self.items c.args.text.now c.in_ok-extend_from_slice.ensures.items c.self.inside.places.entries
    c.insert.new.self.entries c.args.t _ starts ends (c.requires ∙ ap (λ table. type_text KEPT_LEVELS (type_at table c.args.t)) (sym c.self.view_is)) c.in_ok-insert.ensures.updates.0 c.self.invariant
