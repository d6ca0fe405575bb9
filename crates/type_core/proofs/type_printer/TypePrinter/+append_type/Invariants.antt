use Rattle.type_core.proofs.type_printer.TypePrinter.+append_type.Given as goal

abbrev pub decreases-append_type : goal.decreases-append_type
decreases-append_type l = l.levels
