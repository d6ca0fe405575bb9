use Rattle.std.proofs.Common.{◌≡◌, subst, sym}
use Rattle.graph_words.specs.declared.class.Class.TheVariants.{Inner}
use Rattle.graph_words.specs.Class.{class}
use Rattle.graph_table.specs.Table.{live, vertex_at}
use Rattle.grove_decompose.specs.Trees.{OnlyInner}
use Rattle.grove_decompose.proofs.Noted.{one_more_noted}
use Rattle.grove_decompose.proofs.noted_numbers.NotedNumbers.note.Goals as goal

pub returns-then-number-len : goal.returns-then-number-len
returns-then-number-len c = one_more_noted (λ n. class (live c.args.table.now) (vertex_at c.args.table.now n) ≡ Inner) c.self.inside.marks.items c.args.number c.requires.inner
    (subst (OnlyInner c.args.table.now) (sym c.self.view_is) c.requires.seen)
