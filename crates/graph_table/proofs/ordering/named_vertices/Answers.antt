use Rattle.std.proofs.Common.{ℕ, ◌<◌, ◌+◌, List, length, get_or, take, sym}
use Rattle.std.specs.List.{AllByRecursion}
use Rattle.std.proofs.lemmas.List.{take_more}
use Rattle.std.proofs.lemmas.List.Elements.{All-from_recursion}
use Rattle.graph_table.specs.declared.named_vertex.NamedVertex.{NamedVertex}
use Rattle.graph_table.specs.Table.{IsNumber}
use Rattle.graph_table.specs.Named.{IsNamed}
use Rattle.graph_table.proofs.VertexOrder.{numbers-pushed, named-pushed}
use Rattle.graph_table.proofs.ordering.named_vertices.Goals as goal

number_within : (P : ℕ → Type 0) (numbers : List ℕ) (i : ℕ) → AllByRecursion P numbers → i < length numbers → P (get_or numbers i 0)
number_within P numbers i all lt = All-from_recursion P numbers all i 0 lt

pub lent-requires : goal.lent-requires
lent-requires c = number_within (IsNumber c.args.table.now) c.args.numbers.now c.loop-number.number-index c.requires c.loop-number-test.true

pub loop-number-preserved : goal.loop-number-preserved
loop-number-preserved c =
    let table = c.args.table.now in
    let numbers : List ℕ = c.args.numbers.now in
    let i = c.loop-number.number-index in
    let number = get_or numbers i 0 in
    let named : NamedVertex = record { vertex = c.lent.result; number = number } in
    let is_named : IsNamed table named = record { number = number_within (IsNumber table) numbers i c.requires c.loop-number-test.true; vertex = sym c.lent.ensures } in
    record {
      numbers = numbers-pushed c.loop-number.list.items c.push.new.self.items named (take i numbers) (take (i + 1) numbers) c.in_ok-push.ensures.items
          (take_more numbers i 0 c.loop-number-test.true) c.loop-number.invariant.numbers;
      named = named-pushed table c.loop-number.list.items c.push.new.self.items named is_named c.in_ok-push.ensures.items c.loop-number.invariant.named;
    }
