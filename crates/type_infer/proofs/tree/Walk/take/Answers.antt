use Rattle.std.proofs.Common.{ap, ◌∙◌}
use Rattle.std.proofs.lemmas.Result.{on_ok_weaker}
use Rattle.edit_table.specs.Lent.{lent_ctor}
use Rattle.grove_sorts.specs.declared.ctor.Ctor.TheVariants.{Num}
use Rattle.type_infer.specs.Rows.{place_list}
use Rattle.type_infer.specs.Positions.{walk_at}
use Rattle.type_infer.proofs.Taking.{taken_listed, taken_places}
use Rattle.type_infer.proofs.Within.{plain_within, pushed_within}
use Rattle.type_infer.proofs.tree.Walk.take.Goals as goal

pub returns-in-At-clause-listed : goal.returns-in-At-clause-listed
returns-in-At-clause-listed c =
    on_ok_weaker c.take_form.result
    (λ listed firsts line same first. taken_listed _ c.in-Vertex.vertex c.in-At.ctor.now (place_list c.args.at) c.args.x c.in-Vertex.ensures (ap lent_ctor c.in-At.is) firsts line same first
    c.args.self.now.list.equations c.take_form.new.self.list.equations c.args.self.now.scope listed) c.take_form.ensures.listed

pub returns-in-At-clause-places : goal.returns-in-At-clause-places
returns-in-At-clause-places c =
    on_ok_weaker c.take_form.result
    (λ pushed firsts line same first. taken_places _ c.in-Vertex.vertex c.in-At.ctor.now (place_list c.args.at) c.args.x c.in-Vertex.ensures (ap lent_ctor c.in-At.is) firsts line same first
    (walk_at c.args.self.now) (walk_at c.take_form.new.self) pushed) c.take_form.ensures.places

pub returns-in-Literal-clause-listed : goal.returns-in-Literal-clause-listed
returns-in-Literal-clause-listed c =
    on_ok_weaker c.take_form-in-Literal.result
    (λ listed firsts line same first. taken_listed _ c.in-Vertex.vertex (Num c.in-Literal.number) (place_list c.args.at) c.args.x c.in-Vertex.ensures (ap lent_ctor c.in-Literal.is) firsts line same first
    c.args.self.now.list.equations c.take_form-in-Literal.new.self.list.equations c.args.self.now.scope listed) c.take_form-in-Literal.ensures.listed

pub returns-in-Literal-clause-places : goal.returns-in-Literal-clause-places
returns-in-Literal-clause-places c =
    on_ok_weaker c.take_form-in-Literal.result
    (λ pushed firsts line same first. taken_places _ c.in-Vertex.vertex (Num c.in-Literal.number) (place_list c.args.at) c.args.x c.in-Vertex.ensures (ap lent_ctor c.in-Literal.is) firsts line same first
    (walk_at c.args.self.now) (walk_at c.take_form-in-Literal.new.self) pushed) c.take_form-in-Literal.ensures.places

pub returns-in-Conflict-clause-within : goal.returns-in-Conflict-clause-within
returns-in-Conflict-clause-within c =
    on_ok_weaker c.push_plain.result
    (λ pushed. record {
      list = c.requires.within.list;
      places = pushed_within c.args.self.now.list.variables c.args.self.now.places.items c.push_plain.new.places.items _ pushed (plain_within c.args.self.now.list.variables _) c.requires.within.places;
      names = c.requires.within.names;
    }) c.push_plain.ensures
