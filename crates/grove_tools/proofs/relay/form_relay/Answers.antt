use Rattle.std.proofs.Common.{List, subst}
use Rattle.grove_edits.specs.declared.edit.Edit.{Edit}
use Rattle.grove_tools.specs.Relay.{HasFlowed}
use Rattle.grove_tools.proofs.relay.form_relay.Goals as goal

pub returns-clause-answered : goal.returns-clause-answered
returns-clause-answered g c =
    let formed = c.in_ok-flow.field-0 in
    record {
      lists = c.in_ok-lists.lists.items;
      dealt = c.in_ok-lists.ensures.dealt;
      flowed = subst (λ (ls : List (List Edit)). HasFlowed ls formed.handed formed.text.items) c.deref.ensures.value c.in_ok-flow.ensures;
    }
