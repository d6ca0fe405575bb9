use Rattle.std.proofs.Common.{◌≡◌, ℕ, List, [], ◌++◌, codes, sym, ap, ◌∙◌, rules}
use Rattle.std.specs.Prelude.{slice_index_or}
use Rattle.grove_sorts.specs.declared.ctor.Ctor.TheVariants.{Plus, Ap, Lam, PVar}
use Rattle.grove_sorts.specs.declared.position.Position.TheVariants.{Left, Param}
use Rattle.grove_edits.specs.declared.edit.EditKind.TheVariants.{Insert}
use Rattle.session_gen.specs.Generated.{edge_name, vertex_name, edit_line, group_edits}
use Rattle.session_gen.specs.Group.{edge_in}
use Rattle.session_gen.proofs.Groups.{line_is}
use Rattle.session_gen.proofs.group.group_edit.Goals as goal

pub returns-in-0-clause-line : goal.returns-in-0-clause-line
returns-in-0-clause-line c =
    let is : c.args.number ≡ 0 = search rules in
    line_is c.inserted.result Insert (edge_in c.args.group 1 1 Plus Left 2 Ap) (slice_index_or (group_edits c.args.group) c.args.number []) c.inserted.ensures.kind c.inserted.ensures.edge
    (ap (λ n. slice_index_or (group_edits c.args.group) n []) (sym is))

pub returns-in-3-clause-line : goal.returns-in-3-clause-line
returns-in-3-clause-line c =
    let g = c.args.group in
    let is : c.args.number ≡ 3 = search rules in
    line_is c.inserted-in-3.result Insert (edge_in g 4 4 Lam Param 5 (PVar c.ident.result)) (slice_index_or (group_edits g) c.args.number []) c.inserted-in-3.ensures.kind c.inserted-in-3.ensures.edge
    (ap (λ (bytes : List ℕ). edit_line 43 (edge_name g 4) (vertex_name g 4) (codes "lam") (codes "param") (vertex_name g 5) (codes "pvar:" ++ bytes)) c.ident.ensures
    ∙ ap (λ n. slice_index_or (group_edits g) n []) (sym is))
