-- What a walk over all nodes of a tree knows.
use Rattle.std.proofs.Common.{◌≡◌, ◌↔◌, Bool, true, false, List, [], ◌∷◌, None, refl, sym, ap, subst, ◌∙◌}
use Rattle.std.specs.Prelude.{not, IsTrue}
use Rattle.grove_edits.specs.declared.vertex.Vertex.{Vertex}
use Rattle.grove_terms.specs.declared.node.Node.{Node}
use Rattle.grove_terms.specs.Forest.{Forest, IsWellSorted}
use Rattle.grove_terms.specs.Nodes.{tree_nodes}
use Rattle.type_core.specs.Typ.{Typ}
use Rattle.ctx_table.specs.Context.{Context}
use Rattle.marking.specs.Marking.{HasNoMark, marked_tree}
use Rattle.grove_terms.specs.Sorted.{IsSortedTree}
use Rattle.judging.specs.Machine.{State, at, step, run}
use Rattle.judging.specs.Frames.{frames_at}
use Rattle.judging.proofs.Running.{tree_marked}
use Rattle.plain_typing.specs.declared.walking.Walk.{Walk}
use Rattle.plain_typing.specs.Typed.{IsTypedTree}
use Rattle.plain_typing.specs.Walking.{StandsFor}
use Rattle.plain_typing.proofs.Typings.{typed_is_clean}

-- the walk has come to what taking some nodes gives, and these are left
pub record HasCome (types : List Typ) (ctxs : List Context) (walk : Walk) (nodes left : List Node) : Type 0 where
  pub so_far : State
  pub stands : StandsFor types ctxs None walk so_far
  pub to_come : run so_far left ≡ run (at [] []) nodes

pub come_first : (types : List Typ) (ctxs : List Context) (walk : Walk) (nodes : List Node) → walk.frames.items ≡ [] → walk.has_mark ≡ false → HasCome types ctxs walk nodes nodes
come_first types ctxs walk nodes frames mark = record {
  so_far = at [] [];
  stands = record { frames = []; nodes = []; open_here = sym frames; comes_to = refl; unsettled = tt; noted = (λ h. tt, λ h. mark) };
  to_come = refl;
}

pub come_further : (old new : List Typ) (oldc newc : List Context) (walk after : Walk) (nodes left rest : List Node) (n : Node)
    → ((s : State) → StandsFor old oldc None walk s → StandsFor new newc None after (step s n)) → left ≡ n ∷ rest → HasCome old oldc walk nodes left → HasCome new newc after nodes rest
come_further old new oldc newc walk after nodes left rest n takes is come = record {
  so_far = step come.so_far n;
  stands = takes come.so_far come.stands;
  to_come = ap (run come.so_far) (sym is) ∙ come.to_come;
}

not_true : (b : Bool) (Clean : Type 0) → ((b ≡ false) ↔ Clean) → IsTrue (not b) ↔ Clean
not_true true Clean noted = (λ h. absurd cc, λ h. absurd (true_is_false (noted.1 h))) where
  true_is_false : true ≡ false → ⊥
  true_is_false e = cc
not_true false Clean noted = (λ h. noted.0 refl, λ h. refl)

-- at the end it has met no mark exactly where the tree is typed
pub come_to_end : (types : List Typ) (ctxs : List Context) (walk : Walk) (tree nodes left : List Node) → IsSortedTree tree → nodes ≡ tree → left ≡ [] → HasCome types ctxs walk nodes left
    → IsTrue (not walk.has_mark) ↔ IsTypedTree tree
come_to_end types ctxs walk tree nodes left sorted same none_left come =
    let stands = come.stands in
    let whole : at (frames_at types ctxs stands.frames) stands.nodes ≡ run (at [] []) nodes = stands.comes_to ∙ ap (run come.so_far) (sym none_left) ∙ come.to_come in
    let marked : (v : Vertex) (f : Forest) → IsWellSorted v f → tree ≡ tree_nodes v f → stands.nodes ≡ marked_tree v f =
    λ v f well listed. ap (λ (s : State). s.out) (whole ∙ ap (run (at [] [])) (same ∙ listed) ∙ tree_marked v f well) in
    let clean = not_true walk.has_mark (HasNoMark stands.nodes) stands.noted in (
      λ h. record {
        head = sorted.head;
        forest = sorted.forest;
        well_sorted = sorted.well_sorted;
        listed = sorted.listed;
        typed = (typed_is_clean sorted.head sorted.forest sorted.well_sorted).1 (subst HasNoMark (marked sorted.head sorted.forest sorted.well_sorted sorted.listed) (clean.0 h));
      },
      λ typed. clean.1 (subst HasNoMark (sym (marked typed.head typed.forest typed.well_sorted typed.listed)) ((typed_is_clean typed.head typed.forest typed.well_sorted).0 typed.typed)),
    )
