-- Worked examples, by computation: a function whose parameter is in conflict, before and after one of the two is cut, and a first edit.
use Rattle.std.proofs.Common.{◌≡◌, inl, inr, true, false, List, [], ◌∷◌, ◌++◌, length, replicate, refl, lit≤}
use Rattle.std.specs.Prelude.{Some}
use Rattle.grove_sorts.specs.declared.ident.Ident.{Ident}
use Rattle.grove_sorts.specs.declared.position.Position.TheVariants.{Main, Param, Body}
use Rattle.grove_sorts.specs.declared.ctor.Ctor.TheVariants.{Lam, Var, PVar, Num}
use Rattle.grove_edits.specs.declared.vertex.Vertex.{Vertex}
use Rattle.grove_edits.specs.declared.edge.Edge.{Edge}
use Rattle.graph_words.specs.declared.class.Class.TheVariants.{NoParent, Inner}
use Rattle.graph_words.specs.Walk.{walk}
use Rattle.grove_edits.specs.Vertex.{root}
use Rattle.grove_terms.specs.Forest.{Forest, none, tree}
use Rattle.grove_terms.specs.Nodes.{tree_nodes}
use Rattle.type_core.specs.Typ.{Unknown}
use Rattle.mark_step.specs.declared.node.Mark.TheVariants as mark
use Rattle.mark_step.specs.Expression.{Synthesise}
use Rattle.kept_records.specs.Kept.{Kept, alone, IsKeptOf}
use Rattle.kept_records.specs.Change.{is_on_walks, near_size}

abbrev named : Ident
named = record {
  bytes = 120 ∷ replicate 63 0;
  len = 1;
  whole = refl;
  short = lit≤ tt;
  spelled = refl;
  padded = refl;
}

abbrev lam : Vertex
lam = record { name = record { author = 1; counter = 1 }; ctor = Lam }

abbrev pattern : Vertex
pattern = record { name = record { author = 1; counter = 3 }; ctor = PVar named }

abbrev other_pattern : Vertex
other_pattern = record { name = record { author = 2; counter = 1 }; ctor = PVar named }

abbrev variable : Vertex
variable = record { name = record { author = 1; counter = 5 }; ctor = Var named }

abbrev to_lam : Edge
to_lam = record { name = record { author = 1; counter = 2 }; source = root; position = Main; target = lam }

abbrev to_pattern : Edge
to_pattern = record { name = record { author = 1; counter = 4 }; source = lam; position = Param; target = pattern }

abbrev to_variable : Edge
to_variable = record { name = record { author = 1; counter = 6 }; source = lam; position = Body; target = variable }

abbrev to_other : Edge
to_other = record { name = record { author = 2; counter = 2 }; source = lam; position = Param; target = other_pattern }

abbrev before : List Edge
before = to_lam ∷ to_pattern ∷ to_variable ∷ to_other ∷ []

abbrev after : List Edge
after = to_lam ∷ to_pattern ∷ to_variable ∷ []

abbrev under_lam_before : Forest
under_lam_before = tree to_pattern none (tree to_other none (tree to_variable none none))

abbrev under_lam_after : Forest
under_lam_after = tree to_pattern none (tree to_variable none none)

abbrev not_bound : Kept
not_bound = record { scope = []; wanted = Some Synthesise; typ = Some Unknown; mark = mark.Free }

abbrev bound : Kept
bound = record { scope = (named, Unknown) ∷ []; wanted = Some Synthesise; typ = Some Unknown; mark = mark.None }

no_parent : NoParent ≡ Inner → ⊥
no_parent e = cc

variable_before : IsKeptOf before variable not_bound
variable_before = record {
  above = lam ∷ root ∷ [];
  forest = none;
  demanded = alone;
  stands = (
    under_lam_before,
    alone,
    (
      tree to_lam under_lam_before none,
      alone,
      (no_parent, record { edges = refl; children = (refl, refl, (refl, refl, tt, (refl, refl, tt, (refl, refl, tt, tt))), tt) }, refl),
      record { edge = to_lam; is_tree = inl (refl, refl); target = refl; demanded = refl },
    ),
    record { edge = to_variable; is_tree = inr (inr (inl (refl, refl))); target = refl; demanded = refl },
  );
  is = refl;
}

variable_after : IsKeptOf after variable bound
variable_after = record {
  above = lam ∷ root ∷ [];
  forest = none;
  demanded = record { scope = (named, Unknown) ∷ []; wanted = Synthesise };
  stands = (
    under_lam_after,
    alone,
    (
      tree to_lam under_lam_after none,
      alone,
      (no_parent, record { edges = refl; children = (refl, refl, (refl, refl, tt, (refl, refl, tt, tt)), tt) }, refl),
      record { edge = to_lam; is_tree = inl (refl, refl); target = refl; demanded = refl },
    ),
    record { edge = to_variable; is_tree = inr (inl (refl, refl)); target = refl; demanded = refl },
  );
  is = refl;
}

-- the variable stands on none of the walks: it is near the cut by its record alone
variable_off : is_on_walks to_other before after variable ≡ false
variable_off = refl

lam_on : is_on_walks to_other before after lam ≡ true
lam_on = refl

other_on : is_on_walks to_other before after other_pattern ≡ true
other_on = refl

-- ---- a first edit

abbrev seven : Vertex
seven = record { name = record { author = 1; counter = 1 }; ctor = Num 7 }

abbrev to_seven : Edge
to_seven = record { name = record { author = 1; counter = 2 }; source = root; position = Main; target = seven }

first_size : near_size [] (to_seven ∷ []) (root ∷ seven ∷ []) ≡ 3
first_size = refl

first_walks : (walk [] root ++ walk [] seven ++ walk (to_seven ∷ []) root ++ walk (to_seven ∷ []) seven) ≡ root ∷ seven ∷ root ∷ seven ∷ root ∷ []
first_walks = refl

first_touched : length (tree_nodes root none ++ tree_nodes root (tree to_seven none none)) ≡ 4
first_touched = refl
