-- What an edit of one edge leaves as it was: the edges from other vertices, the parents of other vertices, and their classes.
use Rattle.std.proofs.Common.{◌≡◌, Bool, false, cond, List, [], ◌∷◌, ◌++◌, filter, refl, sym, ap, ◌∙◌}
use Rattle.std.specs.Prelude.{◌&&◌}
use Rattle.grove_sorts.specs.declared.position.Position.{Position}
use Rattle.grove_sorts.specs.declared.sort.Sort.{Sort}
use Rattle.grove_sorts.specs.Ctor.{positions}
use Rattle.grove_edits.specs.declared.vertex.Vertex.{Vertex}
use Rattle.grove_edits.specs.declared.edge.Edge.{Edge}
use Rattle.graph_words.specs.Live.{parents_of, children_of}
use Rattle.grove_edits.specs.Vertex.{is_same_vertex}
use Rattle.grove_sorts.specs.Position.{is_same_position}
use Rattle.graph_words.specs.Walk.{only_source, above}
use Rattle.graph_words.specs.Class.{class, class_by, is_cycle_root}
use Rattle.grove_terms.specs.Forest.{edges_from, edges_under}
use Rattle.kept_records.specs.Change.{HasOneMore, Changes, same, comes, goes}

filter_one_more : (p : Edge → Bool) (e : Edge) (xs ys : List Edge) → p e ≡ false → filter p (xs ++ e ∷ ys) ≡ filter p (xs ++ ys)
filter_one_more p e [] ys fails = ap (λ b. cond b (e ∷ filter p ys) (filter p ys)) fails
filter_one_more p e (x ∷ xs) ys fails = ap (λ rest. cond (p x) (x ∷ rest) rest) (filter_one_more p e xs ys fails)

more_filtered : (p : Edge → Bool) (e : Edge) (less more : List Edge) → HasOneMore e less more → p e ≡ false → filter p less ≡ filter p more
more_filtered p e less more has fails = ap (filter p) has.without ∙ sym (filter_one_more p e has.before has.behind fails) ∙ ap (filter p) (sym has.with_it)

-- of the edges that pass a test which the edge does not pass, all stay
pub change_filtered : (p : Edge → Bool) (e : Edge) (old new : List Edge) → Changes e old new → p e ≡ false → filter p old ≡ filter p new
change_filtered p e old new (same is) fails = ap (filter p) is
change_filtered p e old new (comes has) fails = more_filtered p e old new has fails
change_filtered p e old new (goes has) fails = sym (more_filtered p e new old has fails)

pub change_back : (e : Edge) (old new : List Edge) → Changes e old new → Changes e new old
change_back e old new (same is) = same (sym is)
change_back e old new (comes has) = goes has
change_back e old new (goes has) = comes has

module _ (e : Edge) (old new : List Edge) (change : Changes e old new) where
  pub parents_stay : (v : Vertex) → is_same_vertex e.target v ≡ false → parents_of v old ≡ parents_of v new
  parents_stay v other = change_filtered (λ x. is_same_vertex x.target v) e old new change other

  pub above_stays : (v : Vertex) → is_same_vertex e.target v ≡ false → above old v ≡ above new v
  above_stays v other = ap only_source (parents_stay v other)

  children_stay : (v : Vertex) (p : Position) → is_same_vertex e.source v ≡ false → children_of v p old ≡ children_of v p new
  children_stay v p other =
      change_filtered (λ x. is_same_vertex x.source v && is_same_position x.position p) e old new change (ap (λ b. b && is_same_position e.position p) other)

  from_stay : (v : Vertex) (ps : List (Position × Sort)) → is_same_vertex e.source v ≡ false → edges_from old v ps ≡ edges_from new v ps
  from_stay v [] other = refl
  from_stay v (p ∷ ps) other = ap (λ es. es ++ edges_from old v ps) (children_stay v p.0 other) ∙ ap (λ es. children_of v p.0 new ++ es) (from_stay v ps other)

  pub under_stay : (v : Vertex) → is_same_vertex e.source v ≡ false → edges_under old v ≡ edges_under new v
  under_stay v other = from_stay v (positions v.ctor) other

  -- a vertex that is not the target keeps its class where it stays, or stays no, root of a cycle
  pub class_stays : (v : Vertex) → is_same_vertex e.target v ≡ false → is_cycle_root old v ≡ is_cycle_root new v → class old v ≡ class new v
  class_stays v other stay = ap (λ ps. class_by ps (is_cycle_root old v)) (parents_stay v other) ∙ ap (class_by (parents_of v new)) stay
