-- Vertices of a graph that head its trees, and the text of all of them.
use Rattle.std.proofs.Common.{◌≡◌, ℕ, List, [], ◌∷◌, ◌++◌, length, refl, sym, ap, subst, ◌∙◌, append_assoc, append-nil, take, Result, Ok, Err, OnOk, OnErr}
use Rattle.std.specs.Prelude.{true}
use Rattle.std.specs.List.{AllByRecursion}
use Rattle.std.proofs.lemmas.Bool.{or_left, or_right}
use Rattle.std.proofs.Math.Seq.{take-append_seam}
use Rattle.grove_edits.specs.declared.vertex.Vertex.{Vertex}
use Rattle.grove_edits.specs.declared.edge.Edge.{Edge}
use Rattle.grove_edits.specs.Graph.{Graph, graph}
use Rattle.grove_edits.specs.Vertex.{is_same_vertex, stands_in}
use Rattle.grove_edits.proofs.Vertices.{same_vertex_itself}
use Rattle.graph_words.specs.declared.class.Class.{Class}
use Rattle.graph_words.specs.declared.class.Class.TheVariants.{Inner, NoParent as NoParentClass, Multi as MultiClass, Cycle as CycleClass}
use Rattle.graph_words.specs.Class.{of_class}
use Rattle.graph_words.specs.Whole.{IsVertexOf, AreVertices, AreLive}
use Rattle.graph_table.specs.Table.{Table, live, IsNumber}
use Rattle.grove_decompose.specs.Trees.{vertices_of}
use Rattle.grove_decompose.proofs.ByNumber.{all_of}
use Rattle.grove_decompose.proofs.Going.{trees_along}
use Rattle.grove_printer.specs.declared.section.Section.{Section}
use Rattle.grove_printer.specs.declared.section.Section.TheVariants.{NoParent, Multi, Cycle}
use Rattle.grove_printer.proofs.Extending.{extends_further}
use Rattle.grove_printer.specs.Print.{Extends, heading, trees_text, print_text}
use Rattle.grove_answers.specs.Program.{IsHead}
use Rattle.grove_answers.specs.Reports.{AreReported, TakesSection, IsReported}
use Rattle.grove_answers.specs.Texts.{IsPrintText}
use Rattle.grove_answers.proofs.Heads.{heads_of_class}
use Rattle.grove_answers.proofs.Written.{section_printed}
use Rattle.kept_printer.specs.Printed.{IsTreeHead, begins, takes}

-- what holds of each vertex that stands in a list
all_standing : (P : Vertex → Type 0) (vs : List Vertex) → ((v : Vertex) → stands_in v vs ≡ true → P v) → AllByRecursion P vs
all_standing P [] all = tt
all_standing P (w ∷ vs) all =
    (all w (or_left (is_same_vertex w w) (stands_in w vs) (same_vertex_itself w)), all_standing P vs (λ v h. all v (or_right (is_same_vertex w v) (stands_in v vs) h)))

both_hold : (table : Table) (ns : List ℕ) → AllByRecursion (IsHead table) ns → AllByRecursion (IsVertexOf (graph table.edits)) (vertices_of table ns) → AllByRecursion (IsTreeHead table) ns
both_hold table [] heads vertices = tt
both_hold table (n ∷ ns) heads vertices = (record { head = heads.0; vertex = vertices.0 }, both_hold table ns heads.1 vertices.1)

-- the vertices of a class that is not Inner
pub tree_heads : (c : Class) (table : Table) (vertices : List Vertex) (ns : List ℕ) → (c ≡ Inner → ⊥) → AreVertices (graph table.edits) vertices → vertices_of table ns ≡ of_class c (live table) vertices
    → AllByRecursion (IsNumber table) ns → AllByRecursion (IsTreeHead table) ns
tree_heads c table vertices ns other are of numbers =
    both_hold table ns (heads_of_class c table vertices ns other of numbers)
    (subst (AllByRecursion (IsVertexOf (graph table.edits))) (sym of) (all_of (IsVertexOf (graph table.edits)) c (live table) vertices (all_standing (IsVertexOf (graph table.edits)) vertices are.no_other)))

-- ---- the trees of the three classes

pub grove_printed : (table : Table) (vertices : List Vertex) (none multi cycle : List ℕ) (before x y after : List ℕ) → AreLive (graph table.edits) (live table) → AreVertices (graph table.edits) vertices
    → vertices_of table none ≡ of_class NoParentClass (live table) vertices → vertices_of table multi ≡ of_class MultiClass (live table) vertices → vertices_of table cycle ≡ of_class CycleClass (live table) vertices
    → AreReported (TakesSection begins takes NoParent) (live table) (vertices_of table none) before x
    → AreReported (TakesSection begins takes Multi) (live table) (vertices_of table multi) x y
    → AreReported (TakesSection begins takes Cycle) (live table) (vertices_of table cycle) y after → IsReported begins takes (graph table.edits) before after
grove_printed table vertices ns ms cs before x y after live_are are of_none of_multi of_cycle none multi cycle = record {
  grove = record { none = none.trees; multi = multi.trees; cycle = cycle.trees };
  marked = record { none = none.marked; multi = multi.marked; cycle = cycle.marked };
  is_grove = record {
    live = live table;
    vertices = vertices;
    are_live = live_are;
    are_vertices = are;
    none = trees_along (live table) _ _ none.trees of_none none.are_trees;
    multi = trees_along (live table) _ _ multi.trees of_multi multi.are_trees;
    cycle = trees_along (live table) _ _ cycle.trees of_cycle cycle.are_trees;
  };
  is_marked = record { none = none.are_marked; multi = multi.are_marked; cycle = cycle.are_marked };
  after_none = x;
  after_multi = y;
  none = none.taken;
  multi = multi.taken;
  cycle = cycle.taken;
}

-- three parts behind a text
three_behind : (old a b c x y z : List ℕ) → x ≡ old ++ a → y ≡ x ++ b → z ≡ y ++ c → z ≡ old ++ (a ++ (b ++ c))
three_behind old a b c x y z is_x is_y is_z =
    is_z ∙ ap (λ (bytes : List ℕ). bytes ++ c) (is_y ∙ ap (λ (bytes : List ℕ). bytes ++ b) is_x)
    ∙ (append_assoc (old ++ a) b c ∙ append_assoc old a (b ++ c))

-- a text behind which the grove of a graph was printed
pub text_appended : (g : Graph) (before after : List ℕ) → IsReported begins takes g before after → (text : List ℕ) × IsPrintText g text × (after ≡ before ++ text)
text_appended g before after reported =
    let x = reported.after_none in
    let y = reported.after_multi in (
      print_text reported.marked,
      record { grove = reported.grove; marked = reported.marked; is_grove = reported.is_grove; is_marked = reported.is_marked; written = refl },
      three_behind before _ _ _ x y after
          (section_printed NoParent reported.grove.none reported.marked.none before reported.none.begun x reported.is_marked.none reported.none.begin reported.none.taken)
          (section_printed Multi reported.grove.multi reported.marked.multi x reported.multi.begun y reported.is_marked.multi reported.multi.begin reported.multi.taken)
          (section_printed Cycle reported.grove.cycle reported.marked.cycle y reported.cycle.begun after reported.is_marked.cycle reported.cycle.begin reported.cycle.taken),
    )

-- ---- a text that was written whole, or not at all

pub written_whole : {T E : Type 0} (g : Graph) (before between after : List ℕ) (written result : Result T E) → result ≡ written → OnOk written (after ≡ between) → OnOk written (IsReported begins takes g before between)
    → OnOk result ((text : List ℕ) × IsPrintText g text × (after ≡ before ++ text))
written_whole g before between after (Ok x) result same whole reported =
    subst (λ r. OnOk r ((text : List ℕ) × IsPrintText g text × (after ≡ before ++ text))) (sym same)
    (subst (λ (bytes : List ℕ). (text : List ℕ) × IsPrintText g text × (bytes ≡ before ++ text)) (sym whole) (text_appended g before between reported))
written_whole g before between after (Err e) result same whole reported = subst (λ r. OnOk r ((text : List ℕ) × IsPrintText g text × (after ≡ before ++ text))) (sym same) tt

pub itself : (bytes : List ℕ) → Extends bytes bytes
itself bytes = ([], sym (append-nil bytes))

-- a text begins with what stood there before a section
pub section_extends : (section : Section) (live : List Edge) (vs : List Vertex) (before after : List ℕ) → AreReported (TakesSection begins takes section) live vs before after → Extends before after
section_extends section live vs before after reported =
    extends_further before reported.taken.begun after (heading section (length reported.trees), reported.taken.begin) (trees_text reported.marked, reported.taken.taken)

-- what was taken off after an error is what was appended
pub taken_off : {T E : Type 0} (before between after : List ℕ) (start : ℕ) (written result : Result T E) → start ≡ length before → result ≡ written → OnErr written (after ≡ take start between) → OnErr written (Extends before between)
    → OnErr result (after ≡ before)
taken_off before between after start (Ok x) result is_start same nothing part = subst (λ r. OnErr r (after ≡ before)) (sym same) tt
taken_off before between after start (Err e) result is_start same nothing part =
    subst (λ r. OnErr r (after ≡ before)) (sym same)
    (nothing ∙ ap (λ n. take n between) is_start ∙ ap (take (length before)) part.1 ∙ take-append_seam before part.0)
