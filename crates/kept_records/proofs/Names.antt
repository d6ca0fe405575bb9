-- The vertices for which records were made.
use Rattle.std.proofs.Common.{◌≡◌, Bool, true, false, List, [], ◌∷◌, ◌++◌, refl, ap, ◌∙◌}
use Rattle.std.specs.Prelude.{◌||◌}
use Rattle.std.proofs.lemmas.Bool.{or_left, or_right}
use Rattle.grove_edits.specs.declared.vertex.Vertex.{Vertex}
use Rattle.grove_edits.specs.Vertex.{is_same_vertex, stands_in}
use Rattle.grove_edits.proofs.Vertices.{same_vertex_itself}
use Rattle.kept_records.specs.Kept.{Kept}
use Rattle.kept_records.specs.Renewal.{names}

abbrev pub has_name : Vertex → List (Vertex × Kept) → Bool
has_name v made = stands_in v (names made)

pub name_first : (v : Vertex) (m : Vertex × Kept) (ms : List (Vertex × Kept)) → m.0 ≡ v → has_name v (m ∷ ms) ≡ true
name_first v m ms one = or_left (is_same_vertex m.0 v) (has_name v ms) (ap (λ z. is_same_vertex z v) one ∙ same_vertex_itself v)

pub name_later : (v : Vertex) (m : Vertex × Kept) (ms : List (Vertex × Kept)) → has_name v ms ≡ true → has_name v (m ∷ ms) ≡ true
name_later v m ms h = or_right (is_same_vertex m.0 v) (has_name v ms) h

pub name_left : (v : Vertex) (xs ys : List (Vertex × Kept)) → has_name v xs ≡ true → has_name v (xs ++ ys) ≡ true
name_left v [] ys h = absurd cc
name_left v (x ∷ xs) ys h = by_test (is_same_vertex x.0 v) h (name_left v xs ys) where
  by_test : (b : Bool) → (b || has_name v xs) ≡ true → (has_name v xs ≡ true → has_name v (xs ++ ys) ≡ true) → (b || has_name v (xs ++ ys)) ≡ true
  by_test true h later = refl
  by_test false h later = later h

pub name_right : (v : Vertex) (xs ys : List (Vertex × Kept)) → has_name v ys ≡ true → has_name v (xs ++ ys) ≡ true
name_right v [] ys h = h
name_right v (x ∷ xs) ys h = name_later v x (xs ++ ys) (name_right v xs ys h)
