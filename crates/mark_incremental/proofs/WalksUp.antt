-- A walk up goes vertex by vertex.
use Rattle.std.proofs.Common.{◌≡◌, ◌+◌, ◌≤◌, Bool, true, false, List, [], ◌∷◌, ◌++◌, length, Option, Some, None, refl, sym, ap, subst, ◌∙◌, append_assoc, append-nil, length-append, arith}
use Rattle.std.specs.Prelude.{◌||◌}
use Rattle.grove_edits.specs.declared.vertex.Vertex.{Vertex}
use Rattle.grove_edits.specs.declared.edge.Edge.{Edge}
use Rattle.grove_edits.specs.Vertex.{is_same_vertex, stands_in}
use Rattle.graph_words.specs.Walk.{above, above_last, GoesOn, IsEnd, IsWalk, walk, walk_on}
use Rattle.graph_words.specs.Class.{is_vertex_of}
use Rattle.graph_words.proofs.Endings.{walk_is, walk_is_one}
use Rattle.graph_words.specs.Cycle.{is_on_cycle}
use Rattle.mark_store.specs.Places.{Places, holds}
use Rattle.mark_incremental.specs.Passing.{IsUpTo}

some_same : (x y : Vertex) → Some x ≡ Some y → x ≡ y
some_same x y is = cc

last_above : (live : List Edge) (front : List Vertex) (at : Vertex) → above_last live (front ++ at ∷ []) ≡ above live at
last_above live [] at = refl
last_above live (x ∷ []) at = refl
last_above live (x ∷ y ∷ front) at = last_above live (y ∷ front) at

go_further : (live : List Edge) (known : List Vertex) (at x : Vertex) → above live at ≡ Some x → stands_in x known ≡ false → (left : List Vertex) → GoesOn live known (above live at) left
    → (rest : List Vertex) × (left ≡ x ∷ rest) × GoesOn live (x ∷ known) (above live x) rest
go_further live known at x up new [] goes = absurd (two_ways (stands_in x known) (subst (IsEnd known) up goes) new) where
  two_ways : (b : Bool) → b ≡ true → b ≡ false → ⊥
  two_ways b is not_it = let clash : true ≡ false = sym is ∙ not_it in cc
go_further live known at x up new (y ∷ ys) goes =
    let one : y ≡ x = some_same y x (sym goes.0 ∙ up) in
    (ys, ap (λ z. z ∷ ys) one, subst (λ (z : Vertex). GoesOn live (z ∷ known) (above live z) ys) one goes.2)

module _ (live : List Edge) (start : Vertex) where
  pub begun : (before passed : Places Bool) → ((v : Vertex) → holds before v ≡ false) → ((v : Vertex) → holds passed v ≡ (is_same_vertex start v || holds before v)) → IsUpTo live start start passed (start ∷ [])
  begun before passed none_yet entered = record {
    known = start ∷ [];
    same = λ v. entered v ∙ ap (λ b. is_same_vertex start v || b) (none_yet v);
    front = [];
    last = refl;
    goes_on = λ later goes. (refl, refl, goes);
    left = walk_on (length live) live (start ∷ []) (above live start);
    whole = refl;
    ends = (walk_is live start).2;
  }

  pub next : (at x : Vertex) (passed grown : Places Bool) (vertices : List Vertex) → IsUpTo live start at passed vertices → above live at ≡ Some x → holds passed x ≡ false
      → ((v : Vertex) → holds grown v ≡ (is_same_vertex x v || holds passed v)) → IsUpTo live start x grown (vertices ++ x ∷ [])
  next at x passed grown vertices is up new entered =
      let further = go_further live is.known at x up (sym (is.same x) ∙ new) is.left is.ends in
      record {
        known = x ∷ is.known;
        same = λ v. entered v ∙ ap (λ b. is_same_vertex x v || b) (is.same v);
        front = vertices;
        last = refl;
        goes_on = λ later goes. subst (IsWalk live start) (sym (append_assoc vertices (x ∷ []) later)) (is.goes_on (x ∷ later) (up, sym (is.same x) ∙ new, goes));
        left = further.0;
        whole = is.whole ∙ ap (λ xs. vertices ++ xs) further.1 ∙ sym (append_assoc vertices (x ∷ []) further.0);
        ends = further.2;
      }

  -- three for each vertex so far is no more than three for each of the walk
  pub ticked : (at : Vertex) (passed : Places Bool) (vertices : List Vertex) → IsUpTo live start at passed vertices → length vertices ≤ length (walk live start)
  ticked at passed vertices is =
      let all : length (walk live start) ≡ length vertices + length is.left = ap length is.whole ∙ length-append vertices is.left in
      omega (arith, all)

  whole : (at : Vertex) (passed : Places Bool) (vertices : List Vertex) → IsUpTo live start at passed vertices → ((known : List Vertex) → ((v : Vertex) → holds passed v ≡ stands_in v known) → IsEnd known (above live at)) → vertices ≡ walk live start
  whole at passed vertices is ends =
      walk_is_one live start vertices (subst (IsWalk live start) (append-nil vertices) (is.goes_on [] (ends is.known is.same)))

  pub ends_at_none : (at : Vertex) (passed : Places Bool) (vertices : List Vertex) → IsUpTo live start at passed vertices → above live at ≡ None → vertices ≡ walk live start
  ends_at_none at passed vertices is up = whole at passed vertices is (λ known same. subst (IsEnd known) (sym up) tt)

  pub ends_at_passed : (at x : Vertex) (passed : Places Bool) (vertices : List Vertex) → IsUpTo live start at passed vertices → above live at ≡ Some x → holds passed x ≡ true → vertices ≡ walk live start
  ends_at_passed at x passed vertices is up there = whole at passed vertices is (λ known same. subst (IsEnd known) (sym up) (sym (same x) ∙ there))

  pub comes_back : (at : Vertex) (passed : Places Bool) (vertices : List Vertex) (o : Option Vertex) → IsUpTo live start at passed vertices → vertices ≡ walk live start → above live at ≡ o → is_on_cycle live start ≡ is_vertex_of start o
  comes_back at passed vertices o is all up =
      ap (λ xs. is_vertex_of start (above_last live xs)) (sym all ∙ is.last) ∙ ap (is_vertex_of start) (last_above live is.front at ∙ up)
