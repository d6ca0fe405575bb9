-- Vertices by class, one after the other.
use Rattle.std.proofs.Common.{◌≡◌, Bool, true, false, cond, List, [], ◌∷◌, ◌++◌, refl, sym, ap, ◌∙◌, append_assoc}
use Rattle.grove_edits.specs.declared.vertex.Vertex.{Vertex}
use Rattle.grove_edits.specs.declared.edge.Edge.{Edge}
use Rattle.graph_words.specs.declared.class.Class.{Class}
use Rattle.graph_words.specs.declared.class.Class.TheVariants.{NoParent, Multi}
use Rattle.graph_words.specs.declared.few.Few.{Few}
use Rattle.graph_words.specs.declared.few.Few.TheVariants.{Zero, One, More}
use Rattle.graph_words.specs.Few.{first_two}
use Rattle.graph_words.specs.Live.{parents_of}
use Rattle.graph_words.specs.Class.{class_by, is_cycle_root, class, is_same_class, of_class}

pub passed_by : (c : Class) (live : List Edge) (v : Vertex) (items left rest whole : List Vertex) → left ≡ v ∷ rest → is_same_class (class live v) c ≡ false → items ++ of_class c live left ≡ whole
    → items ++ of_class c live rest ≡ whole
passed_by c live v items left rest whole is other so_far =
    ap (λ (b : Bool). items ++ cond b (v ∷ of_class c live rest) (of_class c live rest)) (sym other) ∙ ap (λ (vs : List Vertex). items ++ of_class c live vs) (sym is) ∙ so_far

pub put_down : (c : Class) (live : List Edge) (v : Vertex) (items more left rest whole : List Vertex) → left ≡ v ∷ rest → is_same_class (class live v) c ≡ true → more ≡ items ++ v ∷ [] → items ++ of_class c live left ≡ whole
    → more ++ of_class c live rest ≡ whole
put_down c live v items more left rest whole is same pushed so_far =
    ap (λ vs. vs ++ of_class c live rest) pushed ∙ append_assoc items (v ∷ []) (of_class c live rest)
    ∙ ap (λ (b : Bool). items ++ cond b (v ∷ of_class c live rest) (of_class c live rest)) (sym same) ∙ ap (λ (vs : List Vertex). items ++ of_class c live vs) (sym is) ∙ so_far

-- what the number of parents tells of the class
pub record Tests (c : Class) (is_none is_multi : Bool) : Type 0 where
  pub none : is_same_class c NoParent ≡ is_none
  pub multi : is_same_class c Multi ≡ is_multi

zero_by : (ps : List Edge) (r : Bool) → first_two ps ≡ Zero → Tests (class_by ps r) true false
zero_by [] r is = record { none = refl; multi = refl }
zero_by (p ∷ []) r is = absurd cc
zero_by (p ∷ q ∷ ps) r is = absurd cc

one_by : (ps : List Edge) (e : Edge) (r : Bool) → first_two ps ≡ One e → Tests (class_by ps r) false false
one_by [] e r is = absurd cc
one_by (p ∷ []) e true is = record { none = refl; multi = refl }
one_by (p ∷ []) e false is = record { none = refl; multi = refl }
one_by (p ∷ q ∷ ps) e r is = absurd cc

more_by : (ps : List Edge) (e f : Edge) (r : Bool) → first_two ps ≡ More e f → Tests (class_by ps r) false true
more_by [] e f r is = absurd cc
more_by (p ∷ []) e f r is = absurd cc
more_by (p ∷ q ∷ ps) e f r is = record { none = refl; multi = refl }

pub tests_zero : (live : List Edge) (v : Vertex) (few : Few) → few ≡ first_two (parents_of v live) → few ≡ Zero → Tests (class live v) true false
tests_zero live v few least is = zero_by (parents_of v live) (is_cycle_root live v) (sym least ∙ is)

pub tests_one : (live : List Edge) (v : Vertex) (few : Few) (e : Edge) → few ≡ first_two (parents_of v live) → few ≡ One e → Tests (class live v) false false
tests_one live v few e least is = one_by (parents_of v live) e (is_cycle_root live v) (sym least ∙ is)

pub tests_more : (live : List Edge) (v : Vertex) (few : Few) (e f : Edge) → few ≡ first_two (parents_of v live) → few ≡ More e f → Tests (class live v) false true
tests_more live v few e f least is = more_by (parents_of v live) e f (is_cycle_root live v) (sym least ∙ is)
