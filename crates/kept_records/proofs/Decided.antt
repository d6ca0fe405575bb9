-- Records, and what is demanded, are the same or not.
use Rattle.std.proofs.Common.{◌≡◌, ◌⊎◌, inl, inr, Bool, true, false, List, [], ◌∷◌, refl, sym, ap, ◌∙◌}
use Rattle.std.specs.Prelude.{Option, Some, None}
use Rattle.grove_sorts.specs.declared.ident.Ident.{Ident}
use Rattle.grove_edits.specs.declared.edge.Edge.{Edge}
use Rattle.grove_edits.specs.Graph.{is_same_edge}
use Rattle.graph_words.specs.declared.class.Class.{Class}
use Rattle.grove_edits.proofs.Orders.{one_edge}
use Rattle.grove_terms.proofs.InLive.{same_edge_itself}
use Rattle.type_core.specs.declared.former.Former.{Former}
use Rattle.type_core.specs.declared.former.Former.TheVariants.{Arrow, Product, Sum}
use Rattle.type_core.specs.Typ.{Typ, Unknown, Num, Boolean, Pair}
use Rattle.ctx_table.specs.Context.{is_same_name}
use Rattle.ctx_table.proofs.ContextLemmas.{is_same_name-same, same_name_is_same}
use Rattle.mark_step.specs.declared.node.Mark.{Mark}
use Rattle.mark_step.specs.declared.node.Mark.TheVariants as mark
use Rattle.mark_step.specs.Scope.{Scope}
use Rattle.mark_step.specs.Expression.{Wanted, Synthesise, Analyse, Demanded}
use Rattle.kept_records.specs.Kept.{Kept}
use Rattle.kept_records.proofs.Apart.{class_or}

abbrev pub AreSameOrNot : {X : Type 0} → X → X → Type 0
AreSameOrNot a b = (a ≡ b) ⊎ (a ≡ b → ⊥)

former_or : (a b : Former) → AreSameOrNot a b
former_or Arrow Arrow = inl refl
former_or Product Product = inl refl
former_or Sum Sum = inl refl
former_or a b = inr (λ e. cc)

pair_parts : (f g : Former) (a b c d : Typ) → Pair f a b ≡ Pair g c d → (f ≡ g) × (a ≡ c) × (b ≡ d)
pair_parts f g a b c d e = (cc, cc, cc)

typ_or : (a b : Typ) → AreSameOrNot a b
typ_or Unknown Unknown = inl refl
typ_or Unknown Num = inr (λ e. cc)
typ_or Unknown Boolean = inr (λ e. cc)
typ_or Unknown (Pair g c d) = inr (λ e. cc)
typ_or Num Unknown = inr (λ e. cc)
typ_or Num Num = inl refl
typ_or Num Boolean = inr (λ e. cc)
typ_or Num (Pair g c d) = inr (λ e. cc)
typ_or Boolean Unknown = inr (λ e. cc)
typ_or Boolean Num = inr (λ e. cc)
typ_or Boolean Boolean = inl refl
typ_or Boolean (Pair g c d) = inr (λ e. cc)
typ_or (Pair f a b) Unknown = inr (λ e. cc)
typ_or (Pair f a b) Num = inr (λ e. cc)
typ_or (Pair f a b) Boolean = inr (λ e. cc)
typ_or (Pair f a b) (Pair g c d) = by_parts (former_or f g) (typ_or a c) (typ_or b d) where
  by_parts : AreSameOrNot f g → AreSameOrNot a c → AreSameOrNot b d → AreSameOrNot (Pair f a b) (Pair g c d)
  by_parts (inl x) (inl y) (inl z) = inl (ap (λ h. Pair h a b) x ∙ ap (λ t. Pair g t b) y ∙ ap (Pair g c) z)
  by_parts (inr x) y z = inr (λ e. x (pair_parts f g a b c d e).0)
  by_parts (inl x) (inr y) z = inr (λ e. y (pair_parts f g a b c d e).1)
  by_parts (inl x) (inl y) (inr z) = inr (λ e. z (pair_parts f g a b c d e).2)

some_parts : {X : Type 0} (a b : X) → Some a ≡ Some b → a ≡ b
some_parts a b e = cc

pub option_or : {X : Type 0} → ((a b : X) → AreSameOrNot a b) → (a b : Option X) → AreSameOrNot a b
option_or or None None = inl refl
option_or or None (Some b) = inr (λ e. cc)
option_or or (Some a) None = inr (λ e. cc)
option_or or (Some a) (Some b) = by_parts (or a b) where
  by_parts : AreSameOrNot a b → AreSameOrNot (Some a) (Some b)
  by_parts (inl x) = inl (ap Some x)
  by_parts (inr x) = inr (λ e. x (some_parts a b e))

analyse_parts : (s t : Typ) → Analyse s ≡ Analyse t → s ≡ t
analyse_parts s t e = cc

wanted_or : (a b : Wanted) → AreSameOrNot a b
wanted_or Synthesise Synthesise = inl refl
wanted_or Synthesise (Analyse t) = inr (λ e. cc)
wanted_or (Analyse s) Synthesise = inr (λ e. cc)
wanted_or (Analyse s) (Analyse t) = by_parts (typ_or s t) where
  by_parts : AreSameOrNot s t → AreSameOrNot (Analyse s) (Analyse t)
  by_parts (inl x) = inl (ap Analyse x)
  by_parts (inr x) = inr (λ e. x (analyse_parts s t e))

cons_parts : {X : Type 0} (x y : X) (xs ys : List X) → x ∷ xs ≡ y ∷ ys → (x ≡ y) × (xs ≡ ys)
cons_parts x y xs ys e = (cc, cc)

pub list_or : {X : Type 0} → ((a b : X) → AreSameOrNot a b) → (a b : List X) → AreSameOrNot a b
list_or or [] [] = inl refl
list_or or [] (y ∷ ys) = inr (λ e. cc)
list_or or (x ∷ xs) [] = inr (λ e. cc)
list_or or (x ∷ xs) (y ∷ ys) = by_parts (or x y) (list_or or xs ys) where
  by_parts : AreSameOrNot x y → AreSameOrNot xs ys → AreSameOrNot (x ∷ xs) (y ∷ ys)
  by_parts (inl a) (inl b) = inl (ap (λ z. z ∷ xs) a ∙ ap (λ zs. y ∷ zs) b)
  by_parts (inr a) b = inr (λ e. a (cons_parts x y xs ys e).0)
  by_parts (inl a) (inr b) = inr (λ e. b (cons_parts x y xs ys e).1)

pair_or : {X Y : Type 0} → ((a b : X) → AreSameOrNot a b) → ((a b : Y) → AreSameOrNot a b) → (a b : X × Y) → AreSameOrNot a b
pair_or {X} {Y} or_x or_y a b = by_parts (or_x a.0 b.0) (or_y a.1 b.1) where
  by_parts : AreSameOrNot a.0 b.0 → AreSameOrNot a.1 b.1 → AreSameOrNot a b
  by_parts (inl x) (inl y) = inl (ap (λ (z : X). let p : X × Y = (z, a.1) in p) x ∙ ap (λ (z : Y). let p : X × Y = (b.0, z) in p) y)
  by_parts (inr x) y = inr (λ e. x (ap (λ (p : X × Y). p.0) e))
  by_parts (inl x) (inr y) = inr (λ e. y (ap (λ (p : X × Y). p.1) e))

ident_or : (a b : Ident) → AreSameOrNot a b
ident_or a b = by_test (is_same_name a b) refl where
  by_test : (t : Bool) → is_same_name a b ≡ t → AreSameOrNot a b
  by_test true is = inl (same_name_is_same a b is)
  by_test false other = inr (λ e. let clash : true ≡ false = sym (is_same_name-same a) ∙ ap (is_same_name a) e ∙ other in cc)

pub edge_or : (a b : Edge) → AreSameOrNot a b
edge_or a b = by_test (is_same_edge a b) refl where
  by_test : (t : Bool) → is_same_edge a b ≡ t → AreSameOrNot a b
  by_test true is = inl (one_edge a b is)
  by_test false other = inr (λ e. let clash : true ≡ false = sym (same_edge_itself a) ∙ ap (is_same_edge a) e ∙ other in cc)

scope_or : (a b : Scope) → AreSameOrNot a b
scope_or a b = list_or (pair_or ident_or typ_or) a b

pub demanded_or : (a b : Demanded) → AreSameOrNot a b
demanded_or a b = by_parts (scope_or a.scope b.scope) (wanted_or a.wanted b.wanted) where
  by_parts : AreSameOrNot a.scope b.scope → AreSameOrNot a.wanted b.wanted → AreSameOrNot a b
  by_parts (inl x) (inl y) = inl (ap (λ (s : Scope). let d : Demanded = record { scope = s; wanted = a.wanted } in d) x ∙ ap (λ (w : Wanted). let d : Demanded = record { scope = b.scope; wanted = w } in d) y)
  by_parts (inr x) y = inr (λ e. x (ap (λ (d : Demanded). d.scope) e))
  by_parts (inl x) (inr y) = inr (λ e. y (ap (λ (d : Demanded). d.wanted) e))

mark_or : (a b : Mark) → AreSameOrNot a b
mark_or mark.None mark.None = inl refl
mark_or mark.Free mark.Free = inl refl
mark_or mark.NotArrow mark.NotArrow = inl refl
mark_or mark.NotProduct mark.NotProduct = inl refl
mark_or mark.Branches mark.Branches = inl refl
mark_or mark.LamAgainst mark.LamAgainst = inl refl
mark_or mark.Ascription mark.Ascription = inl refl
mark_or mark.PairAgainst mark.PairAgainst = inl refl
mark_or mark.Inconsistent mark.Inconsistent = inl refl
mark_or mark.NotSum mark.NotSum = inl refl
mark_or mark.InjAgainst mark.InjAgainst = inl refl
mark_or a b = inr (λ e. cc)

pub kept_or : (a b : Kept) → AreSameOrNot a b
kept_or a b = by_parts (scope_or a.scope b.scope) (option_or wanted_or a.wanted b.wanted) (option_or typ_or a.typ b.typ) (mark_or a.mark b.mark) where
  by_parts : AreSameOrNot a.scope b.scope → AreSameOrNot a.wanted b.wanted → AreSameOrNot a.typ b.typ → AreSameOrNot a.mark b.mark → AreSameOrNot a b
  by_parts (inl x) (inl y) (inl z) (inl w) =
      inl (ap (λ (s : Scope). let k : Kept = record { scope = s; wanted = a.wanted; typ = a.typ; mark = a.mark } in k) x
      ∙ ap (λ (o : Option Wanted). let k : Kept = record { scope = b.scope; wanted = o; typ = a.typ; mark = a.mark } in k) y
      ∙ ap (λ (o : Option Typ). let k : Kept = record { scope = b.scope; wanted = b.wanted; typ = o; mark = a.mark } in k) z
      ∙ ap (λ (m : Mark). let k : Kept = record { scope = b.scope; wanted = b.wanted; typ = b.typ; mark = m } in k) w)
  by_parts (inr x) y z w = inr (λ e. x (ap (λ (k : Kept). k.scope) e))
  by_parts (inl x) (inr y) z w = inr (λ e. y (ap (λ (k : Kept). k.wanted) e))
  by_parts (inl x) (inl y) (inr z) w = inr (λ e. z (ap (λ (k : Kept). k.typ) e))
  by_parts (inl x) (inl y) (inl z) (inr w) = inr (λ e. w (ap (λ (k : Kept). k.mark) e))

pub children_or : (a b : List (Edge × Class)) → AreSameOrNot a b
children_or a b = list_or (pair_or edge_or class_or) a b
