-- What stands above a node, kept outermost first.
use Rattle.std.proofs.Common.{◌≡◌, ◌-◌, ℕ, List, [], ◌∷◌, ◌++◌, map, reverse, take, drop, length, Some, None, refl, sym, ap, subst, ◌∙◌, arith, append-nil, length-drop}
use Rattle.std.specs.Prelude.{Option, option_to_list, MatchOption, IfSome}
use Rattle.std.proofs.lemmas.List.Elements.{All-push}
use Rattle.std.proofs.Math.Seq.{drop-append_seam}
use Rattle.std.proofs.lemmas.List.{take-append-drop, take-map, reverse-append, length-reverse, map-append}
use Rattle.type_core.specs.Typ.{Typ}
use Rattle.marking.specs.Marking.{MarkedNode}
use Rattle.kept_printer.specs.declared.parent.Parent.{Parent}
use Rattle.kept_printer.specs.Above.{Above, wanted_below, up_to, counted, own, above_after}
use Rattle.kept_printer.specs.Parents.{parent_at, parents_at, IsParentOf, AreParentsOf}

-- the innermost first, up to a depth, are the outermost in number
up_to-reverse : (depth : ℕ) (xs : List Above) → up_to depth (reverse xs) ≡ reverse (take depth xs)
up_to-reverse depth xs =
    let seam : reverse xs ≡ reverse (drop depth xs) ++ reverse (take depth xs) = ap reverse (sym (take-append-drop depth xs)) ∙ reverse-append (take depth xs) (drop depth xs) in
    let past : length (reverse xs) - depth ≡ length (reverse (drop depth xs)) = omega (arith, length-reverse xs, length-drop depth xs, length-reverse (drop depth xs)) in
    ap (λ n. drop n (reverse xs)) past ∙ ap (drop (length (reverse (drop depth xs)))) seam ∙ drop-append_seam (reverse (drop depth xs)) (reverse (take depth xs))

pub cut : (types : List Typ) (depth : ℕ) (ps : List Parent) → parents_at types (take depth ps) ≡ up_to depth (parents_at types ps)
cut types depth ps = ap reverse (sym (take-map (parent_at types) depth ps)) ∙ sym (up_to-reverse depth (map (parent_at types) ps))

pub one_more : (types : List Typ) (ps : List Parent) (p : Option Parent) → parents_at types (ps ++ option_to_list p) ≡ map (parent_at types) (option_to_list p) ++ parents_at types ps
one_more types ps None = ap (parents_at types) (append-nil ps)
one_more types ps (Some p) = ap reverse (map-append (parent_at types) ps (p ∷ [])) ∙ reverse-append (map (parent_at types) ps) (parent_at types p ∷ [])

pub wanted_of_last : (types : List Typ) (ps : List Parent) (p : Option Parent) → (p ≡ None → ps ≡ []) → wanted_below (map (parent_at types) (option_to_list p) ++ parents_at types ps) ≡ wanted_below (map (parent_at types) (option_to_list p))
wanted_of_last types ps None empty = ap (λ qs. wanted_below (parents_at types qs)) (empty refl)
wanted_of_last types ps (Some p) empty = refl

counted_last : (types : List Typ) (m : MarkedNode) (ps : List Parent) (p : Option Parent) → (p ≡ None → ps ≡ [])
    → counted m (map (parent_at types) (option_to_list p) ++ parents_at types ps) ≡ counted m (map (parent_at types) (option_to_list p)) ++ parents_at types ps
counted_last types m ps None empty = ap (λ qs. counted m (parents_at types qs)) (empty refl) ∙ ap (parents_at types) (sym (empty refl))
counted_last types m ps (Some p) empty = refl

-- where none is taken off, none is left
pub none_left : (p : Option Parent) (ps all : List Parent) (n : ℕ) (B : Type 0) (K : Parent → Type 0) → MatchOption p ((n ≡ 0) × B) K → ps ≡ take (n - 1) all → p ≡ None → ps ≡ []
none_left p ps all n B K cases rest none = rest ∙ ap (λ k. take (k - 1) all) (subst (λ q. MatchOption q ((n ≡ 0) × B) K) none cases).0

pub all_more : (types : List Typ) (ps : List Parent) (p : Option Parent) → AreParentsOf types ps → IfSome p (IsParentOf types) → AreParentsOf types (ps ++ option_to_list p)
all_more types ps None all is = subst (AreParentsOf types) (sym (append-nil ps)) all
all_more types ps (Some p) all is = All-push (IsParentOf types) ps p all is

-- what stands above the node after m, where p stood above m and below it the others
pub above_then : (types : List Typ) (m : MarkedNode) (left : List Above) (ps : List Parent) (p first then : Option Parent) → (p ≡ None → ps ≡ [])
    → left ≡ map (parent_at types) (option_to_list p) ++ parents_at types ps
    → map (parent_at types) (option_to_list first) ≡ counted m (map (parent_at types) (option_to_list p)) → map (parent_at types) (option_to_list then) ≡ own m.node.what m
    → (once twice : List Parent) → once ≡ ps ++ option_to_list first → twice ≡ once ++ option_to_list then → parents_at types twice ≡ above_after m left
above_then types m left ps p first then empty is_left is_first is_then once twice is_once is_twice =
    let at = parents_at types in
    let one : at once ≡ counted m left =
    ap at is_once ∙ one_more types ps first ∙ ap (λ (xs : List Above). xs ++ at ps) is_first ∙ sym (counted_last types m ps p empty) ∙ ap (counted m) (sym is_left) in
    ap at is_twice ∙ one_more types once then ∙ ap (λ (xs : List Above). xs ++ at once) is_then ∙ ap (λ (xs : List Above). own m.node.what m ++ xs) one
