-- One more load.
use Rattle.std.proofs.Common.{◌≡◌, ℕ, zero, suc, ◌+◌, ◌*◌, ◌/◌, ◌%◌, ◌^◌, ◌<◌, List, [], ◌∷◌, ◌++◌, map, slice_get, codes, refl, sym, ap, subst, ◌∙◌, append-nil, add-one, arith, lit<}
use Rattle.std.specs.Prelude.{slice_index_or}
use Rattle.std.specs.List.{flat_map}
use Rattle.std.proofs.lemmas.Grind.{flat_map-append}
use Rattle.std.proofs.lemmas.Nat.{mod_below}
use Rattle.grove_sorts.specs.declared.ident.Ident.{Ident}
use Rattle.grove_sorts.specs.Ident.{ident_bytes}
use Rattle.grove_edits.specs.declared.edit.Edit.{Edit}
use Rattle.grove_edits.specs.Edit.{edit_edge, edit_kind}
use Rattle.edit_text.specs.Line.{spaced, form}
use Rattle.session_script.specs.declared.item.Item.{Item}
use Rattle.session_script.specs.declared.item.Item.TheVariants as item
use Rattle.session_script.specs.Session.{replica_name, item_lines}
use Rattle.session_script.proofs.Kept.{all_push}
use Rattle.session_gen.specs.Generated.{spread, replica_of, group_edits, load_line, load_lines}
use Rattle.session_gen.specs.Items.{AreNamed, IsLoad, AreLoads}

pub no_loads : AreLoads 0 []
no_loads = record { lines = λ replicas named. refl; each = tt }

pub more_loads : (count : ℕ) (items : List Item) (i : Item) → AreLoads count items → ((replicas : List Ident) → AreNamed replicas → item_lines replicas i ≡ load_line count ∷ []) → IsLoad i
    → AreLoads (suc count) (items ++ i ∷ [])
more_loads count items i h line is = record {
  lines = λ replicas named.
      flat_map-append (item_lines replicas) items (i ∷ []) ∙ ap (λ (ls : List (List ℕ)). flat_map (item_lines replicas) items ++ ls) (append-nil (item_lines replicas i))
      ∙ ap (λ (ls : List (List ℕ)). ls ++ item_lines replicas i) (h.lines replicas named) ∙ ap (λ (ls : List (List ℕ)). load_lines count ++ ls) (line replicas named);
  each = all_push IsLoad items i h.each is;
}

pub next_loads : (count : ℕ) (items : List Item) (i : Item) → AreLoads count items → ((replicas : List Ident) → AreNamed replicas → item_lines replicas i ≡ load_line count ∷ []) → IsLoad i
    → AreLoads (count + 1) (items ++ i ∷ [])
next_loads count items i h line is = subst (λ n. AreLoads n (items ++ i ∷ [])) (sym (add-one count)) (more_loads count items i h line is)

pub next_spread : (k state : ℕ) → state ≡ spread k → (1103515245 * state + 12345) % 2147483648 ≡ spread (k + 1)
next_spread k state is = ap (λ s. (1103515245 * s + 12345) % 2147483648) is ∙ ap spread (sym (add-one k))

pub spread_small : (state : ℕ) → (1103515245 * state + 12345) % 2147483648 < 2 ^ 31
spread_small state = mod_below (1103515245 * state + 12345) 2147483648 (lit< tt)

names_injective : (a b c : List ℕ) (rest : List (List ℕ)) → a ∷ b ∷ c ∷ rest ≡ codes "a" ∷ codes "b" ∷ codes "c" ∷ [] → (a ≡ codes "a") × (b ≡ codes "b") × (c ≡ codes "c") × (rest ≡ [])
names_injective a b c rest e = (cc, cc, cc, cc)

-- the name of a replica with a number below three
pub name_of : (replicas : List Ident) (number : ℕ) → AreNamed replicas → number < 3 → replica_name replicas number ≡ replica_of number
name_of [] number named small = absurd cc
name_of (a ∷ []) number named small = absurd cc
name_of (a ∷ b ∷ []) number named small = absurd cc
name_of (a ∷ b ∷ c ∷ rest) zero named small = (names_injective (ident_bytes a) (ident_bytes b) (ident_bytes c) (map ident_bytes rest) named).0
name_of (a ∷ b ∷ c ∷ rest) (suc zero) named small = (names_injective (ident_bytes a) (ident_bytes b) (ident_bytes c) (map ident_bytes rest) named).1
name_of (a ∷ b ∷ c ∷ rest) (suc (suc zero)) named small = (names_injective (ident_bytes a) (ident_bytes b) (ident_bytes c) (map ident_bytes rest) named).2
name_of (a ∷ b ∷ c ∷ rest) (suc (suc (suc n))) named small = absurd (omega arith)

pub load_is : (number state : ℕ) (edit : Edit) → state ≡ spread number → form (edit_kind edit) (edit_edge edit) ≡ slice_index_or (group_edits (number / 10)) (number % 10) []
    → (replicas : List Ident) → AreNamed replicas → item_lines replicas (item.Load ((state / 65536) % 3) edit) ≡ load_line number ∷ []
load_is number state edit is line replicas named =
    ap (λ (name : List ℕ). spaced (codes "load" ∷ name ∷ form (edit_kind edit) (edit_edge edit) ∷ []) ∷ []) (name_of replicas ((state / 65536) % 3) named (mod_below (state / 65536) 3 (lit< tt)))
    ∙ ap (λ (text : List ℕ). spaced (codes "load" ∷ replica_of ((state / 65536) % 3) ∷ text ∷ []) ∷ []) line
    ∙ ap (λ s. spaced (codes "load" ∷ replica_of ((s / 65536) % 3) ∷ slice_index_or (group_edits (number / 10)) (number % 10) [] ∷ []) ∷ []) is
