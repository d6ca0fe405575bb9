-- The texts of the trees of each list, once all were taken in.
use Rattle.std.proofs.Common.{◌≡◌, ℕ, List, [], ◌∷◌, ◌++◌, Vec, Global, ap, ◌∙◌}
use Rattle.std.specs.Prelude.{Result, Ok, Err, IfOk}
use Rattle.serde_json.specs.Written.{compact_text}
use Rattle.grove_edits.specs.Graph.{Graph}
use Rattle.grove_terms.specs.declared.grove.Grove.{Grove}
use Rattle.grove_terms.specs.Grove.{IsGrove}
use Rattle.marking.specs.Grove.{MarkedTrees, IsMarkedGrove}
use Rattle.text_parts.specs.declared.no_memory.NoMemory.{NoMemory}
use Rattle.grove_printer.specs.declared.section.Section.TheVariants.{NoParent, Multi, Cycle}
use Rattle.grove_json.specs.GroveValue.{grove_value}
use Rattle.grove_json.specs.JsonText.{IsJsonText}
use Rattle.grove_json.specs.TreeTexts.{Texts, listed, with_section, with_trees}

pub record AreTextsOf (texts : Texts) (marked : MarkedTrees) : Type 0 where
  pub none : texts.none ≡ listed marked.none
  pub multi : texts.multi ≡ listed marked.multi
  pub cycle : texts.cycle ≡ listed marked.cycle

pub texts_reported : (old begun x later y last new : Texts) (marked : MarkedTrees) → old.none ≡ [] → old.multi ≡ [] → old.cycle ≡ []
    → begun ≡ with_section NoParent old → x ≡ with_trees marked.none begun → later ≡ with_section Multi x → y ≡ with_trees marked.multi later
    → last ≡ with_section Cycle y → new ≡ with_trees marked.cycle last → AreTextsOf new marked
texts_reported old begun x later y last new marked no_none no_multi no_cycle is_begun is_x is_later is_y is_last is_new = record {
  none = ap (λ (t : Texts). t.none) whole ∙ ap (λ (xs : List ℕ). xs ++ listed marked.none) no_none;
  multi = ap (λ (t : Texts). t.multi) whole ∙ ap (λ (xs : List ℕ). xs ++ listed marked.multi) no_multi;
  cycle = ap (λ (t : Texts). t.cycle) whole ∙ ap (λ (xs : List ℕ). xs ++ listed marked.cycle) no_cycle;
} where
  whole : new ≡ with_trees marked.cycle (with_section Cycle (with_trees marked.multi (with_section Multi (with_trees marked.none (with_section NoParent old)))))
  whole =
      is_new
      ∙ ap (λ (t : Texts). with_trees marked.cycle t)
      (is_last ∙ ap (λ (t : Texts). with_section Cycle t) (is_y ∙ ap (λ (t : Texts). with_trees marked.multi t) (is_later ∙ ap (λ (t : Texts). with_section Multi t) (is_x ∙ ap (λ (t : Texts). with_trees marked.none t) is_begun))))

pub json_told : (r : Result (Vec ℕ Global) NoMemory) (g : Graph) (grove : Grove) (marked : MarkedTrees) → IsGrove g grove → IsMarkedGrove grove marked
    → IfOk r (λ text. text.items ≡ compact_text (grove_value marked) ++ 10 ∷ []) → IfOk r (λ text. IsJsonText g text.items)
json_told (Ok text) g grove marked is_grove is_marked written = record { grove = grove; marked = marked; is_grove = is_grove; is_marked = is_marked; written = written }
json_told (Err e) g grove marked is_grove is_marked written = written
