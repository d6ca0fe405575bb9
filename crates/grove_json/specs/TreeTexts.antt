-- Inner model, which no public contract cites: the texts of the trees of each list.
use Rattle.std.specs.Prelude.{ℕ, List, [], ◌∷◌, ◌++◌}
use Rattle.serde_json.specs.Written.{compact_text}
use Rattle.marking.specs.Marking.{MarkedNode}
use Rattle.grove_printer.specs.declared.section.Section.{Section}
use Rattle.grove_printer.specs.declared.section.Section.TheVariants.{NoParent, Multi, Cycle}
use Rattle.grove_json.specs.GroveValue.{tree_value}

-- the text of each list so far, and the list whose trees come
pub record Texts : Type 0 where
  pub section : Section
  pub none : List ℕ
  pub multi : List ℕ
  pub cycle : List ℕ

-- a comma and the text, for each tree
abbrev pub listed : List (List MarkedNode) → List ℕ
listed [] = []
listed (t ∷ ts) = 44 ∷ (compact_text (tree_value t) ++ listed ts)

abbrev pub with_section : Section → Texts → Texts
with_section section texts = record texts { section = section }

abbrev pub with_text : Section → List ℕ → Texts → Texts
with_text NoParent more texts = record texts { none = texts.none ++ more }
with_text Multi more texts = record texts { multi = texts.multi ++ more }
with_text Cycle more texts = record texts { cycle = texts.cycle ++ more }

-- with more trees of the list that comes
abbrev pub with_trees : List (List MarkedNode) → Texts → Texts
with_trees trees texts = with_text texts.section (listed trees) texts
