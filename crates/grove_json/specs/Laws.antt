-- What one tree after the other adds to the texts.
use Rattle.std.proofs.Common.{◌≡◌, ℕ, List, [], ◌∷◌, ◌++◌, refl, sym, ap, ◌∙◌, append_assoc, append-nil}
use Rattle.serde_json.specs.Written.{compact_text}
use Rattle.marking.specs.Marking.{MarkedNode}
use Rattle.grove_printer.specs.declared.section.Section.{Section}
use Rattle.grove_printer.specs.declared.section.Section.TheVariants.{NoParent, Multi, Cycle}
use Rattle.grove_json.specs.GroveValue.{tree_value}
use Rattle.grove_json.specs.TreeTexts.{Texts, listed, with_text, with_trees}

listed-append : (a b : List (List MarkedNode)) → listed (a ++ b) ≡ listed a ++ listed b
listed-append [] b = refl
listed-append (t ∷ ts) b = ap (λ (xs : List ℕ). 44 ∷ (compact_text (tree_value t) ++ xs)) (listed-append ts b) ∙ sym (ap (λ (xs : List ℕ). 44 ∷ xs) (append_assoc (compact_text (tree_value t)) (listed ts) (listed b)))

nothing_added : (section : Section) (texts : Texts) → with_text section [] texts ≡ texts
nothing_added NoParent texts = ap (λ (xs : List ℕ). record texts { none = xs }) (append-nil texts.none)
nothing_added Multi texts = ap (λ (xs : List ℕ). record texts { multi = xs }) (append-nil texts.multi)
nothing_added Cycle texts = ap (λ (xs : List ℕ). record texts { cycle = xs }) (append-nil texts.cycle)

added_twice : (section : Section) (a b : List ℕ) (texts : Texts) → with_text section b (with_text section a texts) ≡ with_text section (a ++ b) texts
added_twice NoParent a b texts = ap (λ (xs : List ℕ). record texts { none = xs }) (append_assoc texts.none a b)
added_twice Multi a b texts = ap (λ (xs : List ℕ). record texts { multi = xs }) (append_assoc texts.multi a b)
added_twice Cycle a b texts = ap (λ (xs : List ℕ). record texts { cycle = xs }) (append_assoc texts.cycle a b)

section_stays : (section : Section) (more : List ℕ) (texts : Texts) → (with_text section more texts).section ≡ texts.section
section_stays NoParent more texts = refl
section_stays Multi more texts = refl
section_stays Cycle more texts = refl

pub listed_none : (texts : Texts) → texts ≡ with_trees [] texts
listed_none texts = sym (nothing_added texts.section texts)

pub listed_more : (r s t : Texts) (m n : List (List MarkedNode)) → s ≡ with_trees m r → t ≡ with_trees n s → t ≡ with_trees (m ++ n) r
listed_more r s t m n first then =
    then ∙ ap (with_trees n) first
    ∙ ap (λ section. with_text section (listed n) (with_trees m r)) (section_stays r.section (listed m) r)
    ∙ added_twice r.section (listed m) (listed n) r
    ∙ ap (λ (xs : List ℕ). with_text r.section xs r) (sym (listed-append m n))
