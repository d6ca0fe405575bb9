-- The print text of a graph of edits, and of replicas one after the other.
use Rattle.std.proofs.Common.{◌≡◌, ℕ, zero, suc, ◌+◌, ◌<◌, ◌≤◌, true, false, IsTrue, List, [], ◌∷◌, ◌++◌, length, get_or, take, refl, sym, ap, subst, ◌∙◌, arith}
use Rattle.std.proofs.lemmas.List.{take_all, take_more}
use Rattle.grove_edits.specs.declared.edit.Edit.{Edit}
use Rattle.grove_edits.specs.Graph.{graph}
use Rattle.grove_terms.proofs.OneGrove.{some_grove}
use Rattle.marking.proofs.OneMarking.{some_marking, sorted_grove}
use Rattle.grove_printer.specs.Print.{print_text}
use Rattle.grove_answers.specs.Texts.{IsPrintText}
use Rattle.grove_answers.proofs.SameGraph.{one_print_text}
use Rattle.replica_core.specs.Content.{Content}
use Rattle.session_answers.specs.Summarizing.{AllPrint, PrintAlike}

pub some_print_text : (edits : List Edit) → (text : List ℕ) × IsPrintText (graph edits) text
some_print_text edits =
    let grove = some_grove edits in
    let marked = some_marking grove.0 (sorted_grove edits grove.0 grove.1) in
    (print_text marked.0, record { grove = grove.0; marked = marked.0; is_grove = grove.1; is_marked = marked.1; written = refl })

abbrev pub Prints : List ℕ → Content → Type 0
Prints text replica = IsPrintText (graph replica.edits) text

-- what is told of one text of a graph is told of each
pub told_of_each : (edits : List Edit) (a b : List ℕ) (P : List ℕ → Type 0) → IsPrintText (graph edits) a → IsPrintText (graph edits) b → P a → P b
told_of_each edits a b P is_a is_b = subst P (one_print_text (graph edits) a b is_a is_b)

-- ---- one after the other

all_behind : (text : List ℕ) (replicas : List Content) (one : Content) → AllPrint text replicas → Prints text one → AllPrint text (replicas ++ one ∷ [])
all_behind text [] one all is = (is, tt)
all_behind text (x ∷ xs) one all is = (all.0, all_behind text xs one all.1 is)

pub all_next : (text : List ℕ) (replicas : List Content) (i : ℕ) (one : Content) → i < length replicas → one ≡ get_or replicas i one → AllPrint text (take i replicas) → Prints text one → AllPrint text (take (i + 1) replicas)
all_next text replicas i one lt is all prints =
    subst (AllPrint text) (sym (take_more replicas i one lt ∙ ap (λ (x : Content). take i replicas ++ x ∷ []) (sym is))) (all_behind text (take i replicas) one all prints)

prints_at : (text : List ℕ) (replicas : List Content) (i : ℕ) (one : Content) → i < length replicas → one ≡ get_or replicas i one → AllPrint text replicas → Prints text one
prints_at text [] i one lt is all = absurd (omega (arith, lt))
prints_at text (x ∷ xs) zero one lt is all = subst (Prints text) (sym is) all.0
prints_at text (x ∷ xs) (suc i) one lt is all = prints_at text xs i one (omega (arith, lt)) is all.1

-- all print what the first prints
pub alike : (first : Content) (others : List Content) (i : ℕ) → length others ≤ i → ((text : List ℕ) → Prints text first → AllPrint text (take i others)) → PrintAlike first others true
alike first others i all each =
    let some = some_print_text first.edits in
    record { text = some.0; is_text = some.1; alike = (λ _. subst (AllPrint some.0) (take_all i others all) (each some.0 some.1), λ _. refl) }

-- one does not
pub not_alike : (first : Content) (others : List Content) (i : ℕ) (one : Content) → i < length others → one ≡ get_or others i one → ((text : List ℕ) → Prints text first → Prints text one → IsTrue false)
    → PrintAlike first others false
not_alike first others i one lt is other =
    let some = some_print_text first.edits in
    record { text = some.0; is_text = some.1; alike = (λ no. absurd cc, λ all. other some.0 some.1 (prints_at some.0 others i one lt is all)) }
