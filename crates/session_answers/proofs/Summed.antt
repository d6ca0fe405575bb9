-- What the replicas at the end of a session make of its summary is that of the session and its journals.
use Rattle.std.proofs.Common.{◌≡◌, ℕ, zero, suc, ◌+◌, Bool, true, IsTrue, List, [], ◌∷◌, drop, slice_get, Some, refl, sym, ap, subst, ◌∙◌, arith, add-one}
use Rattle.std.specs.List.{AllByRecursion}
use Rattle.std.proofs.lemmas.Option.{slice_get_within}
use Rattle.grove_edits.specs.declared.edit.Edit.{Edit}
use Rattle.grove_edits.specs.Graph.{graph, IsSame}
use Rattle.grove_answers.specs.Texts.{IsPrintText}
use Rattle.grove_answers.proofs.SameGraph.{printed_along, counts_along, one_print_text}
use Rattle.session_script.specs.declared.session.Session.{Session}
use Rattle.replica_core.specs.Canonical.{with_edits}
use Rattle.replica_core.specs.Content.{Content}
use Rattle.session_report.specs.declared.summary.Summary.{Summary}
use Rattle.session_report.specs.Taken.{taken}
use Rattle.session_report.specs.Summary.{Summarizes}
use Rattle.session_answers.specs.declared.running.Running.{Running}
use Rattle.session_answers.specs.Running.{IsBehind}
use Rattle.session_answers.specs.Summarizing.{AllPrint, SummarizesReplicas}
use Rattle.session_answers.proofs.Lists.{some_at}
use Rattle.session_answers.proofs.Planned.{taken_graph}
use Rattle.session_answers.proofs.Behind.{canonical_along}
use Rattle.session_answers.proofs.Items.{of_item}

abbrev Prints : List ℕ → Content → Type 0
Prints text replica = IsPrintText (graph replica.edits) text

-- the graph of a replica's canonical list is that of what it has taken
content_graph : (content : Content) (edits : List Edit) → content.edits ≡ with_edits edits [] → IsSame (graph content.edits) (graph edits)
content_graph content edits is = subst (λ (es : List Edit). IsSame (graph es) (graph edits)) (sym is) (taken_graph edits)

prints_taken : (content : Content) (edits : List Edit) (text : List ℕ) → content.edits ≡ with_edits edits [] → Prints text content → IsPrintText (graph edits) text
prints_taken content edits text is = printed_along (graph content.edits) (graph edits) text (content_graph content edits is)

taken_prints : (content : Content) (edits : List Edit) (text : List ℕ) → content.edits ≡ with_edits edits [] → IsPrintText (graph edits) text → Prints text content
taken_prints content edits text is = printed_along (graph edits) (graph content.edits) text (λ e. sym (content_graph content edits is e))

all_from_each : {A : Type 0} (P : A → Type 0) (xs : List A) → ((number : ℕ) (x : A) → slice_get xs number ≡ Some x → P x) → AllByRecursion P xs
all_from_each P [] each = tt
all_from_each P (x ∷ xs) each = (each 0 x refl, all_from_each P xs (λ number y at. each (suc number) y at))

-- the first replica printed this, and so did the others
all_print : (text : List ℕ) (replicas : List Content) (first : Content) (others : List Content) → replicas ≡ first ∷ others → Prints text first → AllPrint text others → AllByRecursion (Prints text) replicas
all_print text replicas first others are is_first are_others = subst (AllByRecursion (Prints text)) (sym are) (is_first, are_others)

pub summarized : (session : Session) (running : Running) (summary : Summary) → IsBehind session session.items running → SummarizesReplicas session.items running.replicas.items summary
    → Summarizes session running.journals summary
summarized session running summary behind sums =
    let replicas = running.replicas.items in
    let first_at : slice_get replicas 0 ≡ Some sums.first = ap (λ (rs : List Content). slice_get rs 0) sums.are in
    let is_first = behind.replicas.each 0 sums.first first_at in
    let edits = taken running.journals 0 session.items in
    let text = sums.equal.text in
    record {
      canonical = sums.first.edits;
      printed = text;
      is_canonical = canonical_along sums.first edits is_first;
      is_printed = prints_taken sums.first edits text is_first sums.equal.is_text;
      loads = sums.loads;
      live = sums.live;
      deleted = sums.deleted;
      counts = counts_along (graph sums.first.edits) (graph edits) summary.counts (content_graph sums.first edits is_first) sums.counts;
      equal = (
        (λ holds number within.
            let at = some_at replicas number (omega (arith, behind.replicas.all, within)) in
            prints_taken at.0 (taken running.journals number session.items) text (behind.replicas.each number at.0 at.1)
            (of_item (Prints text) replicas number at.0 (all_print text replicas sums.first sums.others sums.are sums.equal.is_text (sums.equal.alike.0 holds)) at.1)),
        (λ all. sums.equal.alike.1
            (all_from_each (Prints text) sums.others
            (λ number other at.
            let is_at : slice_get replicas (suc number) ≡ Some other = ap (λ (rs : List Content). slice_get rs (suc number)) sums.are ∙ at in
            taken_prints other (taken running.journals (suc number) session.items) text (behind.replicas.each (suc number) other is_at)
            (all (suc number) (omega (arith, behind.replicas.all, slice_get_within replicas (suc number) other is_at)))))),
      );
    }

-- ---- all print alike

split_off : (text : List ℕ) (replicas : List Content) (index : ℕ) (next : Content) → slice_get replicas index ≡ Some next
    → AllPrint text (drop index replicas) → Prints text next × AllPrint text (drop (suc index) replicas)
split_off text [] index next at all = absurd cc
split_off text (x ∷ replicas) zero next at all = let same : x ≡ next = cc in (subst (Prints text) same all.0, all.1)
split_off text (x ∷ replicas) (suc index) next at all = split_off text replicas index next at all

put_before : (text : List ℕ) (replicas : List Content) (index : ℕ) (next : Content) → slice_get replicas index ≡ Some next
    → Prints text next → AllPrint text (drop (suc index) replicas) → AllPrint text (drop index replicas)
put_before text [] index next at own all = absurd cc
put_before text (x ∷ replicas) zero next at own all = let same : x ≡ next = cc in (subst (Prints text) (sym same) own, all)
put_before text (x ∷ replicas) (suc index) next at own all = put_before text replicas index next at own all

-- what is left at an index prints the text where the one there does and what is left behind it, and only then
pub next_prints : (text : List ℕ) (replicas : List Content) (index : ℕ) (next : Content) → slice_get replicas index ≡ Some next → AllPrint text (drop index replicas) → Prints text next
next_prints text replicas index next at all = (split_off text replicas index next at all).0

pub rest_prints : (text : List ℕ) (replicas : List Content) (index : ℕ) (next : Content) → slice_get replicas index ≡ Some next → AllPrint text (drop index replicas) → AllPrint text (drop (index + 1) replicas)
rest_prints text replicas index next at all = subst (λ n. AllPrint text (drop n replicas)) (sym (add-one index)) (split_off text replicas index next at all).1

pub next_and_rest : (text : List ℕ) (replicas : List Content) (index : ℕ) (next : Content) → slice_get replicas index ≡ Some next → Prints text next → AllPrint text (drop (index + 1) replicas)
    → AllPrint text (drop index replicas)
next_and_rest text replicas index next at own all = put_before text replicas index next at own (subst (λ n. AllPrint text (drop n replicas)) (add-one index) all)

-- ---- one print text

pub tells_print : (content : Content) (own text : List ℕ) (alike : Bool) → Prints own content → (alike ≡ true → own ≡ text) → (own ≡ text → alike ≡ true) → (IsTrue alike → Prints text content) × (Prints text content → IsTrue alike)
tells_print content own text alike is same tells = (
  (λ holds. subst (λ (t : List ℕ). Prints t content) (same holds) is),
  (λ also. tells (one_print_text (graph content.edits) own text is also)),
)
