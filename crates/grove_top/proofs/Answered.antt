-- What questions make of graphs that are the same.
use Rattle.std.proofs.Common.{◌≡◌, ◌≢◌, ℕ, List, ◌++◌, refl, sym, ap, ◌∙◌}
use Rattle.grove_sorts.specs.declared.version.Version.{Version}
use Rattle.grove_edits.specs.declared.edit.Edit.{Edit}
use Rattle.grove_edits.specs.Graph.{Graph, graph, IsSame}
use Rattle.edit_text.specs.Whole.{header}
use Rattle.grove_answers.proofs.SameGraph.{canonical_along, printed_along, checked_along, one_canonical_text, one_print_text, one_check_text}
use Rattle.grove_top.specs.declared.command.Question.{Question}
use Rattle.grove_top.specs.declared.command.Question.TheVariants.{Merge, Show, Check}
use Rattle.grove_top.specs.Due.{IsMergeText, IsAnswerOf, IsAnswered}
use Rattle.grove_calls.specs.Spelled.{IsListOf}

merged_along : (version : Version) (g h : Graph) (answer : List ℕ) → IsSame g h → IsMergeText version g answer → IsMergeText version h answer
merged_along version g h answer same m = record { canonical = m.canonical; is_canonical = canonical_along g h m.canonical same m.is_canonical; written = m.written }

one_merge_text : (version : Version) (g : Graph) (x y : List ℕ) → IsMergeText version g x → IsMergeText version g y → x ≡ y
one_merge_text version g x y a b =
    a.written ∙ ap (λ (text : List ℕ). header version ++ text) (one_canonical_text g a.canonical b.canonical a.is_canonical b.is_canonical) ∙ sym b.written

pub answer_along : (question : Question) (version : Version) (g h : Graph) (answer : List ℕ) → IsSame g h → IsAnswerOf question version g answer → IsAnswerOf question version h answer
answer_along Merge version g h answer = merged_along version g h answer
answer_along Show version g h answer = printed_along g h answer
answer_along Check version g h answer = checked_along g h answer

pub one_answer_of : (question : Question) (version : Version) (g : Graph) (x y : List ℕ) → IsAnswerOf question version g x → IsAnswerOf question version g y → x ≡ y
one_answer_of Merge version g x y = one_merge_text version g x y
one_answer_of Show version g x y = one_print_text g x y
one_answer_of Check version g x y = one_check_text g x y

-- the version shows in the text of `merge` alone
pub any_version : (question : Question) (v w : Version) (g : Graph) (answer : List ℕ) → question ≢ Merge → IsAnswerOf question v g answer → IsAnswerOf question w g answer
any_version Merge v w g answer not_merge is = absurd (not_merge refl)
any_version Show v w g answer not_merge is = is
any_version Check v w g answer not_merge is = is

-- the answer of the canonical list of a text is that of the text
pub answer_told : (question : Question) (text answer : List ℕ) (list : List Edit) (of_text : IsListOf text list) → IsAnswerOf question of_text.version (graph list) answer → IsAnswered question text answer
answer_told question text answer list of_text is = record {
  version = of_text.version;
  edits = of_text.edits;
  spelled = of_text.spelled;
  answered = answer_along question of_text.version (graph list) (graph of_text.edits) answer of_text.canonical.same is;
}
