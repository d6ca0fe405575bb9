-- One step more of what goes over all replicas.
use Rattle.std.proofs.Common.{◌≡◌, ◌⊎◌, ℕ, suc, ◌+◌, List, [], ◌∷◌, ◌++◌, length, slice_get, Some, refl, sym, ap, subst, ◌∙◌, arith, append_assoc, append-nil}
use Rattle.std.specs.List.{zip}
use Rattle.grove_sorts.specs.declared.ident.Ident.{Ident}
use Rattle.grove_edits.specs.declared.edit.Edit.{Edit}
use Rattle.session_script.specs.declared.item.Block.{Block}
use Rattle.session_script.specs.declared.session.Session.{Session}
use Rattle.session_run.specs.Run.{HasRun}
use Rattle.replica_core.specs.Content.{Content}
use Rattle.replica_core.specs.Step.{effect, reply, after}
use Rattle.session_report.specs.Journal.{Entries}
use Rattle.session_report.specs.Taken.{Journals}
use Rattle.session_report.specs.Report.{IsSection}
use Rattle.session_answers.specs.BlockJournals.{block_journals}
use Rattle.session_report.proofs.Zipped.{zip_cons, zip_none}
use Rattle.session_answers.specs.Opened.{all_listed}
use Rattle.session_answers.specs.Running.{AreShown, HaveRun, stage_of}
use Rattle.session_answers.proofs.Listed.{has_run_by_all}

pub block_journals-more : {M : Type 0} (block replica : ℕ) (more : List (Entries M)) (last : Entries M)
    → block_journals block replica (more ++ last ∷ []) ≡ block_journals block replica more ++ record { block = block; replica = replica + length more; journal = last } ∷ []
block_journals-more block replica [] last = let here : replica ≡ replica + 0 = omega arith in ap (λ n. record { block = block; replica = n; journal = last } ∷ []) here
block_journals-more block replica (entries ∷ more) last =
    let there : (replica + 1) + length more ≡ replica + suc (length more) = omega arith in
    ap (λ js. record { block = block; replica = replica; journal = entries } ∷ js)
    (block_journals-more block (replica + 1) more last ∙ ap (λ n. block_journals block (replica + 1) more ++ record { block = block; replica = n; journal = last } ∷ []) there)

-- the journals of a block so far, and one more
pub kept_more : {M : Type 0} (block replica : ℕ) (start old new : Journals M) (more : List (Entries M)) (last : Entries M) → old ≡ start ++ block_journals block 1 more → replica ≡ 1 + length more
    → new ≡ old ++ record { block = block; replica = replica; journal = last } ∷ [] → new ≡ start ++ block_journals block 1 (more ++ last ∷ [])
kept_more block replica start old new more last before number is =
    is ∙ ap (λ n. old ++ record { block = block; replica = n; journal = last } ∷ []) number
    ∙ ap (λ js. js ++ record { block = block; replica = 1 + length more; journal = last } ∷ []) before
    ∙ append_assoc start (block_journals block 1 more) (record { block = block; replica = 1 + length more; journal = last } ∷ [])
    ∙ ap (λ js. start ++ js) (sym (block_journals-more block 1 more last))

-- a section more, before those that are still to come
pub shown_more : (whole : List (Ident × Content)) (xs more : List Ident) (ys others : List Content) (x : Ident) (y : Content) (sections section : List ℕ) → xs ≡ x ∷ more → ys ≡ y ∷ others
    → ((rest : List ℕ) → AreShown (zip xs ys) rest → AreShown whole (sections ++ rest)) → IsSection x y.edits section
    → (rest : List ℕ) → AreShown (zip more others) rest → AreShown whole ((sections ++ section) ++ rest)
shown_more whole xs more ys others x y sections section first second so_far is rest shown =
    subst (AreShown whole) (sym (append_assoc sections section rest))
    (so_far (section ++ rest) (subst (λ of. AreShown of (section ++ rest)) (sym (zip_cons xs more ys others x y first second)) (section, rest, is, shown, refl)))

-- none are to come
pub all_shown : (whole : List (Ident × Content)) (xs : List Ident) (ys : List Content) (sections : List ℕ) → (xs ≡ []) ⊎ (ys ≡ [])
    → ((rest : List ℕ) → AreShown (zip xs ys) rest → AreShown whole (sections ++ rest)) → AreShown whole sections
all_shown whole xs ys sections none so_far =
    subst (AreShown whole) (append-nil sections) (so_far [] (subst (λ of. AreShown of []) (sym (zip_none xs ys none)) refl))

-- the replicas ran a block, told by what was listed of them
pub have_run : (session : Session) (block : Block) (first_send : ℕ) (firsts lasts : List Content) (made : List (Entries Content)) (lists : List (List Edit)) → lists ≡ all_listed session.authors block.lines 0 firsts
    → length lasts ≡ length firsts → length made ≡ length firsts
    → ((number : ℕ) (first last : Content) (journal : Entries Content) → slice_get firsts number ≡ Some first → slice_get lasts number ≡ Some last → slice_get made number ≡ Some journal
    → HasRun after effect reply (stage_of session block first_send lists number) first journal last)
    → HaveRun session block first_send firsts made lasts
have_run session block first_send firsts lasts made lists are_lists as_many as_many_journals each = record {
  as_many = as_many;
  as_many_journals = as_many_journals;
  each = λ number first last journal is_first is_last is_journal.
      has_run_by_all session.authors block.lines first_send number firsts first last journal
      (subst (λ ls. HasRun after effect reply (stage_of session block first_send ls number) first journal last) are_lists (each number first last journal is_first is_last is_journal));
}
