-- Vertices that are judged alike before some edits and after them.
use Rattle.std.proofs.Common.{◌≡◌, ◌⊎◌, inl, inr, ◌++◌, Bool, true, false, List, [], ◌∷◌, Option, Some, None, IfSome, get_or, length, take, ℕ, ◌+◌, ◌<◌, refl, sym, ap, subst, ◌∙◌}
use Rattle.std.specs.Prelude.{IsTrue, ◌↔◌, ◌||◌, unwrap_or}
use Rattle.std.specs.Option.{option_map}
use Rattle.std.proofs.lemmas.List.{take_more}
use Rattle.grove_sorts.proofs.Truths.{or_left, or_right}
use Rattle.grove_edits.specs.declared.vertex.Vertex.{Vertex}
use Rattle.grove_edits.specs.Vertex.{is_same_vertex, stands_in}
use Rattle.grove_edits.proofs.Vertices.{same_vertex_exact}
use Rattle.graph_words.specs.Whole.{IsInVertexOrder}
use Rattle.type_core.specs.declared.type_id.TypeId.{TypeId}
use Rattle.type_core.specs.Typ.{Typ}
use Rattle.type_core.specs.TypeTable.{IsTypeOf, type_at}
use Rattle.type_core.specs.TypeTable as type_table
use Rattle.ctx_table.specs.declared.ctx_id.CtxId.{CtxId}
use Rattle.ctx_table.specs.Context.{Context}
use Rattle.ctx_table.specs.CtxTable as context_table
use Rattle.mark_step.specs.declared.node.Demand.{Demand}
use Rattle.mark_step.specs.declared.node.Mark.{Mark}
use Rattle.mark_step.specs.declared.node.Mode.{Mode}
use Rattle.mark_step.specs.Expression.{Wanted, Demanded}
use Rattle.mark_step.specs.Scope.{scope_at}
use Rattle.mark_step.specs.Node.{wanted_at, demanded_at, IsModeOf, IsScopeOf}
use Rattle.kept_records.specs.Kept.{Kept, Records}
use Rattle.kept_records.proofs.Numbers.{one_demand}
use Rattle.mark_store.specs.declared.record.Record.{Record}
use Rattle.mark_store.specs.Places.{value_at, holds}
use Rattle.mark_incremental.specs.declared.changed.Before.{Before}
use Rattle.mark_incremental.specs.Reading.{kept_by, IsRecordOf, AreRecordsOf}
use Rattle.mark_incremental.specs.Standing.{KeptMarks, kept_in, records_in}
use Rattle.mark_incremental.specs.Changed.{Judgement, judgement, judgement_in, IsJudgedAlike, AreJudgedOtherwise}
use Rattle.mark_incremental.specs.Before.{judgement_by, record_before, root_before, HoldsListed, WereBefore}
use Rattle.mark_incremental.proofs.Growth.{records_kept, records_at-kept}
use Rattle.mark_incremental.proofs.Lists.{stands_push}

-- ---- by their numbers

module _ (marks : KeptMarks) (distinct : type_table.AreDistinct marks.types) (distinct_ctxs : context_table.AreDistinct marks.contexts) where
  abbrev types : List Typ
  types = marks.types

  abbrev ctxs : List Context
  ctxs = marks.contexts

  abbrev demand_with : CtxId → Mode → Demand
  demand_with ctx mode = record { ctx = ctx; mode = mode }

  one_mode : (ctx : CtxId) → IsScopeOf types ctxs ctx → (a b : Option Mode) → IfSome a (IsModeOf types) → IfSome b (IsModeOf types) → option_map (wanted_at types) a ≡ option_map (wanted_at types) b → a ≡ b
  one_mode ctx scope None None of_a of_b same = refl
  one_mode ctx scope None (Some b) of_a of_b same = absurd cc
  one_mode ctx scope (Some a) None of_a of_b same = absurd cc
  one_mode ctx scope (Some a) (Some b) of_a of_b same =
      let wanted : wanted_at types a ≡ wanted_at types b = cc in
      let one : demand_with ctx a ≡ demand_with ctx b =
      one_demand types distinct ctxs distinct_ctxs (demand_with ctx a) (demand_with ctx b) (record { ctx = scope; mode = of_a }) (record { ctx = scope; mode = of_b })
      (ap (λ (w : Wanted). let d : Demanded = record { scope = scope_at types ctxs ctx; wanted = w } in d) wanted) in
      ap (λ (d : Demand). Some d.mode) one

  one_type : (a b : Option TypeId) → IfSome a (IsTypeOf types) → IfSome b (IsTypeOf types) → option_map (type_at types) a ≡ option_map (type_at types) b → a ≡ b
  one_type None None of_a of_b same = refl
  one_type None (Some b) of_a of_b same = absurd cc
  one_type (Some a) None of_a of_b same = absurd cc
  one_type (Some a) (Some b) of_a of_b same =
      let typ : type_at types a ≡ type_at types b = cc in
      ap Some (distinct a b of_a of_b typ)

  -- two records judge alike only where they have the same mode, type and mark
  pub same_numbers : (a b : Record) → IsRecordOf types ctxs a → IsRecordOf types ctxs b → judgement_by marks a ≡ judgement_by marks b → (a.mode ≡ b.mode) × (a.typ ≡ b.typ) × (a.mark ≡ b.mark)
  same_numbers a b of_a of_b same = (
    one_mode a.ctx of_a.ctx a.mode b.mode of_a.mode of_b.mode (ap (λ (j : Judgement). j.wanted) same),
    one_type a.typ b.typ of_a.typ of_b.typ (ap (λ (j : Judgement). j.typ) same),
    ap (λ (j : Judgement). j.mark) same,
  )

pub same_judgements : (marks : KeptMarks) (a b : Record) → (a.mode ≡ b.mode) × (a.typ ≡ b.typ) × (a.mark ≡ b.mark) → judgement_by marks a ≡ judgement_by marks b
same_judgements marks a b same =
    let make : Option Mode → Option TypeId → Mark → Judgement = λ m t k. record { wanted = option_map (wanted_at marks.types) m; typ = option_map (type_at marks.types) t; mark = k } in
    ap (λ m. make m a.typ a.mark) same.0 ∙ ap (λ t. make b.mode t a.mark) same.1 ∙ ap (make b.mode b.typ) same.2

-- what is found of two records
pub told_alike : (marks : KeptMarks) → type_table.AreDistinct marks.types → context_table.AreDistinct marks.contexts → (o p : Option Record) (a b : Record) (found : Bool) → o ≡ Some a → p ≡ Some b
    → IsTrue found ↔ ((a.mode ≡ b.mode) × (a.typ ≡ b.typ) × (a.mark ≡ b.mark)) → IfSome o (IsRecordOf marks.types marks.contexts) → IfSome p (IsRecordOf marks.types marks.contexts)
    → IsTrue found ↔ (option_map (judgement_by marks) o ≡ option_map (judgement_by marks) p)
told_alike marks distinct distinct_ctxs o p a b found is_a is_b tells of_o of_p = (
  λ same. ap (option_map (judgement_by marks)) is_a ∙ ap Some (same_judgements marks a b (tells.0 same)) ∙ sym (ap (option_map (judgement_by marks)) is_b),
  λ alike.
      let one : Some (judgement_by marks a) ≡ Some (judgement_by marks b) = sym (ap (option_map (judgement_by marks)) is_a) ∙ alike ∙ ap (option_map (judgement_by marks)) is_b in
      let judged : judgement_by marks a ≡ judgement_by marks b = cc in
      tells.1 (same_numbers marks distinct distinct_ctxs a b (subst (λ (q : Option Record). IfSome q (IsRecordOf marks.types marks.contexts)) is_a of_o)
      (subst (λ (q : Option Record). IfSome q (IsRecordOf marks.types marks.contexts)) is_b of_p) judged),
)

-- ---- before and after

judgements_map : (marks : KeptMarks) (o : Option Record) → option_map judgement (option_map (kept_by marks.types marks.contexts) o) ≡ option_map (judgement_by marks) o
judgements_map marks None = refl
judgements_map marks (Some r) = refl

-- what was judged of a vertex, read by the tables that there are now
module _ (was now : KeptMarks) (before : Before) (were : WereBefore was now before) where
  pub judged_before : (v : Vertex) → judgement_in (records_in was) v ≡ option_map (judgement_by now) (record_before before.records (kept_in now) v)
  judged_before v =
      ap (option_map judgement) (sym (records_at-kept was.types now.types was.contexts now.contexts were.types were.contexts was.records were.numbers v))
      ∙ judgements_map now (kept_in was v) ∙ ap (option_map (judgement_by now)) (sym (were.records v))

  pub judged_now : (v : Vertex) → judgement_in (records_in now) v ≡ option_map (judgement_by now) (kept_in now v)
  judged_now v = judgements_map now (kept_in now v)

  -- the numbers of the record that it had are of the tables
  pub number_before : (v : Vertex) → IfSome (record_before before.records (kept_in now) v) (IsRecordOf now.types now.contexts)
  number_before v =
      subst (λ (o : Option Record). IfSome o (IsRecordOf now.types now.contexts)) (sym (were.records v))
      (records_kept was.types now.types was.contexts now.contexts were.types were.contexts was.records were.numbers v)

  -- a vertex is judged as it was
  abbrev pub IsAlike : Vertex → Type 0
  IsAlike v = IsJudgedAlike (records_in was) (records_in now) (holds was.roots) (holds now.roots) v

  root_was : (v : Vertex) (was_root is_root : Bool) → is_root ≡ holds now.roots v → was_root ≡ unwrap_or (value_at before.roots v) is_root → was_root ≡ holds was.roots v
  root_was v was_root is_root now_is was_is = was_is ∙ ap (unwrap_or (value_at before.roots v)) now_is ∙ were.roots v

  pub other_root : (v : Vertex) (was_root is_root : Bool) → is_root ≡ holds now.roots v → was_root ≡ unwrap_or (value_at before.roots v) is_root → (was_root ≡ is_root → ⊥) → IsAlike v → ⊥
  other_root v was_root is_root now_is was_is differ alike = differ (root_was v was_root is_root now_is was_is ∙ alike.root ∙ sym now_is)

  pub alike_found : AreRecordsOf now.types now.contexts now.records → (v : Vertex) (was_root is_root : Bool) (had has : Option Record) (found : Bool) → is_root ≡ holds now.roots v
      → was_root ≡ unwrap_or (value_at before.roots v) is_root → was_root ≡ is_root → has ≡ kept_in now v → had ≡ unwrap_or (value_at before.records v) has
      → (IfSome had (IsRecordOf now.types now.contexts) → IfSome has (IsRecordOf now.types now.contexts)
      → IsTrue found ↔ (option_map (judgement_by now) had ≡ option_map (judgement_by now) has))
      → IsTrue found ↔ IsAlike v
  alike_found numbers v was_root is_root had has found now_is was_is same_root has_is had_is tells = (
    λ is. record { judgement = judged_before v ∙ ap (option_map (judgement_by now)) (sym had_before) ∙ told.0 is ∙ ap (option_map (judgement_by now)) has_is ∙ sym (judged_now v); root = roots },
    λ alike. told.1 (ap (option_map (judgement_by now)) had_before ∙ sym (judged_before v) ∙ alike.judgement ∙ judged_now v ∙ sym (ap (option_map (judgement_by now)) has_is)),
  ) where
    had_before : had ≡ record_before before.records (kept_in now) v
    had_before = had_is ∙ ap (unwrap_or (value_at before.records v)) has_is

    told : IsTrue found ↔ (option_map (judgement_by now) had ≡ option_map (judgement_by now) has)
    told =
        tells (subst (λ (o : Option Record). IfSome o (IsRecordOf now.types now.contexts)) (sym had_before) (number_before v))
        (subst (λ (o : Option Record). IfSome o (IsRecordOf now.types now.contexts)) (sym has_is) (numbers v))

    roots : holds was.roots v ≡ holds now.roots v
    roots = sym (root_was v was_root is_root now_is was_is) ∙ same_root ∙ now_is

  -- of what is not listed nothing is held, so it is as it was
  unlisted_alike : HoldsListed before → (v : Vertex) → stands_in v before.vertices.items ≡ false → IsAlike v
  unlisted_alike listed v off = record {
    judgement = judged_before v ∙ ap (λ o. option_map (judgement_by now) (unwrap_or o (kept_in now v))) (listed.records v off) ∙ sym (judged_now v);
    root = sym (were.roots v) ∙ ap (λ o. unwrap_or o (holds now.roots v)) (listed.roots v off);
  }

  -- the vertices that are found, put in order
  pub all_found : HoldsListed before → (found vertices : List Vertex) → ((v : Vertex) → (stands_in v found ≡ true) ↔ ((stands_in v before.vertices.items ≡ true) × (IsAlike v → ⊥))) → IsInVertexOrder vertices
      → ((v : Vertex) → stands_in v vertices ≡ stands_in v found) → AreJudgedOtherwise (records_in was) (records_in now) (holds was.roots) (holds now.roots) vertices
  all_found listed found vertices are order same = record {
    in_order = order;
    each = λ v other. same v ∙ (are v).1 (is_listed v other (stands_in v before.vertices.items) refl, other);
    no_other = λ v stands. ((are v).0 (sym (same v) ∙ stands)).1;
  } where
    is_listed : (v : Vertex) → (IsAlike v → ⊥) → (b : Bool) → stands_in v before.vertices.items ≡ b → stands_in v before.vertices.items ≡ true
    is_listed v other true is = is
    is_listed v other false off = absurd (other (unlisted_alike listed v off))

-- ---- one vertex after the other

or_cases : (a b : Bool) → (a || b) ≡ true → (a ≡ true) ⊎ (b ≡ true)
or_cases true b h = inl refl
or_cases false b h = inr h

-- those of the first vertices of which something does not hold are found
abbrev pub IsFoundSoFar : (Vertex → Type 0) → List Vertex → ℕ → List Vertex → Type 0
IsFoundSoFar P vertices i found = (v : Vertex) → (stands_in v found ≡ true) ↔ ((stands_in v (take i vertices) ≡ true) × (P v → ⊥))

module _ (P : Vertex → Type 0) (vertices : List Vertex) (i : ℕ) (w : Vertex) (within : i < length vertices) (at : w ≡ get_or vertices i w) (found : List Vertex)
    (so_far : IsFoundSoFar P vertices i found) where
  one_more : (v : Vertex) → stands_in v (take (i + 1) vertices) ≡ (is_same_vertex w v || stands_in v (take i vertices))
  one_more v = ap (stands_in v) (take_more vertices i w within) ∙ stands_push v (get_or vertices i w) (take i vertices) ∙ ap (λ x. is_same_vertex x v || stands_in v (take i vertices)) (sym at)

  pub found_more : (P w → ⊥) → (later : List Vertex) → later ≡ found ++ w ∷ [] → IsFoundSoFar P vertices (i + 1) later
  found_more other later pushed v = (
    λ stands. to (or_cases (is_same_vertex w v) (stands_in v found) (sym last ∙ stands)),
    λ is. last ∙ from is.1 (or_cases (is_same_vertex w v) (stands_in v (take i vertices)) (sym (one_more v) ∙ is.0)),
  ) where
    last : stands_in v later ≡ (is_same_vertex w v || stands_in v found)
    last = ap (stands_in v) pushed ∙ stands_push v w found

    to : (is_same_vertex w v ≡ true) ⊎ (stands_in v found ≡ true) → (stands_in v (take (i + 1) vertices) ≡ true) × (P v → ⊥)
    to (inl one) = (one_more v ∙ or_left (is_same_vertex w v) (stands_in v (take i vertices)) one, subst (λ (u : Vertex). P u → ⊥) (same_vertex_exact w v one) other)
    to (inr stands) = let was = (so_far v).0 stands in (one_more v ∙ or_right (is_same_vertex w v) (stands_in v (take i vertices)) was.0, was.1)

    from : (P v → ⊥) → (is_same_vertex w v ≡ true) ⊎ (stands_in v (take i vertices) ≡ true) → (is_same_vertex w v || stands_in v found) ≡ true
    from not_so (inl one) = or_left (is_same_vertex w v) (stands_in v found) one
    from not_so (inr stands) = or_right (is_same_vertex w v) (stands_in v found) ((so_far v).1 (stands, not_so))

  pub found_passed : P w → IsFoundSoFar P vertices (i + 1) found
  found_passed is_so v = (
    λ stands. let was = (so_far v).0 stands in (one_more v ∙ or_right (is_same_vertex w v) (stands_in v (take i vertices)) was.0, was.1),
    λ is. from is.1 (or_cases (is_same_vertex w v) (stands_in v (take i vertices)) (sym (one_more v) ∙ is.0)),
  ) where
    from : (P v → ⊥) → (is_same_vertex w v ≡ true) ⊎ (stands_in v (take i vertices) ≡ true) → stands_in v found ≡ true
    from not_so (inl one) = absurd (not_so (subst P (same_vertex_exact w v one) is_so))
    from not_so (inr stands) = (so_far v).1 (stands, not_so)
