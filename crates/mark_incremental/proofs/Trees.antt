-- The records of trees, one tree after the other.
use Rattle.std.proofs.Common.{◌≡◌, ◌<◌, ◌≤◌, ℕ, zero, suc, Bool, List, [], ◌∷◌, ◌++◌, length, take, drop, get_or, refl, sym, ap, subst, ◌∙◌, append_assoc, append-nil, arith}
use Rattle.std.specs.List.{AllByRecursion}
use Rattle.grove_edits.specs.declared.vertex.Vertex.{Vertex}
use Rattle.grove_edits.specs.declared.edge.Edge.{Edge}
use Rattle.type_core.specs.Typ.{Typ}
use Rattle.type_core.specs.TypeTable.{KeepsTypes}
use Rattle.ctx_table.specs.Context.{Context}
use Rattle.ctx_table.specs.CtxTable.{KeepsContexts}
use Rattle.kept_records.specs.Kept.{Kept, Records, alone}
use Rattle.kept_records.specs.Short.{MakesFrom}
use Rattle.kept_records.specs.Renewal.{MakesTree, MakesTrees}
use Rattle.mark_store.specs.declared.record.Record.{Record}
use Rattle.mark_store.specs.Places.{Places}
use Rattle.mark_incremental.specs.Reading.{AreRecordsOf}
use Rattle.mark_incremental.specs.Walking.{meant, AreMadeOf, LeavesRight, LeavesRightBelow, HasMadeTree, HasMadeTrees}
use Rattle.mark_incremental.proofs.Growth.{reads_as-kept, meant-kept}

pub all_taken : (vs : List Vertex) (n : ℕ) → length vs ≤ n → take n vs ≡ vs
all_taken [] zero all = refl
all_taken [] (suc n) all = refl
all_taken (v ∷ vs) zero all = absurd (omega (arith, all))
all_taken (v ∷ vs) (suc n) all = ap (λ us. v ∷ us) (all_taken vs n (omega (arith, all)))

pub split_at : (vs : List Vertex) (n : ℕ) (v : Vertex) → n < length vs → v ≡ get_or vs n v → vs ≡ take n vs ++ v ∷ drop (suc n) vs
split_at [] n v less is = absurd (omega (arith, less))
split_at (u ∷ vs) zero v less is = ap (λ (w : Vertex). w ∷ vs) (sym is)
split_at (u ∷ vs) (suc n) v less is = ap (λ us. u ∷ us) (split_at vs n v (omega (arith, less)) is)

pub all_dropped : (P : Vertex → Type 0) (vs : List Vertex) (n : ℕ) → AllByRecursion P vs → AllByRecursion P (drop n vs)
all_dropped P [] zero all = tt
all_dropped P [] (suc n) all = tt
all_dropped P (v ∷ vs) zero all = all
all_dropped P (v ∷ vs) (suc n) all = all_dropped P vs n all.1

-- a walk down from the head of a tree is one down the tree
pub as_tree : (live : List Edge) (judged : Vertex → Bool) (records : Records) (head : Vertex) (made : List (Vertex × Kept)) → MakesFrom judged live records head alone made → MakesTree judged live records head made
as_tree live judged records head made is = record { forest = is.forest; stands = is.stands; inner = is.inner; made_are = is.made_are; under = is.under }

-- what is left as it is anywhere has its record, and so below any vertex
pub leaves_below : (live : List Edge) (judged : Vertex → Bool) (records : Records) (start : Vertex) → LeavesRight live judged records → LeavesRightBelow live judged records start
leaves_below live judged records start leaves u us v f d stands within left = leaves u us v f d stands left

makes_more : (judged : Vertex → Bool) (live : List Edge) (records : Records) (heads : List Vertex) (made : List (Vertex × Kept)) (head : Vertex) (one : List (Vertex × Kept))
    → MakesTrees judged live records heads made → MakesTree judged live records head one → MakesTrees judged live records (heads ++ head ∷ []) (made ++ one)
makes_more judged live records [] made head one are makes = (one, [], ap (λ ms. ms ++ one) are ∙ sym (append-nil one), makes, refl)
makes_more judged live records (h ∷ heads) made head one (first, others, are, tree, rest) makes =
    (first, others ++ one, ap (λ ms. ms ++ one) are ∙ append_assoc first others one, tree, makes_more judged live records heads others head one rest makes)

-- the records of one more tree
pub trees_more : (live : List Edge) (old new : List Typ) (oldc newc : List Context) → KeepsTypes old new → KeepsContexts oldc newc → (places : Places Record) → AreRecordsOf old oldc places → (judged : Vertex → Bool)
    → (heads : List Vertex) (head : Vertex) (made after : List (Vertex × Record)) → AreMadeOf old oldc made → HasMadeTrees live old oldc places judged heads made → HasMadeTree live new newc places judged head made after
    → HasMadeTrees live new newc places judged (heads ++ head ∷ []) after
trees_more live old new oldc newc keeps keepsc places of_tables judged heads head made after of_made trees tree records reads leaves =
    let one = tree records reads (leaves_below live judged records head leaves) in
    let so_far : MakesTrees judged live records heads (meant new newc made) =
    subst (MakesTrees judged live records heads) (sym (meant-kept old new oldc newc keeps keepsc made of_made)) (trees records (reads_as-kept old new oldc newc keeps keepsc places records of_tables reads) leaves) in
    subst (MakesTrees judged live records (heads ++ head ∷ [])) (sym one.are) (makes_more judged live records heads (meant new newc made) head one.own so_far (as_tree live judged records head one.own one.makes))
