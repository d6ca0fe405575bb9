-- Records that are put in place of others, and those others put back.
use Rattle.std.proofs.Common.{◌≡◌, ℕ, zero, suc, ◌<◌, get_or, length, append_assoc, arith, Bool, true, false, cond, not, List, [], ◌∷◌, ◌++◌, map, Option, Some, IfSome, refl, sym, ap, subst, ◌∙◌}
use Rattle.std.specs.List.{AllByRecursion}
use Rattle.grove_edits.specs.declared.vertex.Vertex.{Vertex}
use Rattle.grove_edits.specs.Vertex.{is_same_vertex}
use Rattle.grove_edits.proofs.Vertices.{same_vertex_exact}
use Rattle.type_core.specs.Typ.{Typ}
use Rattle.ctx_table.specs.Context.{Context}
use Rattle.mark_store.specs.declared.record.Record.{Record}
use Rattle.mark_store.specs.Places.{Places, value_at, HasRoom, KeepsRoom}
use Rattle.mark_incremental.specs.Reading.{IsRecordOf, AreRecordsOf}
use Rattle.mark_incremental.specs.Walking.{AreMadeOf}
use Rattle.mark_incremental.specs.Standing.{put_in}
use Rattle.mark_incremental.specs.Applying.{AreOld, put_back_in}
use Rattle.mark_incremental.proofs.Lists.{all_init, all_gives}

-- the records that some vertices had
abbrev pub old_of : (Vertex → Option Record) → List (Vertex × Record) → List (Vertex × Option Record)
old_of before made = map (λ m. (m.0, before m.0)) made

stays_back : (before found : Vertex → Option Record) (v : Vertex) (made : List (Vertex × Record)) → found v ≡ before v → put_back_in (old_of before made) found v ≡ before v
stays_back before found v [] is = is
stays_back before found v (m ∷ ms) is = stays_back before (λ u. cond (is_same_vertex m.0 u) (before m.0) (found u)) v ms (by (is_same_vertex m.0 v) refl) where
  by : (b : Bool) → is_same_vertex m.0 v ≡ b → cond (is_same_vertex m.0 v) (before m.0) (found v) ≡ before v
  by true one = ap (λ b. cond b (before m.0) (found v)) one ∙ ap before (same_vertex_exact m.0 v one)
  by false other = ap (λ b. cond b (before m.0) (found v)) other ∙ is

-- the old record of one vertex put back
abbrev one_back : (Vertex → Option Record) → Vertex → (Vertex → Option Record) → Vertex → Option Record
one_back before w found u = cond (is_same_vertex w u) (before w) (found u)

pub old_back : (before found : Vertex → Option Record) (v : Vertex) (made : List (Vertex × Record)) → found v ≡ put_in made before v → put_back_in (old_of before made) found v ≡ before v
old_back before found v [] is = is
old_back before found v (m ∷ ms) is = by (is_same_vertex m.0 v) refl (old_back before (one_back before m.0 found) v ms) where
  by : (b : Bool) → is_same_vertex m.0 v ≡ b → (one_back before m.0 found v ≡ put_in ms before v → put_back_in (old_of before ms) (one_back before m.0 found) v ≡ before v)
      → put_back_in (old_of before ms) (one_back before m.0 found) v ≡ before v
  by true one rest = stays_back before (one_back before m.0 found) v ms (ap (λ b. cond b (before m.0) (found v)) one ∙ ap before (same_vertex_exact m.0 v one))
  by false other rest = rest (ap (λ b. cond b (before m.0) (found v)) other ∙ is ∙ ap (λ b. cond b (Some m.1) (put_in ms before v)) other)

-- one more is put back behind others
pub back_more : (old : List (Vertex × Option Record)) (m : Vertex × Option Record) (found : Vertex → Option Record) (v : Vertex)
    → put_back_in (old ++ m ∷ []) found v ≡ cond (is_same_vertex m.0 v) m.1 (put_back_in old found v)
back_more [] m found v = refl
back_more (x ∷ xs) m found v = back_more xs m (λ u. cond (is_same_vertex x.0 u) x.1 (found u)) v

old_room : (before : Vertex → Option Record) (places after : Places Record) (made : List (Vertex × Record)) → KeepsRoom places after → AllByRecursion (λ m. HasRoom places m.0) made
    → AllByRecursion (λ m. HasRoom after m.0) (old_of before made)
old_room before places after [] keeps all = tt
old_room before places after (m ∷ ms) keeps all = (keeps m.0 all.0, old_room before places after ms keeps all.1)

old_numbers : (types : List Typ) (ctxs : List Context) (before : Vertex → Option Record) → ((v : Vertex) → IfSome (before v) (IsRecordOf types ctxs)) → (made : List (Vertex × Record))
    → AllByRecursion (λ m. IfSome m.1 (IsRecordOf types ctxs)) (old_of before made)
old_numbers types ctxs before are [] = tt
old_numbers types ctxs before are (m ∷ ms) = (are m.0, old_numbers types ctxs before are ms)

-- what some records replaced
pub are_old : (types : List Typ) (ctxs : List Context) (before places after : Places Record) (made : List (Vertex × Record)) → AreRecordsOf types ctxs before
    → ((v : Vertex) → value_at after v ≡ put_in made (value_at before) v) → KeepsRoom places after → AllByRecursion (λ m. HasRoom places m.0) made
    → AreOld types ctxs (old_of (value_at before) made) before after
are_old types ctxs before places after made are puts keeps room = record {
  back = λ v. old_back (value_at before) (value_at after) v made (puts v);
  room = old_room (value_at before) places after made keeps room;
  numbers = old_numbers types ctxs (value_at before) are made;
}

-- ---- their numbers

number_by : (types : List Typ) (ctxs : List Context) (b : Bool) (o p : Option Record) → IfSome o (IsRecordOf types ctxs) → IfSome p (IsRecordOf types ctxs) → IfSome (cond b o p) (IsRecordOf types ctxs)
number_by types ctxs true o p one other = one
number_by types ctxs false o p one other = other

pub numbers_put : (types : List Typ) (ctxs : List Context) (found : Vertex → Option Record) (v : Vertex) → IfSome (found v) (IsRecordOf types ctxs) → (made : List (Vertex × Record)) → AreMadeOf types ctxs made
    → IfSome (put_in made found v) (IsRecordOf types ctxs)
numbers_put types ctxs found v is [] are = is
numbers_put types ctxs found v is (m ∷ ms) are = number_by types ctxs (is_same_vertex m.0 v) (Some m.1) (put_in ms found v) are.0 (numbers_put types ctxs found v is ms are.1)

pub numbers_back : (types : List Typ) (ctxs : List Context) (found : Vertex → Option Record) → ((v : Vertex) → IfSome (found v) (IsRecordOf types ctxs)) → (old : List (Vertex × Option Record))
    → AllByRecursion (λ m. IfSome m.1 (IsRecordOf types ctxs)) old → (v : Vertex) → IfSome (put_back_in old found v) (IsRecordOf types ctxs)
numbers_back types ctxs found is [] are v = is v
numbers_back types ctxs found is (m ∷ ms) are v =
    numbers_back types ctxs (λ u. cond (is_same_vertex m.0 u) m.1 (found u)) (λ u. number_by types ctxs (is_same_vertex m.0 u) m.1 (found u) are.0 (is u)) ms are.1 v

-- ---- the root of a cycle

-- where one vertex is again what it was, all are
pub root_back : (r : Vertex) (b : Bool) (before now : Vertex → Bool) → before r ≡ not b → ((v : Vertex) → now v ≡ cond (is_same_vertex r v) b (before v)) → (v : Vertex)
    → cond (is_same_vertex r v) (not b) (now v) ≡ before v
root_back r b before now was is v = by (is_same_vertex r v) refl where
  by : (same : Bool) → is_same_vertex r v ≡ same → cond (is_same_vertex r v) (not b) (now v) ≡ before v
  by true one = ap (λ x. cond x (not b) (now v)) one ∙ sym was ∙ ap before (same_vertex_exact r v one)
  by false other = ap (λ x. cond x (not b) (now v)) other ∙ is v ∙ ap (λ x. cond x b (before v)) other

-- ---- one record after the other is put

-- what is put so far, of which the newest stand first
abbrev pub ArePut : List (Vertex × Record) → List (Vertex × Record) → Places Record → Places Record → Type 0
ArePut made left before now = (rest : List (Vertex × Record)) × (left ++ rest ≡ made) × ((v : Vertex) → value_at now v ≡ put_in rest (value_at before) v)

pub put_more : (made left fewer : List (Vertex × Record)) (m : Vertex × Record) (before now then : Places Record) → ArePut made left before now → left ≡ fewer ++ m ∷ []
    → ((v : Vertex) → value_at then v ≡ cond (is_same_vertex m.0 v) (Some m.1) (value_at now v)) → ArePut made fewer before then
put_more made left fewer m before now then are split sets = (
  m ∷ are.0,
  sym (append_assoc fewer (m ∷ []) are.0) ∙ ap (λ ms. ms ++ are.0) (sym split) ∙ are.1,
  λ v. sets v ∙ ap (cond (is_same_vertex m.0 v) (Some m.1)) (are.2 v),
)

pub room_fewer : (left fewer : List (Vertex × Record)) (m : Vertex × Record) (now then : Places Record) → left ≡ fewer ++ m ∷ [] → KeepsRoom now then → AllByRecursion (λ x. HasRoom now x.0) left
    → AllByRecursion (λ x. HasRoom then x.0) fewer
room_fewer left fewer m now then split keeps all =
    all_gives (λ x. HasRoom now x.0) (λ x. HasRoom then x.0) fewer (λ x. keeps x.0) (all_init (λ x. HasRoom now x.0) fewer m (subst (AllByRecursion (λ x. HasRoom now x.0)) split all))

pub room_at : (old : List (Vertex × Option Record)) (places : Places Record) (i : ℕ) (d : Vertex × Option Record) → i < length old → AllByRecursion (λ m. HasRoom places m.0) old → HasRoom places (get_or old i d).0
room_at [] places i d within all = absurd (omega arith)
room_at (m ∷ ms) places zero d within all = all.0
room_at (m ∷ ms) places (suc i) d within all = room_at ms places i d (omega arith) all.1
