-- The numbers of nodes, and the types of their children.
use Rattle.std.proofs.Common.{◌<◌, ◌≡◌, ◌≢◌, ℕ, zero, suc, ◌+◌, Bool, true, false, List, [], ◌∷◌, ◌++◌, length, take, Option, None, Some, IfSome, get_or, set, slice_get, refl, sym, ap, subst, ◌∙◌, if◌then◌else◌, arith, append_assoc, append-nil, add-zero, zero-add, add-one}
use Rattle.std.specs.Option.{option_map}
use Rattle.std.proofs.Math.Seq.{take-length}
use Rattle.std.proofs.lemmas.List.{get_or-set_other}
use Rattle.std.proofs.lemmas.Grind.{get_or-set_at}
use Rattle.std.proofs.lemmas.List.Elements.{All-head, All-tail}
use Rattle.grove_sorts.specs.declared.ctor.Ctor.{Ctor}
use Rattle.grove_sorts.specs.declared.ctor.Ctor.TheVariants.{Root}
use Rattle.grove_sorts.specs.declared.ident.Ident.{Ident}
use Rattle.grove_sorts.specs.declared.position.Position.{Position}
use Rattle.grove_sorts.specs.declared.sort.Sort.{Sort}
use Rattle.grove_sorts.specs.declared.sort.Sort.TheVariants.{Top, Exp, Pat, Typ as TypSort}
use Rattle.grove_sorts.specs.Ctor.{positions, sort_of_ctor}
use Rattle.type_core.specs.declared.type_id.TypeId.{TypeId}
use Rattle.type_core.specs.Typ.{Typ}
use Rattle.type_core.specs.TypeTable.{IsTypeOf, type_at, KeepsTypes}
use Rattle.ctx_table.specs.declared.ctx_id.CtxId.{CtxId}
use Rattle.ctx_table.specs.Context.{Context}
use Rattle.ctx_table.specs.CtxTable.{context_at, KeepsContexts}
use Rattle.mark_step.specs.declared.node.Demand.{Demand}
use Rattle.mark_step.specs.declared.node.Mode.{Mode}
use Rattle.mark_step.specs.declared.node.Mode.TheVariants.{Syn, Ana}
use Rattle.mark_step.specs.declared.node.NodeView.{NodeView}
use Rattle.mark_step.specs.Scope.{scope_of, scope_at, IsTyped}
use Rattle.mark_step.specs.Expression.{Expression, Analyse}
use Rattle.mark_step.specs.Step.{demand, settled}
use Rattle.mark_step.specs.Rows.{Follows, judged, judgements_after, judgements, is_exp, expression_count}
use Rattle.mark_step.specs.Node.{wanted_at, expression_at, demanded_at, IsModeOf, IsScopeOf, AreNumbers, IsNodeOf, IsDemandOf, sort_at_index, type_or_unknown, types_from, types_before, types_done}
use Rattle.mark_step.proofs.RowLemmas.{functions_follow_rows}

-- what numbers stand for stays as the tables grow
module _ (types grown : List Typ) (kept : KeepsTypes types grown) where
  scope_of-kept : (ctx : Context) → IsTyped types ctx → scope_of grown ctx ≡ scope_of types ctx
  scope_of-kept [] typed = refl
  scope_of-kept (b ∷ bs) typed =
      let P : (Ident × TypeId) → Type 0 = λ b. IsTypeOf types b.1 in
      let head = kept.types b.1 (All-head P b bs typed) in
      ap (λ t. (b.0, t) ∷ scope_of grown bs) head ∙ ap (λ rest. (b.0, type_at types b.1) ∷ rest) (scope_of-kept bs (All-tail P b bs typed))

  IsTyped-kept : (ctx : Context) → IsTyped types ctx → IsTyped grown ctx
  IsTyped-kept ctx typed k d h =
      let within = typed k d h in
      omega (arith, within, kept.longer)

  IfSome-kept : (o : Option TypeId) → IfSome o (IsTypeOf types) → IfSome o (IsTypeOf grown)
  IfSome-kept None h = tt
  IfSome-kept (Some t) h = omega (arith, h, kept.longer)

  type_or_unknown-kept : (o : Option TypeId) → IfSome o (IsTypeOf types) → type_or_unknown grown o ≡ type_or_unknown types o
  type_or_unknown-kept None h = refl
  type_or_unknown-kept (Some t) h = kept.types t h

  wanted_at-kept : (m : Mode) → IsModeOf types m → wanted_at grown m ≡ wanted_at types m
  wanted_at-kept Syn h = refl
  wanted_at-kept (Ana t) h = ap Analyse (kept.types t h)

  IsModeOf-kept : (m : Mode) → IsModeOf types m → IsModeOf grown m
  IsModeOf-kept Syn h = tt
  IsModeOf-kept (Ana t) h = omega (arith, h, kept.longer)

  types_from-kept : (done : List (Option TypeId)) → AreNumbers types done → (i : ℕ) (ps : List (Position × Sort)) → types_from grown done i ps ≡ types_from types done i ps
  types_from-kept done numbers i [] = refl
  types_from-kept done numbers i (p ∷ ps) =
      let here = type_or_unknown-kept (get_or done i None) (numbers i) in
      let rest = types_from-kept done numbers (i + 1) ps in
      ap (λ ts. if is_exp p.1 then (type_or_unknown grown (get_or done i None) ∷ ts) else ts) rest
      ∙ ap (λ t. if is_exp p.1 then (t ∷ types_from types done (i + 1) ps) else types_from types done (i + 1) ps) here

  module _ (ctxs more : List Context) (stay : KeepsContexts ctxs more) where
    scope_at-kept : (id : CtxId) → IsScopeOf types ctxs id → scope_at grown more id ≡ scope_at types ctxs id
    scope_at-kept id s = ap (scope_of grown) (stay.contexts id s.context) ∙ scope_of-kept (context_at ctxs id) s.typed

    IsScopeOf-kept : (id : CtxId) → IsScopeOf types ctxs id → IsScopeOf grown more id
    IsScopeOf-kept id s = record {
      context = omega (arith, s.context, stay.longer);
      typed = subst (IsTyped grown) (sym (stay.contexts id s.context)) (IsTyped-kept (context_at ctxs id) s.typed);
    }

    pub demanded_at-kept : (d : Demand) → IsDemandOf types ctxs d → demanded_at grown more d ≡ demanded_at types ctxs d
    demanded_at-kept d n =
        let scope = scope_at-kept d.ctx n.ctx in
        let wanted = wanted_at-kept d.mode n.mode in
        cc

    pub IsDemandOf-kept : (d : Demand) → IsDemandOf types ctxs d → IsDemandOf grown more d
    IsDemandOf-kept d n = record { ctx = IsScopeOf-kept d.ctx n.ctx; mode = IsModeOf-kept d.mode n.mode }

    pub expression_at-kept : (node : NodeView) → IsNodeOf types ctxs node → expression_at grown more node ≡ expression_at types ctxs node
    expression_at-kept node n =
        let scope = scope_at-kept node.ctx n.ctx in
        let wanted = wanted_at-kept node.mode n.mode in
        let bound = kept.types node.binder.typ n.binder in
        cc

    pub types_before-kept : (node : NodeView) (index : ℕ) → IsNodeOf types ctxs node → types_before grown node index ≡ types_before types node index
    types_before-kept node index n = types_from-kept node.done n.done 0 (take index (positions node.ctor.now))

    pub types_done-kept : (node : NodeView) → IsNodeOf types ctxs node → types_done grown node ≡ types_done types node
    types_done-kept node n = types_from-kept node.done n.done 0 (positions node.ctor.now)

    pub IsNodeOf-kept : (node : NodeView) → IsNodeOf types ctxs node → IsNodeOf grown more node
    IsNodeOf-kept node n = record {
      ctx = IsScopeOf-kept node.ctx n.ctx;
      mode = IsModeOf-kept node.mode n.mode;
      binder = omega (arith, n.binder, kept.longer);
      done = λ i. IfSome-kept (get_or node.done i None) (n.done i);
    }

-- the child with a number, in the row
judgements_after-at : (e : Expression) (before ts : List Typ) (k : ℕ) (t : Typ) → slice_get ts k ≡ Some t
    → slice_get (judgements_after e before ts) k ≡ Some (judged (demand e (before ++ take k ts)) t)
judgements_after-at e before [] k t h = cc
judgements_after-at e before (u ∷ us) zero t h =
    let same : u ≡ t = cc in
    ap (λ x. Some (judged (demand e before) x)) same ∙ ap (λ bs. Some (judged (demand e bs) t)) (sym (append-nil before))
judgements_after-at e before (u ∷ us) (suc k) t h =
    judgements_after-at e (before ++ u ∷ []) us k t h ∙ ap (λ bs. Some (judged (demand e bs) t)) (append_assoc before (u ∷ []) (take k us))

-- the types that are done are as many as the row has children
types_from-length : (types : List Typ) (done : List (Option TypeId)) (ctor : Ctor) → length (types_from types done 0 (positions ctor)) ≡ expression_count ctor
types_from-length types done Root = refl
types_from-length types done _ = refl

-- the types before the position of an expression come first, and its own comes next
record IsSplit (all before : List Typ) (t : Typ) : Type 0 where
  first : take (length before) all ≡ before
  next : slice_get all (length before) ≡ Some t

module _ (types : List Typ) (done : List (Option TypeId)) where
  abbrev type_here : ℕ → Typ
  type_here i = type_or_unknown types (get_or done i None)

  split-here : (s : Sort) (t : Typ) (ts : List Typ) → Some s ≡ Some Exp → slice_get (if is_exp s then (t ∷ ts) else ts) 0 ≡ Some t
  split-here Exp t ts h = refl
  split-here Top t ts h = cc
  split-here Pat t ts h = cc
  split-here TypSort t ts h = cc

  split-later : (exp : Bool) (t : Typ) (all before : List Typ) (own : Typ) → IsSplit all before own
      → IsSplit (if exp then (t ∷ all) else all) (if exp then (t ∷ before) else before) own
  split-later true t all before own s = record { first = ap (λ ts. t ∷ ts) s.first; next = s.next }
  split-later false t all before own s = s

  types_from-split : (i n : ℕ) (ps : List (Position × Sort)) → option_map (λ p. p.1) (slice_get ps n) ≡ Some Exp
      → IsSplit (types_from types done i ps) (types_from types done i (take n ps)) (type_here (i + n))
  types_from-split i n [] h = cc
  types_from-split i zero (p ∷ ps) h =
      let here = split-here p.1 (type_here i) (types_from types done (i + 1) ps) h in
      record { first = refl; next = rw add-zero here }
  types_from-split i (suc n) (p ∷ ps) h =
      let same : (i + 1) + n ≡ i + suc n = omega arith in
      let all = types_from types done (i + 1) ps in
      let before = types_from types done (i + 1) (take n ps) in
      let rest = types_from-split (i + 1) n ps h in
      split-later (is_exp p.1) (type_here i) all before (type_here (i + suc n)) (subst (λ k. IsSplit all before (type_here k)) same rest)

-- the answer of a node's rule is a row's
pub settled_by_row : (types : List Typ) (ctxs : List Context) (node : NodeView) → sort_of_ctor node.ctor.now ≡ Exp
    → Follows (expression_at types ctxs node) (judgements (expression_at types ctxs node) (types_done types node)) (settled (expression_at types ctxs node) (types_done types node))
settled_by_row types ctxs node exp =
    functions_follow_rows (expression_at types ctxs node) (types_done types node) exp (types_from-length types node.done node.ctor.now)

-- what is demanded of a child is what that row says
pub demanded_by_row : (types : List Typ) (ctxs : List Context) (node : NodeView) (index : ℕ) → sort_at_index node.ctor.now index ≡ Some Exp
    → slice_get (judgements (expression_at types ctxs node) (types_done types node)) (length (types_before types node index))
    ≡ Some (judged (demand (expression_at types ctxs node) (types_before types node index)) (type_or_unknown types (get_or node.done index None)))
demanded_by_row types ctxs node index h =
    let s = types_from-split types node.done 0 index (positions node.ctor.now) h in
    let e = expression_at types ctxs node in
    let at = judgements_after-at e [] (types_done types node) (length (types_before types node index)) _ s.next in
    at ∙ ap (λ bs. Some (judged (demand e bs) (type_or_unknown types (get_or node.done (0 + index) None)))) s.first
    ∙ ap (λ i. Some (judged (demand e (types_before types node index)) (type_or_unknown types (get_or node.done i None)))) (zero-add index)

-- a child that gets its type comes last
module _ (types : List Typ) (t : TypeId) where
  last-here : (s : Sort) (u : Typ) → Some s ≡ Some Exp → u ≡ type_at types t → (if is_exp s then (u ∷ []) else []) ≡ type_at types t ∷ []
  last-here Exp u h e = ap (λ u. u ∷ []) e
  last-here Top u h e = cc
  last-here Pat u h e = cc
  last-here TypSort u h e = cc

  last-later : (exp : Bool) (u v : Typ) (all before : List Typ) → u ≡ v → all ≡ before ++ type_at types t ∷ []
      → (if exp then (u ∷ all) else all) ≡ (if exp then (v ∷ before) else before) ++ type_at types t ∷ []
  last-later true u v all before same e = ap (λ ts. u ∷ ts) e ∙ ap (λ x. x ∷ (before ++ type_at types t ∷ [])) same
  last-later false u v all before same e = e

  types_from-set : (done : List (Option TypeId)) (i n : ℕ) (ps : List (Position × Sort)) → option_map (λ p. p.1) (slice_get ps n) ≡ Some Exp → i + n < length done
      → types_from types (set done (i + n) (Some t)) i (take (suc n) ps) ≡ types_from types done i (take n ps) ++ type_at types t ∷ []
  types_from-set done i n [] h within = cc
  types_from-set done i zero (p ∷ ps) h within =
      last-here p.1 _ h (ap (type_or_unknown types) (get_or-set_at done (i + 0) i (Some t) None (omega arith) within))
  types_from-set done i (suc n) (p ∷ ps) h within =
      let same : (i + 1) + n ≡ i + suc n = omega arith in
      let rest = types_from-set done (i + 1) n ps h (omega arith) in
      let other = get_or-set_other done (i + suc n) i (Some t) None (λ e. omega arith) in
      last-later (is_exp p.1) _ _ (types_from types (set done (i + suc n) (Some t)) (i + 1) (take (suc n) ps)) (types_from types done (i + 1) (take n ps))
      (ap (type_or_unknown types) other)
      (subst (λ k. types_from types (set done k (Some t)) (i + 1) (take (suc n) ps) ≡ types_from types done (i + 1) (take n ps) ++ type_at types t ∷ []) same rest)

  pub AreNumbers-set : IsTypeOf types t → (done : List (Option TypeId)) (k : ℕ) → AreNumbers types done → AreNumbers types (set done k (Some t))
  AreNumbers-set number [] zero numbers i = tt
  AreNumbers-set number [] (suc k) numbers i = tt
  AreNumbers-set number (d ∷ ds) zero numbers zero = number
  AreNumbers-set number (d ∷ ds) zero numbers (suc i) = numbers (suc i)
  AreNumbers-set number (d ∷ ds) (suc k) numbers zero = numbers zero
  AreNumbers-set number (d ∷ ds) (suc k) numbers (suc i) = AreNumbers-set number ds k (λ j. numbers (suc j)) i

-- a position of no expression adds no type
types_from-skip : (types : List Typ) (done : List (Option TypeId)) (i n : ℕ) (ps : List (Position × Sort)) → option_map (λ p. p.1) (slice_get ps n) ≢ Some Exp
    → types_from types done i (take (suc n) ps) ≡ types_from types done i (take n ps)
types_from-skip types done i zero [] ne = refl
types_from-skip types done i (suc n) [] ne = refl
types_from-skip types done i zero (p ∷ ps) ne = by p.1 ne
  where
    by : (s : Sort) → Some s ≢ Some Exp → (if is_exp s then (type_or_unknown types (get_or done i None) ∷ []) else []) ≡ []
    by Exp ne = absurd (ne refl)
    by Top ne = refl
    by Pat ne = refl
    by TypSort ne = refl
types_from-skip types done i (suc n) (p ∷ ps) ne =
    ap (λ ts. if is_exp p.1 then (type_or_unknown types (get_or done i None) ∷ ts) else ts) (types_from-skip types done (i + 1) n ps ne)

pub types_before-done : (types : List Typ) (node : NodeView) (index : ℕ) (t : TypeId) → sort_at_index node.ctor.now index ≡ Some Exp → index < length node.done
    → types_before types (record node { done = set node.done index (Some t) }) (index + 1) ≡ types_before types node index ++ type_at types t ∷ []
types_before-done types node index t h within =
    let last = types_from-set types t node.done 0 index (positions node.ctor.now) h (omega arith) in
    rw add-one (subst (λ k. types_from types (set node.done k (Some t)) 0 (take (suc index) (positions node.ctor.now)) ≡ types_before types node index ++ type_at types t ∷ []) (zero-add index) last)

pub types_before-skipped : (types : List Typ) (node : NodeView) (index : ℕ) → sort_at_index node.ctor.now index ≢ Some Exp
    → types_before types node (index + 1) ≡ types_before types node index
types_before-skipped types node index ne = rw add-one (types_from-skip types node.done 0 index (positions node.ctor.now) ne)

pub types_before-all : (types : List Typ) (node : NodeView) → types_before types node (length (positions node.ctor.now)) ≡ types_done types node
types_before-all types node = ap (types_from types node.done 0) (take-length (positions node.ctor.now))
