-- What is open and what is made stands for the same over tables that keep the meaning of their numbers.
use Rattle.std.proofs.Common.{◌≡◌, List, [], ◌∷◌, take, drop, Option, Some, None, IfSome, refl, sym, ap, subst, ◌∙◌}
use Rattle.std.specs.Option.{option_map}
use Rattle.grove_sorts.specs.declared.position.Position.{Position}
use Rattle.grove_sorts.specs.declared.sort.Sort.{Sort}
use Rattle.grove_sorts.specs.Ctor.{positions, sort_of_ctor}
use Rattle.grove_edits.specs.declared.vertex.Vertex.{Vertex}
use Rattle.grove_edits.specs.declared.edge.Edge.{Edge}
use Rattle.type_core.specs.Typ.{Typ}
use Rattle.type_core.specs.TypeTable.{IsTypeOf, type_at, KeepsTypes}
use Rattle.ctx_table.specs.Context.{Context}
use Rattle.ctx_table.specs.CtxTable.{KeepsContexts}
use Rattle.mark_step.specs.Scope.{Scope, scope_at}
use Rattle.mark_step.specs.Expression.{Wanted, Demanded}
use Rattle.mark_step.specs.Node.{wanted_at, demanded_at, IsModeOf}
use Rattle.judging.proofs.Kept.{number_kept, mode_kept, wanted_kept, scope_kept, scope_at-kept, demand_kept, demanded_at-kept, open_kept, opened_at-kept, given_kept}
use Rattle.judging.proofs.Running.{Agree, after}
use Rattle.kept_records.specs.Kept.{Kept, Records, expression_of}
use Rattle.mark_store.specs.declared.record.Record.{Record}
use Rattle.mark_store.specs.Places.{Places, value_at}
use Rattle.mark_incremental.specs.declared.frame.Frame.{Frame}
use Rattle.mark_incremental.specs.Reading.{kept_by, IsRecordOf, records_at, AreRecordsOf}
use Rattle.mark_incremental.specs.Walking.{Level, demands, IsFrameOf, AreFramesOf, IsAtPlace, IsLevel, AreLevels, meant, AreMadeOf, ReadsAs}

module _ (old new : List Typ) (oldc newc : List Context) (keeps : KeepsTypes old new) (keepsc : KeepsContexts oldc newc) where
  -- ---- records

  option_kept : {A B : Type 0} (f g : A → B) (P : A → Type 0) → ((a : A) → P a → f a ≡ g a) → (o : Option A) → IfSome o P → option_map f o ≡ option_map g o
  option_kept f g P same None is = refl
  option_kept f g P same (Some a) is = ap Some (same a is)

  if_kept : {A : Type 0} (P Q : A → Type 0) → ((a : A) → P a → Q a) → (o : Option A) → IfSome o P → IfSome o Q
  if_kept P Q gives None is = tt
  if_kept P Q gives (Some a) is = gives a is

  pub record_kept : (r : Record) → IsRecordOf old oldc r → IsRecordOf new newc r
  record_kept r is = record {
    ctx = scope_kept old new oldc newc keeps keepsc r.ctx is.ctx;
    mode = if_kept (IsModeOf old) (IsModeOf new) (mode_kept old new keeps) r.mode is.mode;
    typ = if_kept (IsTypeOf old) (IsTypeOf new) (number_kept old new keeps) r.typ is.typ;
  }

  pub kept_by-kept : (r : Record) → IsRecordOf old oldc r → kept_by new newc r ≡ kept_by old oldc r
  kept_by-kept r is =
      ap (λ (s : Scope). let k : Kept = record { scope = s; wanted = option_map (wanted_at new) r.mode; typ = option_map (type_at new) r.typ; mark = r.mark } in k)
      (scope_at-kept old new oldc newc keeps keepsc r.ctx is.ctx)
      ∙ ap (λ (w : Option Wanted). let k : Kept = record { scope = scope_at old oldc r.ctx; wanted = w; typ = option_map (type_at new) r.typ; mark = r.mark } in k)
      (option_kept (wanted_at new) (wanted_at old) (IsModeOf old) (wanted_kept old new keeps) r.mode is.mode)
      ∙ ap (λ (t : Option Typ). let k : Kept = record { scope = scope_at old oldc r.ctx; wanted = option_map (wanted_at old) r.mode; typ = t; mark = r.mark } in k)
      (option_kept (type_at new) (type_at old) (IsTypeOf old) (λ t h. keeps.types t h) r.typ is.typ)

  pub records_kept : (places : Places Record) → AreRecordsOf old oldc places → AreRecordsOf new newc places
  records_kept places are v = if_kept (IsRecordOf old oldc) (IsRecordOf new newc) record_kept (value_at places v) (are v)

  pub records_at-kept : (places : Places Record) → AreRecordsOf old oldc places → (v : Vertex) → records_at new newc places v ≡ records_at old oldc places v
  records_at-kept places are v = option_kept (kept_by new newc) (kept_by old oldc) (IsRecordOf old oldc) kept_by-kept (value_at places v) (are v)

  pub reads_as-kept : (places : Places Record) (records : Records) → AreRecordsOf old oldc places → ReadsAs new newc places records → ReadsAs old oldc places records
  reads_as-kept places records are reads v = reads v ∙ records_at-kept places are v

  -- ---- what is made

  pub made_kept : (made : List (Vertex × Record)) → AreMadeOf old oldc made → AreMadeOf new newc made
  made_kept [] are = tt
  made_kept (m ∷ ms) are = (record_kept m.1 are.0, made_kept ms are.1)

  pub meant-kept : (made : List (Vertex × Record)) → AreMadeOf old oldc made → meant new newc made ≡ meant old oldc made
  meant-kept [] are = refl
  meant-kept (m ∷ ms) are =
      ap (λ (k : Kept). (m.0, k) ∷ meant new newc ms) (kept_by-kept m.1 are.0) ∙ ap (λ ks. (m.0, kept_by old oldc m.1) ∷ ks) (meant-kept ms are.1)

  -- ---- what is open

  pub frame_kept : (fr : Frame) → IsFrameOf old oldc fr → IsFrameOf new newc fr
  frame_kept fr is = record {
    state = open_kept old new oldc newc keeps keepsc fr.state is.state;
    demand = demand_kept old new oldc newc keeps keepsc fr.demand is.demand;
    given = number_kept old new keeps fr.given.typ is.given;
    ctor = is.ctor;
  }

  pub frames_kept : (frs : List Frame) → AreFramesOf old oldc frs → AreFramesOf new newc frs
  frames_kept [] are = tt
  frames_kept (fr ∷ frs) are = (frame_kept fr are.0, frames_kept frs are.1)

  pub level_kept : (live : List Edge) (l : Level) (fr : Frame) → IsFrameOf old oldc fr → IsLevel live old oldc l fr → IsLevel live new newc l fr
  level_kept live l fr of is = record {
    vertex = is.vertex;
    stands = is.stands;
    agree = subst (λ d. Agree (sort_of_ctor l.vertex.ctor) d l.demanded) (sym demanded) is.agree;
    gave =
        opened_at-kept old new oldc newc keeps keepsc fr.state of.state ∙ is.gave
        ∙ ap (λ (d : Demanded). after l.vertex.ctor d (expression_of l.vertex l.forest l.demanded) l.forest (take fr.state.next (positions l.vertex.ctor))) (sym demanded);
    tail = is.tail;
    edges = is.edges;
    place = place;
    none_there = is.none_there;
  } where
    demanded : demanded_at new newc fr.state.demand ≡ demanded_at old oldc fr.state.demand
    demanded = demanded_at-kept old new oldc newc keeps keepsc fr.state.demand of.state.demand

    place : (p : Position × Sort) (ps : List (Position × Sort)) → drop fr.state.next (positions l.vertex.ctor) ≡ p ∷ ps → IsAtPlace live new newc l fr p
    place p ps at =
        let was = is.place p ps at in
        record {
          demand = subst (λ d. Agree p.1 d (demands l p.0)) (sym (demanded_at-kept old new oldc newc keeps keepsc fr.demand of.demand)) was.demand;
          done = was.done;
          held = was.held;
          several = was.several;
          gives = λ nil. given_kept old new keeps fr.given of.given ∙ was.gives nil;
        }

  pub levels_kept : (live : List Edge) (ls : List Level) (frs : List Frame) → AreFramesOf old oldc frs → AreLevels live old oldc ls frs → AreLevels live new newc ls frs
  levels_kept live [] [] of are = tt
  levels_kept live [] (fr ∷ frs) of are = are
  levels_kept live (l ∷ ls) [] of are = are
  levels_kept live (l ∷ ls) (fr ∷ frs) of are = (level_kept live l fr of.0 are.0, levels_kept live ls frs of.1 are.1)
