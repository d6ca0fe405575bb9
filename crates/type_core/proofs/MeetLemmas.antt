-- The walk that meets two types, part by part.
use Rattle.std.proofs.Common.{◌≡◌, ℕ, ◌+◌, ◌<◌, true, Option, None, Some, List, [], ◌∷◌, ◌++◌, if◌then◌else◌, refl, sym, ap, subst, ◌∙◌, arith, true≢false}
use Rattle.type_core.specs.declared.former.Former.{Former}
use Rattle.type_core.specs.declared.heads.Pairing.{Pairing}
use Rattle.type_core.specs.declared.meeting.Part.{Part}
use Rattle.type_core.specs.declared.meeting.Part.TheVariants.{First, Second}
use Rattle.type_core.specs.declared.meeting.Step.{Step}
use Rattle.type_core.specs.declared.meeting.Step.TheVariants.{Done, Waits}
use Rattle.type_core.specs.declared.meeting.Waiting.{Waiting}
use Rattle.type_core.specs.declared.type_id.TypeId.{TypeId}
use Rattle.type_core.specs.Typ.{Typ, Pair, is_consistent, meet, pair_both}
use Rattle.type_core.specs.TypeTable.{IsTypeOf, type_at, KeepsTypes}
use Rattle.type_core.specs.Heads.{IsPairingOf, meet_of, HaveParts}
use Rattle.type_core.specs.Pairings.{is_consistent_pairing, type_size, pairing_size}
use Rattle.type_core.specs.Turns.{outcome, EachFits}
use Rattle.type_core.proofs.NodeLemmas.{IsTypeOf-kept}
use Rattle.type_core.proofs.PairingLemmas.{inconsistent_from_clash}
use Rattle.type_core.proofs.SettleLemmas.{type_size-positive}
use Rattle.type_core.proofs.TurnLemmas.{outcome-push, EachFits-push, EachFits-pop}
use Rattle.type_core.proofs.TypLemmas.{is_same_former-same}

pub consistent_not_clash : (table : List Typ) (p : Pairing) → is_consistent_pairing table p ≡ true → meet_of table p ≡ None → ⊥
consistent_not_clash table p c e = true≢false (sym c ∙ inconsistent_from_clash table p e)

-- a table that has grown tells the same of the pairings that it had
module _ (old new : List Typ) (kept : KeepsTypes old new) (p : Pairing) (within : IsPairingOf old p) where
  pub IsPairingOf-kept : IsPairingOf new p
  IsPairingOf-kept = (IsTypeOf-kept old new kept p.left within.0, IsTypeOf-kept old new kept p.right within.1)

  pub meet_of-kept : meet_of new p ≡ meet_of old p
  meet_of-kept = ap (λ l. meet l (type_at new p.right)) (kept.types p.left within.0) ∙ ap (meet (type_at old p.left)) (kept.types p.right within.1)

  pub is_consistent-kept : is_consistent_pairing new p ≡ is_consistent_pairing old p
  is_consistent-kept =
      ap (λ l. is_consistent l (type_at new p.right)) (kept.types p.left within.0) ∙ ap (is_consistent (type_at old p.left)) (kept.types p.right within.1)

abbrev from_part : List Typ → Former → Part → Option Typ → Option Typ
from_part table f (First second) m = pair_both f m (meet_of table second)
from_part table f (Second first) m = pair_both f (Some (type_at table first)) m

-- the meet of what waits, from that of the part that it waits for
abbrev pub with_part : List Typ → Waiting → Option Typ → Option Typ
with_part table w m = from_part table w.former w.part m

abbrev IsPartOf : List Typ → Part → Type 0
IsPartOf table (First second) = IsPairingOf table second
IsPartOf table (Second first) = IsTypeOf table first

abbrev pub WaitFits : List Typ → Waiting → Option Typ → Type 0
WaitFits table w m = IsPairingOf table w.pairing × IsPartOf table w.part × (meet_of table w.pairing ≡ with_part table w m)

abbrev pub step_meet : List Typ → Step → Option Typ
step_meet table (Done m) = Some (type_at table m)
step_meet table (Waits p) = meet_of table p

abbrev pub IsStepOf : List Typ → Step → Type 0
IsStepOf table (Done m) = IsTypeOf table m
IsStepOf table (Waits p) = IsPairingOf table p

-- the step and what waits for it lead to the meet of root
pub record IsMeeting (table : List Typ) (root : Pairing) (waiting : List Waiting) (step : Step) : Type 0 where
  pub within : IsStepOf table step
  pub each : EachFits (with_part table) (WaitFits table) waiting (step_meet table step)
  pub root_met : meet_of table root ≡ outcome (with_part table) waiting (step_meet table step)

-- what is left to do
abbrev part_size : List Typ → Part → ℕ
part_size table (First second) = pairing_size table second + 2
part_size table (Second first) = 1

abbrev waiting_size : List Typ → List Waiting → ℕ
waiting_size table [] = 0
waiting_size table (w ∷ ws) = part_size table w.part + waiting_size table ws

waiting_size-push : (table : List Typ) (ws : List Waiting) (w : Waiting) → waiting_size table (ws ++ w ∷ []) ≡ waiting_size table ws + part_size table w.part
waiting_size-push table [] w = omega arith
waiting_size-push table (x ∷ ws) w = let e = waiting_size-push table ws w in omega (arith, e)

abbrev step_size : List Typ → Step → ℕ
step_size table (Done m) = 0
step_size table (Waits p) = pairing_size table p

abbrev pub meeting_size : List Typ → List Waiting → Step → ℕ
meeting_size table waiting step = waiting_size table waiting + step_size table step

pub outcome-none : (table : List Typ) (waiting : List Waiting) → outcome (with_part table) waiting None ≡ None
outcome-none table [] = refl
outcome-none table (w ∷ ws) = ap (with_part table w) (outcome-none table ws) ∙ none w.former w.part
  where
    none : (f : Former) (part : Part) → from_part table f part None ≡ None
    none f (First second) = refl
    none f (Second first) = refl

-- where the table grows
module _ (old new : List Typ) (kept : KeepsTypes old new) where
  from_part-kept : (f : Former) (part : Part) (m : Option Typ) → IsPartOf old part → from_part new f part m ≡ from_part old f part m
  from_part-kept f (First second) m within = ap (pair_both f m) (meet_of-kept old new kept second within)
  from_part-kept f (Second first) m within = ap (λ t. pair_both f (Some t) m) (kept.types first within)

  IsPartOf-kept : (part : Part) → IsPartOf old part → IsPartOf new part
  IsPartOf-kept (First second) within = IsPairingOf-kept old new kept second within
  IsPartOf-kept (Second first) within = IsTypeOf-kept old new kept first within

  part_size-kept : (part : Part) → IsPartOf old part → part_size new part ≡ part_size old part
  part_size-kept (First second) within = ap (λ t. type_size t + 2) (kept.types second.left within.0)
  part_size-kept (Second first) within = refl

  pub outcome-kept : (waiting : List Waiting) (m : Option Typ) → EachFits (with_part old) (WaitFits old) waiting m → outcome (with_part new) waiting m ≡ outcome (with_part old) waiting m
  outcome-kept [] m each = refl
  outcome-kept (w ∷ ws) m each =
      ap (with_part new w) (outcome-kept ws m each.1) ∙ from_part-kept w.former w.part (outcome (with_part old) ws m) each.0.1

  pub EachFits-kept : (waiting : List Waiting) (m : Option Typ) → EachFits (with_part old) (WaitFits old) waiting m → EachFits (with_part new) (WaitFits new) waiting m
  EachFits-kept [] m each = tt
  EachFits-kept (w ∷ ws) m each = (
    (
      IsPairingOf-kept old new kept w.pairing each.0.0,
      IsPartOf-kept w.part each.0.1,
      meet_of-kept old new kept w.pairing each.0.0 ∙ each.0.2 ∙ sym (from_part-kept w.former w.part (outcome (with_part old) ws m) each.0.1)
          ∙ ap (with_part new w) (sym (outcome-kept ws m each.1)),
    ),
    EachFits-kept ws m each.1,
  )

  pub waiting_size-kept : (waiting : List Waiting) (m : Option Typ) → EachFits (with_part old) (WaitFits old) waiting m → waiting_size new waiting ≡ waiting_size old waiting
  waiting_size-kept [] m each = refl
  waiting_size-kept (w ∷ ws) m each =
      let this = part_size-kept w.part each.0.1 in let rest = waiting_size-kept ws m each.1 in omega (arith, this, rest)

-- the meet of two types of one form is that of their parts
meet_of-parts : (table : List Typ) (p : Pairing) (f : Former) (first second : Pairing) → HaveParts table p f first second → meet_of table p ≡ pair_both f (meet_of table first) (meet_of table second)
meet_of-parts table p f first second parts =
    ap (λ t. meet t (type_at table p.right)) parts.left ∙ ap (meet (Pair f (type_at table first.left) (type_at table second.left))) parts.right
    ∙ ap (λ b. if b then pair_both f (meet_of table first) (meet_of table second) else None) (is_same_former-same f)

module _ (table : List Typ) (root : Pairing) (waiting : List Waiting) (step : Step) (walk : IsMeeting table root waiting step) where
  IsMeeting-at : (s : Step) → step ≡ s → IsMeeting table root waiting s
  IsMeeting-at s is = subst (IsMeeting table root waiting) is walk

  -- the walk waits for the meet of p
  module _ (p : Pairing) (is : step ≡ Waits p) where
    pub not_apart : is_consistent_pairing table root ≡ true → meet_of table p ≡ None → ⊥
    not_apart consistent none =
        consistent_not_clash table root consistent ((IsMeeting-at (Waits p) is).root_met ∙ ap (outcome (with_part table) waiting) none ∙ outcome-none table waiting)

    pub met_smaller : (m : TypeId) → meeting_size table waiting (Done m) < meeting_size table waiting step
    met_smaller m =
        let size = ap (meeting_size table waiting) is in
        let some = type_size-positive (type_at table p.left) in
        omega (arith, size, some)

    module _ (f : Former) (first second : Pairing) (parts : HaveParts table p f first second) where
      abbrev pub waits : Waiting
      waits = record { pairing = p; former = f; part = First second }

      pub IsMeeting-parts : IsMeeting table root (waiting ++ waits ∷ []) (Waits first)
      IsMeeting-parts =
          let at = IsMeeting-at (Waits p) is in
          let meets = meet_of-parts table p f first second parts in
          record {
            within = parts.first_within;
            each = EachFits-push (with_part table) (WaitFits table) waiting waits (meet_of table first) (subst (EachFits (with_part table) (WaitFits table) waiting) meets at.each)
                (at.within, parts.second_within, meets);
            root_met = at.root_met ∙ ap (outcome (with_part table) waiting) meets ∙ sym (outcome-push (with_part table) waiting waits (meet_of table first));
          }

      pub parts_smaller : (more : List Waiting) → more ≡ waiting ++ waits ∷ [] → meeting_size table more (Waits first) < meeting_size table waiting step
      parts_smaller more pushed =
          let of_step = ap (step_size table) is in
          let of_parts = ap type_size parts.left in
          let of_more = ap (waiting_size table) pushed in
          let one_more = waiting_size-push table waiting waits in
          omega (arith, of_step, of_parts, of_more, one_more)

  -- the walk has met the parts for which the last one waited
  module _ (m : TypeId) (is : step ≡ Done m) (rest : List Waiting) (last : Waiting) (popped : waiting ≡ rest ++ last ∷ []) where
    last_of : EachFits (with_part table) (WaitFits table) rest (with_part table last (Some (type_at table m))) × WaitFits table last (Some (type_at table m))
    last_of =
        EachFits-pop (with_part table) (WaitFits table) rest last (Some (type_at table m))
        (subst (λ ws. EachFits (with_part table) (WaitFits table) ws (Some (type_at table m))) popped (IsMeeting-at (Done m) is).each)

    last_met : meet_of table root ≡ outcome (with_part table) rest (with_part table last (Some (type_at table m)))
    last_met =
        (IsMeeting-at (Done m) is).root_met ∙ ap (λ ws. outcome (with_part table) ws (Some (type_at table m))) popped ∙ outcome-push (with_part table) rest last (Some (type_at table m))

    pub last_within : IsPairingOf table last.pairing
    last_within = last_of.1.0

    module _ (second : Pairing) (part : last.part ≡ First second) where
      abbrev pub waits_again : Waiting
      waits_again = record { pairing = last.pairing; former = last.former; part = Second m }

      met : with_part table last (Some (type_at table m)) ≡ with_part table waits_again (meet_of table second)
      met = ap (λ x. from_part table last.former x (Some (type_at table m))) part

      pub IsMeeting-first : IsMeeting table root (rest ++ waits_again ∷ []) (Waits second)
      IsMeeting-first = record {
        within = subst (IsPartOf table) part last_of.1.1;
        each = EachFits-push (with_part table) (WaitFits table) rest waits_again (meet_of table second) (subst (EachFits (with_part table) (WaitFits table) rest) met last_of.0)
            (last_of.1.0, (IsMeeting-at (Done m) is).within, last_of.1.2 ∙ met);
        root_met = last_met ∙ ap (outcome (with_part table) rest) met ∙ sym (outcome-push (with_part table) rest waits_again (meet_of table second));
      }

      pub first_smaller : (more : List Waiting) → more ≡ rest ++ waits_again ∷ [] → meeting_size table more (Waits second) < meeting_size table waiting step
      first_smaller more pushed =
          let of_step = ap (step_size table) is in
          let of_last = ap (part_size table) part in
          let of_waiting = ap (waiting_size table) popped in
          let one_less = waiting_size-push table rest last in
          let of_more = ap (waiting_size table) pushed in
          let one_more = waiting_size-push table rest waits_again in
          omega (arith, of_step, of_last, of_waiting, one_less, of_more, one_more)

    module _ (first : TypeId) (part : last.part ≡ Second first) where
      pub first_within : IsTypeOf table first
      first_within = subst (IsPartOf table) part last_of.1.1

      pub last_meet : meet_of table last.pairing ≡ Some (Pair last.former (type_at table first) (type_at table m))
      last_meet = last_of.1.2 ∙ ap (λ x. from_part table last.former x (Some (type_at table m))) part

      module _ (new : List Typ) (kept : KeepsTypes table new) (both : TypeId) where
        pub IsMeeting-second : IsPairingOf table root → IsTypeOf new both → meet_of table last.pairing ≡ Some (type_at new both) → IsMeeting new root rest (Done both)
        IsMeeting-second within number is_meet =
            (let here = subst (EachFits (with_part table) (WaitFits table) rest) same last_of.0 in record {
              within = number;
              each = EachFits-kept table new kept rest (Some (type_at new both)) here;
              root_met = meet_of-kept table new kept root within ∙ last_met ∙ ap (outcome (with_part table) rest) same ∙ sym (outcome-kept table new kept rest (Some (type_at new both)) here);
            })
          where
            same : with_part table last (Some (type_at table m)) ≡ Some (type_at new both)
            same = sym last_of.1.2 ∙ is_meet

        pub second_smaller : meeting_size new rest (Done both) < meeting_size table waiting step
        second_smaller =
            let kept_size = waiting_size-kept table new kept rest (with_part table last (Some (type_at table m))) last_of.0 in
            let size = ap (λ ws. meeting_size table ws step) popped in
            let pushed = waiting_size-push table rest last in
            let of_last = ap (part_size table) part in
            let of_step = ap (step_size table) is in
            omega (arith, kept_size, size, pushed, of_last, of_step)
