-- Lines of which the first turns were entered.
use Rattle.std.proofs.Common.{◌≡◌, ℕ, ◌+◌, ◌≤◌, List, [], ◌∷◌, ◌++◌, map, length, take, drop, refl, sym, ap, ap₂, ◌∙◌, subst, arith, append_assoc, append-nil, length-append}
use Rattle.std.proofs.lemmas.List.{map-append, length-map, take-append-drop}
use Rattle.std.proofs.lemmas.Grind.{flat_map-append}
use Rattle.grove_edits.specs.declared.action.Action.{Action}
use Rattle.grove_edits.specs.declared.command.Command.{Command}
use Rattle.grove_edits.specs.declared.command.Command.TheVariants.{Act}
use Rattle.shared_replica.specs.Passes.{Call, Passing, Enters, EntersAll, EntersInTurns, all_calls}
use Rattle.author_desk.specs.declared.cuts.Cuts.{Cuts}
use Rattle.author_desk.specs.Lines.{slots_named, slots_cut}
use Rattle.author_desk.specs.Turns.{turns_of, commands_of, EntersLines, EntersFirstLines}
use Rattle.author_desk.specs.Cuts.{opening_edits, CanRaise, Raises, RaisesFirst, StartsTurn}
use Rattle.author_desk.proofs.Raising.{raises_none, raises_both, still}

all_calls-append : {C R : Type 0} (ts us : List (List (Call C R))) → all_calls (ts ++ us) ≡ all_calls ts ++ all_calls us
all_calls-append [] us = refl
all_calls-append (t ∷ ts) us = ap (λ cs. t ++ cs) (all_calls-append ts us) ∙ sym (append_assoc t (all_calls ts) (all_calls us))

module _ {M C E R : Type 0} where
  abbrev pub IsSamePass : Passing M C E R → Passing M C E R → Type 0
  IsSamePass before after = (after.shared ≡ before.shared) × (after.actor ≡ before.actor) × (after.parts ≡ before.parts) × (after.joined ≡ before.joined)

  -- turns leave a pass its place
  pub turns_same : (b a : Passing M C E R) (ts : List (List (Call C R))) → EntersInTurns b a ts → IsSamePass b a
  turns_same b a [] e = subst (IsSamePass b) e (refl, refl, refl, refl)
  turns_same b a (t ∷ ts) e =
      let h : Enters b e.0 t = e.1 in
      let r : IsSamePass e.0 a = turns_same e.0 a ts e.2 in
      (r.0 ∙ h.same.0, r.1 ∙ h.same.1, r.2 ∙ h.same.2, r.3 ∙ h.same.3)

  turns_made : (b a : Passing M C E R) (ts : List (List (Call C R))) → EntersInTurns b a ts → a.made ≡ b.made ++ all_calls ts
  turns_made b a [] e = ap (λ (p : Passing M C E R). p.made) (sym e) ∙ sym (append-nil b.made)
  turns_made b a (t ∷ ts) e =
      let h : Enters b e.0 t = e.1 in
      turns_made e.0 a ts e.2 ∙ (ap (λ cs. cs ++ all_calls ts) h.made ∙ append_assoc b.made t (all_calls ts))

  turns_left : (b a : Passing M C E R) (ts : List (List (Call C R))) → EntersInTurns b a ts → a.calls + length (all_calls ts) ≡ b.calls
  turns_left b a [] e = let same = ap (λ (p : Passing M C E R). p.calls) e in omega arith
  turns_left b a (t ∷ ts) e =
      let h : Enters b e.0 t = e.1 in
      let had = h.left in
      let rest = turns_left e.0 a ts e.2 in
      let both = length-append t (all_calls ts) in
      omega arith

-- ---- the first turn

pub starts : (c c' : Cuts) (left turn behind : List Action) (n : ℕ) → turn ≡ take n left → behind ≡ drop n left → turns_of (opening_edits c) left ≡ take n left ∷ turns_of (opening_edits c) (drop n left)
    → Raises c c' (slots_cut (opening_edits c) (take n left)) → StartsTurn c c' left turn behind
starts c c' left turn behind n front back first raised =
    record {
      split = ap₂ (λ (xs ys : List Action). xs ++ ys) front back ∙ take-append-drop n left;
      first = first ∙ ap₂ (λ (xs ys : List Action). xs ∷ turns_of (opening_edits c) ys) (sym front) (sym back);
      raised = subst (λ xs. Raises c c' (slots_cut (opening_edits c) xs)) (sym front) raised;
    }

pub lengths : (c c' : Cuts) (lines turn behind : List Action) → StartsTurn c c' lines turn behind → length turn + length behind ≡ length lines
lengths c c' lines turn behind s = sym (length-append turn behind) ∙ ap length s.split

module _ {M E R : Type 0} where
  enters_both : (b m a : Passing M Command E R) (ts us : List (List (Call Command R))) → EntersInTurns b m ts → EntersInTurns m a us → EntersInTurns b a (ts ++ us)
  enters_both b m a [] us e h = subst (λ z. EntersInTurns z a us) (sym e) h
  enters_both b m a (t ∷ ts) us e h = (e.0, e.1, enters_both e.0 m a ts us e.2 h)

  -- nothing was entered, for want of memory
  pub enters_none : (p : Passing M Command E R) (lines : List Action) → EntersFirstLines p p lines
  enters_none p lines = ([], (map Act lines, refl), refl)

  -- one turn entered some of the lines
  pub enters_some : (p p' : Passing M Command E R) (lines : List Action) (commands taken rest : List Command) → commands ≡ map Act lines → taken ++ rest ≡ commands → EntersAll p p' taken → EntersFirstLines p p' lines
  enters_some p p' lines commands taken rest are split h =
      let same : commands_of (all_calls (h.0 ∷ [])) ≡ taken = ap commands_of (append-nil h.0) ∙ h.1 in
      (h.0 ∷ [], (rest, ap (λ cs. cs ++ rest) same ∙ (split ∙ are)), (p', h.2, refl))

  -- The pass has entered the turns before these lines that are left, and the slots that those cut are raised
  pub record IsUnderWay (before now : Passing M Command E R) (cuts cuts' : Cuts) (lines left : List Action) : Type 0 where
    pub done : List Action
    pub split : done ++ left ≡ lines
    pub turns : List (List (Call Command R))
    pub entered : EntersInTurns before now turns
    pub made : commands_of (all_calls turns) ≡ map Act done
    pub as_turns : map commands_of turns ++ map (map Act) (turns_of (opening_edits cuts) left) ≡ map (map Act) (turns_of (opening_edits cuts) lines)
    pub raised : Raises cuts cuts' (slots_cut (opening_edits cuts) done)
    pub room : length left ≤ now.calls

  pub begins : (p : Passing M Command E R) (cuts : Cuts) (lines : List Action) → length lines ≤ p.calls → IsUnderWay p p cuts cuts lines lines
  begins p cuts lines room =
      record {
        done = [];
        split = refl;
        turns = [];
        entered = refl;
        made = refl;
        as_turns = refl;
        raised = raises_none cuts;
        room = room;
      }

  -- what the next turn raises is added
  raised_with : (b p : Passing M Command E R) (c c' c'' : Cuts) (lines left turn : List Action) → CanRaise c → (u : IsUnderWay b p c c' lines left) → Raises c' c'' (slots_cut (opening_edits c') turn)
      → Raises c c'' (slots_cut (opening_edits c) (u.done ++ turn))
  raised_with b p c c' c'' lines left turn can u h =
      let es = opening_edits c in
      let same = (still c c' (slots_cut es u.done) can u.raised).1 in
      subst (Raises c c'') (sym (flat_map-append (slots_named es) u.done turn))
      (raises_both c c' c'' (slots_cut es u.done) (slots_cut es turn) u.raised (subst (λ e. Raises c' c'' (slots_cut e turn)) same h))

  -- one turn more
  pub goes_on : (b p p' : Passing M Command E R) (c c' c'' : Cuts) (lines left turn behind : List Action) → CanRaise c → IsUnderWay b p c c' lines left → StartsTurn c' c'' left turn behind → EntersAll p p' (map Act turn)
      → IsUnderWay b p' c c'' lines behind
  goes_on b p p' c c' c'' lines left turn behind can u s e =
      let es = opening_edits c in
      let is = s.split in
      let same = (still c c' (slots_cut es u.done) can u.raised).1 in
      let calls : List (Call Command R) = e.0 in
      let first' : turns_of es left ≡ turn ∷ turns_of es behind = subst (λ z. turns_of z left ≡ turn ∷ turns_of z behind) same s.first in
      let many : length calls ≡ length turn = sym (length-map calls (λ (call : Call Command R). call.command)) ∙ (ap length e.1 ∙ length-map turn Act) in
      let parts = lengths c' c'' left turn behind s in
      let had = e.2.left in
      let has = u.room in
      record {
        done = u.done ++ turn;
        split = append_assoc u.done turn behind ∙ (ap (λ xs. u.done ++ xs) is ∙ u.split);
        turns = u.turns ++ calls ∷ [];
        entered = enters_both b p p' u.turns (calls ∷ []) u.entered (p', e.2, refl);
        made =
            ap commands_of (all_calls-append u.turns (calls ∷ []) ∙ ap (λ cs. all_calls u.turns ++ cs) (append-nil calls))
            ∙ (map-append (λ (call : Call Command R). call.command) (all_calls u.turns) calls ∙ (ap (λ cs. cs ++ commands_of calls) u.made ∙ (ap (λ cs. map Act u.done ++ cs) e.1 ∙ sym (map-append Act u.done turn))));
        as_turns =
            ap (λ ts. ts ++ map (map Act) (turns_of es behind)) (map-append commands_of u.turns (calls ∷ []))
            ∙ (append_assoc (map commands_of u.turns) (commands_of calls ∷ []) (map (map Act) (turns_of es behind))
            ∙ (ap (λ cs. map commands_of u.turns ++ cs ∷ map (map Act) (turns_of es behind)) e.1
            ∙ (ap (λ ts. map commands_of u.turns ++ map (map Act) ts) (sym first') ∙ u.as_turns)));
        raised = raised_with b p c c' c'' lines left turn can u s.raised;
        room = omega arith;
      }

  -- a turn that memory did not suffice for
  pub enters_first : (b p p' : Passing M Command E R) (c c' : Cuts) (lines left turn behind : List Action) → IsUnderWay b p c c' lines left → turn ++ behind ≡ left → EntersFirstLines p p' turn → EntersFirstLines b p' lines
  enters_first b p p' c c' lines left turn behind u is h =
      let ts : List (List (Call Command R)) = h.0 in
      let more : commands_of (all_calls (u.turns ++ ts)) ≡ map Act u.done ++ commands_of (all_calls ts) =
      ap commands_of (all_calls-append u.turns ts) ∙ (map-append (λ (call : Call Command R). call.command) (all_calls u.turns) (all_calls ts) ∙ ap (λ cs. cs ++ commands_of (all_calls ts)) u.made) in
      let rest : List Command = h.1.0 in
      let cs = commands_of (all_calls ts) in
      let all : cs ++ (rest ++ map Act behind) ≡ map Act left = sym (append_assoc cs rest (map Act behind)) ∙ (ap (λ xs. xs ++ map Act behind) h.1.1 ∙ (sym (map-append Act turn behind) ∙ ap (map Act) is)) in (
        u.turns ++ ts,
        (
          rest ++ map Act behind,
          ap (λ xs. xs ++ (rest ++ map Act behind)) more
              ∙ (append_assoc (map Act u.done) cs (rest ++ map Act behind) ∙ (ap (λ xs. map Act u.done ++ xs) all ∙ (sym (map-append Act u.done left) ∙ ap (map Act) u.split))),
        ),
        enters_both b p p' u.turns ts u.entered h.2,
      )

  pub raises_first : (b p : Passing M Command E R) (c c' c'' : Cuts) (lines left turn behind : List Action) → CanRaise c → IsUnderWay b p c c' lines left → StartsTurn c' c'' left turn behind → RaisesFirst c c'' lines
  raises_first b p c c' c'' lines left turn behind can u s =
      (u.done ++ turn, (behind, append_assoc u.done turn behind ∙ (ap (λ xs. u.done ++ xs) s.split ∙ u.split)), raised_with b p c c' c'' lines left turn can u s.raised)

  -- nothing is left
  all_done : (b p : Passing M Command E R) (c c' : Cuts) (lines left : List Action) → (u : IsUnderWay b p c c' lines left) → left ≡ [] → u.done ≡ lines
  all_done b p c c' lines left u none = sym (append-nil u.done) ∙ (ap (λ xs. u.done ++ xs) (sym none) ∙ u.split)

  pub ends_entered : (b p : Passing M Command E R) (c c' : Cuts) (lines left : List Action) → IsUnderWay b p c c' lines left → left ≡ [] → EntersLines b p (opening_edits c) lines
  ends_entered b p c c' lines left u none =
      (u.turns, sym (append-nil (map commands_of u.turns)) ∙ (ap (λ xs. map commands_of u.turns ++ map (map Act) (turns_of (opening_edits c) xs)) (sym none) ∙ u.as_turns), u.entered)

  pub ends_raised : (b p : Passing M Command E R) (c c' : Cuts) (lines left : List Action) → IsUnderWay b p c c' lines left → left ≡ [] → Raises c c' (slots_cut (opening_edits c) lines)
  ends_raised b p c c' lines left u none =
      subst (λ xs. Raises c c' (slots_cut (opening_edits c) xs)) (all_done b p c c' lines left u none) u.raised

  pub ends_made : (b p : Passing M Command E R) (c c' : Cuts) (lines left : List Action) → IsUnderWay b p c c' lines left → left ≡ [] → commands_of p.made ≡ commands_of b.made ++ map Act lines
  ends_made b p c c' lines left u none =
      ap commands_of (turns_made b p u.turns u.entered)
      ∙ (map-append (λ (call : Call Command R). call.command) b.made (all_calls u.turns) ∙ ap (λ cs. commands_of b.made ++ cs) (u.made ∙ ap (map Act) (all_done b p c c' lines left u none)))

  pub ends_left : (b p : Passing M Command E R) (c c' : Cuts) (lines left : List Action) → IsUnderWay b p c c' lines left → left ≡ [] → p.calls + length lines ≡ b.calls
  ends_left b p c c' lines left u none =
      let fewer = turns_left b p u.turns u.entered in
      let many : length (all_calls u.turns) ≡ length lines =
      sym (length-map (all_calls u.turns) (λ (call : Call Command R). call.command)) ∙ (ap length u.made ∙ (length-map u.done Act ∙ ap length (all_done b p c c' lines left u none))) in
      omega arith
