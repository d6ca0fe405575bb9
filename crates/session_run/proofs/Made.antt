-- What a pass made, one step after the other.
use Rattle.std.proofs.Common.{◌≡◌, ℕ, suc, ◌+◌, ◌≤◌, List, [], ◌∷◌, ◌++◌, length, refl, sym, ap, subst, ◌∙◌, append_assoc, append-nil, arith}
use Rattle.std.proofs.lemmas.List.{map-append}
use Rattle.grove_edits.specs.declared.command.Command.{Command}
use Rattle.shared_replica.specs.Passes.{Call, Passing, Enters, EntersInTurns, all_calls}
use Rattle.author_desk.specs.Turns.{commands_of}
use Rattle.session_run.specs.Passes.{Makes}

module _ {M E R : Type 0} where
  pub makes_none : (pass : Passing M Command E R) → Makes pass pass []
  makes_none pass = record { shared = refl; actor = refl; parts = refl; joined = refl; made = sym (append-nil pass.made); left = omega arith }

  pub makes_entered : (before after : Passing M Command E R) (calls : List (Call Command R)) → Enters before after calls → Makes before after calls
  makes_entered before after calls h = record { shared = h.same.0; actor = h.same.1; parts = h.same.2; joined = h.same.3; made = h.made; left = h.left }

  pub makes_more : (before between after : Passing M Command E R) (xs ys : List (Call Command R)) → Makes before between xs → Makes between after ys → Makes before after (xs ++ ys)
  makes_more before between after xs ys h k = record {
    shared = k.shared ∙ h.shared;
    actor = k.actor ∙ h.actor;
    parts = k.parts ∙ h.parts;
    joined = k.joined ∙ h.joined;
    made = k.made ∙ ap (λ (cs : List (Call Command R)). cs ++ ys) h.made ∙ append_assoc before.made xs ys;
    left = (let one = h.left in let two = k.left in let both = length-append xs ys in omega arith);
  }
    where
      length-append : (xs ys : List (Call Command R)) → length (xs ++ ys) ≡ length xs + length ys
      length-append [] ys = omega arith
      length-append (x ∷ xs) ys = let more = length-append xs ys in omega (arith, more)

  -- the turns of a pass made the calls of all
  pub makes_in_turns : (before after : Passing M Command E R) (turns : List (List (Call Command R))) → EntersInTurns before after turns → Makes before after (all_calls turns)
  makes_in_turns before after [] h = subst (λ (p : Passing M Command E R). Makes before p []) h (makes_none before)
  makes_in_turns before after (calls ∷ turns) h =
      makes_more before h.0 after calls (all_calls turns) (makes_entered before h.0 calls h.1) (makes_in_turns h.0 after turns h.2)

  -- the pass made calls of these commands
  pub record HasMade (before after : Passing M Command E R) (commands : List Command) : Type 0 where
    pub calls : List (Call Command R)
    pub makes : Makes before after calls
    pub are : commands_of calls ≡ commands

  pub none_made : (pass : Passing M Command E R) → HasMade pass pass []
  none_made pass = record { calls = []; makes = makes_none pass; are = refl }

  pub one_made : (before between after : Passing M Command E R) (commands : List Command) (command : Command) (reply : R) → HasMade before between commands
      → Enters between after (record { command = command; reply = reply } ∷ []) → HasMade before after (commands ++ command ∷ [])
  one_made before between after commands command reply h entered =
      let call : Call Command R = record { command = command; reply = reply } in record {
        calls = h.calls ++ call ∷ [];
        makes = makes_more before between after h.calls (call ∷ []) h.makes (makes_entered between after (call ∷ []) entered);
        are = map-append (λ (c : Call Command R). c.command) h.calls (call ∷ []) ∙ ap (λ (cs : List Command). cs ++ command ∷ []) h.are;
      }

  -- calls are left for what is still to be made
  pub calls_left : (before now : Passing M Command E R) (commands : List Command) (more : ℕ) → HasMade before now commands → length commands + more ≤ before.calls → more ≤ now.calls
  calls_left before now commands more h fits =
      let left = h.makes.left in
      let many : length h.calls ≡ length commands = sym (length-commands h.calls) ∙ ap length h.are in
      omega arith
    where
      length-commands : (calls : List (Call Command R)) → length (commands_of calls) ≡ length calls
      length-commands [] = refl
      length-commands (c ∷ cs) = ap suc (length-commands cs)
