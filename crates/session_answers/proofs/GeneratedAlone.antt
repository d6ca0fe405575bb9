-- In generated sessions nobody meets anybody: each replica has one author in the first block, and one sender in each later one.
use Rattle.std.proofs.Common.{◌≡◌, ◌⊎◌, inl, inr, ℕ, zero, suc, ◌+◌, ◌<◌, Bool, true, false, List, [], ◌∷◌, ◌++◌, slice_get, Some, refl, sym, ap, subst, ◌∙◌, arith}
use Rattle.std.specs.Prelude.{slice_index_or}
use Rattle.std.specs.List.{AllByRecursion, Contains}
use Rattle.grove_edits.specs.declared.edit.Edit.{Edit}
use Rattle.grove_edits.specs.declared.actor.Actor.TheVariants.{Host, Author, Send}
use Rattle.session_script.specs.declared.author.Declared.{Declared}
use Rattle.session_script.specs.declared.item.Item.{Item}
use Rattle.session_script.specs.declared.item.Item.TheVariants as item
use Rattle.session_script.specs.declared.line.Line.{Line}
use Rattle.session_script.specs.declared.line.SendLine.{SendLine}
use Rattle.session_script.specs.declared.session.Session.{Session}
use Rattle.session_run.specs.Calls.{Stage, sends_of}
use Rattle.session_report.specs.Legal.{next_send}
use Rattle.session_report.specs.Alone.{HasOneActor, IsWithoutMeetings}
use Rattle.session_gen.specs.Items.{IsLoad, declared, acting, sending}
use Rattle.session_gen.specs.Parts.{HasParts, blocks}

-- ---- one author at each replica

placed_at : (author replica k : ℕ) → k < 3 → slice_index_or declared k (record { author = author; replica = replica }) ≡ record { author = author; replica = replica } → author ≡ replica + 4
placed_at author replica zero within is = omega (arith, ap (λ (d : Declared). d.author) is, ap (λ (d : Declared). d.replica) is)
placed_at author replica (suc zero) within is = omega (arith, ap (λ (d : Declared). d.author) is, ap (λ (d : Declared). d.replica) is)
placed_at author replica (suc (suc zero)) within is = omega (arith, ap (λ (d : Declared). d.author) is, ap (λ (d : Declared). d.replica) is)
placed_at author replica (suc (suc (suc k))) within is = absurd (omega arith)

placed : (author replica : ℕ) → Contains declared (record { author = author; replica = replica }) → author ≡ replica + 4
placed author replica at = placed_at author replica at.0 at.1 at.2

no_send : (index : ℕ) (send : SendLine) → slice_get [] index ≡ Some send → ⊥
no_send index send is = cc

abbrev stage : List Declared → List Line → ℕ → List (List Edit) → ℕ → Stage
stage authors lines first_send sources replica = record { authors = authors; lines = lines; first_send = first_send; sources = sources; replica = replica }

acting_alone : (first_send : ℕ) (sources : List (List Edit)) (replica : ℕ) → HasOneActor (stage declared acting first_send sources replica)
acting_alone first_send sources replica Host b asks also = absurd asks
acting_alone first_send sources replica (Send number) b asks also = absurd (no_send asks.1.index asks.0 asks.1.is_line)
acting_alone first_send sources replica (Author author) Host asks also = absurd also
acting_alone first_send sources replica (Author author) (Send number) asks also = absurd (no_send also.1.index also.0 also.1.is_line)
acting_alone first_send sources replica (Author author) (Author other) asks also = ap Author (placed author replica asks.0 ∙ sym (placed other replica also.0))

-- ---- one sender to each replica

target_injective : (a b : SendLine) → Some a ≡ Some b → a.to ≡ b.to
target_injective a b is = let same : a ≡ b = cc in ap (λ (s : SendLine). s.to) same

-- the index of a `send` line follows from its target
sent_to : (reverse twice : Bool) (index : ℕ) (send : SendLine) (replica : ℕ) → slice_get (sends_of (sending reverse twice)) index ≡ Some send → send.to ≡ replica
    → ((index ≡ 0) × (replica ≡ 1)) ⊎ (((index ≡ 1) × (replica ≡ 2)) ⊎ ((index ≡ 2) × (replica ≡ 0)))
sent_to reverse twice zero send replica is here = inl (refl, sym here ∙ sym (target_injective _ send is))
sent_to reverse twice (suc zero) send replica is here = inr (inl (refl, sym here ∙ sym (target_injective _ send is)))
sent_to reverse twice (suc (suc zero)) send replica is here = inr (inr (refl, sym here ∙ sym (target_injective _ send is)))
sent_to reverse twice (suc (suc (suc k))) send replica is here = absurd (no_send k send is)

one_index : (i j replica : ℕ) → ((i ≡ 0) × (replica ≡ 1)) ⊎ (((i ≡ 1) × (replica ≡ 2)) ⊎ ((i ≡ 2) × (replica ≡ 0)))
    → ((j ≡ 0) × (replica ≡ 1)) ⊎ (((j ≡ 1) × (replica ≡ 2)) ⊎ ((j ≡ 2) × (replica ≡ 0))) → i ≡ j
one_index i j replica (inl a) (inl b) = a.0 ∙ sym b.0
one_index i j replica (inl a) (inr (inl b)) = absurd (omega (arith, a.1, b.1))
one_index i j replica (inl a) (inr (inr b)) = absurd (omega (arith, a.1, b.1))
one_index i j replica (inr (inl a)) (inl b) = absurd (omega (arith, a.1, b.1))
one_index i j replica (inr (inl a)) (inr (inl b)) = a.0 ∙ sym b.0
one_index i j replica (inr (inl a)) (inr (inr b)) = absurd (omega (arith, a.1, b.1))
one_index i j replica (inr (inr a)) (inl b) = absurd (omega (arith, a.1, b.1))
one_index i j replica (inr (inr a)) (inr (inl b)) = absurd (omega (arith, a.1, b.1))
one_index i j replica (inr (inr a)) (inr (inr b)) = a.0 ∙ sym b.0

sending_alone : (reverse twice : Bool) (first_send : ℕ) (sources : List (List Edit)) (replica : ℕ) → HasOneActor (stage declared (sending reverse twice) first_send sources replica)
sending_alone reverse twice first_send sources replica Host b asks also = absurd asks
sending_alone reverse twice first_send sources replica (Author author) b asks also = absurd (asks.1 refl)
sending_alone reverse twice first_send sources replica (Send number) Host asks also = absurd also
sending_alone reverse twice first_send sources replica (Send number) (Author author) asks also = absurd (also.1 refl)
sending_alone reverse twice first_send sources replica (Send number) (Send other) asks also =
    let index = one_index asks.1.index also.1.index replica (sent_to reverse twice asks.1.index asks.0 replica asks.1.is_line asks.1.is_here) (sent_to reverse twice also.1.index also.0 replica also.1.is_line also.1.is_here) in
    ap Send (asks.1.is_number ∙ ap (λ i. first_send + i) index ∙ sym also.1.is_number)

-- ---- all blocks

abbrev IsAlone : Item → Type 0
IsAlone (item.Block block) = (first_send : ℕ) (sources : List (List Edit)) (replica : ℕ) → HasOneActor (stage declared block.lines first_send sources replica)
IsAlone _ = Unit {0}

loads_alone : (loads : List Item) → AllByRecursion IsLoad loads → AllByRecursion IsAlone (loads ++ blocks)
loads_alone [] all = (acting_alone, (sending_alone false false, (sending_alone true true, tt)))
loads_alone (item.Load replica edit ∷ loads) all = (tt, loads_alone loads all.1)
loads_alone (other ∷ loads) all = absurd all.0

-- what holds of all items holds of one between others
between : (before after : List Item) (next : Item) → AllByRecursion IsAlone (before ++ next ∷ after) → IsAlone next
between [] after next all = all.0
between (x ∷ before) after next all = between before after next all.1

pub generated_alone : (count : ℕ) (session : Session) → HasParts count session → IsWithoutMeetings session
generated_alone count session parts before after block sources replica are within =
    let all : AllByRecursion IsAlone (before ++ item.Block block ∷ after) = subst (AllByRecursion IsAlone) (sym parts.items ∙ are) (loads_alone parts.loads parts.are_loads.each) in
    subst (λ (authors : List Declared). HasOneActor (stage authors block.lines (next_send before) sources replica)) (sym parts.authors)
    (between before after (item.Block block) all (next_send before) sources replica)
