-- The actions of each author, one line after the other.
use Rattle.std.proofs.Common.{◌≡◌, ℕ, zero, suc, ◌+◌, ◌<◌, ◌≤◌, ◌==◌, Bool, true, false, List, [], ◌∷◌, ◌++◌, length, map, slice_get, drop, get_or, Some, None, inl, inr, cond, refl, sym, ap, ap₂, subst, ◌∙◌, append_assoc, append-nil, arith}
use Rattle.std.specs.Prelude.{if◌then◌else◌, slice_set}
use Rattle.std.specs.List.{AllByRecursion, position_from}
use Rattle.std.proofs.lemmas.Bool.{eqb-true, eq-eqb}
use Rattle.std.proofs.lemmas.Bool.Decides.{eqb_tells}
use Rattle.std.proofs.lemmas.List.{drop_more, drop_all}
use Rattle.std.proofs.lemmas.Option.{same_Some, none-some, slice_get_within, get_or_from_slice_get}
use Rattle.grove_edits.specs.declared.action.Action.{Action}
use Rattle.session_script.specs.declared.author.Declared.{Declared}
use Rattle.session_script.specs.declared.line.Line.{Line}
use Rattle.session_script.specs.declared.line.Line.TheVariants as line
use Rattle.session_script.specs.declared.line.SendLine.{SendLine}
use Rattle.session_script.specs.Session.{AllDiffer, author_numbers}
use Rattle.session_run.specs.declared.author_lines.AuthorLines.{AuthorLines}
use Rattle.session_run.specs.Calls.{actions_of}
use Rattle.session_run.specs.Workers.{told, told_in, with_action, authors_told, AreLinesOf}

-- what an author has so far, and its actions in the lines that are left
abbrev pub behind : List Line → Declared × List Action → Declared × List Action
behind lines t = (t.0, t.1 ++ actions_of t.0.author lines)

behind_empty : (lines : List Line) (authors : List Declared) → map (behind lines) (map (λ (d : Declared). (d, [])) authors) ≡ map (told_in lines) authors
behind_empty lines [] = refl
behind_empty lines (d ∷ ds) = ap (λ (ts : List (Declared × List Action)). told_in lines d ∷ ts) (behind_empty lines ds)

-- nobody has an action yet
pub none_grouped : (lines : List Line) (authors : List Declared) (all : List AuthorLines) → map told all ≡ map (λ (d : Declared). (d, [])) authors
    → map (behind lines) (map told all) ≡ map (told_in lines) authors
none_grouped lines authors all is = ap (map (behind lines)) is ∙ behind_empty lines authors

behind_action : (author : ℕ) (action : Action) (rest : List Line) (t : Declared × List Action) → behind (line.Author author action ∷ rest) t ≡ behind rest (with_action author action t)
behind_action author action rest t =
    let left = actions_of t.0.author rest in
    ap (λ (done : List Action). (t.0, done))
    (elim (author == t.0.author) as (λ b. t.1 ++ (if b then action ∷ left else left) ≡ (if b then t.1 ++ action ∷ [] else t.1) ++ left)
    [ true ↦ sym (append_assoc t.1 (action ∷ []) left) | false ↦ refl ])

behind_actions : (author : ℕ) (action : Action) (rest : List Line) (ts : List (Declared × List Action))
    → map (behind (line.Author author action ∷ rest)) ts ≡ map (behind rest) (map (with_action author action) ts)
behind_actions author action rest [] = refl
behind_actions author action rest (t ∷ ts) = ap₂ ◌∷◌ (behind_action author action rest t) (behind_actions author action rest ts)

behind_send : (send : SendLine) (rest : List Line) (ts : List (Declared × List Action)) → map (behind rest) ts ≡ map (behind (line.Send send ∷ rest)) ts
behind_send send rest [] = refl
behind_send send rest (t ∷ ts) = ap (λ (us : List (Declared × List Action)). behind rest t ∷ us) (behind_send send rest ts)

behind_nothing : (ts : List (Declared × List Action)) → map (behind []) ts ≡ ts
behind_nothing [] = refl
behind_nothing (t ∷ ts) = ap₂ ◌∷◌ (ap (λ (done : List Action). (t.0, done)) (append-nil t.1)) (behind_nothing ts)

numbers_behind : (rest : List Line) (all : List AuthorLines) → map (λ (t : Declared × List Action). t.0.author) (map (behind rest) (map told all)) ≡ authors_told all
numbers_behind rest [] = refl
numbers_behind rest (l ∷ ls) = ap (λ (ns : List ℕ). l.declared.author ∷ ns) (numbers_behind rest ls)

numbers_told_in : (lines : List Line) (authors : List Declared) → map (λ (t : Declared × List Action). t.0.author) (map (told_in lines) authors) ≡ author_numbers authors
numbers_told_in lines [] = refl
numbers_told_in lines (d ∷ ds) = ap (λ (ns : List ℕ). d.author ∷ ns) (numbers_told_in lines ds)

pub numbers_kept : (rest lines : List Line) (authors : List Declared) (all : List AuthorLines) → map (behind rest) (map told all) ≡ map (told_in lines) authors
    → authors_told all ≡ author_numbers authors
numbers_kept rest lines authors all is =
    sym (numbers_behind rest all) ∙ ap (map (λ (t : Declared × List Action). t.0.author)) is ∙ numbers_told_in lines authors

pub told_differ : (rest lines : List Line) (authors : List Declared) (all : List AuthorLines) → map (behind rest) (map told all) ≡ map (told_in lines) authors
    → AllDiffer (author_numbers authors) → AllDiffer (authors_told all)
told_differ rest lines authors all is differ = subst AllDiffer (sym (numbers_kept rest lines authors all is)) differ

module _ (lines : List Line) (authors : List Declared) (index : ℕ) (one : Line) (within : index < length lines) (is : one ≡ get_or lines index one) where
  from_line : drop index lines ≡ one ∷ drop (index + 1) lines
  from_line = drop_more lines index one within ∙ ap (λ (l : Line). l ∷ drop (index + 1) lines) (sym is)

  pub action_grouped : (author : ℕ) (action : Action) (all after : List AuthorLines) → one ≡ line.Author author action
      → map (behind (drop index lines)) (map told all) ≡ map (told_in lines) authors
      → map told after ≡ map (with_action author action) (map told all) → map (behind (drop (index + 1) lines)) (map told after) ≡ map (told_in lines) authors
  action_grouped author action all after same before added =
      let rest = drop (index + 1) lines in
      let here : drop index lines ≡ line.Author author action ∷ rest = from_line ∙ ap (λ (l : Line). l ∷ rest) same in
      ap (map (behind rest)) added ∙ sym (behind_actions author action rest (map told all))
      ∙ ap (λ (ls : List Line). map (behind ls) (map told all)) (sym here) ∙ before

  pub send_grouped : (send : SendLine) (all after : List AuthorLines) → one ≡ line.Send send → after ≡ all
      → map (behind (drop index lines)) (map told all) ≡ map (told_in lines) authors → map (behind (drop (index + 1) lines)) (map told after) ≡ map (told_in lines) authors
  send_grouped send all after same is_old before =
      let rest = drop (index + 1) lines in
      let here : drop index lines ≡ line.Send send ∷ rest = from_line ∙ ap (λ (l : Line). l ∷ rest) same in
      ap (λ (ls : List AuthorLines). map (behind rest) (map told ls)) is_old ∙ behind_send send rest (map told all)
      ∙ ap (λ (ls : List Line). map (behind ls) (map told all)) (sym here) ∙ before

pub all_grouped : (lines : List Line) (authors : List Declared) (index : ℕ) (all : List AuthorLines) → length lines ≤ index
    → map (behind (drop index lines)) (map told all) ≡ map (told_in lines) authors → AreLinesOf authors lines all
all_grouped lines authors index all end is =
    sym (behind_nothing (map told all)) ∙ ap (λ (ls : List Line). map (behind ls) (map told all)) (sym (drop_all index lines end)) ∙ is

-- ---- one action

differ_false : (a b : ℕ) → (a ≡ b → ⊥) → (a == b) ≡ false
differ_false a b apart = elim (eqb_tells a b) [ inl same ↦ absurd (apart same.1) | inr other ↦ other.0 ]

untouched : (author : ℕ) (action : Action) (all : List AuthorLines) → AllByRecursion (λ n. author ≡ n → ⊥) (authors_told all)
    → map (with_action author action) (map told all) ≡ map told all
untouched author action [] apart = refl
untouched author action (l ∷ ls) apart =
    ap₂ ◌∷◌
    (ap (λ (b : Bool). (l.declared, if b then l.actions.items ++ action ∷ [] else l.actions.items)) (differ_false author l.declared.author apart.0))
    (untouched author action ls apart.1)

apart_at : (number author : ℕ) (all : List AuthorLines) (k : ℕ) (one : AuthorLines) → AllByRecursion (λ n. number ≡ n → ⊥) (authors_told all)
    → slice_get all k ≡ Some one → one.declared.author ≡ author → author ≡ number → ⊥
apart_at number author [] k one apart here is same = none-some one here
apart_at number author (l ∷ ls) zero one apart here is same = apart.0 (sym same ∙ sym is ∙ ap (λ (x : AuthorLines). x.declared.author) (sym (same_Some l one here)))
apart_at number author (l ∷ ls) (suc k) one apart here is same = apart_at number author ls k one apart.1 here is same

added_at : (author : ℕ) (action : Action) (all : List AuthorLines) (k : ℕ) (one after : AuthorLines) → AllDiffer (authors_told all)
    → slice_get all k ≡ Some one → author ≡ one.declared.author → told after ≡ (one.declared, one.actions.items ++ action ∷ [])
    → map told (slice_set all k after) ≡ map (with_action author action) (map told all)
added_at author action [] k one after differ here is new = absurd (none-some one here)
added_at author action (l ∷ ls) zero one after differ here is new =
    let same : l ≡ one = same_Some l one here in
    let mine : author ≡ l.declared.author = is ∙ ap (λ (x : AuthorLines). x.declared.author) (sym same) in
    let first : told after ≡ with_action author action (told l) =
    new ∙ ap (λ (x : AuthorLines). (x.declared, x.actions.items ++ action ∷ [])) (sym same)
    ∙ ap (λ (b : Bool). (l.declared, if b then l.actions.items ++ action ∷ [] else l.actions.items)) (sym (eq-eqb author l.declared.author mine)) in
    ap₂ ◌∷◌ first (sym (untouched author action ls (subst (λ n. AllByRecursion (λ m. n ≡ m → ⊥) (authors_told ls)) (sym mine) differ.0)))
added_at author action (l ∷ ls) (suc k) one after differ here is new =
    let other : author ≡ l.declared.author → ⊥ = apart_at l.declared.author author ls k one differ.0 here (sym is) in
    ap₂ ◌∷◌
    (ap (λ (b : Bool). (l.declared, if b then l.actions.items ++ action ∷ [] else l.actions.items)) (sym (differ_false author l.declared.author other)))
    (added_at author action ls k one after differ.1 here is new)

abbrev pub is_of : ℕ → AuthorLines → Bool
is_of author lines = author == lines.declared.author

found : (author start place : ℕ) (all : List AuthorLines) → position_from (is_of author) start all ≡ Some place
    → (k : ℕ) × (one : AuthorLines) × (place ≡ start + k) × (slice_get all k ≡ Some one) × (author ≡ one.declared.author)
found author start place [] is = absurd (none-some place is)
found author start place (l ∷ ls) is =
    (elim (is_of author l) as (λ b. is_of author l ≡ b → cond b (Some start) (position_from (is_of author) (start + 1) ls) ≡ Some place
    → (k : ℕ) × (one : AuthorLines) × (place ≡ start + k) × (slice_get (l ∷ ls) k ≡ Some one) × (author ≡ one.declared.author)) [
      | true ↦ λ mine here. (0, l, (let same = same_Some start place here in omega arith), refl, eqb-true author l.declared.author mine)
      | false ↦ λ other there.
          let next = found author (start + 1) place ls there in
          (suc next.0, next.1, (let at = next.2 in omega arith), next.3, next.4)
    ]) refl is

pub not_found : (author start : ℕ) (all : List AuthorLines) → position_from (is_of author) start all ≡ None → AllByRecursion (λ n. author ≡ n → ⊥) (authors_told all)
not_found author start [] is = tt
not_found author start (l ∷ ls) is =
    (elim (is_of author l) as (λ b. is_of author l ≡ b → cond b (Some start) (position_from (is_of author) (start + 1) ls) ≡ None
    → AllByRecursion (λ n. author ≡ n → ⊥) (authors_told (l ∷ ls))) [
      | true ↦ λ mine here. absurd (none-some start (sym here))
      | false ↦ λ other there.
          ((λ same. absurd (true_false (sym (eq-eqb author l.declared.author same) ∙ other))), not_found author (start + 1) ls there)
    ]) refl is
  where
    true_false : true ≡ false → ⊥
    true_false is = cc

-- an action is added where its author stands
pub action_added : (author : ℕ) (action : Action) (all : List AuthorLines) (place : ℕ) (one after : AuthorLines) → AllDiffer (authors_told all)
    → position_from (is_of author) 0 all ≡ Some place → one ≡ get_or all place one → told after ≡ (one.declared, one.actions.items ++ action ∷ [])
    → map told (slice_set all place after) ≡ map (with_action author action) (map told all)
action_added author action all place one after differ is one_is new =
    let at = found author 0 place all is in
    let here : at.0 ≡ place = (let k = at.2 in omega arith) in
    let there : slice_get all place ≡ Some at.1 = subst (λ k. slice_get all k ≡ Some at.1) here at.3 in
    let same : at.1 ≡ one = sym (get_or_from_slice_get all place at.1 one there) ∙ sym one_is in
    added_at author action all place one after differ (there ∙ ap (λ (l : AuthorLines). Some l) same) (at.4 ∙ ap (λ (l : AuthorLines). l.declared.author) same) new

pub place_within : (author place : ℕ) (all : List AuthorLines) → position_from (is_of author) 0 all ≡ Some place → place < length all
place_within author place all is =
    let at = found author 0 place all is in
    let within = slice_get_within all at.0 at.1 at.3 in
    let k = at.2 in
    omega arith

pub no_action_added : (author : ℕ) (action : Action) (all : List AuthorLines) → position_from (is_of author) 0 all ≡ None
    → map told all ≡ map (with_action author action) (map told all)
no_action_added author action all none = sym (untouched author action all (not_found author 0 all none))
