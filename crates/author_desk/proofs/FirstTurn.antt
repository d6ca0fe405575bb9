-- The first turn of some lines.
use Rattle.std.proofs.Common.{◌≡◌, ℕ, zero, suc, ◌+◌, ◌<◌, ◌≤◌, Bool, true, false, cond, List, [], ◌∷◌, ◌++◌, length, get_or, take, drop, refl, sym, ap, ◌∙◌, arith, append_assoc, append-nil}
use Rattle.std.specs.List.{AllByRecursion, flat_map}
use Rattle.grove_edits.specs.declared.action.Action.{Action}
use Rattle.grove_edits.specs.declared.edit.Edit.{Edit}
use Rattle.author_desk.specs.Lines.{slots_named, slots_cut, is_opening_cut}
use Rattle.author_desk.specs.Turns.{in_first_turn, turns_of, IsTurn, EndsAtOther, AreLongest}

abbrev pub AreOpeningCuts : List Edit → List Action → Type 0
AreOpeningCuts es lines = AllByRecursion (λ line. is_opening_cut es line ≡ true) lines

cut_first : (es : List Edit) (x : Action) (xs : List Action) → is_opening_cut es x ≡ true → turns_of es (x ∷ xs) ≡ in_first_turn x (turns_of es xs)
cut_first es x xs is = ap (λ (b : Bool). cond b (in_first_turn x (turns_of es xs)) ((x ∷ []) ∷ turns_of es xs)) is

other_first : (es : List Edit) (x : Action) (xs : List Action) → is_opening_cut es x ≡ false → turns_of es (x ∷ xs) ≡ (x ∷ []) ∷ turns_of es xs
other_first es x xs is = ap (λ (b : Bool). cond b (in_first_turn x (turns_of es xs)) ((x ∷ []) ∷ turns_of es xs)) is

-- the first line that is no opening cut ends the turn
pub turn_at : (es : List Edit) (xs : List Action) (i n : ℕ) (x : Action) → i < length xs → n ≡ i + 1 → get_or xs i x ≡ x → AreOpeningCuts es (take i xs) → is_opening_cut es x ≡ false
    → turns_of es xs ≡ take n xs ∷ turns_of es (drop n xs)
turn_at es [] i n x lt e at all is = absurd (omega arith)
turn_at es (y ∷ ys) i zero x lt e at all is = absurd (omega arith)
turn_at es (y ∷ ys) zero (suc zero) x lt e at all is = other_first es y ys (ap (is_opening_cut es) at ∙ is)
turn_at es (y ∷ ys) zero (suc (suc n)) x lt e at all is = absurd (omega arith)
turn_at es (y ∷ ys) (suc i) (suc n) x lt e at all is = cut_first es y ys all.0 ∙ ap (in_first_turn y) (turn_at es ys i n x (omega arith) (omega arith) at all.1 is)

-- where all lines are opening cuts, they are one turn
pub one_turn : (es : List Edit) (xs : List Action) (n : ℕ) → 1 ≤ length xs → length xs ≤ n → AreOpeningCuts es (take n xs) → turns_of es xs ≡ take (length xs) xs ∷ turns_of es (drop (length xs) xs)
one_turn es [] n some le all = absurd (omega arith)
one_turn es (x ∷ xs) zero some le all = absurd (omega arith)
one_turn es (x ∷ []) (suc n) some le all = cut_first es x [] all.0
one_turn es (x ∷ y ∷ ys) (suc n) some le all = cut_first es x (y ∷ ys) all.0 ∙ ap (in_first_turn x) (one_turn es (y ∷ ys) n (omega arith) (omega arith) all.1)

pub cuts_more : (es : List Edit) (xs : List Action) (i n : ℕ) (x : Action) → i < length xs → n ≡ i + 1 → get_or xs i x ≡ x → AreOpeningCuts es (take i xs) → is_opening_cut es x ≡ true → AreOpeningCuts es (take n xs)
cuts_more es [] i n x lt e at all is = absurd (omega arith)
cuts_more es (y ∷ ys) i zero x lt e at all is = absurd (omega arith)
cuts_more es (y ∷ ys) zero (suc zero) x lt e at all is = (ap (is_opening_cut es) at ∙ is, tt)
cuts_more es (y ∷ ys) zero (suc (suc n)) x lt e at all is = absurd (omega arith)
cuts_more es (y ∷ ys) (suc i) (suc n) x lt e at all is = (all.0, cuts_more es ys i n x (omega arith) (omega arith) at all.1 is)

pub slots_more : (es : List Edit) (xs : List Action) (i n : ℕ) (x : Action) → i < length xs → n ≡ i + 1 → get_or xs i x ≡ x → slots_cut es (take n xs) ≡ slots_cut es (take i xs) ++ slots_named es x
slots_more es [] i n x lt e at = absurd (omega arith)
slots_more es (y ∷ ys) i zero x lt e at = absurd (omega arith)
slots_more es (y ∷ ys) zero (suc zero) x lt e at = append-nil (slots_named es y) ∙ ap (slots_named es) at
slots_more es (y ∷ ys) zero (suc (suc n)) x lt e at = absurd (omega arith)
slots_more es (y ∷ ys) (suc i) (suc n) x lt e at =
    ap (λ slots. slots_named es y ++ slots) (slots_more es ys i n x (omega arith) (omega arith) at) ∙ sym (append_assoc (slots_named es y) (slots_cut es (take i ys)) (slots_named es x))

-- ---- all turns

with_first : (x : Action) (ts : List (List Action)) → flat_map (λ turn. turn) (in_first_turn x ts) ≡ x ∷ flat_map (λ turn. turn) ts
with_first x [] = refl
with_first x (t ∷ ts) = refl

pub all_lines : (es : List Edit) (xs : List Action) → flat_map (λ turn. turn) (turns_of es xs) ≡ xs
all_lines es [] = refl
all_lines es (x ∷ xs) = by_test (is_opening_cut es x) (all_lines es xs) where
  by_test : (b : Bool) → flat_map (λ turn. turn) (turns_of es xs) ≡ xs → flat_map (λ turn. turn) (cond b (in_first_turn x (turns_of es xs)) ((x ∷ []) ∷ turns_of es xs)) ≡ x ∷ xs
  by_test true rest = with_first x (turns_of es xs) ∙ ap (λ ys. x ∷ ys) rest
  by_test false rest = ap (λ ys. x ∷ ys) rest

with_cut : (es : List Edit) (x : Action) (ts : List (List Action)) → is_opening_cut es x ≡ true → AllByRecursion (IsTurn es) ts → AllByRecursion (IsTurn es) (in_first_turn x ts)
with_cut es x [] is all = (tt, tt)
with_cut es x ([] ∷ ts) is all = absurd all.0
with_cut es x ((y ∷ ys) ∷ ts) is all = ((is, all.0), all.1)

pub all_runs : (es : List Edit) (xs : List Action) → AllByRecursion (IsTurn es) (turns_of es xs)
all_runs es [] = tt
all_runs es (x ∷ xs) = by_test (is_opening_cut es x) refl (all_runs es xs) where
  by_test : (b : Bool) → is_opening_cut es x ≡ b → AllByRecursion (IsTurn es) (turns_of es xs) → AllByRecursion (IsTurn es) (cond b (in_first_turn x (turns_of es xs)) ((x ∷ []) ∷ turns_of es xs))
  by_test true is rest = with_cut es x (turns_of es xs) is rest
  by_test false is rest = (tt, rest)

longest_with : (es : List Edit) (x : Action) (ts : List (List Action)) → AllByRecursion (IsTurn es) ts → AreLongest es ts → AreLongest es (in_first_turn x ts)
longest_with es x [] all h = tt
longest_with es x (t ∷ []) all h = tt
longest_with es x ([] ∷ u ∷ ts) all h = absurd all.0
longest_with es x ((y ∷ ys) ∷ u ∷ ts) all h = h

longest_behind : (es : List Edit) (x : Action) (ts : List (List Action)) → is_opening_cut es x ≡ false → AreLongest es ts → AreLongest es ((x ∷ []) ∷ ts)
longest_behind es x [] is h = tt
longest_behind es x (t ∷ ts) is h = (is, h)

pub all_longest : (es : List Edit) (xs : List Action) → AreLongest es (turns_of es xs)
all_longest es [] = tt
all_longest es (x ∷ xs) = by_test (is_opening_cut es x) refl (all_longest es xs) where
  by_test : (b : Bool) → is_opening_cut es x ≡ b → AreLongest es (turns_of es xs) → AreLongest es (cond b (in_first_turn x (turns_of es xs)) ((x ∷ []) ∷ turns_of es xs))
  by_test true is rest = longest_with es x (turns_of es xs) (all_runs es xs) rest
  by_test false is rest = longest_behind es x (turns_of es xs) is rest

-- a turn before others begins the turns of all lines
first_is : (es : List Edit) (t : List Action) (ts : List (List Action)) (rest : List Action) → IsTurn es t → EndsAtOther es t → ts ≡ turns_of es rest → t ∷ ts ≡ turns_of es (t ++ rest)
first_is es [] ts rest run ends is = absurd run
first_is es (x ∷ []) ts rest run ends is = ap (λ us. (x ∷ []) ∷ us) is ∙ sym (other_first es x rest ends)
first_is es (x ∷ y ∷ ys) ts rest run ends is = ap (in_first_turn x) (first_is es (y ∷ ys) ts rest run.1 ends is) ∙ sym (cut_first es x (y ∷ (ys ++ rest)) run.0)

-- and so does the last one, wherever it ends
last_is : (es : List Edit) (t : List Action) → IsTurn es t → t ∷ [] ≡ turns_of es (t ++ [])
last_is es [] run = absurd run
last_is es (x ∷ []) run = by_test (is_opening_cut es x) where
  by_test : (b : Bool) → (x ∷ []) ∷ [] ≡ cond b ((x ∷ []) ∷ []) ((x ∷ []) ∷ [])
  by_test true = refl
  by_test false = refl
last_is es (x ∷ y ∷ ys) run = ap (in_first_turn x) (last_is es (y ∷ ys) run.1) ∙ sym (cut_first es x (y ∷ (ys ++ [])) run.0)

pub only_turns : (es : List Edit) (ts : List (List Action)) → AllByRecursion (IsTurn es) ts → AreLongest es ts → ts ≡ turns_of es (flat_map (λ turn. turn) ts)
only_turns es [] all h = refl
only_turns es (t ∷ []) all h = last_is es t all.0
only_turns es (t ∷ u ∷ ts) all h = first_is es t (u ∷ ts) (flat_map (λ turn. turn) (u ∷ ts)) all.0 h.0 (only_turns es (u ∷ ts) all.1 h.1)
