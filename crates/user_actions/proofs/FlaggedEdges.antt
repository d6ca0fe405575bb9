-- What flags by the numbers of edges tell.
use Rattle.std.proofs.Common.{◌≡◌, ◌≢◌, ◌⊎◌, inl, inr, ℕ, zero, suc, ◌<◌, ◌≤◌, Bool, true, false, List, [], ◌∷◌, length, get_or, map, take, refl, sym, ap, subst, ◌∙◌, arith}
use Rattle.std.specs.Prelude.{◌&&◌, ◌||◌, cond}
use Rattle.std.proofs.lemmas.List.{get_or_past, length-map}
use Rattle.edge_lattice.specs.declared.state.State.TheVariants.{Absent}
use Rattle.grove_sorts.proofs.Truths.{both_true, or_left, or_right, false_from, and_true, same_tests}
use Rattle.grove_edits.specs.declared.edge.Edge.{Edge}
use Rattle.grove_edits.specs.Graph.{Graph, is_same_edge}
use Rattle.grove_edits.proofs.Orders.{one_edge}
use Rattle.graph_words.specs.Live.{IsInEdgeOrder, holds_edge}
use Rattle.graph_words.specs.Ordered.{with_edge}
use Rattle.graph_words.proofs.Ordered.{holds-with_edge, in_order-with_edge}
use Rattle.edge_numbers.specs.Numbered.{edges_of, no_edge}
use Rattle.graph_words.specs.States.{Entries, state_in, is_present}
use Rattle.live_graph.specs.NumberOf.{IsNumberOf, KeepsNumbersOf}
use Rattle.grove_terms.proofs.InLive.{same_edge_itself}
use Rattle.user_actions.specs.Flags.{flagged, opening_edges, present_flags, first_flags, AreTrue}
use Rattle.user_actions.specs.Good.{AreOpening}
use Rattle.user_actions.specs.Lists.{ArePresent}
use Rattle.user_actions.proofs.SomeLists.{entries_have}
use Rattle.graph_words.proofs.Truths.{present_from_test, test_from_present}

pub in_order-flagged : (es : List Edge) (flags : List Bool) → IsInEdgeOrder (flagged es flags)
in_order-flagged [] flags = tt
in_order-flagged (x ∷ xs) [] = tt
in_order-flagged (x ∷ xs) (true ∷ flags) = in_order-with_edge x (flagged xs flags) (in_order-flagged xs flags)
in_order-flagged (x ∷ xs) (false ∷ flags) = in_order-flagged xs flags

-- ---- an edge is held where its number has a flag that is true

flagged_held : (es : List Edge) (flags : List Bool) (n : ℕ) (e : Edge) → n < length es → get_or es n no_edge ≡ e → get_or flags n false ≡ true → holds_edge e (flagged es flags) ≡ true
flagged_held [] flags n e within at flag = absurd (omega (arith, within))
flagged_held (x ∷ xs) [] n e within at flag = let past : get_or [] n false ≡ false = get_or_past [] n false (omega arith) in absurd cc
flagged_held (x ∷ xs) (true ∷ flags) zero e within at flag =
    holds-with_edge e x (flagged xs flags) ∙ or_left (is_same_edge x e) (holds_edge e (flagged xs flags)) (ap (is_same_edge x) (sym at) ∙ same_edge_itself x)
flagged_held (x ∷ xs) (false ∷ flags) zero e within at flag = absurd cc
flagged_held (x ∷ xs) (true ∷ flags) (suc n) e within at flag =
    holds-with_edge e x (flagged xs flags) ∙ or_right (is_same_edge x e) (holds_edge e (flagged xs flags)) (flagged_held xs flags n e (omega (arith, within)) at flag)
flagged_held (x ∷ xs) (false ∷ flags) (suc n) e within at flag = flagged_held xs flags n e (omega (arith, within)) at flag

-- a number of the edge has a flag that is true
abbrev IsFlagged : List Edge → List Bool → Edge → Type 0
IsFlagged es flags e = (n : ℕ) × (n < length es) × (get_or es n no_edge ≡ e) × (get_or flags n false ≡ true)

flagged_later : (x : Edge) (xs : List Edge) (flag : Bool) (flags : List Bool) (e : Edge) → IsFlagged xs flags e → IsFlagged (x ∷ xs) (flag ∷ flags) e
flagged_later x xs flag flags e found = (suc found.0, omega (arith, found.1), found.2, found.3)

held_flagged : (es : List Edge) (flags : List Bool) (e : Edge) → holds_edge e (flagged es flags) ≡ true → IsFlagged es flags e
held_flagged [] flags e held = absurd cc
held_flagged (x ∷ xs) [] e held = absurd cc
held_flagged (x ∷ xs) (false ∷ flags) e held = flagged_later x xs false flags e (held_flagged xs flags e held)
held_flagged (x ∷ xs) (true ∷ flags) e held =
    by_test (is_same_edge x e) refl (sym (holds-with_edge e x (flagged xs flags)) ∙ held) (held_flagged xs flags e)
  where
    by_test : (b : Bool) → is_same_edge x e ≡ b → (is_same_edge x e || holds_edge e (flagged xs flags)) ≡ true → (holds_edge e (flagged xs flags) ≡ true → IsFlagged xs flags e) → IsFlagged (x ∷ xs) (true ∷ flags) e
    by_test true same _ _ = (0, omega arith, one_edge x e same, refl)
    by_test false other either rest = flagged_later x xs true flags e (rest (ap (λ b. b || holds_edge e (flagged xs flags)) (sym other) ∙ either))

-- the flag of the one number of an edge tells whether it is held
pub flag_told : (entries : Entries) (flags : List Bool) (e : Edge) (n : ℕ) → IsNumberOf entries e n → ((m : ℕ) → IsNumberOf entries e m → m ≡ n) → get_or flags n false ≡ holds_edge e (opening_edges entries flags)
flag_told entries flags e n is only =
    let count = length-map entries (λ entry. entry.0) in
    same_tests (get_or flags n false) (holds_edge e (opening_edges entries flags))
    (flagged_held (edges_of entries) flags n e (omega (arith, is.0, count)) is.1)
    (λ held.
    let found = held_flagged (edges_of entries) flags e held in
    ap (λ m. get_or flags m false) (sym (only found.0 (omega (arith, found.1, count), found.2))) ∙ found.3)

-- an edge whose number is behind the last flag is not held
pub behind_told : (entries : Entries) (flags : List Bool) (e : Edge) (n : ℕ) → IsNumberOf entries e n → ((m : ℕ) → IsNumberOf entries e m → m ≡ n) → length flags ≤ n → false ≡ holds_edge e (opening_edges entries flags)
behind_told entries flags e n is only behind = sym (get_or_past flags n false behind) ∙ flag_told entries flags e n is only

-- an edge without a number is not held
pub none_told : (entries : Entries) (flags : List Bool) (e : Edge) → ((m : ℕ) → IsNumberOf entries e m → ⊥) → false ≡ holds_edge e (opening_edges entries flags)
none_told entries flags e none = sym (false_from (holds_edge e (opening_edges entries flags)) from) where
  from : holds_edge e (opening_edges entries flags) ≡ true → ⊥
  from held =
      let found = held_flagged (edges_of entries) flags e held in
      none found.0 (omega (arith, found.1, length-map entries (λ entry. entry.0)), found.2)

-- ---- what is held stays while the numbers stay

flagged_stay : (before after : List Edge) (flags : List Bool) → length flags ≤ length before
    → ((n : ℕ) → n < length before → (n < length after) × (get_or after n no_edge ≡ get_or before n no_edge)) → flagged after flags ≡ flagged before flags
flagged_stay [] [] flags within keeps = refl
flagged_stay [] (y ∷ ys) [] within keeps = refl
flagged_stay [] (y ∷ ys) (flag ∷ flags) within keeps = absurd (omega (arith, within))
flagged_stay (x ∷ xs) [] flags within keeps = absurd (omega (arith, (keeps 0 (omega arith)).0))
flagged_stay (x ∷ xs) (y ∷ ys) [] within keeps = refl
flagged_stay (x ∷ xs) (y ∷ ys) (flag ∷ flags) within keeps =
    by_flag flag (keeps 0 (omega arith)).1
    (flagged_stay xs ys flags (omega (arith, within)) (λ n lt. let kept = keeps (suc n) (omega (arith, lt)) in (omega (arith, kept.0), kept.1)))
  where
    by_flag : (b : Bool) → y ≡ x → flagged ys flags ≡ flagged xs flags → cond b (with_edge y (flagged ys flags)) (flagged ys flags) ≡ cond b (with_edge x (flagged xs flags)) (flagged xs flags)
    by_flag true same rest = ap (λ e. with_edge e (flagged ys flags)) same ∙ ap (with_edge x) rest
    by_flag false same rest = rest

pub opening_stays : (before after : Entries) (flags : List Bool) → KeepsNumbersOf before after → length flags ≤ length before → opening_edges after flags ≡ opening_edges before flags
opening_stays before after flags keeps within =
    let old = length-map before (λ entry. entry.0) in
    let new = length-map after (λ entry. entry.0) in
    flagged_stay (edges_of before) (edges_of after) flags (omega (arith, within, old))
    (λ n lt. let still = keeps (get_or (edges_of before) n no_edge) n (omega (arith, lt, old), refl) in (omega (arith, still.0, new), still.1))

-- no number is gone
pub no_fewer : (before after : Entries) → KeepsNumbersOf before after → length before ≤ length after
no_fewer [] after keeps = omega arith
no_fewer (x ∷ xs) after keeps = let last = keeps (get_or (edges_of (x ∷ xs)) (length xs) no_edge) (length xs) (omega arith, refl) in omega (arith, last.0)

-- edges that were open are still not Absent where no edge got Absent
pub still_opening : (before after : Entries) (flags : List Bool) → KeepsNumbersOf before after → length flags ≤ length before → ((e : Edge) → state_in before e ≢ Absent → state_in after e ≢ Absent)
    → AreOpening (state_in before) (opening_edges before flags) → AreOpening (state_in after) (opening_edges after flags)
still_opening before after flags keeps within known opened e held = known e (opened e (ap (holds_edge e) (sym (opening_stays before after flags keeps within)) ∙ held))

-- ---- flags of the present states

-- there is one for each number
pub length-present_flags : (entries : Entries) → length (present_flags entries) ≡ length entries
length-present_flags entries = length-map (edges_of entries) (λ e. is_present (state_in entries e)) ∙ length-map entries (λ entry. entry.0)

holds-flagged_by : (p : Edge → Bool) (es : List Edge) (e : Edge) → holds_edge e (flagged es (map p es)) ≡ (p e && holds_edge e es)
holds-flagged_by p [] e = never (p e) where
  never : (b : Bool) → false ≡ (b && false)
  never true = refl
  never false = refl
holds-flagged_by p (x ∷ xs) e = by_flag (p x) refl (is_same_edge x e) refl (holds-flagged_by p xs e) where
  rest : List Edge
  rest = flagged xs (map p xs)

  again : (b c : Bool) → b ≡ true → true ≡ (b && (true || c))
  again true c h = refl
  again false c h = absurd cc

  gone : (b c d : Bool) → b ≡ false → (b && c) ≡ (b && d)
  gone true c d h = absurd cc
  gone false c d h = refl

  by_flag : (f : Bool) → p x ≡ f → (b : Bool) → is_same_edge x e ≡ b → holds_edge e rest ≡ (p e && holds_edge e xs) → holds_edge e (cond (p x) (with_edge x rest) rest) ≡ (p e && (is_same_edge x e || holds_edge e xs))
  by_flag true flag true same held =
      ap (λ f. holds_edge e (cond f (with_edge x rest) rest)) flag
      ∙ holds-with_edge e x rest
      ∙ ap (λ b. b || holds_edge e rest) same
      ∙ again (p e) (holds_edge e xs) (ap p (sym (one_edge x e same)) ∙ flag)
      ∙ ap (λ b. p e && (b || holds_edge e xs)) (sym same)
  by_flag true flag false other held =
      ap (λ f. holds_edge e (cond f (with_edge x rest) rest)) flag
      ∙ holds-with_edge e x rest
      ∙ ap (λ b. b || holds_edge e rest) other
      ∙ held
      ∙ ap (λ b. p e && (b || holds_edge e xs)) (sym other)
  by_flag false flag true same held =
      ap (λ f. holds_edge e (cond f (with_edge x rest) rest)) flag
      ∙ held
      ∙ gone (p e) (holds_edge e xs) (is_same_edge x e || holds_edge e xs) (ap p (sym (one_edge x e same)) ∙ flag)
  by_flag false flag false other held = ap (λ f. holds_edge e (cond f (with_edge x rest) rest)) flag ∙ held ∙ ap (λ b. p e && (b || holds_edge e xs)) (sym other)

-- flags that are true are those of edges that are not Absent
flags-true : (p : Edge → Bool) (es : List Edge) (flags : List Bool) → length flags ≤ length es → AreTrue flags → ((e : Edge) → holds_edge e (flagged es flags) ≡ true → p e ≡ true) → flags ≡ map p (take (length flags) es)
flags-true p es [] within all held = refl
flags-true p [] (flag ∷ flags) within all held = absurd (omega (arith, within))
flags-true p (x ∷ xs) (false ∷ flags) within all held = absurd cc
flags-true p (x ∷ xs) (true ∷ flags) within all held =
    let here : holds_edge x (with_edge x (flagged xs flags)) ≡ true = holds-with_edge x x (flagged xs flags) ∙ or_left (is_same_edge x x) (holds_edge x (flagged xs flags)) (same_edge_itself x) in
    let rest = flags-true p xs flags (omega (arith, within)) all.1 (λ e is. held e (holds-with_edge e x (flagged xs flags) ∙ or_right (is_same_edge x e) (holds_edge e (flagged xs flags)) is)) in
    ap (λ b. b ∷ flags) (sym (held x here)) ∙ ap (λ bs. p x ∷ bs) rest

pub first_flags-true : (entries : Entries) (flags : List Bool) → length flags ≤ length entries → AreTrue flags → AreOpening (state_in entries) (opening_edges entries flags) → flags ≡ first_flags entries (length flags)
first_flags-true entries flags within all opened =
    flags-true (λ e. is_present (state_in entries e)) (edges_of entries) flags (omega (arith, within, length-map entries (λ entry. entry.0))) all
    (λ e is. test_from_present (state_in entries e) (opened e is))

-- where there are no flags nothing is open
pub none_open : (g : Graph) (entries : Entries) (flags : List Bool) → flags ≡ [] → AreOpening g (opening_edges entries flags)
none_open g entries flags none e held = let nothing : false ≡ true = sym (ap (holds_edge e) (ap (opening_edges entries) none ∙ nothing_flagged (edges_of entries))) ∙ held in absurd cc where
  nothing_flagged : (es : List Edge) → flagged es [] ≡ []
  nothing_flagged [] = refl
  nothing_flagged (x ∷ xs) = refl

-- what is kept of flags are those of the first numbers
pub kept_told : (entries : Entries) (old flags : List Bool) (count : ℕ) → count ≡ length flags → AreTrue flags → (flags ≡ old) ⊎ (flags ≡ []) → length old ≤ length entries → AreOpening (state_in entries) (opening_edges entries old)
    → flags ≡ first_flags entries count
kept_told entries old flags count is all (inl same) within opened =
    first_flags-true entries flags (subst (λ bs. length bs ≤ length entries) (sym same) within) all (subst (λ bs. AreOpening (state_in entries) (opening_edges entries bs)) (sym same) opened)
    ∙ ap (first_flags entries) (sym is)
kept_told entries old flags count is all (inr none) within opened = none ∙ sym (ap (first_flags entries) (is ∙ ap length none))

-- they are the edges that are not Absent
pub opening_present : (entries : Entries) → ArePresent (state_in entries) (opening_edges entries (present_flags entries))
opening_present entries = record {
  in_order = in_order-flagged (edges_of entries) (present_flags entries);
  each = λ e some. holds-flagged_by is_there (edges_of entries) e ∙ and_true (is_there e) (holds_edge e (edges_of entries)) (test_from_present (state_in entries e) some) (entries_have entries e some);
  no_other = λ e held. present_from_test (state_in entries e) (both_true (is_there e) (holds_edge e (edges_of entries)) (sym (holds-flagged_by is_there (edges_of entries) e) ∙ held)).0;
} where
  is_there : Edge → Bool
  is_there e = is_present (state_in entries e)
