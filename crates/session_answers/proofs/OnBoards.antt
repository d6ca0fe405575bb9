-- Cuts at the boards of a block: they are as the block needs them, and their seats come back whole.
use Rattle.std.proofs.Common.{◌≡◌, ◌⊎◌, inl, inr, Bool, true, false, ℕ, zero, suc, ◌+◌, ◌<◌, List, [], ◌∷◌, ◌++◌, length, map, take, get_or, slice_get, Option, Some, refl, sym, ap, ap₂, subst, ◌∙◌, arith, length-append, append_assoc, append-nil}
use Rattle.std.specs.Option.{option_map}
use Rattle.std.specs.List.{AllByRecursion, AllZip}
use Rattle.std.proofs.lemmas.List.{map-append, take_more, length-map}
use Rattle.std.proofs.lemmas.Option.{same_Some, none-some, slice_get_within, slice_get-map}
use Rattle.edge_lattice.specs.declared.state.State.{State}
use Rattle.grove_edits.specs.declared.edit.Edit.{Edit}
use Rattle.grove_edits.specs.Graph.{Ascends}
use Rattle.edge_board.specs.States.{raised}
use Rattle.edge_board.specs.Seats.{BoardOf, BoardStanding, first_board_seat}
use Rattle.author_desk.specs.declared.cuts.Cuts.{Cuts}
use Rattle.author_desk.specs.declared.cuts.Cuts.TheVariants.{Empty, On}
use Rattle.author_desk.specs.Cuts.{opening_edits, seat_of, Raises, KeepsSeat}
use Rattle.session_script.specs.declared.author.Declared.{Declared}
use Rattle.session_script.specs.declared.line.Line.{Line}
use Rattle.session_run.specs.Calls.{Stage}
use Rattle.session_script.specs.declared.item.Block.{Block}
use Rattle.session_script.specs.declared.session.Session.{Session}
use Rattle.session_run.specs.Boards.{CanCutAt, slots_at}
use Rattle.replica_core.specs.Content.{Content}
use Rattle.session_answers.specs.Running.{stage_of, sources_of}
use Rattle.session_answers.specs.Boards.{states_of, parts_at, IsBoardFor, AreBoards, cut_from, all_cut_from, board_of, IsWholeSeat, held_by, all_held, IsHeld, AreHeld}
use Rattle.session_answers.specs.Opened.{sends_from, cuts_at, asks_of, listed, all_listed}
use Rattle.session_answers.proofs.Lists.{some_at}
use Rattle.session_answers.proofs.Listed.{listed_if_cut, length-all_listed, listed_at, no_slots_without_cut, no_slots_without_edges}

-- ---- lists, place by place

-- what is found behind one item more: an earlier item, or this one
pub found_with : {A : Type 0} (xs : List A) (y : A) (k : ℕ) (x : A) → slice_get (xs ++ y ∷ []) k ≡ Some x → (slice_get xs k ≡ Some x) ⊎ ((k ≡ length xs) × (y ≡ x))
found_with [] y zero x is = inr (refl, same_Some y x is)
found_with [] y (suc k) x is = absurd cc
found_with (z ∷ xs) y zero x is = inl is
found_with (z ∷ xs) y (suc k) x is = further (found_with xs y k x is) where
  further : (slice_get xs k ≡ Some x) ⊎ ((k ≡ length xs) × (y ≡ x)) → (slice_get (z ∷ xs) (suc k) ≡ Some x) ⊎ ((suc k ≡ length (z ∷ xs)) × (y ≡ x))
  further (inl earlier) = inl earlier
  further (inr last) = inr (ap (λ n. suc n) last.0, last.1)

pub found_in_map : {A B : Type 0} (f : A → B) (xs : List A) (ys : List B) (k : ℕ) (x : A) → map f xs ≡ ys → slice_get xs k ≡ Some x → slice_get ys k ≡ Some (f x)
found_in_map f xs ys k x are is = ap (λ zs. slice_get zs k) (sym are) ∙ slice_get-map f xs k ∙ ap (option_map f) is

all_found : {A : Type 0} (P : A → Type 0) (xs : List A) (k : ℕ) (x : A) → AllByRecursion P xs → slice_get xs k ≡ Some x → P x
all_found P [] k x all is = absurd cc
all_found P (y ∷ xs) zero x all is = subst P (same_Some y x is) all.0
all_found P (y ∷ xs) (suc k) x all is = all_found P xs k x all.1 is

pub all_zipped : {A B : Type 0} (R : A → B → Type 0) (xs : List A) (ys : List B) → length ys ≡ length xs
    → ((k : ℕ) (x : A) (y : B) → slice_get xs k ≡ Some x → slice_get ys k ≡ Some y → R x y) → AllZip R xs ys
all_zipped R [] [] long each = tt
all_zipped R [] (y ∷ ys) long each = absurd (omega arith)
all_zipped R (x ∷ xs) [] long each = absurd (omega arith)
all_zipped R (x ∷ xs) (y ∷ ys) long each = (each zero x y refl refl, all_zipped R xs ys (omega arith) (λ k v w. each (suc k) v w))

pub next_zipped : {A B : Type 0} (R : A → B → Type 0) (xs more : List A) (ys others : List B) (x : A) (y : B) → xs ≡ x ∷ more → ys ≡ y ∷ others → AllZip R xs ys → R x y × AllZip R more others
next_zipped R xs more ys others x y first second all = subst (λ zs. AllZip R zs (y ∷ others)) first (subst (AllZip R xs) second all)

-- what holds of the places of two lists holds where the first has an item
pub zipped_at : {A B : Type 0} (R : A → B → Type 0) (xs : List A) (ys : List B) (k : ℕ) (x : A) (y : B) → slice_get xs k ≡ Some x → slice_get ys k ≡ Some y → AllZip R xs ys → R x y
zipped_at R [] ys k x y is is' all = absurd cc
zipped_at R (z ∷ xs) [] k x y is is' all = absurd all
zipped_at R (z ∷ xs) (w ∷ ys) zero x y is is' all = subst (λ u. R u y) (same_Some z x is) (subst (R z) (same_Some w y is') all.0)
zipped_at R (z ∷ xs) (w ∷ ys) (suc k) x y is is' all = zipped_at R xs ys k x y is is' all.1

-- an item more behind those that are done
pub item_within : {A : Type 0} (done left more all : List A) (x : A) → done ++ left ≡ all → left ≡ x ∷ more → length done < length all
item_within done left more all x are next =
    let long : length (done ++ left) ≡ length all = ap (λ xs. length xs) are in
    let some : length left ≡ suc (length more) = ap (λ xs. length xs) next in
    omega (arith, length-append done left)

-- one item more of a list, as what `f` makes of one more
pub mapped_more : {A B : Type 0} (f : A → B) (xs new : List A) (y : A) (zs : List B) (k m n : ℕ) (z : B) → map f xs ≡ take k zs → k ≡ m → n ≡ k + 1 → new ≡ xs ++ y ∷ [] → f y ≡ z → m < length zs
    → z ≡ get_or zs m z → map f new ≡ take n zs
mapped_more f xs new y zs k m n z are place next is own within there =
    ap (map f) is ∙ map-append f xs (y ∷ []) ∙ ap (λ us. us ++ f y ∷ []) are ∙ ap (λ u. take k zs ++ u ∷ []) (own ∙ there ∙ ap (λ j. get_or zs j z) (sym place))
    ∙ sym (take_more zs k z (omega arith)) ∙ ap (λ j. take j zs) (sym next)

-- ---- before the block

module _ (authors : List Declared) (lines : List Line) (lists : List (List Edit)) where
  -- the boards of the replicas so far
  abbrev pub AreBoardsOf : List (Option BoardOf) → Type 0
  AreBoardsOf boards = (k : ℕ) (opening : List Edit) (board : Option BoardOf) → slice_get lists k ≡ Some opening → slice_get boards k ≡ Some board
      → IsBoardFor (cuts_at authors lines k) opening (parts_at authors lines k) board

  pub board_more : (boards new : List (Option BoardOf)) (replica : ℕ) (own : List Edit) (last : Option BoardOf) → length boards ≡ replica → slice_get lists replica ≡ Some own
      → IsBoardFor (cuts_at authors lines replica) own (parts_at authors lines replica) last → new ≡ boards ++ last ∷ [] → AreBoardsOf boards → AreBoardsOf new
  board_more boards new replica own last long is_own for is before k opening board is_opening is_board =
      at (found_with boards last k board (ap (λ bs. slice_get bs k) (sym is) ∙ is_board)) where
        at : (slice_get boards k ≡ Some board) ⊎ ((k ≡ length boards) × (last ≡ board)) → IsBoardFor (cuts_at authors lines k) opening (parts_at authors lines k) board
        at (inl earlier) = before k opening board is_opening earlier
        at (inr here) =
            let same : replica ≡ k = sym long ∙ sym here.0 in
            let edits : own ≡ opening = same_Some own opening (sym is_own ∙ ap (slice_get lists) same ∙ is_opening) in
            subst (λ b. IsBoardFor (cuts_at authors lines k) opening (parts_at authors lines k) b) here.1
            (subst (λ es. IsBoardFor (cuts_at authors lines k) es (parts_at authors lines k) last) edits
            (subst (λ n. IsBoardFor (cuts_at authors lines n) own (parts_at authors lines n) last) same for))

-- what cuts are made on at a place
pub cut_from_at : (lists : List (List Edit)) (boards : List (Option BoardOf)) (k : ℕ) (opening : List Edit) (board : Option BoardOf) → slice_get lists k ≡ Some opening → slice_get boards k ≡ Some board
    → slice_get (all_cut_from lists boards) k ≡ Some (cut_from opening board)
cut_from_at [] boards k opening board is is' = absurd (none-some opening is)
cut_from_at (o ∷ lists) [] k opening board is is' = absurd (none-some board is')
cut_from_at (o ∷ lists) (b ∷ boards) zero opening board is is' = ap₂ (λ x y. Some (cut_from x y)) (same_Some o opening is) (same_Some b board is')
cut_from_at (o ∷ lists) (b ∷ boards) (suc k) opening board is is' = cut_from_at lists boards k opening board is is'

pub length-all_cut_from : (lists : List (List Edit)) (boards : List (Option BoardOf)) → length boards ≡ length lists → length (all_cut_from lists boards) ≡ length lists
length-all_cut_from [] boards long = refl
length-all_cut_from (o ∷ lists) [] long = absurd (omega arith)
length-all_cut_from (o ∷ lists) (b ∷ boards) long = ap (λ n. suc n) (length-all_cut_from lists boards (omega arith))

-- the same, as it is read
pub cut_from_read : (lists : List (List Edit)) (boards : List (Option BoardOf)) (k : ℕ) (opening : List Edit) (board : Option BoardOf) → k < length lists → k < length boards
    → slice_get lists k ≡ Some opening → slice_get boards k ≡ Some board → cut_from opening board ≡ get_or (all_cut_from lists boards) k (cut_from opening board)
cut_from_read [] boards k opening board within within' is is' = absurd (omega arith)
cut_from_read (o ∷ lists) [] k opening board within within' is is' = absurd (omega arith)
cut_from_read (o ∷ lists) (b ∷ boards) zero opening board within within' is is' = sym (ap₂ cut_from (same_Some o opening is) (same_Some b board is'))
cut_from_read (o ∷ lists) (b ∷ boards) (suc k) opening board within within' is is' = cut_from_read lists boards k opening board (omega arith) (omega arith) is is'

can_cut_at : (stage : Stage) (own : Cuts) (list : List Edit) → opening_edits own ≡ cut_from list (board_of own) → Ascends list
    → IsBoardFor (cuts_at stage.authors stage.lines stage.replica) list (parts_at stage.authors stage.lines stage.replica) (board_of own) → seat_of own ≡ option_map first_board_seat (board_of own) → CanCutAt stage own
can_cut_at stage Empty list opens up for first = record { can_raise = tt; parts = tt }
can_cut_at stage (On opening board seat) list opens up for first =
    let same : seat ≡ first_board_seat board.now = same_Some seat (first_board_seat board.now) first in
    let parts : seat.parts ≡ board.now.parts = ap (λ (s : BoardStanding). s.parts) same in
    let all : board.now.parts ≡ parts_at stage.authors stage.lines stage.replica = for.3 in
    record {
      can_raise = (subst Ascends (sym opens) up, ap (λ (ss : List State). length ss) for.2 ∙ length-states list ∙ ap (λ (es : List Edit). length es) (sym opens), ap (λ (s : BoardStanding). s.board) same);
      parts = omega arith;
    }
  where
    length-states : (edits : List Edit) → length (states_of edits) ≡ length edits
    length-states [] = refl
    length-states (edit ∷ edits) = ap (λ n. suc n) (length-states edits)

-- a block's cuts at its boards, with their first seats, are as the block needs them
module _ (stage : Stage) (boards : List (Option BoardOf)) (cuts : List Cuts) (up : AllByRecursion Ascends stage.sources) (are : AreBoards stage.authors stage.lines stage.sources boards)
    (openings : map opening_edits cuts ≡ all_cut_from stage.sources boards) (at : map board_of cuts ≡ boards) (firsts : map seat_of cuts ≡ map (option_map first_board_seat) boards) where
  pub can_cut : (own : Cuts) → slice_get cuts stage.replica ≡ Some own → CanCutAt stage own
  can_cut own is =
      let board = found_in_map board_of cuts boards stage.replica own at is in
      let within = slice_get_within boards stage.replica (board_of own) board in
      let many = are.as_many in
      let list = some_at stage.sources stage.replica (omega arith) in
      let opening = found_in_map opening_edits cuts (all_cut_from stage.sources boards) stage.replica own openings is in
      let seat = found_in_map seat_of cuts (map (option_map first_board_seat) boards) stage.replica own firsts is in
      let first = found_in_map (option_map first_board_seat) boards (map (option_map first_board_seat) boards) stage.replica (board_of own) refl board in
      can_cut_at stage own list.0 (same_Some (opening_edits own) (cut_from list.0 (board_of own)) (sym opening ∙ cut_from_at stage.sources boards stage.replica list.0 (board_of own) list.1 board))
      (all_found Ascends stage.sources stage.replica list.0 up list.1) (are.each stage.replica list.0 (board_of own) list.1 board)
      (same_Some (seat_of own) (option_map first_board_seat (board_of own)) (sym seat ∙ first))

-- ---- behind the block

whole_behind : (own back : Cuts) → seat_of own ≡ option_map first_board_seat (board_of own) → KeepsSeat own back → IsWholeSeat (board_of own) (seat_of back)
whole_behind Empty back first keeps = ap seat_of keeps
whole_behind (On opening board seat) back first keeps =
    let same : seat ≡ first_board_seat board.now = same_Some seat (first_board_seat board.now) first in
    subst (λ (b : Cuts). IsWholeSeat (Some board.now) (seat_of b)) (sym keeps.1)
    (keeps.2 ∙ ap (λ (s : BoardStanding). s.board) same, keeps.3 ∙ ap (λ (s : BoardStanding). s.parts) same)

-- first seats that were lent to a block are whole behind it
all_whole : (owns backs : List Cuts) → map seat_of owns ≡ map (option_map first_board_seat) (map board_of owns) → length backs ≡ length owns
    → ((k : ℕ) (own back : Cuts) → slice_get owns k ≡ Some own → slice_get backs k ≡ Some back → KeepsSeat own back) → AllZip IsWholeSeat (map board_of owns) (map seat_of backs)
all_whole [] [] firsts long keep = tt
all_whole [] (back ∷ backs) firsts long keep = absurd (omega arith)
all_whole (own ∷ owns) [] firsts long keep = absurd (omega arith)
all_whole (own ∷ owns) (back ∷ backs) firsts long keep =
    (whole_behind own back (cc) (keep zero own back refl refl), all_whole owns backs (cc) (omega arith) (λ k. keep (suc k)))

-- the same of boards and seats that are those
pub all_whole_among : (owns backs : List Cuts) (boards : List (Option BoardOf)) (seats : List (Option BoardStanding)) → map board_of owns ≡ boards → seats ≡ map seat_of backs
    → map seat_of owns ≡ map (option_map first_board_seat) (map board_of owns) → length backs ≡ length owns
    → ((k : ℕ) (own back : Cuts) → slice_get owns k ≡ Some own → slice_get backs k ≡ Some back → KeepsSeat own back) → AllZip IsWholeSeat boards seats
all_whole_among owns backs boards seats same_boards same_seats firsts long keep =
    subst (λ (bs : List (Option BoardOf)). AllZip IsWholeSeat bs seats) same_boards
    (subst (λ (ss : List (Option BoardStanding)). AllZip IsWholeSeat (map board_of owns) ss) (sym same_seats) (all_whole owns backs firsts long keep))

-- what is listed for a board is all that the replica opened with
cut_whole : (authors : List Declared) (lines : List Line) (replica : ℕ) (opening list : List Edit) → list ≡ listed (asks_of authors lines replica) opening → cuts_at authors lines replica ≡ true → list ≡ opening
cut_whole authors lines replica opening list is cuts = is ∙ listed_if_cut (sends_from lines replica) (cuts_at authors lines replica) opening cuts

none_raised : (stage : Stage) (opening list : List Edit) → list ≡ listed (asks_of stage.authors stage.lines stage.replica) opening
    → (cuts_at stage.authors stage.lines stage.replica ≡ false) ⊎ (list ≡ []) → slots_at stage opening ≡ []
none_raised stage opening list is (inl none) = no_slots_without_cut stage opening none
none_raised stage opening list is (inr none) = by_test (cuts_at stage.authors stage.lines stage.replica) refl where
  by_test : (b : Bool) → cuts_at stage.authors stage.lines stage.replica ≡ b → slots_at stage opening ≡ []
  by_test false without = no_slots_without_cut stage opening without
  by_test true cuts =
      let empty : opening ≡ [] = sym (cut_whole stage.authors stage.lines stage.replica opening list is cuts) ∙ none in
      ap (slots_at stage) empty ∙ no_slots_without_edges stage

held_behind : (stage : Stage) (own back : Cuts) (opening list : List Edit) → list ≡ listed (asks_of stage.authors stage.lines stage.replica) opening → opening_edits own ≡ cut_from list (board_of own)
    → IsBoardFor (cuts_at stage.authors stage.lines stage.replica) list (parts_at stage.authors stage.lines stage.replica) (board_of own) → seat_of own ≡ option_map first_board_seat (board_of own)
    → Raises own back (slots_at stage (opening_edits own)) → IsHeld opening (slots_at stage opening) (held_by (board_of own) (seat_of back))
held_behind stage Empty back opening list is opens for first raises = none_raised stage opening list is for
held_behind stage (On edits board seat) back opening list is opens for first raises =
    let same : seat ≡ first_board_seat board.now = same_Some seat (first_board_seat board.now) first in
    let whole : list ≡ opening = cut_whole stage.authors stage.lines stage.replica opening list is for.0 in
    let marks : raises.0.marks ≡ slots_at stage edits.now = raises.2.marks ∙ ap (λ (s : BoardStanding). s.marks ++ slots_at stage edits.now) same in
    subst (λ (b : Cuts). IsHeld opening (slots_at stage opening) (held_by (Some board.now) (seat_of b))) (sym raises.1)
    (ap₂ raised (for.2 ∙ ap states_of whole) (marks ∙ ap (slots_at stage) (opens ∙ whole)))

held_at : (boards : List (Option BoardOf)) (seats : List (Option BoardStanding)) (k : ℕ) (board : Option BoardOf) (seat : Option BoardStanding) → slice_get boards k ≡ Some board → slice_get seats k ≡ Some seat
    → slice_get (all_held boards seats) k ≡ Some (held_by board seat)
held_at [] seats k board seat is is' = absurd (none-some board is)
held_at (b ∷ bs) [] k board seat is is' = absurd (none-some seat is')
held_at (b ∷ bs) (s ∷ ss) zero board seat is is' = ap₂ (λ (x : Option BoardOf) (y : Option BoardStanding). Some (held_by x y)) (same_Some b board is) (same_Some s seat is')
held_at (b ∷ bs) (s ∷ ss) (suc k) board seat is is' = held_at bs ss k board seat is is'

length-all_held : (boards : List (Option BoardOf)) (seats : List (Option BoardStanding)) → length seats ≡ length boards → length (all_held boards seats) ≡ length boards
length-all_held [] seats long = refl
length-all_held (b ∷ bs) [] long = absurd (omega arith)
length-all_held (b ∷ bs) (s ∷ ss) long = ap (λ n. suc n) (length-all_held bs ss (omega arith))

-- behind a block the boards hold what was raised
module _ (session : Session) (block : Block) (first_send : ℕ) (firsts : List Content) (lists : List (List Edit)) (owns backs : List Cuts) (boards : List (Option BoardOf)) (seats : List (Option BoardStanding))
    (held : List (Option (List State))) (are_lists : lists ≡ all_listed session.authors block.lines 0 firsts) (are : AreBoards session.authors block.lines lists boards)
    (openings : map opening_edits owns ≡ all_cut_from lists boards) (at : map board_of owns ≡ boards) (first_seats : map seat_of owns ≡ map (option_map first_board_seat) boards) (same : seats ≡ map seat_of backs)
    (long : length backs ≡ length owns)
    (raise : (k : ℕ) (own back : Cuts) → slice_get owns k ≡ Some own → slice_get backs k ≡ Some back → Raises own back (slots_at (stage_of session block first_send lists k) (opening_edits own)))
    (is : held ≡ all_held boards seats) where
  many_boards : length boards ≡ length owns
  many_boards = sym (ap length at) ∙ length-map owns board_of

  many_seats : length seats ≡ length owns
  many_seats = ap length same ∙ (length-map backs seat_of ∙ long)

  many_sources : length (sources_of firsts) ≡ length owns
  many_sources =
      length-map firsts (λ content. content.edits) ∙ sym (length-all_listed session.authors block.lines 0 firsts) ∙ sym (ap (λ (ls : List (List Edit)). length ls) are_lists) ∙ sym are.as_many ∙ many_boards

  is_held : (k : ℕ) (opening : List Edit) (states : Option (List State)) → slice_get (sources_of firsts) k ≡ Some opening → slice_get held k ≡ Some states
      → IsHeld opening (slots_at (stage_of session block first_send (sources_of firsts) k) opening) states
  is_held k opening states is_opening is_states =
      let within = slice_get_within (sources_of firsts) k opening is_opening in
      let sources_many = many_sources in
      let own = some_at owns k (omega arith) in
      let back = some_at backs k (omega arith) in
      let list = listed (asks_of session.authors block.lines k) opening in
      let is_list : slice_get lists k ≡ Some list = ap (λ (ls : List (List Edit)). slice_get ls k) are_lists ∙ listed_at session.authors block.lines 0 firsts k k opening (omega arith) is_opening in
      let board = found_in_map board_of owns boards k own.0 at own.1 in
      let seat = ap (λ ss. slice_get ss k) same ∙ found_in_map seat_of backs (map seat_of backs) k back.0 refl back.1 in
      let opens : opening_edits own.0 ≡ cut_from list (board_of own.0) =
      same_Some (opening_edits own.0) (cut_from list (board_of own.0)) (sym (found_in_map opening_edits owns (all_cut_from lists boards) k own.0 openings own.1) ∙ cut_from_at lists boards k list (board_of own.0) is_list board) in
      let first = same_Some (seat_of own.0) (option_map first_board_seat (board_of own.0))
      (sym (found_in_map seat_of owns (map (option_map first_board_seat) boards) k own.0 first_seats own.1) ∙ found_in_map (option_map first_board_seat) boards (map (option_map first_board_seat) boards) k (board_of own.0) refl board) in
      let holds : states ≡ held_by (board_of own.0) (seat_of back.0) =
      same_Some states (held_by (board_of own.0) (seat_of back.0)) (sym is_states ∙ (ap (λ hs. slice_get hs k) is ∙ held_at boards seats k (board_of own.0) (seat_of back.0) board seat)) in
      subst (IsHeld opening (slots_at (stage_of session block first_send (sources_of firsts) k) opening)) (sym holds)
      (held_behind (stage_of session block first_send lists k) own.0 back.0 opening list refl opens (are.each k list (board_of own.0) is_list board) first (raise k own.0 back.0 own.1 back.1))

  pub all_are_held : AreHeld session block first_send (sources_of firsts) held
  all_are_held = record {
    as_many = ap length is ∙ (length-all_held boards seats (many_seats ∙ sym many_boards) ∙ (many_boards ∙ sym many_sources));
    each = is_held;
  }

-- one board more is closed
pub held_more : (boards more all_boards : List (Option BoardOf)) (seats others all_seats : List (Option BoardStanding)) (board : Option BoardOf) (seat : Option BoardStanding) (done new : List (Option (List State)))
    → boards ≡ board ∷ more → seats ≡ seat ∷ others → new ≡ done ++ held_by board seat ∷ [] → done ++ all_held boards seats ≡ all_held all_boards all_seats → new ++ all_held more others ≡ all_held all_boards all_seats
held_more boards more all_boards seats others all_seats board seat done new first second is before =
    ap (λ hs. hs ++ all_held more others) is
    ∙ (append_assoc done (held_by board seat ∷ []) (all_held more others) ∙ (ap (λ hs. done ++ hs) (sym (ap₂ all_held first second)) ∙ before))

-- none is left to be closed
pub held_end : (boards : List (Option BoardOf)) (seats : List (Option BoardStanding)) (done all : List (Option (List State))) → (length boards ≡ 0) ⊎ (length seats ≡ 0) → done ++ all_held boards seats ≡ all → done ≡ all
held_end [] seats done all none is = sym (append-nil done) ∙ is
held_end (b ∷ bs) [] done all none is = sym (append-nil done) ∙ is
held_end (b ∷ bs) (s ∷ ss) done all (inl none) is = absurd (omega arith)
held_end (b ∷ bs) (s ∷ ss) done all (inr none) is = absurd (omega arith)

pub either_ends : {S T : Type 0} {A : S → Type 0} {B : T → Type 0} {X Y : Type 0} → ((u : S) × A u) ⊎ ((u : T) × B u) → ((u : S) → A u → X) → ((u : T) → B u → Y) → X ⊎ Y
either_ends (inl first) f g = inl (f first.0 first.1)
either_ends (inr second) f g = inr (g second.0 second.1)
