-- What is raised one after the other.
use Rattle.std.proofs.Common.{◌≡◌, ℕ, ◌+◌, ◌<◌, List, [], ◌++◌, length, get_or, take, refl, sym, ap, ◌∙◌, subst, append_assoc, append-nil}
use Rattle.grove_edits.specs.declared.action.Action.{Action}
use Rattle.author_desk.specs.declared.cuts.Cuts.{Cuts}
use Rattle.author_desk.specs.declared.cuts.Cuts.TheVariants.{Empty, On}
use Rattle.author_desk.specs.Lines.{slots_named, slots_cut}
use Rattle.author_desk.specs.Cuts.{opening_edits, CanRaise, Raises, KeepsSeat}
use Rattle.author_desk.proofs.FirstTurn.{slots_more}
use Rattle.author_desk.proofs.SeenStates.{most_itself, raised_later, raised_all}
use Rattle.edge_board.proofs.States.{most_then}

pub raises_none : (c : Cuts) → Raises c c []
raises_none Empty = refl
raises_none (On opening board seat) = (seat, refl, record { board = refl; parts = refl; marks = sym (append-nil seat.marks); seen = most_itself seat.seen; seen_raised = tt })

pub raises_both : (c c' c'' : Cuts) (xs ys : List ℕ) → Raises c c' xs → Raises c' c'' ys → Raises c c'' (xs ++ ys)
raises_both Empty c' c'' xs ys h h' = subst (λ z. Raises z c'' ys) h h'
raises_both (On opening board seat) c' c'' xs ys h h' =
    let k : Raises (On opening board h.0) c'' ys = subst (λ z. Raises z c'' ys) h.1 h' in (
      k.0,
      k.1,
      record {
        board = k.2.board ∙ h.2.board;
        parts = k.2.parts ∙ h.2.parts;
        marks = k.2.marks ∙ (ap (λ marks. marks ++ ys) h.2.marks ∙ append_assoc seat.marks xs ys);
        seen = most_then seat.seen h.0.seen k.0.seen h.2.seen k.2.seen;
        seen_raised = raised_all k.0.seen xs ys (raised_later h.0.seen k.0.seen xs k.2.seen h.2.seen_raised) k.2.seen_raised;
      },
    )

-- the opening edges stay, and can be raised again
pub still : (c c' : Cuts) (xs : List ℕ) → CanRaise c → Raises c c' xs → CanRaise c' × (opening_edits c' ≡ opening_edits c)
still Empty c' xs can h = subst (λ z. CanRaise z × (opening_edits z ≡ [])) (sym h) (tt, refl)
still (On opening board seat) c' xs can h = subst (λ z. CanRaise z × (opening_edits z ≡ opening.now)) (sym h.1) ((can.0, can.1, h.2.board ∙ can.2), refl)

pub keeps_seat : (c c' : Cuts) (xs : List ℕ) → Raises c c' xs → KeepsSeat c c'
keeps_seat Empty c' xs h = h
keeps_seat (On opening board seat) c' xs h = (h.0, h.1, h.2.board, h.2.parts)

-- one line more
pub raises_line : (c c' c'' : Cuts) (lines : List Action) (i : ℕ) (x : Action) → CanRaise c → i < length lines → get_or lines i x ≡ x → Raises c c' (slots_cut (opening_edits c) (take i lines))
    → Raises c' c'' (slots_named (opening_edits c') x) → Raises c c'' (slots_cut (opening_edits c) (take (i + 1) lines))
raises_line c c' c'' lines i x can lt at h h' =
    let es = opening_edits c in
    let same = (still c c' (slots_cut es (take i lines)) can h).1 in
    subst (Raises c c'') (sym (slots_more es lines i (i + 1) x lt refl at))
    (raises_both c c' c'' (slots_cut es (take i lines)) (slots_named es x) h (subst (λ e. Raises c' c'' (slots_named e x)) same h'))
