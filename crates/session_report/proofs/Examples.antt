-- Worked examples of the lines of a journal.
use Rattle.std.proofs.Common.{◌≡◌, ◌<◌, ◌^◌, ◌+◌, ℕ, zero, suc, List, Option, Some, slice_get, length, length-append, ap, arith, subst, [], ◌∷◌, ◌++◌, codes, decimal, refl, sym, inl, inr, lit<, lit≤}
use Rattle.std.specs.Str.Parse.{AllDigits, digits_value}
use Rattle.grove_sorts.specs.declared.ident.Ident.{Ident}
use Rattle.grove_sorts.specs.Ident.{ident_bytes}
use Rattle.grove_edits.specs.declared.edit.Edit.{Edit}
use Rattle.grove_edits.specs.Graph.{graph, IsCanonical}
use Rattle.session_script.specs.declared.line.SendLine.{SendLine}
use Rattle.session_script.specs.declared.item.Block.{Block}
use Rattle.session_script.specs.declared.item.Item.{Item}
use Rattle.session_script.specs.declared.item.Item.TheVariants as item
use Rattle.session_script.specs.declared.session.Session.{Session}
use Rattle.grove_edits.specs.declared.answer.Answer.{Answer}
use Rattle.grove_edits.specs.declared.command.Command.{Command}
use Rattle.session_report.specs.Taken.{Journals, taken}
use Rattle.session_report.specs.Legal.{IsLegalAt, AreLegal}
use Rattle.session_report.specs.Report.{IsReport, block_heading, journals_text}
use Rattle.text_parts.specs.Number.{IsNumberText}
use Rattle.text_parts.proofs.Numbers.{decimal_from_IsNumberText}
use Rattle.grove_sorts.specs.declared.version.Version.TheVariants.{One}
use Rattle.grove_sorts.specs.declared.ctor.Ctor.TheVariants.{Num}
use Rattle.grove_sorts.specs.declared.position.Position.TheVariants.{Left}
use Rattle.grove_edits.specs.declared.action.Action.TheVariants.{Construct}
use Rattle.grove_edits.specs.declared.act_fault.ActFault.TheVariants.{AmbiguousVertex, NamesSpent}
use Rattle.grove_edits.specs.declared.actor.Actor.TheVariants.{Author, Send}
use Rattle.grove_edits.specs.declared.answer.Answer.TheVariants.{Made, Taken, Refused}
use Rattle.grove_edits.specs.declared.command.Command.TheVariants.{Act, Take}
use Rattle.session_report.specs.Entry.{entry_line}

-- digits are the text of the number that they write
written : (text : List ℕ) → IsNumberText text → digits_value 10 text < 2 ^ 64 → decimal (digits_value 10 text) ≡ text
written text is small = sym (decimal_from_IsNumberText text is small)

d0 : decimal 0 ≡ codes "0"
d0 = written (codes "0") (inl (refl, refl)) (lit< tt)

d1 : decimal 1 ≡ codes "1"
d1 = written (codes "1") (inr (lit≤ tt, lit≤ tt, tt)) (lit< tt)

d2 : decimal 2 ≡ codes "2"
d2 = written (codes "2") (inr (lit≤ tt, lit≤ tt, tt)) (lit< tt)

d3 : decimal 3 ≡ codes "3"
d3 = written (codes "3") (inr (lit≤ tt, lit≤ tt, tt)) (lit< tt)

d5 : decimal 5 ≡ codes "5"
d5 = written (codes "5") (inr (lit≤ tt, lit≤ tt, tt)) (lit< tt)

d_most : decimal 18446744073709551615 ≡ codes "18446744073709551615"
d_most = written (codes "18446744073709551615") (inr (lit≤ tt, lit≤ tt, (lit< tt, (lit< tt, (lit< tt, (lit< tt, (lit< tt, (lit< tt, (lit< tt, (lit< tt, (lit< tt, (lit< tt, (lit< tt, (lit< tt, (lit< tt, (lit< tt, (lit< tt, (lit< tt, (lit< tt, (lit< tt, (lit< tt, tt))))))))))))))))))))) (lit< tt)

-- a name that two vertices have
refused_line :
    entry_line (Author 3) (Act (Construct (record { name = record { author = 2; counter = 1 }; position = Left }) (Num 5)))
    (Refused (AmbiguousVertex (record { name = record { author = 2; counter = 1 }; ctor = Num 1 }) (record { name = record { author = 2; counter = 1 }; ctor = Num 2 })))
    ≡ codes "3 construct 2.1 left num:5 = refused 2 ambiguous-vertex 2.1 num:1 2.1 num:2"
refused_line = simp (d1, d2, d3, d5) refl

-- the greatest counter was given
spent_line :
    entry_line (Author 1) (Act (Construct (record { name = record { author = 1; counter = 1 }; position = Left }) (Num 1))) (Refused (NamesSpent 18446744073709551615))
    ≡ codes "1 construct 1.1 left num:1 = refused 12 names-spent 18446744073709551615"
spent_line = simp (d1, d_most) refl

made_line :
    entry_line (Author 2) (Act (Construct (record { name = record { author = 1; counter = 1 }; position = Left }) (Num 2))) (Made (record { author = 2; counter = 1 }))
    ≡ codes "2 construct 1.1 left num:2 = made 2.1"
made_line = simp (d1, d2) refl

taken_line : entry_line (Send 1) (Take 1 [] []) (Taken 2) ≡ codes "send 1 piece 1 edits 2"
taken_line = simp (d1, d2) refl

-- ---- a session with an empty block

some_injective : (x y : List Edit) → Some x ≡ Some y → x ≡ y
some_injective x y e = cc

no_line : (send : SendLine) (index : ℕ) → slice_get [] index ≡ Some send → ⊥
no_line send index is = cc

first_block : (a b : Block) (after : List Item) → item.Block a ∷ [] ≡ item.Block b ∷ after → a ≡ b
first_block a b after is = cc

-- no edits are the canonical list of the empty graph
empty_canonical : (list : List Edit) → [] ≡ list → IsCanonical (graph []) list
empty_canonical list is = subst (IsCanonical (graph [])) is (record { in_order = tt; same = λ e. refl })

abbrev session : Ident → Session
session a = record { version = One; replicas = a ∷ []; authors = []; items = item.Block (record { lines = [] }) ∷ [] }

module _ (M : Type 0) where
  abbrev journals : Journals M
  journals = record { block = 1; replica = 1; journal = [] } ∷ []

  reported : (a : Ident) → ident_bytes a ≡ codes "a" → IsReport {M = M} (session a) journals (codes "block 1" ++ 10 ∷ codes "journal a 0" ++ 10 ∷ [])
  reported a named = (block_heading 1 ++ journals_text {M = M} (a ∷ []) ([] ∷ []), [], refl, refl, simp (d0, d1, named) refl)

  -- nothing is sent from the empty graph
  sources_from : (js : Journals M) (replica : ℕ) (list : List Edit) → slice_get ([] ∷ []) replica ≡ Some list → IsCanonical (graph (taken js replica [])) list
  sources_from js zero list is = empty_canonical list (some_injective [] list is)
  sources_from js (suc replica) list is = absurd cc

  fits : (a : Ident) (replica : ℕ) → replica < 1 → IsLegalAt {M = M} (session a) journals [] [] replica
  fits a zero within = record {
    sources = [] ∷ [];
    are_sources = record { all = refl; each = sources_from journals };
    legal = record {
      calls = record { authors = λ author acts. absurd (omega (arith, acts.1)); sends = λ number send sends. absurd (no_line send sends.index sends.is_line); no_other = tt };
      planned = tt;
    };
  }
  fits a (suc replica) within = absurd (omega arith)

  fits_there : (a : Ident) (before after : List Item) (block : Block) (replica : ℕ) → (session a).items ≡ before ++ item.Block block ∷ after → replica < length (session a).replicas
      → IsLegalAt {M = M} (session a) journals before block.lines replica
  fits_there a [] after block replica is within =
      subst (λ (b : Block). IsLegalAt {M = M} (session a) journals [] b.lines replica) (first_block (record { lines = [] }) block after is) (fits a replica within)
  fits_there a (x ∷ before) after block replica is within = absurd (omega (arith, ap length is, length-append before (item.Block block ∷ after)))

  -- the one journal, without entries, is legal
  legal : (a : Ident) → AreLegal {M = M} (session a) journals
  legal a = record { places = refl; each = fits_there a }
