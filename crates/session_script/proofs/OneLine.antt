-- Items of one line: which statement says which item, and what all of them have in common.
use Rattle.std.proofs.Common.{◌≡◌, ◌⊎◌, ℕ, suc, ◌+◌, ◌<◌, ◌≤◌, Bool, true, false, ◌&&◌, ◌||◌, nat_le, cond, List, [], ◌∷◌, ◌++◌, Some, length, slice_get, inl, inr, refl, sym, ap, subst, ◌∙◌, arith}
use Rattle.std.specs.List.{list_all, list_any, AllByRecursion, Contains}
use Rattle.std.proofs.lemmas.Bool.Decides.{nat_tests}
use Rattle.std.proofs.lemmas.Option.{slice_get_within}
use Rattle.grove_sorts.specs.declared.ident.Ident.{Ident}
use Rattle.grove_sorts.specs.declared.version.Version.{Version}
use Rattle.grove_edits.specs.declared.edit.Edit.{Edit}
use Rattle.grove_edits.specs.Edit.{edit_edge, edit_kind}
use Rattle.session_script.specs.declared.item.Block as blocks
use Rattle.session_script.specs.declared.item.Item.{Item}
use Rattle.session_script.specs.declared.item.Item.TheVariants as item
use Rattle.session_script.specs.declared.line.Line.{Line}
use Rattle.session_script.specs.declared.line.Line.TheVariants as line
use Rattle.session_script.specs.declared.session.Session as sessions
use Rattle.session_script.specs.declared.statement.Statement.{Statement}
use Rattle.session_script.specs.declared.statement.Statement.TheVariants.{Load, Show}
use Rattle.session_script.specs.Action.{ActionInRange}
use Rattle.session_script.specs.Statement.{statement_text, InRange, load_line, IsReplicaOf, IsStatementOf}
use Rattle.session_script.specs.Order.{replicas_of, is_same_ident, named_replicas}
use Rattle.session_script.specs.Session.{item_lines, AllDiffer, author_numbers, IsSend, IsLine, IsItem, IsItemOf, is_block, is_show, send_count}
use Rattle.session_script.specs.View.{View, counted, seen, items_at, place_at, declared_at, repeats_replica_at, unknown_author_at, repeats_author_at, too_many_at}
use Rattle.session_script.specs.Reading.{ItemsAfter}
use Rattle.session_script.proofs.Names.{named, name_is, name_known, declared_name, same_number}

-- ---- what an item names is declared

abbrev pub IsLineIn : ℕ → List ℕ → Line → Type 0
IsLineIn replicas numbers (line.Author author action) = Contains numbers author × ActionInRange action
IsLineIn replicas numbers (line.Send send) = IsSend replicas send

abbrev pub IsItemIn : ℕ → List ℕ → Item → Type 0
IsItemIn replicas numbers (item.Load replica edit) = replica < replicas
IsItemIn replicas numbers (item.Block block) = AllByRecursion (IsLineIn replicas numbers) block.lines
IsItemIn replicas numbers item.Show = Unit {0}

are_lines : (session : sessions.Session) (lines : List Line) → AllByRecursion (IsLineIn (length session.replicas) (author_numbers session.authors)) lines → AllByRecursion (IsLine session) lines
are_lines session [] h = tt
are_lines session (line.Author n action ∷ lines) h = (h.0, are_lines session lines h.1)
are_lines session (line.Send send ∷ lines) h = (h.0, are_lines session lines h.1)

pub is_item_of : (session : sessions.Session) (i : Item) → IsItemIn (length session.replicas) (author_numbers session.authors) i → IsItem session i
is_item_of session (item.Load number edit) h = h
is_item_of session (item.Block block) h = are_lines session block.lines h
is_item_of session item.Show h = tt

-- ---- the item of a statement

-- the statement by itself says the item
abbrev pub SaysItem : List Ident → Statement → Item → Type 0
SaysItem replicas (Load replica edit) i = (number : ℕ) × (slice_get replicas number ≡ Some replica) × (i ≡ item.Load number edit)
SaysItem replicas Show i = i ≡ item.Show
SaysItem replicas _ i = ⊥

-- what it leaves of a view, where the item is counted if it is a show
abbrev pub with_item : View → Item → View
with_item v i = record {
  version = v.version;
  nothing = false;
  begun = v.begun || false;
  only_replicas = v.only_replicas && false;
  only_declared = v.only_declared && false;
  some_replica = v.some_replica || false;
  replicas = v.replicas;
  authors = v.authors;
  blocks = v.blocks;
  ends = v.ends;
  sends = v.sends;
  shows = counted (is_show i) v.shows;
}

-- what all items of one line have in common with their statements
pub record IsOneLine (replicas : List Ident) (s : Statement) (i : Item) : Type 0 where
  pub text : item_lines replicas i ≡ statement_text s ∷ []
  pub in_range : InRange s
  pub of_version : (version : Version) → AllByRecursion (IsReplicaOf version) replicas → IsItemOf version i → IsStatementOf version s
  pub item_of_version : (version : Version) → IsStatementOf version s → IsItemOf version i
  pub fits : (numbers : List ℕ) → IsItemIn (length replicas) numbers i
  pub no_block : ◌≡◌ {A = ℕ} (cond (is_block i) 1 0) 0
  pub no_sends : send_count i ≡ 0
  pub no_replicas : (ss : List Statement) → replicas_of (s ∷ ss) ≡ replicas_of ss
  pub seen_is : (v : View) → seen v s ≡ with_item v i
  -- where it has no fault
  pub place : (v : View) → place_at v s ≡ items_at v
  pub declared : (v : View) → v.replicas ≡ replicas → list_all (declared_at v) (named_replicas s) ≡ true
  pub old_replica : (v : View) → repeats_replica_at v s ≡ false
  pub no_author : (v : View) → unknown_author_at v s ≡ false
  pub old_author : (v : View) → repeats_author_at v s ≡ false
  pub few : (v : View) → v.shows + cond (is_show i) 1 0 ≤ 8 → too_many_at v s ≡ false
  pub within : (v : View) → too_many_at v s ≡ false → v.shows ≤ 8 → counted (is_show i) v.shows ≤ 8

below_limit : (n limit : ℕ) → n + 1 ≤ limit → nat_le limit n ≡ false
below_limit n limit h = grind (arith, nat_tests)

is_below : (n limit : ℕ) → nat_le limit n ≡ false → suc n ≤ limit
is_below n limit h = grind (arith, nat_tests)

load_line_item : (replicas : List Ident) (replica : Ident) (edit : Edit) (number : ℕ) → slice_get replicas number ≡ Some replica → IsOneLine replicas (Load replica edit) (item.Load number edit)
load_line_item replicas replica edit number is = record {
  text = ap (λ (name : List ℕ). load_line name (edit_kind edit) (edit_edge edit) ∷ []) (name_is replicas number replica is);
  in_range = tt;
  of_version = λ version names of. (name_known version replicas number replica names is, of);
  item_of_version = λ version of. of.1;
  fits = λ numbers. slice_get_within replicas number replica is;
  no_block = refl;
  no_sends = refl;
  no_replicas = λ ss. refl;
  seen_is = λ v. refl;
  place = λ v. refl;
  declared = λ v same. ap (λ b. b && true) (ap (list_any (is_same_ident replica)) same ∙ declared_name replicas number replica is);
  old_replica = λ v. refl;
  no_author = λ v. refl;
  old_author = λ v. refl;
  few = λ v few. refl;
  within = λ v few old. old;
}

show_line_item : (replicas : List Ident) → IsOneLine replicas Show item.Show
show_line_item replicas = record {
  text = refl;
  in_range = tt;
  of_version = λ version names of. tt;
  item_of_version = λ version of. tt;
  fits = λ numbers. tt;
  no_block = refl;
  no_sends = refl;
  no_replicas = λ ss. refl;
  seen_is = λ v. refl;
  place = λ v. refl;
  declared = λ v same. refl;
  old_replica = λ v. refl;
  no_author = λ v. refl;
  old_author = λ v. refl;
  few = λ v few. below_limit v.shows 8 few;
  within = λ v few old. is_below v.shows 8 few;
}

pub one_line : (replicas : List Ident) (s : Statement) (i : Item) → SaysItem replicas s i → IsOneLine replicas s i
one_line replicas (Load replica edit) i h = subst (IsOneLine replicas (Load replica edit)) (sym h.2) (load_line_item replicas replica edit h.0 h.1)
one_line replicas Show i h = subst (IsOneLine replicas Show) (sym h) (show_line_item replicas)
one_line replicas _ i h = absurd h

-- each item of a session has one line, or is a block
pub item_forms : (session : sessions.Session) (i : Item) → IsItem session i → ((s : Statement) × SaysItem session.replicas s i) ⊎ ((block : blocks.Block) × (i ≡ item.Block block))
item_forms session (item.Load number edit) h = let name = named session.replicas number h in inl (Load name.0 edit, (number, name.1, refl))
item_forms session (item.Block block) h = inr (block, refl)
item_forms session item.Show h = inl (Show, refl)

-- a statement says one item
pub one_item : (replicas : List Ident) (s : Statement) (i j : Item) → AllDiffer replicas → SaysItem replicas s i → SaysItem replicas s j → i ≡ j
one_item replicas (Load replica edit) i j differ h g =
    h.2 ∙ ap (λ number. item.Load number edit) (same_number replicas h.0 g.0 replica replica differ refl h.1 g.1) ∙ sym g.2
one_item replicas Show i j differ h g = h ∙ sym g
one_item replicas _ i j differ h g = absurd h

-- a statement that says an item
abbrev pub is_item : Statement → Bool
is_item (Load replica edit) = true
is_item Show = true
is_item _ = false

pub item_after : (replicas : List Ident) (s : Statement) (old : List Item) (lines : List Line) (new : List Item) → is_item s ≡ true → ItemsAfter replicas old lines s new
    → (i : Item) × SaysItem replicas s i × (new ≡ old ++ i ∷ [])
item_after replicas (Load replica edit) old lines new is h = (item.Load h.0 edit, (h.0, h.1, refl), h.2)
item_after replicas Show old lines new is h = (item.Show, refl, h)
item_after replicas _ old lines new is h = absurd cc
