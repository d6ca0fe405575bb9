-- The generated session is a session, and its text is the generated one.
use Rattle.std.proofs.Common.{◌≡◌, ℕ, ◌+◌, ◌<◌, ◌≤◌, Bool, true, false, cond, List, [], ◌∷◌, ◌++◌, length, map, codes, refl, sym, ap, subst, ◌∙◌, append_assoc, arith, lit<, lit≤}
use Rattle.std.specs.List.{count_by, sum_by, flat_map, AllByRecursion}
use Rattle.std.proofs.lemmas.List.{length-map}
use Rattle.std.proofs.lemmas.List.Sums.{sum_by-append, sum_by-cons}
use Rattle.grove_sorts.specs.declared.ident.Ident.{Ident}
use Rattle.grove_sorts.specs.declared.version.Version.TheVariants.{One}
use Rattle.grove_sorts.specs.Ident.{ident_bytes}
use Rattle.grove_sorts.specs.Identifier.{IsIdentifier}
use Rattle.session_script.specs.declared.author.Declared.{Declared}
use Rattle.session_script.specs.declared.item.Block as blocks
use Rattle.session_script.specs.declared.item.Item.{Item}
use Rattle.session_script.specs.declared.item.Item.TheVariants as item
use Rattle.session_script.specs.declared.line.Line.{Line}
use Rattle.session_script.specs.declared.session.Session.{Session}
use Rattle.session_script.specs.Statement.{IsReplicaOf}
use Rattle.session_script.specs.Session.{replica_line, author_line, item_lines, session_lines, AllDiffer, IsLine, IsItem, IsLineOf, IsItemOf, IsSession, Spells, is_send, is_block, is_show, send_count}
use Rattle.session_script.proofs.Told.{all_append}
use Rattle.session_gen.specs.Generated.{generated_lines, generated_text}
use Rattle.session_gen.specs.Items.{AreNamed, IsLoad, AreLoads, declared, acting, sending}
use Rattle.session_gen.proofs.SessionLines.{replica_lines, author_lines, all_item_lines}

three : (replicas : List Ident) → AreNamed replicas → length replicas ≡ 3
three replicas named = sym (length-map replicas ident_bytes) ∙ ap length named

abbrev IsNamedSet : List Ident → Type 0
IsNamedSet replicas = AllDiffer replicas × AllByRecursion (IsReplicaOf One) replicas

other_bytes : (a b : Ident) (x y : List ℕ) → ident_bytes a ≡ x → ident_bytes b ≡ y → (x ≡ y → ⊥) → a ≡ b → ⊥
other_bytes a b x y of_a of_b differ same = differ (sym of_a ∙ ap ident_bytes same ∙ of_b)

same_letter : (c d : ℕ) → c ∷ [] ≡ d ∷ [] → c ≡ d
same_letter c d e = cc

a_or_b : codes "a" ≡ codes "b" → ⊥
a_or_b e = omega (arith, same_letter 97 98 e)

a_or_c : codes "a" ≡ codes "c" → ⊥
a_or_c e = omega (arith, same_letter 97 99 e)

b_or_c : codes "b" ≡ codes "c" → ⊥
b_or_c e = omega (arith, same_letter 98 99 e)

named_set : (a b c : Ident) → ident_bytes a ≡ codes "a" → ident_bytes b ≡ codes "b" → ident_bytes c ≡ codes "c" → IsNamedSet (a ∷ b ∷ c ∷ [])
named_set a b c of_a of_b of_c = (
  (
    (other_bytes a b (codes "a") (codes "b") of_a of_b a_or_b, (other_bytes a c (codes "a") (codes "c") of_a of_c a_or_c, tt)),
    ((other_bytes b c (codes "b") (codes "c") of_b of_c b_or_c, tt), (tt, tt)),
  ),
  (subst (IsIdentifier One) (sym of_a) refl, (subst (IsIdentifier One) (sym of_b) refl, (subst (IsIdentifier One) (sym of_c) refl, tt))),
)

bytes_of : (a b c : List ℕ) (rest : List (List ℕ)) → a ∷ b ∷ c ∷ rest ≡ codes "a" ∷ codes "b" ∷ codes "c" ∷ [] → (a ≡ codes "a") × (b ≡ codes "b") × (c ≡ codes "c")
bytes_of a b c rest e = (cc, cc, cc)

replicas_good : (replicas : List Ident) → AreNamed replicas → IsNamedSet replicas
replicas_good [] named = absurd cc
replicas_good (a ∷ []) named = absurd cc
replicas_good (a ∷ b ∷ []) named = absurd cc
replicas_good (a ∷ b ∷ c ∷ []) named = let h = bytes_of (ident_bytes a) (ident_bytes b) (ident_bytes c) [] named in named_set a b c h.0 h.1 h.2
replicas_good (a ∷ b ∷ c ∷ d ∷ rest) named = absurd cc

-- ---- items

loads_are_items : (session : Session) (loads : List Item) → length session.replicas ≡ 3 → AllByRecursion IsLoad loads → AllByRecursion (IsItem session) loads
loads_are_items session [] few h = tt
loads_are_items session (item.Load replica edit ∷ loads) few h = (omega (arith, h.0.0), loads_are_items session loads few h.1)
loads_are_items session (_ ∷ loads) few h = absurd h.0

loads_of_one : (loads : List Item) → AllByRecursion IsLoad loads → AllByRecursion (IsItemOf One) loads
loads_of_one [] h = tt
loads_of_one (item.Load replica edit ∷ loads) h = (h.0.1, loads_of_one loads h.1)
loads_of_one (_ ∷ loads) h = absurd h.0

loads_count : (f : Item → ℕ) (loads : List Item) → ((i : Item) → IsLoad i → f i ≡ 0) → AllByRecursion IsLoad loads → sum_by f loads ≡ 0
loads_count f [] none h = refl
loads_count f (i ∷ loads) none h = omega (arith, sum_by-cons f i loads, none i h.0, loads_count f loads none h.1)

no_block : (i : Item) → IsLoad i → ◌≡◌ {A = ℕ} (cond (is_block i) 1 0) 0
no_block (item.Load replica edit) h = refl
no_block _ h = absurd h

no_show : (i : Item) → IsLoad i → ◌≡◌ {A = ℕ} (cond (is_show i) 1 0) 0
no_show (item.Load replica edit) h = refl
no_show _ h = absurd h

no_send : (i : Item) → IsLoad i → send_count i ≡ 0
no_send (item.Load replica edit) h = refl
no_send _ h = absurd h

abbrev made : List Ident → List Item → Session
made replicas items = record { version = One; replicas = replicas; authors = declared; items = items }

acting_lines_good : (replicas : List Ident) (items : List Item) → AllByRecursion (IsLine (made replicas items)) acting
acting_lines_good replicas items = (
  ((0, lit< tt, refl), (((lit< tt, lit< tt), lit< tt))),
  (((1, lit< tt, refl), ((lit< tt, lit< tt), lit< tt)), (((2, lit< tt, refl), ((lit< tt, lit< tt), lit< tt)), tt)),
)

sending_good : (replicas : List Ident) (items : List Item) (reverse twice : Bool) → length replicas ≡ 3 → AllByRecursion (IsLine (made replicas items)) (sending reverse twice)
sending_good replicas items reverse twice few = (
  record { from = omega arith; to = omega arith; skip = lit≤ tt; take = lit≤ tt; some_cut = lit≤ tt; cut = lit≤ tt; few_pieces = lit≤ tt },
  (
    record { from = omega arith; to = omega arith; skip = lit≤ tt; take = lit≤ tt; some_cut = lit≤ tt; cut = lit≤ tt; few_pieces = lit≤ tt },
    (record { from = omega arith; to = omega arith; skip = lit≤ tt; take = lit≤ tt; some_cut = lit≤ tt; cut = lit≤ tt; few_pieces = lit≤ tt }, tt),
  ),
)

-- ---- the whole

is_generated : (replicas : List Ident) (count : ℕ) (loads : List Item) (first second third : blocks.Block) → AreNamed replicas → AreLoads count loads
    → first.lines ≡ acting → second.lines ≡ sending false false → third.lines ≡ sending true true
    → IsSession (made replicas (loads ++ item.Block first ∷ item.Block second ∷ item.Block third ∷ []))
is_generated replicas count loads first second third named are of_first of_second of_third =
    let behind : List Item = item.Block first ∷ item.Block second ∷ item.Block third ∷ [] in
    let items : List Item = loads ++ (item.Block first ∷ item.Block second ∷ item.Block third ∷ []) in
    let few = three replicas named in
    let good = replicas_good replicas named in
    let sends : sum_by send_count (item.Block first ∷ item.Block second ∷ item.Block third ∷ []) ≡ 6 =
    omega (
      arith,
      sum_by-cons send_count (item.Block first) (item.Block second ∷ item.Block third ∷ []),
      sum_by-cons send_count (item.Block second) (item.Block third ∷ []),
      sum_by-cons send_count (item.Block third) [],
      ap (count_by is_send) of_first,
      ap (count_by is_send) of_second,
      ap (count_by is_send) of_third,
    ) in
    record {
      some_replica = omega arith;
      few_replicas = omega arith;
      replicas_differ = good.0;
      authors = (((lit≤ tt, lit< tt), omega arith), (((lit≤ tt, lit< tt), omega arith), (((lit≤ tt, lit< tt), omega arith), tt)));
      few_authors = lit≤ tt;
      authors_differ = (((λ e. absurd (omega arith)), ((λ e. absurd (omega arith)), tt)), (((λ e. absurd (omega arith)), tt), (tt, tt)));
      items = all_append (IsItem (made replicas items)) loads behind (loads_are_items (made replicas items) loads few are.each) (
        subst (AllByRecursion (IsLine (made replicas items))) (sym of_first) (acting_lines_good replicas items),
        (
          subst (AllByRecursion (IsLine (made replicas items))) (sym of_second) (sending_good replicas items false false few),
          (subst (AllByRecursion (IsLine (made replicas items))) (sym of_third) (sending_good replicas items true true few), tt),
        ),
      );
      few_blocks = omega (arith, sum_by-append (λ i. cond (is_block i) 1 0) loads (item.Block first ∷ item.Block second ∷ item.Block third ∷ []), loads_count (λ i. cond (is_block i) 1 0) loads no_block are.each);
      few_sends = omega (arith, sum_by-append send_count loads (item.Block first ∷ item.Block second ∷ item.Block third ∷ []), loads_count send_count loads no_send are.each, sends);
      few_shows = omega (arith, sum_by-append (λ i. cond (is_show i) 1 0) loads (item.Block first ∷ item.Block second ∷ item.Block third ∷ []), loads_count (λ i. cond (is_show i) 1 0) loads no_show are.each);
      replicas_of_version = good.1;
      items_of_version = all_append (IsItemOf One) loads behind (loads_of_one loads are.each) (
        subst (AllByRecursion (IsLineOf One)) (sym of_first) ((refl, refl), ((refl, refl), ((refl, refl), tt))),
        (subst (AllByRecursion (IsLineOf One)) (sym of_second) (tt, (tt, (tt, tt))), (subst (AllByRecursion (IsLineOf One)) (sym of_third) (tt, (tt, (tt, tt))), tt)),
      );
    }

lines_are : (replicas : List Ident) (count : ℕ) (loads : List Item) (first second third : blocks.Block) → AreNamed replicas → AreLoads count loads
    → first.lines ≡ acting → second.lines ≡ sending false false → third.lines ≡ sending true true
    → session_lines (made replicas (loads ++ item.Block first ∷ item.Block second ∷ item.Block third ∷ [])) ≡ generated_lines count
lines_are replicas count loads first second third named are of_first of_second of_third =
    let items : List Item = loads ++ (item.Block first ∷ item.Block second ∷ item.Block third ∷ []) in
    ap (λ (ls : List (List ℕ)). codes "session" ∷ ls ++ (map (author_line replicas) declared ++ flat_map (item_lines replicas) items)) (replica_lines replicas named)
    ∙ ap (λ (ls : List (List ℕ)). codes "session" ∷ codes "replica a" ∷ codes "replica b" ∷ codes "replica c" ∷ ls ++ flat_map (item_lines replicas) items) (author_lines replicas named)
    ∙ ap (λ (ls : List (List ℕ)). codes "session" ∷ codes "replica a" ∷ codes "replica b" ∷ codes "replica c" ∷ codes "author 4 a" ∷ codes "author 5 b" ∷ codes "author 6 c" ∷ ls)
    (all_item_lines count replicas loads first second third named are of_first of_second of_third)

pub spells_generated : (replicas : List Ident) (authors : List Declared) (items : List Item) (count : ℕ) (loads : List Item) (first second third : blocks.Block) → AreNamed replicas → authors ≡ declared
    → AreLoads count loads → first.lines ≡ acting → second.lines ≡ sending false false → third.lines ≡ sending true true
    → items ≡ ((loads ++ item.Block first ∷ []) ++ item.Block second ∷ []) ++ item.Block third ∷ []
    → Spells (generated_text count) (record { version = One; replicas = replicas; authors = authors; items = items })
spells_generated replicas authors items count loads first second third named of_authors are of_first of_second of_third of_items =
    let grouped : items ≡ loads ++ (item.Block first ∷ item.Block second ∷ item.Block third ∷ []) =
    of_items ∙ append_assoc (loads ++ item.Block first ∷ []) (item.Block second ∷ []) (item.Block third ∷ []) ∙ append_assoc loads (item.Block first ∷ []) (item.Block second ∷ item.Block third ∷ []) in
    subst (λ (ds : List Declared). Spells (generated_text count) (record { version = One; replicas = replicas; authors = ds; items = items })) (sym of_authors)
    (subst (λ (is : List Item). Spells (generated_text count) (made replicas is)) (sym grouped) (record {
      is_session = is_generated replicas count loads first second third named are of_first of_second of_third;
      spelled = ap (flat_map (λ (line : List ℕ). line ++ 10 ∷ [])) (sym (lines_are replicas count loads first second third named are of_first of_second of_third));
    }))
