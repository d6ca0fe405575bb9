-- The lines of the generated session.
use Rattle.std.proofs.Common.{◌≡◌, ℕ, Bool, true, false, List, [], ◌∷◌, ◌++◌, map, codes, decimal, refl, sym, ap, ◌∙◌, append-nil, lit<}
use Rattle.std.specs.List.{flat_map}
use Rattle.std.proofs.lemmas.Grind.{flat_map-append}
use Rattle.grove_sorts.specs.declared.ident.Ident.{Ident}
use Rattle.grove_sorts.specs.Ident.{ident_bytes}
use Rattle.edit_text.specs.Line.{spaced}
use Rattle.session_script.specs.declared.item.Block as blocks
use Rattle.session_script.specs.declared.item.Item.{Item}
use Rattle.session_script.specs.declared.item.Item.TheVariants as item
use Rattle.session_script.specs.declared.line.Line.{Line}
use Rattle.session_script.specs.Statement.{direction, repetition, send_line}
use Rattle.session_script.specs.Session.{replica_name, replica_line, author_line, line_text, item_lines}
use Rattle.session_gen.specs.Generated.{send_block, load_lines}
use Rattle.session_gen.specs.Generated.{send_line as sent_line}
use Rattle.session_gen.specs.Items.{AreNamed, AreLoads, declared, act_of, acting, send_of, sending}
use Rattle.session_gen.proofs.Numerals.{d0, d1, d4, d5, d6, d1000000, d4096}
use Rattle.session_gen.proofs.MoreLoads.{name_of}

same_three : (a b c x y z : List ℕ) → a ≡ x → b ≡ y → c ≡ z → a ∷ b ∷ c ∷ [] ≡ x ∷ y ∷ z ∷ []
same_three a b c x y z of_a of_b of_c =
    ap (λ (t : List ℕ). t ∷ b ∷ c ∷ []) of_a ∙ ap (λ (t : List ℕ). x ∷ t ∷ c ∷ []) of_b ∙ ap (λ (t : List ℕ). x ∷ y ∷ t ∷ []) of_c

-- ---- replicas and authors

abbrev line_of_name : List ℕ → List ℕ
line_of_name name = spaced (codes "replica" ∷ name ∷ [])

by_names : (replicas : List Ident) → map replica_line replicas ≡ map line_of_name (map ident_bytes replicas)
by_names [] = refl
by_names (r ∷ replicas) = ap (λ (ls : List (List ℕ)). replica_line r ∷ ls) (by_names replicas)

pub replica_lines : (replicas : List Ident) → AreNamed replicas → map replica_line replicas ≡ codes "replica a" ∷ codes "replica b" ∷ codes "replica c" ∷ []
replica_lines replicas named = by_names replicas ∙ ap (map line_of_name) named

author_is : (replicas : List Ident) (author replica : ℕ) (digits name : List ℕ) → decimal author ≡ digits → replica_name replicas replica ≡ name
    → author_line replicas (record { author = author; replica = replica }) ≡ spaced (codes "author" ∷ digits ∷ name ∷ [])
author_is replicas author replica digits name of_digits of_name =
    ap (λ (t : List ℕ). spaced (codes "author" ∷ t ∷ replica_name replicas replica ∷ [])) of_digits ∙ ap (λ (t : List ℕ). spaced (codes "author" ∷ digits ∷ t ∷ [])) of_name

pub author_lines : (replicas : List Ident) → AreNamed replicas → map (author_line replicas) declared ≡ codes "author 4 a" ∷ codes "author 5 b" ∷ codes "author 6 c" ∷ []
author_lines replicas named =
    same_three _ _ _ (codes "author 4 a") (codes "author 5 b") (codes "author 6 c")
    (author_is replicas 4 0 (codes "4") (codes "a") d4 (name_of replicas 0 named (lit< tt)))
    (author_is replicas 5 1 (codes "5") (codes "b") d5 (name_of replicas 1 named (lit< tt)))
    (author_is replicas 6 2 (codes "6") (codes "c") d6 (name_of replicas 2 named (lit< tt)))

-- ---- blocks

act_is : (replicas : List Ident) (author : ℕ) (digits : List ℕ) → decimal author ≡ digits → line_text replicas (act_of author) ≡ digits ++ codes " construct 0.0 main num:1"
act_is replicas author digits of_digits =
    ap (λ (t : List ℕ). t ++ 32 ∷ spaced (codes "construct" ∷ (decimal 0 ++ 46 ∷ decimal 0) ∷ codes "main" ∷ (codes "num:" ++ decimal 1) ∷ [])) of_digits
    ∙ ap (λ (t : List ℕ). digits ++ 32 ∷ spaced (codes "construct" ∷ (t ++ 46 ∷ t) ∷ codes "main" ∷ (codes "num:" ++ decimal 1) ∷ [])) d0
    ∙ ap (λ (t : List ℕ). digits ++ 32 ∷ spaced (codes "construct" ∷ codes "0.0" ∷ codes "main" ∷ (codes "num:" ++ t) ∷ [])) d1

abbrev acting_lines : List (List ℕ)
acting_lines = codes "block" ∷ codes "4 construct 0.0 main num:1" ∷ codes "5 construct 0.0 main num:1" ∷ codes "6 construct 0.0 main num:1" ∷ codes "end" ∷ []

in_block : (replicas : List Ident) (block : blocks.Block) (lines : List Line) (texts : List (List ℕ)) → block.lines ≡ lines → map (line_text replicas) lines ≡ texts
    → item_lines replicas (item.Block block) ≡ codes "block" ∷ texts ++ codes "end" ∷ []
in_block replicas block lines texts is are =
    ap (λ (ls : List Line). codes "block" ∷ map (line_text replicas) ls ++ codes "end" ∷ []) is ∙ ap (λ (ts : List (List ℕ)). codes "block" ∷ ts ++ codes "end" ∷ []) are

acting_is : (replicas : List Ident) (block : blocks.Block) → block.lines ≡ acting → item_lines replicas (item.Block block) ≡ acting_lines
acting_is replicas block is =
    in_block replicas block acting _ is
    (same_three _ _ _ (codes "4 construct 0.0 main num:1") (codes "5 construct 0.0 main num:1") (codes "6 construct 0.0 main num:1")
    (act_is replicas 4 (codes "4") d4) (act_is replicas 5 (codes "5") d5) (act_is replicas 6 (codes "6") d6))

-- how often and in what order
abbrev how : Bool → Bool → List ℕ
how reverse twice = direction reverse ++ 32 ∷ repetition twice

regrouped : (reverse twice : Bool) (from to : List ℕ)
    → spaced (codes "send" ∷ from ∷ to ∷ codes "skip" ∷ codes "0" ∷ codes "take" ∷ codes "1000000" ∷ direction reverse ∷ repetition twice ∷ codes "cut" ∷ codes "4096" ∷ []) ≡ sent_line from to (how reverse twice)
regrouped true true from to = refl
regrouped true false from to = refl
regrouped false true from to = refl
regrouped false false from to = refl

send_is : (replicas : List Ident) (from to : ℕ) (reverse twice : Bool) (name other : List ℕ) → replica_name replicas from ≡ name → replica_name replicas to ≡ other
    → line_text replicas (send_of from to reverse twice) ≡ sent_line name other (how reverse twice)
send_is replicas from to reverse twice name other of_from of_to =
    ap (λ (t : List ℕ). send_line t (replica_name replicas to) 0 1000000 reverse twice 4096) of_from
    ∙ ap (λ (t : List ℕ). send_line name t 0 1000000 reverse twice 4096) of_to
    ∙ ap (λ (t : List ℕ). spaced (codes "send" ∷ name ∷ other ∷ codes "skip" ∷ t ∷ codes "take" ∷ decimal 1000000 ∷ direction reverse ∷ repetition twice ∷ codes "cut" ∷ decimal 4096 ∷ [])) d0
    ∙ ap (λ (t : List ℕ). spaced (codes "send" ∷ name ∷ other ∷ codes "skip" ∷ codes "0" ∷ codes "take" ∷ t ∷ direction reverse ∷ repetition twice ∷ codes "cut" ∷ decimal 4096 ∷ [])) d1000000
    ∙ ap (λ (t : List ℕ). spaced (codes "send" ∷ name ∷ other ∷ codes "skip" ∷ codes "0" ∷ codes "take" ∷ codes "1000000" ∷ direction reverse ∷ repetition twice ∷ codes "cut" ∷ t ∷ [])) d4096
    ∙ regrouped reverse twice name other

sending_is : (replicas : List Ident) (block : blocks.Block) (reverse twice : Bool) → AreNamed replicas → block.lines ≡ sending reverse twice → item_lines replicas (item.Block block) ≡ send_block (how reverse twice)
sending_is replicas block reverse twice named is =
    let a = name_of replicas 0 named (lit< tt) in
    let b = name_of replicas 1 named (lit< tt) in
    let c = name_of replicas 2 named (lit< tt) in
    let h = how reverse twice in
    in_block replicas block (sending reverse twice) _ is
    (same_three _ _ _ (sent_line (codes "a") (codes "b") h) (sent_line (codes "b") (codes "c") h) (sent_line (codes "c") (codes "a") h)
    (send_is replicas 0 1 reverse twice (codes "a") (codes "b") a b) (send_is replicas 1 2 reverse twice (codes "b") (codes "c") b c) (send_is replicas 2 0 reverse twice (codes "c") (codes "a") c a))

-- ---- all items

pub all_item_lines : (count : ℕ) (replicas : List Ident) (loads : List Item) (first second third : blocks.Block) → AreNamed replicas → AreLoads count loads
    → first.lines ≡ acting → second.lines ≡ sending false false → third.lines ≡ sending true true
    → flat_map (item_lines replicas) (loads ++ item.Block first ∷ item.Block second ∷ item.Block third ∷ [])
    ≡ load_lines count ++ (acting_lines ++ (send_block (codes "forward once") ++ send_block (codes "reverse twice")))
all_item_lines count replicas loads first second third named are of_first of_second of_third =
    let lines = item_lines replicas in
    flat_map-append lines loads (item.Block first ∷ item.Block second ∷ item.Block third ∷ [])
    ∙ ap (λ (ls : List (List ℕ)). ls ++ (lines (item.Block first) ++ (lines (item.Block second) ++ (lines (item.Block third) ++ [])))) (are.lines replicas named)
    ∙ ap (λ (ls : List (List ℕ)). load_lines count ++ (ls ++ (lines (item.Block second) ++ (lines (item.Block third) ++ [])))) (acting_is replicas first of_first)
    ∙ ap (λ (ls : List (List ℕ)). load_lines count ++ (acting_lines ++ (ls ++ (lines (item.Block third) ++ [])))) (sending_is replicas second false false named of_second)
    ∙ ap (λ (ls : List (List ℕ)). load_lines count ++ (acting_lines ++ (send_block (codes "forward once") ++ ls))) (append-nil (lines (item.Block third)) ∙ sending_is replicas third true true named of_third)
