-- The generated session of each size, as its text.
-- The promise of the commands rests on these definitions.
use Rattle.std.specs.Prelude.{◌≡◌, ℕ, zero, suc, ◌+◌, ◌*◌, ◌/◌, ◌%◌, ◌^◌, List, [], ◌∷◌, ◌++◌, slice_index_or, codes, decimal}
use Rattle.std.specs.List.{flat_map}
use Rattle.edit_text.specs.Line.{spaced}

-- the numbers by which the loads are spread over the replicas
abbrev pub spread : ℕ → ℕ
spread zero = 12345
spread (suc k) = (1103515245 * spread k + 12345) % (2 ^ 31)

-- the names of the three replicas, by number
abbrev pub replica_of : ℕ → List ℕ
replica_of zero = codes "a"
replica_of (suc zero) = codes "b"
replica_of _ = codes "c"

-- a name that the author of a group gives: twenty counters for each group
abbrev pub group_name : ℕ → ℕ → List ℕ
group_name group counter = decimal (1 + group % 3) ++ 46 ∷ decimal (20 * group + counter)

-- the i-th vertex of a group has the i-th counter, and the i-th edge the i-th behind the first ten
abbrev pub vertex_name : ℕ → ℕ → List ℕ
vertex_name group i = group_name group i

abbrev pub edge_name : ℕ → ℕ → List ℕ
edge_name group i = group_name group (10 + i)

-- an edit's line: a sign, an edge, its source with a constructor, a position, and its target with a constructor
abbrev pub edit_line : ℕ → List ℕ → List ℕ → List ℕ → List ℕ → List ℕ → List ℕ → List ℕ
edit_line sign edge source source_ctor position target target_ctor =
    sign ∷ spaced (edge ∷ source ∷ source_ctor ∷ position ∷ target ∷ target_ctor ∷ [])

-- an insertion in a group: its edge, source and target by their numbers in the group
abbrev pub insertion : ℕ → ℕ → ℕ → List ℕ → List ℕ → ℕ → List ℕ → List ℕ
insertion group edge source source_ctor position target target_ctor =
    edit_line 43 (edge_name group edge) (vertex_name group source) source_ctor position (vertex_name group target) target_ctor

abbrev pub deletion : ℕ → ℕ → ℕ → List ℕ → List ℕ → ℕ → List ℕ → List ℕ
deletion group edge source source_ctor position target target_ctor =
    edit_line 45 (edge_name group edge) (vertex_name group source) source_ctor position (vertex_name group target) target_ctor

-- a literal that shows the group
abbrev pub shown_number : ℕ → List ℕ
shown_number group = codes "num:" ++ decimal group

-- the ten edits of a group
abbrev pub group_edits : ℕ → List (List ℕ)
group_edits g =
    insertion g 1 1 (codes "plus") (codes "left") 2 (codes "ap")
    ∷ insertion g 2 1 (codes "plus") (codes "right") 3 (shown_number g)
    ∷ insertion g 3 2 (codes "ap") (codes "fun") 4 (codes "lam")
    ∷ insertion g 4 4 (codes "lam") (codes "param") 5 (codes "pvar:x")
    ∷ insertion g 5 4 (codes "lam") (codes "type") 6 (codes "tnum")
    ∷ insertion g 6 4 (codes "lam") (codes "body") 7 (codes "var:y")
    ∷ insertion g 7 2 (codes "ap") (codes "arg") 3 (shown_number g)
    ∷ insertion g 8 2 (codes "ap") (codes "arg") 8 (codes "true")
    ∷ deletion g 5 4 (codes "lam") (codes "type") 6 (codes "tnum")
    ∷ insertion g 9 9 (codes "fst") (codes "of") 9 (codes "fst")
    ∷ []

-- the load with a number, counted from 0: the next edit of its group, at one of the replicas
abbrev pub load_line : ℕ → List ℕ
load_line k = spaced (codes "load" ∷ replica_of ((spread k / 65536) % 3) ∷ slice_index_or (group_edits (k / 10)) (k % 10) [] ∷ [])

-- the loads below a number, in order
abbrev pub load_lines : ℕ → List (List ℕ)
load_lines zero = []
load_lines (suc k) = load_lines k ++ load_line k ∷ []

abbrev pub send_line : List ℕ → List ℕ → List ℕ → List ℕ
send_line from to how =
    spaced (codes "send" ∷ from ∷ to ∷ codes "skip 0 take 1000000" ∷ how ∷ codes "cut 4096" ∷ [])

-- each replica sends all its edits to the next
abbrev pub send_block : List ℕ → List (List ℕ)
send_block how =
    codes "block" ∷ send_line (codes "a") (codes "b") how ∷ send_line (codes "b") (codes "c") how ∷ send_line (codes "c") (codes "a") how ∷ codes "end" ∷ []

-- the lines of the session with so many loads, without their LFs
abbrev pub generated_lines : ℕ → List (List ℕ)
generated_lines n =
    codes "session" ∷ codes "replica a" ∷ codes "replica b" ∷ codes "replica c" ∷ codes "author 4 a" ∷ codes "author 5 b" ∷ codes "author 6 c"
    ∷ load_lines n
    ++ (codes "block" ∷ codes "4 construct 0.0 main num:1" ∷ codes "5 construct 0.0 main num:1" ∷ codes "6 construct 0.0 main num:1" ∷ codes "end" ∷ []
    ++ (send_block (codes "forward once") ++ send_block (codes "reverse twice")))

abbrev pub generated_text : ℕ → List ℕ
generated_text n = flat_map (λ line. line ++ 10 ∷ []) (generated_lines n)
