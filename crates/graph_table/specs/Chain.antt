-- Inner model, which no public contract cites: the live edges from a vertex, each of which leads to the one before it.
use Rattle.std.specs.Prelude.{◌≡◌, ℕ, suc, ◌≤◌, List, [], ◌∷◌, Some, slice_get, reverse}
use Rattle.grove_names.specs.declared.name.Name.{Name}
use Rattle.graph_table.specs.declared.link.Link.{Link}
use Rattle.graph_table.specs.Around.{Child, Ends, Neighbours}

-- the children, the last first: each leads to the next by its link. Zero leads nowhere, and one more than an index to it.
abbrev pub IsChain : List Link → ℕ → List Child → Type 0
IsChain links last [] = last ≡ 0
IsChain links last (c ∷ cs) =
    (last ≡ suc c.index)
    × ((before : ℕ) × ((target : ℕ) × ((name : Name) × ((slice_get links c.index ≡ Some (record { name = name; position = c.position; target = target; before = before })) × ((before ≤ c.index) × IsChain links before cs)))))

-- there is such a chain
abbrev pub IsChained : List Link → ℕ → Type 0
IsChained links last = (children : List Child) × IsChain links last children

abbrev pub IsAround : List Link → Ends → Neighbours → Type 0
IsAround links ends neighbours = IsChain links ends.last (reverse neighbours.children) × (ends.parents ≡ neighbours.parents)

-- it is so for each vertex, in order
abbrev pub AreAround : List Link → List Ends → List Neighbours → Type 0
AreAround links [] [] = Unit {0}
AreAround links [] (n ∷ ns) = ⊥
AreAround links (e ∷ es) [] = ⊥
AreAround links (e ∷ es) (n ∷ ns) = IsAround links e n × AreAround links es ns
