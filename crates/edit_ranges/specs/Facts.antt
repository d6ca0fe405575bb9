-- Inner model, which no public contract cites: what edits tell, fact by fact, and the ranges of facts in order.
use Rattle.std.specs.Prelude.{◌+◌, ◌-◌, Bool, true, false, not, ◌&&◌, ◌==◌, nat_le, List, [], ◌∷◌, ◌++◌, if◌then◌else◌}
use Rattle.grove_names.specs.declared.name.Name.{Name}
use Rattle.grove_names.specs.Name.{InRange}
use Rattle.grove_edits.specs.declared.edit.Edit.{Edit}
use Rattle.grove_edits.specs.declared.edit.EditKind.{EditKind}
use Rattle.grove_edits.specs.declared.edit.EditKind.TheVariants.{Insert, Delete}
use Rattle.grove_edits.specs.Edit.{edit_edge, edit_kind}
use Rattle.edit_ranges.specs.declared.told.Told.{Told}
use Rattle.edit_ranges.specs.declared.told.Told.TheVariants.{Named, Deleted}
use Rattle.edit_ranges.specs.declared.fact.Fact.{Fact}
use Rattle.edit_ranges.specs.declared.name_range.NameRange.{NameRange}
use Rattle.edit_ranges.specs.Ranges.{told_number, tell}

abbrev pub fact : Told → Name → Fact
fact told name = record { told = told; name = name }

abbrev pub FactInRange : Fact → Type 0
FactInRange f = InRange f.name

-- the fact is that this is told of the name
abbrev pub is_fact : Told → Name → Fact → Bool
is_fact told name f = (told_number f.told == told_number told) && (f.name.author == name.author) && (f.name.counter == name.counter)

abbrev pub is_same_name : Name → Name → Bool
is_same_name a b = (a.author == b.author) && (a.counter == b.counter)

-- ---- what edits tell

abbrev pub deletion_of : EditKind → Name → List Fact
deletion_of Insert name = []
deletion_of Delete name = fact Deleted name ∷ []

abbrev pub facts_of_edit : Edit → List Fact
facts_of_edit edit =
    fact Named (edit_edge edit).name ∷ fact Named (edit_edge edit).source.name ∷ fact Named (edit_edge edit).target.name
    ∷ deletion_of (edit_kind edit) (edit_edge edit).name

-- the first edit's edge has the name
abbrev pub begins_with_name : Name → List Edit → Bool
begins_with_name name [] = false
begins_with_name name (edit ∷ edits) = is_same_name (edit_edge edit).name name

-- the names that an edge has together with the next one
abbrev pub shared_facts : List Edit → List Fact
shared_facts [] = []
shared_facts (edit ∷ edits) =
    if begins_with_name (edit_edge edit).name edits then (fact Named (edit_edge edit).name ∷ shared_facts edits) else shared_facts edits

abbrev pub is_deletion : EditKind → Bool
is_deletion Insert = false
is_deletion Delete = true

-- the second name is right behind the first
abbrev pub is_next : Name → Name → Bool
is_next name next = (name.author == next.author) && (next.counter == name.counter + 1)

-- both edges are deleted, and between their names there is that of the vertex to which the second leads
abbrev pub are_around : Edit → Edit → Bool
are_around before behind =
    is_deletion (edit_kind before) && is_deletion (edit_kind behind)
    && is_next (edit_edge before).name (edit_edge behind).target.name && is_next (edit_edge behind).target.name (edit_edge behind).name

-- neither of the edges has its name together with others, which the ranges tell
abbrev pub are_alone : List NameRange → Edit → Edit → Bool
are_alone shared before behind = not (tell shared Named (edit_edge before).name) && not (tell shared Named (edit_edge behind).name)

-- the name between those of an edge and of the next one
abbrev pub between_next : List NameRange → Edit → List Edit → List Fact
between_next shared before [] = []
between_next shared before (behind ∷ edits) = if are_around before behind && are_alone shared before behind then (fact Deleted (edit_edge behind).target.name ∷ []) else []

abbrev pub between_facts : List NameRange → List Edit → List Fact
between_facts shared [] = []
between_facts shared (edit ∷ edits) = between_next shared edit edits ++ between_facts shared edits

-- the ranges tell the fact's name
abbrev pub is_told_by : List NameRange → Fact → Bool
is_told_by ranges f = tell ranges Named f.name

-- ---- the ranges of facts in order

-- the range of one fact
abbrev pub alone : Fact → NameRange
alone f = record { told = f.told; author = f.name.author; first = f.name.counter; last = f.name.counter }

-- a fact that does not come before the last of the range lies in it or right behind it
abbrev pub meets : NameRange → Fact → Bool
meets r f = (told_number r.told == told_number f.told) && (r.author == f.name.author) && nat_le (f.name.counter - r.last) 1

-- the range with a fact that it meets
abbrev pub extended : NameRange → Fact → NameRange
extended r f = record r { last = f.name.counter }

-- a range, as long as facts in order make it, and the ranges of the facts behind it
abbrev pub ranges_from : NameRange → List Fact → List NameRange
ranges_from r [] = r ∷ []
ranges_from r (f ∷ fs) = if meets r f then ranges_from (extended r f) fs else (r ∷ ranges_from (alone f) fs)

abbrev pub ranges_of : List Fact → List NameRange
ranges_of [] = []
ranges_of (f ∷ fs) = ranges_from (alone f) fs
