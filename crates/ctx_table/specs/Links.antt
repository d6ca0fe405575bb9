-- How a table keeps its contexts: as links from a binding to the context around it. The empty context has the number 0 and no link.
use Rattle.std.specs.Prelude.{◌≡◌, ℕ, ◌+◌, ◌<◌, ◌⊎◌, List, [], ◌∷◌, ◌++◌, length, fold}
use Rattle.std.specs.List.{slice_index_or}
use Rattle.ctx_table.specs.declared.link.Link.{Link}
use Rattle.ctx_table.specs.Context.{Context}
use Rattle.ctx_table.specs.CtxTable.{context_at}

-- the context of a link, over those that the table has
abbrev pub context_of : List Context → Link → Context
context_of table l = (l.name, l.typ) ∷ context_at table l.outer

-- the empty context, and the contexts of the links, each over those before it
abbrev pub contexts_of : List Link → List Context
contexts_of links = fold (λ table l. table ++ context_of table l ∷ []) ([] ∷ []) links

-- no link stands at two places
abbrev pub StandOnce : List Link → Type 0
StandOnce links = (i j : ℕ) (d : Link) → i < length links → j < length links → slice_index_or links i d ≡ slice_index_or links j d → i ≡ j

-- each link stands once, and leads to a context before its own
pub record IsTable (links : List Link) : Type 0 where
  pub once : StandOnce links
  pub outer_before : (i : ℕ) (d : Link) → i < length links → (slice_index_or links i d).outer.0 < i + 1

-- new is old, or old with l as its last link
abbrev pub HasAddedLink : Link → List Link → List Link → Type 0
HasAddedLink l old new = (new ≡ old) ⊎ (new ≡ old ++ l ∷ [])
