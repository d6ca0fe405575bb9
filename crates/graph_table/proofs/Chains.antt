-- Chains of links, and what is kept of the vertices beside them.
use Rattle.std.proofs.Common.{◌≡◌, ℕ, zero, suc, ◌+◌, ◌-◌, ◌<◌, ◌≤◌, Bool, true, false, cond, List, [], ◌∷◌, ◌++◌, length, get_or, set, slice_get, reverse, Some, replicate, refl, sym, ap, subst, ◌∙◌, arith, append_assoc}
use Rattle.std.proofs.lemmas.List.{append-nil, reverse-append, reverse-reverse}
use Rattle.std.proofs.lemmas.Option.{slice_get_within}
use Rattle.grove_names.specs.declared.name.Name.{Name}
use Rattle.grove_sorts.specs.declared.position.Position.{Position}
use Rattle.grove_sorts.specs.Position.{is_same_position}
use Rattle.graph_table.specs.declared.link.Link.{Link}
use Rattle.graph_table.specs.Around.{Child, Ends, Neighbours, no_ends, no_neighbours, indices_at}
use Rattle.graph_table.specs.Chain.{IsChain, IsChained, IsAround, AreAround}

-- ---- one more link

link_stays : (links more : List Link) (i : ℕ) (l : Link) → slice_get links i ≡ Some l → slice_get (links ++ more) i ≡ Some l
link_stays [] more i l is = absurd cc
link_stays (x ∷ links) more zero l is = is
link_stays (x ∷ links) more (suc i) l is = link_stays links more i l is

link_last : (links : List Link) (l : Link) → slice_get (links ++ l ∷ []) (length links) ≡ Some l
link_last [] l = refl
link_last (x ∷ links) l = link_last links l

pub link_read : (links : List Link) (i : ℕ) (l d : Link) → slice_get links i ≡ Some l → get_or links i d ≡ l
link_read [] i l d is = absurd cc
link_read (x ∷ links) zero l d is = let one : x ≡ l = cc in one
link_read (x ∷ links) (suc i) l d is = link_read links i l d is

chain_stays : (links more : List Link) (last : ℕ) (cs : List Child) → IsChain links last cs → IsChain (links ++ more) last cs
chain_stays links more last [] chain = chain
chain_stays links more last (c ∷ cs) (is, (before, (target, (name, (there, (below, rest)))))) =
    (is, (before, (target, (name, (link_stays links more c.index _ there, (below, chain_stays links more before cs rest))))))

chain_within : (links : List Link) (last : ℕ) (cs : List Child) → IsChain links last cs → last ≤ length links
chain_within links last [] chain = omega (arith, chain)
chain_within links last (c ∷ cs) (is, (before, (target, (name, (there, (below, rest)))))) = omega (arith, is, slice_get_within links c.index _ there)

chain_more : (links : List Link) (last : ℕ) (cs : List Child) (name : Name) (p : Position) (t : ℕ) → IsChain links last cs
    → IsChain (links ++ record { name = name; position = p; target = t; before = last } ∷ []) (suc (length links)) (record { position = p; index = length links } ∷ cs)
chain_more links last cs name p t chain =
    let l : Link = record { name = name; position = p; target = t; before = last } in
    (refl, (last, (t, (name, (link_last links l, (chain_within links last cs chain, chain_stays links (l ∷ []) last cs chain))))))

-- ---- what is kept of the vertices

around_stays : (links more : List Link) (es : List Ends) (ns : List Neighbours) → AreAround links es ns → AreAround (links ++ more) es ns
around_stays links more [] [] are = tt
around_stays links more [] (n ∷ ns) are = absurd are
around_stays links more (e ∷ es) [] are = absurd are
around_stays links more (e ∷ es) (n ∷ ns) are = ((chain_stays links more e.last (reverse n.children) are.0.0, are.0.1), around_stays links more es ns are.1)

pub around_set : (links : List Link) (es : List Ends) (ns : List Neighbours) (k : ℕ) (e : Ends) (n : Neighbours) → AreAround links es ns → IsAround links e n → AreAround links (set es k e) (set ns k n)
around_set links [] [] k e n are is = tt
around_set links [] (y ∷ ns) k e n are is = absurd are
around_set links (x ∷ es) [] k e n are is = absurd are
around_set links (x ∷ es) (y ∷ ns) zero e n are is = (is, are.1)
around_set links (x ∷ es) (y ∷ ns) (suc k) e n are is = (are.0, around_set links es ns k e n are.1 is)

pub around_at : (links : List Link) (es : List Ends) (ns : List Neighbours) (k : ℕ) (e : Ends) (n : Neighbours) → AreAround links es ns → k < length es → IsAround links (get_or es k e) (get_or ns k n)
around_at links [] [] k e n are within = absurd (omega (arith, within))
around_at links [] (y ∷ ns) k e n are within = absurd are
around_at links (x ∷ es) [] k e n are within = absurd are
around_at links (x ∷ es) (y ∷ ns) zero e n are within = are.0
around_at links (x ∷ es) (y ∷ ns) (suc k) e n are within = around_at links es ns k e n are.1 (omega (arith, within))

pub around_count : (links : List Link) (es : List Ends) (ns : List Neighbours) → AreAround links es ns → length es ≡ length ns
around_count links [] [] are = refl
around_count links [] (y ∷ ns) are = absurd are
around_count links (x ∷ es) [] are = absurd are
around_count links (x ∷ es) (y ∷ ns) are = ap suc (around_count links es ns are.1)

pub nothing_around : (links : List Link) (n : ℕ) → AreAround links (replicate n no_ends) (replicate n no_neighbours)
nothing_around links zero = tt
nothing_around links (suc n) = ((refl, refl), nothing_around links n)

-- ---- one more link, and what is kept of the vertices

pub around_pushed : (links : List Link) (l : Link) (es : List Ends) (ns : List Neighbours) → AreAround links es ns → AreAround (links ++ l ∷ []) es ns
around_pushed links l es ns are = around_stays links (l ∷ []) es ns are

-- a live edge from a vertex
pub child_linked : (links : List Link) (e : Ends) (n : Neighbours) (name : Name) (p : Position) (t i : ℕ) → length links ≡ i → IsAround links e n
    → IsAround (links ++ record { name = name; position = p; target = t; before = e.last } ∷ []) (record { last = i + 1; parents = e.parents })
    (record { children = n.children ++ record { position = p; index = i } ∷ []; parents = n.parents })
child_linked links e n name p t i count is =
    let c : Child = record { position = p; index = i } in
    let l : Link = record { name = name; position = p; target = t; before = e.last } in
    let more : IsChain (links ++ l ∷ []) (suc (length links)) (record { position = p; index = length links } ∷ reverse n.children) = chain_more links e.last (reverse n.children) name p t is.0 in
    let named : IsChain (links ++ l ∷ []) (suc i) (c ∷ reverse n.children) = subst (λ k. IsChain (links ++ l ∷ []) (suc k) (record { position = p; index = k } ∷ reverse n.children)) count more in
    let next : suc i ≡ i + 1 = omega arith in
    (subst (IsChain (links ++ l ∷ []) (i + 1)) (sym (reverse-append n.children (c ∷ []))) (subst (λ k. IsChain (links ++ l ∷ []) k (c ∷ reverse n.children)) next named), is.1)

-- ---- a chain that is followed

index_there : (links : List Link) (next index : ℕ) (cs : List Child) → (next ≡ 0 → ⊥) → index ≡ next - 1 → IsChain links next cs → index < length links
index_there links next index [] not at chain = absurd (not chain)
index_there links next index (c ∷ cs) not at (is, (before, (target, (name, (there, (below, rest)))))) = omega (arith, at, is, slice_get_within links c.index _ there)

pub chained_within : (links : List Link) (next index : ℕ) → (next ≡ 0 → ⊥) → index ≡ next - 1 → IsChained links next → index < length links
chained_within links next index not at (cs, chain) = index_there links next index cs not at chain

-- the chain goes on behind a link
module _ (links : List Link) (next index : ℕ) (link default : Link) (not : next ≡ 0 → ⊥) (at : index ≡ next - 1) (read : link ≡ get_or links index default) where
  read_there : (c : Child) (before target : ℕ) (name : Name) → next ≡ suc c.index
      → slice_get links c.index ≡ Some (record { name = name; position = c.position; target = target; before = before })
      → link ≡ record { name = name; position = c.position; target = target; before = before }
  read_there c before target name is there =
      let one : index ≡ c.index = omega (arith, at, is) in
      read ∙ ap (λ k. get_or links k default) one ∙ link_read links c.index (record { name = name; position = c.position; target = target; before = before }) default there

  falls_by : (cs : List Child) → IsChain links next cs → link.before < next
  falls_by [] chain = absurd (not chain)
  falls_by (c ∷ cs) (is, (before, (target, (name, (there, (below, rest)))))) =
      let same : link.before ≡ before = ap (λ (l : Link). l.before) (read_there c before target name is there) in
      omega (arith, same, below, is)

  pub chain_falls : IsChained links next → link.before < next
  chain_falls (cs, chain) = falls_by cs chain

  pub chain_goes_on : (p : Position) (b : Bool) (now new : List ℕ) → b ≡ is_same_position link.position p → new ≡ now ++ cond b (index ∷ []) [] → (cs : List Child) → IsChain links next cs
      → (more : List Child) × (IsChain links link.before more × (new ++ indices_at p more ≡ now ++ indices_at p cs))
  chain_goes_on p b now new same is_new [] chain = absurd (not chain)
  chain_goes_on p b now new same is_new (c ∷ cs) (is, (before, (target, (name, (there, (below, rest)))))) =
      let l = read_there c before target name is there in
      let one : index ≡ c.index = omega (arith, at, is) in
      let test : b ≡ is_same_position c.position p = same ∙ ap (λ (k : Link). is_same_position k.position p) l in (
        cs,
        (
          subst (λ (k : Link). IsChain links k.before cs) (sym l) rest,
          ap (λ t. t ++ indices_at p cs) (is_new ∙ (λ j. now ++ cond (test j) (one j ∷ []) [])) ∙ append_assoc now (cond (is_same_position c.position p) (c.index ∷ []) []) (indices_at p cs)
              ∙ ap (λ t. now ++ t) (by_test (is_same_position c.position p)),
        ),
      )
    where
      by_test : (b : Bool) → cond b (c.index ∷ []) [] ++ indices_at p cs ≡ cond b (c.index ∷ indices_at p cs) (indices_at p cs)
      by_test true = refl
      by_test false = refl

-- the chain that began there goes on here, and tells the rest
pub record IsFollowed (links : List Link) (p : Position) (begun now : List ℕ) (last next : ℕ) : Type 0 where
  pub each : (cs : List Child) → IsChain links last cs → (rest : List Child) × (IsChain links next rest × (now ++ indices_at p rest ≡ begun ++ indices_at p cs))
  pub chained : IsChained links next

pub followed_none : (links : List Link) (p : Position) (begun : List ℕ) (last : ℕ) → IsChained links last → IsFollowed links p begun begun last last
followed_none links p begun last chained = record { each = λ cs chain. (cs, (chain, refl)); chained = chained }

pub followed_more : (links : List Link) (p : Position) (begun now new : List ℕ) (last next index : ℕ) (link default : Link) (b : Bool) → (next ≡ 0 → ⊥) → index ≡ next - 1 → link ≡ get_or links index default
    → b ≡ is_same_position link.position p → new ≡ now ++ cond b (index ∷ []) [] → IsFollowed links p begun now last next → IsFollowed links p begun new last link.before
followed_more links p begun now new last next index link default b not at read same is_new so_far = record {
  each = λ cs chain.
      let here = so_far.each cs chain in
      let on = chain_goes_on links next index link default not at read p b now new same is_new here.0 here.1.0 in
      (on.0, (on.1.0, on.1.1 ∙ here.1.1));
  chained =
      let on = chain_goes_on links next index link default not at read p b now new same is_new so_far.chained.0 so_far.chained.1 in
      (on.0, on.1.0);
}

pub followed_all : (links : List Link) (p : Position) (begun now : List ℕ) (last next : ℕ) → next ≡ 0 → IsFollowed links p begun now last next
    → (cs : List Child) → IsChain links last cs → now ≡ begun ++ indices_at p cs
followed_all links p begun now last next end so_far cs chain = by_rest here.0 here.1.0 here.1.1 where
  here : (rest : List Child) × (IsChain links next rest × (now ++ indices_at p rest ≡ begun ++ indices_at p cs))
  here = so_far.each cs chain

  by_rest : (rest : List Child) → IsChain links next rest → now ++ indices_at p rest ≡ begun ++ indices_at p cs → now ≡ begun ++ indices_at p cs
  by_rest [] chain told = sym (append-nil now) ∙ told
  by_rest (c ∷ rest) chain told = absurd (omega (arith, end, chain.0))

-- ---- the indices in order

indices_append : (p : Position) (cs : List Child) (c : Child) → indices_at p (cs ++ c ∷ []) ≡ indices_at p cs ++ cond (is_same_position c.position p) (c.index ∷ []) []
indices_append p [] c = refl
indices_append p (x ∷ cs) c = by_test (is_same_position x.position p) (indices_append p cs c) where
  by_test : (b : Bool) → indices_at p (cs ++ c ∷ []) ≡ indices_at p cs ++ cond (is_same_position c.position p) (c.index ∷ []) []
      → cond b (x.index ∷ indices_at p (cs ++ c ∷ [])) (indices_at p (cs ++ c ∷ [])) ≡ cond b (x.index ∷ indices_at p cs) (indices_at p cs) ++ cond (is_same_position c.position p) (c.index ∷ []) []
  by_test true rest = ap (λ is. x.index ∷ is) rest
  by_test false rest = rest

indices_reverse : (p : Position) (cs : List Child) → indices_at p (reverse cs) ≡ reverse (indices_at p cs)
indices_reverse p [] = refl
indices_reverse p (c ∷ cs) =
    ap (indices_at p) (reverse-append (c ∷ []) cs) ∙ indices_append p (reverse cs) c ∙ ap (λ t. t ++ cond (is_same_position c.position p) (c.index ∷ []) []) (indices_reverse p cs)
    ∙ by_test (is_same_position c.position p)
  where
    by_test : (b : Bool) → reverse (indices_at p cs) ++ cond b (c.index ∷ []) [] ≡ reverse (cond b (c.index ∷ indices_at p cs) (indices_at p cs))
    by_test true = sym (reverse-append (c.index ∷ []) (indices_at p cs))
    by_test false = append-nil (reverse (indices_at p cs))

pub indices_back : (p : Position) (cs : List Child) → reverse (indices_at p (reverse cs)) ≡ indices_at p cs
indices_back p cs = ap reverse (indices_reverse p cs) ∙ reverse-reverse (indices_at p cs)
