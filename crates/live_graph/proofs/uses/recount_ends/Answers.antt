use Rattle.std.proofs.Common.{◌≡◌, ℕ, ◌+◌, ◌≤◌, Bool, true, false, get_or, refl, sym, ap, subst, ◌∙◌, arith}
use Rattle.std.specs.Prelude.{◌&&◌, ◌==◌}
use Rattle.std.proofs.lemmas.Bool.{eq-eqb}
use Rattle.edge_numbers.specs.Numbered.{state_at}
use Rattle.graph_words.specs.States.{is_present}
use Rattle.live_graph.specs.Around.{once}
use Rattle.live_graph.proofs.Counts.{source_counted, target_counted, counted_there, uses_fit, uses_set}
use Rattle.live_graph.proofs.uses.recount_ends.Goals as goal

-- what was counted at both ends is counted at each
first_end : (had : Bool) (s t k : ℕ) → once (had && (s == s)) + once (had && (t == s)) ≤ k → once had ≤ k
first_end had s t k both =
    let one : once (had && (s == s)) ≡ once (had && true) = ap (λ b. once (had && b)) (eq-eqb s s refl) in
    omega (arith, both, one, plain had)
  where
    plain : (b : Bool) → once (b && true) ≡ once b
    plain true = refl
    plain false = refl

second_end : (had has same : Bool) (one k m : ℕ) → one ≡ once (had && true) → once (had && same) + one ≤ k → m + once (had && same) ≡ k + once (has && same) → once had ≤ m
second_end true has same one k m is both counted = omega (arith, is, both, counted)
second_end false has same one k m is both counted = omega arith

once_le : (b : Bool) → once b ≤ 1
once_le true = omega arith
once_le false = omega arith

pub recount_end-requires-clause-vertex : goal.recount_end-requires-clause-vertex
recount_end-requires-clause-vertex c = source_counted c.args.edges.now c.args.number c.requires.number c.vertex_count-vertices.ensures.once c.args.uses.now.items c.requires.uses c.source-source.result c.target-target.result c.source-source.ensures c.target-target.ensures c.requires.fits

pub recount_end-requires-clause-counted : goal.recount_end-requires-clause-counted
recount_end-requires-clause-counted c =
    let uses = c.args.uses.now.items in
    let s = c.source-source.result in
    let t = c.target-target.result in
    let p = is_present (state_at c.args.edges.now c.args.number) in
    let had : once c.is_present-had.result ≡ once p = ap once (c.is_present-had.ensures ∙ ap is_present c.state_at.ensures) in
    omega (arith, had, first_end p s t (get_or uses s 0) (counted_there c.args.edges.now c.args.number c.requires.number c.vertex_count-vertices.ensures.once c.args.uses.now.items c.requires.uses c.source-source.result c.target-target.result c.source-source.ensures c.target-target.ensures c.requires.fits s (source_counted c.args.edges.now c.args.number c.requires.number c.vertex_count-vertices.ensures.once c.args.uses.now.items c.requires.uses c.source-source.result c.target-target.result c.source-source.ensures c.target-target.ensures c.requires.fits)))

pub recount_end-requires-clause-fits : goal.recount_end-requires-clause-fits
recount_end-requires-clause-fits c = omega (arith, uses_fit c.args.edges.now c.args.number c.requires.number c.vertex_count-vertices.ensures.once c.args.uses.now.items c.requires.uses c.source-source.result c.target-target.result c.source-source.ensures c.target-target.ensures c.requires.fits c.source-source.result (source_counted c.args.edges.now c.args.number c.requires.number c.vertex_count-vertices.ensures.once c.args.uses.now.items c.requires.uses c.source-source.result c.target-target.result c.source-source.ensures c.target-target.ensures c.requires.fits))

pub recount_end-requires-2-clause-vertex : goal.recount_end-requires-2-clause-vertex
recount_end-requires-2-clause-vertex c = omega (arith, target_counted c.args.edges.now c.args.number c.requires.number c.vertex_count-vertices.ensures.once c.args.uses.now.items c.requires.uses c.source-source.result c.target-target.result c.source-source.ensures c.target-target.ensures c.requires.fits, c.recount_end.ensures.count)

pub recount_end-requires-2-clause-counted : goal.recount_end-requires-2-clause-counted
recount_end-requires-2-clause-counted c =
    let uses = c.args.uses.now.items in
    let s = c.source-source.result in
    let t = c.target-target.result in
    let had = c.is_present-had.result in
    let p = is_present (state_at c.args.edges.now c.args.number) in
    let is : had ≡ p = c.is_present-had.ensures ∙ ap is_present c.state_at.ensures in
    let both : once (had && (s == t)) + once (had && (t == t)) ≤ get_or uses t 0 =
    subst (λ (b : Bool). once (b && (s == t)) + once (b && (t == t)) ≤ get_or uses t 0) (sym is) (counted_there c.args.edges.now c.args.number c.requires.number c.vertex_count-vertices.ensures.once c.args.uses.now.items c.requires.uses c.source-source.result c.target-target.result c.source-source.ensures c.target-target.ensures c.requires.fits t (target_counted c.args.edges.now c.args.number c.requires.number c.vertex_count-vertices.ensures.once c.args.uses.now.items c.requires.uses c.source-source.result c.target-target.result c.source-source.ensures c.target-target.ensures c.requires.fits)) in
    second_end had c.is_present-has.result (s == t) (once (had && (t == t))) (get_or uses t 0) (get_or c.recount_end.new.uses.items t 0)
    (ap (λ (b : Bool). once (had && b)) (eq-eqb t t refl)) both (c.recount_end.ensures.uses t)

pub recount_end-requires-2-clause-fits : goal.recount_end-requires-2-clause-fits
recount_end-requires-2-clause-fits c =
    let t = c.target-target.result in
    omega (arith, uses_fit c.args.edges.now c.args.number c.requires.number c.vertex_count-vertices.ensures.once c.args.uses.now.items c.requires.uses c.source-source.result c.target-target.result c.source-source.ensures c.target-target.ensures c.requires.fits t (target_counted c.args.edges.now c.args.number c.requires.number c.vertex_count-vertices.ensures.once c.args.uses.now.items c.requires.uses c.source-source.result c.target-target.result c.source-source.ensures c.target-target.ensures c.requires.fits), c.recount_end.ensures.uses t, once_le (c.is_present-has.result && (c.source-source.result == t)))

pub returns-clause-uses : goal.returns-clause-uses
returns-clause-uses c after set =
    let s = c.source-source.result in
    let t = c.target-target.result in
    let had = c.is_present-had.result in
    let has = c.is_present-has.result in
    let p = is_present (state_at c.args.edges.now c.args.number) in
    let q = is_present c.args.state in
    let is : had ≡ p = c.is_present-had.ensures ∙ ap is_present c.state_at.ensures in
    let now : has ≡ q = c.is_present-has.ensures in
    uses_set c.args.edges.now c.args.number c.requires.number c.vertex_count-vertices.ensures.once c.args.uses.now.items c.requires.uses c.source-source.result c.target-target.result c.source-source.ensures c.target-target.ensures c.requires.fits c.args.state after c.recount_end-2.new.uses.items set (c.recount_end-2.ensures.count ∙ c.recount_end.ensures.count)
    (λ n.
    let had_s : once (had && (s == n)) ≡ once (p && (s == n)) = ap (λ (b : Bool). once (b && (s == n))) is in
    let had_t : once (had && (t == n)) ≡ once (p && (t == n)) = ap (λ (b : Bool). once (b && (t == n))) is in
    let has_s : once (has && (s == n)) ≡ once (q && (s == n)) = ap (λ (b : Bool). once (b && (s == n))) now in
    let has_t : once (has && (t == n)) ≡ once (q && (t == n)) = ap (λ (b : Bool). once (b && (t == n))) now in
    omega (arith, had_s, had_t, has_s, has_t, c.recount_end.ensures.uses n, c.recount_end-2.ensures.uses n))
