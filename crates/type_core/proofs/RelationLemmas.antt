-- What is kept of pairs of types stays right.
use Rattle.std.proofs.Common.{◌≡◌, ◌⊎◌, inl, inr, true, false, cond, List, [], None, Some, sym, ap, subst, ◌∙◌}
use Rattle.std.proofs.lemmas.Bool.{cases_Bool}
use Rattle.type_core.specs.declared.heads.Pairing.{Pairing}
use Rattle.type_core.specs.declared.node.Node.{Node}
use Rattle.type_core.specs.declared.relations.Relation.{Relation}
use Rattle.type_core.specs.declared.relations.Relation.TheVariants.{Apart, Consistent, Meets}
use Rattle.type_core.specs.contracts.heads.PairingPartialEq.TheImpl as pairing_eq
use Rattle.type_core.specs.Typ.{Typ}
use Rattle.type_core.specs.declared.type_id.TypeId.{TypeId}
use Rattle.type_core.specs.TypeTable.{IsTypeOf, type_at, KeepsTypes}
use Rattle.type_core.specs.Heads.{IsPairingOf, meet_of}
use Rattle.type_core.specs.Nodes.{types_of, IsTable}
use Rattle.type_core.specs.Relations.{relation_in, IsRelationOf, AreRelations, IsWhole}
use Rattle.type_core.proofs.NodeLemmas.{IsTypeOf-kept}
use Rattle.type_core.proofs.PairingEq.{sound}
use Rattle.type_core.proofs.MeetLemmas.{IsPairingOf-kept, meet_of-kept, is_consistent-kept}

none_is_not : (r : Relation) → None ≡ Some r → ⊥
none_is_not r e = cc

some_injective : (r s : Relation) → Some r ≡ Some s → r ≡ s
some_injective r s e = cc

pub AreRelations-none : (table : List Typ) → AreRelations table []
AreRelations-none table = record { within = λ p r e. absurd (none_is_not r e); right = λ p r e. absurd (none_is_not r e) }

-- where the table grows
IsRelationOf-kept : (old new : List Typ) → KeepsTypes old new → (p : Pairing) → IsPairingOf old p → (r : Relation) → IsRelationOf old p r → IsRelationOf new p r
IsRelationOf-kept old new kept p within Apart h = is_consistent-kept old new kept p within ∙ h
IsRelationOf-kept old new kept p within Consistent h = is_consistent-kept old new kept p within ∙ h
IsRelationOf-kept old new kept p within (Meets m) h =
    (IsTypeOf-kept old new kept m h.0, meet_of-kept old new kept p within ∙ h.1 ∙ ap Some (sym (kept.types m h.0)))

pub AreRelations-kept : (old new : List Typ) (relations : List (Pairing × Relation)) → KeepsTypes old new → AreRelations old relations → AreRelations new relations
AreRelations-kept old new relations kept all = record {
  within = λ p r e. IsPairingOf-kept old new kept p (all.within p r e);
  right = λ p r e. IsRelationOf-kept old new kept p (all.within p r e) r (all.right p r e);
}

-- where one more is kept
pub AreRelations-put : (table : List Typ) (old new : List (Pairing × Relation)) (p : Pairing) (r : Relation) → AreRelations table old → IsPairingOf table p → IsRelationOf table p r
    → ((q : Pairing) → relation_in new q ≡ cond (pairing_eq.eq-value.it p q) (Some r) (relation_in old q)) → AreRelations table new
AreRelations-put table old new p r all within right updates = record {
  within = λ q s e. by_within q s (had q s e);
  right = λ q s e. by_right q s (had q s e);
}
  where
    had : (q : Pairing) (s : Relation) → relation_in new q ≡ Some s → ((p ≡ q) × (r ≡ s)) ⊎ (relation_in old q ≡ Some s)
    had q s e = by (cases_Bool (pairing_eq.eq-value.it p q))
      where
        by : (pairing_eq.eq-value.it p q ≡ true) ⊎ (pairing_eq.eq-value.it p q ≡ false) → ((p ≡ q) × (r ≡ s)) ⊎ (relation_in old q ≡ Some s)
        by (inl h) = inl (sound p q h, some_injective r s (ap (λ b. cond b (Some r) (relation_in old q)) (sym h) ∙ sym (updates q) ∙ e))
        by (inr h) = inr (ap (λ b. cond b (Some r) (relation_in old q)) (sym h) ∙ sym (updates q) ∙ e)

    by_within : (q : Pairing) (s : Relation) → ((p ≡ q) × (r ≡ s)) ⊎ (relation_in old q ≡ Some s) → IsPairingOf table q
    by_within q s (inl h) = subst (IsPairingOf table) h.0 within
    by_within q s (inr h) = all.within q s h

    by_right : (q : Pairing) (s : Relation) → ((p ≡ q) × (r ≡ s)) ⊎ (relation_in old q ≡ Some s) → IsRelationOf table q s
    by_right q s (inl h) = subst (λ k. IsRelationOf table k s) h.0 (subst (IsRelationOf table p) h.1 right)
    by_right q s (inr h) = all.right q s h

-- the same, of a table
pub IsWhole-put : (nodes : List Node) (table : List Typ) (old new : List (Pairing × Relation)) (p : Pairing) (r : Relation) → types_of nodes ≡ table → IsWhole nodes old → IsPairingOf table p
    → IsRelationOf table p r → ((q : Pairing) → relation_in new q ≡ cond (pairing_eq.eq-value.it p q) (Some r) (relation_in old q)) → IsWhole nodes new
IsWhole-put nodes table old new p r view whole within right updates = record {
  table = whole.table;
  right = AreRelations-put (types_of nodes) old new p r whole.right (subst (λ t. IsPairingOf t p) (sym view) within) (subst (λ t. IsRelationOf t p r) (sym view) right) updates;
}

pub IsWhole-grown : (nodes new : List Node) (table : List Typ) (relations : List (Pairing × Relation)) → types_of nodes ≡ table → IsWhole nodes relations → IsTable new → KeepsTypes table (types_of new)
    → IsWhole new relations
IsWhole-grown nodes new table relations view whole is_table kept = record {
  table = is_table;
  right = AreRelations-kept (types_of nodes) (types_of new) relations (subst (λ t. KeepsTypes t (types_of new)) (sym view) kept) whole.right;
}

-- the meet that a table found when it grew
pub IsRelationOf-met : (old new : List Typ) → KeepsTypes old new → (p : Pairing) → IsPairingOf old p → (m : TypeId) → IsTypeOf new m → meet_of old p ≡ Some (type_at new m) → IsRelationOf new p (Meets m)
IsRelationOf-met old new kept p within m number meet = (number, meet_of-kept old new kept p within ∙ meet)
