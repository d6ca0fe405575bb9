-- Worked examples of sessions and of texts that are none.
use Rattle.std.proofs.Common.{◌≡◌, ◌≢◌, ℕ, ◌<◌, ◌^◌, false, ◌||◌, cond, List, [], ◌∷◌, ◌++◌, Some, None, codes, decimal, refl, sym, ap, subst, inl, inr, lit<, lit≤, arith}
use Rattle.std.specs.List.{flat_map}
use Rattle.std.specs.Str.Parse.{digits_value}
use Rattle.text_parts.specs.Number.{IsNumberText}
use Rattle.text_parts.specs.Separated.{Lacks}
use Rattle.text_parts.proofs.Numbers.{decimal_from_IsNumberText}
use Rattle.grove_sorts.specs.declared.ident.Ident.{Ident}
use Rattle.grove_sorts.specs.Ident.{ident_bytes}
use Rattle.grove_sorts.specs.Identifier.{IsIdentifier}
use Rattle.grove_sorts.specs.declared.version.Version.TheVariants.{One}
use Rattle.session_script.specs.declared.item.Item.TheVariants as item
use Rattle.session_script.specs.declared.session.Session as sessions
use Rattle.session_script.specs.declared.script_kind.ScriptKind.TheVariants.{Unended, RepeatedReplica}
use Rattle.session_script.specs.declared.statement.Statement.TheVariants.{Session, Replica, Block}
use Rattle.session_script.specs.Statement.{IsReplicaOf}
use Rattle.session_script.specs.Order.{statement_fault}
use Rattle.session_script.specs.Script.{IsBad}
use Rattle.session_script.specs.Session.{Spells}
use Rattle.session_script.proofs.Names.{same_ident_itself}

not_lf : (byte : ℕ) → 10 < byte → byte ≢ 10
not_lf byte above e = omega arith

-- `replica a` is one line
Lacks-word : Lacks 10 (codes "replica a")
Lacks-word = (not_lf 114 (lit< tt), (not_lf 101 (lit< tt), (not_lf 112 (lit< tt), (not_lf 108 (lit< tt), (not_lf 105 (lit< tt), (not_lf 99 (lit< tt), (not_lf 97 (lit< tt), (not_lf 32 (lit< tt), (not_lf 97 (lit< tt), tt)))))))))

abbrev lines : List (List ℕ) → List ℕ
lines ls = flat_map (λ (l : List ℕ). l ++ 10 ∷ []) ls

-- digits are the text of the number that they write
written : (text : List ℕ) → IsNumberText text → digits_value 10 text < 2 ^ 64 → decimal (digits_value 10 text) ≡ text
written text is small = sym (decimal_from_IsNumberText text is small)

d0 : decimal 0 ≡ codes "0"
d0 = written (codes "0") (inl (refl, refl)) (lit< tt)

d1 : decimal 1 ≡ codes "1"
d1 = written (codes "1") (inr (lit≤ tt, lit≤ tt, tt)) (lit< tt)

d2 : decimal 2 ≡ codes "2"
d2 = written (codes "2") (inr (lit≤ tt, lit≤ tt, tt)) (lit< tt)

d3 : decimal 3 ≡ codes "3"
d3 = written (codes "3") (inr (lit≤ tt, lit≤ tt, tt)) (lit< tt)

d5 : decimal 5 ≡ codes "5"
d5 = written (codes "5") (inr (lit≤ tt, lit≤ tt, tt)) (lit< tt)

-- a replica is declared twice
again : (a : Ident) → statement_fault (Session One ∷ Replica a ∷ []) (Replica a) ≡ Some RepeatedReplica
again a = ap (λ b. cond (b || false) (Some RepeatedReplica) None) (same_ident_itself a)

module _ (a : Ident) (named : ident_bytes a ≡ codes "a") where
  of_one : IsReplicaOf One a
  of_one = subst (IsIdentifier One) (sym named) refl

  -- `session`, `replica a`, `block`, `end`
  empty_block : sessions.Session
  empty_block = record { version = One; replicas = a ∷ []; authors = []; items = item.Block (record { lines = [] }) ∷ [] }

  is_empty_block : Spells (lines (codes "session" ∷ codes "replica a" ∷ codes "block" ∷ codes "end" ∷ [])) empty_block
  unfolding empty_block
  is_empty_block = record {
    is_session = record {
      some_replica = omega arith;
      few_replicas = omega arith;
      replicas_differ = (tt, tt);
      authors = tt;
      few_authors = omega arith;
      authors_differ = tt;
      items = (tt, tt);
      few_blocks = lit≤ tt;
      few_sends = lit≤ tt;
      few_shows = lit≤ tt;
      replicas_of_version = (of_one, tt);
      items_of_version = (tt, tt);
    };
    spelled = ap (λ (name : List ℕ). lines (codes "session" ∷ (codes "replica " ++ name) ∷ codes "block" ∷ codes "end" ∷ [])) (sym named);
  }

  -- `session`, `replica a`, `block`
  not_ended : IsBad (lines (codes "session" ∷ codes "replica a" ∷ codes "block" ∷ [])) 4 Unended
  not_ended = record {
    before = Session One ∷ Replica a ∷ Block ∷ [];
    begin = record { in_range = (tt, (tt, (tt, tt))); of_version = (tt, (of_one, (tt, tt))); good = (refl, (refl, (refl, tt))) };
    parts = ap (λ (name : List ℕ). lines (codes "session" ∷ (codes "replica " ++ name) ∷ codes "block" ∷ [])) (sym named);
    not_ended = refl;
    number = refl;
  }

  -- `session`, `replica a`, `replica a`
  repeated : IsBad (lines (codes "session" ∷ codes "replica a" ∷ codes "replica a" ∷ [])) 3 RepeatedReplica
  repeated = record {
    before = Session One ∷ Replica a ∷ [];
    bad = codes "replica a";
    after = [];
    begin = record { in_range = (tt, (tt, tt)); of_version = (tt, (of_one, tt)); good = (refl, (refl, tt)) };
    parts = ap (λ (name : List ℕ). lines (codes "session" ∷ (codes "replica " ++ name) ∷ []) ++ (codes "replica a" ++ 10 ∷ [])) (sym named);
    one_line = Lacks-word;
    has_fault = inr (record {
      statement = Replica a;
      says = record { in_range = tt; of_version = of_one; text = ap (λ (name : List ℕ). codes "replica " ++ name) (sym named) };
      has_fault = again a;
    });
    number = refl;
  }

-- nothing at all
nothing : IsBad [] 1 Unended
nothing = record { before = []; begin = record { in_range = tt; of_version = tt; good = tt }; parts = refl; not_ended = refl; number = refl }
