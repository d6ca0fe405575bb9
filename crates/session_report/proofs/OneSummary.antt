-- A session has one summary, whatever its journals are, as long as they bring each replica the same edits.
use Rattle.std.proofs.Common.{◌≡◌, ℕ, ◌<◌, Bool, true, false, IsTrue, List, length, refl, sym, ap, subst, ◌∙◌}
use Rattle.grove_edits.specs.declared.edit.Edit.{Edit}
use Rattle.grove_edits.specs.Graph.{graph, IsCanonical}
use Rattle.grove_edits.proofs.Unique.{canonical_once}
use Rattle.grove_answers.specs.declared.counts.Counts.{Counts}
use Rattle.grove_answers.specs.Counts.{AreCounts}
use Rattle.grove_answers.specs.Texts.{IsPrintText}
use Rattle.grove_answers.proofs.SameGraph.{one_print_text, one_counts}
use Rattle.session_script.specs.declared.session.Session.{Session}
use Rattle.session_report.specs.declared.summary.Summary.{Summary}
use Rattle.session_report.specs.Taken.{Journals, taken}
use Rattle.session_report.specs.Summary.{Summarizes, IsSummary, live_count, deleted_count, summary_text}

one_test : (a b : Bool) → (IsTrue a → IsTrue b) → (IsTrue b → IsTrue a) → a ≡ b
one_test true true to from = refl
one_test true false to from = sym (to refl)
one_test false true to from = from refl
one_test false false to from = refl

abbrev made : ℕ → ℕ → ℕ → Counts → Bool → Summary
made loads live deleted counts equal = record { loads = loads; live = live; deleted = deleted; counts = counts; equal = equal }

summary_from_fields : (a b : Summary) → a.loads ≡ b.loads → a.live ≡ b.live → a.deleted ≡ b.deleted → a.counts ≡ b.counts → a.equal ≡ b.equal → a ≡ b
summary_from_fields a b loads live deleted counts equal =
    ap (λ n. made n a.live a.deleted a.counts a.equal) loads
    ∙ ap (λ n. made b.loads n a.deleted a.counts a.equal) live
    ∙ ap (λ n. made b.loads b.live n a.counts a.equal) deleted
    ∙ ap (λ (k : Counts). made b.loads b.live b.deleted k a.equal) counts
    ∙ ap (λ (t : Bool). made b.loads b.live b.deleted b.counts t) equal

module _ {M : Type 0} where
  -- all replicas have taken the same at the end of the session
  pub record TakeAlike (session : Session) (js ks : Journals M) : Type 0 where
    pub first : taken js 0 session.items ≡ taken ks 0 session.items
    pub each : (replica : ℕ) → replica < length session.replicas → taken js replica session.items ≡ taken ks replica session.items

  -- replicas that print a text with the one print it with the other
  printed_with : (session : Session) (js ks : Journals M) (a b : List ℕ)
      → ((replica : ℕ) → replica < length session.replicas → taken js replica session.items ≡ taken ks replica session.items) → a ≡ b
      → ((replica : ℕ) → replica < length session.replicas → IsPrintText (graph (taken js replica session.items)) a)
      → (replica : ℕ) → replica < length session.replicas → IsPrintText (graph (taken ks replica session.items)) b
  printed_with session js ks a b alike same prints replica within =
      subst (IsPrintText (graph (taken ks replica session.items))) same (subst (λ (es : List Edit). IsPrintText (graph es) a) (alike replica within) (prints replica within))

  one_summary_of : (session : Session) (js ks : Journals M) (x y : Summary) → TakeAlike session js ks → Summarizes session js x → Summarizes session ks y → x ≡ y
  one_summary_of session js ks x y alike a b =
      let g = graph (taken ks 0 session.items) in
      let canonical : a.canonical ≡ b.canonical = canonical_once g a.canonical b.canonical (subst (λ (es : List Edit). IsCanonical (graph es) a.canonical) alike.first a.is_canonical) b.is_canonical in
      let printed : a.printed ≡ b.printed = one_print_text g a.printed b.printed (subst (λ (es : List Edit). IsPrintText (graph es) a.printed) alike.first a.is_printed) b.is_printed in
      summary_from_fields x y
      (a.loads ∙ sym b.loads)
      (a.live ∙ ap live_count canonical ∙ sym b.live)
      (a.deleted ∙ ap deleted_count canonical ∙ sym b.deleted)
      (one_counts g x.counts y.counts (subst (λ (es : List Edit). AreCounts (graph es) x.counts) alike.first a.counts) b.counts)
      (one_test x.equal y.equal
      (λ holds. b.equal.1 (printed_with session js ks a.printed b.printed alike.each printed (a.equal.0 holds)))
      (λ holds. a.equal.1 (printed_with session ks js b.printed a.printed (λ replica within. sym (alike.each replica within)) (sym printed) (b.equal.0 holds))))

  pub one_summary_alike : (session : Session) (js ks : Journals M) (x y : List ℕ) → TakeAlike session js ks → IsSummary session js x → IsSummary session ks y → x ≡ y
  one_summary_alike session js ks x y alike a b = a.2 ∙ ap summary_text (one_summary_of session js ks a.0 b.0 alike a.1 b.1) ∙ sym b.2

  pub one_summary_text : (session : Session) (journals : Journals M) (x y : List ℕ) → IsSummary session journals x → IsSummary session journals y → x ≡ y
  one_summary_text session journals x y = one_summary_alike session journals journals x y (record { first = refl; each = λ replica within. refl })
