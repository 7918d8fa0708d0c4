-- THE THREE DEMANDS follow from the report and the columns alone: `checks`. No code is spoken of.
use mathlib.Core.Path.{◌≡◌, refl, sym, ap, ◌∙◌}
use mathlib.Core.Logic.{◌≢◌, ◌⊎◌, inl}
use mathlib.Core.List.{List, [], ◌∷◌, map}
use Prim.Native.Nat.{ℕ, zero, suc, ◌-◌, ◌≤◌, ◌<◌}
use native.Mathlib.Omega.{arith}
use lib.IntN.{ℤ, pos}
use lib.ListN.{length, get_or, replicate}
use Rattle.columns.specs.Column.{padded}
use Rattle.columns.proofs.Laws.{getD_padded}
use Rattle.express.specs.Semantics.Answer.{indeterminate}
use Rattle.express.specs.Semantics.AnswerRow.{AnswerRow, row_of, row_answer}
use Rattle.express.specs.Semantics.Kind.{constants}
use Rattle.express.specs.Semantics.Rule.{Exactly}
use Rattle.express.specs.Whole.Reply.{Accepted, Checked, accepted, refused, Report, report, Tables, answer_rows, answer_room, outcome, tables_after}
use Rattle.express.proofs.Whole.Numbers.{numbered, reply_zero}
use Rattle.express.proofs.Whole.AnswerRow.{row_back}
use Rattle.express.proofs.Theorems.Acceptance.{accepted_iff}
use Rattle.demands.specs.Checks.{tables_of, zeros, AcceptableIn, row_answer_at, Checks}

-- ---- the row of an answer, from the columns

map_at : {A B : Type 0} (f : A → B) (xs : List A) (i : ℕ) (d : A) → get_or (map f xs) i (f d) ≡ f (get_or xs i d)
map_at f [] i d = refl
map_at f (x ∷ xs) zero d = refl
map_at f (x ∷ xs) (suc i) d = map_at f xs i d

-- a part of each row, with zeros behind: what stands at i is that part of the i-th row, for any i
part_at : {B : Type 0} (z : B) (f : AnswerRow → B) (rs : List AnswerRow) (n i : ℕ) → f (row_of indeterminate) ≡ z →
    get_or (padded z n (map f rs)) i z ≡ f (get_or rs i (row_of indeterminate))
part_at z f rs n i e = getD_padded z n (map f rs) i ∙ ap (get_or (map f rs) i) (sym e) ∙ map_at f rs i (row_of indeterminate)

row_in : (a : Accepted) (l : Tables) (i : ℕ) →
    row_answer_at (tables_after (accepted a) l) i ≡ row_answer (padded 0 (length l.room) (answer_room a)) (get_or (answer_rows a) i (row_of indeterminate))
row_in a l i =
    rw (
      part_at 0 (λ (r : AnswerRow). r.kind) (answer_rows a) (length l.answer_kinds) i refl,
      part_at (pos 0) (λ (r : AnswerRow). r.number) (answer_rows a) (length l.answer_numbers) i refl,
      part_at 0 (λ (r : AnswerRow). r.length) (answer_rows a) (length l.answer_lengths) i refl,
    )

module _ (s : List ℕ) (l m : Tables) (r : Report) (reports : r ≡ report (outcome s l)) (holds : m ≡ tables_after (outcome s l) l) where
  -- ---- the first demand

  small : (c : Checked) → outcome s l ≡ c → ((report c).reply ≤ 15) ⊎ ((report c).reply ≡ 20)
  small (accepted a) e = inl (omega arith)
  small (refused k p) e = (numbered s _ _ _ _ k p e).1

  empty : (c : Checked) → (report c).reply ≢ 0 → ((report c).tokens ≡ 0) × ((report c).nodes ≡ 0) × ((report c).constants ≡ 0) × (tables_after c l ≡ zeros l)
  empty (accepted a) n = absurd (n refl)
  empty (refused k p) n = (refl, refl, refl, refl)

  -- ---- the second

  is_accepted : (a : Accepted) → AcceptableIn s l a → outcome s l ≡ accepted a
  is_accepted a p = (accepted_iff s _ _ _ _ a).1 p

  acceptable : (report (outcome s l)).reply ≡ 0 → (a : Accepted) × AcceptableIn s l a
  acceptable e = let a = (reply_zero s _ _ _ _).0 e in (a.0, (accepted_iff s _ _ _ _ a.0).0 a.1)

  zero_reply : (a : Accepted) × AcceptableIn s l a → (report (outcome s l)).reply ≡ 0
  zero_reply p = ap (λ (c : Checked). (report c).reply) (is_accepted p.0 p.1)

  -- ---- the third

  exact : (a : Accepted) → AcceptableIn s l a → (i : ℕ) → i < length (constants a.table) →
      Exactly a.table a.bindings (get_or (constants a.table) i 0) (row_answer_at (tables_after (accepted a) l) i)
  exact a p i h =
      let x = p.exact i h in
      let back = row_back a.answers [] (replicate (length l.room - length (answer_room a)) 0) i x.holds in
      rw (row_in a l i, back) x

  -- THE THEOREM
  pub checks : Checks s l m r
  checks =
      record {
        reports = reports;
        holds = holds;
        numbered = rw reports (small (outcome s l) refl);
        cleared = rw (reports, holds) (empty (outcome s l));
        accepts = rw reports (acceptable, zero_reply);
        tree = λ a p. (reports ∙ ap report (is_accepted a p), holds ∙ ap (λ (c : Checked). tables_after c l) (is_accepted a p));
        answers = λ a p. rw (reports, is_accepted a p) p.as_many;
        follows = λ a p i h. rw (holds, is_accepted a p) (exact a p i (rw (reports, is_accepted a p, p.as_many) at h));
      }

-- ---- tables that are alike column by column

columns_alike : {a b c d e f g h : List ℕ} {i : List ℤ} {j k a' b' c' d' e' f' g' h' : List ℕ} {i' : List ℤ} {j' k' : List ℕ} →
    a ≡ a' → b ≡ b' → c ≡ c' → d ≡ d' → e ≡ e' → f ≡ f' → g ≡ g' → h ≡ h' → i ≡ i' → j ≡ j' → k ≡ k' →
    tables_of a b c d e f g h i j k ≡ tables_of a' b' c' d' e' f' g' h' i' j' k'
columns_alike p q r s t u v w x y z = rw (p, q, r, s, t, u, v, w, x, y, z)

pub tables_alike : (m l : Tables) →
    m.token_kinds ≡ l.token_kinds → m.token_starts ≡ l.token_starts → m.token_lengths ≡ l.token_lengths →
    m.node_kinds ≡ l.node_kinds → m.node_tokens ≡ l.node_tokens → m.node_sizes ≡ l.node_sizes → m.node_bindings ≡ l.node_bindings →
    m.answer_kinds ≡ l.answer_kinds → m.answer_numbers ≡ l.answer_numbers → m.answer_lengths ≡ l.answer_lengths → m.room ≡ l.room → m ≡ l
tables_alike m l p q r s t u v w x y z = columns_alike p q r s t u v w x y z
