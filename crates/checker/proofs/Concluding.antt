-- THE END OF A CHECK: from what all stages leave to the contract of the public call (`concluded`).
use mathlib.Core.Path.{◌≡◌, refl, sym, ap, ◌∙◌}
use mathlib.Core.List.{List}
use Prim.Native.Nat.{ℕ, ◌≤◌}
use native.Mathlib.Omega.{arith}
use lib.IntN.{pos}
use lib.ListN.{length, take, replicate, length-map}
use Rattle.std.specs.Prelude.{Ok, Err}
use Rattle.columns.specs.Column.{cleared, padded}
use Rattle.columns.proofs.Laws.{clear_all, clear_front, clear_over}
use Rattle.express.specs.Tokens.Lexis.{most, lexed}
use Rattle.express.specs.Syntax.Tree.{count}
use Rattle.express.specs.Semantics.Kind.{constants}
use Rattle.express.specs.Whole.Reply.{Accepted, report, Tables, column, outcome, tables_after}
use Rattle.express.specs.Whole.Reply as express
use Rattle.constants.specs.Constants.{file_answers}
use Rattle.stages.specs.Line.{Stage, count_of, kept_of, reported, table_of, accepted_with, outcome_by, token_stage, node_stage, room_stage}
use Rattle.stages.proofs.Bounds.{tokens_few}
use Rattle.stages.proofs.Straight.{straight, token_done, node_done, constant_done, name_done, kind_done, room_done, nodes_few, constants_few}
use Rattle.demands.specs.Checks.{Checks}
use Rattle.demands.proofs.Theorem.{checks, tables_alike}
use Rattle.reports.specs.declared.Report.{Report}
use Rattle.reports.specs.Reporting.{report_of}
use Rattle.conclusions.specs.Conclusion.{Concludes}
use Rattle.running.specs.Run.{token_rows, node_rows, answer_rows, Ran}

-- ---- counts

module _ (s : List ℕ) (tr nr ar room : ℕ) where
  tokens_small : (x : Stage) → token_stage s tr ≡ x → count_of x ≤ most
  tokens_small (Ok n) e = let D = token_done s tr n e in omega (arith, D.is, tokens_few s)
  tokens_small (Err f) e = omega arith

  nodes_small : (x : Stage) → node_stage s tr nr ≡ x → count_of x ≤ most
  nodes_small (Ok n) e = let N = node_done s tr nr n e in omega (arith, N.is, nodes_few N)
  nodes_small (Err f) e = omega arith

  -- what is counted where all stages are done
  record Counts (n : ℕ) : Type 0 where
    token_count : count_of (token_stage s tr) ≡ length (lexed s).rows
    node_count : count_of (node_stage s tr nr) ≡ count (table_of s)
    answer_count : n ≡ length (constants (table_of s))
    small : n ≤ most

  counts : (n : ℕ) → room_stage s tr nr ar room ≡ Ok n → Counts n
  counts n e =
      let C = constant_done s tr nr ar n (name_done s tr nr ar n (kind_done s tr nr ar n (room_done s tr nr ar room n e))).constants_done in
      let N = C.of_nodes in
      record {
        token_count = ap count_of N.tokens_done;
        node_count = ap count_of C.nodes_done;
        answer_count = C.is;
        small = omega (arith, C.is, constants_few (table_of s), nodes_few N);
      }

  last_small : (x : Stage) → room_stage s tr nr ar room ≡ x → count_of x ≤ most
  last_small (Ok n) e = (counts n e).small
  last_small (Err f) e = omega arith

  -- the report is that of the outcome
  same_report : (x : Stage) → room_stage s tr nr ar room ≡ x → reported (count_of (token_stage s tr)) (count_of (node_stage s tr nr)) x ≡ report (outcome_by s x)
  same_report (Ok n) e =
      let c = counts n e in
      let a : n ≡ length (file_answers (table_of s)) = c.answer_count ∙ sym (length-map (constants (table_of s)) _) in
      rw (c.token_count, c.node_count, a)
  same_report (Err f) e = refl

-- ---- columns

module _ {A : Type 0} (z : A) (values : Accepted → List A) (s : List ℕ) where
  -- a column whose front is the values, cleared behind them, or all of it after a refusal
  counted_column : (last : Stage) (c c' : List A) (n : ℕ) → length c ≡ n → c' ≡ cleared z (count_of last) c →
      ((i : ℕ) → last ≡ Ok i → take i c ≡ values (accepted_with s)) → c' ≡ column z values (outcome_by s last) n
  counted_column (Ok i) c c' n l e f = e ∙ clear_front z i c (values (accepted_with s)) (f i refl) ∙ ap (λ (k : ℕ). padded z k (values (accepted_with s))) l
  counted_column (Err w) c c' n l e f = e ∙ clear_all z c ∙ ap (λ (k : ℕ). replicate k z) l

  kept_column : (last : Stage) (entries : ℕ) (c c' : List A) (n : ℕ) → length c ≡ n → c' ≡ cleared z (kept_of last entries) c →
      ((i : ℕ) → last ≡ Ok i → take entries c ≡ values (accepted_with s)) → c' ≡ column z values (outcome_by s last) n
  kept_column (Ok i) entries c c' n l e f = e ∙ clear_front z entries c (values (accepted_with s)) (f i refl) ∙ ap (λ (k : ℕ). padded z k (values (accepted_with s))) l
  kept_column (Err w) entries c c' n l e f = e ∙ clear_all z c ∙ ap (λ (k : ℕ). replicate k z) l

-- the room, which holds all of it where the last stage is done
room_column : (s : List ℕ) (last : Stage) (c c' : List ℕ) (n : ℕ) → length c ≡ n → c' ≡ cleared 0 (kept_of last (length c)) c →
    ((i : ℕ) → last ≡ Ok i → c ≡ padded 0 n (express.answer_room (accepted_with s))) → c' ≡ column 0 express.answer_room (outcome_by s last) n
room_column s (Ok i) c c' n l e f = e ∙ clear_over 0 c (length c) (omega arith) ∙ f i refl
room_column s (Err w) c c' n l e f = e ∙ clear_all 0 c ∙ ap (λ (k : ℕ). replicate k 0) l

-- ---- the contract

module _ {s : List ℕ} {l m m' : Tables} {tokens nodes : ℕ} {last : Stage} {r : Report} (R : Ran s l m tokens nodes last) (C : Concludes tokens nodes last m m' r) where
  outcome_is : outcome s l ≡ outcome_by s last
  outcome_is = straight s (token_rows l) (node_rows l) (answer_rows l) (length l.room) ∙ ap (outcome_by s) (sym R.last_is)

  reports : report_of r ≡ report (outcome s l)
  reports =
      let t : tokens ≤ most = rw R.tokens_are (tokens_small s (token_rows l) (node_rows l) (answer_rows l) (length l.room) (token_stage s (token_rows l)) refl) in
      let n : nodes ≤ most = rw R.nodes_are (nodes_small s (token_rows l) (node_rows l) (answer_rows l) (length l.room) (node_stage s (token_rows l) (node_rows l)) refl) in
      let a : count_of last ≤ most = last_small s (token_rows l) (node_rows l) (answer_rows l) (length l.room) last (sym R.last_is) in
      let same = same_report s (token_rows l) (node_rows l) (answer_rows l) (length l.room) last (sym R.last_is) in
      C.reports.is t n a ∙ rw (R.tokens_are, R.nodes_are) same ∙ ap report (sym outcome_is)

  holds : m' ≡ tables_after (outcome s l) l
  holds =
      let T = C.of_tokens in
      let N = C.of_nodes in
      let A = C.of_answers in
      let L = R.as_long in
      let B = R.begins in
      rw outcome_is
      (tables_alike m' (tables_after (outcome_by s last) l)
      (kept_column 0 express.token_kinds s last tokens m.token_kinds m'.token_kinds _ L.token_kinds T.kinds_are (λ i e. (B i e).token_kinds))
      (kept_column 0 express.token_starts s last tokens m.token_starts m'.token_starts _ L.token_starts T.starts_are (λ i e. (B i e).token_starts))
      (kept_column 0 express.token_lengths s last tokens m.token_lengths m'.token_lengths _ L.token_lengths T.lengths_are (λ i e. (B i e).token_lengths))
      (kept_column 0 express.node_kinds s last nodes m.node_kinds m'.node_kinds _ L.node_kinds N.kinds_are (λ i e. (B i e).node_kinds))
      (kept_column 0 express.node_tokens s last nodes m.node_tokens m'.node_tokens _ L.node_tokens N.tokens_are (λ i e. (B i e).node_tokens))
      (kept_column 0 express.node_sizes s last nodes m.node_sizes m'.node_sizes _ L.node_sizes N.sizes_are (λ i e. (B i e).node_sizes))
      (kept_column 0 express.node_bindings s last nodes m.node_bindings m'.node_bindings _ L.node_bindings N.bindings_are (λ i e. (B i e).node_bindings))
      (counted_column 0 express.answer_kinds s last m.answer_kinds m'.answer_kinds _ L.answer_kinds A.kinds_are (λ i e. (B i e).answer_kinds))
      (counted_column (pos 0) express.answer_numbers s last m.answer_numbers m'.answer_numbers _ L.answer_numbers A.numbers_are (λ i e. (B i e).answer_numbers))
      (counted_column 0 express.answer_lengths s last m.answer_lengths m'.answer_lengths _ L.answer_lengths A.lengths_are (λ i e. (B i e).answer_lengths))
      (room_column s last m.room m'.room _ L.room C.of_room R.strings))

  -- THE THREE DEMANDS, of a file whose stages have run and been concluded
  pub concluded : Checks s l m' (report_of r)
  concluded = checks s l m' (report_of r) reports holds
