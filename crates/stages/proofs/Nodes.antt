-- From the tokens of a file to its nodes.
use mathlib.Core.Path.{◌≡◌, refl, sym, ap, subst, ◌∙◌}
use mathlib.Core.List.{List}
use Prim.Native.Nat.{ℕ, min, ◌≤◌}
use native.Mathlib.Omega.{arith}
use borrow.Author.Tests.{le-leb}
use lib.ListN.{length, take, length-map}
use lib.Seq.{sets}
use Rattle.std.specs.Prelude.{Ok, Err}
use Rattle.columns.proofs.Laws.{take_rows}
use Rattle.express.specs.Tokens.Lexis as lexis
use Rattle.express.specs.Tokens.Lexis.{most, lexed, tokens}
use Rattle.express.specs.Tokens.Terminal.{terminals}
use Rattle.express.specs.Tokens.Scanned.{token_table}
use Rattle.express.specs.Syntax.Grammar.{file}
use Rattle.express.specs.Syntax.Syntax.{parsed}
use Rattle.express.specs.Syntax.Tree.{count}
use Rattle.express.specs.Whole.Reply.{node_entries}
use Rattle.express.proofs.Tokens.TokenRows.{terminals_by_rows}
use Rattle.parsing.specs.Parsing.{rows_of}
use Rattle.stages.specs.declared.Refusal.{Refusal}
use Rattle.stages.specs.Line.{Stage, then_stage, of_syntax, table_of, token_stage, node_stage}
use Rattle.stages.specs.Reading.{rows_after, left_after, ParsesTokens, TokenColumns, NodeColumns, NodesRead, ReadsNodes}
use Rattle.stages.proofs.Bounds.{clash, tokens_few, bytes_few}
use Rattle.stages.proofs.Straight.{token_done, node_done}

-- a column that the values were stored in begins with them, where it is long enough
front : (column values : List ℕ) (n : ℕ) → n ≡ length values → n ≤ length column → take n (sets column 0 values) ≡ values
front column values n e h = rw e (take_rows column values (omega arith))

-- the lengths of the four columns
entries_le : (a b c d n : ℕ) → n ≤ min a (min b (min c d)) → (n ≤ a) × (n ≤ b) × (n ≤ c) × (n ≤ d)
entries_le a b c d n h = (omega arith, omega arith, omega arith, omega arith)

-- what is parsed of a file whose tokens are read: all of it
rows_read : {before : Stage} {i : ℕ} (ts scratch : List ℕ) → before ≡ Ok i → length ts ≤ most → length ts ≤ length scratch → rows_after before ts scratch ≡ rows_of (parsed file ts)
rows_read ts scratch q few room = rw (q, le-leb (length ts) most few, le-leb (length ts) (length scratch) room)

abbrev syntax_of : List ℕ → ℕ → Stage
syntax_of s entries = of_syntax (lexis.starts (lexed s)) (length s) entries (parsed file (token_table s).terminals)

module _ (s : List ℕ) (before : Stage) (token_kinds starts lengths terms scratch kinds tokens sizes roles : List ℕ) (n : ℕ) (r : Stage)
    (terms' scratch' kinds' tokens' sizes' roles' : List ℕ) where
  abbrev entries : ℕ
  entries = node_entries kinds tokens sizes roles

  -- after a refusal
  refused_before : (tr : ℕ) → before ≡ token_stage s tr → (f : Refusal) → before ≡ Err f → r ≡ Err f → NodesRead s tr entries r terms' kinds' tokens' sizes' roles'
  refused_before tr b f q v =
      record {
        is = v ∙ ap (λ (x : Stage). then_stage x (λ _. syntax_of s entries)) (sym q ∙ b);
        terminals_are = λ i u. clash (cc);
        nodes_are = λ i u. clash (cc);
      }

  -- the terminals of all tokens
  record Termed (i : ℕ) : Type 0 where
    all : take i terms' ≡ (token_table s).terminals
    mine : take n terms' ≡ (token_table s).terminals
    few : length (token_table s).terminals ≤ most
    room : length (token_table s).terminals ≤ length scratch

  termed : terms' ≡ sets terms 0 (terminals s token_kinds starts lengths) → n ≡ min (length token_kinds) (length terms') → length terms' ≡ length terms →
      (i : ℕ) → i ≡ length (lexed s).rows → TokenColumns s i token_kinds starts lengths terms scratch → Termed i
  termed e m k i d T =
      let w : terminals s token_kinds starts lengths ≡ (token_table s).terminals = rw (T.kinds_are, T.starts_are, T.lengths_are) (terminals_by_rows s (lexed s)) in
      let l : length (token_table s).terminals ≡ i = length-map (lexed s).rows _ ∙ sym d in
      let kl : length token_kinds ≡ i = ap length T.kinds_are ∙ length-map (lexed s).rows _ ∙ sym d in
      let ni : n ≡ i = omega (arith, m, k, kl, T.terminal_room) in
      let all : take i terms' ≡ (token_table s).terminals = rw (e, w) (front terms (token_table s).terminals i (sym l) T.terminal_room) in
      record {
        all = all;
        mine = rw ni all;
        few = omega (arith, l, d, tokens_few s);
        room = omega (arith, l, T.scratch_room);
      }

  module _ (P : ParsesTokens before (length s) starts (take n terms') scratch kinds tokens sizes roles r scratch' kinds' tokens' sizes' roles') (tr : ℕ) (b : before ≡ token_stage s tr)
      (i : ℕ) (q : before ≡ Ok i) (T : TokenColumns s i token_kinds starts lengths terms scratch) (W : Termed i) where
    ended : r ≡ node_stage s tr entries
    ended =
        let here : r ≡ of_syntax starts (length s) entries (parsed file (take n terms')) = P.is i q (bytes_few s tr i (sym b ∙ q)) (rw W.mine W.few) (rw W.mine W.room) in
        let there : of_syntax starts (length s) entries (parsed file (take n terms')) ≡ syntax_of s entries = rw (W.mine, T.starts_are) in
        here ∙ there ∙ ap (λ (x : Stage). then_stage x (λ _. syntax_of s entries)) (sym q ∙ b)

    columns_read : (j : ℕ) → j ≡ count (table_of s) → count (table_of s) ≤ entries → NodeColumns (table_of s) j kinds' tokens' sizes' roles'
    columns_read j c l =
        let rows : rows_after before (take n terms') scratch ≡ rows_of (parsed file (token_table s).terminals) = rows_read (take n terms') scratch q (rw W.mine W.few) (rw W.mine
        W.room) ∙ ap (λ (ts : List ℕ). rows_of (parsed file ts)) W.mine in
        let h = entries_le (length kinds) (length tokens) (length sizes) (length roles) (count (table_of s)) l in
        let many = rows_of (parsed file (token_table s).terminals) in
        let ck : count (table_of s) ≡ length many = length-map many _ in
        record {
          kinds_are = rw (P.kinds_are, rows) (front kinds (table_of s).kinds j c (omega arith));
          tokens_are = rw (P.tokens_are, rows) (front tokens (table_of s).tokens j (c ∙ ck ∙ sym (length-map many _)) (omega arith));
          sizes_are = rw (P.sizes_are, rows) (front sizes (table_of s).sizes j (c ∙ ck ∙ sym (length-map many _)) (omega arith));
          roles_are = rw (P.roles_are, rows) (front roles (table_of s).roles j (c ∙ ck ∙ sym (length-map many _)) (omega arith));
        }

    done_before : NodesRead s tr entries r terms' kinds' tokens' sizes' roles'
    done_before =
        record {
          is = ended;
          terminals_are = λ j u. let v : j ≡ i = cc in rw v W.all;
          nodes_are = λ j u. let N = node_done s tr entries j (sym ended ∙ u) in columns_read j N.is N.room;
        }

  pub nodes_read : terms' ≡ sets terms 0 (terminals s token_kinds starts lengths) → n ≡ min (length token_kinds) (length terms') → length terms' ≡ length terms →
      ParsesTokens before (length s) starts (take n terms') scratch kinds tokens sizes roles r scratch' kinds' tokens' sizes' roles' →
      ReadsNodes s before token_kinds starts lengths terms scratch kinds tokens sizes roles r terms' scratch' kinds' tokens' sizes' roles'
  nodes_read e m k P =
      record {
        scratch_is = subst (λ (i : ℕ). scratch' ≡ left_after before (take i terms') scratch) m P.scratch_is;
        is = λ tr b lent. ends tr b lent before refl;
      }
    where
      ends : (tr : ℕ) → before ≡ token_stage s tr → ((i : ℕ) → before ≡ Ok i → TokenColumns s i token_kinds starts lengths terms scratch) → (x : Stage) → before ≡ x →
          NodesRead s tr entries r terms' kinds' tokens' sizes' roles'
      ends tr b lent (Err f) q = refused_before tr b f q (P.passed_on f q)
      ends tr b lent (Ok i) q = done_before P tr b i q (lent i q) (termed e m k i (token_done s tr i (sym b ∙ q)).is (lent i q))
