-- THE STAGES UP TO THE ROOM FOR ANSWERS: from what each call promises to what they leave together (`read_together`).
use mathlib.Core.Path.{◌≡◌, refl, sym, ap, ◌∙◌}
use mathlib.Core.List.{List}
use Prim.Native.Nat.{ℕ, min, ◌≤◌}
use native.Mathlib.Omega.{arith}
use lib.ListN.{length, take, length-map, length-take}
use lib.Seq.{sets}
use Rattle.std.specs.Prelude.{Ok, Err}
use Rattle.columns.proofs.Laws.{take_rows}
use Rattle.express.specs.Tokens.Lexis as lexis
use Rattle.express.specs.Tokens.Lexis.{most, lexed}
use Rattle.express.specs.Syntax.Tree.{count}
use Rattle.express.specs.Whole.Reply.{token_entries, node_entries}
use Rattle.stages.specs.Line.{Stage, then_stage, count_of, of_constants, table_of, token_stage, node_stage, constant_stage}
use Rattle.stages.specs.Reading.{ScansTokens, TokenColumns, NodesRead, FitsConstants}
use Rattle.stages.proofs.Bounds.{tokens_few}
use Rattle.stages.proofs.Straight.{token_done, node_done, constant_done, nodes_few}
use Rattle.reading.specs.declared.Reading.{Reading}
use Rattle.reading.specs.FileReading.{ReadsWithin, FileBegins, FileRead, ReadsFile}

-- a column that values were stored in begins with them, where it is long enough
front : (column values : List ℕ) (n : ℕ) → n ≡ length values → n ≤ length column → take n (sets column 0 values) ≡ values
front column values n e h = rw e (take_rows column values (omega arith))

-- ---- what is counted is in the columns

tokens_bound : (s : List ℕ) (tr : ℕ) (x : Stage) → x ≡ token_stage s tr → (count_of x ≤ tr) × (count_of x ≤ length (lexed s).rows)
tokens_bound s tr (Ok n) e = let D = token_done s tr n (sym e) in (omega (arith, D.is, D.room), omega (arith, D.is))
tokens_bound s tr (Err f) e = (omega arith, omega arith)

nodes_bound : (s : List ℕ) (tr nr : ℕ) (x : Stage) → x ≡ node_stage s tr nr → count_of x ≤ nr
nodes_bound s tr nr (Ok n) e = let N = node_done s tr nr n (sym e) in omega (arith, N.is, N.room)
nodes_bound s tr nr (Err f) e = omega arith

-- the length of the shortest of four columns, each as long as it was
shortest_of_four : (a b c d : ℕ) → min (min a b) (min c d) ≡ min a (min b (min c d))
shortest_of_four a b c d = omega arith

pub node_room : {a b c d a' b' c' d' x y e : ℕ} → x ≡ min a' b' → y ≡ min c' d' → e ≡ min x y → a' ≡ a → b' ≡ b → c' ≡ c → d' ≡ d → e ≡ min a (min b (min c d))
node_room {a} {b} {c} {d} p q r h i j k = rw (r, p, q, h, i, j, k) (shortest_of_four a b c d)

-- ---- tokens and nodes

module _ {s k₀ s₀ z₀ : List ℕ} {scanned : Stage} {k' s' z' : List ℕ} (S : ScansTokens s k₀ s₀ z₀ scanned k' s' z') where
  -- what is counted is in each column that is as long as it was
  module _ {c tokens : ℕ} (room : ℕ) (c_is : c ≡ count_of scanned) (tokens_is : tokens ≡ min c room) where
    tokens_in : tokens ≤ token_entries k₀ s₀ z₀
    tokens_in = omega (arith, (tokens_bound s (token_entries k₀ s₀ z₀) scanned S.is).0, c_is, tokens_is)

    pub kinds_fit : {n : ℕ} → n ≡ length k₀ → tokens ≤ n
    kinds_fit e = omega (arith, tokens_in, e)

    pub starts_fit : {n : ℕ} → n ≡ length s₀ → tokens ≤ n
    starts_fit e = omega (arith, tokens_in, e)

    pub lengths_fit : {n : ℕ} → n ≡ length z₀ → tokens ≤ n
    lengths_fit e = omega (arith, tokens_in, e)

  -- the columns of the tokens, for what comes after them
  token_columns : (terms words : List ℕ) (tokens : ℕ) → tokens ≡ count_of scanned → tokens ≤ length terms →
      (n : ℕ) → scanned ≡ Ok n → n ≤ length words → TokenColumns s n (take tokens k') (take tokens s') (take tokens z') terms words
  token_columns terms words tokens c a n e b =
      let D = token_done s (token_entries k₀ s₀ z₀) n (sym S.is ∙ e) in
      let t : tokens ≡ n = c ∙ ap count_of e in
      let r = D.room in
      let i = D.is in
      let k : length (lexis.kinds (lexed s)) ≡ length (lexed s).rows = length-map (lexed s).rows _ in
      let p : length (lexis.starts (lexed s)) ≡ length (lexed s).rows = length-map (lexed s).rows _ in
      let z : length (lexis.sizes (lexed s)) ≡ length (lexed s).rows = length-map (lexed s).rows _ in
      record {
        kinds_are = rw S.kinds_are (front k₀ (lexis.kinds (lexed s)) tokens (omega arith) (omega arith));
        starts_are = rw S.starts_are (front s₀ (lexis.starts (lexed s)) tokens (omega arith) (omega arith));
        lengths_are = rw S.lengths_are (front z₀ (lexis.sizes (lexed s)) tokens (omega arith) (omega arith));
        terminal_room = omega arith;
        scratch_room = b;
      }

module _ {s : List ℕ} {tr nr : ℕ} {read : Stage} {terms nk nt ns nb : List ℕ} (R : NodesRead s tr nr read terms nk nt ns nb) (nodes : ℕ) (nodes_are : nodes ≡ count_of read) where
  -- the first nodes of the columns are those of the file
  front_kinds : (n : ℕ) → read ≡ Ok n → take nodes nk ≡ (table_of s).kinds
  front_kinds n e = let q : nodes ≡ n = nodes_are ∙ ap count_of e in rw q (R.nodes_are n e).kinds_are

  -- THE ROOM FOR ANSWERS
  fit_is : {ar : ℕ} {fit : Stage} → FitsConstants read (take nodes nk) ar fit → fit ≡ constant_stage s tr nr ar
  fit_is {ar} {fit} F = by read refl
    where
      by : (x : Stage) → read ≡ x → fit ≡ constant_stage s tr nr ar
      by (Ok n) e =
          let N = node_done s tr nr n (sym R.is ∙ e) in
          let k = front_kinds n e in
          let few : length (take nodes nk) ≤ most = rw k (nodes_few N) in
          F.is few ∙ rw (k, R.is)
      by (Err f) e =
          let z : nodes ≡ 0 = nodes_are ∙ ap count_of e in
          let few : length (take nodes nk) ≤ most = rw z (omega arith) in
          F.is few ∙ ap (λ (x : Stage). then_stage x (λ _. of_constants (take nodes nk) ar)) e ∙
          ap (λ (x : Stage). then_stage x (λ _. of_constants (table_of s).kinds ar)) (sym e ∙ R.is)

-- ---- all of them

module _ {s tk ts tl terms nk nt ns nb tk' ts' tl' terms' nk' nt' ns' nb' : List ℕ} {answers : ℕ} {scanned read fit : Stage} {tokens nodes c d room entries : ℕ}
    (S : ScansTokens s tk ts tl scanned tk' ts' tl') (c_is : c ≡ count_of scanned) (tokens_is : tokens ≡ min c room) (room_is : room ≡ length terms)
    (R : ReadsWithin most s scanned (take tokens tk') (take tokens ts') (take tokens tl') terms nk nt ns nb read terms' nk' nt' ns' nb')
    (d_is : d ≡ count_of read) (entries_is : entries ≡ node_entries nk nt ns nb) (nodes_is : nodes ≡ min d entries) (F : FitsConstants read (take nodes nk') answers fit) where
  abbrev tr : ℕ
  tr = token_entries tk ts tl

  abbrev nr : ℕ
  nr = node_entries nk nt ns nb

  -- where there is room for the terminals
  module _ (few : length (lexed s).rows ≤ length terms) where
    tokens_are : tokens ≡ count_of scanned
    tokens_are = let b = (tokens_bound s tr scanned S.is).1 in omega arith

    nodes_read : NodesRead s tr nr read terms' nk' nt' ns' nb'
    nodes_read = let b = (tokens_bound s tr scanned S.is).1 in
        R.is (omega (arith, tokens_few s, length-take tokens tk')) tr S.is (λ n e words l. token_columns S terms words tokens tokens_are (omega (arith, tokens_is, room_is)) n e l)

    nodes_are : nodes ≡ count_of read
    nodes_are = let b = nodes_bound s tr nr read nodes_read.is in omega arith

    fit_as : fit ≡ constant_stage s tr nr answers
    fit_as = fit_is nodes_read nodes nodes_are F

    begins : (n : ℕ) → fit ≡ Ok n → FileBegins s (table_of s) tokens nodes tk' ts' tl' terms' nk' nt' ns' nb'
    begins n e =
        let C = constant_done s tr nr answers n (sym fit_as ∙ e) in
        let q = C.of_nodes.tokens_done in
        let w : scanned ≡ Ok (length (lexed s).rows) = S.is ∙ q in
        let T = token_columns S terms terms tokens tokens_are (omega (arith, tokens_is, room_is)) (length (lexed s).rows) w few in
        let N = nodes_read.nodes_are (count (table_of s)) (nodes_read.is ∙ C.nodes_done) in
        let u : tokens ≡ length (lexed s).rows = tokens_are ∙ ap count_of w in
        let v : nodes ≡ count (table_of s) = nodes_are ∙ ap count_of (nodes_read.is ∙ C.nodes_done) in
        record {
          token_kinds_are = T.kinds_are;
          token_starts_are = T.starts_are;
          token_lengths_are = T.lengths_are;
          terminals_are = rw u (nodes_read.terminals_are (length (lexed s).rows) q);
          node_kinds_are = rw v N.kinds_are;
          node_tokens_are = rw v N.tokens_are;
          node_sizes_are = rw v N.sizes_are;
          roles_are = rw v N.roles_are;
        }

    file_read : FileRead s tr nr answers (record { tokens = tokens; nodes = nodes; stage = fit }) tk' ts' tl' terms' nk' nt' ns' nb'
    file_read =
        record {
          tokens_are = tokens_are ∙ ap count_of S.is;
          nodes_are = nodes_are ∙ ap count_of nodes_read.is;
          stage_is = fit_as;
          begins = begins;
        }

  pub read_together : ReadsFile s tk ts tl terms nk nt ns nb answers (record { tokens = tokens; nodes = nodes; stage = fit }) tk' ts' tl' terms' nk' nt' ns' nb'
  read_together =
      let b = (tokens_bound s tr scanned S.is).0 in
      record { tokens_in = (omega arith, omega arith); nodes_in = omega arith; is = file_read }
