-- ALL STAGES IN A LINE: from what each call promises to what the stages leave (`Ran`).
use mathlib.Core.Path.{◌≡◌, refl, sym, ap, ◌∙◌}
use mathlib.Core.List.{List, ◌++◌, map}
use Prim.Native.Nat.{ℕ, min, ◌*◌, ◌+◌, ◌≤◌, ◌<◌}
use native.Mathlib.Omega.{arith}
use lib.IntN.{ℤ}
use lib.ListN.{length, take, drop, replicate, length-map, length-append, length-drop, length-replicate}
use lib.Seq.{sets, length-take-le, take_at}
use Rattle.std.specs.Prelude.{Ok, Err}
use Rattle.columns.proofs.Laws.{take_rows}
use Rattle.express.specs.Tokens.Lexis.{TokenRow, most, lexed}
use Rattle.express.specs.Tokens.Scanned.{row_bytes}
use Rattle.express.specs.Tokens.Terminal.{terminal_of}
use Rattle.express.specs.Names.Names.{names}
use Rattle.express.specs.Names.Scope as scope
use Rattle.express.specs.Semantics.Answer.{Answer}
use Rattle.express.specs.Semantics.AnswerRow.{AnswerRow, rows_from}
use Rattle.express.specs.Semantics.Kind.{constants, typing}
use Rattle.express.specs.Whole.Reply.{Tables}
use Rattle.express.proofs.Tokens.TokenRows.{tokens_of}
use Rattle.scopes.specs.Range.{vertex_count}
use Rattle.constants.specs.Constants.{file_answers, WrittenRows}
use Rattle.bounds.proofs.Bounds.{vertices_few}
use Rattle.names.specs.Resolution.{FileRead}
use Rattle.stages.specs.declared.Refusal.{Refusal}
use Rattle.stages.specs.Line.{Stage, then_stage, of_names, of_kinds, of_room, table_of, accepted_with, constant_stage, name_stage, room_needed, room_stage}
use Rattle.stages.proofs.Bounds.{tokens_few}
use Rattle.stages.proofs.Straight.{constant_done, name_done, kind_done, room_done, table_scanned, nodes_few}
use Rattle.pipeline.specs.NameStage.{NamesEnd}
use Rattle.reading.specs.declared.Reading.{Reading}
use Rattle.reading.specs.FileReading as reading
use Rattle.reading.specs.FileReading.{ReadsFile}
use Rattle.name_frames.specs.NameFrame.{NamesWithin}
use Rattle.express.proofs.Whole.AnswerRow.{rows_counted}
use Rattle.answer_stages.specs.AnswerStage.{Answered}
use Rattle.answer_frames.specs.AnswerFrame.{NamedFile, AnswersWithin}
use Rattle.running.specs.Run.{Begins, AsLong, token_rows, node_rows, answer_rows, Sizes, Ran, RunsWithin}

-- a column that values were stored in begins with them, where it is long enough
front : {A : Type 0} (column values : List A) (n : ℕ) → n ≡ length values → n ≤ length column → take n (sets column 0 values) ≡ values
front column values n e h = rw e (take_rows column values (omega arith))

-- ---- columns

-- the front of a column was lent and written
pub joined_front : (n : ℕ) (front column : List ℕ) → length front ≡ length (take n column) → n ≤ length column → take n (front ++ drop n column) ≡ front
joined_front n front column e h = take_at front (drop n column) n (e ∙ length-take-le n column h)

pub joined_length : (n : ℕ) (front column : List ℕ) → length front ≡ length (take n column) → n ≤ length column → length (front ++ drop n column) ≡ length column
joined_length n front column e h = omega (arith, e, length-take-le n column h, length-append front (drop n column), length-drop n column)

-- an array that is filled with 0 has as many elements as were asked for. By this law and not by computing, which takes a step for each element
pub counted : (n : ℕ) → n ≡ length (replicate {A = ℕ} n 0)
counted n = sym (length-replicate n 0)

-- what is counted is in each column that is as long as it was
module _ {s tk ts tl terms nk nt ns nb : List ℕ} {answers : ℕ} {r : Reading} {tk' ts' tl' terms' nk' nt' ns' nb' : List ℕ}
    (R : ReadsFile s tk ts tl terms nk nt ns nb answers r tk' ts' tl' terms' nk' nt' ns' nb') {n : ℕ} where
  pub starts_fit : n ≡ length ts → r.tokens ≤ n
  starts_fit e = omega (arith, R.tokens_in.0, e)

  pub lengths_fit : n ≡ length tl → r.tokens ≤ n
  lengths_fit e = omega (arith, R.tokens_in.0, e)

  pub terminals_fit : n ≡ length terms → r.tokens ≤ n
  terminals_fit e = omega (arith, R.tokens_in.1, e)

  pub kinds_fit : n ≡ length nk → r.nodes ≤ n
  kinds_fit e = omega (arith, R.nodes_in, e)

  pub tokens_fit : n ≡ length nt → r.nodes ≤ n
  tokens_fit e = omega (arith, R.nodes_in, e)

  pub sizes_fit : n ≡ length ns → r.nodes ≤ n
  sizes_fit e = omega (arith, R.nodes_in, e)

  pub bindings_fit : n ≡ length nb → r.nodes ≤ n
  bindings_fit e = omega (arith, R.nodes_in, e)

-- ---- names and kinds, where what is done before them is known

module _ (s : List ℕ) (tr nr ar : ℕ) where
  -- THE NAMES
  pub named_is : {fit named : Stage} → fit ≡ constant_stage s tr nr ar → ((f : Refusal) → fit ≡ Err f → named ≡ Err f) → ((n : ℕ) → fit ≡ Ok n → named ≡ of_names (names (table_of
      s)) n) → named ≡ name_stage s tr nr ar
  named_is {fit} {named} fit_as passed is = by fit refl
    where
      by : (x : Stage) → fit ≡ x → named ≡ name_stage s tr nr ar
      by (Ok n) e = is n e ∙ ap (λ (x : Stage). then_stage x (of_names (names (table_of s)))) (sym e ∙ fit_as)
      by (Err f) e = passed f e ∙ ap (λ (x : Stage). then_stage x (of_names (names (table_of s)))) (sym e ∙ fit_as)

  -- THE KINDS, AND THE ROOM
  module _ (room : ℕ) where
    abbrev to_end : Stage → Stage
    to_end x = then_stage (then_stage x (of_kinds (table_of s) (typing (table_of s) (scope.bindings (table_of s))))) (of_room (room_needed (table_of s)) room)

    pub last_is : {named last : Stage} → named ≡ name_stage s tr nr ar → ((f : Refusal) → named ≡ Err f → last ≡ Err f) →
        ((n : ℕ) → named ≡ Ok n → last ≡ to_end (Ok n)) → last ≡ room_stage s tr nr ar room
    last_is {named} {last} named_as passed is = by named refl
      where
        by : (x : Stage) → named ≡ x → last ≡ room_stage s tr nr ar room
        by (Ok n) e = is n e ∙ ap to_end (sym e ∙ named_as)
        by (Err f) e = passed f e ∙ ap to_end (sym e ∙ named_as)

-- ---- the rows of the answers

module _ {A : Type 0} (f : AnswerRow → A) where
  answer_front : (xs : List Answer) (column column' : List A) (n : ℕ) → n ≡ length xs → n ≤ length column → column' ≡ sets column 0 (map f (rows_from 0 xs)) →
      take n column' ≡ map f (rows_from 0 xs)
  answer_front xs column column' n c l e = rw e (front column (map f (rows_from 0 xs)) n (c ∙ sym (length-map (rows_from 0 xs) f ∙ rows_counted 0 xs)) l)

module _ {aks : List ℕ} {azs : List ℤ} {als aks' : List ℕ} {azs' : List ℤ} {als' : List ℕ} {xs : List Answer} (W : WrittenRows aks azs als xs aks' azs' als') (n : ℕ) (c : n ≡ length xs)
  where
    pub answer_kinds_front : n ≤ length aks → take n aks' ≡ map (λ (r : AnswerRow). r.kind) (rows_from 0 xs)
    answer_kinds_front l = answer_front (λ (r : AnswerRow). r.kind) xs aks aks' n c l W.kinds_are

    pub answer_numbers_front : n ≤ length azs → take n azs' ≡ map (λ (r : AnswerRow). r.number) (rows_from 0 xs)
    answer_numbers_front l = answer_front (λ (r : AnswerRow). r.number) xs azs azs' n c l W.numbers_are

    pub answer_lengths_front : n ≤ length als → take n als' ≡ map (λ (r : AnswerRow). r.length) (rows_from 0 xs)
    answer_lengths_front l = answer_front (λ (r : AnswerRow). r.length) xs als als' n c l W.lengths_are

-- ---- the line

module _ {s : List ℕ} {l m : Tables} {read : Reading} {named last : Stage} {answers rest : ℕ} {terms types orders terms' nb b types' orders' : List ℕ}
    (R : ReadsFile s l.token_kinds l.token_starts l.token_lengths terms l.node_kinds l.node_tokens l.node_sizes l.node_bindings answers read
    m.token_kinds m.token_starts m.token_lengths terms' m.node_kinds m.node_tokens m.node_sizes nb)
    (rest_are : rest ≡ min (length l.answer_numbers) (length l.answer_lengths)) (answers_are : answers ≡ min (length l.answer_kinds) rest)
    (N : NamesWithin most read.stage s (take read.tokens m.token_starts) (take read.tokens m.token_lengths) (take read.tokens terms')
    (take read.nodes m.node_kinds) (take read.nodes m.node_tokens) (take read.nodes m.node_sizes) (take read.nodes nb) types orders named b types' orders')
    (bindings_are : take read.nodes m.node_bindings ≡ b)
    (A : AnswersWithin most named s (take read.tokens m.token_starts) (take read.tokens m.token_lengths) (take read.tokens terms')
    (take read.nodes m.node_kinds) (take read.nodes m.node_tokens) (take read.nodes m.node_sizes) (take read.nodes m.node_bindings) types' orders'
    l.answer_kinds l.answer_numbers l.answer_lengths l.room last m.answer_kinds m.answer_numbers m.answer_lengths m.room)
    (as_long : AsLong l m) (types_long : length types' ≡ length types) (orders_long : length orders' ≡ length orders) where
  -- where there is room for terminals and orders
  module _ (few : length (lexed s).rows ≤ length terms) (types_room : length (lexed s).rows < 5 * length types + 5) (orders_room : length (lexed s).rows < 5 * length orders + 5) where
    file : reading.FileRead s (token_rows l) (node_rows l) answers read m.token_kinds m.token_starts m.token_lengths terms' m.node_kinds m.node_tokens m.node_sizes nb
    file = R.is few

    fit_as : read.stage ≡ constant_stage s (token_rows l) (node_rows l) (answer_rows l)
    fit_as = file.stage_is ∙ ap (constant_stage s (token_rows l) (node_rows l)) (answers_are ∙ ap (min (length l.answer_kinds)) rest_are)

    -- where there is room for the answers
    done : (n : ℕ) → read.stage ≡ Ok n → constant_stage s (token_rows l) (node_rows l) (answer_rows l) ≡ Ok n
    done n e = sym fit_as ∙ e

    -- a declaration for each five tokens at most
    vertices_fit : (n : ℕ) → read.stage ≡ Ok n → (vertex_count (table_of s) ≤ length types) × (vertex_count (table_of s) ≤ length orders)
    vertices_fit n e =
        let C = constant_done s (token_rows l) (node_rows l) (answer_rows l) n (done n e) in
        let v = vertices_few C.of_nodes.read in
        let k : length (table_of s).terminals ≡ length (lexed s).rows = length-map (lexed s).rows (λ (r : TokenRow). terminal_of r.kind (row_bytes s r)) in
        (omega (arith, v, k, types_room), omega (arith, v, k, orders_room))

    ended : (n : ℕ) → read.stage ≡ Ok n → NamesEnd (table_of s) n named b types' orders'
    ended n e =
        let C = constant_done s (token_rows l) (node_rows l) (answer_rows l) n (done n e) in
        let B = file.begins n e in
        let F : FileRead s (take read.tokens m.token_starts) (take read.tokens m.token_lengths) (take read.tokens terms') (take read.nodes m.node_kinds)
        (take read.nodes m.node_tokens) (take read.nodes m.node_sizes) (take read.nodes nb) (table_of s) = record {
          scanned = table_scanned s;
          read = C.of_nodes.read;
          bytes_are = refl;
          starts_are = B.token_starts_are;
          lengths_are = B.token_lengths_are;
          terminals_are = B.terminals_are;
          kinds_are = B.node_kinds_are;
          tokens_are = B.node_tokens_are;
          sizes_are = B.node_sizes_are;
          roles_are = B.roles_are;
        } in
        let k : length (table_of s).starts ≡ length (lexed s).rows = length-map (lexed s).rows (λ (r : TokenRow). r.start) in
        let v = vertices_fit n e in
        N.is (table_of s) F (omega (arith, ap length B.token_starts_are, k, tokens_few s)) v.0 v.1 n e

    named_as : named ≡ name_stage s (token_rows l) (node_rows l) (answer_rows l)
    named_as = named_is s (token_rows l) (node_rows l) (answer_rows l) fit_as N.passed_on (λ n e. (ended n e).is)

    fit_done : (n : ℕ) → named ≡ Ok n → read.stage ≡ Ok n
    fit_done n e = fit_as ∙ (name_done s (token_rows l) (node_rows l) (answer_rows l) n (sym named_as ∙ e)).constants_done

    bound : (n : ℕ) → named ≡ Ok n → take read.nodes m.node_bindings ≡ scope.bindings (table_of s)
    bound n e = bindings_are ∙ (ended n (fit_done n e)).bound n e

    -- the names are right and bound
    named_file : (n : ℕ) → named ≡ Ok n → NamedFile s (take read.tokens m.token_starts) (take read.tokens m.token_lengths) (take read.tokens terms')
        (take read.nodes m.node_kinds) (take read.nodes m.node_tokens) (take read.nodes m.node_sizes) (take read.nodes m.node_bindings) types' orders'
        l.answer_kinds l.answer_numbers l.answer_lengths (table_of s)
    named_file n e =
        let f = fit_done n e in
        let C = constant_done s (token_rows l) (node_rows l) (answer_rows l) n (done n f) in
        let B = file.begins n f in
        let E = ended n f in
        let v = vertices_fit n f in
        let room = C.room in
        record {
          scanned = table_scanned s;
          read = C.of_nodes.read;
          named = (name_done s (token_rows l) (node_rows l) (answer_rows l) n (sym named_as ∙ e)).named;
          bytes_are = refl;
          starts_are = B.token_starts_are;
          lengths_are = B.token_lengths_are;
          terminals_are = B.terminals_are;
          kinds_are = B.node_kinds_are;
          tokens_are = B.node_tokens_are;
          sizes_are = B.node_sizes_are;
          bound = bound n e;
          types_room = omega (arith, v.0, types_long);
          constants_room = omega (arith, v.1, orders_long);
          types_arranged = E.types_arranged n e;
          constants_arranged = E.constants_arranged n e;
          answer_room = record { kinds_long = omega arith; numbers_long = omega arith; lengths_long = omega arith };
        }

    answered : (n : ℕ) → named ≡ Ok n → Answered (table_of s) (take read.nodes m.node_bindings) n last
        l.answer_kinds l.answer_numbers l.answer_lengths l.room m.answer_kinds m.answer_numbers m.answer_lengths m.room
    answered n e =
        let C = constant_done s (token_rows l) (node_rows l) (answer_rows l) n (done n (fit_done n e)) in
        A.is (table_of s) (named_file n e) (nodes_few C.of_nodes) n e

    last_as : last ≡ room_stage s (token_rows l) (node_rows l) (answer_rows l) (length l.room)
    last_as =
        last_is s (token_rows l) (node_rows l) (answer_rows l) (length l.room) named_as A.passed_on
        (λ n e. (answered n e).is
        ∙ ap (λ (x : List ℕ). then_stage (of_kinds (table_of s) (typing (table_of s) x) n) (of_room (room_needed (table_of s)) (length l.room))) (bound n e))

    named_done : (n : ℕ) → last ≡ Ok n → named ≡ Ok n
    named_done n e =
        let k = room_done s (token_rows l) (node_rows l) (answer_rows l) (length l.room) n (sym last_as ∙ e) in
        named_as ∙ kind_done s (token_rows l) (node_rows l) (answer_rows l) n k

    begins : (n : ℕ) → last ≡ Ok n → Begins (accepted_with s) read.tokens read.nodes n m
    begins n e =
        let nd = named_done n e in
        let fd = fit_done n nd in
        let C = constant_done s (token_rows l) (node_rows l) (answer_rows l) n (done n fd) in
        let B = file.begins n fd in
        let W = (answered n nd).rows n e in
        let c : n ≡ length (file_answers (table_of s)) = C.is ∙ sym (length-map (constants (table_of s)) _) in
        let i = C.is in
        let room = C.room in
        record {
          token_kinds = B.token_kinds_are;
          token_starts = B.token_starts_are;
          token_lengths = B.token_lengths_are;
          node_kinds = B.node_kinds_are;
          node_tokens = B.node_tokens_are;
          node_sizes = B.node_sizes_are;
          node_bindings = bound n nd;
          answer_kinds = answer_kinds_front W n c (omega arith);
          answer_numbers = answer_numbers_front W n c (omega arith);
          answer_lengths = answer_lengths_front W n c (omega arith);
        }

    -- WHAT THE STAGES LEAVE
    ran : Ran s l m read.tokens read.nodes last
    ran =
        record {
          tokens_are = file.tokens_are;
          nodes_are = file.nodes_are;
          last_is = last_as;
          begins = begins;
          strings = λ n e. (answered n (named_done n e)).strings n e;
          as_long = as_long;
        }

  -- THE LAW OF THE THREE SIZES: arrays for a file of at most n tokens
  pub runs_within : (n : ℕ) → n ≤ length terms → n < 5 * length types + 5 → n < 5 * length orders + 5 →
      RunsWithin n s l m (record { tokens = read.tokens; nodes = read.nodes; stage = last })
  runs_within n a b c = record { is = λ h. ran (omega arith) (omega arith) (omega arith) }

  -- arrays of these sizes
  pub runs_sized : {bytes declared : ℕ} → bytes ≡ length terms → declared ≡ length types → declared ≡ length orders → Sizes bytes declared →
      RunsWithin bytes s l m (record { tokens = read.tokens; nodes = read.nodes; stage = last })
  runs_sized {bytes} {declared} a b c Z =
      let d : bytes < 5 * declared + 5 = omega (arith, Z.declared_is) in runs_within bytes (omega arith) (omega arith) (omega arith)

-- ---- the choice among the three

module _ {s : List ℕ} {l m : Tables} {r : Reading} where
  -- a file has no more tokens than bytes
  pub of_bytes : (n : ℕ) → length s ≤ n → RunsWithin n s l m r → Ran s l m r.tokens r.nodes r.stage
  of_bytes n h R = R.is (omega (arith, (tokens_of s).few, h))

  -- nor more than the largest file has bytes
  pub of_any : RunsWithin most s l m r → Ran s l m r.tokens r.nodes r.stage
  of_any R = R.is (tokens_few s)
