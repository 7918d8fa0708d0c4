-- THE STRAIGHT LINE: the last stage says what the whole check comes to (`straight`), and a stage that is done says that those before it are.
use mathlib.Core.Path.{◌≡◌, refl, sym, ap, subst, ◌∙◌}
use mathlib.Core.Bool.{Bool, true, false, cond}
use mathlib.Core.List.{List}
use Prim.Native.Nat.{ℕ, ◌≤◌}
use native.Mathlib.Omega.{arith}
use borrow.Author.Tests.{eqb-true, leb-true}
use lib.Dec.{eqb, leb}
use lib.ListN.{length, length-map}
use Rattle.std.specs.Prelude.{Ok, Err}
use Rattle.ebnf.specs.Rows.{Row, Rows}
use Rattle.ebnf.specs.Depth.{Outcome, good, unexpected, too_deep}
use Rattle.express.specs.Tokens.Lexis as lexis
use Rattle.express.specs.Tokens.Lexis.{TokenRow, Reading, counted, most, lexed, tokens}
use Rattle.express.specs.Tokens.Terminal.{terminal_of}
use Rattle.express.specs.Tokens.Scanned.{Scanned, row_bytes, token_table}
use Rattle.express.specs.Syntax.Grammar.{file}
use Rattle.express.specs.Syntax.Syntax.{parsed, with_rows, Read}
use Rattle.express.specs.Syntax.Tree.{Table, count}
use Rattle.express.specs.Names.Scope.{bindings}
use Rattle.express.specs.Names.Names.{WellNamed, names}
use Rattle.express.specs.Semantics.Kind.{Typing, typed, ill_typed, typing, constants}
use Rattle.express.specs.Whole.Reply.{Checked, accepted, refused, after_kinds, after_names, after_syntax, after_tokens, checked}
use Rattle.express.proofs.Names.Names.{names_passes}
use Rattle.express.proofs.Syntax.Syntax.{read_good}
use Rattle.parsing.specs.Parsing.{rows_of}
use Rattle.constants.specs.Constants.{file_answers}
use Rattle.stages.specs.Line.{Stage, refusal, then_stage, of_reading, of_syntax, of_constants, of_names, of_kinds, of_room}
use Rattle.stages.proofs.Bounds.{clash, tokens_few, rows_few}
use Rattle.stages.proofs.Counting.{row_short}
use Rattle.stages.specs.Line.{table_of, token_stage, node_stage, constant_stage, name_stage, kind_stage, room_needed, room_stage, outcome_by}

-- ---- the outcome, from the stages, the last of them first

-- a stage's end, once it is known which file it is of
abbrev outcome_of : List ℕ → Table → Stage → Checked
outcome_of s t (Ok n) = accepted (record { tokens = (lexed s).rows; table = t; bindings = bindings t; answers = file_answers t })
outcome_of s t (Err f) = refused f.reply f.number

module _ (s : List ℕ) (t : Table) (room : ℕ) where
  -- the last two stages
  abbrev to_room : Stage → Stage
  to_room x = then_stage x (of_room (room_needed t) room)

  abbrev to_kinds : Stage → Stage
  to_kinds x = to_room (then_stage x (of_kinds t (typing t (bindings t))))

  by_room : (b : Bool) (n : ℕ) → cond b (outcome_of s t (Ok n)) (refused 20 room) ≡ outcome_of s t (cond b (Ok n) (refusal 20 room))
  by_room true n = refl
  by_room false n = refl

  by_kinds : (y : Typing) (n : ℕ) → after_kinds (lexed s).rows t room y ≡ outcome_of s t (to_room (of_kinds t y n))
  by_kinds (typed ks) n = by_room (leb (room_needed t) room) n
  by_kinds (ill_typed f m) n = refl

  by_names : (b : Bool) (n : ℕ) → cond b (after_kinds (lexed s).rows t room (typing t (bindings t))) (refused (names t).number (names t).place) ≡
      outcome_of s t (to_kinds (cond b (Ok n) (refusal (names t).number (names t).place)))
  by_names true n = by_kinds (typing t (bindings t)) n
  by_names false n = refl

  by_constants : (b : Bool) → cond b (after_names (lexed s).rows t room (names t)) (refused 8 (length (constants t))) ≡
      outcome_of s t (to_kinds (then_stage (cond b (Ok (length (constants t))) (refusal 8 (length (constants t)))) (of_names (names t))))
  by_constants true = by_names (eqb (names t).number 0) (length (constants t))
  by_constants false = refl

  by_rows : (entries ar : ℕ) (b : Bool) →
      cond b (cond (leb (length (constants t)) ar) (after_names (lexed s).rows t room (names t)) (refused 8 (length (constants t)))) (refused 7 entries) ≡
      outcome_of s t (to_kinds (then_stage (then_stage (cond b (Ok entries) (refusal 7 entries)) (λ _. of_constants t.kinds ar)) (of_names (names t))))
  by_rows entries ar true = by_constants (leb (length (constants t)) ar)
  by_rows entries ar false = refl

module _ (s : List ℕ) (nr ar room : ℕ) where
  abbrev table_by : Outcome Rows → Table
  table_by o = with_rows (token_table s) (rows_of o)

  -- the stages after the tokens
  abbrev rest : Outcome Rows → Stage → Stage
  rest o x = to_kinds s (table_by o) room (then_stage (then_stage x (λ _. of_constants (table_by o).kinds ar)) (of_names (names (table_by o))))

  by_syntax : (o : Outcome Rows) → after_syntax s (lexed s) nr ar room o ≡ outcome_of s (table_by o) (rest o (of_syntax (lexis.starts (lexed s)) (length s) nr o))
  by_syntax (good r) =
      let t = table_by (good r) in
      by_rows s t room (count t) ar (leb (count t) nr)
      ∙ ap (λ (e : ℕ). outcome_of s t (rest (good r) (cond (leb e nr) (Ok e) (refusal 7 e)))) (length-map r.rows (λ (x : Row). x.kind))
  by_syntax (unexpected j) = refl
  by_syntax (too_deep k) = refl

  by_tokens : (x : Reading) → after_tokens s (lexed s) nr ar room x ≡
      outcome_of s (table_of s) (rest (parsed file (token_table s).terminals)
      (then_stage (of_reading x) (λ _. of_syntax (lexis.starts (lexed s)) (length s) nr (parsed file (token_table s).terminals))))
  by_tokens (lexis.at n) = by_syntax (parsed file (token_table s).terminals)
  by_tokens (lexis.refused k p) = refl

-- THE WHOLE CHECK is what the last stage says
same_outcome : (s : List ℕ) (x : Stage) → outcome_of s (table_of s) x ≡ outcome_by s x
same_outcome s (Ok n) = refl
same_outcome s (Err f) = refl

pub straight : (s : List ℕ) (tr nr ar room : ℕ) → checked s tr nr ar room ≡ outcome_by s (room_stage s tr nr ar room)
unfolding checked
straight s tr nr ar room = by_tokens s nr ar room (tokens (lexed s) tr) ∙ same_outcome s (room_stage s tr nr ar room)

-- ---- a stage that is done

then_done : (x : Stage) (f : ℕ → Stage) (n : ℕ) → then_stage x f ≡ Ok n → (m : ℕ) × (x ≡ Ok m) × (f m ≡ Ok n)
then_done (Ok m) f n e = (m, refl, e)
then_done (Err r) f n e = clash (cc)

fits_done : (a b n : ℕ) (k : ℕ) → cond (leb a b) (Ok a) (refusal k a) ≡ Ok n → (n ≡ a) × (a ≤ b)
fits_done a b n k e = by (leb a b) refl e
  where
    by : (x : Bool) → leb a b ≡ x → cond x (Ok a) (refusal k a) ≡ Ok n → (n ≡ a) × (a ≤ b)
    by true q u = (cc, leb-true a b q)
    by false q u = clash (cc)

module _ (s : List ℕ) (tr : ℕ) where
  -- the tokens are read to the end of the bytes, and fit
  pub record TokensDone (n : ℕ) : Type 0 where
    pub is : n ≡ length (lexed s).rows
    pub room : length (lexed s).rows ≤ tr

  pub token_done : (n : ℕ) → token_stage s tr ≡ Ok n → TokensDone n
  unfolding tokens
  token_done n e = by (lexed s).stop e
    where
      by : (x : Reading) → of_reading (counted x (length (lexed s).rows) tr) ≡ Ok n → TokensDone n
      by (lexis.at q) u = fit (leb (length (lexed s).rows) tr) refl u
        where
          fit : (b : Bool) → leb (length (lexed s).rows) tr ≡ b → of_reading (cond b (lexis.at (length (lexed s).rows)) (lexis.refused 6 (length (lexed s).rows))) ≡ Ok n → TokensDone n
          fit true v w = record { is = cc; room = leb-true _ _ v }
          fit false v w = clash (cc)
      by (lexis.refused k p) u = clash (cc)

  module _ (nr : ℕ) where
    -- the tokens derive from the grammar, and the nodes fit
    pub record NodesDone (n : ℕ) : Type 0 where
      pub tokens_done : token_stage s tr ≡ Ok (length (lexed s).rows)
      pub token_room : length (lexed s).rows ≤ tr
      pub rows : Rows
      pub parsed_as : parsed file (token_table s).terminals ≡ good rows
      pub read : Read file (table_of s)
      pub is : n ≡ count (table_of s)
      pub room : count (table_of s) ≤ nr

    pub node_done : (n : ℕ) → node_stage s tr nr ≡ Ok n → NodesDone n
    node_done n e =
        let d = then_done (token_stage s tr) _ n e in
        let T = token_done d.0 d.1 in
        by T d.1 (parsed file (token_table s).terminals) refl d.2
      where
        by : {m : ℕ} → TokensDone m → token_stage s tr ≡ Ok m → (o : Outcome Rows) → parsed file (token_table s).terminals ≡ o →
            of_syntax (lexis.starts (lexed s)) (length s) nr o ≡ Ok n → NodesDone n
        by {m} T q (good r) p u =
            let f = fits_done (length r.rows) nr n 7 u in
            let c : count (with_rows (token_table s) r.rows) ≡ length r.rows = length-map r.rows (λ (x : Row). x.kind) in
            record {
              tokens_done = q ∙ ap (λ (m : ℕ). Ok m) T.is;
              token_room = T.room;
              rows = r;
              parsed_as = p;
              read = rw p (read_good file (token_table s) r p);
              is = rw p (f.0 ∙ sym c);
              room = rw p (omega (arith, c, f.1));
            }
        by T q (unexpected j) p u = clash (cc)
        by T q (too_deep k) p u = clash (cc)

    module _ (ar : ℕ) where
      -- and there is a row for each constant
      pub record ConstantsDone (n : ℕ) : Type 0 where
        pub nodes_done : node_stage s tr nr ≡ Ok (count (table_of s))
        pub of_nodes : NodesDone (count (table_of s))
        pub is : n ≡ length (constants (table_of s))
        pub room : length (constants (table_of s)) ≤ ar

      pub constant_done : (n : ℕ) → constant_stage s tr nr ar ≡ Ok n → ConstantsDone n
      constant_done n e =
          let d = then_done (node_stage s tr nr) _ n e in
          let N = node_done d.0 d.1 in
          let f = fits_done (length (constants (table_of s))) ar n 8 d.2 in
          record { nodes_done = d.1 ∙ ap (λ (m : ℕ). Ok m) N.is; of_nodes = subst NodesDone N.is N; is = f.0; room = f.1 }

      -- and no name is at fault
      pub record NamesDone (n : ℕ) : Type 0 where
        pub constants_done : constant_stage s tr nr ar ≡ Ok n
        pub named : WellNamed (table_of s)

      pub name_done : (n : ℕ) → name_stage s tr nr ar ≡ Ok n → NamesDone n
      name_done n e =
          let d = then_done (constant_stage s tr nr ar) _ n e in by d.0 d.1 (eqb (names (table_of s)).number 0) refl d.2
        where
          by : (m : ℕ) → constant_stage s tr nr ar ≡ Ok m → (b : Bool) → eqb (names (table_of s)).number 0 ≡ b →
              cond b (Ok m) (refusal (names (table_of s)).number (names (table_of s)).place) ≡ Ok n → NamesDone n
          by m q true u v = record { constants_done = q ∙ v; named = (names_passes (table_of s)).0 (eqb-true (names (table_of s)).number 0 u) }
          by m q false u v = clash (cc)

      -- and every kind fits
      pub kind_done : (n : ℕ) → kind_stage s tr nr ar ≡ Ok n → name_stage s tr nr ar ≡ Ok n
      kind_done n e =
          let d = then_done (name_stage s tr nr ar) _ n e in by d.0 d.1 (typing (table_of s) (bindings (table_of s))) d.2
        where
          by : (m : ℕ) → name_stage s tr nr ar ≡ Ok m → (y : Typing) → of_kinds (table_of s) y m ≡ Ok n → name_stage s tr nr ar ≡ Ok n
          by m q (typed ks) v = q ∙ v
          by m q (ill_typed f k) v = clash (cc)

      -- and there is room for the strings
      pub room_done : (room n : ℕ) → room_stage s tr nr ar room ≡ Ok n → kind_stage s tr nr ar ≡ Ok n
      room_done room n e =
          let d = then_done (kind_stage s tr nr ar) _ n e in by d.0 d.1 (leb (room_needed (table_of s)) room) d.2
        where
          by : (m : ℕ) → kind_stage s tr nr ar ≡ Ok m → (b : Bool) → cond b (Ok m) (refusal 20 room) ≡ Ok n → kind_stage s tr nr ar ≡ Ok n
          by m q true v = q ∙ v
          by m q false v = clash (cc)

-- the token columns of the table are those of the bytes
pub table_scanned : (s : List ℕ) → Scanned (table_of s)
table_scanned s = record { starts_are = refl; lengths_are = refl; terminals_are = refl; symbols_are = refl }

-- G36, T1: the counts of a file that is read fit into 32 bits
module _ {s : List ℕ} {tr nr : ℕ} where
  pub nodes_few : {n : ℕ} → NodesDone s tr nr n → count (table_of s) ≤ most
  nodes_few N =
      let c : count (table_of s) ≡ length N.rows.rows = rw N.parsed_as (length-map N.rows.rows (λ (x : Row). x.kind)) in
      omega (arith, c, rows_few file (token_table s).terminals N.rows N.parsed_as, length-map (lexed s).rows (λ (r : TokenRow). terminal_of r.kind (row_bytes s r)), tokens_few s)

pub constants_few : (t : Table) → length (constants t) ≤ count t
constants_few t = row_short t.kinds
