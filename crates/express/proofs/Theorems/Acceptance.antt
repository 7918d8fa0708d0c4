-- DEMAND 2: `accepted_iff`. A file is accepted, with tables of some lengths, exactly when it is acceptable; what it is accepted with is then the
-- only thing that it can be. DEMAND 3 stands in it: every answer is the one that the rules give.
use mathlib.Core.Path.{◌≡◌, refl, sym, ap, subst, ◌∙◌}
use mathlib.Core.Logic.{◌↔◌}
use mathlib.Core.Bool.{Bool, true, false, cond}
use mathlib.Core.List.{List, [], ◌∷◌, map, Memᴰ}
use Prim.Native.Nat.{ℕ, zero, suc, ◌≤◌, ◌<◌}
use native.Mathlib.Omega.{arith}
use borrow.Author.Tests.{eqb-true, leb-true, le-leb}
use lib.Dec.{eqb, leb}
use lib.ListN.{length, get_or, length-map}
use lib.Seq.{ext_get_or}
use Rattle.ebnf.specs.Grammar.{Text}
use Rattle.ebnf.specs.Rows as ebnf
use Rattle.ebnf.specs.Depth.{Outcome, good, unexpected, too_deep}
use Rattle.express.specs.Semantics.Answer.{Answer, indeterminate}
use Rattle.express.specs.Syntax.NodeKind as node
use Rattle.express.specs.Tokens.Lexis.{TokenRow, Reading, at, tokens, counted, lexed}
use Rattle.express.specs.Tokens.Lexis as lexis
use Rattle.express.specs.Tokens.Scanned.{Scanned, token_table}
use Rattle.express.specs.Syntax.Grammar.{file, rules}
use Rattle.express.specs.Syntax.Syntax.{whole, parsed, with_rows, Read}
use Rattle.express.specs.Syntax.Tree.{Table, count, kind, nodes, is}
use Rattle.express.specs.Names.Scope.{bindings}
use Rattle.express.specs.Names.Names.{WellNamed, names}
use Rattle.express.specs.Semantics.Operate.{Kind}
use Rattle.express.specs.Semantics.Kind.{Typing, typed, typing, constants, WellTyped}
use Rattle.express.specs.Semantics.Kind as kinds
use Rattle.express.specs.Semantics.Order.{constant_order}
use Rattle.express.specs.Semantics.Evaluate.{answers, answer_at}
use Rattle.express.specs.Semantics.Rule.{Exactly}
use Rattle.express.specs.Semantics.AnswerRow.{room_of}
use Rattle.express.specs.Whole.Reply.{Accepted, accepted, refused, after_kinds, after_names, after_rows, after_syntax, after_tokens, checked}
use Rattle.express.specs.Whole.Acceptance.{Acceptable}
use Rattle.relations.proofs.Select.{keep_mem, upto_mem}
use Rattle.express.proofs.Syntax.Syntax.{parsed_iff, read_good, whole_value}
use Rattle.express.proofs.Names.Names.{names_passes}
use Rattle.express.proofs.Semantics.Typed.{typing_accepts}
use Rattle.express.proofs.Syntax.FormedRows.{formed_rows}
use Rattle.express.proofs.Theorems.File.{file_exact, file_order}

-- ---- lists

getD_mem : (xs : List ℕ) (i : ℕ) → i < length xs → Memᴰ (get_or xs i 0) xs
getD_mem [] i l = absurd (omega arith)
getD_mem (x ∷ xs) zero l = Memᴰ.head refl
getD_mem (x ∷ xs) (suc i) l = Memᴰ.tail (getD_mem xs i (omega arith))

map_at : (f : ℕ → Answer) (xs : List ℕ) (i : ℕ) → i < length xs → get_or (map f xs) i indeterminate ≡ f (get_or xs i 0)
map_at f [] i l = absurd (omega arith)
map_at f (x ∷ xs) zero l = refl
map_at f (x ∷ xs) (suc i) l = map_at f xs i (omega arith)

-- the i-th constant is a node of that kind
constant_at : (t : Table) (i : ℕ) → i < length (constants t) → (get_or (constants t) i 0 < count t) × (kind t (get_or (constants t) i 0) ≡ node.constant)
constant_at t i l =
    let m = keep_mem (is t node.constant) (nodes t) (getD_mem (constants t) i l) in
    (upto_mem (count t) _ m.0, eqb-true (kind t (get_or (constants t) i 0)) node.constant m.1)

-- ---- what a table whose names are bound and whose typing is done is accepted with

abbrev made : List TokenRow → Table → List Answer → Accepted
made ls t xs = record { tokens = ls; table = t; bindings = bindings t; answers = xs }

abbrev computed : Table → List Answer
computed t = map (answer_at (answers t (bindings t) (constant_order t))) (constants t)

abbrev of_parts : List TokenRow → Table → List ℕ → List Answer → Accepted
of_parts ls t b xs = record { tokens = ls; table = t; bindings = b; answers = xs }

alike : (u v : Accepted) → u.tokens ≡ v.tokens → u.table ≡ v.table → u.bindings ≡ v.bindings → u.answers ≡ v.answers → u ≡ v
alike u v p q r s =
    ap (λ (x : List TokenRow). of_parts x u.table u.bindings u.answers) p
    ∙ ap (λ (x : Table). of_parts v.tokens x u.bindings u.answers) q
    ∙ ap (λ (x : List ℕ). of_parts v.tokens v.table x u.answers) r
    ∙ ap (λ (x : List Answer). of_parts v.tokens v.table v.bindings x) s

module _ (t : Table) (scanned : Scanned t) (read : Read file t) (named : WellNamed t) (typed_as : WellTyped t (bindings t)) where
  -- the answers of the evaluation are those of the rules
  computed_exact : (i : ℕ) → i < length (constants t) → Exactly t (bindings t) (get_or (constants t) i 0) (get_or (computed t) i indeterminate)
  computed_exact i l =
      let h = (typing_accepts t (bindings t) (formed_rows read)).1 typed_as in
      let c = constant_at t i l in
      rw (map_at (answer_at (answers t (bindings t) (constant_order t))) (constants t) i l)
      (file_exact t scanned read named h.0 h.1 (constant_order t) (file_order t scanned read named h.0 h.1) _ c.0 c.1)

  -- and no others are
  computed_only :
      (xs : List Answer) → length xs ≡ length (constants t) →
      ((i : ℕ) → i < length (constants t) → Exactly t (bindings t) (get_or (constants t) i 0) (get_or xs i indeterminate)) → computed t ≡ xs
  computed_only xs e h =
      ext_get_or indeterminate (computed t) xs (length-map (constants t) _ ∙ sym e)
      (λ i l. let m : i < length (constants t) = omega (arith, length-map (constants t) (answer_at (answers t (bindings t) (constant_order t)))) in
      ((h i m).only _).0 (((computed_exact i m).only _).1 refl))

-- ---- from acceptance: each stage has passed

clash : {A : Type 0} → ◌≡◌ {A = ℕ} 0 1 → A
clash z = absurd (omega arith)

record Passed (ls : List TokenRow) (t : Table) (nr ar room : ℕ) (a : Accepted) : Type 0 where
  node_room : count t ≤ nr
  answer_room : length (constants t) ≤ ar
  named : WellNamed t
  types : (ks : List Kind) × (typing t (bindings t) ≡ typed ks)
  made_of : made ls t (computed t) ≡ a
  string_room : length (room_of (computed t)) ≤ room

module _ (ls : List TokenRow) (t : Table) (nr ar room : ℕ) (a : Accepted) where
  -- what is left when the typing has accepted: the answers, and room for their strings
  record Typed : Type 0 where
    types : (ks : List Kind) × (typing t (bindings t) ≡ typed ks)
    made_of : made ls t (computed t) ≡ a
    string_room : length (room_of (computed t)) ≤ room

  passed_room :
      (ks : List Kind) → typing t (bindings t) ≡ typed ks → (b : Bool) → leb (length (room_of (computed t))) room ≡ b →
      cond b (accepted (made ls t (computed t))) (refused 20 room) ≡ accepted a → Typed
  passed_room ks e true l h = record { types = (ks, e); made_of = cc; string_room = leb-true _ _ l }
  passed_room ks e false l h = clash (cc)

  passed_kinds : (x : Typing) → typing t (bindings t) ≡ x → after_kinds ls t room x ≡ accepted a → Typed
  passed_kinds (typed ks) e h = passed_room ks e (leb (length (room_of (computed t))) room) refl h
  passed_kinds (kinds.ill_typed f n) e h = clash (cc)

  passed_rows : after_rows ls t room nr ar ≡ accepted a → Passed ls t nr ar room a
  passed_rows h = nodes_fit (leb (count t) nr) refl h
    where
      named_well :
          (b : Bool) → eqb (names t).number 0 ≡ b →
          cond b (after_kinds ls t room (typing t (bindings t))) (refused (names t).number (names t).place) ≡ accepted a → WellNamed t × Typed
      named_well true e q = ((names_passes t).0 (eqb-true (names t).number 0 e), passed_kinds (typing t (bindings t)) refl q)
      named_well false e q = clash (cc)

      answers_fit : count t ≤ nr → (b : Bool) → leb (length (constants t)) ar ≡ b →
          cond b (after_names ls t room (names t)) (refused 8 (length (constants t))) ≡ accepted a → Passed ls t nr ar room a
      answers_fit l true e q =
          let r = named_well (eqb (names t).number 0) refl q in
          record {
            node_room = l;
            answer_room = leb-true _ _ e;
            named = r.0;
            types = r.1.types;
            made_of = r.1.made_of;
            string_room = r.1.string_room;
          }
      answers_fit l false e q = clash (cc)

      nodes_fit : (b : Bool) → leb (count t) nr ≡ b →
          cond b (cond (leb (length (constants t)) ar) (after_names ls t room (names t)) (refused 8 (length (constants t)))) (refused 7 (count t)) ≡ accepted a →
          Passed ls t nr ar room a
      nodes_fit true e q = answers_fit (leb-true _ _ e) (leb (length (constants t)) ar) refl q
      nodes_fit false e q = clash (cc)

module _ (s : List ℕ) (tr nr ar room : ℕ) (a : Accepted) where
  read_of : (r : ebnf.Rows) → parsed file (token_table s).terminals ≡ good r → Read file (with_rows (token_table s) r.rows)
  read_of r e = read_good file (token_table s) r e

  scanned_of : (rs : List ebnf.Row) → Scanned (with_rows (token_table s) rs)
  scanned_of rs = record { starts_are = refl; lengths_are = refl; terminals_are = refl; symbols_are = refl }

  passed_syntax :
      (n : ℕ) → (lexed s).stop ≡ at n → length (lexed s).rows ≤ tr → (o : Outcome ebnf.Rows) → parsed file (token_table s).terminals ≡ o →
      after_syntax s (lexed s) nr ar room o ≡ accepted a → Acceptable s tr nr ar room a
  passed_syntax n e l (good r) p h =
      let t = with_rows (token_table s) r.rows in
      let q = passed_rows (lexed s).rows t nr ar room a h in
      let d = (parsed_iff file (token_table s).terminals (good r)).0 p in
      let w = (typing_accepts t (bindings t) (formed_rows (read_of r p))).0 q.types in
      subst (Acceptable s tr nr ar room) q.made_of
      (record {
        end = n;
        scanned = e;
        tokens_are = refl;
        token_room = l;
        rows = r.rows;
        parses = subst (λ (x : ebnf.Rows). Text ebnf.in_rows rules file (token_table s).terminals x) (whole_value file _ r d.0) d.0;
        shallow = d.1;
        table_is = refl;
        node_room = q.node_room;
        answer_room = q.answer_room;
        well_named = q.named;
        bound = refl;
        well_typed = w;
        as_many = length-map (constants t) _;
        exact = computed_exact t (scanned_of r.rows) (read_of r p) q.named w;
        string_room = q.string_room;
      })
  passed_syntax n e l (unexpected j) p h = clash (cc)
  passed_syntax n e l (too_deep k) p h = clash (cc)

  passed_tokens :
      (x : Reading) → (lexed s).stop ≡ x → (b : Bool) → leb (length (lexed s).rows) tr ≡ b → after_tokens s (lexed s) nr ar room (counted x (length (lexed s).rows) tr) ≡ accepted a →
      Acceptable s tr nr ar room a
  passed_tokens (at n) e true l h = passed_syntax n e (leb-true _ _ l) (parsed file (token_table s).terminals) refl (rw l at h)
  passed_tokens (at n) e false l h = clash (let q = rw l at h in cc)
  passed_tokens (lexis.refused k p) e b l h = clash (cc)

  passed : checked s tr nr ar room ≡ accepted a → Acceptable s tr nr ar room a
  unfolding checked tokens
  passed h = passed_tokens (lexed s).stop refl (leb (length (lexed s).rows) tr) refl h

  -- ---- to acceptance

  reached : Acceptable s tr nr ar room a → checked s tr nr ar room ≡ accepted a
  unfolding checked tokens
  reached p =
      let t = with_rows (token_table s) p.rows in
      let e = p.table_is in
      let q : parsed file (token_table s).terminals ≡ good (whole p.rows) = (parsed_iff file _ (good (whole p.rows))).1 (p.parses, p.shallow) in
      let read = read_of (whole p.rows) q in
      let bound : a.bindings ≡ bindings t = p.bound ∙ ap bindings e in
      let named : WellNamed t = subst WellNamed e p.well_named in
      let types : WellTyped t (bindings t) = rw (bound, e) at p.well_typed in
      let h = (typing_accepts t (bindings t) (formed_rows read)).1 types in
      let many : length a.answers ≡ length (constants t) = rw e at p.as_many in
      let exact : (i : ℕ) → i < length (constants t) → Exactly t (bindings t) (get_or (constants t) i 0) (get_or a.answers i indeterminate) = rw (bound, e) at p.exact in
      let xs : computed t ≡ a.answers = computed_only t (scanned_of p.rows) read named types a.answers many exact in
      let nodes : count t ≤ nr = rw e at p.node_room in
      let rows : length (constants t) ≤ ar = rw e at p.answer_room in
      let strings : length (room_of (computed t)) ≤ room = rw xs p.string_room in
      rw (p.scanned, le-leb _ _ p.token_room, q, le-leb _ _ nodes, le-leb _ _ rows, (names_passes t).1 named, h.1, le-leb _ _ strings)
      (ap accepted (alike (made (lexed s).rows t (computed t)) a (sym p.tokens_are) (sym e) (sym bound) xs))

pub accepted_iff : (s : List ℕ) (tr nr ar room : ℕ) (a : Accepted) → (checked s tr nr ar room ≡ accepted a) ↔ Acceptable s tr nr ar room a
accepted_iff s tr nr ar room a = (passed s tr nr ar room a, reached s tr nr ar room a)
