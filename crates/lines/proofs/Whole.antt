-- The lines that this crate prints from the lent columns of an accepted file, zeros behind their values and all, are the listing of the outcome
-- (`accepted_listing`, `refused_listing`); a loop that goes from one constant to the next meets them all, in the order of the text (`walking_goes_on`).
use mathlib.Core.Path.{◌≡◌, refl, sym, ap, ◌∙◌}
use mathlib.Core.List.{List, [], ◌++◌, map, flat_map}
use mathlib.Core.Logic.{⊎_elim}
use Prim.Native.Nat.{ℕ, zero, suc, ◌+◌, ◌-◌, ◌≤◌, ◌<◌}
use native.Mathlib.Omega.{arith}
use lib.Dec.{eqb}
use lib.IntN.{pos}
use lib.ListN.{length, get_or, take, drop, replicate, length-append, length-map, get_or-eq_default, get_or-map}
use Rattle.columns.specs.Column.{padded}
use Rattle.columns.proofs.Laws.{getD_padded}
use Rattle.ebnf.specs.Rows.{Row}
use Rattle.relations.specs.Select.{span, first_from, keep}
use Rattle.express.specs.Tokens.Spelling.{spelling}
use Rattle.express.specs.Syntax.NodeKind.{constant, schema}
use Rattle.express.specs.Syntax.Tree.{Table, count, token, is, schema_of}
use Rattle.express.specs.Semantics.Answer as express
use Rattle.express.specs.Semantics.Answer.{indeterminate, integer, logical, binary, item, string, end}
use Rattle.express.specs.Semantics.Declared.{Declared}
use Rattle.express.specs.Semantics.Kind.{constants}
use Rattle.express.specs.Semantics.Rule.{Holds}
use Rattle.express.specs.Semantics.AnswerRow.{AnswerRow, row_of}
use Rattle.express.specs.Whole.Reply.{Accepted, accepted, refused, checked, answer_rows, answer_kinds, answer_numbers, answer_lengths, answer_room}
use Rattle.express.specs.Whole.Acceptance.{Acceptable}
use Rattle.express.specs.Whole.Listing.{name_of, printed, answer_line, constant_line, accepted_line, refused_line, listing}
use Rattle.express.proofs.Whole.AnswerRow.{rows_counted, row_back}
use Rattle.express.proofs.Theorems.Acceptance.{accepted_iff}
use Rattle.records.specs.declared.Answer.{Answer}
use Rattle.records.specs.Rows.{zeros, rows}
use Rattle.records.proofs.Laws.{row_within}
use Rattle.lines.specs.Print.{table_of, record_answer}
use Rattle.lines.proofs.Walk.{first_longer, keep_longer, walk_goes_on}

-- ---- a table lent with zeros behind its values

module _ (t : Table) (n₁ n₂ n₃ n₄ : ℕ) where
  abbrev pub lent : Table
  lent =
      table_of t.bytes (padded 0 n₁ t.starts) (padded 0 n₂ t.lengths) (padded 0 n₃ t.kinds) (padded 0 n₄ t.tokens)

  name_lent : (m : ℕ) → name_of lent m ≡ name_of t m
  name_lent m =
      rw (getD_padded 0 n₄ t.tokens m, getD_padded 0 n₁ t.starts (token t m), getD_padded 0 n₂ t.lengths (token t m))

  printed_lent : (x : express.Answer) → printed lent x ≡ printed t x
  printed_lent indeterminate = refl
  printed_lent (integer z) = refl
  printed_lent (logical l) = refl
  printed_lent (binary s) = refl
  printed_lent (item m) = name_lent m
  printed_lent (string s) = refl
  printed_lent (end e) = refl

  is_lent : (k m : ℕ) → is lent k m ≡ is t k m
  is_lent k m = ap (λ (x : ℕ). eqb x k) (getD_padded 0 n₃ t.kinds m)

  count_lent : count t ≤ count lent
  count_lent = omega (arith, length-append t.kinds (replicate (n₃ - count t) 0))

  -- past the nodes there is no schema, and no name
  schema_lent : length t.tokens ≤ count t → (c : ℕ) → name_of t (schema_of lent c) ≡ name_of t (schema_of t c)
  unfolding schema_of
  schema_lent short c = ⊎_elim
      (λ same. ap (name_of t) same)
      (λ past.
      ap (spelling t.bytes t.starts t.lengths)
      (get_or-eq_default t.tokens 0 (omega (arith, past.0)) ∙ sym (get_or-eq_default t.tokens 0 (omega (arith, past.1)))))
      (first_longer (is t schema) (is lent schema) (is_lent schema) c (count t) (count lent) count_lent)

  line_lent : length t.tokens ≤ count t → (c : ℕ) (x : express.Answer) → answer_line lent c x ≡ answer_line t c x
  line_lent short c x =
      rw (name_lent (schema_of lent c), schema_lent short c, name_lent c, printed_lent x)

  -- the constants are the same
  pub constants_lent : constants lent ≡ constants t
  constants_lent =
      keep_longer (is t constant) (is lent constant) (is_lent constant) (count t) (count lent) count_lent
      (λ k past. ap (λ (x : ℕ). eqb x constant) (get_or-eq_default t.kinds 0 past))

  -- ---- a loop over the constants: i of them are passed, and the others come from a node on

  abbrev pub Walking : ℕ → ℕ → Type 0
  Walking i from = drop i (constants t) ≡ keep (is lent constant) (span from (count lent - from))

  pub walking_starts : Walking 0 0
  walking_starts = let all : count lent - 0 ≡ count lent = omega arith in rw all (sym constants_lent)

  -- what `next_constant` gives is the next of them
  pub walking_goes_on : (i from : ℕ) → Walking i from → i < length (constants t)
      → (first_from (is lent constant) from (count lent - from) ≡ get_or (constants t) i 0) × Walking (i + 1) (get_or (constants t) i 0 + 1)
  walking_goes_on i from here h = walk_goes_on (is lent constant) (count lent) (constants t) i from here h

-- ---- an answer, read back from its row of the lent columns and the room

module _ (a : Accepted) (m₁ m₂ m₃ m₄ : ℕ) where
  -- what `records::Rows::at` gives of them
  abbrev pub record_lent : ℕ → Answer
  record_lent i =
      get_or (take (length a.answers) (rows (padded 0 m₁ (answer_kinds a)) (padded (pos 0) m₂ (answer_numbers a)) (padded 0 m₃ (answer_lengths a))))
      i zeros

  -- and the answer that it stands for
  abbrev pub answer_lent : ℕ → express.Answer
  answer_lent i = record_answer (padded 0 m₄ (answer_room a)) (record_lent i)

  abbrev row_lent : ℕ → AnswerRow
  row_lent i = get_or (answer_rows a) i (row_of indeterminate)

  kind_at : (i : ℕ) → get_or (padded 0 m₁ (answer_kinds a)) i 0 ≡ (row_lent i).kind
  kind_at i =
      getD_padded 0 m₁ (answer_kinds a) i ∙ get_or-map (λ (r : AnswerRow). r.kind) (answer_rows a) i (row_of indeterminate)

  number_at : (i : ℕ) → get_or (padded (pos 0) m₂ (answer_numbers a)) i (pos 0) ≡ (row_lent i).number
  number_at i =
      getD_padded (pos 0) m₂ (answer_numbers a) i ∙ get_or-map (λ (r : AnswerRow). r.number) (answer_rows a) i (row_of indeterminate)

  length_at : (i : ℕ) → get_or (padded 0 m₃ (answer_lengths a)) i 0 ≡ (row_lent i).length
  length_at i =
      getD_padded 0 m₃ (answer_lengths a) i ∙ get_or-map (λ (r : AnswerRow). r.length) (answer_rows a) i (row_of indeterminate)

  long : {A : Type 0} (z : A) (f : AnswerRow → A) (m : ℕ) → length a.answers ≤ length (padded z m (map f (answer_rows a)))
  long z f m =
      omega (
        arith,
        length-append (map f (answer_rows a)) (replicate (m - length (map f (answer_rows a))) z),
        length-map (answer_rows a) f,
        rows_counted 0 a.answers,
      )

  answer_is : (i : ℕ) → i < length a.answers → {t : Table} {d : Declared} → Holds t d (get_or a.answers i indeterminate)
      → answer_lent i ≡ get_or a.answers i indeterminate
  answer_is i h holds =
      let room = padded 0 m₄ (answer_room a) in
      let back = row_back a.answers [] (replicate (m₄ - length (answer_room a)) 0) i holds in
      ap (record_answer room) (row_within (padded 0 m₁ (answer_kinds a)) (padded (pos 0) m₂ (answer_numbers a)) (padded 0 m₃ (answer_lengths a))
      (length a.answers) i
      (omega (arith, long 0 (λ (r : AnswerRow). r.kind) m₁, long (pos 0) (λ (r : AnswerRow). r.number) m₂, long 0 (λ (r : AnswerRow). r.length) m₃)))
      ∙ rw (kind_at i, number_at i, length_at i) back

-- ---- the listing

flat_same : (f g : ℕ → List ℕ) (i d : ℕ) → ((k : ℕ) → k < i + d → f k ≡ g k) → flat_map f (span i d) ≡ flat_map g (span i d)
unfolding span flat_map
flat_same f g i zero h = refl
flat_same f g i (suc d) h = rw (h i (omega arith), flat_same f g (suc i) d (λ k l. h k (omega arith)))

module _ (a : Accepted) (n₁ n₂ n₃ n₄ m₁ m₂ m₃ m₄ : ℕ) where
  -- the line printed for the i-th constant, and all that is printed
  abbrev pub printed_line : ℕ → List ℕ
  printed_line i = answer_line (lent a.table n₁ n₂ n₃ n₄) (get_or (constants a.table) i 0) (answer_lent a m₁ m₂ m₃ m₄ i)

  abbrev pub printed_lines : List ℕ
  printed_lines = accepted_line (length a.answers) ++ flat_map printed_line (span 0 (length a.answers))

  module _ {s : List ℕ} {token_rows node_rows answer_rows room_bytes : ℕ} (ok : Acceptable s token_rows node_rows answer_rows room_bytes a) where
    short : length a.table.tokens ≤ count a.table
    short =
        rw ok.table_is
        (omega (arith, length-map ok.rows (λ (r : Row). r.token), length-map ok.rows (λ (r : Row). r.kind)))

    pub line_is : (i : ℕ) → i < length a.answers → printed_line i ≡ constant_line a i
    line_is i h =
        line_lent a.table n₁ n₂ n₃ n₄ short (get_or (constants a.table) i 0) (answer_lent a m₁ m₂ m₃ m₄ i)
        ∙ ap (answer_line a.table (get_or (constants a.table) i 0)) (answer_is a m₁ m₂ m₃ m₄ i h (ok.exact i (omega (arith, ok.as_many))).holds)

    listing_is : printed_lines ≡ listing (accepted a)
    unfolding listing
    listing_is =
        ap (λ (l : List ℕ). accepted_line (length a.answers) ++ l)
        (flat_same printed_line (constant_line a) 0 (length a.answers) (λ k l. line_is k (omega arith)))

-- THE LISTING, of a file, tables of three lengths and a room: what is printed is that of the outcome, accepted or refused
module _ (s : List ℕ) (token_rows node_rows answer_rows room_bytes : ℕ) where
  pub accepted_listing : (a : Accepted) (n₁ n₂ n₃ n₄ m₁ m₂ m₃ m₄ : ℕ) → checked s token_rows node_rows answer_rows room_bytes ≡ accepted a
      → printed_lines a n₁ n₂ n₃ n₄ m₁ m₂ m₃ m₄ ≡ listing (checked s token_rows node_rows answer_rows room_bytes)
  accepted_listing a n₁ n₂ n₃ n₄ m₁ m₂ m₃ m₄ e =
      listing_is a n₁ n₂ n₃ n₄ m₁ m₂ m₃ m₄ ((accepted_iff s token_rows node_rows answer_rows room_bytes a).0 e) ∙ ap listing (sym e)

  pub refused_listing : (k p : ℕ) → checked s token_rows node_rows answer_rows room_bytes ≡ refused k p
      → refused_line k p ≡ listing (checked s token_rows node_rows answer_rows room_bytes)
  unfolding listing
  refused_listing k p e = rw e
