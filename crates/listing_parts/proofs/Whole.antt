-- THE LISTING OF A CHECK: from the report and the tables that the public call leaves, the first line and the lines to come are the listing of the outcome.
use mathlib.Core.Path.{◌≡◌, refl, sym, ap, ◌∙◌}
use mathlib.Core.List.{List, [], ◌∷◌, ◌++◌, append-nil, flat_map, Memᴰ}
use Prim.Native.Nat.{ℕ, zero, suc, ◌+◌, ◌≤◌, ◌<◌}
use native.Mathlib.Numerals.{add-one}
use native.Mathlib.Omega.{arith}
use borrow.Author.Tests.{ne_eqb}
use lib.IntN.{pos}
use lib.ListN.{length, get_or, take}
use Rattle.columns.specs.Column.{padded}
use Rattle.relations.specs.Select.{span}
use Rattle.relations.proofs.Select.{keep_mem, upto_mem}
use Rattle.express.specs.Syntax.NodeKind.{constant}
use Rattle.express.specs.Syntax.Tree.{Table, count, is}
use Rattle.express.specs.Semantics.Kind.{constants}
use Rattle.express.specs.Whole.Reply.{Accepted, Checked, accepted, refused, Report, report, Tables, token_entries, node_entries, answer_entries}
use Rattle.express.specs.Whole.Reply.{outcome, tables_after, answer_kinds, answer_numbers, answer_lengths, answer_room}
use Rattle.express.specs.Whole.Listing.{accepted_line, refused_line, listing, program}
use Rattle.express.proofs.Whole.Numbers.{numbered}
use Rattle.express.proofs.Theorems.Acceptance.{accepted_iff}
use Rattle.records.specs.declared.Answer.{Answer}
use Rattle.records.specs.Rows.{rows}
use Rattle.lines.specs.Print.{table_of}
use Rattle.lines.proofs.Whole.{lent, Walking, walking_starts, walking_goes_on, constants_lent, printed_line, accepted_listing, refused_listing}
use Rattle.demands.specs.Checks.{Checks}
use Rattle.listing_parts.specs.Parts.{head_line, next, after, lines_from}

-- ---- the constants come one after the other

getD_mem : (xs : List ℕ) (i : ℕ) → i < length xs → Memᴰ (get_or xs i 0) xs
getD_mem [] i l = absurd (omega arith)
getD_mem (x ∷ xs) zero l = Memᴰ.head refl
getD_mem (x ∷ xs) (suc i) l = Memᴰ.tail (getD_mem xs i (omega arith))

below : (t : Table) (i : ℕ) → i < length (constants t) → get_or (constants t) i 0 < count t
below t i l = upto_mem (count t) _ (keep_mem (is t constant) (span 0 (count t)) (getD_mem (constants t) i l)).0

module _ (a : Accepted) (n₁ n₂ n₃ n₄ m₁ m₂ m₃ m₄ : ℕ) where
  abbrev table : Table
  table = lent a.table n₁ n₂ n₃ n₄

  abbrev room : List ℕ
  room = padded 0 m₄ (answer_room a)

  abbrev records : List Answer
  records =
      take (length a.answers) (rows (padded 0 m₁ (answer_kinds a)) (padded (pos 0) m₂ (answer_numbers a)) (padded 0 m₃ (answer_lengths a)))

  next_is : (i from : ℕ) → Walking a.table n₁ n₂ n₃ n₄ i from → i < length (constants a.table)
      → (next table from ≡ get_or (constants a.table) i 0) × (after table from ≡ get_or (constants a.table) i 0 + 1)
  next_is i from here h =
      let e = (walking_goes_on a.table n₁ n₂ n₃ n₄ i from here h).0 in
      let low : get_or (constants a.table) i 0 < count table =
      rw (← constants_lent a.table n₁ n₂ n₃ n₄) (below table i (rw (constants_lent a.table n₁ n₂ n₃ n₄) h)) in
      (e, rw e (omega arith))

  walks : (d i from : ℕ) → Walking a.table n₁ n₂ n₃ n₄ i from → i + d ≤ length (constants a.table)
      → lines_from table room records i from d ≡ flat_map (printed_line a n₁ n₂ n₃ n₄ m₁ m₂ m₃ m₄) (span i d)
  unfolding lines_from span flat_map
  walks zero i from here h = refl
  walks (suc d) i from here h =
      let n = next_is i from here (omega arith) in
      let later = walks d (i + 1) (get_or (constants a.table) i 0 + 1) (walking_goes_on a.table n₁ n₂ n₃ n₄ i from here (omega arith)).1 (omega arith) in
      rw (n.1, n.0, later, add-one i)

-- ---- the listing

module _ (s : List ℕ) (l : Tables) where
  -- the first line and the lines of all constants, by what the columns hold
  abbrev pub all_lines : Tables → Report → List ℕ
  all_lines m r =
      head_line r.reply r.number r.constants
      ++ lines_from (table_of s m.token_starts m.token_lengths m.node_kinds m.node_tokens) m.room
      (take r.constants (rows m.answer_kinds m.answer_numbers m.answer_lengths)) 0 0 r.constants

  unlisted : (k p : ℕ) → (k ≡ 0 → ⊥) → all_lines (tables_after (refused k p) l) (report (refused k p)) ≡ refused_line k p
  unfolding lines_from
  unlisted k p n = rw (ne_eqb k 0 n) (append-nil (refused_line k p))

  lists : (c : Checked) → outcome s l ≡ c → all_lines (tables_after c l) (report c) ≡ listing (outcome s l)
  lists (accepted a) e =
      let ok = (accepted_iff s _ _ _ _ a).0 e in
      let text : a.table.bytes ≡ s = ap (λ (t : Table). t.bytes) ok.table_is in
      let n₁ = length l.token_starts in
      let n₂ = length l.token_lengths in
      let n₃ = length l.node_kinds in
      let n₄ = length l.node_tokens in
      let m₁ = length l.answer_kinds in
      let m₂ = length l.answer_numbers in
      let m₃ = length l.answer_lengths in
      let m₄ = length l.room in
      let n = length a.answers in
      ap (λ (x : List ℕ).
      accepted_line n
      ++ lines_from (table_of x (padded 0 n₁ a.table.starts) (padded 0 n₂ a.table.lengths) (padded 0 n₃ a.table.kinds) (padded 0 n₄ a.table.tokens))
      (room a n₁ n₂ n₃ n₄ m₁ m₂ m₃ m₄) (records a n₁ n₂ n₃ n₄ m₁ m₂ m₃ m₄) 0 0 n) (sym text)
      ∙ ap (λ (x : List ℕ). accepted_line n ++ x)
      (walks a n₁ n₂ n₃ n₄ m₁ m₂ m₃ m₄ n 0 0 (walking_starts a.table n₁ n₂ n₃ n₄) (omega (arith, ok.as_many)))
      ∙ accepted_listing s _ _ _ _ a n₁ n₂ n₃ n₄ m₁ m₂ m₃ m₄ e
  lists (refused k p) e =
      unlisted k p (λ z. absurd (omega (arith, (numbered s _ _ _ _ k p e).0))) ∙ refused_listing s _ _ _ _ k p e

  -- WHAT IS PRINTED OF A CHECK is the listing of its outcome
  pub listed : {m : Tables} {r : Report} → Checks s l m r → all_lines m r ≡ listing (outcome s l)
  listed c = rw (c.reports, c.holds) (lists (outcome s l) refl)

  -- R12: of tables and a room as long as the program's, it is the program's listing
  pub listed_program : {m : Tables} {r : Report} → token_entries l.token_kinds l.token_starts l.token_lengths ≡ 8192
      → node_entries l.node_kinds l.node_tokens l.node_sizes l.node_bindings ≡ 8192
      → answer_entries l.answer_kinds l.answer_numbers l.answer_lengths ≡ 1024 → length l.room ≡ 261120 → Checks s l m r → all_lines m r ≡ program s
  listed_program tokens nodes answers room c = listed c ∙ rw (tokens, nodes, answers, room)
