-- THE CALL WITH RECORDS (R11): from the public call on three answer columns, which are as long as the records or as any file needs, and the records
-- filled from them, to the same demands on the records (`record_checks`).
use mathlib.Core.Path.{◌≡◌, refl, sym, ap, ◌∙◌}
use mathlib.Core.List.{List, map}
use Prim.Native.Nat.{ℕ, ◌+◌, ◌-◌, ◌*◌, ◌≤◌, ◌<◌, min}
use native.Mathlib.Omega.{arith}
use lib.IntN.{ℤ, pos}
use lib.ListN.{length, take, replicate, length-map, length-take}
use lib.Seq.{take-nil}
use Rattle.columns.specs.Column.{padded}
use Rattle.express.specs.Tokens.Lexis.{most, lexed}
use Rattle.express.specs.Semantics.AnswerRow.{AnswerRow}
use Rattle.express.specs.Whole.Reply.{Accepted, Checked, accepted, refused, checked, Report, report, column, Tables, token_entries, node_entries, outcome, tables_after}
use Rattle.express.specs.Whole.Reply as express
use Rattle.express.proofs.Tokens.TokenRows.{tokens_of}
use Rattle.express.proofs.Theorems.Acceptance.{accepted_iff}
use Rattle.stages.proofs.Bounds.{tokens_few}
use Rattle.demands.specs.Checks.{tables_of, Checks}
use Rattle.demands.proofs.Theorem.{checks, tables_alike}
use Rattle.express.proofs.Whole.AnswerRow.{rows_counted}
use Rattle.records.specs.declared.Answer.{Answer}
use Rattle.records.specs.Rows.{zeros, filled}
use Rattle.record_demands.specs.Records.{record_tables, ChecksRows, RecordsWithin}
use Rattle.record_demands.proofs.Enough.{enough}
use Rattle.record_demands.proofs.Columns.{record_of, map_zeros, filled_is, column_is, filled_front}

-- ---- records after an outcome

abbrev records_after : Checked → ℕ → List Answer
records_after (accepted a) n = padded zeros n (map record_of (express.answer_rows a))
records_after (refused k p) n = replicate n zeros

-- there is room for the answers
abbrev Room : Checked → ℕ → Type 0
Room (accepted a) n = length a.answers ≤ n
Room (refused k p) n = Unit {0}

filled_after : (c : Checked) (m n : ℕ) → Room c n
    → filled (column 0 express.answer_kinds c m) (column (pos 0) express.answer_numbers c m) (column 0 express.answer_lengths c m) (report c).constants n
    ≡ records_after c n
filled_after (accepted a) m n h =
    let long : length (express.answer_rows a) ≡ length a.answers = rows_counted 0 a.answers in
    rw (← long) (filled_is (express.answer_rows a) m n (omega (arith, long, h)))
filled_after (refused k p) m n h = let all : n - 0 ≡ n = omega arith in rw (take-nil n, all)

column_after : {B : Type 0} (f : Answer → B) (values : Accepted → List B)
    → ((a : Accepted) → values a ≡ map (λ (r : AnswerRow). f (record_of r)) (express.answer_rows a))
    → (c : Checked) (n : ℕ) → map f (records_after c n) ≡ column (f zeros) values c n
column_after f values e (accepted a) n = rw (e a) (column_is f (express.answer_rows a) n)
column_after f values e (refused k p) n = map_zeros f n zeros

module _ (most_constants : ℕ) (s tk ts tl nk nt ns nb ks : List ℕ) (few_tokens : length (lexed s).rows < 6 * most_constants + 6) (zs : List ℤ) (ls rm : List ℕ) (was : List Answer)
    (kinds_long : length ks ≡ min (length was) most_constants) (numbers_long : length zs ≡ min (length was) most_constants)
    (lengths_long : length ls ≡ min (length was) most_constants) where
  abbrev l : Tables
  l = tables_of tk ts tl nk nt ns nb ks zs ls rm

  abbrev L : Tables
  L = record_tables tk ts tl nk nt ns nb was rm

  same : outcome s L ≡ outcome s l
  same =
      let all : min (length (map (λ (r : Answer). r.kind) was)) (min (length (map (λ (r : Answer). r.number) was)) (length (map (λ (r : Answer). r.length) was))) ≡ length was =
      omega (arith, length-map was (λ (r : Answer). r.kind), length-map was (λ (r : Answer). r.number), length-map was (λ (r : Answer). r.length)) in
      let few : min (length was) most_constants ≡ min (length ks) (min (length zs) (length ls)) = omega (arith, kinds_long, numbers_long, lengths_long) in
      let by : ℕ → Checked = λ n. checked s (token_entries tk ts tl) (node_entries nk nt ns nb) n (length rm) in
      ap by all ∙ enough s (token_entries tk ts tl) (node_entries nk nt ns nb) (length rm) (length was) most_constants few_tokens ∙ ap by few

  room : (c : Checked) → outcome s l ≡ c → Room c (length was)
  room (accepted a) e =
      let ok = (accepted_iff s _ _ _ _ a).0 e in
      omega (arith, ok.as_many, ok.answer_room, kinds_long, numbers_long, lengths_long)
  room (refused k p) e = tt

  module _ {tk' ts' tl' nk' nt' ns' nb' ks' : List ℕ} {zs' : List ℤ} {ls' rm' : List ℕ} {r : Report} {have : List Answer}
      (c : Checks s l (tables_of tk' ts' tl' nk' nt' ns' nb' ks' zs' ls' rm') r) (fills : have ≡ filled ks' zs' ls' r.constants (length was)) where
    have_is : have ≡ records_after (outcome s l) (length was)
    have_is =
        let kinds : ks' ≡ column 0 express.answer_kinds (outcome s l) (min (length was) most_constants) =
        ap (λ (m : Tables). m.answer_kinds) c.holds ∙ ap (column 0 express.answer_kinds (outcome s l)) kinds_long in
        let numbers : zs' ≡ column (pos 0) express.answer_numbers (outcome s l) (min (length was) most_constants) =
        ap (λ (m : Tables). m.answer_numbers) c.holds ∙ ap (column (pos 0) express.answer_numbers (outcome s l)) numbers_long in
        let lengths : ls' ≡ column 0 express.answer_lengths (outcome s l) (min (length was) most_constants) =
        ap (λ (m : Tables). m.answer_lengths) c.holds ∙ ap (column 0 express.answer_lengths (outcome s l)) lengths_long in
        fills ∙ rw (kinds, numbers, lengths, c.reports) (filled_after (outcome s l) (min (length was) most_constants) (length was) (room (outcome s l) refl))

    -- a column of the records, and one of the others, by the outcome
    by_records : {B : Type 0} (f : Answer → B) (values : Accepted → List B)
        → ((a : Accepted) → values a ≡ map (λ (r : AnswerRow). f (record_of r)) (express.answer_rows a))
        → map f have ≡ column (f zeros) values (outcome s L) (length (map f was))
    by_records f values e = rw (have_is, same, length-map was f) (column_after f values e (outcome s l) (length was))

    by_column : (values : Accepted → List ℕ) (was now : List ℕ) → now ≡ column 0 values (outcome s l) (length was) → now ≡ column 0 values (outcome s L) (length was)
    by_column values was now e = e ∙ ap (λ (o : Checked). column 0 values o (length was)) (sym same)

    -- THE THEOREM
    pub record_checks : Checks s L (record_tables tk' ts' tl' nk' nt' ns' nb' have rm') r
    record_checks =
        checks s L (record_tables tk' ts' tl' nk' nt' ns' nb' have rm') r (c.reports ∙ ap report (sym same))
        (tables_alike _ (tables_after (outcome s L) L)
        (by_column express.token_kinds tk tk' (ap (λ (m : Tables). m.token_kinds) c.holds))
        (by_column express.token_starts ts ts' (ap (λ (m : Tables). m.token_starts) c.holds))
        (by_column express.token_lengths tl tl' (ap (λ (m : Tables). m.token_lengths) c.holds))
        (by_column express.node_kinds nk nk' (ap (λ (m : Tables). m.node_kinds) c.holds))
        (by_column express.node_tokens nt nt' (ap (λ (m : Tables). m.node_tokens) c.holds))
        (by_column express.node_sizes ns ns' (ap (λ (m : Tables). m.node_sizes) c.holds))
        (by_column express.node_bindings nb nb' (ap (λ (m : Tables). m.node_bindings) c.holds))
        (by_records (λ (r : Answer). r.kind) express.answer_kinds (λ a. refl))
        (by_records (λ (r : Answer). r.number) express.answer_numbers (λ a. refl))
        (by_records (λ (r : Answer). r.length) express.answer_lengths (λ a. refl))
        (by_column express.answer_room rm rm' (ap (λ (m : Tables). m.room) c.holds)))

-- THE SAME FROM LONG COLUMNS, of which the call was lent as many rows as there are records, for files of so few tokens that the columns suffice

cut_long : {A : Type 0} (n most_constants : ℕ) (xs : List A) → length xs ≡ most_constants → length (take n xs) ≡ min n most_constants
cut_long n most_constants xs e = omega (arith, length-take n xs, e)

pub rows_within : {tokens_most most_constants : ℕ} → tokens_most < 6 * most_constants + 6 → (was have : List Answer)
    {s tk ts tl nk nt ns nb ks : List ℕ} {zs : List ℤ} {ls rm : List ℕ} {tk' ts' tl' nk' nt' ns' nb' ks' : List ℕ} {zs' : List ℤ} {ls' rm' : List ℕ} {r : Report}
    → length ks ≡ most_constants → length zs ≡ most_constants → length ls ≡ most_constants
    → ChecksRows s (tables_of tk ts tl nk nt ns nb ks zs ls rm) (tables_of tk' ts' tl' nk' nt' ns' nb' ks' zs' ls' rm') (length was) r
    → have ≡ filled ks' zs' ls' r.constants (length was)
    → RecordsWithin tokens_most s (record_tables tk ts tl nk nt ns nb was rm) (record_tables tk' ts' tl' nk' nt' ns' nb' have rm') r
rows_within {tokens_most} {most_constants} many was have {s} {tk} {ts} {tl} {nk} {nt} {ns} {nb} {ks} {zs} {ls} {rm} {ks' = ks'} {zs'} {ls'} {r = r} e f g c fills = record {
  is = λ h.
      let few : length (lexed s).rows < 6 * most_constants + 6 = omega (arith, h, many) in
      record_checks most_constants s tk ts tl nk nt ns nb (take (length was) ks) few (take (length was) zs) (take (length was) ls) rm was
      (cut_long (length was) most_constants ks e) (cut_long (length was) most_constants zs f) (cut_long (length was) most_constants ls g) c.checks
      (fills ∙ sym (filled_front (length was) r.constants ks' zs' ls'));
}

-- of a file that is not longer, and of any file

pub by_bytes : {bytes : ℕ} {s : List ℕ} {l m : Tables} {r : Report} → length s ≤ bytes → RecordsWithin bytes s l m r → Checks s l m r
by_bytes {bytes} {s} h w = w.is (omega (arith, h, (tokens_of s).few))

pub of_any : {s : List ℕ} {l m : Tables} {r : Report} → RecordsWithin most s l m r → Checks s l m r
of_any {s} w = w.is (tokens_few s)
