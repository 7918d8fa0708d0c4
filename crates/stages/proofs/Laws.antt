-- What the calls of each stage come to.
use mathlib.Core.Path.{◌≡◌, refl, sym, ap, subst, ◌∙◌}
use mathlib.Core.Bool.{Bool, true, false, cond}
use mathlib.Core.List.{List}
use Prim.Native.Nat.{ℕ, ◌≤◌, ◌<◌}
use native.Mathlib.Omega.{arith}
use borrow.Author.Tests.{le-leb, lt-leb}
use lib.Dec.{leb}
use lib.ListN.{length, get_or}
use Rattle.ebnf.specs.Rows.{Rows}
use Rattle.ebnf.specs.Depth.{Outcome, good, unexpected, too_deep}
use Rattle.express.specs.Tokens.Lexis as lexis
use Rattle.express.specs.Tokens.Lexis.{most, lexed, tokens}
use Rattle.express.specs.Syntax.Grammar.{file}
use Rattle.express.specs.Syntax.Syntax.{parsed}
use Rattle.express.specs.Whole.Reply.{token_entries, node_entries}
use Rattle.std.specs.Prelude.{Result, Ok, Err}
use Rattle.blanks.specs.declared.Refusal as scan_error
use Rattle.blanks.specs.Step.{reading, reply_of, place_of}
use Rattle.scan.specs.Scan.{ScanResult}
use Rattle.parsing.specs.declared.Failure.TheVariants.{Unexpected, TooDeep, Short, Scratch, Long}
use Rattle.parsing.specs.Parsing.{Parsed, answer, Parsing}
use Rattle.stages.specs.declared.Refusal.{Refusal}
use Rattle.stages.specs.Line.{Stage, refusal, of_reading, of_syntax}
use Rattle.stages.specs.Reading.{ScansTokens, of_parse, Few, OfParse, ParsesTokens, Constants, FitsConstants}
use Rattle.stages.proofs.Bounds.{clash, place_small, rows_few}
use Rattle.stages.proofs.Counting.{row_short}

-- ---- tokens

module _ {s k₀ s₀ z₀ k' s' z' : List ℕ} {r : Result ℕ scan_error.Refusal} where
  scanned : (x : Stage) → x ≡ of_reading (reading r) → ScanResult most s k₀ s₀ z₀ r k' s' z' → ScansTokens s k₀ s₀ z₀ x k' s' z'
  unfolding lexed
  scanned x e R = record { is = e ∙ ap of_reading R.is; kinds_are = R.kinds; starts_are = R.starts; lengths_are = R.lengths }

  pub scanned_done : {n : ℕ} → ScanResult most s k₀ s₀ z₀ r k' s' z' → r ≡ Ok n → ScansTokens s k₀ s₀ z₀ (Ok n) k' s' z'
  scanned_done {n} R e = scanned (Ok n) (sym (ap (λ (x : Result ℕ scan_error.Refusal). of_reading (reading x)) e)) R

  reads_refused : {e : scan_error.Refusal} → ScanResult most s k₀ s₀ z₀ r k' s' z' → r ≡ Err e → tokens (lexed s) (token_entries k₀ s₀ z₀) ≡ lexis.refused (reply_of e) (place_of e)
  unfolding lexed
  reads_refused R e = sym R.is ∙ ap reading e

  pub scanned_refused : {x : scan_error.Refusal} {k p q : ℕ} → ScanResult most s k₀ s₀ z₀ r k' s' z' → r ≡ Err x → k ≡ reply_of x → p ≡ place_of x → (p < 4294967296 → q ≡ p) →
      ScansTokens s k₀ s₀ z₀ (refusal k q) k' s' z'
  scanned_refused {x} {k} {p} {q} R e ke pe c =
      let small : place_of x ≤ most = place_small s _ (reply_of x) (place_of x) (reads_refused R e) in
      let same : q ≡ p = c (omega arith) in
      scanned (refusal k q) (ap (refusal k) (same ∙ pe) ∙ ap (λ (n : ℕ). refusal n (place_of x)) ke ∙ sym (ap (λ (x : Result ℕ scan_error.Refusal). of_reading (reading x)) e)) R

-- ---- nodes

module _ {starts : List ℕ} {size : ℕ} {p : Parsed} where
  pub of_accepted : {n : ℕ} → p ≡ Ok n → OfParse starts size p (Ok n)
  of_accepted e = record { is = λ h f. rw e }

  pub of_unexpected : {j q : ℕ} → p ≡ Err (Unexpected j) → (size ≤ most → q ≡ get_or starts j size) → OfParse starts size p (refusal 4 q)
  of_unexpected e c = record { is = λ h f. rw (e, c h) }

  pub of_too_deep : {j q : ℕ} → p ≡ Err (TooDeep j) → (size ≤ most → q ≡ get_or starts j size) → OfParse starts size p (refusal 5 q)
  of_too_deep e c = record { is = λ h f. rw (e, c h) }

  pub of_short : {n q : ℕ} → p ≡ Err (Short n) → (n < 4294967296 → q ≡ n) → OfParse starts size p (refusal 7 q)
  of_short {n} {q} e c = record { is = λ h f. let g : n ≤ most = subst Few e f in let same : q ≡ n = c (omega arith) in rw (e, same) }

  pub of_scratch : {n : ℕ} → p ≡ Err (Scratch n) → OfParse starts size p (refusal 1 most)
  of_scratch e = record { is = λ h f. rw e }

  pub of_long : p ≡ Err Long → OfParse starts size p (refusal 1 most)
  of_long e = record { is = λ h f. rw e }

-- the answer of a parse whose rows are few
few_answer : (entries : ℕ) (o : Outcome Rows) → ((r : Rows) → o ≡ good r → length r.rows ≤ most) → Few (answer entries o)
few_answer entries (good r) h = by (leb (length r.rows) entries)
  where
    by : (b : Bool) → Few (cond b (Ok (length r.rows)) (Err (Short (length r.rows))))
    by true = tt
    by false = h r refl
few_answer entries (unexpected j) h = tt
few_answer entries (too_deep k) h = tt

-- and as a stage
answer_stage : (starts : List ℕ) (size entries : ℕ) (o : Outcome Rows) → of_parse starts size (answer entries o) ≡ of_syntax starts size entries o
answer_stage starts size entries (good r) = by (leb (length r.rows) entries)
  where
    by : (b : Bool) → of_parse starts size (cond b (Ok (length r.rows)) (Err (Short (length r.rows)))) ≡ cond b (Ok (length r.rows)) (refusal 7 (length r.rows))
    by true = refl
    by false = refl
answer_stage starts size entries (unexpected j) = refl
answer_stage starts size entries (too_deep k) = refl

module _ {before : Stage} {size : ℕ} {starts ts scratch kinds tokens sizes roles : List ℕ} where
  pub parsed_tokens : {n : ℕ} {p : Parsed} {r : Stage} {scratch' kinds' tokens' sizes' roles' : List ℕ} → before ≡ Ok n →
      Parsing file ts p scratch kinds tokens sizes roles scratch' kinds' tokens' sizes' roles' → OfParse starts size p r →
      ParsesTokens before size starts ts scratch kinds tokens sizes roles r scratch' kinds' tokens' sizes' roles'
  parsed_tokens {n} {p} {r} e P O =
      rw e (record {
        passed_on = λ f u. clash (cc);
        is = λ m u h few room.
            let entries = node_entries kinds tokens sizes roles in
            let a : p ≡ answer entries (parsed file ts) = P.answers ∙ rw (le-leb (length ts) most few, le-leb (length ts) (length scratch) room) in
            let f : Few p = rw a (few_answer entries (parsed file ts) (λ v q. let l = rows_few file ts v q in omega arith)) in
            O.is h f ∙ ap (of_parse starts size) a ∙ answer_stage starts size entries (parsed file ts);
        kinds_are = P.kinds_are;
        tokens_are = P.tokens_are;
        sizes_are = P.sizes_are;
        roles_are = P.roles_are;
        scratch_is = P.scratch_is;
      })

  pub passed_tokens : {f : Refusal} → before ≡ Err f → ParsesTokens before size starts ts scratch kinds tokens sizes roles (Err f) scratch kinds tokens sizes roles
  passed_tokens e = rw e (record { passed_on = λ f u. u; is = λ m u h f g. clash (cc); kinds_are = refl; tokens_are = refl; sizes_are = refl; roles_are = refl; scratch_is = refl })

-- ---- constants

module _ {before : Stage} {kinds : List ℕ} {entries : ℕ} where
  pub constants_fit : {n m : ℕ} → before ≡ Ok n → Constants kinds m → m ≤ entries → FitsConstants before kinds entries (Ok m)
  constants_fit {n} {m} e C l = let i = C.is in record { is = λ h. rw (e, sym i, le-leb m entries l) }

  pub constants_short : {n m q : ℕ} → before ≡ Ok n → Constants kinds m → entries < m → (m < 4294967296 → q ≡ m) → FitsConstants before kinds entries (refusal 8 q)
  constants_short {n} {m} {q} e C l c =
      let i = C.is in
      record { is = λ h. let same : q ≡ m = c (omega (arith, i, row_short kinds)) in rw (e, sym i, lt-leb m entries l, same) }

  pub constants_passed : {f : Refusal} → before ≡ Err f → FitsConstants before kinds entries (Err f)
  constants_passed e = record { is = λ h. rw e }
