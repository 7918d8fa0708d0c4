-- Every reserved word has its bit: computed for all of them (`Entries`), so a word without one is none.
use mathlib.Core.Path.{◌≡◌, sym, ◌∙◌}
use mathlib.Core.Bool.{true, false≢true}
use mathlib.Core.List.{List}
use Prim.Native.Nat.{ℕ, ◌+◌, ◌-◌, ◌/◌, ◌%◌, ◌^◌, ◌≤◌}
use lib.ListN.{length, take, drop, get_or}
use borrow.Author.Tests.{eq-eqb}
use Rattle.terminals.specs.Lookup.{folded}
use Rattle.terminals.specs.Spellings.{ending_count, endings}
use Rattle.terminals.proofs.Parts.{length_folded, ending_is}
use Rattle.terminals.proofs.Entries.{ending_of, miss_long, word_low, word_other}
use native.Mathlib.Omega.{arith}
use Rattle.terminals.proofs.Tables.may_be_reserved.Goals as goal

-- the bit that the code reads is that of the word in upper case
bit_is : (s : List ℕ) (start n : ℕ) (table : List ℕ) → n ≤ length s - start → table ≡ endings → (n ≡ 0 → ⊥)
    → (first : ℕ) → first ≡ get_or s start 0 % ending_count
    → get_or table first 0 / 2 ^ (get_or s (start + n - 1) 0 % ending_count) % 2 ≡ ending_of (folded true (take n (drop start s)))
bit_is s start n table h e some first is =
    rw (e, is) (sym (ending_is s start n h (omega (arith, some))))

pub returns-then-n-eq0 : goal.returns-then-n-eq0
returns-then-n-eq0 c = λ _. word_other (take c.args.n (drop c.args.start c.args.s.now)) (λ some. absurd (omega (arith, some, length_folded c.args.s.now c.args.start c.args.n c.requires true, c.if-n-eq0.true)))

pub returns-then-n-gt-LONGEST : goal.returns-then-n-gt-LONGEST
returns-then-n-gt-LONGEST c = λ _. word_low (take c.args.n (drop c.args.start c.args.s.now)) (miss_long _ (omega (arith, length_folded c.args.s.now c.args.start c.args.n c.requires true, c.if-n-gt-LONGEST.true))) (omega arith)

pub returns : goal.returns
returns c = λ e. word_other (take c.args.n (drop c.args.start c.args.s.now)) (λ _ is. false≢true (sym e ∙ eq-eqb _ _ (bit_is c.args.s.now c.args.start c.args.n c.args.self.now.endings c.requires c.args.self.now.endings_are c.if-n-eq0.false _ c.byte_index.ensures.0 ∙ is)))
