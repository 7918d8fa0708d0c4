-- `records::Rows::at` meets its contract, by the laws of a row within and past the first rows. Assumes nothing.
use mathlib.Core.Path.{◌≡◌, sym, ap, ◌∙◌}
use Prim.Native.Nat.{ℕ, ◌<◌, ◌≤◌, min}
use native.Mathlib.Omega.{arith}
use lib.IntN.{ℤ, pos}
use lib.ListN.{length, get_or}
use mir.Syntax.{w64}
use mir.ValLaws.{to_z-of_z}
use Rattle.records.specs.Rows.{zeros}
use Rattle.records.specs.declared.Answer.{Answer}
use Rattle.records.proofs.Laws.{row_within, row_past}
use Rattle.records.proofs.Rows.at.Goals as goal

zeros_are : {k : ℕ} {n : ℤ} {l : ℕ} → k ≡ 0 → n ≡ pos 0 → l ≡ 0 → ◌≡◌ {A = Answer} (record { kind = k; number = n; length = l }) zeros
zeros_are a b c = rw (a, b, c)

pub returns-then-i-min : goal.returns-then-i-min
returns-then-i-min c = let a = c.args.self.now in
    let i = c.args.i in
    let h : i < min a.count (min (length a.kinds.now) (min (length a.numbers.now) (length a.lengths.now))) = omega arith in
    sym (row_within _ _ _ _ _ h ∙ ap (λ (z : ℤ). record { kind = get_or a.kinds.now i 0; number = z; length = get_or a.lengths.now i 0 })
    (sym (to_z-of_z w64 (get_or a.numbers.now i (pos 0)) (record { sfits = c.result-1.given }))))

pub returns : goal.returns
returns c = let a = c.args.self.now in
    let h : min a.count (min (length a.kinds.now) (min (length a.numbers.now) (length a.lengths.now))) ≤ c.args.i = omega arith in
    zeros_are c.default.ensures.0 c.default.ensures.1.0 c.default.ensures.1.1 ∙ sym (row_past _ _ _ _ _ h)
