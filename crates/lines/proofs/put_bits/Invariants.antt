use Rattle.lines.proofs.Numbers.{Remaining}
use Prim.Native.Nat.{◌+◌, ◌-◌}
use Rattle.lines.proofs.put_bits.Given as goal

abbrev pub invariant-loop-i : goal.invariant-loop-i
invariant-loop-i l = Remaining l.n l.length l.initial.out l.at l.out (l.length - l.i) (l.at + l.i)
