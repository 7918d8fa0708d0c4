-- ARRAYS FILLED WITH 0 have as many elements as were asked for. By these laws and not by computing, which takes a step for each element.
use mathlib.Core.Path.{◌≡◌, sym}
use Prim.Native.Nat.{ℕ}
use lib.IntN.{pos}
use lib.ListN.{length, replicate, length-replicate}

pub counted : (n : ℕ) → n ≡ length (replicate {A = ℕ} n 0)
counted n = sym (length-replicate n 0)

pub numbers_counted : (n : ℕ) → n ≡ length (replicate n (pos 0))
numbers_counted n = sym (length-replicate n (pos 0))
