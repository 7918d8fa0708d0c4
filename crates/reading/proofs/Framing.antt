-- Words for as many tokens as a file has: the law of all sizes, and of the choice among them.
use mathlib.Core.Path.{◌≡◌, sym, ap, ◌∙◌}
use mathlib.Core.List.{List}
use Prim.Native.Nat.{ℕ, ◌≤◌}
use native.Mathlib.Omega.{arith}
use lib.ListN.{length, replicate, length-map, length-replicate}
use Rattle.express.specs.Tokens.Lexis as lexis
use Rattle.express.specs.Tokens.Lexis.{TokenRow, most, lexed}
use Rattle.stages.specs.Line.{Stage}
use Rattle.stages.specs.Reading.{ReadsNodes}
use Rattle.stages.proofs.Straight.{token_done}
use Rattle.reading.specs.FileReading.{ReadsWithin}

-- an array that is filled with 0 has as many elements as were asked for. By this law and not by computing, which takes a step for each element
pub counted : (n : ℕ) → n ≡ length (replicate {A = ℕ} n 0)
counted n = sym (length-replicate n 0)

module _ {s : List ℕ} {before : Stage} {token_kinds starts lengths terminals kinds tokens sizes roles : List ℕ} {r : Stage} {terminals' kinds' tokens' sizes' roles' : List ℕ} where
  -- a word for each token
  pub with_words : {words' : List ℕ} (n : ℕ) →
      ReadsNodes s before token_kinds starts lengths terminals (replicate n 0) kinds tokens sizes roles r terminals' words' kinds' tokens' sizes' roles' →
      ReadsWithin n s before token_kinds starts lengths terminals kinds tokens sizes roles r terminals' kinds' tokens' sizes' roles'
  with_words n R =
      let room = counted n in
      record {
        is = λ few tr b columns. R.is tr b (λ i e.
            let D = token_done s tr i (sym b ∙ e) in
            let k = D.is in
            let l = length-map (lexed s).rows (λ (r : TokenRow). r.kind) in
            let all = ap length (columns i e (lexis.kinds (lexed s)) (omega arith)).kinds_are in
            columns i e (replicate n 0) (omega arith));
      }

  -- so many tokens, whatever is asked of them elsewhere
  pub by_number : (n : ℕ) → length token_kinds ≤ n →
      ReadsWithin n s before token_kinds starts lengths terminals kinds tokens sizes roles r terminals' kinds' tokens' sizes' roles' →
      ReadsWithin most s before token_kinds starts lengths terminals kinds tokens sizes roles r terminals' kinds' tokens' sizes' roles'
  by_number n h R = record { is = λ few. R.is h }
