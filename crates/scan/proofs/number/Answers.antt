use mathlib.Core.Path.{◌≡◌, sym, ap, ◌∙◌}
use mathlib.Core.List.{List}
use Prim.Native.Nat.{ℕ, ◌+◌}
use lib.ListN.{get_or}
use Rattle.express.specs.Tokens.Bytes.{digit}
use Rattle.express.specs.Tokens.Lexis.{run, end_of_exponent}
use Rattle.scan.proofs.Tokens.{real_token, integer_token}
use Rattle.scan.proofs.number.Goals as goal

-- the byte behind the digits
byte_is : (s : List ℕ) (at end b : ℕ) → end ≡ run digit s at → b ≡ get_or s end 0 → b ≡ get_or s (run digit s at) 0
byte_is s at end b e h = h ∙ ap (λ x. get_or s x 0) e

pub returns-then-get_or-eq46 : goal.returns-then-get_or-eq46
returns-then-get_or-eq46 c = let s = c.args.s.now in
    real_token _ _ c.requires.1 c.requires.2 (sym (byte_is c.args.s.now c.args.at _ _ c.run_end-end.ensures c.get_or.ensures) ∙ c.if-get_or-eq46.true)
    (c.real_end.ensures ∙ ap (λ x. end_of_exponent s (run digit s (x + 1))) c.run_end-end.ensures) c.token_to.ensures

pub returns : goal.returns
returns c = integer_token _ _ c.requires.1 c.requires.2 (λ e. c.if-get_or-eq46.false (byte_is c.args.s.now c.args.at _ _ c.run_end-end.ensures c.get_or.ensures ∙ e)) _ (c.integer_end.ensures c.run_end-end.ensures) c.token_to-2.ensures
