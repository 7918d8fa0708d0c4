-- The kind by the first byte, and the end that the reader of that kind gives (`Tokens`).
use mathlib.Core.Path.{sym, ◌∙◌}
use Rattle.scan.proofs.Tokens.{lone_token, word_token, string_token, binary_token, symbol_token}
use native.Mathlib.Omega.{arith}
use Rattle.scan.proofs.Bytes.token.Goals as goal

pub returns-then-is_lone : goal.returns-then-is_lone
returns-then-is_lone c = lone_token _ _ (omega (arith, c.type_inv.s c.args.at)) (sym c.is_lone.ensures ∙ c.if-is_lone.true) c.token_to.ensures

pub returns-then-is_letter : goal.returns-then-is_letter
returns-then-is_letter c = word_token _ _ c.requires (sym c.is_letter.ensures ∙ c.if-is_letter.true) c.word_end.ensures c.token_to-then-is_letter.ensures

pub number-requires : goal.number-requires
number-requires c = (c.requires, sym c.is_letter.ensures ∙ c.if-is_letter.false, sym c.is_within.ensures ∙ c.if-is_within.true)

pub returns-then-b-eq39 : goal.returns-then-b-eq39
returns-then-b-eq39 c = string_token _ _ (sym c.is_letter.ensures ∙ c.if-is_letter.false) (sym c.is_within.ensures ∙ c.if-is_within.false) c.if-b-eq39.true
    _ c.string_end.ensures c.token_to-then-b-eq39.ensures

pub returns-then-b-eq37 : goal.returns-then-b-eq37
returns-then-b-eq37 c = binary_token _ _ (sym c.is_letter.ensures ∙ c.if-is_letter.false) (sym c.is_within.ensures ∙ c.if-is_within.false) c.if-b-eq39.false
    c.if-b-eq37.true _ c.binary_end.ensures c.token_to-then-b-eq37.ensures

pub symbol_end-requires : goal.symbol_end-requires
symbol_end-requires c = (c.requires, sym c.is_lone.ensures ∙ c.if-is_lone.false)

pub returns : goal.returns
returns c = symbol_token _ _ (sym c.is_letter.ensures ∙ c.if-is_letter.false) (sym c.is_within.ensures ∙ c.if-is_within.false) c.if-b-eq39.false
    c.if-b-eq37.false _ c.symbol_end.ensures c.token_to-2.ensures
