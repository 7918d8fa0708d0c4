-- Bytes spell tokens of one kind at most: whichever test they pass, their kind is its own, so the order of the tests is of no matter.
use mathlib.Core.Path.{◌≡◌, refl, sym, ap, ◌∙◌}
use mathlib.Core.Bool.{Bool, true, false, false≢true}
use mathlib.Core.List.{List, [], ◌∷◌}
use Prim.Native.Nat.{ℕ}
use lib.Dec.{eqb}
use lib.ListN.{get_or}
use borrow.Author.Tests.{eqb-true}
use Rattle.relations.specs.Select.{any}
use Rattle.relations.proofs.Select.{and_fst, and_snd, untrue}
use Rattle.express.specs.Tokens.Bytes.{digit, letter, word_byte, bit, same}
use Rattle.express.specs.Tokens.Terminal.{Fixed, symbols, among}
use Rattle.express.specs.Tokens.Token.{all_of, some_of, is_word, is_integer, is_decimal, is_real, in_string, is_string, is_binary, is_symbol, spelled_kind}
use Rattle.express.proofs.Tokens.Longest.{no_symbol, word_kind, number_kind, string_kind, binary_kind, symbol_kind, not_both}

pub word_alone : (w : List ℕ) → is_word w ≡ true → spelled_kind w ≡ 1
word_alone [] e = absurd (false≢true e)
word_alone (b ∷ w) e = word_kind b w (and_fst (letter b) (all_of word_byte w) e) ∙ rw (and_snd (letter b) (all_of word_byte w) e)

pub integer_alone : (w : List ℕ) → is_integer w ≡ true → spelled_kind w ≡ 2
integer_alone [] e = absurd (false≢true e)
integer_alone (b ∷ w) e = number_kind b w (and_fst (digit b) (all_of digit w) e) ∙ rw (and_snd (digit b) (all_of digit w) e)

pub real_alone : (w : List ℕ) → is_real w ≡ true → spelled_kind w ≡ 3
real_alone [] e = absurd (false≢true e)
real_alone (b ∷ w) e =
    let d = and_snd (digit b) (is_decimal w) e in
    number_kind b w (and_fst (digit b) (is_decimal w) e) ∙ rw (not_both w d, d)

pub string_alone : (w : List ℕ) → is_string w ≡ true → spelled_kind w ≡ 4
string_alone [] e = absurd (false≢true e)
string_alone (b ∷ w) e =
    ap (λ (c : ℕ). spelled_kind (c ∷ w)) (eqb-true b 39 (and_fst (eqb b 39) (in_string false w) e)) ∙ string_kind w ∙ rw (and_snd (eqb b 39) (in_string false w) e)

pub binary_alone : (w : List ℕ) → is_binary w ≡ true → spelled_kind w ≡ 5
binary_alone [] e = absurd (false≢true e)
binary_alone (b ∷ w) e =
    ap (λ (c : ℕ). spelled_kind (c ∷ w)) (eqb-true b 37 (and_fst (eqb b 37) (some_of bit w) e)) ∙ binary_kind w ∙ rw (and_snd (eqb b 37) (some_of bit w) e)

pub symbol_alone : (w : List ℕ) → is_symbol w ≡ true → spelled_kind w ≡ 6
unfolding any among same
symbol_alone [] e = absurd (false≢true e)
symbol_alone (b ∷ w) e =
    symbol_kind b w (other letter refl) (other digit refl) (other (λ c. eqb c 39) refl) (other (λ c. eqb c 37) refl) ∙ rw e
  where
    other : (g : ℕ → Bool) → any (λ (f : Fixed). g (get_or f.spelling 0 0)) symbols ≡ false → g b ≡ false
    other g none = untrue (g b) (λ h. false≢true (sym (no_symbol g b w none h) ∙ e))
