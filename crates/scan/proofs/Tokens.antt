-- Tokens by their first byte: the kind that it gives, and the end.
use mathlib.Core.Path.{◌≡◌, refl, sym, ap, ◌∙◌}
use mathlib.Core.Bool.{true, false}
use mathlib.Core.List.{List}
use Prim.Native.Nat.{ℕ, ◌+◌, ◌<◌}
use lib.ListN.{length, get_or}
use borrow.Author.Tests.{eq-eqb, ne_eqb}
use Rattle.express.specs.Tokens.Bytes.{letter, digit, word_byte}
use Rattle.express.specs.Tokens.Lexis.{at, run, lone, size_of_symbol, end_of_symbol, end_of_short_string, end_of_binary}
use Rattle.express.specs.Tokens.Lexis.{end_of_integer, end_of_real, end_of_exponent, token_kind_at, end_of_token}
use Rattle.blanks.specs.Step.{reading}
use Rattle.scan.specs.Scan.{of_kind, TokenRead}
use Rattle.scan.specs.declared.Token.{Token}
use Rattle.std.specs.Prelude.{Result, Ok}
use Rattle.blanks.specs.declared.Refusal.{Refusal}
use Rattle.scan.proofs.ByteSets.{lone_kind}
use Rattle.blanks.proofs.Turns.{run_more}

module _ (s : List ℕ) (p : ℕ) where
  abbrev first : ℕ
  first = get_or s p 0

  abbrev point : ℕ
  point = get_or s (run digit s p) 0

  token_is : (r : Result ℕ Refusal) (k : ℕ) → token_kind_at s p ≡ k → reading r ≡ end_of_token s p k → {t : Result Token Refusal} → t ≡ of_kind k r → TokenRead s p t
  token_is r k k_is r_is t_is = record { end = r; is = rw k_is r_is; token_is = rw k_is t_is }

  pub lone_token : first < 256 → lone first ≡ true → {t : Result Token Refusal} → t ≡ of_kind 6 (Ok (p + 1)) → TokenRead s p t
  unfolding end_of_token end_of_symbol size_of_symbol
  lone_token h l = token_is (Ok (p + 1)) 6 (lone_kind s p first refl h l) (sym (rw l))

  pub word_token : p < length s → letter first ≡ true → {e : ℕ} → e ≡ run word_byte s (p + 1) → {t : Result Token Refusal} → t ≡ of_kind 1 (Ok e) → TokenRead s p t
  unfolding token_kind_at end_of_token word_byte
  word_token h l {e} is = token_is (Ok e) 1 (rw l) (ap at (is ∙ sym (run_more word_byte s p h (rw l))))

  module _ (n : letter first ≡ false) where
    pub real_token : digit first ≡ true → point ≡ 46 → {e : ℕ} → e ≡ end_of_exponent s (run digit s (run digit s p + 1)) → {t : Result Token Refusal} → t ≡ of_kind 3 (Ok e) → TokenRead s p t
    unfolding token_kind_at end_of_token end_of_real
    real_token d q {e} is = token_is (Ok e) 3 (rw (n, d, eq-eqb _ _ q)) (ap at is)

    pub integer_token : digit first ≡ true → (point ≡ 46 → ⊥) → (r : Result ℕ Refusal) → reading r ≡ end_of_integer s p → {t : Result Token Refusal} → t ≡ of_kind 2 r → TokenRead s p t
    unfolding token_kind_at end_of_token
    integer_token d q r is = token_is r 2 (rw (n, d, ne_eqb _ _ q)) is

    module _ (d : digit first ≡ false) where
      pub string_token : first ≡ 39 → (r : Result ℕ Refusal) → reading r ≡ end_of_short_string s p → {t : Result Token Refusal} → t ≡ of_kind 4 r → TokenRead s p t
      unfolding token_kind_at end_of_token
      string_token q r is = token_is r 4 (rw (n, d, eq-eqb _ _ q)) is

      module _ (q : first ≡ 39 → ⊥) where
        pub binary_token : first ≡ 37 → (r : Result ℕ Refusal) → reading r ≡ end_of_binary s p → {t : Result Token Refusal} → t ≡ of_kind 5 r → TokenRead s p t
        unfolding token_kind_at end_of_token
        binary_token h r is = token_is r 5 (rw (n, d, ne_eqb _ _ q, eq-eqb _ _ h)) is

        pub symbol_token : (first ≡ 37 → ⊥) → (r : Result ℕ Refusal) → reading r ≡ end_of_symbol s p → {t : Result Token Refusal} → t ≡ of_kind 6 r → TokenRead s p t
        unfolding token_kind_at end_of_token
        symbol_token h r is = token_is r 6 (rw (n, d, ne_eqb _ _ q, ne_eqb _ _ h)) is
