-- Strings: what the next byte of a value does to the count and to the bytes that are written, and bytes that are no quotes.
use mathlib.Core.Path.{◌≡◌, refl, sym, ap, ◌∙◌}
use mathlib.Core.Bool.{Bool, true, false, cond, not}
use mathlib.Core.List.{List, [], ◌∷◌}
use Prim.Native.Nat.{ℕ, suc, ◌+◌, ◌≤◌, ◌<◌}
use native.Mathlib.Omega.{arith}
use lib.Dec.{eqb}
use lib.ListN.{length, drop, get_or, set, length-set}
use lib.Seq.{sets}
use Rattle.std.specs.List.{position_or_len}
use Rattle.express.specs.Tokens.Lexis.{quote, unpaired, string_value}
use Rattle.literals.specs.Literal.{between}
use Rattle.express.proofs.Tokens.Strings.{apart, unpaired_none, unpaired_more}

apart_range : (b : ℕ) → (1 ≤ apart b) × (apart b ≤ 2)
apart_range b = by (eqb b quote)
  where
    by : (x : Bool) → (1 ≤ cond x 2 1) × (cond x 2 1 ≤ 2)
    by true = (omega arith, omega arith)
    by false = (omega arith, omega arith)

module _ (t : List ℕ) where
  -- what the bytes between the quotes leave from the i-th on
  abbrev left : ℕ → List ℕ
  left i = unpaired false (drop i t)

  -- after n bytes of the value, for which i bytes stand between the quotes
  pub record Counted (i n : ℕ) : Type 0 where
    pub few : n ≤ i
    pub is : n + length (left i) ≡ length (unpaired false t)

  pub record Written (was : List ℕ) (at : ℕ) (have : List ℕ) (i n : ℕ) : Type 0 where
    pub counted : Counted i n
    pub len : length have ≡ length was
    pub is : sets have (at + n) (left i) ≡ sets was at (unpaired false t)

  pub written_none : (was : List ℕ) (at : ℕ) → Written was at was 0 0
  written_none was at =
      let z : at + 0 ≡ at = omega arith in
      record { counted = record { few = omega arith; is = omega arith }; len = refl; is = rw z }

module _ {t : List ℕ} {i n : ℕ} where
  -- one or two bytes stand for a byte of the value
  pub step_fits : Counted t i n → {d : ℕ} → d ≡ apart (get_or t i 0) → (n ≤ i) × (1 ≤ d) × (d ≤ 2)
  step_fits c q = let r = apart_range (get_or t i 0) in (c.few, omega (arith, r.0), omega (arith, r.1))

  pub counted_more : Counted t i n → i < length t → {d : ℕ} → d ≡ apart (get_or t i 0) → Counted t (i + d) (n + 1)
  counted_more c h {d} q =
      let m = step_fits c q in
      let k : length (left t i) ≡ suc (length (left t (i + d))) = rw q (ap length (unpaired_more t i h)) in
      record { few = omega (arith, m.0, m.1); is = omega (arith, c.is, k) }

  pub counted_all : Counted t i n → length t ≤ i → n ≡ length (unpaired false t)
  counted_all c h = omega (arith, c.is, ap length (unpaired_none t i h))

  module _ {was : List ℕ} {at : ℕ} {have : List ℕ} (w : Written t was at have i n) where
    pub written_more : i < length t → {d : ℕ} → d ≡ apart (get_or t i 0) → {after : List ℕ} → after ≡ set have (at + n) (get_or t i 0) → Written t was at after (i + d) (n + 1)
    written_more h {d} q {after} k =
        let one : at + (n + 1) ≡ suc (at + n) = omega arith in
        let next : left t i ≡ get_or t i 0 ∷ left t (i + d) = rw q (unpaired_more t i h) in
        record {
          counted = counted_more w.counted h q;
          len = ap length k ∙ length-set have (at + n) (get_or t i 0) ∙ w.len;
          is = rw (one, k) (ap (sets have (at + n)) (sym next) ∙ w.is);
        }

    pub written_all : length t ≤ i → have ≡ sets was at (unpaired false t)
    written_all h = ap (sets have (at + n)) (sym (unpaired_none t i h)) ∙ w.is

-- bytes that are no quotes stand for as many of the value
abbrev first_quote : List ℕ → ℕ
first_quote = position_or_len (λ b. eqb b quote)

plain_is : (t : List ℕ) → first_quote t + length (unpaired false (drop (first_quote t) t)) ≡ length (unpaired false t)
unfolding unpaired
plain_is [] = refl
plain_is (b ∷ t) = by (eqb b quote) refl (plain_is t)
  where
    by : (x : Bool) → eqb b quote ≡ x → first_quote t + length (unpaired false (drop (first_quote t) t)) ≡ length (unpaired false t)
        → cond (not x) (1 + first_quote t) 0 + length (unpaired false (drop (cond (not x) (1 + first_quote t) 0) (b ∷ t))) ≡ suc (length (unpaired (eqb b quote) t))
    by true e more = omega arith
    by false e more =
        let one : 1 + first_quote t ≡ suc (first_quote t) = omega arith in
        let rest : length (unpaired (eqb b quote) t) ≡ length (unpaired false t) = ap (λ (y : Bool). length (unpaired y t)) e in
        rw one (omega (arith, more, rest))

pub counted_plain : (t : List ℕ) {n : ℕ} → n ≡ first_quote t → Counted t n n
counted_plain t e = record { few = omega arith; is = rw e (plain_is t) }

-- the value of a token's string is what its inner bytes leave
pub value_is : {t token text : List ℕ} → text ≡ between token → token ≡ t → unpaired false text ≡ string_value t
unfolding string_value
value_is e f = ap (unpaired false) (e ∙ ap between f)
