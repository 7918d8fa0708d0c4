-- DIV and MOD: `quotient` and `remainder` meet the law of clause 12.1 (`meets`), and no other two numbers do (`only`).
use mathlib.Core.Path.{◌≡◌, refl, sym, ap, ◌∙◌}
use mathlib.Core.Bool.{Bool, true, false}
use mathlib.Core.Logic.{◌⊎◌, inl, inr}
use Prim.Native.Nat.{ℕ, zero, suc, ◌+◌, ◌-◌, ◌*◌, ◌/◌, ◌%◌, ◌<◌}
use native.Mathlib.Nat.{mod-lt, div-add-mod', suc-mul, zero-mul}
use native.Mathlib.Omega.{arith}
use borrow.Author.Tests.{lt-ltb}
use lib.Arith.{digits_div, digits_mod}
use lib.IntN.{ℤ, pos, negsuc, neg_ℤ, nat_abs, sub_ℕ, ◌+ℤ◌, ◌*ℤ◌, neg_ℤ-neg_ℤ, pos-ne-negsuc}
use lib.Signed.{shr_z}
use Rattle.express.specs.Semantics.Integer.{negative, signed, rest, quotient, remainder, Divided}

-- ---- a - n·d, for a remainder r below that product
sub_lt : (a b : ℕ) → a < b → sub_ℕ a b ≡ negsuc (b - suc a)
sub_lt a b h = rw (lt-ltb a b h)

minus_plus : (n r : ℕ) → r < n → neg_ℤ (pos n) +ℤ pos r ≡ negsuc (n - suc r)
minus_plus zero r h = absurd (omega arith)
minus_plus (suc n) r h = sub_lt r (suc n) h

-- ---- the law for a divisor above 0, and that it has one answer
down : (a : ℤ) (d : ℕ) → 0 < d → shr_z a d *ℤ pos d +ℤ pos (rest a d) ≡ a
down (pos a) d h = ap pos (div-add-mod' a d)
down (negsuc a) d h =
    let e : suc (a / d) * d ≡ a / d * d + d = suc-mul (a / d) d in
    let f : a / d * d + a % d ≡ a = div-add-mod' a d in
    let g : a % d < d = mod-lt a h in
    minus_plus (suc (a / d) * d) (d - suc (a % d)) (omega arith) ∙ ap negsuc (omega arith)

rest_lt : (a : ℤ) (d : ℕ) → 0 < d → rest a d < d
rest_lt (pos a) d h = mod-lt a h
rest_lt (negsuc a) d h = omega arith

above : (n d k : ℕ) → k < d → suc n * d - suc k ≡ n * d + (d - suc k)
above n d k h = let e : suc n * d ≡ n * d + d = suc-mul n d in omega arith

one_quotient : (x : ℤ) (d k : ℕ) → k < d → shr_z (x *ℤ pos d +ℤ pos k) d ≡ x
one_quotient (pos n) d k h = ap pos (digits_div n h)
one_quotient (negsuc n) d k h =
    let e : suc n * d ≡ n * d + d = suc-mul n d in
    let g : d - suc k < d = omega arith in
    ap (λ (z : ℤ). shr_z z d) (minus_plus (suc n * d) k (omega arith) ∙ ap negsuc (above n d k h)) ∙ ap negsuc (digits_div n g)

one_rest : (x : ℤ) (d k : ℕ) → k < d → rest (x *ℤ pos d +ℤ pos k) d ≡ k
one_rest (pos n) d k h = digits_mod n h
one_rest (negsuc n) d k h =
    let e : suc n * d ≡ n * d + d = suc-mul n d in
    let g : d - suc k < d = omega arith in
    let f : (n * d + (d - suc k)) % d ≡ d - suc k = digits_mod n g in
    ap (λ (z : ℤ). rest z d) (minus_plus (suc n * d) k (omega arith) ∙ ap negsuc (above n d k h)) ∙ omega arith

-- ---- a divisor below 0: the quotient changes its sign
neg_times : (x : ℤ) (e : ℕ) → neg_ℤ x *ℤ negsuc e ≡ x *ℤ pos (suc e)
neg_times (pos zero) e = rw (zero-mul (suc e))
neg_times (pos (suc n)) e = refl
neg_times (negsuc n) e = refl

signed_signed : (s : Bool) (z : ℤ) → signed s (signed s z) ≡ z
signed_signed false z = refl
signed_signed true z = neg_ℤ-neg_ℤ z

abs_signed : (s : Bool) (n : ℕ) → nat_abs (signed s (pos n)) ≡ n
abs_signed false n = refl
abs_signed true zero = refl
abs_signed true (suc n) = refl

times : (b x : ℤ) → signed (negative b) x *ℤ b ≡ x *ℤ pos (nat_abs b)
times (pos d) x = refl
times (negsuc e) x = neg_times x e

sign_of : (b : ℤ) (n : ℕ) → (signed (negative b) (pos n) ≡ pos 0) ⊎ (negative (signed (negative b) (pos n)) ≡ negative b)
sign_of (pos d) n = inr refl
sign_of (negsuc e) zero = inl refl
sign_of (negsuc e) (suc n) = inr refl

-- ---- the law
pub meets : (a b : ℤ) → 0 < nat_abs b → Divided a b (quotient a b) (remainder a b)
unfolding quotient remainder
meets a b h =
    record {
      sign = sign_of b (rest a (nat_abs b));
      less = rw (abs_signed (negative b) (rest a (nat_abs b))) (rest_lt a (nat_abs b) h);
      whole = rw (times b (shr_z a (nat_abs b)), signed_signed (negative b) (pos (rest a (nat_abs b)))) (down a (nat_abs b) h);
    }

has_sign : (b r : ℤ) → (r ≡ pos 0) ⊎ (negative r ≡ negative b) → r ≡ signed (negative b) (pos (nat_abs r))
has_sign (pos d) (pos n) p = refl
has_sign (pos d) (negsuc n) (inl e) = absurd (pos-ne-negsuc 0 n (sym e))
has_sign (pos d) (negsuc n) (inr e) = let z : ◌≡◌ {A = ℕ} 0 1 = cc in absurd (omega arith)
has_sign (negsuc m) (pos zero) p = refl
has_sign (negsuc m) (pos (suc n)) (inl e) = let z : ◌≡◌ {A = ℕ} (suc n) 0 = cc in absurd (omega arith)
has_sign (negsuc m) (pos (suc n)) (inr e) = let z : ◌≡◌ {A = ℕ} 0 1 = cc in absurd (omega arith)
has_sign (negsuc m) (negsuc n) p = refl

pub only : (a b q r : ℤ) → Divided a b q r → (q ≡ quotient a b) × (r ≡ remainder a b)
unfolding quotient remainder
only a b q r D =
    let s = negative b in
    let u : r ≡ signed s (pos (nat_abs r)) = has_sign b r D.sign in
    let e : q *ℤ b ≡ signed s q *ℤ pos (nat_abs b) = ap (λ (z : ℤ). z *ℤ b) (sym (signed_signed s q)) ∙ times b (signed s q) in
    let f : signed s r ≡ pos (nat_abs r) = ap (signed s) u ∙ signed_signed s (pos (nat_abs r)) in
    let w : signed s q *ℤ pos (nat_abs b) +ℤ pos (nat_abs r) ≡ a = sym (ap (λ (z : ℤ). z +ℤ signed s r) e ∙ ap (λ (z : ℤ). signed s q *ℤ pos (nat_abs b) +ℤ z) f) ∙ D.whole in (
      sym (signed_signed s q) ∙ ap (signed s) (sym (one_quotient (signed s q) (nat_abs b) (nat_abs r) D.less) ∙ ap (λ (z : ℤ). shr_z z (nat_abs b)) w),
      u ∙ ap (λ (n : ℕ). signed s (pos n)) (sym (one_rest (signed s q) (nat_abs b) (nat_abs r) D.less) ∙ ap (λ (z : ℤ). rest z (nat_abs b)) w),
    )
