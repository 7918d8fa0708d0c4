-- A walk along a chain comes to the code of those of its nodes whose bits are set.
use mathlib.Core.Path.{◌≡◌, refl, sym, ap, ◌∙◌}
use mathlib.Core.Bool.{Bool, true, false, cond}
use mathlib.Core.List.{List, [], ◌∷◌}
use Prim.Native.Nat.{ℕ, suc, ◌+◌, ◌-◌, ◌*◌, ◌/◌, ◌%◌, ◌≤◌, ◌<◌, min}
use native.Mathlib.Omega.{arith}
use borrow.Author.Tests.{ne_eqb}
use lib.ListN.{get_or}
use Rattle.relations.specs.Select.{keep}
use Rattle.relations.proofs.Select.{keep_cons}
use Rattle.express.specs.Names.Scope.{meaning}
use Rattle.symbol_tables.specs.Entry.{code, several_code, node_limit}
use Rattle.bit_rows.specs.Bits.{bit}
use Rattle.attribute_chains.specs.Chains.{link_count, offset_limit, Chain, end, link, with_one, FindsAmong}

-- a code with some nodes more, one after the other
unfoldable pub folded : ℕ → List ℕ → ℕ
folded c [] = c
folded c (n ∷ ns) = folded (with_one c n) ns

folded_several : (ns : List ℕ) → folded several_code ns ≡ several_code
unfolding folded
folded_several [] = refl
folded_several (n ∷ ns) = folded_several ns

folded_means : (ns : List ℕ) → folded 0 ns ≡ code (meaning ns)
unfolding folded
folded_means [] = refl
folded_means (n ∷ []) = refl
folded_means (n ∷ m ∷ ns) = rw (ne_eqb (n + 1) 0 (λ q. omega arith)) (folded_several ns)

folded_step : (b : Bool) (c n : ℕ) (ns : List ℕ) → folded (cond b (with_one c n) c) ns ≡ folded c (cond b (n ∷ ns) ns)
unfolding folded
folded_step true c n ns = refl
folded_step false c n ns = refl

-- what is left of a chain comes to the code of the whole
pub record Rest (rank : ℕ → ℕ) (rows pairs : List ℕ) (base c at : ℕ) (ns : List ℕ) : Type 0 where
  pub left : List ℕ
  pub chain : Chain rank pairs at left
  pub same : folded c (keep (λ n. bit rows (base + rank n)) left) ≡ code (meaning (keep (λ n. bit rows (base + rank n)) ns))

-- where the walk stands: at a link, with a code
pub record Walking (rows pairs : List ℕ) (base head c at : ℕ) : Type 0 where
  pub small : at < 4294967296
  pub is : base ≤ offset_limit → (rank : ℕ → ℕ) (ns : List ℕ) → Chain rank pairs head ns → Rest rank rows pairs base c at ns

-- at the end of a chain no node is left
walked : {rank : ℕ → ℕ} {pairs left : List ℕ} {at : ℕ} (p : ℕ → Bool) (c : ℕ) → Chain rank pairs at left → at ≡ 0 → folded c (keep p left) ≡ c
unfolding folded keep
walked p c end e = refl
walked p c (link a b d x y K) e = absurd (omega arith)

-- one link on: the second number of a pair is the rank and the next link, since a link is less than the number of links
goes :
    {rank : ℕ → ℕ} {pairs left : List ℕ} {at : ℕ} (rows ns : List ℕ) (base c c' at' pair : ℕ) → Chain rank pairs at left
    → folded c (keep (λ n. bit rows (base + rank n)) left) ≡ code (meaning (keep (λ n. bit rows (base + rank n)) ns)) → 0 < at → pair ≡ get_or pairs (2 * at - 1) 0
    → (get_or pairs (2 * at - 2) 0 < node_limit → c' ≡ cond (bit rows (base + pair / link_count)) (with_one c (get_or pairs (2 * at - 2) 0)) c)
    → at' ≡ min (pair % link_count) (at - 1) → Rest rank rows pairs base c' at' ns
goes rows ns base c c' at' pair end same l p f g = absurd (omega arith)
goes {rank} {pairs} rows ns base c c' at' pair (link {a} {next} {n} {ns = left} few down small node second K) same l p f g =
    let i : 2 * suc a - 1 ≡ 2 * a + 1 = omega arith in
    let j : 2 * suc a - 2 ≡ 2 * a = omega arith in
    let q : pair ≡ rank n * link_count + next = p ∙ ap (λ (k : ℕ). get_or pairs k 0) i ∙ second in
    let over : pair / link_count ≡ rank n = omega arith in
    let z : at' ≡ next = omega arith in
    let m : get_or pairs (2 * suc a - 2) 0 ≡ n = ap (λ (k : ℕ). get_or pairs k 0) j ∙ node in
    let h : c' ≡ cond (bit rows (base + rank n)) (with_one c n) c = rw (over, m) at (f (omega arith)) in
    record {
      left = left;
      chain = rw z K;
      same =
          ap (λ (x : ℕ). folded x (keep (λ k. bit rows (base + rank k)) left)) h ∙ folded_step (bit rows (base + rank n)) c n (keep (λ k. bit rows (base + rank k)) left)
          ∙ ap (folded c) (sym (keep_cons (λ k. bit rows (base + rank k)) n left)) ∙ same;
    }

module _ {rows pairs : List ℕ} {base head : ℕ} where
  pub walking_starts : {at : ℕ} → head < 4294967296 → at ≡ head → Walking rows pairs base head 0 at
  walking_starts {at} l e =
      record {
        small = omega arith;
        is = λ few rank ns K. record { left = ns; chain = rw e K; same = folded_means (keep (λ n. bit rows (base + rank n)) ns) };
      }

  pub walking_ends : {c at : ℕ} → Walking rows pairs base head c at → at ≤ 0 → FindsAmong rows pairs base head c
  walking_ends {c} s l =
      record { is = λ few rank ns K. let R = s.is few rank ns K in sym (walked (λ n. bit rows (base + rank n)) c R.chain (omega arith)) ∙ R.same }

  pub walking_goes : {c c' at at' pair offset : ℕ} → Walking rows pairs base head c at → 0 < at → offset ≡ min base offset_limit → pair ≡ get_or pairs (2 * at - 1) 0
      → (get_or pairs (2 * at - 2) 0 < node_limit → c' ≡ cond (bit rows (offset + pair / link_count)) (with_one c (get_or pairs (2 * at - 2) 0)) c)
      → at' ≡ min (pair % link_count) (at - 1) → Walking rows pairs base head c' at'
  walking_goes {c} {c'} {at} {at'} {pair} {offset} s l o p f g =
      record {
        small = omega (arith, s.small);
        is =
            λ few rank ns K.
            let R = s.is few rank ns K in
            let e : offset ≡ base = omega arith in
            goes rows ns base c c' at' pair R.chain R.same l p (rw e at f) g;
      }

-- ---- what the code is, by whether the bit is set
pub bit_chosen : {h b : Bool} {c' m n w : ℕ} (c : ℕ) → h ≡ b → n ≡ w → (n < node_limit → m ≡ with_one c n) → c' ≡ cond h m c → w < node_limit → c' ≡ cond b (with_one c w) c
bit_chosen {b = b} {m = m} c h e f q l =
    q ∙ ap (λ (x : Bool). cond x m c) h ∙ ap (λ (x : ℕ). cond b x c) (f (omega arith) ∙ ap (with_one c) e)
