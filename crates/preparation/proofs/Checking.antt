-- The tests of the columns: whether they fit each other, and whether there is room.
use mathlib.Core.Path.{◌≡◌, sym}
use mathlib.Core.Logic.{⊎_elim}
use mathlib.Core.Bool.{true, false, false≢true}
use mathlib.Core.List.{List}
use Prim.Native.Nat.{ℕ, ◌+◌, min, ◌≤◌, ◌<◌}
use native.Mathlib.Omega.{arith}
use borrow.Author.Tests.{leb-true, leb-false}
use lib.Dec.{leb}
use lib.ListN.{length, get_or}
use Rattle.relations.proofs.Select.{le_or}
use Rattle.express.specs.Syntax.Tree.{Table, count, token, symbol}
use Rattle.scopes.specs.Entries.{radix}
use Rattle.scopes.specs.Preparation.{Consistent, Room, Decides}
use Rattle.preparation.specs.Fitting.{AtMost, Fitting}

pub refutes : {P : Type 0} → (P → ⊥) → Decides P false
refutes n = record { yes = λ e. absurd (false≢true e); no = λ e p. n p }

pub confirms : {P : Type 0} → P → Decides P true
confirms p = record { yes = λ e. p; no = λ e q. false≢true (sym e) }

pub room_decided :
    (entries keys nodes heads next a b : ℕ) → (heads ≡ 0 → ⊥) → a ≡ min keys nodes → b ≡ min a next →
    Decides (Room entries keys nodes heads next) (leb entries b)
room_decided entries keys nodes heads next a b z p q =
    record {
      yes = λ e.
          let l = leb-true entries b e in
          record { keys_room = omega arith; nodes_room = omega arith; heads_room = omega (arith, z); next_room = omega arith };
      no = λ e r. let l = leb-false entries b e in omega (arith, r.keys_room, r.nodes_room, r.next_room);
    }

-- the nodes below i pass
pub record Passing (t : Table) (i : ℕ) : Type 0 where
  pub few : count t < radix
  pub tokens : count t ≤ length t.tokens
  pub roles : count t ≤ length t.roles
  pub inside : (n : ℕ) → n < i → token t n < length t.symbols
  pub small : (n : ℕ) → n < i → symbol t n < radix

module _ {t : Table} where
  pub passing_starts : count t < radix → count t ≤ length t.tokens → count t ≤ length t.roles → Passing t 0
  passing_starts f k r = record { few = f; tokens = k; roles = r; inside = λ n l. absurd (omega arith); small = λ n l. absurd (omega arith) }

  pub passing_goes_on : {i : ℕ} → Passing t i → token t i < length t.symbols → symbol t i < radix → Passing t (i + 1)
  passing_goes_on {i} P a b =
      record {
        few = P.few;
        tokens = P.tokens;
        roles = P.roles;
        inside = λ n l. either (λ n. token t n < length t.symbols) n l a (P.inside n);
        small = λ n l. either (λ n. symbol t n < radix) n l b (P.small n);
      }
    where
      either : (Q : ℕ → Type 0) (n : ℕ) → n < i + 1 → Q i → (n < i → Q n) → Q n
      either Q n l q more = ⊎_elim (λ (h : i ≤ n). let e : n ≡ i = omega arith in rw e q) (λ (h : n < i). more h) (le_or i n)

  pub passing_ends : {i : ℕ} → Passing t i → count t ≤ i → Decides (Consistent t) true
  passing_ends P l =
      confirms (record { few = P.few; tokens = P.tokens; roles = P.roles; inside = λ n h. P.inside n (omega arith); small = λ n h. P.small n (omega arith) })

  pub too_many : radix ≤ count t → Decides (Consistent t) false
  too_many l = refutes (λ c. omega (arith, c.few))

  pub too_short : {m : ℕ} → m ≡ min (length t.tokens) (length t.roles) → m < count t → Decides (Consistent t) false
  too_short e l = refutes (λ c. omega (arith, c.tokens, c.roles))

  pub outside : {i : ℕ} → i < count t → length t.symbols ≤ token t i → Decides (Consistent t) false
  outside {i} l h = refutes (λ c. omega (arith, c.inside i l))

  pub too_high : {i : ℕ} → i < count t → radix ≤ symbol t i → Decides (Consistent t) false
  too_high {i} l h = refutes (λ c. omega (arith, c.small i l))

-- ---- columns that surely fit each other
pub largest_starts : {column : List ℕ} {most : ℕ} → AtMost column 0 most
largest_starts = record { is = λ i l. absurd (omega arith) }

pub largest_goes_on : {column : List ℕ} {most r i : ℕ} → AtMost column i most → most ≤ r → get_or column i 0 ≤ r → AtMost column (i + 1) r
largest_goes_on {column} {most} {r} {i} A a b =
    record { is = λ k l. ⊎_elim (λ (h : i ≤ k). let e : k ≡ i = omega arith in rw e b) (λ (h : k < i). omega (arith, A.is k h)) (le_or i k) }

pub largest_ends : {column : List ℕ} {most i : ℕ} → AtMost column i most → length column ≤ i → AtMost column (length column) most
largest_ends A l = record { is = λ k h. A.is k (omega arith) }

pub fitting : {tokens symbols : List ℕ} {a b : ℕ} → AtMost tokens (length tokens) a → a < length symbols → AtMost symbols (length symbols) b → b < radix → Fitting tokens symbols
fitting A l B h = record { inside = λ n k. omega (arith, A.is n k); small = λ k n. omega (arith, B.is k n) }

pub fits_surely : {t : Table} → count t < radix → count t ≤ length t.tokens → count t ≤ length t.roles → Fitting t.tokens t.symbols → Decides (Consistent t) true
fits_surely {t} f k r F =
    confirms
    (record {
      few = f;
      tokens = k;
      roles = r;
      inside = λ n l. F.inside n (omega arith);
      small = λ n l. F.small (token t n) (F.inside n (omega arith));
    })
