-- What suits the nodes of a range that ask, stored from the last to the first.
use mathlib.Core.Path.{◌≡◌, refl, sym, ◌∙◌}
use mathlib.Core.Logic.{◌⊎◌, inl, inr, by_cases}
use mathlib.Core.Bool.{true, false, false≢true}
use mathlib.Core.List.{List}
use Prim.Native.Nat.{ℕ, ◌-◌, ◌≤◌, ◌<◌}
use native.Mathlib.Omega.{arith}
use native.Mathlib.Decide.{ℕ_discrete, dec_lt}
use lib.ListN.{length, get_or, set, length-set}
use Rattle.columns.proofs.Laws.{at_set, at_other}
use Rattle.inheritance.specs.Steps.{asks_by, StoresEach}

-- what suits by one rule suits by another
pub stores_as : {kinds roles : List ℕ} {Suits Other : ℕ → ℕ → Type 0} {lo hi : ℕ} {bound bound' : List ℕ} → ((n x : ℕ) → Suits n x → Other n x)
    → StoresEach kinds roles Suits lo hi bound bound' → StoresEach kinds roles Other lo hi bound bound'
stores_as f s = record { stored = λ n a b c e. f n _ (s.stored n a b c e); other = s.other; before = s.before; behind = s.behind }

pub record Storing (kinds roles : List ℕ) (Suits : ℕ → ℕ → Type 0) (lo hi : ℕ) (bound₁ bound : List ℕ) (i : ℕ) : Type 0 where
  pub long : length bound ≡ length bound₁
  pub upto : i ≤ hi
  pub low : (lo ≤ i) ⊎ (i ≡ hi)
  pub stores : StoresEach kinds roles Suits i hi bound₁ bound

module _ {kinds roles : List ℕ} {Suits : ℕ → ℕ → Type 0} where
  pub storing_starts : {lo hi : ℕ} {bound : List ℕ} → Storing kinds roles Suits lo hi bound bound hi
  storing_starts =
      record {
        long = refl;
        upto = omega arith;
        low = inr refl;
        stores = record { stored = λ n l h. absurd (omega arith); other = λ n e. refl; before = λ n l. refl; behind = λ n l. refl };
      }

  module _ {lo hi i : ℕ} {bound₁ bound : List ℕ} (s : Storing kinds roles Suits lo hi bound₁ bound i) where
    pub storing_ends : i ≤ lo → StoresEach kinds roles Suits lo hi bound₁ bound
    storing_ends l =
        record {
          stored = λ n a. s.stores.stored n (omega arith);
          other = s.stores.other;
          before = λ n a. by_cases (dec_lt n i) (λ b. s.stores.before n b) (λ b. outside n a b s.low);
          behind = s.stores.behind;
        }
      where
        outside : (n : ℕ) → n < lo → (n < i → ⊥) → (lo ≤ i) ⊎ (i ≡ hi) → get_or bound n 0 ≡ get_or bound₁ n 0
        outside n a b (inl h) = absurd (b (omega arith))
        outside n a b (inr h) = s.stores.behind n (omega (arith, b))

    module _ (l : lo < i) where
      pub storing_skip : asks_by (get_or kinds (i - 1) 0) (get_or roles (i - 1) 0) ≡ false → Storing kinds roles Suits lo hi bound₁ bound (i - 1)
      storing_skip h =
          record {
            long = s.long;
            upto = omega (arith, s.upto);
            low = inl (omega arith);
            stores =
                record {
                  stored =
                      λ n a b k e.
                      by_cases (ℕ_discrete n (i - 1)) (λ q. absurd (false≢true (sym h ∙ (rw q at e)))) (λ q. s.stores.stored n (omega (arith, q)) b k e);
                  other = s.stores.other;
                  before = λ n a. s.stores.before n (omega arith);
                  behind = s.stores.behind;
                };
          }

      pub storing_more : {r : ℕ} {bound' : List ℕ} → asks_by (get_or kinds (i - 1) 0) (get_or roles (i - 1) 0) ≡ true → Suits (i - 1) r
          → bound' ≡ set bound (i - 1) r → Storing kinds roles Suits lo hi bound₁ bound' (i - 1)
      storing_more {r} {bound'} h g e =
          rw e
          (record {
            long = length-set bound (i - 1) r ∙ s.long;
            upto = omega (arith, s.upto);
            low = inl (omega arith);
            stores =
                record {
                  stored = λ n a b k q. by_cases (ℕ_discrete n (i - 1)) (λ z. here n z k) (λ z. let y = away n z in rw y (s.stores.stored n (omega (arith, z)) b k q));
                  other = λ n q. by_cases (ℕ_discrete n (i - 1)) (λ z. absurd (false≢true (sym (rw z at q) ∙ h))) (λ z. away n z ∙ s.stores.other n q);
                  before = λ n a. away n (λ z. omega arith) ∙ s.stores.before n (omega arith);
                  behind = λ n a. away n (λ z. omega (arith, s.upto)) ∙ s.stores.behind n a;
                };
          })
        where
          away : (n : ℕ) → (n ≡ i - 1 → ⊥) → get_or (set bound (i - 1) r) n 0 ≡ get_or bound n 0
          away n z = at_other bound (i - 1) n r 0 z

          here : (n : ℕ) → n ≡ i - 1 → n < length bound₁ → Suits n (get_or (set bound (i - 1) r) n 0)
          here n z k =
              let at : get_or (set bound (i - 1) r) (i - 1) 0 ≡ r = at_set bound (i - 1) r 0 (omega (arith, s.long)) in
              rw (z, at) g
