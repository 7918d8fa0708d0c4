-- The stages, for the reader: a stage passes exactly when each node is fine; a refusal is the least fault of the first stage that does not pass.
use mathlib.Core.Path.{◌≡◌, refl, sym, ap, ap₂, ◌∙◌}
use mathlib.Core.Logic.{◌↔◌, ◌≢◌, ◌⊎◌, inl, inr, ⊎_elim}
use mathlib.Core.Bool.{Bool, true, false}
use mathlib.Core.List.Memᴰ
use mathlib.Core.List.{List, [], ◌∷◌, Memᴰ}
use Prim.Native.Nat.{ℕ, zero, suc, ◌+◌, ◌≤◌, ◌<◌}
use native.Mathlib.Omega.{arith}
use borrow.Author.Tests.{eqb-true, eqb-false, ne_eqb, leb-true, leb-false, le-leb}
use lib.Dec.{eqb, leb}
use Rattle.relations.specs.Select.{span}
use Rattle.relations.proofs.Select.{span_mem}
use Rattle.express.specs.Syntax.Tree.{Table, nodes}
use Rattle.express.specs.Names.Fault.{Fault, fault, or_later}
use Rattle.express.specs.Names.Names.{Stage, stages, sooner, least, first_fault, names, Passes, WellNamed, Least, StageFault, here, later}

zero_or : (n : ℕ) → (n ≡ 0) ⊎ (n ≢ 0)
zero_or zero = inl refl
zero_or (suc n) = inr (λ (e : suc n ≡ 0). omega arith)

-- which of two is given
data Sooner (f g : Fault) : Type 0 where
  the_first : f.number ≢ 0 → (g.number ≢ 0 → f.place ≤ g.place) → sooner f g ≡ f → Sooner f g
  the_second : (f.number ≢ 0 → (g.number ≢ 0) × (g.place ≤ f.place)) → sooner f g ≡ g → Sooner f g

sooner_is : (f g : Fault) → Sooner f g
sooner_is f g = by (eqb f.number 0) (eqb g.number 0) (leb f.place g.place) refl refl refl
  where
    by : (a b c : Bool) → eqb f.number 0 ≡ a → eqb g.number 0 ≡ b → leb f.place g.place ≡ c → Sooner f g
    by true b c e e' e'' = the_second (λ h. absurd (h (eqb-true _ 0 e))) (rw e)
    by false true c e e' e'' = the_first (eqb-false _ 0 e) (λ h. absurd (h (eqb-true _ 0 e'))) (rw (e, e'))
    by false false true e e' e'' = the_first (eqb-false _ 0 e) (λ h. leb-true _ _ e'') (rw (e, e', e''))
    by false false false e e' e'' =
        let l : g.place < f.place = leb-false _ _ e'' in the_second (λ h. (eqb-false _ 0 e', omega arith)) (rw (e, e', e''))

-- faults of a stage at one place have one number
abbrev pub Untied : List ℕ → Stage → Type 0
Untied ns s = (n k : ℕ) → Memᴰ n ns → Memᴰ k ns → (s n).number ≢ 0 → (s k).number ≢ 0 → (s n).place ≡ (s k).place → (s n).number ≡ (s k).number

module _ (s : Stage) where
  -- fine: each node is
  least_passes : (ns : List ℕ) → (least s ns).number ≡ 0 → Passes ns s
  unfolding least
  least_passes [] e n m = absurd (Memᴰ.not-nil m)
  least_passes (k ∷ ns) e n m = by (sooner_is (s k) (least s ns)) (λ z m'. least_passes ns z n m')
    where
      by : Sooner (s k) (least s ns) → ((least s ns).number ≡ 0 → Memᴰ n ns → (s n).number ≡ 0) → (s n).number ≡ 0
      by (the_first h l q) more = absurd (h (ap (λ (x : Fault). x.number) (sym q) ∙ e))
      by (the_second h q) more =
          let z : (least s ns).number ≡ 0 = ap (λ (x : Fault). x.number) (sym q) ∙ e in
          ⊎_elim (λ p. ap (λ x. (s x).number) p ∙ ⊎_elim (λ y. y) (λ y. absurd ((h y).0 z)) (zero_or (s k).number)) (λ m'. more z m') (Memᴰ.cases_cons m)

  passes_least : (ns : List ℕ) → Passes ns s → (least s ns).number ≡ 0
  unfolding least
  passes_least [] h = refl
  passes_least (k ∷ ns) h = by (sooner_is (s k) (least s ns)) (passes_least ns (λ n m. h n (Memᴰ.tail m)))
    where
      by : Sooner (s k) (least s ns) → (least s ns).number ≡ 0 → (sooner (s k) (least s ns)).number ≡ 0
      by (the_first g l q) z = absurd (g (h k (Memᴰ.head refl)))
      by (the_second g q) z = ap (λ (x : Fault). x.number) q ∙ z

  -- a stage passes exactly when each node is fine
  pub passes_iff : (ns : List ℕ) → ((least s ns).number ≡ 0) ↔ Passes ns s
  passes_iff ns = (least_passes ns, passes_least ns)

  -- not fine: a fault of the stage, and none has a smaller place
  pub least_is : (ns : List ℕ) → (least s ns).number ≢ 0 → Least ns s (least s ns)
  unfolding least
  least_is [] h = absurd (h refl)
  least_is (k ∷ ns) h = by (sooner_is (s k) (least s ns)) (λ z. least_is ns z)
    where
      weaker : {f : Fault} → Least ns s f → ((s k).number ≢ 0 → f.place ≤ (s k).place) → Least (k ∷ ns) s f
      weaker L low = record {
        node = L.node;
        among = Memᴰ.tail L.among;
        is = L.is;
        fault = L.fault;
        least = λ n m g. ⊎_elim (λ p. let q : s n ≡ s k = ap s p in
            let r : (s k).number ≢ 0 = λ (e : (s k).number ≡ 0). g (ap (λ (x : Fault). x.number) q ∙ e) in
            omega (arith, low r, ap (λ (x : Fault). x.place) q)) (λ m'. L.least n m' g) (Memᴰ.cases_cons m);
      }

      by : Sooner (s k) (least s ns) → ((least s ns).number ≢ 0 → Least ns s (least s ns)) → Least (k ∷ ns) s (sooner (s k) (least s ns))
      by (the_first g l q) more = rw q (record {
        node = k;
        among = Memᴰ.head refl;
        is = refl;
        fault = g;
        least = λ n m f. ⊎_elim (λ p. let e : (s n).place ≡ (s k).place = ap (λ x. (s x).place) p in omega arith)
            (λ m'. ⊎_elim (λ z. absurd (f (least_passes ns z n m'))) (λ z. let a = l z in let b = (more z).least n m' f in omega arith) (zero_or (least s ns).number))
            (Memᴰ.cases_cons m);
      })
      by (the_second g q) more =
          rw q (weaker (more (λ (e : (least s ns).number ≡ 0). h (ap (λ (x : Fault). x.number) q ∙ e))) (λ z. (g z).1))

  -- a node without a fault plays no part; the first with one is given where none after it has a smaller place
  pub least_skip : (n : ℕ) (ns : List ℕ) → (s n).number ≡ 0 → least s (n ∷ ns) ≡ least s ns
  unfolding least
  least_skip n ns e = rw e

  pub least_first : (n : ℕ) (ns : List ℕ) → (s n).number ≢ 0 → ((m : ℕ) → Memᴰ m ns → (s m).number ≢ 0 → (s n).place ≤ (s m).place) → least s (n ∷ ns) ≡ s n
  unfolding least
  least_first n ns f h = by (sooner_is (s n) (least s ns))
    where
      at_least : (g : (least s ns).number ≢ 0) → (s n).place ≤ (least s ns).place
      at_least g =
          let L = least_is ns g in
          let e = L.is in
          rw (← e) (h L.node L.among (λ z. g (ap (λ (x : Fault). x.number) (sym e) ∙ z)))

      by : Sooner (s n) (least s ns) → sooner (s n) (least s ns) ≡ s n
      by (the_first g l q) = q
      by (the_second g q) =
          let r = g f in
          let l = at_least r.0 in
          rw (ne_eqb (s n).number 0 f, ne_eqb (least s ns).number 0 r.0, le-leb (s n).place (least s ns).place l)

  pub least_rising :
      (i d : ℕ) → ((j : ℕ) → j < i → (s j).number ≡ 0) → (s i).number ≢ 0 → ((j : ℕ) → i < j → (s j).number ≢ 0 → (s i).place ≤ (s j).place) →
      (k e : ℕ) → k + e ≡ i → least s (span k (suc (e + d))) ≡ s i
  unfolding span
  least_rising i d fine f rise k zero q =
      let z : k ≡ i = omega arith in
      rw z (least_first i (span (suc i) (0 + d)) f (λ m l g. let r = span_mem (suc i) (0 + d) m l in rise m (omega arith) g))
  least_rising i d fine f rise k (suc e) q =
      let z : suc e + d ≡ suc (e + d) = omega arith in
      rw z (least_skip k (span (suc k) (suc (e + d))) (fine k (omega arith)) ∙ least_rising i d fine f rise (suc k) e (omega arith))

  -- and it is the only one, where faults at one place have one number
  pub least_only : (ns : List ℕ) → Untied ns s → (f : Fault) → Least ns s f → f ≡ least s ns
  least_only ns tie f L = same (least_is ns (λ (e : (least s ns).number ≡ 0). L.fault (ap (λ (x : Fault). x.number) (sym L.is) ∙ least_passes ns e L.node L.among)))
    where
      same : Least ns s (least s ns) → f ≡ least s ns
      same M =
          let g : (s L.node).number ≢ 0 = λ (e : (s L.node).number ≡ 0). L.fault (ap (λ (x : Fault). x.number) (sym L.is) ∙ e) in
          let h : (s M.node).number ≢ 0 = λ (e : (s M.node).number ≡ 0). M.fault (ap (λ (x : Fault). x.number) (sym M.is) ∙ e) in
          let a = M.least L.node L.among g in
          let b = L.least M.node M.among h in
          let c = ap (λ (x : Fault). x.place) L.is in
          let d = ap (λ (x : Fault). x.place) M.is in
          let p : (s L.node).place ≡ (s M.node).place = omega arith in
          let q = tie L.node M.node L.among M.among g h p in
          sym L.is ∙ ap₂ fault q p ∙ M.is

-- all stages
abbrev pub All : List ℕ → List Stage → Type 0
All ns ss = (s : Stage) → Memᴰ s ss → Passes ns s

all_cons : {ns : List ℕ} {s : Stage} {ss : List Stage} → Passes ns s → All ns ss → All ns (s ∷ ss)
all_cons p ps x m = ⊎_elim (λ q. rw q p) (λ m'. ps x m') (Memᴰ.cases_cons m)

abbrev Chosen : Fault → Fault → Type 0
Chosen f g = ((f.number ≡ 0) × (or_later f g ≡ g)) ⊎ ((f.number ≢ 0) × (or_later f g ≡ f))

or_else : (f g : Fault) → Chosen f g
or_else f g = ⊎_elim (λ e. inl (e, by (eqb f.number 0) refl e)) (λ h. inr (h, no_fault (eqb f.number 0) refl h)) (zero_or f.number)
  where
    by : (b : Bool) → eqb f.number 0 ≡ b → f.number ≡ 0 → or_later f g ≡ g
    by true e z = rw e
    by false e z = absurd (eqb-false _ 0 e z)

    no_fault : (b : Bool) → eqb f.number 0 ≡ b → f.number ≢ 0 → or_later f g ≡ f
    no_fault true e h = absurd (h (eqb-true _ 0 e))
    no_fault false e h = rw e

module _ (ns : List ℕ) where
  fine_all : (ss : List Stage) → (first_fault ss ns).number ≡ 0 → All ns ss
  unfolding first_fault
  fine_all [] e s m = absurd (Memᴰ.not-nil m)
  fine_all (x ∷ ss) e s m = by (or_else (least x ns) (first_fault ss ns)) (λ z m'. fine_all ss z s m')
    where
      by : Chosen (least x ns) (first_fault ss ns) → ((first_fault ss ns).number ≡ 0 → Memᴰ s ss → Passes ns s) → Passes ns s
      by (inl q) more =
          ⊎_elim (λ p. rw p ((passes_iff x ns).0 q.0)) (λ m'. more (ap (λ (f : Fault). f.number) (sym q.1) ∙ e) m') (Memᴰ.cases_cons m)
      by (inr q) more = absurd (q.0 (ap (λ (f : Fault). f.number) (sym q.1) ∙ e))

  all_fine : (ss : List Stage) → All ns ss → (first_fault ss ns).number ≡ 0
  unfolding first_fault
  all_fine [] h = refl
  all_fine (s ∷ ss) h = by (or_else (least s ns) (first_fault ss ns)) (all_fine ss (λ x m. h x (Memᴰ.tail m)))
    where
      by : Chosen (least s ns) (first_fault ss ns) → (first_fault ss ns).number ≡ 0 → (or_later (least s ns) (first_fault ss ns)).number ≡ 0
      by (inl q) z = ap (λ (f : Fault). f.number) q.1 ∙ z
      by (inr q) z = absurd (q.0 ((passes_iff s ns).1 (h s (Memᴰ.head refl))))

  fault_refused : (ss : List Stage) → (first_fault ss ns).number ≢ 0 → StageFault ns (first_fault ss ns) ss
  unfolding first_fault
  fault_refused [] h = absurd (h refl)
  fault_refused (s ∷ ss) h = by (or_else (least s ns) (first_fault ss ns)) (λ z. fault_refused ss z)
    where
      by : Chosen (least s ns) (first_fault ss ns) → ((first_fault ss ns).number ≢ 0 → StageFault ns (first_fault ss ns) ss) → StageFault ns (or_later (least s ns) (first_fault ss ns)) (s ∷ ss)
      by (inl q) more =
          rw q.1 (later ((passes_iff s ns).0 q.0) (more (λ (e : (first_fault ss ns).number ≡ 0). h (ap (λ (f : Fault). f.number) q.1 ∙ e))))
      by (inr q) more = rw q.1 (here (least_is s ns q.0))

  refused_only : (ss : List Stage) → ((s : Stage) → Memᴰ s ss → Untied ns s) → (f : Fault) → StageFault ns f ss → f ≡ first_fault ss ns
  unfolding first_fault
  refused_only [] tie f x'' = elim x'' [ ]
  refused_only (s ∷ ss) tie f (here L) =
      let e = least_only s ns (tie s (Memᴰ.head refl)) f L in
      ⊎_elim (λ q. absurd (L.fault (ap (λ (x : Fault). x.number) e ∙ q.0))) (λ q. e ∙ sym q.1) (or_else (least s ns) (first_fault ss ns))
  refused_only (s ∷ ss) tie f (later p r) =
      ⊎_elim (λ q. refused_only ss (λ x m. tie x (Memᴰ.tail m)) f r ∙ sym q.1) (λ q. absurd (q.0 ((passes_iff s ns).1 p)))
      (or_else (least s ns) (first_fault ss ns))

-- The names of a file are fine exactly when each node is, in every stage.
pub names_passes : (t : Table) → ((names t).number ≡ 0) ↔ WellNamed t
unfolding names stages
names_passes t = (
  λ e. let h = fine_all (nodes t) (stages t) e in
      record {
        once = h _ (Memᴰ.head refl);
        types = h _ (Memᴰ.tail (Memᴰ.head refl));
        type_cycles = h _ (Memᴰ.tail (Memᴰ.tail (Memᴰ.head refl)));
        expressions = h _ (Memᴰ.tail (Memᴰ.tail (Memᴰ.tail (Memᴰ.head refl))));
        constant_cycles = h _ (Memᴰ.tail (Memᴰ.tail (Memᴰ.tail (Memᴰ.tail (Memᴰ.head refl)))));
      },
  λ W.
      all_fine (nodes t) (stages t)
      (all_cons W.once
      (all_cons W.types (all_cons W.type_cycles (all_cons W.expressions (all_cons W.constant_cycles (λ s m. absurd (Memᴰ.not-nil m))))))),
)

-- Else `names` is the least fault of the first stage that has one, and, without ties, nothing else is.
pub names_refused : (t : Table) → (names t).number ≢ 0 → StageFault (nodes t) (names t) (stages t)
unfolding names
names_refused t h = fault_refused (nodes t) (stages t) h

pub names_only : (t : Table) → ((s : Stage) → Memᴰ s (stages t) → Untied (nodes t) s) → (f : Fault) → StageFault (nodes t) f (stages t) → f ≡ names t
unfolding names
names_only t tie f r = refused_only (nodes t) (stages t) tie f r
