-- `reaches` computes `Reaches`: what is in the closure of a list of edges is what is reached over one or more of them.
use mathlib.Core.Path.{◌≡◌, refl, sym, ap, ap₂, subst}
use mathlib.Core.Logic.{◌↔◌, ◌⊎◌, inl, inr, ⊎_elim}
use mathlib.Core.Bool.{Bool, true, false, cond, ◌&&◌}
use mathlib.Core.List.Memᴰ
use mathlib.Core.List.{List, [], ◌∷◌, map, flat_map, Memᴰ}
use Prim.Native.Nat.{ℕ}
use borrow.Author.Tests.{eqb-true, eq-eqb}
use lib.Dec.{eqb}
use Rattle.relations.specs.Select.{keep}
use Rattle.relations.specs.Reach.{Reaches, direct, onward, Edge, edge, Joins, has, added, sources, targets, closure, reaches}
use Rattle.relations.proofs.Select.{and_fst, and_snd, and_both, keep_mem, mem_keep, any_mem, mem_any, flat_mem, mem_flat}

-- one after the other; and over a wider relation
pub reaches_trans : {E : ℕ → ℕ → Type 0} {a b c : ℕ} → Reaches E a b → Reaches E b c → Reaches E a c
reaches_trans (direct e) s = onward e s
reaches_trans (onward e r) s = onward e (reaches_trans r s)

pub reaches_wider : {E F : ℕ → ℕ → Type 0} → ((a b : ℕ) → E a b → F a b) → {a b : ℕ} → Reaches E a b → Reaches F a b
reaches_wider h (direct {a} {b} e) = direct (h a b e)
reaches_wider h (onward {a} {b} e r) = onward (h a b e) (reaches_wider h r)

-- membership, tested
has_mem : (es : List Edge) (e : Edge) → has es e ≡ true → Memᴰ e es
has_mem es e h =
    let r = any_mem (λ (f : Edge). eqb f.from e.from && eqb f.to e.to) es h in
    let f = r.0 in
    let q : e ≡ f = ap₂ edge (sym (eqb-true f.from e.from (and_fst _ (eqb f.to e.to) r.2))) (sym (eqb-true f.to e.to (and_snd (eqb f.from e.from) _ r.2))) in
    Memᴰ.cast q r.1

mem_has : (es : List Edge) (e : Edge) → Memᴰ e es → has es e ≡ true
mem_has es e m =
    mem_any (λ (f : Edge). eqb f.from e.from && eqb f.to e.to) es m
    (and_both (eqb e.from e.from) (eqb e.to e.to) (eq-eqb e.from e.from refl) (eq-eqb e.to e.to refl))

-- added edges
added_mem : (es new : List Edge) (e : Edge) → Memᴰ e (added es new) → Memᴰ e es ⊎ Memᴰ e new
unfolding added
added_mem es [] e m = inl m
added_mem es (f ∷ new) e m = by (has (added es new) f) m (λ m'. added_mem es new e m')
  where
    on : Memᴰ e es ⊎ Memᴰ e new → Memᴰ e es ⊎ Memᴰ e (f ∷ new)
    on (inl a) = inl a
    on (inr b) = inr (Memᴰ.tail b)

    by : (b : Bool) → Memᴰ e (cond b (added es new) (f ∷ added es new)) → (Memᴰ e (added es new) → Memᴰ e es ⊎ Memᴰ e new) → Memᴰ e es ⊎ Memᴰ e (f ∷ new)
    by true m more = on (more m)
    by false m more = ⊎_elim (λ q. inr (Memᴰ.head q)) (λ m'. on (more m')) (Memᴰ.cases_cons m)

mem_added : (es new : List Edge) (e : Edge) → Memᴰ e es ⊎ Memᴰ e new → Memᴰ e (added es new)
unfolding added
mem_added es [] e (inl m) = m
mem_added es [] e (inr m) = absurd (Memᴰ.not-nil m)
mem_added es (f ∷ new) e h = by (has (added es new) f) refl h (λ h'. mem_added es new e h')
  where
    keep_it : (b : Bool) → Memᴰ e (added es new) → Memᴰ e (cond b (added es new) (f ∷ added es new))
    keep_it true m = m
    keep_it false m = Memᴰ.tail m

    head_it : (b : Bool) → has (added es new) f ≡ b → e ≡ f → Memᴰ e (cond b (added es new) (f ∷ added es new))
    head_it true t q = Memᴰ.cast q (has_mem (added es new) f t)
    head_it false t q = Memᴰ.head q

    by :
        (b : Bool) → has (added es new) f ≡ b → Memᴰ e es ⊎ Memᴰ e (f ∷ new) → (Memᴰ e es ⊎ Memᴰ e new → Memᴰ e (added es new)) →
        Memᴰ e (cond b (added es new) (f ∷ added es new))
    by b t (inl m) more = keep_it b (more (inl m))
    by b t (inr m) more = ⊎_elim (λ q. head_it b t q) (λ m'. keep_it b (more (inr m'))) (Memᴰ.cases_cons m)

-- edges from each of some vertices to its list
pub pairs_mem : (f : ℕ → List ℕ) (xs : List ℕ) (e : Edge) → Memᴰ e (flat_map (λ a. map (edge a) (f a)) xs) → Memᴰ e.from xs × Memᴰ e.to (f e.from)
pairs_mem f xs e m =
    let r = flat_mem (λ a. map (edge a) (f a)) xs m in
    let l = Memᴰ.of_map (edge r.0) (f r.0) r.2 in
    let q : e.from ≡ r.0 = sym (ap (λ (z : Edge). z.from) l.2) in
    (Memᴰ.cast q r.1, subst (λ (z : ℕ). Memᴰ e.to (f z)) (sym q) (Memᴰ.cast (sym (ap (λ (z : Edge). z.to) l.2)) l.1))

pub mem_pairs : (f : ℕ → List ℕ) (xs : List ℕ) (a b : ℕ) → Memᴰ a xs → Memᴰ b (f a) → Memᴰ (edge a b) (flat_map (λ a. map (edge a) (f a)) xs)
mem_pairs f xs a b m l = mem_flat (λ a. map (edge a) (f a)) xs m (Memᴰ.map (edge a) l)

-- a vertex and those that reach it, those that it reaches
source_mem : (c : List Edge) (a s : ℕ) → Memᴰ a (sources c s) → (a ≡ s) ⊎ Joins c a s
source_mem c a s m =
    ⊎_elim (λ q. inl q)
    (λ l.
    let r = Memᴰ.of_map (λ (e : Edge). e.from) (keep (λ e. eqb e.to s) c) l in
    let k = keep_mem (λ (e : Edge). eqb e.to s) c r.1 in
    inr (Memᴰ.cast (ap₂ edge (sym r.2) (sym (eqb-true r.0.to s k.1))) k.0))
    (Memᴰ.cases_cons m)

mem_source : (c : List Edge) (a s : ℕ) → (a ≡ s) ⊎ Joins c a s → Memᴰ a (sources c s)
mem_source c a s (inl q) = Memᴰ.head q
mem_source c a s (inr m) = Memᴰ.tail (Memᴰ.map (λ (e : Edge). e.from) (mem_keep (λ (e : Edge). eqb e.to s) c m (eq-eqb s s refl)))

target_mem : (c : List Edge) (b t : ℕ) → Memᴰ b (targets c t) → (b ≡ t) ⊎ Joins c t b
target_mem c b t m =
    ⊎_elim (λ q. inl q)
    (λ l.
    let r = Memᴰ.of_map (λ (e : Edge). e.to) (keep (λ e. eqb e.from t) c) l in
    let k = keep_mem (λ (e : Edge). eqb e.from t) c r.1 in
    inr (Memᴰ.cast (ap₂ edge (sym (eqb-true r.0.from t k.1)) (sym r.2)) k.0))
    (Memᴰ.cases_cons m)

mem_target : (c : List Edge) (b t : ℕ) → (b ≡ t) ⊎ Joins c t b → Memᴰ b (targets c t)
mem_target c b t (inl q) = Memᴰ.head q
mem_target c b t (inr m) = Memᴰ.tail (Memᴰ.map (λ (e : Edge). e.to) (mem_keep (λ (e : Edge). eqb e.from t) c m (eq-eqb t t refl)))

-- what an edge adds to a closure: all that reach its start, joined to all that its end reaches
abbrev Added : List Edge → Edge → ℕ → ℕ → Type 0
Added c e a b = ((a ≡ e.from) ⊎ Joins c a e.from) × ((b ≡ e.to) ⊎ Joins c e.to b)

closure_cases : (e : Edge) (es : List Edge) (a b : ℕ) → Joins (closure (e ∷ es)) a b → Joins (closure es) a b ⊎ Added (closure es) e a b
unfolding closure
closure_cases e es a b m =
    ⊎_elim (λ l. inl l)
    (λ l.
    let r = pairs_mem (λ x. targets (closure es) e.to) (sources (closure es) e.from) (edge a b) l in
    inr (source_mem (closure es) a e.from r.0, target_mem (closure es) b e.to r.1))
    (added_mem (closure es) _ (edge a b) m)

closure_add : (e : Edge) (es : List Edge) (a b : ℕ) → Joins (closure es) a b ⊎ Added (closure es) e a b → Joins (closure (e ∷ es)) a b
unfolding closure
closure_add e es a b (inl l) = mem_added (closure es) _ (edge a b) (inl l)
closure_add e es a b (inr r) =
    mem_added (closure es) _ (edge a b)
    (inr (mem_pairs (λ x. targets (closure es) e.to) (sources (closure es) e.from) a b (mem_source (closure es) a e.from r.0) (mem_target (closure es) b e.to r.1)))

-- sound: what the closure holds is reached
closure_sound : (es : List Edge) (a b : ℕ) → Joins (closure es) a b → Reaches (Joins es) a b
unfolding closure
closure_sound [] a b m = absurd (Memᴰ.not-nil m)
closure_sound (e ∷ es) a b m = by (λ x y m'. reaches_wider (λ x y l. Memᴰ.tail l) (closure_sound es x y m')) (closure_cases e es a b m)
  where
    by : ((x y : ℕ) → Joins (closure es) x y → Reaches (Joins (e ∷ es)) x y) → Joins (closure es) a b ⊎ Added (closure es) e a b → Reaches (Joins (e ∷ es)) a b
    by old (inl l) = old a b l
    by old (inr r) =
        let here : Reaches (Joins (e ∷ es)) e.from e.to = direct (Memᴰ.head refl) in
        let on : Reaches (Joins (e ∷ es)) e.from b = ⊎_elim (λ q. subst (λ (x : ℕ). Reaches (Joins (e ∷ es)) e.from x) (sym q) here) (λ l. reaches_trans here (old e.to b l)) r.1 in
        ⊎_elim (λ q. subst (λ (x : ℕ). Reaches (Joins (e ∷ es)) x b) (sym q) on) (λ l. reaches_trans (old a e.from l) on) r.0

-- complete: the closure holds each edge, and with two steps in a row the way over both
closure_edge : (es : List Edge) (a b : ℕ) → Joins es a b → Joins (closure es) a b
closure_edge [] a b m = absurd (Memᴰ.not-nil m)
closure_edge (e ∷ es) a b m =
    ⊎_elim (λ q. closure_add e es a b (inr (inl (ap (λ (x : Edge). x.from) q), inl (ap (λ (x : Edge). x.to) q))))
    (λ m'. closure_add e es a b (inl (closure_edge es a b m'))) (Memᴰ.cases_cons m)

closure_trans : (es : List Edge) (a b c : ℕ) → Joins (closure es) a b → Joins (closure es) b c → Joins (closure es) a c
unfolding closure
closure_trans [] a b c m l = absurd (Memᴰ.not-nil m)
closure_trans (e ∷ es) a b c m l =
    closure_add e es a c (by (λ x y z p q. closure_trans es x y z p q) (closure_cases e es a b m) (closure_cases e es b c l))
  where
    by :
        ((x y z : ℕ) → Joins (closure es) x y → Joins (closure es) y z → Joins (closure es) x z) → Joins (closure es) a b ⊎ Added (closure es) e a b →
        Joins (closure es) b c ⊎ Added (closure es) e b c → Joins (closure es) a c ⊎ Added (closure es) e a c
    by old (inl p) (inl q) = inl (old a b c p q)
    by old (inl p) (inr q) =
        inr (⊎_elim (λ z. inr (subst (λ (x : ℕ). Joins (closure es) a x) z p)) (λ s. inr (old a b e.from p s)) q.0, q.1)
    by old (inr p) (inl q) =
        inr (p.0, ⊎_elim (λ z. inr (subst (λ (x : ℕ). Joins (closure es) x c) z q)) (λ s. inr (old e.to b c s q)) p.1)
    by old (inr p) (inr q) = inr (p.0, q.1)

closure_complete : (es : List Edge) {a b : ℕ} → Reaches (Joins es) a b → Joins (closure es) a b
closure_complete es (direct {a} {b} m) = closure_edge es a b m
closure_complete es (onward {a} {b} {c} m r) = closure_trans es a b c (closure_edge es a b m) (closure_complete es r)

-- the theorem
pub reaches_iff : (es : List Edge) (a b : ℕ) → (reaches es a b ≡ true) ↔ Reaches (Joins es) a b
reaches_iff es a b = (λ h. closure_sound es a b (has_mem (closure es) (edge a b) h), λ r. mem_has (closure es) (edge a b) (closure_complete es r))
