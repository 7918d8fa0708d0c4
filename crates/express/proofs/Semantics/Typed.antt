-- What an accepted typing says: the kind of each node of a constant is the one found there from the kinds of its children.
use mathlib.Core.Path.{◌≡◌, refl, sym, ap, ap₂, ◌∙◌}
use mathlib.Core.Logic.{⊎_elim, ◌↔◌}
use mathlib.Core.Bool.{Bool, true, false, cond}
use mathlib.Core.List.Memᴰ
use mathlib.Core.List.{List, [], ◌∷◌, flat_map, Memᴰ}
use Prim.Native.Nat.{ℕ, zero, suc, ◌+◌, ◌≤◌, ◌<◌}
use native.Mathlib.Decide.{ℕ_discrete, dec_lt}
use native.Mathlib.Omega.{arith}
use borrow.Author.Tests.{eqb-true, eq-eqb}
use lib.ListN.{length, set, replicate, length-set, length-replicate}
use lib.Seq.{get_or-set_same, get_or-set_other}
use Rattle.express.specs.Syntax.NodeKind as node
use Rattle.relations.specs.Select.{span, keep, Ascending, nil, cons}
use Rattle.express.specs.Syntax.Tree.{Table, count, kind, size, first, nodes, is, within}
use Rattle.express.proofs.Syntax.Formed.{Formed}
use Rattle.express.specs.Semantics.Shape.{shape}
use Rattle.express.specs.Semantics.Operate.{Kind, untyped}
use Rattle.express.specs.Semantics.Kind.{Finding, of_kind, fault, finding, kind_at, Typing, typed, ill_typed, if_found}
use Rattle.express.specs.Semantics.Kind.{type_nodes, type_nodes_in, constants, typing, Constant, Fits, WellTyped, FirstFault}
use Rattle.relations.proofs.Select.{mem_span, span_mem, mem_keep, keep_mem, mem_flat, flat_mem, ascending_from, ascending_lower, ascending_span, ascending_append}
use Rattle.express.proofs.Semantics.Spans.{in_constant, apart, Below, OfConstant, of_constant, constant_of}
use Rattle.express.proofs.Semantics.Scratch.{same_finding_in}
use Rattle.express.proofs.Semantics.Walk.{all_within, type_constants_is}

module _ (t : Table) (f : Formed t) where
  constants_rising :
      (n k lo : ℕ) → n + k ≡ count t → ((c : ℕ) → n ≤ c → c < count t → kind t c ≡ node.constant → lo ≤ first t c) →
      Ascending lo (all_within t (keep (is t node.constant) (span n k)))
  unfolding flat_map keep span
  constants_rising n zero lo e h = nil
  constants_rising n (suc k) lo e h = by (is t node.constant n) refl (λ low. constants_rising (suc n) k low (omega arith))
    where
      by :
          (p : Bool) → is t node.constant n ≡ p →
          ((low : ℕ) → ((c : ℕ) → suc n ≤ c → c < count t → kind t c ≡ node.constant → low ≤ first t c) →
          Ascending low (all_within t (keep (is t node.constant) (span (suc n) k)))) →
          Ascending lo (all_within t (cond p (n ∷ keep (is t node.constant) (span (suc n) k)) (keep (is t node.constant) (span (suc n) k))))
      by true i more =
          let q : kind t n ≡ node.constant = eqb-true (kind t n) node.constant i in
          let z = f.inside n (omega arith) in
          let y = h n (omega arith) (omega arith) q in
          ascending_append (ascending_lower y (ascending_span (first t n) (size t n))) (λ m i. (span_mem (first t n) (size t n) m i).1) (omega arith)
          (more (first t n + size t n) (λ c a l g. let r = apart t f n c l q g (omega arith) in omega arith))
      by false i more = more lo (λ c a. h c (omega arith))

  -- the nodes that are typed are those of constants
  abbrev all : List ℕ
  all = all_within t (constants t)

  all_rising : Ascending 0 all
  all_rising = constants_rising 0 (count t) 0 (omega arith) (λ d a h i. omega arith)

  constant_all : (n : ℕ) → OfConstant t n → Memᴰ n all
  constant_all n c =
      let z = f.inside c.root c.known in
      mem_flat (within t) (constants t)
      (mem_keep (is t node.constant) (nodes t) (mem_span 0 (count t) c.root (omega arith) (omega (arith, c.known)))
      (eq-eqb (kind t c.root) node.constant c.is_constant))
      (mem_span (first t c.root) (size t c.root) n c.from (omega (arith, c.upto)))

  all_constant : (n : ℕ) → Memᴰ n all → OfConstant t n
  all_constant n m =
      let r = flat_mem (within t) (constants t) m in
      let k = keep_mem (is t node.constant) (nodes t) r.1 in
      let u = span_mem 0 (count t) r.0 k.0 in
      let w = span_mem (first t r.0) (size t r.0) n r.2 in
      let z = f.inside r.0 (omega arith) in
      record {
        root = r.0;
        known = omega arith;
        is_constant = eqb-true (kind t r.0) node.constant k.1;
        from = w.0;
        upto = omega arith;
      }

  all_below : (n : ℕ) → Memᴰ n all → n < count t
  all_below n m = let c = all_constant n m in omega (arith, c.upto, c.known)

module _ (t : Table) (b : List ℕ) (f : Formed t) where
  -- what is found at a node goes by the kinds of its children
  same_finding :
      (j k : ℕ → Kind) (n : ℕ) → n < count t → ((c : ℕ) → Below t n c → j c ≡ k c) →
      finding t b j n (shape t b n) ≡ finding t b k n (shape t b n)
  same_finding = same_finding_in t t b f b

  -- a child of a node of a constant is a node of it too
  child_in : (n c : ℕ) → OfConstant t n → Below t n c → OfConstant t c
  child_in n c h q =
      record {
        root = h.root;
        known = h.known;
        is_constant = h.is_constant;
        from = by (ℕ_discrete n h.root);
        upto = omega (arith, h.upto, q.under);
      }
    where
      by : Dec (n ≡ h.root) → first t h.root ≤ c
      by (yes e) = rw e at q.from
      by (no e) =
          let w = (in_constant t f h.root n h.known h.is_constant h.from (omega (arith, h.upto))).whole in
          omega (arith, q.from)

  -- ---- a typing of nodes that rise from lo on, which begins with the kinds ks and goes on with kinds js: below lo they stay
  record Stays (lo : ℕ) (ks js : List Kind) : Type 0 where
    stays : (m : ℕ) → m < lo → kind_at js m ≡ kind_at ks m

  -- one more node, found to be of kind k
  module _ (lo n : ℕ) (ks js : List Kind) (k : Kind) (l : length ks ≡ count t) (a : lo ≤ n) (c : n < count t)
      (i : finding t b (kind_at ks) n (shape t b n) ≡ of_kind k) (w : Stays (suc n) (set ks n k) js) where
    old : (m : ℕ) → m < n → kind_at js m ≡ kind_at ks m
    old m h = w.stays m (omega arith) ∙ get_or-set_other ks n m k untyped (λ q. omega arith)

    own : kind_at js n ≡ k
    own = w.stays n (omega arith) ∙ get_or-set_same ks n k untyped (omega arith)

    fits_there : Fits t b (kind_at js) n
    fits_there = same_finding (kind_at js) (kind_at ks) n c (λ m q. old m q.under) ∙ i ∙ ap of_kind (sym own)

    still : Stays lo ks js
    still = record { stays = λ m h. old m (omega arith) }

  -- accepted
  record Fitted (lo : ℕ) (ns : List ℕ) (ks js : List Kind) : Type 0 where
    kept : Stays lo ks js
    fits : (m : ℕ) → Memᴰ m ns → Fits t b (kind_at js) m

  fitted :
      (lo : ℕ) (ns : List ℕ) (ks js : List Kind) → Ascending lo ns → ((m : ℕ) → Memᴰ m ns → m < count t) → length ks ≡ count t → type_nodes t b ns ks ≡ typed js →
      Fitted lo ns ks js
  unfolding type_nodes_in
  fitted lo [] ks js r below l e =
      let q : ks ≡ js = cc in
      record {
        kept = record { stays = λ m h. ap (λ (xs : List Kind). kind_at xs m) (sym q) };
        fits = λ m h. absurd (Memᴰ.not-nil h);
      }
  fitted lo (n ∷ ns) ks js (cons a r) below l e =
      by (finding t b (kind_at ks) n (shape t b n)) refl e
      (λ k i. fitted (suc n) ns (set ks n k) js r (λ m h. below m (Memᴰ.tail h)) (rw length-set l) i)
    where
      c : n < count t
      c = below n (Memᴰ.head refl)

      by :
          (x : Finding) → finding t b (kind_at ks) n (shape t b n) ≡ x → if_found x n (λ k. type_nodes t b ns (set ks n k)) ≡ typed js →
          ((k : Kind) → type_nodes t b ns (set ks n k) ≡ typed js → Fitted (suc n) ns (set ks n k) js) → Fitted lo (n ∷ ns) ks js
      by (fault p) i g more = absurd (let z : ◌≡◌ {A = ℕ} 0 1 = cc in omega arith)
      by (of_kind k) i g more =
          let w = more k g in
          record {
            kept = still lo n ks js k l a c i w.kept;
            fits = λ m h.
                ⊎_elim (λ q. rw q (fits_there lo n ks js k l a c i w.kept)) (λ h'. w.fits m h') (Memᴰ.cases_cons h);
          }

  -- refused
  record Stopped (lo : ℕ) (ns : List ℕ) (ks : List Kind) (p n : ℕ) : Type 0 where
    kinds : List Kind
    kept : Stays lo ks kinds
    there : Memᴰ n ns
    is : finding t b (kind_at kinds) n (shape t b n) ≡ fault p
    fits : (m : ℕ) → m < n → Memᴰ m ns → Fits t b (kind_at kinds) m

  stopped :
      (lo : ℕ) (ns : List ℕ) (ks : List Kind) (p n : ℕ) → Ascending lo ns → ((m : ℕ) → Memᴰ m ns → m < count t) → length ks ≡ count t → type_nodes t b ns ks ≡ ill_typed p n →
      Stopped lo ns ks p n
  unfolding type_nodes_in
  stopped lo [] ks p n r below l e = absurd (let z : ◌≡◌ {A = ℕ} 0 1 = cc in omega arith)
  stopped lo (d ∷ ns) ks p n (cons a r) below l e =
      by (finding t b (kind_at ks) d (shape t b d)) refl e
      (λ k i. stopped (suc d) ns (set ks d k) p n r (λ m h. below m (Memᴰ.tail h)) (rw length-set l) i)
    where
      c : d < count t
      c = below d (Memᴰ.head refl)

      by :
          (x : Finding) → finding t b (kind_at ks) d (shape t b d) ≡ x → if_found x d (λ k. type_nodes t b ns (set ks d k)) ≡ ill_typed p n →
          ((k : Kind) → type_nodes t b ns (set ks d k) ≡ ill_typed p n → Stopped (suc d) ns (set ks d k) p n) → Stopped lo (d ∷ ns) ks p n
      by (fault q) i g more =
          let u : q ≡ p = cc in
          let v : d ≡ n = cc in
          record {
            kinds = ks;
            kept = record { stays = λ m h. refl };
            there = Memᴰ.head (sym v);
            is = rw (← u, ← v) i;
            fits = λ m h g. absurd (let z = ascending_from (cons {lo = d} {n = d} (omega arith) r) m g in omega arith);
          }
      by (of_kind k) i g more =
          let w = more k g in
          record {
            kinds = w.kinds;
            kept = still lo d ks w.kinds k l a c i w.kept;
            there = Memᴰ.tail w.there;
            is = w.is;
            fits = λ m h g.
                ⊎_elim (λ q. rw q (fits_there lo d ks w.kinds k l a c i w.kept)) (λ h'. w.fits m h h') (Memᴰ.cases_cons g);
          }

  -- ---- THE TYPING, by what it says

  -- the kinds of an accepted table
  pub typing_fits : (ks : List Kind) → typing t b ≡ typed ks → (n : ℕ) → Constant t n → Fits t b (kind_at ks) n
  unfolding typing
  typing_fits ks e n c =
      (fitted 0 (all t f) (replicate (count t) untyped) ks (all_rising t f) (all_below t f) (length-replicate _ _) (sym (type_constants_is t b (constants t) _) ∙ e)).fits n
      (constant_all t f n (of_constant t n c))

  pub typing_fault : (p n : ℕ) → typing t b ≡ ill_typed p n → FirstFault t b p n
  unfolding typing
  typing_fault p n e =
      let s = stopped 0 (all t f) (replicate (count t) untyped) p n (all_rising t f) (all_below t f) (length-replicate _ _) (sym (type_constants_is t b (constants t) _) ∙ e) in
      record {
        kinds = kind_at s.kinds;
        there = constant_of t f n (all_constant t f n s.there);
        is = s.is;
        fits = λ m h c. s.fits m h (constant_all t f m (of_constant t m c));
      }

  -- kinds that fit at all nodes of constants below n are the same there
  agree :
      (j k : ℕ → Kind) (n : ℕ) → ((m : ℕ) → m < n → OfConstant t m → Fits t b j m) → ((m : ℕ) → m < n → OfConstant t m → Fits t b k m) →
      (z m : ℕ) → m < z → m < n → OfConstant t m → j m ≡ k m
  agree j k n x y zero m s l c = absurd (omega arith)
  agree j k n x y (suc z) m s l c =
      let e = same_finding j k m (omega (arith, c.upto, c.known)) (λ d q. agree j k n x y z d (omega (arith, q.under)) (omega (arith, q.under)) (child_in m d c q)) in
      let u = x m l c in
      let v = y m l c in
      cc

  -- and so is what is found at n
  agree_there :
      (j k : ℕ → Kind) (n : ℕ) → Constant t n → ((m : ℕ) → m < n → Constant t m → Fits t b j m) →
      ((m : ℕ) → m < n → Constant t m → Fits t b k m) → finding t b j n (shape t b n) ≡ finding t b k n (shape t b n)
  agree_there j k n h x y =
      let c = of_constant t n h in
      same_finding j k n (omega (arith, c.upto, c.known))
      (λ d q.
      agree j k n (λ m l o. x m l (constant_of t f m o)) (λ m l o. y m l (constant_of t f m o)) n d q.under q.under (child_in n d c q))

  -- ACCEPTED exactly when kinds fit everywhere
  pub typing_accepts : ((ks : List Kind) × (typing t b ≡ typed ks)) ↔ WellTyped t b
  typing_accepts = (λ h. record { kinds = kind_at h.0; fits = typing_fits h.0 h.1 }, λ w. by w (typing t b) refl)
    where
      by : WellTyped t b → (x : Typing) → typing t b ≡ x → (ks : List Kind) × (typing t b ≡ typed ks)
      by w (typed ks) e = (ks, e)
      by w (ill_typed p n) e =
          let s = typing_fault p n e in
          let q = agree_there s.kinds w.kinds n s.there s.fits (λ m l c. w.fits m c) in
          let u = w.fits n s.there in
          let v = s.is in
          absurd (let z : ◌≡◌ {A = ℕ} 0 1 = cc in omega arith)

  -- REFUSED exactly by the first fault
  pub typing_refuses : (p n : ℕ) → (typing t b ≡ ill_typed p n) ↔ FirstFault t b p n
  typing_refuses p n = (typing_fault p n, λ s. by s (typing t b) refl)
    where
      by : FirstFault t b p n → (x : Typing) → typing t b ≡ x → typing t b ≡ ill_typed p n
      by s (typed ks) e =
          let q = agree_there s.kinds (kind_at ks) n s.there s.fits (λ m l c. typing_fits ks e m c) in
          let u = typing_fits ks e n s.there in
          let v = s.is in
          absurd (let z : ◌≡◌ {A = ℕ} 0 1 = cc in omega arith)
      by s (ill_typed q m) e = at (dec_lt n m) (dec_lt m n)
        where
          r : FirstFault t b q m
          r = typing_fault q m e

          at : Dec (n < m) → Dec (m < n) → typing t b ≡ ill_typed p n
          at (yes l) g =
              let d = agree_there s.kinds r.kinds n s.there s.fits (λ i h c. r.fits i (omega arith) c) in
              let u = r.fits n l s.there in
              let v = s.is in
              absurd (let z : ◌≡◌ {A = ℕ} 0 1 = cc in omega arith)
          at (no h) (yes l) =
              let d = agree_there r.kinds s.kinds m r.there r.fits (λ i h c. s.fits i (omega arith) c) in
              let u = s.fits m l r.there in
              let v = r.is in
              absurd (let z : ◌≡◌ {A = ℕ} 0 1 = cc in omega arith)
          at (no h) (no g) =
              let y : m ≡ n = omega arith in
              let d = agree_there r.kinds s.kinds m r.there r.fits (λ i l c. s.fits i (omega arith) c) in
              let u = s.is in
              let v = r.is in
              let w : finding t b s.kinds m (shape t b m) ≡ fault p = rw y u in
              let x : q ≡ p = cc in
              e ∙ ap₂ ill_typed x y
