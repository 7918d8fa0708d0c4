-- Stage 9 by entries and by nodes: the faults are the same.
use Rattle.std.specs.Prelude.{Option}
use mathlib.Core.Path.{◌≡◌, refl, sym, ap, ◌∙◌}
use mathlib.Core.Logic.{◌⊎◌, ◌≢◌, inl, inr, ⊎_elim}
use mathlib.Core.Bool.{Bool, true, false, cond, not, ◌&&◌, false≢true}
use mathlib.Core.List.Memᴰ
use mathlib.Core.List.{List, [], ◌∷◌, map, Memᴰ}
use Prim.Native.Nat.{ℕ, zero, suc, ◌+◌, ◌-◌, ◌≤◌, ◌<◌}
use native.Mathlib.Omega.{arith}
use borrow.Author.Tests.{eqb-true, eqb-false, eq-eqb, ne_eqb, ltb-true, lt-ltb}
use lib.Dec.{eqb, ltb}
use lib.ListN.{length, get_or}
use Rattle.relations.specs.Select.{span, first_from, keep, any, Ascending, cons}
use Rattle.relations.proofs.Select.{and_fst, and_snd, mem_upto, upto_mem, mem_keep, keep_mem, mem_any, First, first_is, first_of, le_or, ascending_from, ascending_keep, ascending_span}
use Rattle.express.specs.Syntax.Tree as tree
use Rattle.express.specs.Syntax.Tree.{Table, count, symbol, place}
use Rattle.express.specs.Names.Fault.{Fault, fault, fine, sort, scope, alike, repeated}
use Rattle.express.specs.Names.Names.{Stage, Passes, sooner, least}
use Rattle.express.proofs.Semantics.Backward.{least_step, least_end}
use Rattle.express.proofs.Names.Names.{Untied, passes_iff, least_is, least_skip, least_only}
use Rattle.index.specs.Dictionary.{has, first_with, Continues, Indexed}
use Rattle.std.specs.Prelude.{Option, Some, None}
use Rattle.scopes.specs.Entries.{own_key, entry_number}
use Rattle.scopes.specs.Preparation.{Prepared}
use Rattle.scopes.specs.LookUp.{numbers}
use Rattle.scopes.proofs.Numbering.{Declares, entry_declares, number_node, number_below}
use Rattle.scopes.proofs.Repeated.{map_mem, some, alike_nodes, has_key, first_own}
use Rattle.faults.specs.Meaning.{fault_of}
use Rattle.faults.specs.declared.Fault as code
use Rattle.duplicates.specs.Duplicates.{repetition_fault, entry_fault, Repetition, Duplicates}

-- ---- two stages over two lists with the same faults

passes_fine : (s : Stage) (ns : List ℕ) → Passes ns s → least s ns ≡ fine
unfolding least
passes_fine s [] h = refl
passes_fine s (n ∷ ns) h = least_skip s n ns (h n (Memᴰ.head refl)) ∙ passes_fine s ns (λ k m. h k (Memᴰ.tail m))

abbrev Has : Stage → List ℕ → Fault → Type 0
Has s ns f = (n : ℕ) × Memᴰ n ns × (s n ≡ f)

same_number : {f g : Fault} → f ≡ g → f.number ≢ 0 → g.number ≢ 0
same_number e h z = h (ap (λ (x : Fault). x.number) e ∙ z)

module _ (s r : Stage) (es ns : List ℕ) (tie : Untied ns r)
    (to : (e : ℕ) → Memᴰ e es → (s e).number ≢ 0 → Has r ns (s e)) (back : (n : ℕ) → Memᴰ n ns → (r n).number ≢ 0 → Has s es (r n)) where
  pub same_least : least s es ≡ least r ns
  same_least = by (least s es).number refl
    where
      by : (k : ℕ) → (least s es).number ≡ k → least s es ≡ least r ns
      by zero e =
          let all = (passes_iff s es).0 e in
          passes_fine s es all
          ∙ sym (passes_fine r ns (λ n m. ⊎_elim (λ z. z) (λ h. let b = back n m h in absurd (same_number (sym b.2) h (all b.0 b.1))) (zero_or (r n).number)))
        where
          zero_or : (n : ℕ) → (n ≡ 0) ⊎ (n ≢ 0)
          zero_or zero = inl refl
          zero_or (suc n) = inr (λ (e : suc n ≡ 0). omega arith)
      by (suc k) e =
          let some : (least s es).number ≢ 0 = λ (z : (least s es).number ≡ 0). omega (arith, z, e) in
          let L = least_is s es some in
          let f = to L.node L.among (same_number (sym L.is) some) in
          least_only r ns tie (least s es)
          (record {
            node = f.0;
            among = f.1;
            is = f.2 ∙ L.is;
            fault = some;
            least = λ n m h. let b = back n m h in
                omega (arith, L.least b.0 b.1 (same_number (sym b.2) h), ap (λ (x : Fault). x.place) b.2);
          })

-- ---- lists

-- what is kept of a span, taken to a rising list, rises
rising : (f : ℕ → ℕ) (p : ℕ → Bool) (d i lo : ℕ) → Ascending lo (map f (keep p (span i d))) → (e j : ℕ) → Memᴰ e (keep p (span i d)) → Memᴰ j (keep p (span i d)) → e < j → f e < f j
unfolding keep span
rising f p zero i lo a e j me mj l = absurd (Memᴰ.not-nil me)
rising f p (suc d) i lo a e j me mj l = by (p i) a me mj (λ lo' a' me' mj'. rising f p d (suc i) lo' a' e j me' mj' l)
  where
    rest : List ℕ
    rest = keep p (span (suc i) d)

    behind : (b : ℕ) → Memᴰ b rest → i < b
    behind b m = ascending_from (ascending_keep p (ascending_span (suc i) d)) b m

    by : (b : Bool) → Ascending lo (map f (cond b (i ∷ rest) rest)) → Memᴰ e (cond b (i ∷ rest) rest) → Memᴰ j (cond b (i ∷ rest) rest) →
        ((lo' : ℕ) → Ascending lo' (map f rest) → Memᴰ e rest → Memᴰ j rest → f e < f j) → f e < f j
    by true (cons h a) me mj more =
        ⊎_elim
        (λ (q : e ≡ i).
        ⊎_elim (λ (q' : j ≡ i). absurd (omega (arith, q, q'))) (λ mj'. rw q (ascending_from a (f j) (map_mem f rest mj'))) (Memᴰ.cases_cons mj))
        (λ me'.
        ⊎_elim (λ (q' : j ≡ i). absurd (omega (arith, q', behind e me'))) (λ mj'. more (suc (f i)) a me' mj') (Memᴰ.cases_cons mj))
        (Memᴰ.cases_cons me)
    by false a me mj more = more lo a me mj

-- the last number before j that passes, where some does
pub record Last (p : ℕ → Bool) (j : ℕ) : Type 0 where
  pub at : ℕ
  pub before : at < j
  pub passes : p at ≡ true
  pub none : (i : ℕ) → at < i → i < j → p i ≡ false

last : (p : ℕ → Bool) (j f : ℕ) → f < j → p f ≡ true → Last p j
last p zero f l e = absurd (omega arith)
last p (suc j) f l e = by (p j) refl (λ l'. last p j f l' e)
  where
    by : (b : Bool) → p j ≡ b → (f < j → Last p j) → Last p (suc j)
    by true q more = record { at = j; before = omega arith; passes = q; none = λ i g h. absurd (omega arith) }
    by false q more =
        let L = more (⊎_elim (λ (h : j ≤ f). let same : f ≡ j = omega arith in absurd (false≢true (sym q ∙ ap p (sym same) ∙ e))) (λ h. h) (le_or j f)) in
        record {
          at = L.at;
          before = omega (arith, L.before);
          passes = L.passes;
          none = λ i g h. ⊎_elim (λ (k : j ≤ i). let same : i ≡ j = omega arith in rw same q) (λ k. L.none i g k) (le_or j i);
        }

-- ---- of a file
module _ {t : Table} {keys nodes heads next : List ℕ} (P : Prepared t keys nodes heads next) where
  abbrev S : Stage
  S = entry_fault t.tokens t.starts keys nodes

  abbrev at_node : ℕ → ℕ
  at_node e = get_or nodes e 0

  twice : (n : ℕ) → sort t n ≢ 0 → any (alike t n) (span 0 n) ≡ true → repeated t n ≡ fault 9 (place t n)
  unfolding repeated
  twice n z a = rw (ne_eqb (sort t n) 0 z, a)

  once : (n : ℕ) → (repeated t n).number ≢ 0 → (sort t n ≢ 0) × (any (alike t n) (span 0 n) ≡ true)
  unfolding repeated
  once n h = by (eqb (sort t n) 0) (any (alike t n) (span 0 n)) refl refl h
    where
      by : (a b : Bool) → eqb (sort t n) 0 ≡ a → any (alike t n) (span 0 n) ≡ b → (cond (not a && b) (fault 9 (place t n)) fine).number ≢ 0 → (sort t n ≢ 0) × (any (alike t n) (span 0 n) ≡ true)
      by true b e f h = absurd (h refl)
      by false true e f h = (eqb-false (sort t n) 0 e, f)
      by false false e f h = absurd (h refl)

  untied : Untied (tree.nodes t) (repeated t)
  untied n k mn mk hn hk q =
      let a = once n hn in
      let b = once k hk in
      ap (λ (x : Fault). x.number) (twice n a.0 a.1) ∙ sym (ap (λ (x : Fault). x.number) (twice k b.0 b.1))

  -- a later entry with the key of an entry: its node is declared twice
  module _ (e j : ℕ) (l : e < j) (u : j < length keys) (same : get_or keys j 0 ≡ get_or keys e 0) where
    abbrev m : ℕ
    m = at_node e

    O : Declares t (get_or keys e 0) m
    O = entry_declares P e (omega arith)

    holds : (i : ℕ) → get_or keys i 0 ≡ own_key t m → has keys (own_key t m) i ≡ true
    holds i q = rw (ne_eqb (own_key t m) 0 (λ z. omega (arith, z, some P m O.node O.declares)), eq-eqb (get_or keys i 0) (own_key t m) q)

    among_numbers : (i : ℕ) → i < length keys → get_or keys i 0 ≡ own_key t m → Memᴰ i (numbers keys (own_key t m))
    unfolding numbers
    among_numbers i g q = mem_keep (has keys (own_key t m)) (span 0 (length keys)) (mem_upto (length keys) i g) (holds i q)

    alike_both : Memᴰ (at_node j) (keep (alike t m) (span 0 (count t)))
    alike_both = rw (alike_nodes P m O.node O.declares) at (map_mem at_node (numbers keys (own_key t m)) (among_numbers j u (same ∙ O.key_is)))

    earlier : m < at_node j
    unfolding numbers
    earlier =
        rising at_node (has keys (own_key t m)) (length keys) 0 0
        (rw (alike_nodes P m O.node O.declares) (ascending_keep (alike t m) (ascending_span 0 (count t)))) e j
        (among_numbers e (omega arith) O.key_is) (among_numbers j u (same ∙ O.key_is)) l

    turned : (n k : ℕ) → alike t n k ≡ true → (alike t k n ≡ true) × (sort t k ≡ sort t n)
    turned n k a =
        let ab = and_fst (eqb (symbol t k) (symbol t n) && eqb (sort t k) (sort t n)) (eqb (scope t k) (scope t n)) a in
        let y = eqb-true _ _ (and_fst (eqb (symbol t k) (symbol t n)) (eqb (sort t k) (sort t n)) ab) in
        let s = eqb-true _ _ (and_snd (eqb (symbol t k) (symbol t n)) (eqb (sort t k) (sort t n)) ab) in
        let c = eqb-true _ _ (and_snd (eqb (symbol t k) (symbol t n) && eqb (sort t k) (sort t n)) (eqb (scope t k) (scope t n)) a) in
        (rw (eq-eqb (symbol t n) (symbol t k) (sym y), eq-eqb (sort t n) (sort t k) (sym s), eq-eqb (scope t n) (scope t k) (sym c)), s)

    pub later_repeated : (at_node j < count t) × (repeated t (at_node j) ≡ fault 9 (place t (at_node j)))
    later_repeated =
        let k = keep_mem (alike t m) (span 0 (count t)) alike_both in
        let w = turned m (at_node j) k.1 in (
          upto_mem (count t) (at_node j) k.0,
          twice (at_node j) (λ z. O.declares (sym w.1 ∙ z)) (mem_any (alike t (at_node j)) (span 0 (at_node j)) (mem_upto (at_node j) m earlier) w.0),
        )

  to : (e : ℕ) → Memᴰ e (span 0 (length keys)) → (S e).number ≢ 0 → Has (repeated t) (tree.nodes t) (S e)
  unfolding first_with
  to e me h = by (ltb f (length keys)) refl h
    where
      f : ℕ
      f = first_from (has keys (get_or keys e 0)) (e + 1) (length keys - (e + 1))

      F : First (has keys (get_or keys e 0)) (e + 1) (length keys - (e + 1)) f
      F = first_is (has keys (get_or keys e 0)) (e + 1) (length keys - (e + 1))

      by : (c : Bool) → ltb f (length keys) ≡ c → (repetition_fault t.tokens t.starts nodes (cond c (Some f) None)).number ≢ 0 →
          Has (repeated t) (tree.nodes t) (repetition_fault t.tokens t.starts nodes (cond c (Some f) None))
      by true q h =
          let u = ltb-true f (length keys) q in
          let passes = F.passes (omega (arith, u, F.from)) in
          let k = eqb-true _ _ (and_snd (not (eqb (get_or keys e 0) 0)) (eqb (get_or keys f 0) (get_or keys e 0)) passes) in
          let r = later_repeated e f (omega (arith, F.from)) u k in
          (at_node f, mem_upto (count t) (at_node f) r.0, r.1)
      by false q h = absurd (h refl)

  -- a node that is declared twice: the last entry before its own that has its key
  back : (n : ℕ) → Memᴰ n (tree.nodes t) → (repeated t n).number ≢ 0 → Has S (span 0 (length keys)) (repeated t n)
  unfolding first_with
  back n mn h = (L.at, mem_upto (length keys) L.at (omega (arith, L.before, low)), is ∙ sym (twice n z a))
    where
      l : n < count t
      l = upto_mem (count t) n mn

      z : sort t n ≢ 0
      z = (once n h).0

      a : any (alike t n) (span 0 n) ≡ true
      a = (once n h).1

      key : ℕ
      key = own_key t n

      j : ℕ
      j = entry_number t n

      low : j < length keys
      low = number_below P n l z

      p : ℕ → Bool
      p = has keys key

      f : ℕ
      f = first_from p 0 (length keys - 0)

      first_early : f < j
      first_early =
          let F = first_is p 0 (length keys - 0) in
          let upto : f ≤ j = ⊎_elim (λ h. h) (λ (h : j < f). absurd (false≢true (sym (F.none j (omega arith) h) ∙ has_key P n l z))) (le_or f j) in
          ⊎_elim
          (λ (h : j ≤ f).
          let e : f ≡ j = omega arith in
          let own : first_with keys key 0 ≡ Some j = rw (e, lt-ltb j (length keys) low) in
          absurd (false≢true (sym (first_own P n l z own) ∙ a)))
          (λ h. h) (le_or j f)

      first_passes : p f ≡ true
      first_passes = (first_is p 0 (length keys - 0)).passes (omega (arith, first_early, low))

      L : Last p j
      L = last p j f first_early first_passes

      same : get_or keys L.at 0 ≡ key
      same = eqb-true _ _ (and_snd (not (eqb key 0)) (eqb (get_or keys L.at 0) key) L.passes)

      next_is : first_with keys key (L.at + 1) ≡ Some j
      next_is =
          rw
          (first_of p (length keys) (L.at + 1) j (omega (arith, L.before)) low (has_key P n l z) (λ i g k. L.none i (omega arith) k), lt-ltb j (length keys) low)

      is : S L.at ≡ fault 9 (place t n)
      is = rw (same, next_is, number_node P n l z)

  -- STAGE 9
  pub stage_is : least S (span 0 (length keys)) ≡ least (repeated t) (tree.nodes t)
  stage_is = same_least S (repeated t) (span 0 (length keys)) (tree.nodes t) untied to back

-- ---- in the code
module _ {tokens starts keys nodes next : List ℕ} {e : ℕ} {q : Option ℕ} {r : Option code.Fault} (C : Continues keys next e q) where
  pub found_repetition : {found : Option ℕ} → q ≡ found → fault_of r ≡ repetition_fault tokens starts nodes found → Repetition tokens starts keys nodes next e r
  found_repetition f g = record { is = λ h I. g ∙ ap (repetition_fault tokens starts nodes) (sym f ∙ C.is h I) }

-- the least fault of the entries from e on
module _ (tokens starts keys nodes next : List ℕ) where
  abbrev stage : Stage
  stage = entry_fault tokens starts keys nodes

  pub record LeastFrom (e : ℕ) (r : Option code.Fault) : Type 0 where
    pub upto : e ≤ length keys
    pub is : (heads : List ℕ) → Indexed keys heads next → fault_of r ≡ least stage (span e (length keys - e))

  pub least_starts : {r : Option code.Fault} → fault_of r ≡ fine → LeastFrom (length keys) r
  least_starts e = record { upto = omega arith; is = λ h I. e ∙ sym (least_end (length keys) stage) }

  module _ {e : ℕ} {r : Option code.Fault} (z : 0 < e) (L : LeastFrom e r) where
    back_one : e - 1 + 1 ≡ e
    back_one = omega arith

    pub least_more :
        {f r' : Option code.Fault} → Repetition tokens starts keys nodes next (e - 1) f → fault_of r' ≡ sooner (fault_of f) (fault_of r) → LeastFrom (e - 1) r'
    least_more {f} R q =
        record {
          upto = omega (arith, L.upto);
          is = λ h I.
              q
              ∙ ap (λ (x : Fault). sooner x (fault_of r)) (R.is h I)
              ∙ ap (sooner (stage (e - 1))) (L.is h I)
              ∙ ap (λ (i : ℕ). sooner (stage (e - 1)) (least stage (span i (length keys - i)))) (sym back_one)
              ∙ sym (least_step (length keys) stage (e - 1) (omega (arith, L.upto)));
        }

  pub least_all : {r : Option code.Fault} → LeastFrom 0 r → Duplicates tokens starts keys nodes next r
  least_all {r} L = record { is = by }
    where
      by : (t : Table) (heads : List ℕ) → Prepared t keys nodes heads next → tokens ≡ t.tokens → starts ≡ t.starts → fault_of r ≡ least (repeated t) (tree.nodes t)
      by t heads P a b =
          let z : length keys - 0 ≡ length keys = omega arith in
          L.is heads P.indexed
          ∙ ap (λ (m : ℕ). least stage (span 0 m)) z
          ∙ ap (λ (ts : List ℕ). least (entry_fault ts starts keys nodes) (span 0 (length keys))) a
          ∙ ap (λ (ss : List ℕ). least (entry_fault t.tokens ss keys nodes) (span 0 (length keys))) b
          ∙ stage_is P
