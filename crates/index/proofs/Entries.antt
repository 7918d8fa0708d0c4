-- Laws of the dictionary: what its answers mean, how a chain is walked, and how the chains are built.
use mathlib.Core.Path.{◌≡◌, refl, sym, ap, ◌∙◌}
use mathlib.Core.Bool.{Bool, true, false, cond, not, false≢true}
use mathlib.Core.List.{List}
use mathlib.Core.Logic.{◌⊎◌, inl, inr, by_cases}
use Prim.Native.Nat.{ℕ, ◌+◌, ◌-◌, ◌≤◌, ◌<◌, min}
use native.Mathlib.Omega.{arith}
use native.Mathlib.Decide.{ℕ_discrete, dec_lt}
use lib.Dec.{eqb, leb, ltb}
use lib.Seq.{get_or-set_other}
use lib.ListN.{length, get_or, set, replicate, length-set, length-replicate, get_or-replicate, get_or-eq_default}
use borrow.Author.Tests.{eqb-true, eqb-false, eq-eqb, ne_eqb, lt-ltb, le-ltb, ltb-true, leb-true, not-true, not-false}
use Rattle.columns.specs.Column.{cleared}
use Rattle.columns.proofs.Laws.{length_cleared, clear_all}
use Rattle.relations.specs.Select.{first_from}
use Rattle.relations.proofs.Select.{and_fst, and_snd, and_both, untrue, first_is, first_step, first_end}
use Rattle.index.specs.Bucket.{bucket_of, InBucket}
use Rattle.index.specs.Room.{fits}
use Rattle.index.specs.Dictionary.{has, among, first_with, falls, link_to, link, Indexed, Walks, Builds, Finds, Continues}
use Rattle.std.specs.Prelude.{Option, Some, None, Ok, Err}
use Rattle.index.specs.declared.Short.{Short}
use Rattle.index.proofs.Search.{first_skip, at_set}

-- ---- what the tests say

not_zero : (k : ℕ) → 0 < k → not (eqb k 0) ≡ true
not_zero k h = let e : eqb k 0 ≡ false = ne_eqb k 0 (λ z. omega arith) in rw e

zero_not : (k : ℕ) → not (eqb k 0) ≡ true → 0 < k
zero_not k h = let n = eqb-false k 0 (not-true (eqb k 0) h) in by_cases (ℕ_discrete k 0) (λ e. absurd (n e)) (λ e. omega (arith, e))

module _ (keys : List ℕ) where
  abbrev count : ℕ
  count = length keys

  pub has_is : (key i : ℕ) → 0 < key → get_or keys i 0 ≡ key → has keys key i ≡ true
  has_is key i h e = and_both _ _ (not_zero key h) (eq-eqb _ _ e)

  pub has_not : (key i : ℕ) → (get_or keys i 0 ≡ key → ⊥) → has keys key i ≡ false
  has_not key i n = untrue _ (λ t. n (eqb-true (get_or keys i 0) key (and_snd (not (eqb key 0)) _ t)))

  pub has_none : (i : ℕ) → has keys 0 i ≡ false
  has_none i = refl

  falls_is : (m b i : ℕ) → 0 < get_or keys i 0 → bucket_of m (get_or keys i 0) ≡ b → falls keys m b i ≡ true
  falls_is m b i h e = and_both _ _ (not_zero _ h) (eq-eqb _ _ e)

  falls_keyed : (m b i : ℕ) → falls keys m b i ≡ true → 0 < get_or keys i 0
  falls_keyed m b i t = zero_not _ (and_fst _ _ t)

  falls_bucket : (m b i : ℕ) → falls keys m b i ≡ true → bucket_of m (get_or keys i 0) ≡ b
  falls_bucket m b i t = eqb-true (bucket_of m (get_or keys i 0)) b (and_snd (not (eqb (get_or keys i 0) 0)) _ t)

  falls_other : (m b i : ℕ) → (bucket_of m (get_or keys i 0) ≡ b → ⊥) → falls keys m b i ≡ false
  falls_other m b i n = untrue _ (λ t. n (falls_bucket m b i t))

  falls_none : (m b i : ℕ) → get_or keys i 0 ≡ 0 → falls keys m b i ≡ false
  falls_none m b i e = untrue _ (λ t. omega (arith, falls_keyed m b i t))

  -- whoever has the key falls into its bucket
  has_falls : (m key j : ℕ) → has keys key j ≡ true → falls keys m (bucket_of m key) j ≡ true
  has_falls m key j t =
      let e = eqb-true (get_or keys j 0) key (and_snd (not (eqb key 0)) _ t) in
      falls_is m (bucket_of m key) j (rw e (zero_not key (and_fst _ _ t))) (ap (bucket_of m) e)

  -- ---- what an answer means

  among_at : (n i j : ℕ) → among n i ≡ Some j → (i ≡ j) × (i < n)
  among_at n i j e = by (ltb i n) refl e
    where
      by : (b : Bool) → ltb i n ≡ b → cond b (Some i) None ≡ Some j → (i ≡ j) × (i < n)
      by true t e = (cc, ltb-true i n t)
      by false t e = let z : ◌≡◌ {A = ℕ} 0 1 = cc in absurd (omega arith)

  among_in : (n i : ℕ) → i < n → among n i ≡ Some i
  among_in n i h = rw (lt-ltb i n h)

  among_past : (n i : ℕ) → n ≤ i → among n i ≡ None
  among_past n i h = rw (le-ltb i n h)

  abbrev seek : ℕ → ℕ → ℕ
  seek key from = first_from (has keys key) from (count - from)

  -- an entry that is found has the key, and none before it has
  pub record Least (key from i : ℕ) : Type 0 where
    pub low : from ≤ i
    pub high : i < length keys
    pub keyed : 0 < key
    pub has : get_or keys i 0 ≡ key
    pub none : (j : ℕ) → from ≤ j → j < i → get_or keys j 0 ≡ key → ⊥

  pub found_least : (key from i : ℕ) → first_with keys key from ≡ Some i → Least key from i
  unfolding first_with
  found_least key from i e =
      let F = first_is (has keys key) from (count - from) in
      let w = among_at count (seek key from) i e in
      let s : seek key from ≡ i = w.0 in
      let l : i < count = omega (arith, w.1) in
      let up : from ≤ i = omega (arith, F.from) in
      let t : has keys key (seek key from) ≡ true = F.passes (omega (arith, w.1, F.from)) in
      let t' : has keys key i ≡ true = rw s at t in
      let k = zero_not key (and_fst _ _ t') in
      record {
        low = up;
        high = l;
        keyed = k;
        has = eqb-true (get_or keys i 0) key (and_snd (not (eqb key 0)) _ t');
        none = λ j a b h. absurd (false≢true (sym (F.none j a (omega arith)) ∙ has_is key j k h));
      }

  -- where nothing is found, no entry from there on has the key
  pub found_nothing : (key from : ℕ) → first_with keys key from ≡ None → 0 < key → (j : ℕ) → from ≤ j → j < length keys → get_or keys j 0 ≡ key → ⊥
  unfolding first_with
  found_nothing key from e k j a b h =
      let F = first_is (has keys key) from (count - from) in
      by_cases (dec_lt (seek key from) count)
      (λ l. let z : ◌≡◌ {A = ℕ} 0 1 = cc (among_in count (seek key from) l) in absurd (omega arith))
      (λ l. false≢true (sym (F.none j a (omega (arith, l))) ∙ has_is key j k h))

  -- no entry has the key 0
  pub none_keyed : (from : ℕ) → first_with keys 0 from ≡ None
  unfolding first_with
  none_keyed from =
      let F = first_is (has keys 0) from (count - from) in
      by_cases (dec_lt (seek 0 from) count)
      (λ l. absurd (false≢true (sym (has_none (seek 0 from)) ∙ F.passes (omega (arith, F.from)))))
      (λ l. among_past count (seek 0 from) (omega (arith, l)))

  -- ---- links

  abbrev chain : ℕ → ℕ → ℕ → ℕ
  chain m b from = first_from (falls keys m b) from (count - from)

  -- one entry further down
  pub link_step : (m b i : ℕ) → i < length keys → link keys m b i ≡ cond (falls keys m b i) (i + 1) (link keys m b (i + 1))
  unfolding link
  link_step m b i h = by (falls keys m b i) refl (first_step (falls keys m b) count i h)
    where
      by : (t : Bool) → falls keys m b i ≡ t → chain m b i ≡ cond (falls keys m b i) i (chain m b (i + 1))
          → link_to count (chain m b i) ≡ cond t (i + 1) (link_to count (chain m b (i + 1)))
      by true t e = let s : chain m b i ≡ i = rw t at e in rw (s, lt-ltb i count h)
      by false t e = let s : chain m b i ≡ chain m b (i + 1) = rw t at e in rw s

  pub link_end : (m b : ℕ) → link keys m b (length keys) ≡ 0
  unfolding link
  link_end m b = rw (first_end (falls keys m b) count count (omega arith), le-ltb count count (omega arith))

  -- a link is 0 where no entry of the bucket is left, and else one more than the first of them
  link_cases : (m b from : ℕ) → ((link keys m b from ≡ 0) × (count ≤ chain m b from)) ⊎ ((link keys m b from ≡ chain m b from + 1) × (chain m b from < count))
  unfolding link
  link_cases m b from =
      by_cases (dec_lt (chain m b from) count)
      (λ l. inr (rw (lt-ltb (chain m b from) count l), l))
      (λ l. let g : count ≤ chain m b from = omega (arith, l) in inl (rw (le-ltb (chain m b from) count g), g))

  -- ---- walking a chain: the link at hand leads to the first entry of the key's bucket from an index on, and what is to be found from
  -- there is what was to be found from the start

  module _ (m key : ℕ) (keyed : 0 < key) where
    abbrev bucket : ℕ
    bucket = bucket_of m key

    -- the search by the key may start at the bucket's next entry
    seek_chain : (at : ℕ) → at ≤ count → seek key at ≡ seek key (chain m bucket at)
    seek_chain at h = first_skip (has keys key) (falls keys m bucket) (λ j t. has_falls m key j t) count at h

    seek_hit : (k : ℕ) → k < count → get_or keys k 0 ≡ key → seek key k ≡ k
    seek_hit k h e = first_step (has keys key) count k h ∙ ap (λ (b : Bool). cond b k (seek key (k + 1))) (has_is key k keyed e)

    seek_pass : (k : ℕ) → k < count → (get_or keys k 0 ≡ key → ⊥) → seek key k ≡ seek key (k + 1)
    seek_pass k h n = first_step (has keys key) count k h ∙ ap (λ (b : Bool). cond b k (seek key (k + 1))) (has_not key k n)

    -- a link that leads on leads to the bucket's next entry
    pub record Leads (at l : ℕ) : Type 0 where
      pub here : l - 1 ≡ chain m bucket at
      pub inside : l - 1 < length keys
      pub low : at ≤ length keys
      pub some : 0 < get_or keys (l - 1) 0
      pub same : bucket_of m (get_or keys (l - 1) 0) ≡ bucket_of m key

    leads : {at l : ℕ} → at < l → l ≡ link keys m bucket at → Leads at l
    leads {at} {l} h e = by (link_cases m bucket at)
      where
        by : ((link keys m bucket at ≡ 0) × (count ≤ chain m bucket at)) ⊎ ((link keys m bucket at ≡ chain m bucket at + 1) × (chain m bucket at < count)) → Leads at l
        by (inl w) = absurd (omega (arith, w.0))
        by (inr w) =
            let F = first_is (falls keys m bucket) at (count - at) in
            let s : l - 1 ≡ chain m bucket at = omega (arith, w.0) in
            let t : falls keys m bucket (chain m bucket at) ≡ true = F.passes (omega (arith, w.1, F.from)) in
            let t' : falls keys m bucket (l - 1) ≡ true = rw s t in
            record {
              here = s;
              inside = omega (arith, w.1);
              low = omega (arith, w.1, F.from);
              some = falls_keyed m bucket (l - 1) t';
              same = falls_bucket m bucket (l - 1) t';
            }

    -- the entry has the key: it is the least
    pub walk_hit : {at l : ℕ} → at < l → l ≡ link keys m (bucket_of m key) at → get_or keys (l - 1) 0 ≡ key → Some (l - 1) ≡ first_with keys key at
    unfolding first_with
    walk_hit {at} {l} h e k =
        let L = leads h e in
        let s : seek key at ≡ l - 1 = seek_chain at L.low ∙ ap (seek key) (sym L.here) ∙ seek_hit (l - 1) L.inside k in
        sym (ap (among count) s ∙ among_in count (l - 1) L.inside)

    -- it has not: the search goes on after it
    pub walk_on : {at l : ℕ} → at < l → l ≡ link keys m (bucket_of m key) at → (get_or keys (l - 1) 0 ≡ key → ⊥) → first_with keys key l ≡ first_with keys key at
    unfolding first_with
    walk_on {at} {l} h e n =
        let L = leads h e in
        let q : l - 1 + 1 ≡ l = omega arith in
        let s : seek key at ≡ seek key l = seek_chain at L.low ∙ ap (seek key) (sym L.here) ∙ seek_pass (l - 1) L.inside n ∙ ap (seek key) q in
        ap (among count) (sym s)

    -- the chain has ended: there is none
    pub walk_end : {at l : ℕ} → l ≤ at → l ≡ link keys m (bucket_of m key) at → None ≡ first_with keys key at
    unfolding first_with
    walk_end {at} {l} h e = by (link_cases m bucket at)
      where
        by : ((link keys m bucket at ≡ 0) × (count ≤ chain m bucket at)) ⊎ ((link keys m bucket at ≡ chain m bucket at + 1) × (chain m bucket at < count)) → None ≡ among count (seek key at)
        by (inr w) = absurd (omega (arith, w.0, (first_is (falls keys m bucket) at (count - at)).from))
        by (inl w) =
            by_cases (dec_lt at count)
            (λ l.
            let s : seek key at ≡ chain m bucket at = seek_chain at (omega arith) ∙ first_end (has keys key) count (chain m bucket at) w.1 in
            sym (ap (among count) s ∙ among_past count (chain m bucket at) w.1))
            (λ l.
            let g : count ≤ at = omega (arith, l) in
            sym (ap (among count) (first_end (has keys key) count at g) ∙ among_past count at g))

-- the loop of `walk`: the link at hand leads to the first entry of the key's bucket from `at` on, and what is to be found from there is
-- what was to be found from the start
pub record Walking (keys next : List ℕ) (key from first at l : ℕ) : Type 0 where
  pub past : from ≤ at
  pub is : (heads : List ℕ) → Indexed keys heads next → 0 < key → first ≡ link keys (length heads) (bucket_of (length heads) key) from
      → (l ≡ link keys (length heads) (bucket_of (length heads) key) at) × (first_with keys key at ≡ first_with keys key from)

module _ {keys next : List ℕ} {key from first : ℕ} where
  pub walking_starts : Walking keys next key from first from first
  walking_starts = record { past = omega arith; is = λ heads I k e. (e, refl) }

  module _ {at l : ℕ} (w : Walking keys next key from first at l) where
    pub walking_hits : at < l → l - 1 < length keys → get_or keys (l - 1) 0 ≡ key → Walks keys next key from first (Some (l - 1))
    walking_hits h inside e =
        record {
          holds = (omega (arith, w.past), inside, e);
          is = λ heads I k f. let s = w.is heads I k f in walk_hit keys (length heads) key k h s.0 e ∙ s.1;
        }

    pub walking_ends : l ≤ at → Walks keys next key from first None
    walking_ends h = record { holds = tt; is = λ heads I k f. let s = w.is heads I k f in walk_end keys (length heads) key k h s.0 ∙ s.1 }

    -- chains as `build` leaves them stay among the entries
    pub walking_leaves : at < l → min (length keys) (length next) ≤ l - 1 → Walks keys next key from first None
    walking_leaves h out =
        record {
          holds = tt;
          is = λ heads I k f. let L = leads keys (length heads) key k h (w.is heads I k f).0 in absurd (omega (arith, L.inside, I.room));
        }

    pub walking_goes_on : (x : ℕ) → at < l → l - 1 < length keys → (get_or keys (l - 1) 0 ≡ key → ⊥) → x ≡ get_or next (l - 1) 0 → Walking keys next key from first l x
    walking_goes_on x h inside n e =
        record {
          past = omega (arith, w.past);
          is =
              λ heads I k f.
              let m = length heads in
              let s = w.is heads I k f in
              let L = leads keys m key k h s.0 in
              let q : l - 1 + 1 ≡ l = omega arith in (
                e ∙ I.goes (l - 1) inside L.some ∙ ap (λ (b : ℕ). link keys m b (l - 1 + 1)) L.same ∙ ap (link keys m (bucket_of m key)) q,
                walk_on keys m key k h s.0 n ∙ s.1,
              );
        }

-- ---- building the chains: those of the entries from i on

pub fits_parts : (count heads next : ℕ) → fits count heads next ≡ true → (0 < heads) × (count ≤ next) × (count < 4294967295)
fits_parts count heads next e =
    let rest = and_snd (not (eqb heads 0)) _ e in
    (zero_not heads (and_fst _ _ e), leb-true count next (and_fst _ _ rest), ltb-true count 4294967295 (and_snd (leb count next) _ rest))

pub zeros_at : (c : List ℕ) (i : ℕ) → get_or (cleared 0 0 c) i 0 ≡ 0
zeros_at c i =
    ap (λ (l : List ℕ). get_or l i 0) (clear_all 0 c)
    ∙ by_cases (dec_lt i (length c)) (λ l. get_or-replicate (length c) i 0 0 l)
    (λ l. get_or-eq_default (replicate (length c) 0) 0 {n = i} (simp length-replicate (omega (arith, l))))

pub record Building (keys heads₀ next₀ heads next : List ℕ) (i : ℕ) : Type 0 where
  pub within : i ≤ length keys
  pub some : 0 < length heads₀
  pub room : length keys ≤ length next₀
  pub small : length keys < 4294967295
  pub heads_long : length heads ≡ length heads₀
  pub next_long : length next ≡ length next₀
  pub head : (b : ℕ) → b < length heads₀ → get_or heads b 0 ≡ link keys (length heads₀) b i
  pub goes : (j : ℕ) → i ≤ j → j < length keys → 0 < get_or keys j 0
      → get_or next j 0 ≡ link keys (length heads₀) (bucket_of (length heads₀) (get_or keys j 0)) (j + 1)
  pub rest : (j : ℕ) → get_or keys j 0 ≡ 0 → get_or next j 0 ≡ get_or next₀ j 0

pub building_starts : {keys heads₀ next : List ℕ} (heads : List ℕ) → fits (length keys) (length heads) (length next) ≡ true → heads₀ ≡ cleared 0 0 heads
    → Building keys heads₀ next heads₀ next (length keys)
building_starts {keys} {heads₀} {next} heads f e =
    let p = fits_parts (length keys) (length heads) (length next) f in
    let same : length heads₀ ≡ length heads = ap length e ∙ length_cleared 0 0 heads in
    record {
      within = omega arith;
      some = omega (arith, p.0);
      room = p.1;
      small = p.2;
      heads_long = refl;
      next_long = refl;
      head = λ b h. ap (λ (l : List ℕ). get_or l b 0) e ∙ zeros_at heads b ∙ sym (link_end keys (length heads₀) b);
      goes = λ j a b. absurd (omega arith);
      rest = λ j z. refl;
    }

module _ {keys heads₀ next₀ heads next : List ℕ} {i : ℕ} (w : Building keys heads₀ next₀ heads next i) (up : 0 < i) where
  abbrev m : ℕ
  m = length heads₀

  down : i - 1 + 1 ≡ i
  down = omega arith

  -- an entry without a key
  pub building_passes : get_or keys (i - 1) 0 ≡ 0 → Building keys heads₀ next₀ heads next (i - 1)
  building_passes e =
      record {
        within = omega (arith, w.within);
        some = w.some;
        room = w.room;
        small = w.small;
        heads_long = w.heads_long;
        next_long = w.next_long;
        head =
            λ b h.
            w.head b h
            ∙ sym (link_step keys m b (i - 1) (omega (arith, w.within))
            ∙ ap (λ (t : Bool). cond t (i - 1 + 1) (link keys m b (i - 1 + 1))) (falls_none keys m b (i - 1) e)
            ∙ ap (link keys m b) down);
        goes = λ j a b k. by_cases (ℕ_discrete j (i - 1)) (λ q. absurd (omega (arith, k, ap (λ (x : ℕ). get_or keys x 0) q, e))) (λ q. w.goes j (omega (arith, q)) b k);
        rest = w.rest;
      }

  -- an entry with a key: it comes before what its bucket has
  pub building_enters : (b v : ℕ) → 0 < get_or keys (i - 1) 0 → InBucket (length heads) (get_or keys (i - 1) 0) b → v ≡ i - 1 + 1
      → Building keys heads₀ next₀ (set heads b v) (set next (i - 1) (get_or heads b 0)) (i - 1)
  building_enters b v k B ve =
      let e : b ≡ bucket_of m (get_or keys (i - 1) 0) = B.is ∙ ap (λ (x : ℕ). bucket_of x (get_or keys (i - 1) 0)) w.heads_long in
      let small : b < m = omega (arith, B.small, w.heads_long) in
      let inside : i - 1 < length keys = omega (arith, w.within) in
      record {
        within = omega (arith, w.within);
        some = w.some;
        room = w.room;
        small = w.small;
        heads_long = length-set heads b v ∙ w.heads_long;
        next_long = length-set next (i - 1) (get_or heads b 0) ∙ w.next_long;
        head =
            λ b' h.
            at_set (λ (x : ℕ). x ≡ link keys m b' (i - 1)) heads b v b' (omega (arith, w.heads_long))
            (λ q.
            ve
            ∙ sym (link_step keys m b' (i - 1) inside
            ∙ ap (λ (t : Bool). cond t (i - 1 + 1) (link keys m b' (i - 1 + 1))) (falls_is keys m b' (i - 1) k (sym e ∙ sym q))))
            (λ q.
            w.head b' h
            ∙ sym (link_step keys m b' (i - 1) inside
            ∙ ap (λ (t : Bool). cond t (i - 1 + 1) (link keys m b' (i - 1 + 1))) (falls_other keys m b' (i - 1) (λ z. q (sym z ∙ sym e)))
            ∙ ap (link keys m b') down));
        goes =
            λ j a h k'.
            at_set (λ (x : ℕ). x ≡ link keys m (bucket_of m (get_or keys j 0)) (j + 1)) next (i - 1) (get_or heads b 0) j (omega (arith, w.next_long, w.room))
            (λ q.
            let up' : j + 1 ≡ i = omega arith in
            w.head b small
            ∙ ap (λ (x : ℕ). link keys m x i) (e ∙ ap (λ (x : ℕ). bucket_of m (get_or keys x 0)) (sym q))
            ∙ ap (link keys m (bucket_of m (get_or keys j 0))) (sym up'))
            (λ q. w.goes j (omega (arith, q)) h k');
        rest = λ j z. get_or-set_other next (i - 1) j (get_or heads b 0) 0 (λ q. omega (arith, k, z, ap (λ (x : ℕ). get_or keys x 0) q)) ∙ w.rest j z;
      }

pub built : {keys heads₀ next₀ heads next : List ℕ} {i : ℕ} → Building keys heads₀ next₀ heads next i → i ≤ 0 → Indexed keys heads next
built {keys} {heads₀} {next₀} {heads} {next} {i} w z =
    let none : i ≡ 0 = omega arith in
    let long : length heads ≡ length heads₀ = w.heads_long in
    record {
      some = omega (arith, w.some);
      room = omega (arith, w.room, w.next_long);
      head = λ b h. w.head b (omega arith) ∙ ap (link keys (length heads₀) b) none ∙ ap (λ (m : ℕ). link keys m b 0) (sym long);
      goes = λ j h k. w.goes j (omega arith) h k ∙ ap (λ (m : ℕ). link keys m (bucket_of m (get_or keys j 0)) (j + 1)) (sym long);
    }

-- ---- the answer of `build`

pub builds_short : {keys heads next : List ℕ} {b : Bool} → not b ≡ true → b ≡ fits (length keys) (length heads) (length next) → {e : Short} → Builds keys heads next (Err e) heads next
builds_short {b = b} t e =
    record { answer = sym (not-true b t) ∙ e; indexed = λ f. absurd (false≢true f); rest = λ f. absurd (false≢true f); kept = λ _. (refl, refl) }

pub builds_done :
    {keys heads next heads' next' : List ℕ} {b : Bool} → not b ≡ false → b ≡ fits (length keys) (length heads) (length next) → Indexed keys heads' next'
    → ((i : ℕ) → get_or keys i 0 ≡ 0 → get_or next' i 0 ≡ get_or next i 0) → Builds keys heads next (Ok tt) heads' next'
builds_done {b = b} t e I z =
    record { answer = sym (not-false b t) ∙ e; indexed = λ _. I; rest = λ _. z; kept = λ f. absurd (false≢true f) }

-- ---- the answers of `find` and `next_of`

pub finds_none : {keys heads next : List ℕ} {key : ℕ} → key ≡ 0 → Finds keys heads next key None
finds_none {keys} e = record { holds = tt; is = λ I. sym (ap (λ (k : ℕ). first_with keys k 0) e ∙ none_keyed keys 0) }

pub finds_no_bucket : {keys heads next : List ℕ} {key : ℕ} → length heads ≡ 0 → Finds keys heads next key None
finds_no_bucket e = record { holds = tt; is = λ I. absurd (omega (arith, I.some)) }

pub finds_walked : {keys heads next : List ℕ} {key first : ℕ} {r : Option ℕ} (b : ℕ) → (key ≡ 0 → ⊥) → InBucket (length heads) key b → first ≡ get_or heads b 0
    → Walks keys next key 0 first r → Finds keys heads next key r
finds_walked {keys} {heads} b n B e w =
    record {
      holds = w.holds;
      is =
          λ I.
          w.is heads I (by_cases (ℕ_discrete _ 0) (λ z. absurd (n z)) (λ z. omega (arith, z)))
          (e ∙ I.head b B.small ∙ ap (λ (x : ℕ). link keys (length heads) x 0) B.is);
    }

pub continues_none : {keys next : List ℕ} {entry : ℕ} → get_or keys entry 0 ≡ 0 → Continues keys next entry None
continues_none {keys} {next} {entry} e =
    record { holds = tt; is = λ heads I. sym (ap (λ (k : ℕ). first_with keys k (entry + 1)) e ∙ none_keyed keys (entry + 1)) }

pub continues_past : {keys next : List ℕ} {entry : ℕ} → length keys ≤ entry → Continues keys next entry None
continues_past {keys} {next} {entry} h = continues_none (get_or-eq_default keys 0 {n = entry} h)

pub continues_short : {keys next : List ℕ} {entry : ℕ} → entry < length keys → length next ≤ entry → Continues keys next entry None
continues_short l h = record { holds = tt; is = λ heads I. absurd (omega (arith, I.room)) }

pub continues_walked : {keys next : List ℕ} {entry first : ℕ} {r : Option ℕ} → entry < length keys → (get_or keys entry 0 ≡ 0 → ⊥) → first ≡ get_or next entry 0
    → Walks keys next (get_or keys entry 0) (entry + 1) first r → Continues keys next entry r
continues_walked {keys} {next} {entry} l n e w =
    let k : 0 < get_or keys entry 0 = by_cases (ℕ_discrete (get_or keys entry 0) 0) (λ z. absurd (n z)) (λ z. omega (arith, z)) in
    record { holds = w.holds; is = λ heads I. w.is heads I k (e ∙ I.goes entry l k) }
