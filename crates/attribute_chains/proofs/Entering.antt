-- The attributes among entries, chained one after the other: each stands at the front of the chain of its symbol, and the other chains stay.
use mathlib.Core.Path.{◌≡◌, refl, sym, ap, ◌∙◌}
use mathlib.Core.Logic.{◌⊎◌, inl, inr, by_cases}
use mathlib.Core.Bool.{true, false, cond}
use mathlib.Core.List.{List, ◌∷◌}
use Prim.Native.Nat.{ℕ, suc, ◌+◌, ◌-◌, ◌*◌, ◌%◌, ◌≤◌, ◌<◌}
use native.Mathlib.Omega.{arith}
use native.Mathlib.Numerals.{add-one}
use native.Mathlib.Decide.{ℕ_discrete}
use borrow.Author.Tests.{eq-eqb, ne_eqb}
use lib.Dec.{eqb}
use lib.ListN.{length, get_or, set, length-set}
use Rattle.columns.proofs.Laws.{at_set, at_other}
use Rattle.relations.specs.Select.{keep}
use Rattle.relations.proofs.Select.{keep_cons}
use Rattle.scopes.specs.Entries.{radix}
use Rattle.symbol_tables.specs.Entry.{node_limit}
use Rattle.attributes.specs.Attributes.{attribute_kind, attributes_between}
use Rattle.attributes.proofs.Collecting.{between_none, between_step}
use Rattle.attribute_chains.specs.Chains.{link_count, Chain, end, link, Chained, entered_pairs, EntersEntries}

-- ---- one attribute more

-- a chain goes by the pairs below its link alone
chain_kept : {rank : ℕ → ℕ} {pairs pairs' : List ℕ} {count at : ℕ} {ns : List ℕ} → ((i : ℕ) → i < 2 * count → get_or pairs' i 0 ≡ get_or pairs i 0) → at ≤ count
    → Chain rank pairs at ns → Chain rank pairs' at ns
chain_kept h l end = end
chain_kept h l (link {a} few down small node second K) =
    link few down small (h (2 * a) (omega arith) ∙ node) (h (2 * a + 1) (omega arith) ∙ second) (chain_kept h (omega arith) K)

module _ {rank symbol : ℕ → ℕ} {limit count r n : ℕ} {heads pairs ns : List ℕ} (C : Chained rank symbol limit count heads pairs ns) (few : count < link_count)
    (owner : rank n ≡ r) (small : n < node_limit) (below : symbol n < limit) (room : limit ≤ length heads) (place : 2 * count + 1 < length pairs)
  where
    abbrev heads' : List ℕ
    heads' = set heads (symbol n) (count + 1)

    abbrev second : ℕ
    second = r * link_count + get_or heads (symbol n) 0 % link_count

    abbrev pairs' : List ℕ
    pairs' = entered_pairs heads count r (symbol n) n pairs

    kept : (i : ℕ) → i < 2 * count → get_or pairs' i 0 ≡ get_or pairs i 0
    kept i l =
        at_other (set pairs (2 * count) n) (2 * count + 1) i second 0 (λ q. omega arith) ∙ at_other pairs (2 * count) i n 0 (λ q. omega arith)

    node_is : get_or pairs' (2 * count) 0 ≡ n
    node_is =
        at_other (set pairs (2 * count) n) (2 * count + 1) (2 * count) second 0 (λ q. omega arith) ∙ at_set pairs (2 * count) n 0 (omega arith)

    second_is : get_or pairs' (2 * count + 1) 0 ≡ rank n * link_count + get_or heads (symbol n) 0
    second_is =
        let k = C.known (symbol n) below in
        let m : get_or heads (symbol n) 0 % link_count ≡ get_or heads (symbol n) 0 = omega arith in
        at_set (set pairs (2 * count) n) (2 * count + 1) second 0 (omega (arith, length-set pairs (2 * count) n)) ∙ rw (m, owner)

    here : get_or heads' (symbol n) 0 ≡ count + 1
    here = at_set heads (symbol n) (count + 1) 0 (omega arith)

    other : (s : ℕ) → (s ≡ symbol n → ⊥) → get_or heads' s 0 ≡ get_or heads s 0
    other s q = at_other heads (symbol n) s (count + 1) 0 q

    chained_more : Chained rank symbol limit (count + 1) heads' pairs' (n ∷ ns)
    chained_more =
        record {
          known = λ s l. by_cases (ℕ_discrete s (symbol n)) (λ q. rw q (omega (arith, here))) (λ q. omega (arith, other s q, C.known s l));
          is = λ s l. rw (keep_cons (λ m. eqb (symbol m) s) n ns) (by_cases (ℕ_discrete s (symbol n)) (λ q. in_front s l q) (λ q. elsewhere s l q));
        }
      where
        in_front : (s : ℕ) → s < limit → s ≡ symbol n
            → Chain rank pairs' (get_or heads' s 0) (cond (eqb (symbol n) s) (n ∷ keep (λ m. eqb (symbol m) s) ns) (keep (λ m. eqb (symbol m) s) ns))
        in_front s l q =
            let k = C.known s l in
            let y : get_or heads s 0 ≡ get_or heads (symbol n) 0 = ap (λ (i : ℕ). get_or heads i 0) q in
            let z : get_or heads' s 0 ≡ suc count = ap (λ (i : ℕ). get_or heads' i 0) q ∙ here ∙ add-one count in
            rw (eq-eqb (symbol n) s (sym q), z)
            (link few k small node_is (second_is ∙ ap (λ (x : ℕ). rank n * link_count + x) (sym y)) (chain_kept kept k (C.is s l)))

        elsewhere : (s : ℕ) → s < limit → (s ≡ symbol n → ⊥)
            → Chain rank pairs' (get_or heads' s 0) (cond (eqb (symbol n) s) (n ∷ keep (λ m. eqb (symbol m) s) ns) (keep (λ m. eqb (symbol m) s) ns))
        elsewhere s l q = rw (ne_eqb (symbol n) s (λ z. q (sym z)), other s q) (chain_kept kept (C.known s l) (C.is s l))

-- ---- the attributes among entries, from the last to the first
pub record Entering (kinds keys nodes : List ℕ) (lo hi r before : ℕ) (heads₁ pairs₁ heads pairs : List ℕ) (count e : ℕ) : Type 0 where
  pub heads_long : length heads ≡ length heads₁
  pub pairs_long : length pairs ≡ length pairs₁
  pub upto : e ≤ hi
  pub low : (lo ≤ e) ⊎ (e ≡ hi)
  pub small : count < link_count
  pub enters : EntersEntries kinds keys nodes e hi r before heads₁ pairs₁ count heads pairs

module _ {kinds keys nodes : List ℕ} {lo hi r before : ℕ} where
  pub entering_starts : {heads pairs : List ℕ} → Entering kinds keys nodes lo hi r before heads pairs heads pairs (before % link_count) hi
  entering_starts =
      record {
        heads_long = refl;
        pairs_long = refl;
        upto = omega arith;
        low = inr refl;
        small = omega arith;
        enters =
            record {
              few = λ l. (omega arith, omega arith);
              behind = λ symbol limit fits k l. refl;
              is =
                  λ rank symbol limit ns l a b d fits owned C.
                  let m : before % link_count ≡ before = omega arith in
                  rw (between_none kinds nodes hi hi (omega arith), m) C;
            };
      }

  module _ {heads₁ pairs₁ heads pairs : List ℕ} {count e : ℕ} (s : Entering kinds keys nodes lo hi r before heads₁ pairs₁ heads pairs count e) where
    pub entering_ends : e ≤ lo → EntersEntries kinds keys nodes lo hi r before heads₁ pairs₁ count heads pairs
    entering_ends l = by s.low
      where
        by : (lo ≤ e) ⊎ (e ≡ hi) → EntersEntries kinds keys nodes lo hi r before heads₁ pairs₁ count heads pairs
        by (inl h) = let q : e ≡ lo = omega arith in rw q at s.enters
        by (inr h) =
            let q : attributes_between kinds nodes lo hi ≡ attributes_between kinds nodes e hi =
            between_none kinds nodes lo hi (omega arith) ∙ sym (between_none kinds nodes e hi (omega arith)) in
            let z : hi - lo ≡ hi - e = omega arith in
            record {
              few = λ l. rw z (s.enters.few (rw z at l));
              behind = λ symbol limit fits k l. s.enters.behind symbol limit (λ i a b. absurd (omega arith)) k l;
              is =
                  λ rank symbol limit ns l a b d fits owned C.
                  rw q (s.enters.is rank symbol limit ns (omega arith) a b d (λ i a b. absurd (omega arith)) (λ i a b. absurd (omega arith)) C);
            }

    module _ (l : lo < e) where
      pub entering_skip : attribute_kind (get_or kinds (get_or nodes (e - 1) 0) 0) ≡ false → Entering kinds keys nodes lo hi r before heads₁ pairs₁ heads pairs count (e - 1)
      entering_skip h =
          let q : attributes_between kinds nodes (e - 1) hi ≡ attributes_between kinds nodes e hi = between_step kinds nodes e hi (omega arith) s.upto ∙ rw h in
          let u = s.upto in
          record {
            heads_long = s.heads_long;
            pairs_long = s.pairs_long;
            upto = omega arith;
            low = inl (omega arith);
            small = s.small;
            enters =
                record {
                  few = λ f. let g = s.enters.few (omega arith) in (g.0, omega (arith, g.1));
                  behind = λ symbol limit fits k b. s.enters.behind symbol limit (λ i x y. fits i (omega arith) y) k b;
                  is =
                      λ rank symbol limit ns f a b d fits owned C.
                      rw q
                      (s.enters.is rank symbol limit ns (omega arith) a b d (λ i x y. fits i (omega arith) y) (λ i x y. owned i (omega arith) y) C);
                };
          }

      pub entering_more : {x n : ℕ} {heads' pairs' : List ℕ} → n ≡ get_or nodes (e - 1) 0 → attribute_kind (get_or kinds n 0) ≡ true → x ≡ get_or keys (e - 1) 0 % radix
          → (count < link_count → heads' ≡ set heads x (count + 1))
          → (count < link_count → r < link_count → n < node_limit → pairs' ≡ entered_pairs heads count r x n pairs)
          → length heads' ≡ length heads → length pairs' ≡ length pairs
          → Entering kinds keys nodes lo hi r before heads₁ pairs₁ heads' pairs' ((count + 1) % link_count) (e - 1)
      entering_more {x} {n} {heads'} {pairs'} z h y H P hl pl =
          let k : attribute_kind (get_or kinds (get_or nodes (e - 1) 0) 0) ≡ true = rw z at h in
          let t : attributes_between kinds nodes (e - 1) hi ≡ get_or nodes (e - 1) 0 ∷ attributes_between kinds nodes e hi =
          between_step kinds nodes e hi (omega arith) s.upto ∙ rw k in
          let q : attributes_between kinds nodes (e - 1) hi ≡ n ∷ attributes_between kinds nodes e hi =
          t ∙ ap (λ (m : ℕ). m ∷ attributes_between kinds nodes e hi) (sym z) in
          let u = s.upto in
          record {
            heads_long = hl ∙ s.heads_long;
            pairs_long = pl ∙ s.pairs_long;
            upto = omega arith;
            low = inl (omega arith);
            small = omega arith;
            enters =
                record {
                  few = λ f. let g = s.enters.few (omega arith) in (omega (arith, g.0, g.1), omega (arith, g.1));
                  behind =
                      λ symbol limit fits k b.
                      let F = fits (e - 1) (omega arith) (omega arith) in
                      let w = F.below in
                      let v = F.key in
                      ap (λ (c : List ℕ). get_or c k 0) (H s.small) ∙ at_other heads x k (count + 1) 0 (λ t. omega (arith, t, y, v, w, b))
                      ∙ s.enters.behind symbol limit (λ i a b. fits i (omega arith) b) k b;
                  is =
                      λ rank symbol limit ns f a b d fits owned C.
                      let F = fits (e - 1) (omega arith) (omega arith) in
                      let g = s.enters.few (omega arith) in
                      let w : symbol n < limit = rw z F.below in
                      let v : x ≡ symbol n = y ∙ F.key ∙ ap symbol (sym z) in
                      let small : n < node_limit = rw z F.node in
                      let m : (count + 1) % link_count ≡ count + 1 = omega (arith, g.1) in
                      let o : rank n ≡ r = ap rank z ∙ owned (e - 1) (omega arith) (omega arith) in
                      let K =
                      s.enters.is rank symbol limit ns (omega arith) a b (omega (arith, d, m, pl)) (λ i x y. fits i (omega arith) y) (λ i x y. owned i (omega arith) y) C in
                      let hs : heads' ≡ set heads (symbol n) (count + 1) = rw v at (H s.small) in
                      let ps : pairs' ≡ entered_pairs heads count r (symbol n) n pairs = rw v at (P s.small a small) in
                      rw (q, m, hs, ps) (chained_more K s.small o small w (omega (arith, s.heads_long)) (omega (arith, d, m, pl)));
                };
          }

-- ---- the calls of `enter`
pub entered_heads : (heads : List ℕ) {heads' : List ℕ} (count : ℕ) {symbol s v : ℕ} → s ≡ symbol → (count % link_count + 1 < 4294967296 → v ≡ count % link_count + 1)
    → heads' ≡ set heads s v → count < link_count → heads' ≡ set heads symbol (count + 1)
entered_heads heads count {symbol} {s} {v} e f h l =
    let y : v ≡ count + 1 = f (omega arith) ∙ omega arith in h ∙ ap (λ (i : ℕ). set heads i v) e ∙ ap (set heads symbol) y

pub entered : (heads pairs : List ℕ) {pairs₁ pairs₂ : List ℕ} (count node : ℕ) {rank symbol s h i k u v : ℕ} → s ≡ symbol → h ≡ get_or heads s 0 → i ≡ h
    → (node < 4294967296 → v ≡ node) → pairs₁ ≡ set pairs (2 * (count % link_count)) v → k ≡ rank
    → (k % link_count * link_count + i % link_count < 4294967296 → u ≡ k % link_count * link_count + i % link_count)
    → pairs₂ ≡ set pairs₁ (2 * (count % link_count) + 1) u → count < link_count → rank < link_count → node < node_limit
    → pairs₂ ≡ entered_pairs heads count rank symbol node pairs
entered heads pairs count node {rank} {symbol} {s} {h} {i} {k} {u} {v} e a b f p d g q l m n =
    let w : v ≡ node = f (omega arith) in
    let c : count % link_count ≡ count = omega arith in
    let r : k % link_count ≡ rank = omega arith in
    let t : i ≡ get_or heads symbol 0 = b ∙ a ∙ ap (λ (x : ℕ). get_or heads x 0) e in
    let y : u ≡ rank * link_count + get_or heads symbol 0 % link_count =
    g (omega arith) ∙ ap (λ (x : ℕ). x * link_count + i % link_count) r ∙ ap (λ (x : ℕ). rank * link_count + x % link_count) t in
    rw (q, p, c, w, y)
