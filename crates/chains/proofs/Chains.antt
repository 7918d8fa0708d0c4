-- Laws of chains: the first identifiers of spellings, how many of them a chain has, and a walk along one.
use mathlib.Core.Path.{◌≡◌, refl, sym, ap, ◌∙◌}
use mathlib.Core.Bool.{Bool, true, false, cond, false≢true}
use mathlib.Core.List.{List}
use Prim.Native.Nat.{ℕ, zero, suc, ◌+◌, ◌-◌, ◌≤◌, ◌<◌}
use native.Mathlib.Omega.{arith}
use native.Mathlib.Numerals.{add-one}
use lib.Dec.{eqb}
use lib.ListN.{length, get_or}
use borrow.Author.Tests.{eqb-true, eq-eqb, lt-ltb, le-ltb}
use Rattle.express.specs.Tokens.Bytes.{same}
use Rattle.express.specs.Tokens.Spelling.{spelling, is_identifier, symbol_of}
use Rattle.relations.proofs.Select.{and_fst, and_snd, and_both, untrue}
use Rattle.express.proofs.Tokens.Spelling.{symbol_named, symbol_spelled, symbol_iff}
use Rattle.index.specs.Link.{last_index_below}
use Rattle.index.proofs.Search.{last_skip, last_next, last_none_yet, last_le, last_passes}
use Rattle.chains.specs.Rounds.{full}
use Rattle.chains.specs.Chains.{is_first, entries, home_at, chained, Links}
use Rattle.chains.specs.Steps.{has, wanted, met_by, Along, Lined}
use Rattle.chains.specs.declared.Met.TheVariants.{At, Full, Room}

module _ (bytes starts lengths : List ℕ) where
  abbrev spelt : ℕ → List ℕ
  spelt i = spelling bytes starts lengths i

  abbrev alike : List ℕ → ℕ → Bool
  alike xs j = has bytes starts lengths xs j

  module _ (t : List ℕ) where
    abbrev symbol : ℕ → ℕ
    symbol i = symbol_of bytes starts lengths t i

    abbrev first : ℕ → Bool
    first j = is_first bytes starts lengths t j

    abbrev on : ℕ → ℕ → ℕ → Bool
    on m b j = chained bytes starts lengths t m b j

    abbrev at : ℕ → ℕ → ℕ
    at m j = home_at bytes starts lengths t m j

    abbrev count : ℕ → ℕ → ℕ → ℕ
    count m n b = entries bytes starts lengths t m n b

    abbrev want : ℕ → ℕ → List ℕ → ℕ → Bool
    want m b xs j = wanted bytes starts lengths t m b xs j

    -- ---- the first identifiers of spellings

    pub first_by : (j : ℕ) → is_identifier t j ≡ true → symbol j ≡ j → first j ≡ true
    unfolding is_first
    first_by j h e = and_both _ _ h (eq-eqb _ _ e)

    pub first_named : (j : ℕ) → first j ≡ true → is_identifier t j ≡ true
    unfolding is_first
    first_named j e = and_fst (is_identifier t j) (eqb (symbol j) j) e

    pub first_itself : (j : ℕ) → first j ≡ true → symbol j ≡ j
    unfolding is_first
    first_itself j e = eqb-true (symbol j) j (and_snd (is_identifier t j) _ e)

    pub first_once : (j k : ℕ) → first j ≡ true → first k ≡ true → spelt j ≡ spelt k → j ≡ k
    first_once j k e f s =
        sym (first_itself j e) ∙ (symbol_iff bytes starts lengths t j k (first_named j e) (first_named k f)).1 s ∙ first_itself k f

    -- the symbol of an identifier is the first of its spelling
    pub symbol_first : (j : ℕ) → is_identifier t j ≡ true → first (symbol j) ≡ true
    symbol_first j h =
        let g = symbol_named bytes starts lengths t j h in
        first_by (symbol j) g ((symbol_iff bytes starts lengths t (symbol j) j g h).1 (symbol_spelled bytes starts lengths t j h))

    -- ---- who stands on a chain, and how many

    pub on_is : (m b j : ℕ) → first j ≡ true → at m j ≡ b → on m b j ≡ true
    unfolding chained
    on_is m b j h e = and_both _ _ h (eq-eqb _ _ e)

    pub on_first : (m b j : ℕ) → on m b j ≡ true → first j ≡ true
    unfolding chained
    on_first m b j e = and_fst (first j) (eqb (at m j) b) e

    pub on_home : (m b j : ℕ) → on m b j ≡ true → at m j ≡ b
    unfolding chained
    on_home m b j e = eqb-true (at m j) b (and_snd (first j) _ e)

    module _ (m b : ℕ) where
      pub count_next : (n : ℕ) → count m (suc n) b ≡ cond (on m b n) (suc (count m n b)) (count m n b)
      unfolding entries chained
      count_next n = refl

      count_more : (n : ℕ) → count m n b ≤ count m (suc n) b
      count_more n = by (on m b n) (count_next n)
        where
          by : (x : Bool) → count m (suc n) b ≡ cond x (suc (count m n b)) (count m n b) → count m n b ≤ count m (suc n) b
          by true e = omega (arith, e)
          by false e = omega (arith, e)

      count_plus : (j d : ℕ) → count m j b ≤ count m (j + d) b
      count_plus j zero = let q : j + 0 ≡ j = omega arith in rw q (omega arith)
      count_plus j (suc d) =
          let q : j + suc d ≡ suc (j + d) = omega arith in let e = ap (λ (x : ℕ). count m x b) q in omega (arith, e, count_plus j d, count_more (j + d))

      -- chains only grow
      pub count_le : (j n : ℕ) → j ≤ n → count m j b ≤ count m n b
      count_le j n h = let q : j + (n - j) ≡ n = omega arith in let e = ap (λ (x : ℕ). count m x b) q in omega (arith, e, count_plus j (n - j))

      -- a chain that begins nowhere has no entry; else it has one more than below its beginning
      pub count_none : (n : ℕ) → last_index_below (on m b) n ≡ 0 → count m n b ≡ 0
      unfolding last_index_below entries
      count_none zero e = refl
      count_none (suc n) e = by (on m b n) (count_next n) e (count_none n)
        where
          by : (x : Bool) → count m (suc n) b ≡ cond x (suc (count m n b)) (count m n b) → cond x (suc n) (last_index_below (on m b) n) ≡ 0
              → (last_index_below (on m b) n ≡ 0 → count m n b ≡ 0) → count m (suc n) b ≡ 0
          by true c e more = absurd (omega arith)
          by false c e more = c ∙ more e

      pub count_last : (n k : ℕ) → last_index_below (on m b) n ≡ suc k → count m n b ≡ suc (count m k b)
      unfolding last_index_below entries
      count_last zero k e = absurd (omega arith)
      count_last (suc n) k e = by (on m b n) (count_next n) e (count_last n k)
        where
          by : (x : Bool) → count m (suc n) b ≡ cond x (suc (count m n b)) (count m n b) → cond x (suc n) (last_index_below (on m b) n) ≡ suc k
              → (last_index_below (on m b) n ≡ suc k → count m n b ≡ suc (count m k b)) → count m (suc n) b ≡ suc (count m k b)
          by true c e more = let q : n ≡ k = omega arith in c ∙ ap (λ (x : ℕ). suc (count m x b)) q
          by false c e more = c ∙ more e

      pub wanted_on : (xs : List ℕ) (j : ℕ) → want m b xs j ≡ true → on m b j ≡ true
      wanted_on xs j e = and_fst (on m b j) (alike xs j) e

      pub wanted_alike : (xs : List ℕ) (j : ℕ) → want m b xs j ≡ true → alike xs j ≡ true
      wanted_alike xs j e = and_snd (on m b j) (alike xs j) e

  -- ---- the walk for a spelling

  -- the link at hand leads to the last of the chain below a number, what is to be met from there is what was to be met, and the entries from
  -- there are those that were not passed
  pub record Walk (next xs : List ℕ) (limit start below l passed : ℕ) : Type 0 where
    pub lined : Lined bytes starts lengths next limit
    pub low : passed + below ≤ limit
    pub is :
        (t : List ℕ) (m b : ℕ) → Links bytes starts lengths t m next limit
        → start ≡ last_index_below (chained bytes starts lengths t m b) limit
        → (l ≡ last_index_below (chained bytes starts lengths t m b) below)
        × (last_index_below (wanted bytes starts lengths t m b xs) below ≡ last_index_below (wanted bytes starts lengths t m b xs) limit)
        × (passed + entries bytes starts lengths t m below b ≡ entries bytes starts lengths t m limit b)

  module _ {next xs : List ℕ} {limit start : ℕ} where
    pub walk_starts : Lined bytes starts lengths next limit → Walk next xs limit start limit start 0
    walk_starts L = record { lined = L; low = omega arith; is = λ t m b K e. (e, refl, omega arith) }

    module _ {below l passed : ℕ} (w : Walk next xs limit start below l passed) where
      module _ (t : List ℕ) (m b : ℕ) (K : Links bytes starts lengths t m next limit) (e : start ≡ last_index_below (on t m b) limit) where
        here : l ≡ last_index_below (on t m b) below
        here = (w.is t m b K e).0

        -- what is left to be met stands at the link or below it
        to_here : last_index_below (want t m b xs) limit ≡ last_index_below (want t m b xs) l
        to_here =
            sym (w.is t m b K e).1 ∙ last_skip (want t m b xs) (on t m b) (wanted_on t m b xs) below ∙ ap (last_index_below (want t m b xs)) (sym here)

        inside : l ≤ below
        inside = omega (arith, here, last_le (on t m b) below)

        met : 0 < l → on t m b (l - 1) ≡ true
        met h = let q : suc (l - 1) ≡ l = omega arith in last_passes (on t m b) below (l - 1) (sym here ∙ sym q)

        -- by whether the token at hand is wanted
        at_hand : 0 < l → last_index_below (want t m b xs) limit ≡ cond (want t m b xs (l - 1)) (l - 1 + 1) (last_index_below (want t m b xs) (l - 1))
        at_hand h = let q : l ≡ l - 1 + 1 = omega arith in to_here ∙ ap (last_index_below (want t m b xs)) q ∙ last_next (want t m b xs) (l - 1)

      -- the link leads past the limit: these are no chains
      pub walk_leaves : 0 < l → below ≤ l - 1 → Along bytes starts lengths next xs limit start Room
      walk_leaves h k = record { holds = tt; is = λ t m b K e. absurd (omega (arith, inside t m b K e)) }

      module _ (h : 0 < l) (k : l - 1 < below) where
        pub walk_inside : (l - 1 < length starts) × (l - 1 < length lengths) × (l - 1 < length next)
        walk_inside = let L = w.lined in let low = w.low in (omega arith, omega arith, omega arith)

        pub walk_hits : {r : Bool} → r ≡ same (spelling bytes starts lengths (l - 1)) xs → r ≡ true → Along bytes starts lengths next xs limit start (At (l - 1))
        walk_hits c f =
            let s : alike xs (l - 1) ≡ true = sym c ∙ f in
            record {
              holds = (omega (arith, w.low), s);
              is =
                  λ t m b K e.
                  let y : want t m b xs (l - 1) ≡ true = and_both (on t m b (l - 1)) (alike xs (l - 1)) (met t m b K e h) s in
                  sym (ap (λ (x : ℕ). met_by x (count t m limit b))
                  (at_hand t m b K e h ∙ ap (λ (z : Bool). cond z (l - 1 + 1) (last_index_below (want t m b xs) (l - 1))) y ∙ add-one (l - 1)));
            }

        pub walk_goes_on : {r : Bool} {x : ℕ} → r ≡ same (spelling bytes starts lengths (l - 1)) xs → r ≡ false → x ≡ get_or next (l - 1) 0
            → Walk next xs limit start (l - 1) x (passed + 1)
        walk_goes_on c f q =
            let s : alike xs (l - 1) ≡ false = sym c ∙ f in
            record {
              lined = w.lined;
              low = omega (arith, w.low);
              is =
                  λ t m b K e.
                  let off : want t m b xs (l - 1) ≡ false = untrue (want t m b xs (l - 1)) (λ y. false≢true (sym s ∙ wanted_alike t m b xs (l - 1) y)) in
                  let there : on t m b (l - 1) ≡ true = met t m b K e h in
                  let one : suc (l - 1) ≡ l = omega arith in
                  let fewer : count t m below b ≡ suc (count t m (l - 1) b) = count_last t m b below (l - 1) (sym (here t m b K e) ∙ sym one) in (
                    q
                        ∙ K (l - 1) (omega (arith, w.low)) (on_first t m b (l - 1) there)
                        ∙ ap (λ (x : ℕ). last_index_below (on t m x) (l - 1)) (on_home t m b (l - 1) there),
                    sym (at_hand t m b K e h ∙ ap (λ (z : Bool). cond z (l - 1 + 1) (last_index_below (want t m b xs) (l - 1))) off),
                    omega (arith, fewer, (w.is t m b K e).2),
                  );
            }

      module _ (h : l ≤ 0) where
        ends : (t : List ℕ) (m b : ℕ) → Links bytes starts lengths t m next limit → start ≡ last_index_below (on t m b) limit
            → (last_index_below (want t m b xs) limit ≡ 0) × (count t m limit b ≡ passed)
        ends t m b K e =
            let z : l ≡ 0 = omega arith in
            let none = count_none t m b below (sym (here t m b K e) ∙ z) in (
              to_here t m b K e ∙ ap (last_index_below (want t m b xs)) z ∙ last_none_yet (want t m b xs),
              omega (arith, none, (w.is t m b K e).2),
            )

        pub walk_finds_room : passed < 8 → Along bytes starts lengths next xs limit start Room
        walk_finds_room r =
            record {
              holds = tt;
              is =
                  λ t m b K e.
                  let y = ends t m b K e in
                  sym (ap (λ (x : ℕ). met_by x (count t m limit b)) y.0
                  ∙ ap (λ (z : Bool). cond z Room Full) (lt-ltb (count t m limit b) full (omega (arith, r, y.1))));
            }

        pub walk_finds_none : 8 ≤ passed → Along bytes starts lengths next xs limit start Full
        walk_finds_none r =
            record {
              holds = tt;
              is =
                  λ t m b K e.
                  let y = ends t m b K e in
                  sym (ap (λ (x : ℕ). met_by x (count t m limit b)) y.0
                  ∙ ap (λ (z : Bool). cond z Room Full) (le-ltb (count t m limit b) full (omega (arith, r, y.1))));
            }
