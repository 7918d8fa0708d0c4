-- An order is grouped if the schemas of its declarations never fall: as the code has it, going from schema to schema.
use mathlib.Core.Path.{◌≡◌, refl, sym, ap, ◌∙◌}
use mathlib.Core.Logic.{◌⊎◌, inl, inr, ⊎_elim}
use mathlib.Core.Bool.{Bool, true, false, false≢true}
use mathlib.Core.List.{List, [], ◌∷◌, map}
use Prim.Native.Nat.{ℕ, zero, suc, ◌+◌, ◌-◌, ◌≤◌, ◌<◌}
use native.Mathlib.Omega.{arith}
use borrow.Author.Tests.{leb-true, le-leb, lt-leb, lt-ltb}
use lib.Dec.{eqb, leb, ltb}
use lib.ListN.{length, get_or, drop, drop_of_length-le}
use lib.Seq.{drop-cons}
use Rattle.relations.proofs.Select.{and_fst, and_snd, le_or, First, first_is, first_rises}
use Rattle.express.specs.Syntax.NodeKind as node
use Rattle.constant_rows.specs.Parts.{schema_in, never_falls, grouped, parts}

module _ (kinds : List ℕ) where
  abbrev is_schema : ℕ → Bool
  is_schema m = eqb (get_or kinds m 0) node.schema

  of : (d : ℕ) → First is_schema d (length kinds - d) (schema_in kinds d)
  of d = first_is is_schema d (length kinds - d)

  -- the schema of a node is not before it, nor behind a schema that is not before the node; and a later node has no earlier schema
  pub schema_from : (d : ℕ) → d ≤ schema_in kinds d
  schema_from d = (of d).from

  pub schema_upto : (d m : ℕ) → d ≤ m → is_schema m ≡ true → schema_in kinds d ≤ m
  schema_upto d m l h =
      ⊎_elim (λ (a : schema_in kinds d ≤ m). a) (λ (a : m < schema_in kinds d). absurd (false≢true (sym ((of d).none m l a) ∙ h))) (le_or (schema_in kinds d) m)

  within : (d : ℕ) → d ≤ length kinds → schema_in kinds d ≤ length kinds
  within d l = omega (arith, (of d).upto)

  schema_grows : (c d : ℕ) → c ≤ d → c ≤ length kinds → schema_in kinds c ≤ schema_in kinds d
  schema_grows c d l k =
      ⊎_elim (λ (a : d ≤ length kinds). first_rises is_schema (length kinds) c d l a)
      (λ (a : length kinds < d). let b = schema_from d in let u = within c k in omega arith) (le_or d (length kinds))

  -- THE LOOP'S INVARIANT: the next schema from lo on is s, lo is the node behind one, and what is to come decides
  pub record Grouping (order : List ℕ) (i lo s : ℕ) : Type 0 where
    pub next : s ≡ schema_in kinds lo
    pub low : lo ≤ length kinds
    pub start : (lo ≡ 0) ⊎ ((0 < lo) × (is_schema (lo - 1) ≡ true))
    pub is : never_falls (length kinds) lo (map (schema_in kinds) (drop i order)) ≡ grouped kinds order

  pub grouping_starts : (order : List ℕ) {s : ℕ} → s ≡ schema_in kinds 0 → Grouping order 0 0 s
  grouping_starts order e = record { next = e; low = omega arith; start = inl refl; is = refl }

  pub grouping_ends : {order : List ℕ} {i lo s : ℕ} → Grouping order i lo s → length order ≤ i → true ≡ grouped kinds order
  unfolding never_falls
  grouping_ends {order} {i} {lo} G l = rw (drop_of_length-le order l) at G.is

  module _ {order : List ℕ} {i lo s : ℕ} (G : Grouping order i lo s) (l : i < length order) {d : ℕ} (d_is : d ≡ get_or order i 0) where
    split : drop i order ≡ d ∷ drop (i + 1) order
    split = let f : i + 1 ≡ suc i = omega arith in rw (f, d_is) (drop-cons order i 0 l)

    -- the declaration's schema, and what follows
    step : never_falls (length kinds) lo (schema_in kinds d ∷ map (schema_in kinds) (drop (i + 1) order)) ≡ grouped kinds order
    step = ap (λ (x : List ℕ). never_falls (length kinds) lo (map (schema_in kinds) x)) (sym split) ∙ G.is

    before : (c : ℕ) → c < lo → schema_in kinds c < lo
    before c a =
        ⊎_elim (λ (q : lo ≡ 0). absurd (omega arith))
        (λ h. let u = schema_upto c (lo - 1) (omega arith) h.1 in omega (arith, u, a)) G.start

    pub grouping_behind : d < lo → false ≡ grouped kinds order
    unfolding never_falls
    grouping_behind a = rw (lt-leb lo (schema_in kinds d) (before d a)) at step

    module _ (b : lo ≤ d) where
      -- where s bounds what follows, lo does
      alike : (x : ℕ) → leb s (schema_in kinds x) ≡ leb lo (schema_in kinds x)
      alike x =
          let v = schema_from lo in
          ⊎_elim
          (λ (a : lo ≤ x).
          let u = schema_grows lo x a G.low in
          le-leb s (schema_in kinds x) (omega (arith, G.next)) ∙ sym (le-leb lo (schema_in kinds x) (omega arith)))
          (λ (a : x < lo).
          let u = before x a in
          lt-leb s (schema_in kinds x) (omega (arith, G.next)) ∙ sym (lt-leb lo (schema_in kinds x) u))
          (le_or lo x)

      from_either : (xs : List ℕ) → never_falls (length kinds) s (map (schema_in kinds) xs) ≡ never_falls (length kinds) lo (map (schema_in kinds) xs)
      unfolding never_falls
      from_either [] = refl
      from_either (x ∷ xs) = rw (alike x)

      -- the first schema from lo on stands at s, unless there is none
      stands : s < length kinds → is_schema s ≡ true
      stands k = rw G.next ((of lo).passes (omega (arith, G.next, k, schema_from lo)))

      pub grouping_here : d ≤ s → Grouping order (i + 1) lo s
      unfolding never_falls
      grouping_here a =
          let w = schema_from lo in
          let z = within lo G.low in
          let u : schema_in kinds d ≤ s =
          ⊎_elim (λ (x : length kinds ≤ s). let y = within d (omega (arith, G.next)) in omega (arith, G.next)) (λ (x : s < length kinds). schema_upto d s a (stands x))
          (le_or (length kinds) s) in
          let v = schema_grows lo d b G.low in
          let q : schema_in kinds d ≡ s = omega (arith, G.next) in
          record {
            next = G.next;
            low = G.low;
            start = G.start;
            is = sym (from_either (drop (i + 1) order)) ∙ (rw (q, le-leb lo s (omega (arith, G.next)), le-leb s (length kinds) (omega (arith, G.next))) at step);
          }

      module _ (a : s < d) where
        low : leb lo (schema_in kinds d) ≡ true
        low = le-leb lo (schema_in kinds d) (omega (arith, schema_from d))

        -- past the last schema
        pub grouping_out : length kinds ≤ s → false ≡ grouped kinds order
        unfolding never_falls
        grouping_out k = rw (low, lt-leb (schema_in kinds d) (length kinds) (omega (arith, schema_from d))) at step

        pub grouping_next : s < length kinds → {r : ℕ} → r ≡ schema_in kinds (s + 1) → Grouping order i (s + 1) r
        unfolding never_falls
        grouping_next k e =
            let u = schema_from d in
            let q : s + 1 - 1 ≡ s = omega arith in
            let high : leb (s + 1) (schema_in kinds d) ≡ true = le-leb (s + 1) (schema_in kinds d) (omega arith) in
            record {
              next = e;
              low = omega arith;
              start = inr (omega arith, rw q (stands k));
              is = rw (split, high) (rw low at step);
            }

-- what follows a number is not less
fall_from : (n s : ℕ) (xs : List ℕ) → never_falls n s xs ≡ true → (j : ℕ) → j < length xs → s ≤ get_or xs j 0
unfolding never_falls
fall_from n s [] h j l = absurd (omega arith)
fall_from n s (x ∷ xs) h zero l = leb-true s x (and_fst (leb s x) _ h)
fall_from n s (x ∷ xs) h (suc j) l =
    let a = leb-true s x (and_fst (leb s x) _ h) in
    let b = fall_from n x xs (and_snd (leb x n) _ (and_snd (leb s x) _ h)) j (omega arith) in omega arith

pub falls_not : (n s : ℕ) (xs : List ℕ) → never_falls n s xs ≡ true → (i j : ℕ) → i ≤ j → j < length xs → get_or xs i 0 ≤ get_or xs j 0
unfolding never_falls
falls_not n s [] h i j a l = absurd (omega arith)
falls_not n s (x ∷ xs) h zero zero a l = omega arith
falls_not n s (x ∷ xs) h zero (suc j) a l = fall_from n x xs (and_snd (leb x n) _ (and_snd (leb s x) _ h)) j (omega arith)
falls_not n s (x ∷ xs) h (suc i) zero a l = absurd (omega arith)
falls_not n s (x ∷ xs) h (suc i) (suc j) a l = falls_not n x xs (and_snd (leb x n) _ (and_snd (leb s x) _ h)) i j (omega arith) (omega arith)

-- ---- an order as in the text: what is left decides
pub record Rising (n : ℕ) (order : List ℕ) (i last : ℕ) : Type 0 where
  pub is : never_falls n last (drop i order) ≡ never_falls n 0 order

module _ {n : ℕ} {order : List ℕ} where
  pub rising_ends : {i last : ℕ} → Rising n order i last → length order ≤ i → true ≡ never_falls n 0 order
  unfolding never_falls
  rising_ends R l = rw (drop_of_length-le order l) at R.is

  module _ {i last : ℕ} (R : Rising n order i last) (l : i < length order) {d : ℕ} (d_is : d ≡ get_or order i 0) where
    rising : never_falls n last (d ∷ drop (i + 1) order) ≡ never_falls n 0 order
    rising = let f : i + 1 ≡ suc i = omega arith in rw (f, d_is) (rw (drop-cons order i 0 l) at R.is)

    pub rising_falls : d < last → false ≡ never_falls n 0 order
    unfolding never_falls
    rising_falls a = rw (lt-leb last d a) at rising

    module _ (b : last ≤ d) where
      pub rising_out : n < d → false ≡ never_falls n 0 order
      unfolding never_falls
      rising_out a = rw (le-leb last d b, lt-leb d n a) at rising

      pub rising_on : d ≤ n → Rising n order (i + 1) d
      unfolding never_falls
      rising_on a = record { is = rw (le-leb last d b, le-leb d n a) at rising }

-- then the schemas never fall either
module _ (kinds : List ℕ) where
  schemas_rise :
      (s u : ℕ) → ((x : ℕ) → s ≤ x → x ≤ length kinds → u ≤ schema_in kinds x) → (xs : List ℕ) → never_falls (length kinds) s xs ≡ true →
      never_falls (length kinds) u (map (schema_in kinds) xs) ≡ true
  unfolding never_falls
  schemas_rise s u h [] e = refl
  schemas_rise s u h (x ∷ xs) e =
      let a = leb-true s x (and_fst (leb s x) _ e) in
      let b = leb-true x (length kinds) (and_fst (leb x (length kinds)) _ (and_snd (leb s x) _ e)) in
      let later = schemas_rise x (schema_in kinds x) (λ y g k. schema_grows kinds x y g b) xs (and_snd (leb x (length kinds)) _ (and_snd (leb s x) _ e)) in
      rw (le-leb u (schema_in kinds x) (h x a b), le-leb (schema_in kinds x) (length kinds) (within kinds x b)) later

  pub text_grouped : (order : List ℕ) {b : Bool} → b ≡ never_falls (length kinds) 0 order → b ≡ true → true ≡ grouped kinds order
  text_grouped order e h = sym (schemas_rise 0 0 (λ x a b. omega arith) order (sym e ∙ h))

-- ---- whether the schemas have parts, by the first from a node on
module _ (kinds order : List ℕ) (i : ℕ) {s : ℕ} (s_is : s ≡ schema_in kinds i) where
  pub parts_grouped : s < length kinds → {b : Bool} → b ≡ grouped kinds order → b ≡ parts kinds order i
  parts_grouped l e = e ∙ rw (lt-ltb (schema_in kinds i) (length kinds) (omega (arith, s_is)))

-- where they have, the order is grouped
pub grouped_parts : (kinds order : List ℕ) (i : ℕ) {b : Bool} → b ≡ parts kinds order i → b ≡ true → grouped kinds order ≡ true
grouped_parts kinds order i e h = and_snd (ltb (schema_in kinds i) (length kinds)) (grouped kinds order) (sym e ∙ h)
