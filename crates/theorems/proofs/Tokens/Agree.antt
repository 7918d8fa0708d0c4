-- Two texts that agree up to a place between two tokens of the one: the other has the same tokens up to there, if no token of it lies across.
use mathlib.Core.Path.{◌≡◌, refl, sym, ap, ◌∙◌, subst}
use mathlib.Core.Bool.{Bool, true, false, cond, not, ◌&&◌, false≢true}
use mathlib.Core.List.{List, [], ◌∷◌, append-nil}
use Prim.Native.Nat.{ℕ, zero, suc, ◌+◌, ◌-◌, ◌≤◌, ◌<◌}
use native.Mathlib.Omega.{arith}
use native.Mathlib.Decide.{dec_lt}
use lib.ListN.{length, take, drop, get_or, length-take, length-drop, drop_of_length-le}
use lib.Seq.{ext_get_or, get_or-drop, get_or-take}
use lib.Dec.{eqb}
use borrow.Author.Tests.{eqb-true, eqb-false, ne_eqb, not-true}
use Rattle.express.specs.Tokens.Bytes.{space, printable}
use Rattle.express.specs.Tokens.Token.{in_string, spelled_kind, standing_kind, longest, longest_size, longest_kind}
use Rattle.express.specs.Tokens.Token as token
use Rattle.express.specs.Tokens.Lexis.{Reading, at, refused, end_of_run, run, opens, closes, dashes, in_line, end_of_remark, skipped_in, skipped, too_large, longest_end, TokenRow}
use Rattle.express.specs.Tokens.Lexis.{longest_in, lexed_whole}
use Rattle.express.specs.Tokens.Cut.{Passes, here, over_space, over_line, over_remark, over_token}
use Rattle.relations.proofs.Select.{and_fst, and_snd}
use Rattle.express.proofs.Tokens.Places.{one_cut, past, run_low, and_false}
use Rattle.express.proofs.Tokens.TokenRows.{run_holds}
use Rattle.express.proofs.Tokens.Longest.{longest_is, run_none, ended, Strings, string_at, string_open, strings, string_stands, standing}
use Rattle.theorems.proofs.Tokens.Cut.{run_stops_of, space_in, remark_in, token_in, passes_in, cut_rest}

-- ---- the longest, the other way round

module _ (t : List ℕ) where
  longest_le : (N : ℕ) → longest t N ≤ N
  unfolding longest
  longest_le zero = omega arith
  longest_le (suc N) = by (eqb (standing_kind t (suc N)) 0) (longest_le N)
    where
      by : (x : Bool) → longest t N ≤ N → cond x (longest t N) (suc N) ≤ suc N
      by true l = omega arith
      by false l = omega arith

  longest_stands : (N : ℕ) → (longest t N ≡ 0 → ⊥) → standing_kind t (longest t N) ≡ 0 → ⊥
  unfolding longest
  longest_stands zero n = absurd (n refl)
  longest_stands (suc N) n = by (eqb (standing_kind t (suc N)) 0) refl n (λ k. longest_stands N k)
    where
      by : (x : Bool) → eqb (standing_kind t (suc N)) 0 ≡ x → (cond x (longest t N) (suc N) ≡ 0 → ⊥) → ((longest t N ≡ 0 → ⊥) → standing_kind t (longest t N) ≡ 0 →
          ⊥) → standing_kind t (cond x (longest t N) (suc N)) ≡ 0 → ⊥
      by true e k more = more k
      by false e k more = eqb-false (standing_kind t (suc N)) 0 e

  longest_over : (N m : ℕ) → longest t N < m → m ≤ N → standing_kind t m ≡ 0
  unfolding longest
  longest_over zero m l k = absurd (omega arith)
  longest_over (suc N) m l k = by (eqb (standing_kind t (suc N)) 0) refl l (λ a b. longest_over N m a b) (dec_lt N m)
    where
      by : (x : Bool) → eqb (standing_kind t (suc N)) 0 ≡ x → cond x (longest t N) (suc N) < m → (longest t N < m → m ≤ N → standing_kind t m ≡ 0) → Dec (N < m) → standing_kind t m ≡ 0
      by true e a more (yes g) = let i : m ≡ suc N = omega arith in ap (standing_kind t) i ∙ eqb-true (standing_kind t (suc N)) 0 e
      by true e a more (no g) = more a (omega arith)
      by false e a more d = absurd (omega arith)

-- ---- a string ends at one place, with a quote

ended_only : (q : Bool) (t : List ℕ) (n m : ℕ) → n ≤ length t → ended q t n ≡ true → m ≤ length t → (m ≡ n → ⊥) → ended q t m ≡ false
ended_only q t n m l e k d = by (strings 0 q 0 t)
  where
    by : {r : Reading} → Strings 0 q 0 t r → ended q t m ≡ false
    by (string_at n₀ l₀ e₀ only i) = go (dec_lt n n₀) (dec_lt n₀ n)
      where
        go : Dec (n < n₀) → Dec (n₀ < n) → ended q t m ≡ false
        go (yes a) b = absurd (false≢true (sym (only n (λ (z : n ≡ n₀). omega arith) l) ∙ e))
        go (no a) (yes b) = absurd (false≢true (sym (only n (λ (z : n ≡ n₀). omega arith) l) ∙ e))
        go (no a) (no b) = only m (λ (z : m ≡ n₀). d (omega arith)) k
    by (string_open never) = never m k

string_last : (w : List ℕ) (x : ℕ) (q : Bool) → in_string q (x ∷ w) ≡ true → get_or (x ∷ w) (length w) 0 ≡ 39
unfolding in_string
string_last [] x true e = absurd (false≢true (sym (and_false (eqb x 39)) ∙ e))
string_last [] x false e = by (eqb x 39) refl e
  where
    by : (y : Bool) → eqb x 39 ≡ y → cond y true (printable x && false) ≡ true → x ≡ 39
    by true i h = eqb-true x 39 i
    by false i h = absurd (false≢true (sym (and_false (printable x)) ∙ h))
string_last (y ∷ w) x true e = string_last w y false (and_snd (eqb x 39) (in_string false (y ∷ w)) e)
string_last (y ∷ w) x false e = by (eqb x 39) e (λ h. string_last w y true h) (λ h. string_last w y false h)
  where
    by : (v : Bool) → cond v (in_string true (y ∷ w)) (printable x && in_string false (y ∷ w)) ≡ true →
        (in_string true (y ∷ w) ≡ true → get_or (y ∷ w) (length w) 0 ≡ 39) → (in_string false (y ∷ w) ≡ true → get_or (y ∷ w) (length w) 0 ≡ 39) → get_or (y ∷ w) (length w) 0 ≡ 39
    by true h quote on = quote h
    by false h quote on = on (and_snd (printable x) (in_string false (y ∷ w)) h)

last_of : (w : List ℕ) → in_string false w ≡ true → get_or w (length w - 1) 0 ≡ 39
unfolding in_string
last_of [] i = absurd (false≢true i)
last_of (y ∷ w) i = let z : length (y ∷ w) - 1 ≡ length w = omega arith in ap (λ (j : ℕ). get_or (y ∷ w) j 0) z ∙ string_last w y false i

-- only a string begins with a quote
not_string : (b : ℕ) (w : List ℕ) → eqb b 39 ≡ false → spelled_kind (b ∷ w) ≡ 4 → ⊥
unfolding spelled_kind
not_string b w e = rw e (by (token.is_word (b ∷ w)) (token.is_integer (b ∷ w)) (token.is_real (b ∷ w)) (token.is_binary (b ∷ w)) (token.is_symbol (b ∷ w)))
  where
    by : (x y z u v : Bool) → ◌≡◌ {A = ℕ} (cond x 1 (cond y 2 (cond z 3 (cond u 5 (cond v 6 0))))) 4 → ⊥
    by true y z u v h = absurd (omega (arith, h))
    by false true z u v h = absurd (omega (arith, h))
    by false false true u v h = absurd (omega (arith, h))
    by false false false true v h = absurd (omega (arith, h))
    by false false false false true h = absurd (omega (arith, h))
    by false false false false false h = absurd (omega (arith, h))

-- ---- remarks

remark_two : (o d q : ℕ) (t : List ℕ) (e : ℕ) → end_of_remark o d q t ≡ at e → q + 2 ≤ e
unfolding end_of_remark
remark_two o d q [] e i = let z : ◌≡◌ {A = ℕ} 0 1 = cc in absurd (omega arith)
remark_two o d q (b ∷ []) e i = let z : ◌≡◌ {A = ℕ} 0 1 = cc in absurd (omega arith)
remark_two o d q (b ∷ c ∷ t) e i =
    by (opens b c) (closes b c) (eqb d 1) i (λ h. remark_two o (d + 1) (q + 2) t e h) (λ h. remark_two o (d - 1) (q + 2) t e h) (λ h. remark_two o d (q + 1) (c ∷ t) e h)
  where
    by : (x y z : Bool) →
        cond x (end_of_remark o (d + 1) (q + 2) t) (cond y (cond z (at (q + 2)) (end_of_remark o (d - 1) (q + 2) t)) (end_of_remark o d (q + 1) (c ∷ t))) ≡ at e →
        (end_of_remark o (d + 1) (q + 2) t ≡ at e → q + 2 + 2 ≤ e) → (end_of_remark o (d - 1) (q + 2) t ≡ at e → q + 2 + 2 ≤ e) →
        (end_of_remark o d (q + 1) (c ∷ t) ≡ at e → q + 1 + 2 ≤ e) → q + 2 ≤ e
    by true y z h deeper out on = omega (arith, deeper h)
    by false true true h deeper out on = let j : q + 2 ≡ e = cc in omega arith
    by false true false h deeper out on = omega (arith, out h)
    by false false z h deeper out on = omega (arith, on h)

same_head : (n b : ℕ) (t t' : List ℕ) → take (suc n) (b ∷ t) ≡ take (suc n) t' → (u : List ℕ) × (t' ≡ b ∷ u) × (take n t ≡ take n u)
same_head n b t [] e = let z : ◌≡◌ {A = ℕ} 0 1 = cc in absurd (omega arith)
same_head n b t (x ∷ u) e = (u, cc, cc)

remark_agrees : (o d q n e : ℕ) (t t' : List ℕ) → take n t ≡ take n t' → end_of_remark o d q t ≡ at e → e ≤ q + n → end_of_remark o d q t' ≡ at e
unfolding end_of_remark
remark_agrees o d q n e [] t' a i l = let z : ◌≡◌ {A = ℕ} 0 1 = cc in absurd (omega arith)
remark_agrees o d q n e (b ∷ []) t' a i l = let z : ◌≡◌ {A = ℕ} 0 1 = cc in absurd (omega arith)
remark_agrees o d q zero e (b ∷ c ∷ t) t' a i l = absurd (omega (arith, remark_two o d q (b ∷ c ∷ t) e i))
remark_agrees o d q (suc zero) e (b ∷ c ∷ t) t' a i l = absurd (omega (arith, remark_two o d q (b ∷ c ∷ t) e i))
remark_agrees o d q (suc (suc n)) e (b ∷ c ∷ t) t' a i l = go (same_head (suc n) b (c ∷ t) t' a)
    (λ u k h. remark_agrees o (d + 1) (q + 2) n e t u k h (omega arith))
    (λ u k h. remark_agrees o (d - 1) (q + 2) n e t u k h (omega arith))
    (λ u k h. remark_agrees o d (q + 1) (suc n) e (c ∷ t) u k h (omega arith))
  where
    by : (u : List ℕ) (x y z : Bool) →
        cond x (end_of_remark o (d + 1) (q + 2) t) (cond y (cond z (at (q + 2)) (end_of_remark o (d - 1) (q + 2) t)) (end_of_remark o d (q + 1) (c ∷ t))) ≡ at e →
        (end_of_remark o (d + 1) (q + 2) t ≡ at e → end_of_remark o (d + 1) (q + 2) u ≡ at e) → (end_of_remark o (d - 1) (q + 2) t ≡ at e → end_of_remark o (d - 1) (q + 2) u ≡ at e) →
        (end_of_remark o d (q + 1) (c ∷ t) ≡ at e → end_of_remark o d (q + 1) (c ∷ u) ≡ at e) →
        cond x (end_of_remark o (d + 1) (q + 2) u) (cond y (cond z (at (q + 2)) (end_of_remark o (d - 1) (q + 2) u)) (end_of_remark o d (q + 1) (c ∷ u))) ≡ at e
    by u true y z h deeper out on = deeper h
    by u false true true h deeper out on = h
    by u false true false h deeper out on = out h
    by u false false z h deeper out on = on h

    go : (v : List ℕ) × (t' ≡ b ∷ v) × (take (suc n) (c ∷ t) ≡ take (suc n) v) →
        ((u : List ℕ) → take n t ≡ take n u → end_of_remark o (d + 1) (q + 2) t ≡ at e → end_of_remark o (d + 1) (q + 2) u ≡ at e) →
        ((u : List ℕ) → take n t ≡ take n u → end_of_remark o (d - 1) (q + 2) t ≡ at e → end_of_remark o (d - 1) (q + 2) u ≡ at e) →
        ((u : List ℕ) → take (suc n) (c ∷ t) ≡ take (suc n) u → end_of_remark o d (q + 1) (c ∷ t) ≡ at e → end_of_remark o d (q + 1) u ≡ at e) →
        end_of_remark o d q t' ≡ at e
    go (v, j, k) deeper out on = next (same_head n c t v k)
      where
        next : (u : List ℕ) × (v ≡ c ∷ u) × (take n t ≡ take n u) → end_of_remark o d q t' ≡ at e
        next (u, m, r) =
            rw (j, m) (by u (opens b c) (closes b c) (eqb d 1) i (deeper u r) (out u r) (λ h. rw m at (on v k h)))

-- ---- the two texts

-- no token of a text but a string lies across c, and no two bytes there are a quote in a string or begin a remark
pub record Uncrossed (s : List ℕ) (c : ℕ) : Type 0 where
  pub no_token : (p m : ℕ) → p < c → c < p + m → p + m ≤ length s → eqb (get_or s p 0) 39 ≡ false → spelled_kind (take m (drop p s)) ≡ 0
  pub no_quote : get_or s (c - 1) 0 ≡ 39 → eqb (get_or s c 0) 39 ≡ false
  pub no_dashes : dashes (get_or s (c - 1) 0) (get_or s c 0) ≡ false
  pub no_remark : opens (get_or s (c - 1) 0) (get_or s c 0) ≡ false

module _ (s s' : List ℕ) (c : ℕ) (agree : take c s ≡ take c s') (h : c ≤ length s) (h' : c ≤ length s') where
  byte_agrees : (i : ℕ) → i < c → get_or s' i 0 ≡ get_or s i 0
  byte_agrees i l = sym (get_or-take c s' i 0 l) ∙ ap (λ (w : List ℕ). get_or w i 0) (sym agree) ∙ get_or-take c s i 0 l

  piece_agrees : (p m : ℕ) → p + m ≤ c → take m (drop p s') ≡ take m (drop p s)
  piece_agrees p m l =
      ext_get_or 0 (take m (drop p s')) (take m (drop p s))
      (omega (arith, length-take m (drop p s'), length-drop p s', length-take m (drop p s), length-drop p s))
      (λ i k. let j : i < m = omega (arith, length-take m (drop p s'), length-drop p s') in
      get_or-take m (drop p s') i 0 j ∙ get_or-drop p s' i 0 ∙ byte_agrees (p + i) (omega arith) ∙ sym (get_or-drop p s i 0) ∙ sym (get_or-take m (drop p s) i 0 j))

  -- a run that ends before c
  run_of : (f : ℕ → Bool) (d p e : ℕ) → e - p ≡ d → p ≤ e → e < c → ((i : ℕ) → p ≤ i → i < e → f (get_or s i 0) ≡ true) → f (get_or s e 0) ≡ false → run f s' p ≡ e
  unfolding end_of_run
  run_of f zero p e i l k all stop = let z : p ≡ e = omega arith in run_none f s' p (ap f (byte_agrees p (omega arith)) ∙ ap (λ (j : ℕ). f (get_or s j 0)) z ∙ stop) ∙ z
  run_of f (suc d) p e i l k all stop =
      let step : run f s' p ≡ run f s' (p + 1) = rw (one_cut s' p (omega arith), byte_agrees p (omega arith), all p (omega arith) (omega arith)) in
      step ∙ run_of f d (p + 1) e (omega arith) (omega arith) k (λ j a b. all j (omega arith) b) stop

  run_agrees : (f : ℕ → Bool) (p : ℕ) → run f s p < c → run f s' p ≡ run f s p
  run_agrees f p l = run_of f (run f s p - p) p (run f s p) refl (run_low f s p) l all (run_stops_of f s p (drop p s) refl (omega arith))
    where
      all : (i : ℕ) → p ≤ i → i < run f s p → f (get_or s i 0) ≡ true
      all i a b =
          let j : p + (i - p) ≡ i = omega arith in
          sym (ap f (get_or-drop p s (i - p) 0 ∙ ap (λ (k : ℕ). get_or s k 0) j)) ∙ run_holds f p (drop p s) (i - p) (omega arith)

  module _ (x : Uncrossed s' c) where
    -- the two bytes with which a remark would begin
    pair_agrees : (f : ℕ → ℕ → Bool) → f (get_or s' (c - 1) 0) (get_or s' c 0) ≡ false → (p : ℕ) → p < c → f (get_or s p 0) (get_or s (p + 1) 0) ≡ false → f (get_or s' p 0) (get_or s' (p + 1) 0) ≡ false
    pair_agrees f none p l e = by (dec_lt (p + 1) c)
      where
        by : Dec (p + 1 < c) → f (get_or s' p 0) (get_or s' (p + 1) 0) ≡ false
        by (yes k) = rw (byte_agrees p l, byte_agrees (p + 1) k) e
        by (no k) =
            let i : c - 1 ≡ p = omega arith in
            let j : c ≡ p + 1 = omega arith in
            sym (ap (λ (q : ℕ). f (get_or s' q 0) (get_or s' (p + 1) 0)) i) ∙ sym (ap (λ (q : ℕ). f (get_or s' (c - 1) 0) (get_or s' q 0)) j) ∙ none

    -- the kinds that stand at p, up to c and beyond: where no string begins
    module _ (p : ℕ) (l : p < c) where
      abbrev b : ℕ
      b = get_or s p 0

      abbrev u : List ℕ
      u = drop (p + 1) s

      abbrev u' : List ℕ
      u' = drop (p + 1) s'

      cut : drop p s ≡ b ∷ u
      cut = one_cut s p (omega arith)

      cut' : drop p s' ≡ b ∷ u'
      cut' = one_cut s' p (omega arith) ∙ ap (λ (k : ℕ). k ∷ u') (byte_agrees p l)

      rest_agrees : (m : ℕ) → p + 1 + m ≤ c → take m u' ≡ take m u
      rest_agrees m k = piece_agrees (p + 1) m k

      module _ (plain : eqb b 39 ≡ false) where
        stands : (m : ℕ) → standing_kind (b ∷ u) (suc m) ≡ spelled_kind (b ∷ take m u)
        stands m = standing (b ∷ u) (suc m) _ (not_string b (take m u) plain) refl

        stands' : (m : ℕ) → standing_kind (b ∷ u') (suc m) ≡ spelled_kind (b ∷ take m u')
        stands' m = standing (b ∷ u') (suc m) _ (not_string b (take m u') plain) refl

        plain_agrees : (n : ℕ) → p + suc n ≤ c → longest_size (b ∷ u) ≡ suc n → (longest_size (b ∷ u') ≡ suc n) × (standing_kind (b ∷ u') (suc n) ≡ standing_kind (b ∷ u) (suc n))
        plain_agrees n k i =
            let same : standing_kind (b ∷ u') (suc n) ≡ standing_kind (b ∷ u) (suc n) = stands' n ∙ ap (λ (w : List ℕ). spelled_kind (b ∷ w)) (rest_agrees n (omega arith)) ∙ sym (stands n) in (
              longest_is (b ∷ u') (length (b ∷ u')) (suc n) (omega arith) (omega (arith, length-drop (p + 1) s'))
                  (λ (z : standing_kind (b ∷ u') (suc n) ≡ 0). longest_stands (b ∷ u) (length (b ∷ u)) (λ (y : longest_size (b ∷ u) ≡ 0). omega arith) (ap (standing_kind (b ∷ u)) i ∙ sym same ∙ z))
                  over,
              same,
            )
          where
            over : (m : ℕ) → suc n < m → m ≤ length (b ∷ u') → standing_kind (b ∷ u') m ≡ 0
            over zero a d = absurd (omega arith)
            over (suc m) a d = by (dec_lt c (p + suc m))
              where
                by : Dec (c < p + suc m) → standing_kind (b ∷ u') (suc m) ≡ 0
                by (yes far) =
                    stands' m ∙ sym (ap (λ (w : List ℕ). spelled_kind (take (suc m) w)) cut') ∙
                    x.no_token p (suc m) l far (omega (arith, length-drop (p + 1) s')) (ap (λ (k : ℕ). eqb k 39) (byte_agrees p l) ∙ plain)
                by (no near) =
                    stands' m ∙ ap (λ (w : List ℕ). spelled_kind (b ∷ w)) (rest_agrees m (omega arith)) ∙ sym (stands m) ∙
                    longest_over (b ∷ u) (length (b ∷ u)) (suc m) (omega arith) (omega (arith, length-drop (p + 1) s))

      module _ (quoted : b ≡ 39) where
        string_cut : drop p s ≡ 39 ∷ u
        string_cut = cut ∙ ap (λ (k : ℕ). k ∷ u) quoted

        -- the byte behind a string
        module _ (n : ℕ) (k : p + suc n ≤ c) (e : ended false u n ≡ true) where
          inner : in_string false (take n u) ≡ true
          inner = and_fst (in_string false (take n u)) (not (eqb (get_or u n 0) 39)) e

          long : length (take n u) ≡ n
          long = omega (arith, length-take n u, length-drop (p + 1) s)

          some : n ≡ 0 → ⊥
          unfolding in_string
          some z = absurd (false≢true (sym (ap (λ (m : ℕ). in_string false (take m u)) z) ∙ inner))

          -- the quote that ends it
          quote : get_or s (p + 1 + (n - 1)) 0 ≡ 39
          quote =
              let m : n - 1 < n = omega (arith, some) in
              sym (get_or-take n u (n - 1) 0 m ∙ get_or-drop (p + 1) s (n - 1) 0) ∙ ap (λ (j : ℕ). get_or (take n u) (j - 1) 0) (sym long) ∙ last_of (take n u) inner

          next : eqb (get_or u' n 0) 39 ≡ false
          next = by (dec_lt (p + 1 + n) c)
            where
              before : not (eqb (get_or u n 0) 39) ≡ true
              before = and_snd (in_string false (take n u)) (not (eqb (get_or u n 0) 39)) e

              by : Dec (p + 1 + n < c) → eqb (get_or u' n 0) 39 ≡ false
              by (yes a) =
                  ap (λ (j : ℕ). eqb j 39) (get_or-drop (p + 1) s' n 0 ∙ byte_agrees (p + 1 + n) a ∙ sym (get_or-drop (p + 1) s n 0)) ∙ not-true (eqb (get_or u n 0) 39) before
              by (no a) =
                  let there : p + 1 + n ≡ c = omega arith in
                  let end : c - 1 ≡ p + 1 + (n - 1) = omega (arith, some) in
                  let last : get_or s' (c - 1) 0 ≡ 39 = ap (λ (j : ℕ). get_or s' j 0) end ∙ byte_agrees (p + 1 + (n - 1)) (omega (arith, some)) ∙ quote in
                  ap (λ (j : ℕ). eqb j 39) (get_or-drop (p + 1) s' n 0 ∙ ap (λ (j : ℕ). get_or s' j 0) there) ∙ x.no_quote last

          ended_there : ended false u' n ≡ true
          ended_there = rw (rest_agrees n (omega arith), next, inner)

        string_agrees : (n : ℕ) → p + suc n ≤ c → longest_size (39 ∷ u) ≡ suc n → (longest_size (39 ∷ u') ≡ suc n) × (standing_kind (39 ∷ u') (suc n) ≡ standing_kind (39 ∷ u) (suc n))
        string_agrees n k i = by (ended false u n) refl
          where
            stood : standing_kind (39 ∷ u) (suc n) ≡ 0 → ⊥
            stood z = longest_stands (39 ∷ u) (length (39 ∷ u)) (λ (y : longest_size (39 ∷ u) ≡ 0). omega arith) (ap (standing_kind (39 ∷ u)) i ∙ z)

            by : (v : Bool) → ended false u n ≡ v → (longest_size (39 ∷ u') ≡ suc n) × (standing_kind (39 ∷ u') (suc n) ≡ standing_kind (39 ∷ u) (suc n))
            by false e = absurd (stood (string_stands u n ∙ rw e))
            by true e =
                let there : ended false u' n ≡ true = ended_there n k e in
                let four : standing_kind (39 ∷ u') (suc n) ≡ 4 = string_stands u' n ∙ rw there in (
                  longest_is (39 ∷ u') (length (39 ∷ u')) (suc n) (omega arith) (omega (arith, length-drop (p + 1) s')) (λ (z : standing_kind (39 ∷ u') (suc n) ≡ 0). omega arith) (over there),
                  four ∙ sym (string_stands u n ∙ rw e),
                )
              where
                over : ended false u' n ≡ true → (m : ℕ) → suc n < m → m ≤ length (39 ∷ u') → standing_kind (39 ∷ u') m ≡ 0
                over there zero a d = absurd (omega arith)
                over there (suc m) a d =
                    string_stands u' m ∙ rw (ended_only false u' n m (omega (arith, length-drop (p + 1) s')) there (omega arith) (λ (z : m ≡ n). omega arith))

      both_agree :
          (n : ℕ) → p + suc n ≤ c → longest_size (drop p s) ≡ suc n →
          (longest_size (drop p s') ≡ suc n) × (standing_kind (drop p s') (suc n) ≡ standing_kind (drop p s) (suc n))
      both_agree n k i = by (eqb b 39) refl
        where
          by : (v : Bool) → eqb b 39 ≡ v → (longest_size (drop p s') ≡ suc n) × (standing_kind (drop p s') (suc n) ≡ standing_kind (drop p s) (suc n))
          by true e =
              let q : b ≡ 39 = eqb-true b 39 e in
              let a : drop p s ≡ 39 ∷ u = string_cut q in
              let a' : drop p s' ≡ 39 ∷ u' = cut' ∙ ap (λ (j : ℕ). j ∷ u') q in
              rw (a, a') (string_agrees q n k (sym (ap longest_size a) ∙ i))
          by false e = rw (cut, cut') (plain_agrees e n k (sym (ap longest_size cut) ∙ i))

      token_agrees : (e : ℕ) → longest_end s p ≡ at e → e ≤ c → (longest_end s' p ≡ at e) × (longest_kind (drop p s') ≡ longest_kind (drop p s))
      unfolding longest_end
      token_agrees e i k = go (longest_size (drop p s)) refl
        where
          large : ℕ → ℕ → List ℕ → Reading
          large n kind w = cond (too_large kind w) (refused 3 p) (at (p + n))

          sized : (n : ℕ) → longest_size (drop p s) ≡ suc n → large (suc n) (standing_kind (drop p s) (suc n)) (take (suc n) (drop p s)) ≡ at e
          sized n j = sym (rw (j, ne_eqb (suc n) 0 (λ (z : suc n ≡ 0). omega arith))) ∙ i

          end_is : (n : ℕ) (v : Bool) → cond v (refused 3 p) (at (p + n)) ≡ at e → p + n ≡ e
          end_is n true j = let z : ◌≡◌ {A = ℕ} 0 1 = cc in absurd (omega arith)
          end_is n false j = cc

          go : (n : ℕ) → longest_size (drop p s) ≡ n → (longest_end s' p ≡ at e) × (longest_kind (drop p s') ≡ longest_kind (drop p s))
          go zero j =
              let none : longest_end s p ≡ refused 2 p = rw j in
              let z : ◌≡◌ {A = ℕ} 0 1 = cc none in
              absurd (omega arith)
          go (suc n) j =
              let f = sized n j in
              let g : p + suc n ≡ e = end_is (suc n) (too_large (standing_kind (drop p s) (suc n)) (take (suc n) (drop p s))) f in
              let m : p + suc n ≤ c = omega arith in
              let t = both_agree n m j in
              (rw (t.0, ne_eqb (suc n) 0 (λ (z : suc n ≡ 0). omega arith), t.1, piece_agrees p (suc n) m) f, rw (t.0, j) t.1)

    -- what is passed up to c in one is passed in the other
    pub passes_agree : {p : ℕ} {rs : List TokenRow} → Passes s p rs c → p ≤ c → Passes s' p rs c
    passes_agree here l = here
    passes_agree (over_space {p} e y) l =
        let k = (passes_in s y (omega (arith, space_in s p e))).0 in
        over_space (ap space (byte_agrees p (omega arith)) ∙ e) (passes_agree y k)
    passes_agree (over_line {p = p} {rs = rs} e m y) l =
        let k = (passes_in s y (omega arith)).0 in
        let low = run_low in_line s (p + 2) in
        let r : run in_line s' (p + 2) ≡ run in_line s (p + 2) = run_agrees in_line (p + 2) (omega arith) in
        over_line {p = p} (rw (byte_agrees p (omega arith), byte_agrees (p + 1) (omega arith)) e) (omega arith)
        (subst (λ (j : ℕ). Passes s' (j + 1) rs c) (sym r) (passes_agree y k))
    passes_agree (over_remark {p} {e} o i y) l =
        let m = remark_in s p e o i in
        let k = (passes_in s y m.1).0 in
        over_remark {p = p} (rw (byte_agrees p (omega (arith, m.0)), byte_agrees (p + 1) (omega (arith, m.0))) o)
        (remark_agrees p 1 (p + 2) (c - (p + 2)) e (drop (p + 2) s) (drop (p + 2) s') (sym (piece_agrees (p + 2) (c - (p + 2)) (omega (arith, m.0)))) i (omega (arith, m.0)))
        (passes_agree y k)
    passes_agree (over_token {p = p} {e = e} {rs = rs} a b d i y) l =
        let m = token_in s p e i in
        let k = (passes_in s y m.1).0 in
        let f : p < c = omega (arith, m.0) in
        let t = token_agrees p f e i k in
        subst (λ (j : ℕ). Passes s' p (record { kind = j; start = p; size = e - p } ∷ rs) c) t.1
        (over_token (ap space (byte_agrees p f) ∙ a) (pair_agrees dashes x.no_dashes p f b) (pair_agrees opens x.no_remark p f d) t.0 (passes_agree y k))

-- ---- the part before the cut

-- nothing lies across the end of a text
ends_uncrossed : (s : List ℕ) → 0 < length s → Uncrossed s (length s)
ends_uncrossed s some =
    record {
      no_token = λ p m a b d e. absurd (omega arith);
      no_quote = λ e. rw (past s (length s) (omega arith));
      no_dashes = rw (past s (length s) (omega arith)) (and_false (eqb (get_or s (length s - 1) 0) 45));
      no_remark = rw (past s (length s) (omega arith)) (and_false (eqb (get_or s (length s - 1) 0) 40));
    }

take_all : (c : ℕ) (s : List ℕ) → take c s ≡ take c (take c s)
take_all zero s = refl
take_all (suc c) [] = refl
take_all (suc c) (b ∷ s) = ap (λ (w : List ℕ). b ∷ w) (take_all c s)

-- no byte is passed, and no token
pub passes_none : (s s' : List ℕ) (rs : List TokenRow) → Passes s 0 rs 0 → Passes s' 0 rs 0
passes_none s s' rs here = here
passes_none s s' rs (over_space e y) = absurd (omega (arith, (passes_in s y (omega (arith, space_in s 0 e))).0))
passes_none s s' rs (over_line e m y) = absurd (omega (arith, (passes_in s y (omega arith)).0))
passes_none s s' rs (over_remark {e = e} o i y) = let m = remark_in s 0 e o i in absurd (omega (arith, m.0, (passes_in s y m.1).0))
passes_none s s' rs (over_token {e = e} a b d i y) = let m = token_in s 0 e i in absurd (omega (arith, m.0, (passes_in s y m.1).0))

pub passes_part : (s : List ℕ) (c : ℕ) (rs : List TokenRow) → Passes s 0 rs c → Passes (take c s) 0 rs c
passes_part s zero rs x = passes_none s [] rs x
passes_part s (suc c) rs x =
    let l = (passes_in s x (omega arith)).1 in
    let size : length (take (suc c) s) ≡ suc c = omega (arith, length-take (suc c) s) in
    let u : Uncrossed (take (suc c) s) (suc c) = subst (Uncrossed (take (suc c) s)) size (ends_uncrossed (take (suc c) s) (omega arith)) in
    passes_agree s (take (suc c) s) (suc c) (take_all (suc c) s) l (omega arith) u x (omega arith)

nothing_read : lexed_whole [] ≡ record { rows = []; stop = at 0 }
unfolding longest_in skipped skipped_in space
nothing_read = refl

-- THE PART BEFORE A CUT has the tokens that are passed
pub cut_part : (s : List ℕ) (c : ℕ) (rs : List TokenRow) → Passes s 0 rs c → lexed_whole (take c s) ≡ record { rows = rs; stop = at c }
cut_part s c rs x =
    let l = (passes_in s x (omega arith)).1 in
    let size : length (take c s) ≡ c = omega (arith, length-take c s) in
    let high : length (take c s) ≤ c = omega arith in
    let none : drop c (take c s) ≡ [] = drop_of_length-le (take c s) high in
    let z : c + 0 ≡ c = omega arith in
    cut_rest (take c s) c rs (passes_part s c rs x) ∙ rw (none, nothing_read, append-nil rs, z)
