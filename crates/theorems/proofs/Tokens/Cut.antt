-- The tokens of a text that is cut between two tokens are those of its parts.
use mathlib.Core.Path.{◌≡◌, refl, sym, ap, ◌∙◌}
use mathlib.Core.Bool.{Bool, true, false, cond}
use mathlib.Core.List.{List, [], ◌∷◌}
use Prim.Native.Nat.{ℕ, zero, suc, ◌+◌, ◌-◌, ◌≤◌, ◌<◌}
use native.Mathlib.Omega.{arith}
use native.Mathlib.Nat.{le_refl, add_assoc}
use native.Mathlib.Decide.{dec_lt}
use lib.ListN.{length, take, drop, get_or, length-drop, drop_of_length-le}
use lib.Seq.{drop-drop, get_or-drop}
use lib.Dec.{eqb, ltb}
use borrow.Author.Tests.{ltb-true, ltb-false, lt-ltb, le-ltb, eqb-true, not-false}
use Rattle.express.specs.Tokens.Bytes.{space}
use Rattle.express.specs.Tokens.Token.{longest, longest_size, longest_kind}
use Rattle.express.specs.Tokens.Lexis.{Reading, at, refused, end_of_run, run, opens, closes, dashes, in_line, end_of_remark, reading_then, skipped_in, skipped, too_large, longest_end}
use Rattle.express.specs.Tokens.Lexis.{TokenRow, Lexed, stopped, row_and_rest, longest_after_blank, longest_in, lexed_whole}
use Rattle.express.specs.Tokens.Cut.{Passes, here, over_space, over_line, over_remark, over_token, moved_stop, moved, behind}
use Rattle.express.proofs.Tokens.Longest.{run_is, first_is, token_is_longest}
use Rattle.express.proofs.Tokens.Places.{tail, in_text, pair_in, run_low, inside_at, remark_inside, token_inside}
use Rattle.relations.proofs.Select.{and_fst}
use Rattle.theorems.proofs.Tokens.Turns.{skipped_is, skipped_step, from, from_is, from_step, whole_from}

-- ---- what is passed, and the rest

-- a run that ends in the text ends at a byte of another class
pub run_stops_of : (f : ℕ → Bool) (s : List ℕ) (p : ℕ) (t : List ℕ) → drop p s ≡ t → end_of_run f p t < length s → f (get_or s (end_of_run f p t) 0) ≡ false
unfolding end_of_run
run_stops_of f s p [] e l = absurd (omega (arith, length-drop p s, ap length e))
run_stops_of f s p (b ∷ t) e l = by (f b) refl l (λ h. run_stops_of f s (p + 1) t (tail s p b t e) h)
  where
    by : (x : Bool) → f b ≡ x → cond x (end_of_run f (p + 1) t) p < length s → (end_of_run f (p + 1) t < length s → f (get_or s (end_of_run f (p + 1) t) 0) ≡ false) →
        f (get_or s (cond x (end_of_run f (p + 1) t) p) 0) ≡ false
    by true i h more = more h
    by false i h more = ap f (first_is s p b t e) ∙ i

pub line_feed : (s : List ℕ) (p : ℕ) → run in_line s p < length s → space (get_or s (run in_line s p) 0) ≡ true
unfolding space
line_feed s p h = rw (eqb-true (get_or s (run in_line s p) 0) 10 (not-false _ (run_stops_of in_line s p (drop p s) refl h)))

module _ (s : List ℕ) where
  from_skip : (p q : ℕ) → p ≤ length s → q ≤ length s → skipped s p ≡ skipped s q → from s p ≡ from s q
  from_skip p q h k e = from_step s p h ∙ ap (λ (r : Reading). longest_after_blank s r (from s)) e ∙ sym (from_step s q k)

  pub space_in : (p : ℕ) → space (get_or s p 0) ≡ true → p < length s
  unfolding space
  space_in p e = in_text space refl s p e

  pass_space : (p : ℕ) → space (get_or s p 0) ≡ true → from s p ≡ from s (p + 1)
  pass_space p e =
      let l = space_in p e in
      let h : p ≤ length s = omega arith in
      from_skip p (p + 1) h (omega arith) (skipped_step s p h ∙ rw e)

  -- a space does not begin a remark
  not_dashes : (p : ℕ) → dashes (get_or s p 0) (get_or s (p + 1) 0) ≡ true → space (get_or s p 0) ≡ false
  unfolding space
  not_dashes p e = rw (eqb-true (get_or s p 0) 45 (and_fst (eqb (get_or s p 0) 45) (eqb (get_or s (p + 1) 0) 45) e))

  not_opens : (p : ℕ) → opens (get_or s p 0) (get_or s (p + 1) 0) ≡ true → (space (get_or s p 0) ≡ false) × (dashes (get_or s p 0) (get_or s (p + 1) 0) ≡ false)
  unfolding space
  not_opens p e = let b_is = eqb-true (get_or s p 0) 40 (and_fst (eqb (get_or s p 0) 40) (eqb (get_or s (p + 1) 0) 42) e) in (rw b_is, rw b_is)

  pass_line : (p : ℕ) → dashes (get_or s p 0) (get_or s (p + 1) 0) ≡ true → run in_line s (p + 2) < length s → from s p ≡ from s (run in_line s (p + 2) + 1)
  pass_line p e l =
      let low = run_low in_line s (p + 2) in
      let h : p ≤ length s = omega arith in
      from_skip p (run in_line s (p + 2)) h (omega arith) (skipped_step s p h ∙ rw (not_dashes p e, e)) ∙ pass_space (run in_line s (p + 2)) (line_feed s (p + 2) l)

  pub remark_in : (p e : ℕ) → opens (get_or s p 0) (get_or s (p + 1) 0) ≡ true → end_of_remark p 1 (p + 2) (drop (p + 2) s) ≡ at e → (p + 2 ≤ e) × (e ≤ length s)
  remark_in p e o i = inside_at i (remark_inside p 1 (p + 2) s (omega (arith, pair_in 40 42 (get_or s p 0) s (p + 1) refl o)))

  pass_remark : (p e : ℕ) → opens (get_or s p 0) (get_or s (p + 1) 0) ≡ true → end_of_remark p 1 (p + 2) (drop (p + 2) s) ≡ at e → from s p ≡ from s e
  pass_remark p e o i =
      let l = remark_in p e o i in
      let n = not_opens p o in
      let h : p ≤ length s = omega (arith, l.0, l.1) in
      from_skip p e h l.1 (skipped_step s p h ∙ rw (n.0, n.1, o, i))

  -- where a token is, there is text
  pub token_in : (p e : ℕ) → longest_end s p ≡ at e → (p < e) × (e ≤ length s)
  unfolding longest_end longest
  token_in p e i = by (dec_lt p (length s))
    where
      by : Dec (p < length s) → (p < e) × (e ≤ length s)
      by (yes l) = let m = inside_at (token_is_longest s p l ∙ i) (token_inside s p l) in (omega (arith, m.0), m.1)
      by (no n) =
          let high : length s ≤ p = omega arith in
          let empty : drop p s ≡ [] = drop_of_length-le s high in
          let none : longest_end s p ≡ refused 2 p = rw empty in
          let z : ◌≡◌ {A = ℕ} 0 1 = cc none in
          absurd (omega arith)

  pass_token :
      (p e : ℕ) → space (get_or s p 0) ≡ false → dashes (get_or s p 0) (get_or s (p + 1) 0) ≡ false → opens (get_or s p 0) (get_or s (p + 1) 0) ≡ false →
      longest_end s p ≡ at e → from s p ≡ behind (record { kind = longest_kind (drop p s); start = p; size = e - p } ∷ []) (from s e)
  pass_token p e x y z i =
      let l = token_in p e i in
      let h : p < length s = omega (arith, l.0, l.1) in
      let h' : p ≤ length s = omega arith in
      let clear : skipped s p ≡ at p = skipped_step s p h' ∙ rw (x, y, z) in
      from_step s p h' ∙ ap (λ (r : Reading). longest_after_blank s r (from s)) clear ∙ rw (lt-ltb p (length s) h, i)

  -- where it goes to
  pub passes_in : {p c : ℕ} {rs : List TokenRow} → Passes s p rs c → p ≤ length s → (p ≤ c) × (c ≤ length s)
  passes_in here h = (le_refl _, h)
  passes_in (over_space e x) h = let l = passes_in x (omega (arith, space_in _ e)) in (omega (arith, l.0), l.1)
  passes_in (over_line {p} e k x) h = let l = passes_in x (omega arith) in (omega (arith, l.0, run_low in_line s (p + 2)), l.1)
  passes_in (over_remark {p} {e} o i x) h = let m = remark_in p e o i in let l = passes_in x m.1 in (omega (arith, l.0, m.0), l.1)
  passes_in (over_token {p} {e} a b d i x) h = let m = token_in p e i in let l = passes_in x m.1 in (omega (arith, l.0, m.0), l.1)

  -- THE TOKENS from p on are those that are passed, and those from c on
  pub passes_from : {p c : ℕ} {rs : List TokenRow} → Passes s p rs c → from s p ≡ behind rs (from s c)
  passes_from here = refl
  passes_from (over_space {p} e x) = pass_space p e ∙ passes_from x
  passes_from (over_line {p} e k x) = pass_line p e k ∙ passes_from x
  passes_from (over_remark {p} {e} o i x) = pass_remark p e o i ∙ passes_from x
  passes_from (over_token {p} {e} a b d i x) =
      pass_token p e a b d i ∙ ap (behind (record { kind = longest_kind (drop p s); start = p; size = e - p } ∷ [])) (passes_from x)

-- ---- a text read from c on, and what is left of it from c on

remark_moved : (c o d p : ℕ) (u : List ℕ) → end_of_remark (c + o) d (c + p) u ≡ moved_stop c (end_of_remark o d p u)
unfolding end_of_remark
remark_moved c o d p [] = refl
remark_moved c o d p (x ∷ []) = refl
remark_moved c o d p (x ∷ y ∷ u) =
    by (opens x y) (closes x y) (eqb d 1)
    (ap (λ (k : ℕ). end_of_remark (c + o) (d + 1) k u) two ∙ remark_moved c o (d + 1) (p + 2) u)
    (ap (λ (k : ℕ). end_of_remark (c + o) (d - 1) k u) two ∙ remark_moved c o (d - 1) (p + 2) u)
    (ap (λ (k : ℕ). end_of_remark (c + o) d k (y ∷ u)) one ∙ remark_moved c o d (p + 1) (y ∷ u))
  where
    one : c + p + 1 ≡ c + (p + 1)
    one = omega arith

    two : c + p + 2 ≡ c + (p + 2)
    two = omega arith

    by : (v w z : Bool) →
        end_of_remark (c + o) (d + 1) (c + p + 2) u ≡ moved_stop c (end_of_remark o (d + 1) (p + 2) u) →
        end_of_remark (c + o) (d - 1) (c + p + 2) u ≡ moved_stop c (end_of_remark o (d - 1) (p + 2) u) →
        end_of_remark (c + o) d (c + p + 1) (y ∷ u) ≡ moved_stop c (end_of_remark o d (p + 1) (y ∷ u)) →
        cond v (end_of_remark (c + o) (d + 1) (c + p + 2) u)
        (cond w (cond z (at (c + p + 2)) (end_of_remark (c + o) (d - 1) (c + p + 2) u)) (end_of_remark (c + o) d (c + p + 1) (y ∷ u))) ≡
        moved_stop c
        (cond v (end_of_remark o (d + 1) (p + 2) u) (cond w (cond z (at (p + 2)) (end_of_remark o (d - 1) (p + 2) u)) (end_of_remark o d (p + 1) (y ∷ u))))
    by true w z deeper out on = deeper
    by false true true deeper out on = ap at two
    by false true false deeper out on = out
    by false false z deeper out on = on

module _ (s : List ℕ) (c : ℕ) where
  abbrev t : List ℕ
  t = drop c s

  from_there : (p : ℕ) → drop (c + p) s ≡ drop p t
  from_there p = sym (drop-drop p c s)

  byte_there : (p : ℕ) → get_or s (c + p) 0 ≡ get_or t p 0
  byte_there p = sym (get_or-drop c s p 0)

  run_moved : (f : ℕ → Bool) (p : ℕ) → run f s (c + p) ≡ c + run f t p
  run_moved f p = ap (end_of_run f (c + p)) (from_there p) ∙ omega (arith, run_is f (c + p) (drop p t), run_is f p (drop p t))

  skip_moved : (f p : ℕ) → skipped_in f s (c + p) ≡ moved_stop c (skipped_in f t p)
  unfolding skipped_in
  skip_moved zero p = refl
  skip_moved (suc f) p =
      rw (one, two, byte_there p, byte_there (p + 1), run_moved in_line (p + 2), from_there (p + 2), remark_moved c p 1 (p + 2) (drop (p + 2) t))
      (by (space (get_or t p 0)) (dashes (get_or t p 0) (get_or t (p + 1) 0)) (opens (get_or t p 0) (get_or t (p + 1) 0)) (λ q. skip_moved f q) (end_of_remark p 1 (p + 2) (drop (p + 2) t)))
    where
      one : c + p + 1 ≡ c + (p + 1)
      one = omega arith

      two : c + p + 2 ≡ c + (p + 2)
      two = omega arith

      by : (x y z : Bool) → ((q : ℕ) → skipped_in f s (c + q) ≡ moved_stop c (skipped_in f t q)) → (r : Reading) →
          cond x (skipped_in f s (c + (p + 1)))
          (cond y (skipped_in f s (c + run in_line t (p + 2))) (cond z (reading_then (moved_stop c r) (λ q. skipped_in f s q)) (at (c + p)))) ≡
          moved_stop c (cond x (skipped_in f t (p + 1)) (cond y (skipped_in f t (run in_line t (p + 2))) (cond z (reading_then r (λ q. skipped_in f t q)) (at p))))
      by true y z more r = more (p + 1)
      by false true z more r = more (run in_line t (p + 2))
      by false false true more (at q) = more q
      by false false true more (refused n o) = refl
      by false false false more r = refl

  skipped_moved : (p : ℕ) → p ≤ length t → skipped s (c + p) ≡ moved_stop c (skipped t p)
  unfolding skipped
  skipped_moved p h = skip_moved (length s + 1) p ∙ ap (moved_stop c) (skipped_is (length s + 1) t p h (omega (arith, length-drop c s)))

  end_moved : (q : ℕ) → longest_end s (c + q) ≡ moved_stop c (longest_end t q)
  unfolding longest_end
  end_moved q = rw (from_there q) (by (eqb (longest_size (drop q t)) 0) (too_large (longest_kind (drop q t)) (take (longest_size (drop q t)) (drop q t))) (longest_size (drop q t)))
    where
      by : (x y : Bool) (n : ℕ) → cond x (refused 2 (c + q)) (cond y (refused 3 (c + q)) (at (c + q + n))) ≡ moved_stop c (cond x (refused 2 q) (cond y (refused 3 q) (at (q + n))))
      by true y n = refl
      by false true n = refl
      by false false n = ap at (add_assoc c q n)

  module _ (h : c ≤ length s) (F G : ℕ → Lexed) (more : (e : ℕ) → e ≤ length t → F (c + e) ≡ moved c (G e)) where
    row_moved : (q k : ℕ) (r : Reading) → longest_end t q ≡ r → row_and_rest k (c + q) (moved_stop c r) F ≡ moved c (row_and_rest k q r G)
    row_moved q k (at e) i =
        let size : c + e - (c + q) ≡ e - q = omega arith in
        rw (size, more e (token_in t q e i).1)
    row_moved q k (refused n o) i = refl

    after_moved : (r : Reading) → longest_after_blank s (moved_stop c r) F ≡ moved c (longest_after_blank t r G)
    after_moved (at q) =
        rw (there, end_moved q, from_there q) (by (ltb q (length t)))
      where
        there : ltb (c + q) (length s) ≡ ltb q (length t)
        there = go (ltb q (length t)) refl
          where
            go : (x : Bool) → ltb q (length t) ≡ x → ltb (c + q) (length s) ≡ x
            go true e = lt-ltb (c + q) (length s) (omega (arith, ltb-true q (length t) e, length-drop c s))
            go false e = le-ltb (c + q) (length s) (omega (arith, ltb-false q (length t) e, length-drop c s))

        by : (x : Bool) →
            cond x (row_and_rest (longest_kind (drop q t)) (c + q) (moved_stop c (longest_end t q)) F) (stopped (at (c + q))) ≡
            moved c (cond x (row_and_rest (longest_kind (drop q t)) q (longest_end t q) G) (stopped (at q)))
        by true = row_moved q (longest_kind (drop q t)) (longest_end t q) refl
        by false = refl
    after_moved (refused n o) = refl

  in_moved : c ≤ length s → (f p : ℕ) → p ≤ length t → longest_in f s (c + p) ≡ moved c (longest_in f t p)
  unfolding longest_in
  in_moved h zero p l = refl
  in_moved h (suc f) p l = rw (skipped_moved p l) (after_moved h (λ q. longest_in f s q) (λ q. longest_in f t q) (λ e k. in_moved h f e k) (skipped t p))

  -- the tokens from c on are those of the text from c on
  pub from_moved : c ≤ length s → from s c ≡ moved c (lexed_whole t)
  from_moved h =
      let z : c + 0 ≡ c = omega arith in
      sym (from_is (length s + 1) s c h (omega arith)) ∙ sym (ap (λ (k : ℕ). longest_in (length s + 1) s k) z) ∙ in_moved h (length s + 1) 0 (omega arith) ∙
      ap (moved c) (from_is (length s + 1) t 0 (omega arith) (omega (arith, length-drop c s)) ∙ sym (whole_from t))

-- A TEXT CUT where its reading passes: its tokens are those that are passed, and those of the rest, moved
pub cut_rest : (s : List ℕ) (c : ℕ) (rs : List TokenRow) → Passes s 0 rs c → lexed_whole s ≡ behind rs (moved c (lexed_whole (drop c s)))
cut_rest s c rs x = whole_from s ∙ passes_from s x ∙ ap (behind rs) (from_moved s c (passes_in s x (omega arith)).1)
