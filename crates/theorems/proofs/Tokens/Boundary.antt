-- The places between tokens: where a token begins and where it ends, and the end of a text whose last byte is a line feed.
use mathlib.Core.Path.{◌≡◌, refl, sym, ap, ◌∙◌, subst}
use mathlib.Core.Bool.{Bool, true, false, cond}
use mathlib.Core.List.{List, [], ◌∷◌, ◌++◌}
use Prim.Native.Nat.{ℕ, zero, suc, ◌+◌, ◌-◌, ◌≤◌, ◌<◌}
use native.Mathlib.Omega.{arith}
use native.Mathlib.Decide.{dec_lt}
use lib.ListN.{length, drop, get_or}
use lib.Dec.{eqb, ltb}
use lib.Seq.{get_or-drop}
use borrow.Author.Tests.{ltb-true, ltb-false, eqb-true}
use mathlib.Core.Bool.{false≢true}
use Rattle.relations.proofs.Select.{and_snd}
use Rattle.express.proofs.Tokens.TokenRows.{run_holds}
use Rattle.express.specs.Tokens.Bytes.{space}
use Rattle.express.specs.Tokens.Token.{longest_kind}
use Rattle.express.specs.Tokens.Lexis.{Reading, at, refused, run, opens, dashes, in_line, end_of_remark, reading_then, skipped, longest_end, TokenRow, Lexed, stopped, row_and_rest}
use Rattle.express.specs.Tokens.Lexis.{longest_after_blank, lexed_whole}
use Rattle.express.specs.Tokens.Cut.{Passes, here, over_space, over_line, over_remark, over_token}
use Rattle.express.proofs.Tokens.Places.{run_low, run_high, inside_at, skip_inside, pair_in}
use Rattle.theorems.proofs.Tokens.Turns.{skipped_step, from, from_step, whole_from}
use Rattle.theorems.proofs.Tokens.Cut.{line_feed, space_in, remark_in, token_in}

pub passes_then : {s : List ℕ} {p q c : ℕ} {rs ts : List TokenRow} → Passes s p rs q → Passes s q ts c → Passes s p (rs ++ ts) c
passes_then here y = y
passes_then (over_space e x) y = over_space e (passes_then x y)
passes_then (over_line e l x) y = over_line e l (passes_then x y)
passes_then (over_remark o i x) y = over_remark o i (passes_then x y)
passes_then (over_token a b d i x) y = over_token a b d i (passes_then x y)

never_rows : (r : TokenRow) (ts : List TokenRow) → ◌≡◌ {A = List TokenRow} [] (r ∷ ts) → ⊥
never_rows r ts e = let z : ◌≡◌ {A = ℕ} 0 1 = cc in absurd (omega arith)

module _ (s : List ℕ) where
  -- no blank begins at q
  abbrev Clear : ℕ → Type 0
  Clear q = (space (get_or s q 0) ≡ false) × ((dashes (get_or s q 0) (get_or s (q + 1) 0) ≡ false) × (opens (get_or s q 0) (get_or s (q + 1) 0) ≡ false))

  -- blanks are passed up to q, if each remark from `--` on ends with a line feed before it
  module _ (q : ℕ) (fed : (p : ℕ) → dashes (get_or s p 0) (get_or s (p + 1) 0) ≡ true → run in_line s (p + 2) ≤ q → run in_line s (p + 2) < length s) where
    skip_passes : (d p : ℕ) → length s - p < d → p ≤ length s → skipped s p ≡ at q → Passes s p [] q × Clear q
    skip_passes zero p l h e = absurd (omega arith)
    skip_passes (suc d) p l h e =
        by (space (get_or s p 0)) (dashes (get_or s p 0) (get_or s (p + 1) 0)) (opens (get_or s p 0) (get_or s (p + 1) 0)) refl refl refl (sym (skipped_step s p h) ∙ e)
        (λ k a b c. skip_passes d k a b c)
      where
        by : (x y z : Bool) → space (get_or s p 0) ≡ x → dashes (get_or s p 0) (get_or s (p + 1) 0) ≡ y → opens (get_or s p 0) (get_or s (p + 1) 0) ≡ z →
            cond x (skipped s (p + 1)) (cond y (skipped s (run in_line s (p + 2))) (cond z (reading_then (end_of_remark p 1 (p + 2) (drop (p + 2) s)) (skipped s)) (at p))) ≡ at q →
            ((k : ℕ) → length s - k < d → k ≤ length s → skipped s k ≡ at q → Passes s k [] q × Clear q) → Passes s p [] q × Clear q
        by true y z i j m g more =
            let n = space_in s p i in
            let t = more (p + 1) (omega arith) (omega arith) g in
            (over_space i t.0, t.1)
        by false true z i j m g more =
            let n = pair_in 45 45 (get_or s p 0) s (p + 1) refl j in
            let low = run_low in_line s (p + 2) in
            let high = run_high in_line s (p + 2) (omega arith) in
            let f : run in_line s (p + 2) < length s = fed p j (inside_at g (skip_inside s (run in_line s (p + 2)) high)).0 in
            let next : skipped s (run in_line s (p + 2)) ≡ skipped s (run in_line s (p + 2) + 1) = skipped_step s (run in_line s (p + 2)) high ∙ rw (line_feed s (p + 2) f) in
            let t = more (run in_line s (p + 2) + 1) (omega arith) (omega arith) (sym next ∙ g) in
            (over_line j f t.0, t.1)
        by false false true i j m g more = remark (end_of_remark p 1 (p + 2) (drop (p + 2) s)) refl g
          where
            remark : (r : Reading) → end_of_remark p 1 (p + 2) (drop (p + 2) s) ≡ r → reading_then r (skipped s) ≡ at q → Passes s p [] q × Clear q
            remark (at k) n o =
                let u = remark_in s p k m n in
                let t = more k (omega (arith, u.0, u.1)) u.1 o in
                (over_remark m n t.0, t.1)
            remark (refused a b) n o = let z : ◌≡◌ {A = ℕ} 0 1 = cc in absurd (omega arith)
        by false false false i j m g more =
            let same : p ≡ q = cc in
            (subst (λ (k : ℕ). Passes s p [] k) same here, subst Clear same (i, (j, m)))

  abbrev read : List TokenRow → Reading → Lexed
  read rs x = record { rows = rs; stop = x }

  -- the first of the tokens from p on
  record First (p : ℕ) (r : TokenRow) (ts : List TokenRow) (x : Reading) : Type 0 where
    upto : Passes s p [] r.start
    over : Passes s r.start (r ∷ []) (r.start + r.size)
    rest : from s (r.start + r.size) ≡ read ts x
    inside : r.start + r.size ≤ length s

  first_row : (p : ℕ) → p ≤ length s → (r : TokenRow) (ts : List TokenRow) (x : Reading) → from s p ≡ read (r ∷ ts) x → First p r ts x
  first_row p h r ts x e = blanks (skipped s p) refl (sym (from_step s p h) ∙ e)
    where
      token : (q : ℕ) → skipped s p ≡ at q → q < length s → (y : Reading) → longest_end s q ≡ y → row_and_rest (longest_kind (drop q s)) q y (from s) ≡ read (r ∷ ts) x → First p r ts x
      token q i l (at k) j g =
          let m = token_in s q k j in
          let t = skip_passes q (λ v a b. omega arith) (length s + 1) p (omega arith) h i in
          let row : record { kind = longest_kind (drop q s); start = q; size = k - q } ≡ r = ap (λ (l : Lexed). head_of l.rows) g in
          let there : q + (k - q) ≡ k = omega (arith, m.0) in
          let more : from s k ≡ read ts x = ap (λ (l : Lexed). read (tail_of l.rows) l.stop) g in
          subst (λ (o : TokenRow). First p o ts x) row
          (record {
            upto = t.0;
            over = subst (λ (o : ℕ). Passes s q (record { kind = longest_kind (drop q s); start = q; size = k - q } ∷ []) o) (sym there) (over_token t.1.0 t.1.1.0 t.1.1.1 j here);
            rest = ap (from s) there ∙ more;
            inside = omega (arith, m.1);
          })
        where
          head_of : List TokenRow → TokenRow
          head_of [] = r
          head_of (o ∷ os) = o

          tail_of : List TokenRow → List TokenRow
          tail_of [] = []
          tail_of (o ∷ os) = os
      token q i l (refused a b) j g = absurd (never_rows r ts (ap (λ (l : Lexed). l.rows) g))

      text : (q : ℕ) → skipped s p ≡ at q → (v : Bool) → ltb q (length s) ≡ v →
          cond v (row_and_rest (longest_kind (drop q s)) q (longest_end s q) (from s)) (stopped (at q)) ≡ read (r ∷ ts) x → First p r ts x
      text q i true j g = token q i (ltb-true q (length s) j) (longest_end s q) refl g
      text q i false j g = absurd (never_rows r ts (ap (λ (l : Lexed). l.rows) g))

      blanks : (y : Reading) → skipped s p ≡ y → longest_after_blank s y (from s) ≡ read (r ∷ ts) x → First p r ts x
      blanks (at q) i g = text q i (ltb q (length s)) refl g
      blanks (refused a b) i g = absurd (never_rows r ts (ap (λ (l : Lexed). l.rows) g))

  rows_pass :
      (p : ℕ) → p ≤ length s → (rs : List TokenRow) (r : TokenRow) (ts : List TokenRow) (x : Reading) → from s p ≡ read (rs ++ (r ∷ ts)) x →
      Passes s p rs r.start × Passes s p (rs ++ (r ∷ [])) (r.start + r.size)
  rows_pass p h [] r ts x e = let f = first_row p h r ts x e in (f.upto, passes_then f.upto f.over)
  rows_pass p h (o ∷ rs) r ts x e =
      let f = first_row p h o (rs ++ (r ∷ ts)) x e in
      let t = rows_pass (o.start + o.size) f.inside rs r ts x f.rest in
      (passes_then f.upto (passes_then f.over t.0), passes_then f.upto (passes_then f.over t.1))

  -- A TOKEN'S START AND END are places between tokens
  pub token_boundary :
      (rs : List TokenRow) (r : TokenRow) (ts : List TokenRow) → (lexed_whole s).rows ≡ rs ++ (r ∷ ts) →
      Passes s 0 rs r.start × Passes s 0 (rs ++ (r ∷ [])) (r.start + r.size)
  token_boundary rs r ts e =
      rows_pass 0 (omega arith) rs r ts (lexed_whole s).stop (sym (whole_from s) ∙ ap (λ (os : List TokenRow). read os (lexed_whole s).stop) e)

  -- ---- to the end of a text whose last byte is a line feed

  module _ (fed : get_or s (length s - 1) 0 ≡ 10) where
    run_fed : (p : ℕ) → dashes (get_or s p 0) (get_or s (p + 1) 0) ≡ true → run in_line s (p + 2) ≤ length s → run in_line s (p + 2) < length s
    run_fed p e l = by (dec_lt (run in_line s (p + 2)) (length s))
      where
        second : get_or s (p + 1) 0 ≡ 45
        second = eqb-true (get_or s (p + 1) 0) 45 (and_snd (eqb (get_or s p 0) 45) (eqb (get_or s (p + 1) 0) 45) e)

        by : Dec (run in_line s (p + 2) < length s) → run in_line s (p + 2) < length s
        by (yes k) = k
        by (no k) =
            let n = pair_in 45 45 (get_or s p 0) s (p + 1) refl e in
            let far : (p + 1 ≡ length s - 1 → ⊥) = λ (z : p + 1 ≡ length s - 1). let w : get_or s (p + 1) 0 ≡ 10 = ap (λ (j : ℕ). get_or s j 0) z ∙ fed in omega (arith, second) in
            let i : p + 2 + (length s - 1 - (p + 2)) ≡ length s - 1 = omega (arith, far) in
            let holds = run_holds in_line (p + 2) (drop (p + 2) s) (length s - 1 - (p + 2)) (omega (arith, far)) in
            let byte : get_or (drop (p + 2) s) (length s - 1 - (p + 2)) 0 ≡ 10 = get_or-drop (p + 2) s (length s - 1 - (p + 2)) 0 ∙ ap (λ (j : ℕ). get_or s j 0) i ∙ fed in
            absurd (false≢true (sym (ap in_line byte) ∙ holds))

    rest_passes : (rs : List TokenRow) (p e : ℕ) → p ≤ length s → from s p ≡ read rs (at e) → Passes s p rs (length s)
    rest_passes [] p e h i = blanks (skipped s p) refl (sym (from_step s p h) ∙ i)
      where
        ends : (q : ℕ) → skipped s p ≡ at q → length s ≤ q → Passes s p [] (length s)
        ends q j l =
            let k : q ≡ length s = omega (arith, (inside_at j (skip_inside s p h)).1) in
            (skip_passes (length s) run_fed (length s + 1) p (omega arith) h (j ∙ ap at k)).0

        token : (q : ℕ) (y : Reading) → row_and_rest (longest_kind (drop q s)) q y (from s) ≡ read [] (at e) → ⊥
        token q (at k) g = never_rows _ _ (sym (ap (λ (l : Lexed). l.rows) g))
        token q (refused a b) g = let j : refused a b ≡ at e = ap (λ (l : Lexed). l.stop) g in let z : ◌≡◌ {A = ℕ} 0 1 = cc in absurd (omega arith)

        text : (q : ℕ) → skipped s p ≡ at q → (v : Bool) → ltb q (length s) ≡ v →
            cond v (row_and_rest (longest_kind (drop q s)) q (longest_end s q) (from s)) (stopped (at q)) ≡ read [] (at e) → Passes s p [] (length s)
        text q j true k g = absurd (token q (longest_end s q) g)
        text q j false k g = ends q j (ltb-false q (length s) k)

        blanks : (y : Reading) → skipped s p ≡ y → longest_after_blank s y (from s) ≡ read [] (at e) → Passes s p [] (length s)
        blanks (at q) j g = text q j (ltb q (length s)) refl g
        blanks (refused a b) j g = let k : refused a b ≡ at e = ap (λ (l : Lexed). l.stop) g in let z : ◌≡◌ {A = ℕ} 0 1 = cc in absurd (omega arith)
    rest_passes (r ∷ rs) p e h i =
        let f = first_row p h r rs (at e) i in
        passes_then f.upto (passes_then f.over (rest_passes rs (r.start + r.size) e f.inside f.rest))

    -- A TEXT THAT ENDS IN A LINE FEED and is read to its end is passed
    pub text_passes : (e : ℕ) → (lexed_whole s).stop ≡ at e → Passes s 0 (lexed_whole s).rows (length s)
    text_passes e i = rest_passes (lexed_whole s).rows 0 e (omega arith) (sym (whole_from s) ∙ ap (read (lexed_whole s).rows) i)
