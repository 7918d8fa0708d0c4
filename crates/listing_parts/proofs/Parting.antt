-- Laws of the loop that writes line after line: what is written and what is still to come is what was to come (`going_goes_on`).
use mathlib.Core.Path.{◌≡◌, refl, sym, ap, ◌∙◌, subst}
use mathlib.Core.Bool.{cond}
use mathlib.Core.List.{List, [], ◌∷◌, ◌++◌, append-nil}
use mathlib.Core.Logic.{⊎_elim}
use Prim.Native.Nat.{ℕ, zero, suc, ◌+◌, ◌-◌, ◌≤◌, ◌<◌, min, zero-le}
use native.Mathlib.Omega.{arith}
use borrow.Author.Tests.{eq-eqb, ne_eqb, le-leb, lt-leb}
use lib.ListN.{length, get_or, set, take, drop, length-drop, drop_of_length-le}
use lib.Seq.{sets, length-sets, take_all}
use Rattle.columns.proofs.Laws.{sets_out, sets_append}
use Rattle.relations.proofs.Select.{le_or}
use Rattle.express.specs.Syntax.Tree.{Table, count}
use Rattle.express.specs.Whole.Listing.{refused_line, accepted_line, answer_line}
use Rattle.records.specs.declared.Answer.{Answer}
use Rattle.records.specs.Rows.{zeros}
use Rattle.lines.specs.declared.Short.{Short}
use Rattle.std.specs.Prelude.{Result, Ok, Err}
use Rattle.lines.specs.Print.{short, fitted, Prints, record_answer}
use Rattle.listing_parts.specs.declared.Place.{Place}
use Rattle.listing_parts.specs.Parts.{head_line, next, after, next_line, lines_from, part_end, start, PrintsAnswer, Parts, FirstPart}

-- ---- the first line

module _ (reply number constants : ℕ) {was have : List ℕ} {r : Result ℕ Short} where
  pub head_accepted : reply ≡ 0 → Prints (accepted_line constants) was have r → Prints (head_line reply number constants) was have r
  head_accepted e p = rw (eq-eqb reply 0 e) p

  pub head_refused : (reply ≡ 0 → ⊥) → Prints (refused_line reply number) was have r → Prints (head_line reply number constants) was have r
  head_refused n p = rw (ne_eqb reply 0 n) p

-- ---- a line in the rest of a buffer

-- the rest of a list from an index on, as a part of it is lent; and the list with another rest
abbrev pub rest : List ℕ → ℕ → List ℕ
rest c at = take (length c - at) (drop at c)

abbrev pub with_rest : List ℕ → ℕ → List ℕ → List ℕ
with_rest c at last = take at c ++ (last ++ drop (length c - at) (drop at c))

rest_is : (c : List ℕ) (at : ℕ) → rest c at ≡ drop at c
rest_is c at = take_all (length c - at) (drop at c) (omega (arith, length-drop at c))

with_rest_is : (c : List ℕ) (at : ℕ) (last : List ℕ) → with_rest c at last ≡ take at c ++ last
with_rest_is c at last =
    ap (λ (l : List ℕ). take at c ++ (last ++ l)) (drop_of_length-le (drop at c) {i = length c - at} (omega (arith, length-drop at c)))
    ∙ ap (λ (l : List ℕ). take at c ++ l) (append-nil last)

sets_cons : (x : ℕ) (c : List ℕ) (at : ℕ) (vs : List ℕ) → sets (x ∷ c) (suc at) vs ≡ x ∷ sets c at vs
sets_cons x c at [] = refl
sets_cons x c at (v ∷ vs) = sets_cons x (set c at v) (suc at) vs

sets_behind : (c : List ℕ) (at : ℕ) (vs : List ℕ) → at ≤ length c → take at c ++ sets (drop at c) 0 vs ≡ sets c at vs
sets_behind c zero vs h = refl
sets_behind [] (suc at) vs h = absurd (omega arith)
sets_behind (x ∷ c) (suc at) vs h = ap (λ (l : List ℕ). x ∷ l) (sets_behind c at vs (omega arith)) ∙ sym (sets_cons x c at vs)

-- stored in the rest of a list is stored in the list
sets_rest : (c : List ℕ) (at : ℕ) (vs : List ℕ) → at ≤ length c → with_rest c at (sets (rest c at) 0 vs) ≡ sets c at vs
sets_rest c at vs h =
    with_rest_is c at (sets (rest c at) 0 vs) ∙ ap (λ (l : List ℕ). take at c ++ sets l 0 vs) (rest_is c at) ∙ sets_behind c at vs h

rest_long : (c : List ℕ) (at : ℕ) → length (rest c at) ≡ length c - at
rest_long c at = ap length (rest_is c at) ∙ length-drop at c

-- a line that is written fits, and its length is told; one that is short does not fit
fit : (n m k : ℕ) → Ok k ≡ fitted n m → (n ≤ m) × (k ≡ n)
fit n m k e = ⊎_elim
    (λ (h : n ≤ m). (h, length_of _ _ (e ∙ ap (λ b. cond b (Ok n) (Err (short n))) (le-leb n m h))))
    (λ (h : m < n). absurd (not_written _ _ (e ∙ ap (λ b. cond b (Ok n) (Err (short n))) (lt-leb n m h))))
    (le_or n m)
  where
    length_of : (i j : ℕ) → ◌≡◌ {A = Result ℕ Short} (Ok i) (Ok j) → i ≡ j
    length_of i j p = cc

    not_written : (i j : ℕ) → ◌≡◌ {A = Result ℕ Short} (Ok i) (Err (short j)) → ⊥
    not_written i j p = let z : ◌≡◌ {A = ℕ} 0 1 = cc in absurd (omega arith)

misfit : (n m k : ℕ) → Err (short k) ≡ fitted n m → m < n
misfit n m k e = ⊎_elim
    (λ (h : n ≤ m). absurd (not_short _ _ (e ∙ ap (λ b. cond b (Ok n) (Err (short n))) (le-leb n m h))))
    (λ (h : m < n). h)
    (le_or n m)
  where
    not_short : (i j : ℕ) → ◌≡◌ {A = Result ℕ Short} (Err (short i)) (Ok j) → ⊥
    not_short i j p = let z : ◌≡◌ {A = ℕ} 0 1 = cc in absurd (omega arith)

-- a line that is written ends in the buffer
pub ends_within : {line was have : List ℕ} {n : ℕ} → Prints line was have (Ok n) → n ≤ length have
ends_within {line} {was} {have} {n} q =
    let f = fit (length line) (length was) n q.answer in omega (arith, f.0, f.1, ap length q.is, length-sets was 0 line)

-- ---- what the calls give, by other names

pub ended_by : {line was have : List ℕ} {r s : Result ℕ Short} → Prints line was have r → r ≡ s → Prints line was have s
ended_by {line} {was} {have} p e = subst (Prints line was have) e p

pub recorded : {t : Table} {room : List ℕ} {rs : List Answer} {i n : ℕ} {a : Answer} {was have : List ℕ} {r : Result ℕ Short} → a ≡ get_or rs i zeros
    → Prints (answer_line t n (record_answer room a)) was have r → PrintsAnswer t room rs i n was have r
recorded {t} {room} {n = n} {was = was} {have} {r} e p = record { prints = subst (λ (x : Answer). Prints (answer_line t n (record_answer room x)) was have r) e p }

-- the constant that comes next, and how its line ends
pub printed_by : {t : Table} {room : List ℕ} {rs : List Answer} (n : ℕ) {i c : ℕ} {was have : List ℕ} {r s : Result ℕ Short} → PrintsAnswer t room rs i c was have r → c ≡ next t n → r ≡ s
    → Prints (next_line t room rs i n) was have s
printed_by n p e f = ended_by (rw (← e) p.prints) f

-- ---- the loop

module _ (t : Table) (room : List ℕ) (rs : List Answer) (constants : ℕ) where
  lines_step : (i n : ℕ) → i < constants → lines_from t room rs i n (constants - i) ≡ next_line t room rs i n ++ lines_from t room rs (i + 1) (after t n) (constants - (i + 1))
  unfolding lines_from
  lines_step i n h = let e : constants - i ≡ suc (constants - (i + 1)) = omega arith in rw e

  lines_end : (i n : ℕ) → constants ≤ i → lines_from t room rs i n (constants - i) ≡ []
  unfolding lines_from
  lines_end i n h = let e : constants - i ≡ 0 = omega arith in rw e

  -- the place behind the next line
  abbrev pub step : Place → Place
  step p = record { at = p.at + length (next_line t room rs p.line p.node); line = p.line + 1; node = after t p.node }

  pub end_step : (m : ℕ) (p : Place) → p.line < constants → (step p).at ≤ m → part_end t room rs m (constants - p.line) p ≡ part_end t room rs m (constants - (p.line + 1)) (step p)
  unfolding part_end
  end_step m p h fits =
      let e : constants - p.line ≡ suc (constants - (p.line + 1)) = omega arith in rw (e, le-leb (step p).at m fits)

  end_here : (m : ℕ) (p : Place) → p.line < constants → m < (step p).at → part_end t room rs m (constants - p.line) p ≡ p
  unfolding part_end
  end_here m p h over =
      let e : constants - p.line ≡ suc (constants - (p.line + 1)) = omega arith in rw (e, lt-leb (step p).at m over)

  end_last : (m : ℕ) (p : Place) → constants ≤ p.line → part_end t room rs m (constants - p.line) p ≡ p
  unfolding part_end
  end_last m p h = let e : constants - p.line ≡ 0 = omega arith in rw e

  -- from the place p₀ and the buffer `was` the loop has come to the place p and the buffer `have`
  pub record Going (was : List ℕ) (p₀ : Place) (have : List ℕ) (p : Place) : Type 0 where
    pub within : p.at ≤ length have
    pub kept : length have ≡ length was
    pub is : sets have p.at (lines_from t room rs p.line p.node (constants - p.line)) ≡ sets was p₀.at (lines_from t room rs p₀.line p₀.node (constants - p₀.line))
    pub ends : part_end t room rs (length was) (constants - p.line) p ≡ part_end t room rs (length was) (constants - p₀.line) p₀

  pub going_starts : (was : List ℕ) (p : Place) → p.at ≤ length was → Going was p was p
  going_starts was p h = record { within = h; kept = refl; is = refl; ends = refl }

  module _ {was : List ℕ} {p₀ : Place} {have : List ℕ} {p : Place} (g : Going was p₀ have p) where
    module _ (h : p.line < constants) where
      now_is : {last : List ℕ} {r : Result ℕ Short} → Prints (next_line t room rs p.line p.node) (rest have p.at) last r
          → with_rest have p.at last ≡ sets have p.at (next_line t room rs p.line p.node)
      now_is q = ap (with_rest have p.at) q.is ∙ sets_rest have p.at (next_line t room rs p.line p.node) g.within

      to_come : sets have p.at (lines_from t room rs p.line p.node (constants - p.line))
          ≡ sets (sets have p.at (next_line t room rs p.line p.node)) (step p).at (lines_from t room rs (p.line + 1) (after t p.node) (constants - (p.line + 1)))
      to_come =
          ap (sets have p.at) (lines_step p.line p.node h)
          ∙ sets_append have p.at (next_line t room rs p.line p.node) (lines_from t room rs (p.line + 1) (after t p.node) (constants - (p.line + 1)))

      -- a line that is written ends in the buffer
      pub going_fits : {last : List ℕ} {n : ℕ} → Prints (next_line t room rs p.line p.node) (rest have p.at) last (Ok n) → p.at + n ≤ length have
      going_fits {n = n} q =
          let f = fit (length (next_line t room rs p.line p.node)) (length (rest have p.at)) n q.answer in
          omega (arith, f.0, f.1, g.within, rest_long have p.at)

      pub going_goes_on : {last : List ℕ} {n here node : ℕ} → Prints (next_line t room rs p.line p.node) (rest have p.at) last (Ok n)
          → here ≡ next t p.node → node ≡ min (here + 1) (count t)
          → Going was p₀ (with_rest have p.at last) (record { at = p.at + n; line = p.line + 1; node = node })
      going_goes_on {n = n} q e b =
          let f = fit (length (next_line t room rs p.line p.node)) (length (rest have p.at)) n q.answer in
          let fits : (step p).at ≤ length have = omega (arith, f.0, g.within, rest_long have p.at) in
          let go : Going was p₀ (sets have p.at (next_line t room rs p.line p.node)) (step p) =
          record {
            within = omega (arith, fits, length-sets have p.at (next_line t room rs p.line p.node));
            kept = length-sets have p.at (next_line t room rs p.line p.node) ∙ g.kept;
            is = sym to_come ∙ g.is;
            ends = sym (end_step (length was) p h (omega (arith, fits, g.kept))) ∙ g.ends;
          } in
          rw (now_is q, f.1, b, e) go

      pub going_stops : {last : List ℕ} {n : ℕ} → Prints (next_line t room rs p.line p.node) (rest have p.at) last (Err (short n))
          → Parts t room rs constants was p₀ (with_rest have p.at last) p
      going_stops {n = n} q =
          let f = misfit (length (next_line t room rs p.line p.node)) (length (rest have p.at)) n q.answer in
          let over : length have < (step p).at = omega (arith, f, g.within, rest_long have p.at) in
          record {
            is =
                now_is q
                ∙ sym (sets_out (sets have p.at (next_line t room rs p.line p.node)) (step p).at (lines_from t room rs (p.line + 1) (after t p.node) (constants - (p.line + 1)))
                (omega (arith, over, length-sets have p.at (next_line t room rs p.line p.node))))
                ∙ sym to_come
                ∙ g.is;
            ends = sym (end_here (length was) p h (omega (arith, over, g.kept))) ∙ g.ends;
            within = omega (arith, g.within, ap length (now_is q), length-sets have p.at (next_line t room rs p.line p.node));
          }

    pub going_ends : constants ≤ p.line → Parts t room rs constants was p₀ have p
    going_ends h = record {
      is = sym (ap (sets have p.at) (lines_end p.line p.node h)) ∙ g.is;
      ends = sym (end_last (length was) p h) ∙ g.ends;
      within = g.within;
    }

  -- ---- the first part: the first line and a part behind it, or the front of the first line

  module _ (reply number : ℕ) {was mid : List ℕ} {n : ℕ} where
    pub first_goes_on : {have : List ℕ} {r : Place} → Prints (head_line reply number constants) was mid (Ok n)
        → Parts t room rs constants mid (record { at = n; line = 0; node = 0 }) have r → FirstPart t room rs reply number constants was have r
    first_goes_on {have} {r} q g =
        let f = fit (length (head_line reply number constants)) (length was) n q.answer in
        let all : constants - 0 ≡ constants = omega arith in
        let end : n ≡ 0 + length (head_line reply number constants) = omega (arith, f.1) in
        let long : length mid ≡ length was = ap length q.is ∙ length-sets was 0 (head_line reply number constants) in
        record {
          is =
              g.is ∙ ap (λ (k : ℕ). sets mid n (lines_from t room rs 0 0 k)) all
              ∙ ap (λ (l : List ℕ). sets l n (lines_from t room rs 0 0 constants)) q.is
              ∙ ap (λ (k : ℕ). sets (sets was 0 (head_line reply number constants)) k (lines_from t room rs 0 0 constants)) end
              ∙ sym (sets_append was 0 (head_line reply number constants) (lines_from t room rs 0 0 constants));
          ends =
              g.ends ∙ rw (all, long, f.1, le-leb (length (head_line reply number constants)) (length was) f.0);
          within = g.within;
        }

    pub first_stops : Prints (head_line reply number constants) was mid (Err (short n)) → FirstPart t room rs reply number constants was mid start
    first_stops q =
        let f = misfit (length (head_line reply number constants)) (length was) n q.answer in
        record {
          is =
              q.is
              ∙ sym (sets_out (sets was 0 (head_line reply number constants)) (0 + length (head_line reply number constants)) (lines_from t room rs 0 0 constants)
              (omega (arith, f, length-sets was 0 (head_line reply number constants))))
              ∙ sym (sets_append was 0 (head_line reply number constants) (lines_from t room rs 0 0 constants));
          ends = rw (lt-leb (length (head_line reply number constants)) (length was) f);
          within = zero-le;
        }
