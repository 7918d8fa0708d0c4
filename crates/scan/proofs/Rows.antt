-- The loop over tokens: the rows that are still to come, over the columns as they stand, give what all the rows give over the columns as they were.
use mathlib.Core.Path.{◌≡◌, refl, sym, ap, ap₂, ◌∙◌, subst}
use mathlib.Core.Bool.{false, cond}
use lib.Dec.{leb}
use mathlib.Core.List.{List}
use Prim.Native.Nat.{ℕ, suc, ◌+◌, ◌-◌, ◌<◌, ◌≤◌, min}
use native.Mathlib.Omega.{arith}
use native.Mathlib.Numerals.{add-one}
use native.Mathlib.Nat.{add-zero}
use lib.ListN.{length, set, length-set}
use lib.Seq.{sets}
use borrow.Author.Tests.{lt-ltb, le-ltb, le-leb, lt-leb}
use Rattle.express.specs.Tokens.Lexis.{Reading, at, refused, skipped, token_kind_at, end_of_token, Lexed, stopped, cons, token_after_blank}
use Rattle.express.specs.Tokens.Lexis.{row_and_rest, lexed_in, lexed_to, kinds, starts, sizes, counted, tokens}
use Rattle.express.proofs.Tokens.Fast.{lexed_fast}
use Rattle.express.proofs.Tokens.Places.{inside_at, skip_inside, token_inside}
use Rattle.blanks.specs.Step.{reading, reply_of, place_of}
use Rattle.scan.specs.Scan.{ended, of_kind, TokenRead, Filled, ScanResult}
use Rattle.scan.specs.declared.Token.{Token}
use Rattle.std.specs.Prelude.{Result, Ok, Err}
use Rattle.blanks.specs.declared.Refusal.{Refusal}
use Rattle.blanks.specs.declared.Refusal.TheVariants.{TooLong, TokensShort}

-- Of all the tokens l, n rows are written and p is reached; what is left from there, in enough turns, completes them.
pub record Progress (l : Lexed) (src k₀ s₀ z₀ k s z : List ℕ) (n p : ℕ) : Type 0 where
  pub inside : p ≤ length src
  pub fewer : n ≤ p
  pub kept_kinds : length k ≡ length k₀
  pub kept_starts : length s ≡ length s₀
  pub kept_lengths : length z ≡ length z₀
  pub left : Lexed
  pub is : lexed_in (suc (length src - n)) src p ≡ left
  pub stop : left.stop ≡ l.stop
  pub count : n + length left.rows ≡ length l.rows
  pub kinds_are : sets k n (kinds left) ≡ sets k₀ 0 (kinds l)
  pub starts_are : sets s n (starts left) ≡ sets s₀ 0 (starts l)
  pub sizes_are : sets z n (sizes left) ≡ sets z₀ 0 (sizes l)

-- a longer text is refused at once
pub too_long : (limit most : ℕ) (src k s z : List ℕ) → most ≡ limit → most < length src → Filled (lexed_to limit src) k s z (Err (TooLong most)) k s z
too_long limit most src k s z e h =
    let over : leb (length src) limit ≡ false = lt-leb (length src) limit (omega (arith, e, h)) in
    rw over (record { is = ap (refused 1) e; kinds = refl; starts = refl; lengths = refl })

pub progress_first : (limit : ℕ) (src k s z : List ℕ) → length src ≤ limit → Progress (lexed_to limit src) src k s z k s z 0 0
progress_first limit src k s z h = record {
  inside = omega arith;
  fewer = omega arith;
  kept_kinds = refl;
  kept_starts = refl;
  kept_lengths = refl;
  left = lexed_to limit src;
  is = ap (λ (f : ℕ). lexed_in f src 0) (omega arith) ∙ sym (lexed_fast limit src h);
  stop = refl;
  count = omega arith;
  kinds_are = refl;
  starts_are = refl;
  sizes_are = refl;
}

-- a token and its end are refused together
refused_from : (k : ℕ) (r : Result ℕ Refusal) {m : Refusal} → of_kind k r ≡ Err m → r ≡ Err m
refused_from k (Ok e) q = cc
refused_from k (Err m) q = cc

read_from : (k : ℕ) (r : Result ℕ Refusal) {t : Token} → of_kind k r ≡ Ok t → (r ≡ Ok t.end) × (t.kind ≡ k)
read_from k (Ok e) {t} q =
    let is : record { kind = k; end = e } ≡ t = cc in
    (ap (λ (x : Token). Ok x.end) is, sym (ap (λ (x : Token). x.kind) is))
read_from k (Err m) q = cc

module _ {l : Lexed} {src k₀ s₀ z₀ k s z : List ℕ} {n p : ℕ} (c : Progress l src k₀ s₀ z₀ k s z n p) where
  -- nothing is left but the stop
  ends : (e : Reading) (r : Result ℕ Refusal) → lexed_in (suc (length src - n)) src p ≡ stopped e → reading r ≡ ended e n → Filled l k₀ s₀ z₀ r k s z
  ends e r over r_is =
      let left_is : c.left ≡ stopped e = sym c.is ∙ over in
      let stop_is : e ≡ l.stop = ap (λ (x : Lexed). x.stop) (sym left_is) ∙ c.stop in
      let count_is : n ≡ length l.rows = sym (add-zero n) ∙ ap (λ (x : Lexed). n + length x.rows) (sym left_is) ∙ c.count in
      record {
        is = r_is ∙ ap₂ ended stop_is count_is;
        kinds = ap (λ (x : Lexed). sets k n (kinds x)) (sym left_is) ∙ c.kinds_are;
        starts = ap (λ (x : Lexed). sets s n (starts x)) (sym left_is) ∙ c.starts_are;
        lengths = ap (λ (x : Lexed). sets z n (sizes x)) (sym left_is) ∙ c.sizes_are;
      }

  -- the step over spaces and remarks
  module _ (space : Result ℕ Refusal) (is : reading space ≡ skipped src p) where
    pub skip_refused : {m : Refusal} → space ≡ Err m → Filled l k₀ s₀ z₀ (Err m) k s z
    unfolding lexed_in
    skip_refused {m} e =
        ends (reading (Err m)) (Err m)
        (ap (λ (x : Reading). token_after_blank src x (λ q. lexed_in (length src - n) src q)) (sym is ∙ ap reading e))
        refl

    module _ {q : ℕ} (at_q : space ≡ Ok q) where
      after : lexed_in (suc (length src - n)) src p ≡ token_after_blank src (at q) (λ r. lexed_in (length src - n) src r)
      unfolding lexed_in
      after = ap (λ (x : Reading). token_after_blank src x (λ r. lexed_in (length src - n) src r)) (sym is ∙ ap reading at_q)

      pub all_read : length src ≤ q → Filled l k₀ s₀ z₀ (Ok n) k s z
      all_read h = ends (at q) (Ok n) (after ∙ rw (le-ltb q (length src) h)) refl

      -- the token that stands there
      module _ (h : q < length src) {read : Result Token Refusal} (token : TokenRead src q read) where
        token_of : {r : Reading} → r ≡ end_of_token src q (token_kind_at src q)
            → lexed_in (suc (length src - n)) src p ≡ row_and_rest (token_kind_at src q) q r (λ r. lexed_in (length src - n) src r)
        token_of r_is = after ∙ rw (lt-ltb q (length src) h, r_is)

        pub token_refused : {m : Refusal} → read ≡ Err m → Filled l k₀ s₀ z₀ (Err m) k s z
        token_refused {m} e = ends (reading (Err m)) (Err m) (token_of (sym (ap reading (refused_from _ token.end (sym token.token_is ∙ e))) ∙ token.is)) refl

        module _ {t : Token} (of_t : read ≡ Ok t) where
          abbrev e : ℕ
          e = t.end

          abbrev kind : ℕ
          kind = t.kind

          parts : (token.end ≡ Ok t.end) × (t.kind ≡ token_kind_at src q)
          parts = read_from _ token.end (sym token.token_is ∙ of_t)

          end_is : at e ≡ end_of_token src q (token_kind_at src q)
          end_is = sym (ap reading parts.0) ∙ token.is

          -- where the token lies
          pub places : (n ≤ q) × (p ≤ q) × (q < e) × (e ≤ length src)
          places =
              let a = inside_at (sym is ∙ ap reading at_q) (skip_inside src p c.inside) in
              let t = inside_at (sym end_is) (token_inside src q h) in
              (omega (arith, a.0, c.fewer), a.0, omega (arith, t.0), t.1)

          pub row_read : {k' s' z' : List ℕ} → k' ≡ set k n kind → s' ≡ set s n q → z' ≡ set z n (e - q) → Progress l src k₀ s₀ z₀ k' s' z' (n + 1) e
          row_read k_is s_is z_is = rw (k_is, s_is, z_is) row
            where
              rest : Lexed
              rest = lexed_in (length src - n) src e

              left_is : c.left ≡ cons (record { kind = kind; start = q; size = e - q }) rest
              left_is = sym c.is ∙ token_of end_is ∙ ap (λ (i : ℕ). cons (record { kind = i; start = q; size = e - q }) rest) (sym parts.1)

              row : Progress l src k₀ s₀ z₀ (set k n kind) (set s n q) (set z n (e - q)) (n + 1) e
              row = record {
                inside = places.3;
                fewer = omega (arith, places.0, places.2);
                kept_kinds = length-set k n kind ∙ c.kept_kinds;
                kept_starts = length-set s n q ∙ c.kept_starts;
                kept_lengths = length-set z n (e - q) ∙ c.kept_lengths;
                left = rest;
                is = ap (λ (f : ℕ). lexed_in f src e) (omega (arith, places.0, places.2, places.3));
                stop = ap (λ (x : Lexed). x.stop) (sym left_is) ∙ c.stop;
                count = omega (arith, ap (λ (x : Lexed). length x.rows) left_is, c.count);
                kinds_are = rw add-one (ap (λ (x : Lexed). sets k n (kinds x)) (sym left_is) ∙ c.kinds_are);
                starts_are = rw add-one (ap (λ (x : Lexed). sets s n (starts x)) (sym left_is) ∙ c.starts_are);
                sizes_are = rw add-one (ap (λ (x : Lexed). sets z n (sizes x)) (sym left_is) ∙ c.sizes_are);
              }

-- ---- the whole call: the room there is

abbrev came : Reading → Type 0
came (at q) = Unit {0}
came (refused m o) = ⊥

abbrev number_at : Reading → ℕ
number_at (at q) = q
number_at (refused m o) = 0

refused_kept : (e : Reading) (m o n room : ℕ) → refused m o ≡ ended e n → refused m o ≡ counted e n room
refused_kept (at q) m o n room h = absurd (subst came (sym h) tt)
refused_kept (refused k p) m o n room h = h

at_counted : (e : Reading) (m n room : ℕ) → at m ≡ ended e n → cond (leb m room) (at m) (refused 6 m) ≡ counted e n room
at_counted (at q) m n room h = ap (λ (i : ℕ). cond (leb i room) (at i) (refused 6 i)) (ap number_at h)
at_counted (refused k p) m n room h = absurd (subst came h tt)

module _ (limit : ℕ) (src : List ℕ) {k₀ s₀ z₀ k s z : List ℕ} {r : Result ℕ Refusal} (f : Filled (lexed_to limit src) k₀ s₀ z₀ r k s z) where
  abbrev all : Lexed
  all = lexed_to limit src

  abbrev shortest : ℕ
  shortest = min (length k₀) (min (length s₀) (length z₀))

  with_answer : (a : Result ℕ Refusal) → reading a ≡ tokens all shortest → ScanResult limit src k₀ s₀ z₀ a k s z
  with_answer a e = record { is = e; kinds = f.kinds; starts = f.starts; lengths = f.lengths }

  pub scan_refused : {m : Refusal} → r ≡ Err m → ScanResult limit src k₀ s₀ z₀ (Err m) k s z
  unfolding tokens
  scan_refused {m} e = with_answer (Err m) (refused_kept all.stop (reply_of m) (place_of m) (length all.rows) _ (sym (ap reading e) ∙ f.is))

  module _ {n room : ℕ} (e : r ≡ Ok n) (room_is : room ≡ shortest) where
    counted_is : cond (leb n room) (at n) (refused 6 n) ≡ counted all.stop (length all.rows) room
    counted_is = at_counted all.stop n (length all.rows) room (sym (ap reading e) ∙ f.is)

    pub scan_short : room < n → ScanResult limit src k₀ s₀ z₀ (Err (TokensShort n)) k s z
    unfolding tokens
    scan_short h = with_answer (Err (TokensShort n)) (rw (← room_is) (sym (rw (lt-leb n room h)) ∙ counted_is))

    pub scan_fits : n ≤ room → ScanResult limit src k₀ s₀ z₀ (Ok n) k s z
    unfolding tokens
    scan_fits h = with_answer (Ok n) (rw (← room_is) (sym (rw (le-leb n room h)) ∙ counted_is))
