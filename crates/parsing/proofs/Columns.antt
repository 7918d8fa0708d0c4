-- Words laid out in columns, and the columns of rows. Assumes nothing.
use mathlib.Core.Bool.{Bool, true, false, cond}
use mathlib.Core.List.{List, [], ◌∷◌, ◌++◌, map, map-append}
use mathlib.Core.Logic.{⊎_elim}
use mathlib.Core.Path.{◌≡◌, refl, sym, ap, ◌∙◌}
use Rattle.std.specs.Prelude.{Ok, Err}
use Prim.Native.Nat.{ℕ, suc, ◌+◌, ◌*◌, ◌/◌, ◌%◌, ◌≤◌, ◌<◌, min}
use native.Mathlib.Omega.{arith}
use native.Mathlib.Numerals.{add-one}
use native.Mathlib.Nat.{min-eq_left, min-eq_right, min-le_left, min-le_right, mod-eq_of_lt}
use lib.Dec.{eqb, ltb}
use borrow.Author.Tests.{le-leb, lt-leb}
use lib.ListN.{length, get_or, take, drop, set, replicate, take-append-drop}
use lib.Seq.{sets, length-sets, take-suc, take-take, take_all, length-take-le}
use Rattle.ebnf.specs.Rows.{Row, Rows}
use Rattle.ebnf.specs.Depth.{Outcome, good, unexpected, too_deep}
use Rattle.columns.specs.Column.{cleared}
use Rattle.columns.proofs.Laws.{sets_append, sets_out, sets_snoc, take_rows, clear_all}
use Rattle.ebnf.proofs.Sets.{lt_or_le}
use Rattle.express.specs.Syntax.Grammar.{Nonterminal}
use Rattle.express.specs.Syntax.Syntax.{parsed}
use Rattle.parsing.specs.declared.Refusal.TheVariants.{Unexpected, TooDeep}
use Rattle.parsing.specs.declared.Failure.TheVariants.{Scratch, Long}
use Rattle.express.specs.Whole.Reply.{node_entries}
use Rattle.parsing.specs.Parsing.{Parsed, most, answer, rows_of, Parsing}
use Rattle.parsing.specs.Reading.{Read, word_of, Fits, All_fit, Ahead}
use Rattle.parsing.specs.Outcome.{Judgement, judged, Judges, kind_in, role_in, token_in, size_in, unpacked, count, Judging, answered, LaysOut, Parses}
use Rattle.parsing.proofs.Laws.{map_length}

length_map : {A : Type 0} (f : ℕ → A) (l : List ℕ) → length (map f l) ≡ length l
length_map f [] = refl
length_map f (x ∷ l) = ap suc (length_map f l)

-- past the end of the column nothing is stored
sets_more : {A : Type 0} (c vs ws : List A) → length c ≤ length vs → sets c 0 (vs ++ ws) ≡ sets c 0 vs
sets_more c vs ws l =
    let h = length-sets c 0 vs in
    sets_append c 0 vs ws ∙ sets_out (sets c 0 vs) (0 + length vs) ws (omega arith)

column_whole : {A : Type 0} (f : ℕ → A) (words : List ℕ) (c : List A) (n end : ℕ) → end ≤ n → end ≤ length words → length c ≤ end → unpacked f end words c ≡ unpacked f n words c
column_whole {A} f words c n end k h l =
    let front : take end (take n words) ≡ take end words = take-take end n words k in
    let both : map f (take end words) ++ map f (drop end (take n words)) ≡ map f (take n words) =
    sym (map-append f (take end words) (drop end (take n words)))
    ∙ ap (map f) (ap (λ (x : List ℕ). x ++ drop end (take n words)) (sym front) ∙ take-append-drop end (take n words)) in
    let m : length (map f (take end words)) ≡ end = length_map f (take end words) ∙ length-take-le end words h in
    sym (sets_more c (map f (take end words)) (map f (drop end (take n words))) (omega arith)) ∙ ap (λ (x : List A). sets c 0 x) both

-- the words that there are and the column holds are all that a column takes
column_end : {A : Type 0} (f : ℕ → A) (words : List ℕ) (c : List A) (n end : ℕ) → end ≡ min n (min (length words) (length c)) → unpacked f end words c ≡ unpacked f n words c
column_end f words c n end e =
    ⊎_elim
    (λ (l : n < min (length words) (length c)). let z : end ≡ n = e ∙ min-eq_left (omega arith) in rw z refl)
    (λ (l : min (length words) (length c) ≤ n).
    let z : end ≡ min (length words) (length c) = e ∙ min-eq_right l in
    ⊎_elim
    (λ (k : length c < length words). let y : end ≡ length c = z ∙ min-eq_right (omega arith) in column_whole f words c n end (omega arith) (omega arith) (omega arith))
    (λ (k : length words ≤ length c).
    let y : end ≡ length words = z ∙ min-eq_left k in
    ap (λ (x : List ℕ). sets c 0 (map f x)) (take_all end words (omega arith) ∙ sym (take_all n words (omega arith))))
    (lt_or_le (length c) (length words)))
    (lt_or_le n (min (length words) (length c)))

-- one word more in a column
grown : {A : Type 0} (f : ℕ → A) (words : List ℕ) (i w : ℕ) (v : A) (c₀ c c' : List A) → i < length words → w ≡ get_or words i 0 → c ≡ sets c₀ 0 (map f (take i words)) → v ≡ f w → c' ≡ set c i v →
    c' ≡ sets c₀ 0 (map f (take (i + 1) words))
grown {A} f words i w v c₀ c c' l e h g k =
    let n : 0 + length (map f (take i words)) ≡ i = omega (arith, length_map f (take i words), length-take-le i words (omega arith)) in
    let s = sets_snoc c₀ 0 (map f (take i words)) v in
    let t : map f (take (i + 1) words) ≡ map f (take i words) ++ (v ∷ []) =
    ap (λ (j : ℕ). map f (take j words)) (add-one i)
    ∙ (ap (map f) (take-suc words i 0 l)
    ∙ (map-append f (take i words) (get_or words i 0 ∷ [])
    ∙ ap (λ (x : A). map f (take i words) ++ (x ∷ [])) (ap f (sym e) ∙ sym g))) in
    k ∙ (ap (λ (x : List A). set x i v) h ∙ (ap (λ (j : ℕ). set (sets c₀ 0 (map f (take i words))) j v) (sym n) ∙ (sym s ∙ ap (λ (x : List A). sets c₀ 0 x) (sym t))))

-- A COLUMN IS FILLED from the first n words, or as many as there are and it holds: what a loop has done before the one at i.
pub record Filled {A : Type 0} (part : ℕ → A) (words : List ℕ) (n : ℕ) (was : List A) (end i : ℕ) (c : List A) : Type 0 where
  pub all : end ≡ min n (min (length words) (length was))
  pub inside : end ≤ length words
  pub room : end ≤ length was
  pub upto : i ≤ end
  pub is : c ≡ unpacked part i words was

module _ {A : Type 0} (part : ℕ → A) {words : List ℕ} {n : ℕ} {was : List A} where
  pub filled_none : {end k : ℕ} → k ≡ min (length words) (length was) → end ≡ min n k → Filled part words n was end 0 was
  filled_none {end} {k} e f =
      let l = min-le_right n k in
      record {
        all = f ∙ ap (min n) e;
        inside = omega (arith, min-le_left (length words) (length was));
        room = omega (arith, min-le_right (length words) (length was));
        upto = omega arith;
        is = refl;
      }

  module _ {end i : ℕ} {c : List A} (u : Filled part words n was end i c) where
    -- the column keeps its length
    pub filled_length : length c ≡ length was
    filled_length = ap length u.is ∙ length-sets was 0 (map part (take i words))

    pub filled_more : {w : ℕ} {v : A} → i < end → w ≡ get_or words i 0 → v ≡ part w → Filled part words n was end (i + 1) (set c i v)
    filled_more {w} {v} l e f =
        let k = u.inside in
        record { all = u.all; inside = k; room = u.room; upto = omega arith; is = grown part words i w v was c (set c i v) (omega arith) e u.is f refl }

    pub filled_all : end ≤ i → c ≡ unpacked part n words was
    filled_all l =
        let k = u.upto in
        let z : i ≡ end = omega arith in
        u.is ∙ (ap (λ (j : ℕ). unpacked part j words was) z ∙ column_end part words was n end u.all)

-- ---- the parts of a row's word

module _ (r : Row) (f : Fits r) where
  plain : word_of r ≡ r.kind + 256 * r.role + 65536 * r.token + 68719476736 * r.size
  plain =
      let a = f.kind in
      let b = f.role in
      let x : (r.kind + 256 * r.role) % 65536 ≡ r.kind + 256 * r.role = mod-eq_of_lt (omega arith) in
      rw (x, mod-eq_of_lt f.token, mod-eq_of_lt f.size) refl

  kind_is : kind_in (word_of r) ≡ r.kind
  kind_is = let a = f.kind in rw plain (omega arith)

  role_is : role_in (word_of r) ≡ r.role
  role_is =
      let a = f.kind in
      let b = f.role in
      let q : (r.kind + 256 * r.role + 65536 * r.token + 68719476736 * r.size) / 256 ≡ r.role + 256 * (r.token + 1048576 * r.size) = omega arith in
      rw (plain, q) (omega arith)

  token_is : token_in (word_of r) ≡ r.token
  token_is =
      let a = f.kind in
      let b = f.role in
      let c = f.token in
      let q : (r.kind + 256 * r.role + 65536 * r.token + 68719476736 * r.size) / 65536 ≡ r.token + 1048576 * r.size = omega arith in
      rw (plain, q) (omega arith)

  size_is : size_in (word_of r) ≡ r.size
  size_is =
      let a = f.kind in
      let b = f.role in
      let c = f.token in
      let d = f.size in
      let q : (r.kind + 256 * r.role + 65536 * r.token + 68719476736 * r.size) / 68719476736 ≡ r.size = omega arith in
      rw (plain, q) (omega arith)

-- a part of every word
parts : (f : ℕ → ℕ) (g : Row → ℕ) → ((r : Row) → Fits r → f (word_of r) ≡ g r) → (rows : List Row) → All_fit rows → map f (map word_of rows) ≡ map g rows
parts f g h [] a = refl
parts f g h (r ∷ rows) a = rw (h r a.0, parts f g h rows a.1) refl

-- ---- the parse

take_words : (a b : List ℕ) (rows : List Row) → length rows ≤ length a → b ≡ sets a 0 (map word_of rows) → take (length rows) b ≡ map word_of rows
take_words a b rows l e =
    let n : length (map word_of rows) ≡ length rows = map_length rows in
    ap (take (length rows)) e ∙ (ap (λ (k : ℕ). take k (sets a 0 (map word_of rows))) (sym n) ∙ take_rows a (map word_of rows) (omega arith))

module _ (a : List ℕ) {j : Judgement} {b : List ℕ} {r : Parsed} {k t z o w k' t' z' o' : List ℕ} where
  laid_out : (out : Outcome Rows) → Judges out j a b → count j ≤ length a → LaysOut j r b k t z o w k' t' z' o' →
      (r ≡ answer (node_entries k t z o) out) × (k' ≡ sets k 0 (map (λ (r : Row). r.kind) (rows_of out))) × (t' ≡ sets t 0 (map (λ (r : Row). r.token) (rows_of out)))
      × (z' ≡ sets z 0 (map (λ (r : Row). r.size) (rows_of out))) × (o' ≡ sets o 0 (map (λ (r : Row). r.role) (rows_of out)))
  laid_out (good s) h l u =
      let u₂ : LaysOut (Ok (length s.rows)) r b k t z o w k' t' z' o' = rw h.0 at u in
      let l₂ : length s.rows ≤ length a = rw h.0 at l in
      let w = take_words a b s.rows l₂ h.1 in (
        u₂.answers,
        u₂.kinds_are ∙ ap (λ (l : List ℕ). sets k 0 l) (ap (map kind_in) w ∙ parts kind_in (λ (r : Row). r.kind) kind_is s.rows h.2),
        u₂.tokens_are ∙ ap (λ (l : List ℕ). sets t 0 l) (ap (map token_in) w ∙ parts token_in (λ (r : Row). r.token) token_is s.rows h.2),
        u₂.sizes_are ∙ ap (λ (l : List ℕ). sets z 0 l) (ap (map size_in) w ∙ parts size_in (λ (r : Row). r.size) size_is s.rows h.2),
        u₂.roles_are ∙ ap (λ (l : List ℕ). sets o 0 l) (ap (map role_in) w ∙ parts role_in (λ (r : Row). r.role) role_is s.rows h.2),
      )
  laid_out (unexpected i) h l u =
      let u₂ : LaysOut (Err (Unexpected i)) r b k t z o w k' t' z' o' = rw h at u in
      (u₂.answers, u₂.kinds_are, u₂.tokens_are, u₂.sizes_are, u₂.roles_are)
  laid_out (too_deep i) h l u =
      let u₂ : LaysOut (Err (TooDeep i)) r b k t z o w k' t' z' o' = rw h at u in
      (u₂.answers, u₂.kinds_are, u₂.tokens_are, u₂.sizes_are, u₂.roles_are)

-- what the grammar says of a list that is read, laid out in the columns
pub parses : {x : Nonterminal} {ts : List ℕ} {j : Judgement} {a b : List ℕ} {r : Parsed} {k t z o w k' t' z' o' : List ℕ} → length a ≡ length ts → length b ≡ length a → Judging x ts j a b →
    LaysOut j r b k t z o w k' t' z' o' → Parses x ts r a k t z o w k' t' z' o'
parses {x} {ts} {j} {a} {b} l e h u =
    let f = h.few in
    let c = laid_out a (parsed x ts) h.judges (omega arith) u in
    record { answers = c.0; kinds_are = c.1; tokens_are = c.2; sizes_are = c.3; roles_are = c.4; words_are = u.words_are ∙ ap (λ (i : ℕ). replicate i 0) e }

-- THE PARSE of a list that is not too long, in the first part of scratch that is long enough
pub parsing : {x : Nonterminal} {ts : List ℕ} {r : Parsed} {s k t z o w s' k' t' z' o' : List ℕ} {n : ℕ} → n ≡ length ts → length ts ≤ most → length ts ≤ length s →
    Parses x ts r (take n s) k t z o w k' t' z' o' → s' ≡ w ++ drop n s → Parsing x ts r s k t z o s' k' t' z' o'
parsing {x} {ts} {r} {s} {n = n} q m l h v =
    let e = le-leb (length ts) most m in
    let f = le-leb (length ts) (length s) l in
    let len : length (take n s) ≡ length ts = length-take-le n s (omega arith) ∙ q in
    record {
      answers = rw (e, f) h.answers;
      kinds_are = rw (e, f) h.kinds_are;
      tokens_are = rw (e, f) h.tokens_are;
      sizes_are = rw (e, f) h.sizes_are;
      roles_are = rw (e, f) h.roles_are;
      scratch_is = rw (e, f) (v ∙ (ap (λ (i : List ℕ). i ++ drop n s) (h.words_are ∙ ap (λ (i : ℕ). replicate i 0) len) ∙ ap (λ (i : ℕ). replicate (length ts) 0 ++ drop i s) q));
    }

-- a list that is too long is not read
pub too_long : (x : Nonterminal) {ts s k t z o : List ℕ} → most < length ts → Parsing x ts (Err Long) s k t z o s k t z o
too_long x {ts} h =
    let e = lt-leb (length ts) most h in
    record { answers = rw e refl; kinds_are = rw e refl; tokens_are = rw e refl; sizes_are = rw e refl; roles_are = rw e refl; scratch_is = rw e refl }

-- nor is one for which there is too little scratch
pub too_little : (x : Nonterminal) {ts s k t z o : List ℕ} → length ts ≤ most → length s < length ts → Parsing x ts (Err (Scratch (length ts))) s k t z o s k t z o
too_little x {ts} {s} m h =
    let e = le-leb (length ts) most m in
    let f = lt-leb (length ts) (length s) h in
    record { answers = rw (e, f) refl; kinds_are = rw (e, f) refl; tokens_are = rw (e, f) refl; sizes_are = rw (e, f) refl; roles_are = rw (e, f) refl; scratch_is = rw (e, f) refl }

-- no more words than tokens
pub judged_few : (ts : List ℕ) (read : Read) (deep end : ℕ) (r : Judgement) → end ≤ length ts → r ≡ judged read deep end → Ahead (take end ts) 0 0 read → count r ≤ length ts
judged_few ts (Ok next) deep end r l e h = rw e (go (eqb next.token end) (ltb deep end))
  where
    go : (u v : Bool) → count (cond u (cond v (Err (TooDeep deep)) (Ok next.row)) (Err (Unexpected next.token))) ≤ length ts
    go true true = omega arith
    go true false = omega (arith, h.1, h.3, length-take-le end ts l)
    go false v = omega arith
judged_few ts (Err refusal) deep end r l e h = rw e (go (ltb deep refusal.token))
  where
    go : (u : Bool) → count (cond u (Err (TooDeep deep)) (Err (Unexpected refusal.token))) ≤ length ts
    go true = omega arith
    go false = omega arith

-- the tail, from what its calls gave
pub lays_out : {j : Judgement} {r : Parsed} {n room : ℕ} {b k t z o w k' t' z' o' : List ℕ} → n ≡ count j → room ≡ node_entries k t z o → r ≡ answered room j →
    k' ≡ unpacked kind_in n b k → t' ≡ unpacked token_in n b t → z' ≡ unpacked size_in n b z → o' ≡ unpacked role_in n b o → w ≡ cleared 0 0 b → LaysOut j r b k t z o w k' t' z' o'
lays_out {j} {b = b} {k = k} {t = t} {z = z} {o = o} e f g h₁ h₂ h₃ h₄ v =
    record {
      answers = g ∙ ap (λ (l : ℕ). answered l j) f;
      kinds_are = h₁ ∙ ap (λ (i : ℕ). unpacked kind_in i b k) e;
      tokens_are = h₂ ∙ ap (λ (i : ℕ). unpacked token_in i b t) e;
      sizes_are = h₃ ∙ ap (λ (i : ℕ). unpacked size_in i b z) e;
      roles_are = h₄ ∙ ap (λ (i : ℕ). unpacked role_in i b o) e;
      words_are = v ∙ clear_all 0 b;
    }
