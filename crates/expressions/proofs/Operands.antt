-- Operands, atoms and intervals. Assumes nothing.
use mathlib.Core.Bool.{Bool, true, false, not, ◌&&◌, cond}
use mathlib.Core.List.{List, [], ◌∷◌}
use mathlib.Core.Path.{◌≡◌, refl, sym, ap, subst, ◌∙◌}
use Rattle.std.specs.Prelude.{Ok, Err}
use Prim.Native.Nat.{ℕ, ◌+◌, ◌-◌, ◌≤◌, ◌<◌}
use native.Mathlib.Omega.{arith}
use lib.Dec.{eqb}
use lib.ListN.{length, get_or, set}
use borrow.Author.Tests.{ne_eqb}
use Rattle.ebnf.specs.Set.{mem, disjoint}
use Rattle.ebnf.specs.Grammar.{leaf, Ebnf, none, step, seq, alt, nt}
use Rattle.ebnf.specs.Rows.{Rows}
use Rattle.ebnf.specs.Parse.{Result}
use Rattle.ebnf.proofs.Sets.{and_split, apart'}
use Rattle.express.specs.Tokens.Terminal.{identifier, dot, lbrace, rbrace, rparen, SELF}
use Rattle.express.specs.Syntax.Grammar.{Nonterminal, expression, sum, operand, atom, interval, signs, comparisons, ◌·◌, ◌∣◌, tok, named, leaves, row as row_of}
use Rattle.express.specs.Syntax.NodeKind as kind
use Rattle.express.proofs.Syntax.Descent.{phrase}
use Rattle.parsing.specs.Reading.{Read, At, Refused, word, labelled, atom_label, Expects, Ready, Ahead, Found, Reads, Reading, Compares, Leaf}
use Rattle.parsing.proofs.Terminals.{is_one, not_one, inside}
use Rattle.parsing.proofs.Steps.{onward, expect_goes, by_token}
use Rattle.parsing.proofs.Laws.{start, finish, last, alone, apart, together, dead, refused_found, told, passed}
use Rattle.parsing.proofs.Laws.{by_leaf, by_row, phrased, left, right, ahead_left, ahead_right, operator, reads, reads_at, compares_at}

-- ---- atoms

module _ (ts : List ℕ) (want : Result Rows) (n : ℕ) (a : List ℕ) (m p : ℕ) (g : Ready ts p n) (r : Read) (b : List ℕ) where
  -- what a row labelled l, or none where l is 0, leaves
  abbrev pub Label : ℕ → Type 0
  Label l = Leaf (not (eqb l 0)) l p n r a b

  -- the token is of the set and leaves its row, or the other alternatives are tried
  pub leafs : (cs : List ℕ) (k o : ℕ) (others : Ebnf _) (l : ℕ) → k < 256 → o < 256 → eqb (labelled k o) 0 ≡ false →
      (Label l → Reading ts want n a (seq others none) m (At p n) a → Found want n r a b) →
      Label (cond (mem (get_or ts p 0) cs) (labelled k o) l) → Reading ts want n a (seq (alt (step (leaf k o) cs none) others) none) m (At p n) a → Found want n r a b
  leafs cs k o others l hk ho z next h v = go (mem (get_or ts p 0) cs) refl h
    where
      go : (t : Bool) → mem (get_or ts p 0) cs ≡ t → Label (cond t (labelled k o) l) → Found want n r a b
      go true e w =
          let w₂ : Leaf true (labelled k o) p n r a b = subst (λ (x : Bool). Leaf (not x) (labelled k o) p n r a b) z w in
          finish (by_leaf true r b hk ho g e w₂ (left e v))
      go false e w = next w (right e v)

  -- the last alternative
  pub leafs_last : (cs : List ℕ) (k o : ℕ) → k < 256 → o < 256 → eqb (labelled k o) 0 ≡ false →
      Label (cond (mem (get_or ts p 0) cs) (labelled k o) 0) → Reading ts want n a (seq (step (leaf k o) cs none) none) m (At p n) a → Found want n r a b
  leafs_last cs k o hk ho z h v = go (mem (get_or ts p 0) cs) refl h
    where
      go : (t : Bool) → mem (get_or ts p 0) cs ≡ t → Label (cond t (labelled k o) 0) → Found want n r a b
      go true e w = finish (by_leaf true r b hk ho g e (subst (λ (x : Bool). Leaf (not x) (labelled k o) p n r a b) z w) v)
      go false e w = finish (by_leaf false r b hk ho g e w v)

-- the token at p, where the code has read it
module _ {ts : List ℕ} {p n : ℕ} (g : Ready ts p n) (c : ℕ) (e : c ≡ get_or ts p 0) where
  at_one : (d : ℕ) → c ≡ d → mem (get_or ts p 0) (d ∷ []) ≡ true
  at_one d h = is_one (get_or ts p 0) d (sym e ∙ h)

  at_none : (d : ℕ) → (c ≡ d → ⊥) → mem (get_or ts p 0) (d ∷ []) ≡ false
  at_none d h = not_one (get_or ts p 0) d (λ k. h (e ∙ k))

  -- '(' expression ')'
  module _ (h : c ≡ 24) {a b : List ℕ} {r : Read} (inner : Reads expression ts (p + 1) n r a b) where
    atom_inner : Reading ts (phrase ts atom p) n a (seq (tok rparen) none) p r b
    atom_inner = phrased inner (apart (passed (at_one 24 h) (apart (left (at_one 24 h) (last (start atom p g.within))))))

    pub atom_refused : {k : ℕ} → r ≡ Refused k → Reads atom ts p n r a b
    atom_refused e = reads atom g.within (refused_found e atom_inner)

    pub atom_nested : {q m : ℕ} {w : Read} → r ≡ At q m → Expects 25 ts q m w → Reads atom ts p n w a b
    atom_nested e x = reads atom g.within (finish (by_token x (omega arith) (told e atom_inner)))

  -- a token that leaves a row, or none that begins an atom
  atom_by_label : {a b : List ℕ} {r : Read} → (c ≡ 24 → ⊥) → Leaf (not (eqb (atom_label (get_or ts p 0)) 0)) (atom_label (get_or ts p 0)) p n r a b → Reads atom ts p n r a b
  atom_by_label {a} {b} {r} h w =
      let L = leafs ts (phrase ts atom p) n a p p g r b in
      reads atom g.within
      (L _ _ _ _ _ (omega arith) (omega arith) refl
      (L _ _ _ _ _ (omega arith) (omega arith) refl
      (L _ _ _ _ _ (omega arith) (omega arith) refl
      (L _ _ _ _ _ (omega arith) (omega arith) refl
      (L _ _ _ _ _ (omega arith) (omega arith) refl
      (L _ _ _ _ _ (omega arith) (omega arith) refl
      (leafs_last ts (phrase ts atom p) n a p p g r b SELF kind.self 0 (omega arith) (omega arith) refl))))))
      w (right (at_none 24 h) (last (start atom p g.within))))

  pub atom_row : {a b : List ℕ} (l : ℕ) → (c ≡ 24 → ⊥) → l ≡ atom_label c → (l ≡ 0 → ⊥) → b ≡ set a n (word l p (n + 1 - n)) → Reads atom ts p n (At (p + 1) (n + 1)) a b
  atom_row {a} {b} l h k z u =
      let k₂ : l ≡ atom_label (get_or ts p 0) = k ∙ ap atom_label e in
      atom_by_label h (rw (← k₂) (rw (ne_eqb l 0 z) (refl, u)))

  pub atom_none : {a : List ℕ} (l : ℕ) → (c ≡ 24 → ⊥) → l ≡ atom_label c → l ≡ 0 → Reads atom ts p n (Refused p) a a
  atom_none l h k z =
      let k₂ : atom_label (get_or ts p 0) ≡ 0 = ap atom_label (sym e) ∙ (sym k ∙ z) in
      atom_by_label h (rw k₂ (refl, refl))

-- ---- operands

-- behind a sign
module _ {ts : List ℕ} {p n : ℕ} (g : Ready ts p n) (h : mem (get_or ts p 0) signs ≡ true) where
  pub sign_ready : Ready ts (p + 1) n
  unfolding mem
  sign_ready = onward g (inside ts signs p refl h)

  pub sign_count : {r : Read} {q m : ℕ} {a b : List ℕ} → Reads atom ts (p + 1) n r a b → r ≡ At q m → m ≤ 65536
  sign_count i e =
      let u = reads_at i e in
      let s = g.small in
      let w = g.behind in
      omega arith

  sign_alone : {a : List ℕ} → Reading ts (phrase ts operand p) n a (seq (named signs · nt atom · row_of kind.unary) none) p (At p n) a
  unfolding mem disjoint
  sign_alone =
      let e : (mem (get_or ts p 0) identifier && mem (get_or ts (p + 1) 0) dot) ≡ false = rw (apart' (get_or ts p 0) identifier signs refl h) refl in
      left h (right (apart' (get_or ts p 0) (21 ∷ []) signs refl h) (ahead_right e (last (start operand p g.within))))

  -- the atom
  sign_atom : {a b : List ℕ} {r : Read} → Reads atom ts (p + 1) n r a b → Reading ts (phrase ts operand p) n a (row_of kind.unary) p r b
  sign_atom i = alone (phrased i (apart (operator h (apart sign_alone))))

  pub signed_refused : {a b : List ℕ} {r : Read} {k : ℕ} → Reads atom ts (p + 1) n r a b → r ≡ Refused k → Reads operand ts p n r a b
  signed_refused i e = reads operand g.within (refused_found e (sign_atom i))

  -- and the row over it
  pub signed_row : {r : Read} {q m : ℕ} {a b d : List ℕ} → Reads atom ts (p + 1) n r a b → r ≡ At q m → d ≡ set b m (word kind.unary p (m + 1 - n)) → Reads operand ts p n (At q (m + 1)) a d
  signed_row {d = d} i e u =
      let l = g.small in
      let l₂ = g.within in
      reads operand g.within (finish (by_row d (omega arith) (omega arith) (sign_count i e) (omega arith) u (told e (last (sign_atom i)))))

-- type.item, of which the dot is there
module _ {ts : List ℕ} {p n : ℕ} (g : Ready ts p n) (h : (mem (get_or ts p 0) identifier && mem (get_or ts (p + 1) 0) dot) ≡ true) where
  -- where the item stands is within the list
  pub item_ready : Ready ts (p + 2) n
  unfolding mem
  item_ready =
      let i = inside ts dot (p + 1) refl (and_split (mem (get_or ts p 0) identifier) _ h).1 in
      let w = g.behind in
      record { small = g.small; within = omega arith; behind = omega arith }

  item_by : {a b : List ℕ} (t : Bool) (r : Read) → mem (get_or ts (p + 2) 0) identifier ≡ t → Leaf t kind.qualified_item (p + 2) n r a b → Reads operand ts p n r a b
  item_by {b = b} t r e l =
      reads operand g.within (finish (by_leaf t r b (omega arith) (omega arith) item_ready e l (ahead_left h (last (start operand p g.within)))))

  module _ (t : ℕ) (f : t ≡ get_or ts (p + 2) 0) where
    pub item_row : {a b : List ℕ} → t ≡ 1 → b ≡ set a n (word kind.qualified_item (p + 2) (n + 1 - n)) → Reads operand ts p n (At (p + 2 + 1) (n + 1)) a b
    item_row k u = (item_by true (At (p + 2 + 1) (n + 1)) (is_one (get_or ts (p + 2) 0) 1 (sym f ∙ k)) (refl, u))

    pub item_none : {a : List ℕ} → (t ≡ 1 → ⊥) → Reads operand ts p n (Refused (p + 2)) a a
    item_none k = item_by false (Refused (p + 2)) (not_one (get_or ts (p + 2) 0) 1 (λ z. k (f ∙ z))) (refl, refl)

module _ {ts : List ℕ} {p n : ℕ} (g : Ready ts p n) (q : Bool) (e : q ≡ (mem (get_or ts p 0) identifier && mem (get_or ts (p + 1) 0) dot)) where
  module _ (h : q ≡ false) (c : ℕ) (f : c ≡ get_or ts p 0) where
    pub operand_interval : {a b : List ℕ} {r : Read} → c ≡ 21 → Reads interval ts p n r a b → Reads operand ts p n r a b
    operand_interval k i =
        reads operand g.within (finish (phrased i (left (is_one (get_or ts p 0) 21 (sym f ∙ k)) (ahead_right (sym e ∙ h) (last (start operand p g.within))))))

    module _ (k : c ≡ 21 → ⊥) (s : Bool) (j : s ≡ mem c signs) where
      signs_at : (b : Bool) → s ≡ b → mem (get_or ts p 0) signs ≡ b
      signs_at b z = ap (λ (x : ℕ). mem x signs) (sym f) ∙ (sym j ∙ z)

      no_brace : {a : List ℕ} → Reading ts (phrase ts operand p) n a (seq (named signs · nt atom · row_of kind.unary ∣ nt atom) none) p (At p n) a
      no_brace = right (not_one (get_or ts p 0) 21 (λ z. k (f ∙ z))) (ahead_right (sym e ∙ h) (last (start operand p g.within)))

      pub operand_plain : {a b : List ℕ} {r : Read} → s ≡ false → Reads atom ts p n r a b → Reads operand ts p n r a b
      operand_plain z i = reads operand g.within (finish (phrased i (right (signs_at false z) no_brace)))

-- ---- a comparison and a sum

module _ {ts : List ℕ} {p n : ℕ} (g : Ready ts p n) (s : Bool) (t : ℕ) (f : t ≡ get_or ts p 0) (j : s ≡ mem t comparisons) where
  comparison_at : (b : Bool) → s ≡ b → mem (get_or ts p 0) comparisons ≡ b
  comparison_at b z = ap (λ (x : ℕ). mem x comparisons) (sym f) ∙ (sym j ∙ z)

  pub comparison_inside : s ≡ true → p < length ts
  unfolding mem
  comparison_inside z = inside ts comparisons p refl (comparison_at true z)

  ahead_more : (r : Read) → Ahead ts (p + 1) (n + 1) r → Ahead ts p n r
  ahead_more (Ok next) h = (omega arith, h.1, omega arith, omega arith)
  ahead_more (Err e) h = tt

  pub compared_there : {a b c : List ℕ} {r : Read} → s ≡ true → b ≡ set a n (word kind.interval_operator p (n + 1 - n)) → Reads sum ts (p + 1) (n + 1) r b c → Compares ts p n r a c
  compared_there {b = b} {r = r} z u i =
      record {
        ahead = ahead_more r i.ahead;
        goes = record { on = λ x. phrased i (by_leaf true (At (p + 1) (n + 1)) b (omega arith) (omega arith) g (comparison_at true z) (refl, u) (apart x)) };
      }

  pub compared_not : {a : List ℕ} → s ≡ false → Compares ts p n (Refused p) a a
  compared_not {a} z =
      record {
        ahead = tt;
        goes = record { on = λ x. dead refl (by_leaf false (Refused p) a (omega arith) (omega arith) g (comparison_at false z) (refl, refl) (apart x)) };
      }

-- ---- intervals

module _ {ts : List ℕ} {p n : ℕ} (g : Ready ts p n) (h : mem (get_or ts p 0) lbrace ≡ true) {a b : List ℕ} {r : Read} (low : Reads sum ts (p + 1) n r a b) where
  pub brace_inside : p < length ts
  unfolding mem
  brace_inside = inside ts lbrace p refl h

  abbrev operator_sum : Ebnf Nonterminal → Ebnf Nonterminal
  operator_sum e = leaves comparisons kind.interval_operator · nt sum · e

  abbrev closing : Ebnf Nonterminal
  closing = tok rbrace · row_of kind.interval

  interval_low : Reading ts (phrase ts interval p) n a (operator_sum (operator_sum closing)) p r b
  interval_low = phrased low (operator h (start interval p g.within))

  pub low_refused : {k : ℕ} → r ≡ Refused k → Reads interval ts p n r a b
  low_refused e = reads interval g.within (refused_found e interval_low)

  module _ {q m : ℕ} (e : r ≡ At q m) {r₂ : Read} {c : List ℕ} (item : Compares ts q m r₂ b c) where
    interval_item : Reading ts (phrase ts interval p) n a (operator_sum closing) p r₂ c
    interval_item = item.goes.on (together (told e interval_low))

    pub item_refused : {k : ℕ} → r₂ ≡ Refused k → Reads interval ts p n r₂ a c
    item_refused e₂ = reads interval g.within (refused_found e₂ interval_item)

    module _ {q₂ m₂ : ℕ} (e₂ : r₂ ≡ At q₂ m₂) {r₃ : Read} {d : List ℕ} (high : Compares ts q₂ m₂ r₃ c d) where
      interval_high : Reading ts (phrase ts interval p) n a closing p r₃ d
      interval_high = high.goes.on (together (told e₂ interval_item))

      pub high_refused : {k : ℕ} → r₃ ≡ Refused k → Reads interval ts p n r₃ a d
      high_refused e₃ = reads interval g.within (refused_found e₃ interval_high)

      module _ {q₃ m₃ : ℕ} (e₃ : r₃ ≡ At q₃ m₃) {w : Read} (x : Expects 22 ts q₃ m₃ w) where
        interval_closed : Reading ts (phrase ts interval p) n a (row_of kind.interval) p w d
        interval_closed = by_token x (omega arith) interval_high_at
          where
            interval_high_at : Reading ts (phrase ts interval p) n a closing p (At q₃ m₃) d
            interval_high_at = told e₃ interval_high

        pub end_refused : {k : ℕ} → w ≡ Refused k → Reads interval ts p n w a d
        end_refused e₄ = reads interval g.within (refused_found e₄ interval_closed)

        pub interval_count : {q₄ m₄ : ℕ} → w ≡ At q₄ m₄ → m₄ ≤ 65536
        interval_count e₄ =
            let s = g.small in
            let s₂ = g.behind in
            let u = reads_at low e in
            let v = compares_at item e₂ in
            let y = compares_at high e₃ in
            let z = expect_goes x e₄ in
            omega arith

        pub interval_whole : {q₄ m₄ : ℕ} {z : List ℕ} → w ≡ At q₄ m₄ → z ≡ set d m₄ (word kind.interval p (m₄ + 1 - n)) → Reads interval ts p n (At q₄ (m₄ + 1)) a z
        interval_whole {z = z} e₄ y =
            let s = g.small in
            let s₂ = g.within in
            reads interval g.within (finish (by_row z (omega arith) (omega arith) (interval_count e₄) (omega arith) y (last (told e₄ interval_closed))))
