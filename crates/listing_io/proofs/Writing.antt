-- What was written, and what is then to come, is what was to come; so all that is written is the listing.
use mathlib.Core.Path.{◌≡◌, refl, sym, ap, ◌∙◌, subst}
use mathlib.Core.List.{List, [], ◌++◌, append_assoc, append-nil}
use mathlib.Core.Logic.{⊎_elim}
use Prim.Native.Nat.{ℕ, ◌-◌, ◌≤◌, ◌<◌}
use native.Mathlib.Omega.{arith}
use borrow.Author.Tests.{lt-leb}
use lib.ListN.{length, take}
use Rattle.std.specs.Prelude.{Option, Some, None}
use Rattle.std.specs.Io.KnownBytes.{Appends}
use Rattle.relations.proofs.Select.{le_or}
use Rattle.records.specs.Rows.{answers}
use Rattle.lines.specs.Print.{table}
use Rattle.listing_parts.specs.declared.Place.{Place}
use Rattle.listing_parts.specs.declared.Listing.{Listing}
use Rattle.listing_parts.specs.Parts.{head_line, lines_from, start, Parts, FirstPart}
use Rattle.listing_parts.proofs.Joining.{part_joins, first_joins}
use Rattle.listing_io.specs.Written.{rest, all_lines}

appends_none : (a : Option (List ℕ)) → Appends a a []
appends_none None = tt
appends_none (Some xs) = sym (append-nil xs)

appends_more : (a b c : Option (List ℕ)) (xs ys : List ℕ) → Appends a b xs → Appends b c ys → Appends a c (xs ++ ys)
appends_more None b c xs ys p q = tt
appends_more (Some x) None c xs ys p q = absurd p
appends_more (Some x) (Some y) None xs ys p q = absurd q
appends_more (Some x) (Some y) (Some z) xs ys p q = q ∙ ap (λ (l : List ℕ). l ++ ys) p ∙ append_assoc x xs ys

-- ---- the loop over the parts: so much was written, and the lines from an answer and a node on are to come

pub record Writing (l : Listing) (was now : Option (List ℕ)) (from from_node line node : ℕ) : Type 0 where
  pub done : List ℕ
  pub wrote : Appends was now done
  pub left : done ++ rest l line node ≡ rest l from from_node

module _ {l : Listing} {from from_node : ℕ} where
  pub writing_starts : (was : Option (List ℕ)) → Writing l was was from from_node from from_node
  writing_starts was = record { done = []; wrote = appends_none was; left = refl }

  pub writing_goes_on : {was now then : Option (List ℕ)} {line node : ℕ} {before have : List ℕ} {r : Place} → Writing l was now from from_node line node
      → Parts (table l.columns) l.room.now (answers l.rows) l.rows.count before (record { at = 0; line = line; node = node }) have r
      → Appends now then (take r.at have) → Writing l was then from from_node r.line r.node
  writing_goes_on {was} {now} {then} {have = have} {r} w p a = record {
    done = w.done ++ take r.at have;
    wrote = appends_more was now then w.done (take r.at have) w.wrote a;
    left =
        append_assoc w.done (take r.at have) (rest l r.line r.node)
        ∙ ap (λ (x : List ℕ). w.done ++ x) (part_joins (table l.columns) l.room.now (answers l.rows) l.rows.count (omega arith) p)
        ∙ w.left;
  }

  pub writing_ends : {was now : Option (List ℕ)} {line node : ℕ} → Writing l was now from from_node line node → l.rows.count ≤ line
      → Appends was now (rest l from from_node)
  unfolding lines_from
  writing_ends {was} {now} {line} {node} w h =
      let none : l.rows.count - line ≡ 0 = omega arith in
      let over : rest l line node ≡ [] = ap (lines_from (table l.columns) l.room.now (answers l.rows) line node) none in
      subst (Appends was now) (sym (append-nil w.done) ∙ ap (λ (x : List ℕ). w.done ++ x) (sym over) ∙ w.left) w.wrote

-- ---- the first part, and the others behind it

first_fits : (l : Listing) (reply number : ℕ) {was have : List ℕ} {r : Place}
    → FirstPart (table l.columns) l.room.now (answers l.rows) reply number l.rows.count was have r → (r.at ≡ 0 → ⊥)
    → length (head_line reply number l.rows.count) ≤ length was
first_fits l reply number {was} {have} {r} p n = ⊎_elim
    (λ (h : length (head_line reply number l.rows.count) ≤ length was). h)
    (λ (h : length was < length (head_line reply number l.rows.count)).
    let none : r ≡ start = rw (lt-leb (length (head_line reply number l.rows.count)) (length was) h) at p.ends in
    absurd (n (ap (λ (x : Place). x.at) none)))
    (le_or (length (head_line reply number l.rows.count)) (length was))

pub all_written : (l : Listing) (reply number : ℕ) {was have : List ℕ} {r : Place} (a b c : Option (List ℕ))
    → FirstPart (table l.columns) l.room.now (answers l.rows) reply number l.rows.count was have r → (r.at ≡ 0 → ⊥)
    → Appends a b (take r.at have) → Appends b c (rest l r.line r.node) → Appends a c (all_lines l reply number)
all_written l reply number {have = have} {r} a b c p n q s =
    subst (Appends a c)
    (first_joins (table l.columns) l.room.now (answers l.rows) l.rows.count reply number (first_fits l reply number p n) p)
    (appends_more a b c (take r.at have) (rest l r.line r.node) q s)
