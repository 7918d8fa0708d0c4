-- Laws of the pieces of a line: one after the other, and the loop that stores the bytes of a text.
use mathlib.Core.Path.{◌≡◌, refl, sym, ap, ◌∙◌, subst}
use mathlib.Core.List.{List, [], ◌∷◌, ◌++◌, map}
use mathlib.Core.Logic.{⊎_elim}
use Prim.Native.Nat.{ℕ, ◌+◌, ◌-◌, ◌≤◌, ◌<◌, ◌^◌, min}
use native.Mathlib.Numerals.{add-one}
use native.Mathlib.Omega.{arith}
use borrow.Author.Tests.{lt-ltb, le-ltb, le-leb, lt-leb}
use Rattle.std.specs.Char.{to_ascii_lowercase}
use lib.ListN.{length, get_or, set, take, drop, length-append, length-map, length-drop, drop_of_length-le}
use lib.Seq.{sets, length-sets, length-take-le, take-suc, take-length, take_all, take-nil}
use Rattle.columns.proofs.Laws.{sets_append, sets_snoc}
use Rattle.relations.proofs.Select.{le_or}
use Rattle.express.specs.Tokens.Bytes.{lower}
use Rattle.lines.specs.Piece.{Stored, Puts}

-- one piece after the other is the two joined
pub then : {was p mid q have : List ℕ} {at m next : ℕ} → Stored was at p mid m → Stored mid m q have next → Stored was at (p ++ q) have next
then {was} {p} {mid} {q} {have} {at} {m} {next} a b = record {
  is = b.is ∙ ap (λ (c : List ℕ). sets c m q) a.is ∙ ap (λ (k : ℕ). sets (sets was at p) k q) a.moves ∙ sym (sets_append was at p q);
  moves = omega (arith, a.moves, b.moves, length-append p q);
}

-- the same piece by another name, and short enough
pub spelled : {was p have : List ℕ} {at next : ℕ} (q : List ℕ) → Stored was at p have next → p ≡ q → length q ≤ 2 ^ 32 → Puts was at q have next
spelled {was} {p} {have} {at} {next} q s e h =
    let moved : next ≡ at + length q = s.moves ∙ ap (λ (l : List ℕ). at + length l) e in
    record { put = record { is = s.is ∙ ap (sets was at) e; moves = moved }; near = omega arith }

pub renamed : {was p q have : List ℕ} {at next : ℕ} → Puts was at p have next → p ≡ q → Puts was at q have next
renamed {was} {p} {q} {have} {at} {next} s e = subst (λ (l : List ℕ). Puts was at l have next) e s

pub kept : {was piece have : List ℕ} {at next : ℕ} → Stored was at piece have next → length have ≡ length was
kept {was} {piece} {have} {at} s = ap length s.is ∙ length-sets was at piece

-- ---- a loop that stores what f makes of the bytes of a text: i of them are stored

pub record Copying (f : ℕ → ℕ) (text was : List ℕ) (at : ℕ) (have : List ℕ) (i : ℕ) : Type 0 where
  pub within : i ≤ length text
  pub is : have ≡ sets was at (map f (take i text))

map_snoc : (f : ℕ → ℕ) (xs : List ℕ) (x : ℕ) → map f (xs ++ (x ∷ [])) ≡ map f xs ++ (f x ∷ [])
map_snoc f [] x = refl
map_snoc f (y ∷ xs) x = ap (λ (l : List ℕ). f y ∷ l) (map_snoc f xs x)

module _ {f : ℕ → ℕ} {text was : List ℕ} {at : ℕ} where
  pub copying_starts : Copying f text was at was 0
  copying_starts = record { within = omega arith; is = refl }

  pub copying_goes_on : {have now : List ℕ} {i b : ℕ} → i < length text → Copying f text was at have i → now ≡ set have (at + i) b
      → b ≡ f (get_or text i 0) → Copying f text was at now (i + 1)
  copying_goes_on {have} {now} {i} {b} h k set_is e = record {
    within = omega arith;
    is =
        let so_far : length (map f (take i text)) ≡ i = length-map (take i text) f ∙ length-take-le i text k.within in
        rw (
          add-one,
          take-suc text i 0 h,
          map_snoc f (take i text) (get_or text i 0),
          sets_snoc was at (map f (take i text)) (f (get_or text i 0)),
          so_far,
          set_is,
          e,
          k.is,
        );
  }

  pub copying_ends : {have : List ℕ} {i : ℕ} → length text ≤ i → Copying f text was at have i → Stored was at (map f text) have (at + length text)
  copying_ends {have} {i} h k =
      let all : i ≡ length text = omega (arith, k.within) in
      record {
        is = k.is ∙ ap (λ (n : ℕ). sets was at (map f (take n text))) all ∙ ap (λ (l : List ℕ). sets was at (map f l)) (take-length text);
        moves = omega (arith, length-map text f);
      }

  pub copying_kept : {have : List ℕ} {i : ℕ} → Copying f text was at have i → length have ≡ length was
  copying_kept {have} {i} k = ap length k.is ∙ length-sets was at (map f (take i text))

-- bytes as they are
abbrev pub same : ℕ → ℕ
same b = b

map_same : (xs : List ℕ) → map same xs ≡ xs
map_same [] = refl
map_same (x ∷ xs) = ap (λ (l : List ℕ). x ∷ l) (map_same xs)

pub copied : {text was have : List ℕ} {at i : ℕ} → length text ≤ 2 ^ 32 → length text ≤ i → Copying same text was at have i → Puts was at text have (at + length text)
copied {text} short h k = spelled text (copying_ends h k) (map_same text) short

pub lowered : (b : ℕ) → to_ascii_lowercase b ≡ lower b
unfolding lower
lowered b = ⊎_elim
    (λ (h : 65 ≤ b). ⊎_elim
    (λ (k : b ≤ 90). rw (le-ltb b 65 h, lt-ltb b 91 (omega arith), le-leb 65 b h, le-leb b 90 k))
    (λ (k : 90 < b). rw (le-ltb b 65 h, le-ltb b 91 (omega arith), le-leb 65 b h, lt-leb b 90 k)) (le_or b 90))
    (λ (h : b < 65). rw (lt-ltb b 65 h, lt-leb 65 b h)) (le_or 65 b)

pub lower_copied : {text was have : List ℕ} {at i : ℕ} → length text ≤ 2 ^ 32 → length text ≤ i → Copying lower text was at have i
    → Puts was at (map lower text) have (at + length text)
lower_copied {text} short h k = spelled (map lower text) (copying_ends h k) refl (omega (arith, length-map text lower))

-- ---- a part of a text, by its first byte and its length, both within the text

take_within : (n : ℕ) (xs : List ℕ) → take (min n (length xs)) xs ≡ take n xs
take_within n xs = ⊎_elim
    (λ (h : n ≤ length xs). let all : min n (length xs) ≡ n = omega arith in rw all)
    (λ (h : length xs < n).
    let all : min n (length xs) ≡ length xs = omega arith in rw all (take-length xs ∙ sym (take_all n xs (omega arith))))
    (le_or n (length xs))

pub part_is : (text : List ℕ) (start n first m : ℕ) → first ≡ min start (length text) → m ≡ min n (length text - first)
    → take (first + m - first) (drop first text) ≡ take n (drop start text)
part_is text start n first m e d = ⊎_elim
    (λ (h : start ≤ length text).
    let here : first ≡ start = omega arith in
    let size : first + m - first ≡ min n (length (drop start text)) = omega (arith, length-drop start text) in
    rw (size, here) (take_within n (drop start text)))
    (λ (h : length text < start).
    let here : length text ≤ first = omega arith in
    let none : first + m - first ≡ 0 = omega arith in
    rw (none, drop_of_length-le text {i = start} (omega arith)) (sym (take-nil n)))
    (le_or start (length text))

pub put_part : (text : List ℕ) (start n first m : ℕ) {was have : List ℕ} {at next : ℕ} → Puts was at (map lower (take (first + m - first) (drop first text))) have next
    → first ≡ min start (length text) → m ≡ min n (length text - first) → Puts was at (map lower (take n (drop start text))) have next
put_part text start n first m p e d = renamed p (ap (map lower) (part_is text start n first m e d))
