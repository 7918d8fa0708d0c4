-- The listing in parts: the lines that are to come from a place on, as many of them as a buffer holds, and the place behind these.
use Rattle.std.specs.Prelude.{◌≡◌, cond, List, [], ◌++◌, ℕ, zero, suc, ◌+◌, ◌-◌, ◌≤◌, min, eqb, leb, length, get_or, Result}
use Rattle.std.proofs.lemmas.List.Edits.{sets}
use Rattle.relations.specs.Select.{first_from}
use Rattle.express.specs.Syntax.NodeKind.{constant}
use Rattle.express.specs.Syntax.Tree.{Table, count, is}
use Rattle.express.specs.Whole.Listing.{refused_line, accepted_line, answer_line}
use Rattle.records.specs.declared.Answer.{Answer}
use Rattle.records.specs.Rows.{zeros}
use Rattle.lines.specs.declared.Short.{Short}
use Rattle.lines.specs.Print.{Prints, record_answer}
use Rattle.listing_parts.specs.declared.Place.{Place}

-- R13, R14: the first line, by the reply
abbrev pub head_line : ℕ → ℕ → ℕ → List ℕ
head_line reply number constants = cond (eqb reply 0) (accepted_line constants) (refused_line reply number)

-- the first constant from a node on, or the number of nodes; and the node from which on the others come
abbrev pub next : Table → ℕ → ℕ
next t n = first_from (is t constant) n (count t - n)

abbrev pub after : Table → ℕ → ℕ
after t n = min (next t n + 1) (count t)

-- R14: the line of answer i, of the constant that comes next; the answers are records, their strings in the room
abbrev pub next_line : Table → List ℕ → List Answer → ℕ → ℕ → List ℕ
next_line t room rs i n = answer_line t (next t n) (record_answer room (get_or rs i zeros))

-- THE LINES TO COME: d of them, from answer i and a node on
unfoldable pub lines_from : Table → List ℕ → List Answer → ℕ → ℕ → ℕ → List ℕ
lines_from t room rs i n zero = []
lines_from t room rs i n (suc d) = next_line t room rs i n ++ lines_from t room rs (i + 1) (after t n) d

-- WHERE A PART ENDS: before the first of d lines that a buffer of m bytes does not hold whole
unfoldable pub part_end : Table → List ℕ → List Answer → ℕ → ℕ → Place → Place
part_end t room rs m zero p = p
part_end t room rs m (suc d) p =
    let end = p.at + length (next_line t room rs p.line p.node) in
    let more = part_end t room rs m d (record { at = end; line = p.line + 1; node = after t p.node }) in
    cond (leb end m) more p

-- the line of answer i, of the constant at a node
pub record PrintsAnswer (t : Table) (room : List ℕ) (rs : List Answer) (i node : ℕ) (was have : List ℕ) (r : Result ℕ Short) : Type 0 where
  pub prints : Prints (answer_line t node (record_answer room (get_or rs i zeros))) was have r

-- a part: from an index of the buffer on it holds what is to come, as far as it goes
pub record Parts (t : Table) (room : List ℕ) (rs : List Answer) (constants : ℕ) (was : List ℕ) (p : Place) (have : List ℕ) (r : Place) : Type 0 where
  pub is : have ≡ sets was p.at (lines_from t room rs p.line p.node (constants - p.line))
  pub ends : r ≡ part_end t room rs (length was) (constants - p.line) p
  pub within : r.at ≤ length have

-- where the first part ends: nowhere, if not even the first line fits
abbrev pub start : Place
start = record { at = 0; line = 0; node = 0 }

abbrev pub first_end : Table → List ℕ → List Answer → ℕ → ℕ → ℕ → Place
first_end t room rs constants m n = let end = part_end t room rs m constants (record { at = n; line = 0; node = 0 }) in cond (leb n m) end start

-- the first part: the first line, and the lines of the constants from the first on
pub record FirstPart (t : Table) (room : List ℕ) (rs : List Answer) (reply number constants : ℕ) (was have : List ℕ) (r : Place) : Type 0 where
  pub is : have ≡ sets was 0 (head_line reply number constants ++ lines_from t room rs 0 0 constants)
  pub ends : r ≡ first_end t room rs constants (length was) (length (head_line reply number constants))
  pub within : r.at ≤ length have
