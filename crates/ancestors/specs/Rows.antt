-- Rows of bits in one column of words, and what the arcs of a graph add to them.
use Rattle.std.specs.Prelude.{Bool, true, cond, ◌&&◌, List, ℕ, zero, suc, ◌+◌, ◌-◌, ◌*◌, eqb, get_or, set}
use Rattle.std.specs.Int.Bits.{bit_or}
use Rattle.bit_rows.specs.Bits.{word, bit, with_bit}

-- numbers of 32 bits, the widest row, and where a row of such a rank and width may begin
abbrev pub word_count : ℕ
word_count = 4294967296

abbrev pub width_limit : ℕ
width_limit = 65536

abbrev pub offset_limit : ℕ
offset_limit = 281474976710656

-- the bits of k words added to as many others, the first word first
unfoldable pub merged : List ℕ → ℕ → ℕ → ℕ → List ℕ
merged rows into from zero = rows
merged rows into from (suc k) = let done = merged rows into from k in set done (into + k) (bit_or (get_or done (into + k) 0) (get_or done (from + k) 0))

-- the bits of k words are all among those of as many others
unfoldable pub contained : List ℕ → ℕ → ℕ → ℕ → Bool
contained rows into from zero = true
contained rows into from (suc k) = eqb (bit_or (get_or rows (into + k) 0) (get_or rows (from + k) 0)) (get_or rows (into + k) 0) && contained rows into from k

-- the bit of one rank in the row of another
abbrev pub place : ℕ → ℕ → ℕ → ℕ
place width rank other = rank * width * word + other

-- an arc from one rank to another: the bit of the other, and all bits of its row; in row 0 the bit alone
unfoldable pub arc_joined : ℕ → ℕ → ℕ → List ℕ → List ℕ
arc_joined width rank other rows = merged (with_bit (with_bit rows other) (place width rank other)) (rank * width) (other * width) width

-- it adds nothing
unfoldable pub arc_closed : ℕ → ℕ → ℕ → List ℕ → Bool
arc_closed width rank other rows = bit rows other && (bit rows (place width rank other) && contained rows (rank * width) (other * width) width)

module _ (to ranks : List ℕ) (width rank from : ℕ) where
  -- the rank to which arc k leads, from an arc on
  abbrev pub rank_led_to : ℕ → ℕ
  rank_led_to k = get_or ranks (get_or to (from + k) 0) 0

  -- k arcs of one rank
  unfoldable pub arcs_joined : ℕ → List ℕ → List ℕ
  arcs_joined zero rows = rows
  arcs_joined (suc k) rows = arc_joined width rank (rank_led_to k) (arcs_joined k rows)

  unfoldable pub arcs_closed : ℕ → List ℕ → Bool
  arcs_closed zero rows = true
  arcs_closed (suc k) rows = arc_closed width rank (rank_led_to k) rows && arcs_closed k rows

module _ (first to ranks : List ℕ) where
  abbrev pub arcs_of : ℕ → ℕ
  arcs_of v = get_or first (v + 1) 0 - get_or first v 0

  -- the arcs of a vertex; without a rank it has no row
  unfoldable pub vertex_joined : ℕ → ℕ → List ℕ → List ℕ
  vertex_joined width v rows = cond (eqb (get_or ranks v 0) 0) rows (arcs_joined to ranks width (get_or ranks v 0) (get_or first v 0) (arcs_of v) rows)

  unfoldable pub vertex_closed : ℕ → ℕ → List ℕ → Bool
  vertex_closed width v rows = cond (eqb (get_or ranks v 0) 0) true (arcs_closed to ranks width (get_or ranks v 0) (get_or first v 0) (arcs_of v) rows)

  -- the first p vertices of a column, in their order
  unfoldable pub vertices_joined : List ℕ → ℕ → ℕ → List ℕ → List ℕ
  vertices_joined order width zero rows = rows
  vertices_joined order width (suc p) rows = vertex_joined width (get_or order p 0) (vertices_joined order width p rows)

  -- the first n vertices
  unfoldable pub vertices_closed : ℕ → ℕ → List ℕ → Bool
  vertices_closed width zero rows = true
  vertices_closed width (suc n) rows = vertex_closed width n rows && vertices_closed width n rows
