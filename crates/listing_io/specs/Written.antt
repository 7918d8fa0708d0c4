-- What is written of a listing.
use Rattle.std.specs.Prelude.{List, ◌++◌, ℕ, ◌-◌}
use Rattle.records.specs.Rows.{answers}
use Rattle.lines.specs.Print.{table}
use Rattle.listing_parts.specs.declared.Listing.{Listing}
use Rattle.listing_parts.specs.Parts.{head_line, lines_from}

-- the lines from answer i and a node on
abbrev pub rest : Listing → ℕ → ℕ → List ℕ
rest l i n = lines_from (table l.columns) l.room.now (answers l.rows) i n (l.rows.count - i)

-- the first line, and those of all constants
abbrev pub all_lines : Listing → ℕ → ℕ → List ℕ
all_lines l reply number =
    head_line reply number l.rows.count ++ lines_from (table l.columns) l.room.now (answers l.rows) 0 0 l.rows.count
