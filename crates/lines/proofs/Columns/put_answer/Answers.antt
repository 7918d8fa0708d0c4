-- `lines::Columns::put_answer` meets its contract, by the kind of the record. Assumes nothing.
use Rattle.std.proofs.Common.{rules, arith}
use Rattle.lines.proofs.Pieces.{renamed}
use Rattle.lines.proofs.Lines.{prints_indeterminate, prints_integer, prints_logical, prints_binary, prints_item, prints_string, prints_end}
use Rattle.lines.specs.Print.{table}
use Rattle.lines.proofs.Columns.put_answer.Goals as goal

pub returns-in-0 : goal.returns-in-0
returns-in-0 c = renamed c.put_byte.ensures (prints_indeterminate (table c.args.self.now) c.args.room.now
    c.args.answer
    c.in-0.is)

pub returns-in-1 : goal.returns-in-1
returns-in-1 c = renamed c.put_integer.ensures (prints_integer (table c.args.self.now) c.args.room.now
    c.args.answer
    (search rules)
    c.in-1.is)

pub returns-in-2 : goal.returns-in-2
returns-in-2 c = renamed c.put_logical.ensures (prints_logical (table c.args.self.now) c.args.room.now
    c.args.answer
    (search rules)
    c.natural.ensures.0 c.in-2.is)

pub returns-in-3 : goal.returns-in-3
returns-in-3 c = renamed c.put_binary.ensures (prints_binary (table c.args.self.now) c.args.room.now
    c.args.answer
    (search rules)
    c.natural-in-3.ensures.0 c.in-3.is)

pub returns-in-4 : goal.returns-in-4
returns-in-4 c = renamed c.put_named.ensures (prints_item (table c.args.self.now) c.args.room.now
    c.args.answer
    (search rules)
    c.natural-in-4.ensures.0 c.in-4.is)

pub returns-in-5 : goal.returns-in-5
returns-in-5 c = renamed c.put_string.ensures (prints_string (table c.args.self.now) c.args.room.now
    c.args.answer
    (search rules)
    c.natural-in-5.ensures.0 c.in-5.is)

pub returns-in_default : goal.returns-in_default
returns-in_default c = renamed c.put_end.ensures (prints_end (table c.args.self.now) c.args.room.now
    c.args.answer (λ e. omega arith) (λ e. omega arith) (λ e. omega arith) (λ e. omega arith) (λ e. omega arith) (λ e. omega arith))
