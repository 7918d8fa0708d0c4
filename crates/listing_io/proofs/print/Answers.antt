-- `listing_io::print` meets its contract: the first part, and the others behind it. Assumes nothing.
use Rattle.std.proofs.lemmas.Result.{on_ok_weaker}
use Rattle.listing_io.proofs.Writing.{all_written}
use Rattle.listing_io.proofs.print.Goals as goal

pub returns : goal.returns
returns g c = on_ok_weaker c.print_rest.result (all_written c.args.listing.now c.args.reply c.args.number _ _ _ c.first_part-first.ensures c.if-end-eq0.false
    c.in_ok-write_all.ensures.bytes) c.print_rest.ensures
