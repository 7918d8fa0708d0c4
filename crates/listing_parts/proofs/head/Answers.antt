-- `listing_parts::head` meets its contract: the reply chooses the line. Assumes nothing.
use Rattle.listing_parts.proofs.Parting.{head_accepted, head_refused}
use Rattle.listing_parts.proofs.head.Goals as goal

pub returns-then-reply-eq-ACCEPTED : goal.returns-then-reply-eq-ACCEPTED
returns-then-reply-eq-ACCEPTED c = head_accepted c.args.reply
    c.args.number c.args.constants
    c.if-reply-eq-ACCEPTED.true c.accepted.ensures

pub returns-else-reply-eq-ACCEPTED : goal.returns-else-reply-eq-ACCEPTED
returns-else-reply-eq-ACCEPTED c = head_refused c.args.reply
    c.args.number c.args.constants
    c.if-reply-eq-ACCEPTED.false c.refused.ensures
