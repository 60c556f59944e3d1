use Rattle.pfx_kinds.specs.OwnBytes.{own_fits-since}
use Rattle.pfx_kinds.specs.OwnKind.{own_from-is}
use Rattle.pfx_kinds.proofs.own.Own.count_from.Goals as goal

pub invariant_of-self : goal.invariant_of-self
invariant_of-self c =
    let old = c.args.self.now in
    record { fits = own_fits-since old.answered old.since old.text_length old.text c.args.since old.fits c.requires }

pub returns : goal.returns
returns c = own_from-is c.args.since c.args.self.now _
