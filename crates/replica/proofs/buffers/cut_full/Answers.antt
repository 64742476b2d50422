use Rattle.std.proofs.Common.{◌/◌, sym, subst}
use Rattle.replica.specs.Buffers.{AllFull}
use Rattle.replica.proofs.Buffering.{all-take, cut_last, last_of}
use Rattle.replica.proofs.buffers.cut_full.Goals as goal

pub returns-in-Some-clause-cut : goal.returns-in-Some-clause-cut
returns-in-Some-clause-cut c =
    cut_last c.args.full.now.items c.pop.new.self.items c.truncate.new.self.items c.in-Some.buffer c.truncate-in-Some.new.self c.args.count c.requires.all c.requires.within c.truncate.ensures.items c.in-Some.ensures.items c.truncate-in-Some.ensures

pub returns-in-Some-clause-all : goal.returns-in-Some-clause-all
returns-in-Some-clause-all c =
    let both = last_of c.args.full.now.items c.pop.new.self.items c.truncate.new.self.items c.in-Some.buffer (c.args.count / 65536) c.requires.within c.truncate.ensures.items c.in-Some.ensures.items in
    subst (AllFull 65536) (sym both.0) (all-take 65536 (c.args.count / 65536) c.args.full.now.items c.requires.all)
