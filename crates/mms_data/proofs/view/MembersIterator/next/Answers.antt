use Rattle.std.proofs.Common.{rules}
use Rattle.mms_data.proofs.Front.{no_more}
use Rattle.mms_data.proofs.view.MembersIterator.next.Goals as goal

pub returns-then-is_empty-clause-steps : goal.returns-then-is_empty-clause-steps
returns-then-is_empty-clause-steps c = let none = no_more c.args.self.now.depth c.args.self.now.octets.now (search rules) in ((none, none), tt)
