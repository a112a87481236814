use Rattle.std.proofs.Common.{◌-◌, Ok, length, ap, sym, ◌∙◌, arith}
use Rattle.std.specs.Prelude.{slice_range}
use Rattle.mms_data.specs.Written.{written_all}
use Rattle.mms_data.proofs.Checked.{counted_there, spelled_there, there}
use Rattle.mms_data.proofs.reading.counted_members.Goals as goal

pub new-requires-clause-accepted : goal.new-requires-clause-accepted
new-requires-clause-accepted c = (_, spelled_there (17 - c.args.level) c.args.level c.requires.first (omega arith) c.args.at (slice_range c.args.octets.now c.args.at c.args.end) _ c.in_ok-count.ensures.exact)

pub new-requires-clause-stands : goal.new-requires-clause-stands
new-requires-clause-stands c = λ t. c.in_ok-count.ensures.written t _ (there (17 - c.args.level) c.args.level c.requires.first (omega arith) c.args.at _ _ c.in_ok-count.ensures.exact)

pub returns-clause-count : goal.returns-clause-count
returns-clause-count c = sym (ap length c.new.ensures.is ∙ counted_there (17 - c.args.level) c.args.level c.requires.first (omega arith) c.args.at _ _ c.in_ok-count.ensures.exact)

pub returns-clause-written : goal.returns-clause-written
returns-clause-written c = λ t. c.in_ok-count.ensures.written t _ (there (17 - c.args.level) c.args.level c.requires.first (omega arith) c.args.at _ _ c.in_ok-count.ensures.exact) ∙ ap written_all (sym c.new.ensures.is)

pub returns-clause-exact : goal.returns-clause-exact
returns-clause-exact c = there (17 - c.args.level) c.args.level c.requires.first (omega arith) c.args.at _ _ c.in_ok-count.ensures.exact ∙ ap (λ ds. Ok ds) (sym c.new.ensures.is)
