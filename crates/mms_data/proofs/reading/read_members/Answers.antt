use Rattle.std.proofs.Common.{[], ◌∙◌, sym}
use Rattle.std.specs.Prelude.{slice_range}
use Rattle.mms_data.specs.Meaning.{left}
use Rattle.mms_data.proofs.Front.{one_value}
use Rattle.mms_data.proofs.NoMemory.{none_in, spells_none}
use Rattle.mms_data.proofs.reading.read_members.Goals as goal

pub returns-clause-only : goal.returns-clause-only
returns-clause-only g c ds s = c.in_ok-to_values.ensures.values ∙ one_value c.args.level c.requires.last (slice_range c.args.octets.now c.args.at c.args.end) (left c.members.result) ds c.members.ensures.spelled s

pub returns-clause-fault_only : goal.returns-clause-fault_only
returns-clause-fault_only g c f h = let wrong = sym c.in_ok-check_members.was ∙ c.check_members.ensures.fault_only f h in cc

pub returns-in_err-check_members-clause-none : goal.returns-in_err-check_members-clause-none
returns-in_err-check_members-clause-none g c =
    λ same. absurd (let wrong = sym c.in_err-check_members.was ∙ c.check_members.ensures.only [] (spells_none c.args.octets.now c.args.at c.args.end c.args.level same) in cc)

pub returns-in_err-to_values-clause-none : goal.returns-in_err-to_values-clause-none
returns-in_err-to_values-clause-none g c =
    λ same. absurd (let wrong = c.in_err-to_values.ensures.none (none_in c.args.octets.now c.args.at c.args.end c.args.level (left c.members.result) c.requires.last same c.members.ensures.spelled) in cc)
