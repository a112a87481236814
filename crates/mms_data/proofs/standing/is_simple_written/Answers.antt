use Rattle.std.proofs.Common.{rules, ◌∙◌}
use Rattle.ber_core.specs.Length.{AreOctets}
use Rattle.mms_data.proofs.AsWritten.{bits_are, kept}
use Rattle.mms_data.proofs.standing.is_simple_written.Goals as goal

pub returns-in-0-to-7 : goal.returns-in-0-to-7
returns-in-0-to-7 c = λ t v k h. bits_are v c.args.contents.now (k ∙ c.in-BitString.is) c.in-0-to-7.len_at_least h t

pub returns-in-FloatingPoint : goal.returns-in-FloatingPoint
returns-in-FloatingPoint c = λ t v k h.
    let small : AreOctets c.args.contents.now = λ i. search rules in
    kept c.args.kind c.in-FloatingPoint.is v c.args.contents.now small k h
