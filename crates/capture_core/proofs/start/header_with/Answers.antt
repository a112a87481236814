use Rattle.std.proofs.Common.{◌++◌, ◌∙◌, ap, refl}
use Rattle.capture_core.proofs.StartsRead.{joined}
use Rattle.capture_core.proofs.start.header_with.Goals as goal

pub returns : goal.returns
returns c =
    joined c.copy_from_slice.new.self c.copy_from_slice-2.new.self _ 4 20 c.copy_from_slice.ensures.len refl
    ∙ ap (λ l. l ++ c.copy_from_slice-2.new.self) c.copy_from_slice.ensures.after ∙ ap (λ l. c.args.magic.now ++ l) c.copy_from_slice-2.ensures.after
