use Rattle.std.proofs.Common.{ℕ, ◌++◌, ◌∙◌, List, ap, sym, subst, arith}
use Rattle.std.proofs.lemmas.List.{length-append}
use Rattle.list_core.specs.declared.device.InputEnd.TheVariants.{Open}
use Rattle.capture_core.specs.Blocks.{section_header}
use Rattle.capture_core.specs.computed.OneRead.{ReadsFront, section_told}
use Rattle.capture_core.specs.declared.capture_fault.CaptureCause.TheVariants as cause
use Rattle.capture_core.proofs.StartsRead.{section_few}
use Rattle.capture_core.proofs.Fronts.{front_behind}
use Rattle.capture_core.proofs.start.read_first_section.Goals as goal

pub returns : goal.returns
returns g c =
    let t = c.in-Ok.ensures in
    let magic = c.args.magic.now in
    let head = c.head_with-head.ensures ∙ ap (λ l. magic ++ l) (sym t.5) in
    front_behind _ _ magic t.0 _ _ _ _ _ _ t.2 t.3 t.4 (λ front few. section_few Open 0 cause.CaptureHeader (magic ++ front) (simp length-append (omega (arith, few, t.1, c.requires))))
    (subst
    (λ (l : List ℕ). ReadsFront (λ z octets. section_header z 0 cause.CaptureHeader octets) l (g.R.Source.left c.take.new.reader) (g.R.Source.ending c.take.new.reader) (section_told c.read_section.result) (g.R.Source.left c.read_section.new.reader) (g.R.Source.ending c.read_section.new.reader))
    head c.read_section.ensures)
